-- Copies of what a state has.
use Rattle.std.proofs.Common.{◌≡◌, ℕ, List, ap}
use Rattle.std.specs.Option.{unwrap_or}
use Rattle.std.specs.Ordering.{nat_cmp}
use Rattle.std.specs.BTreeMap.{get}
use Rattle.loader.specs.Memory.{mem_of}
use Rattle.outcomes.specs.declared.memory.Memory.{Memory}
use Rattle.outcomes.specs.Harts.{mem_at}

-- what memory holds is known by what differs from the bytes that it began with
pub same_memory : (image : List ℕ) (m n : Memory) (a : ℕ) → m.bytes.entries ≡ n.bytes.entries → mem_at image m a ≡ mem_at image n a
same_memory image m n a e = let found : get nat_cmp m.bytes a ≡ get nat_cmp n.bytes a = cc in ap (λ o. unwrap_or o (mem_of image a)) found
