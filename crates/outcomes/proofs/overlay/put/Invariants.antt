use Rattle.std.proofs.Common.{◌≡◌, ℕ, Some}
use Rattle.words.specs.Bytes.{byte_of}
use Rattle.flat.specs.Bytes.{laid}
use Rattle.outcomes.specs.Overlays.{byte_at}
use Rattle.outcomes.proofs.overlay.put.Given as goal

abbrev pub invariant-loop-n : goal.invariant-loop-n
invariant-loop-n l = (k : ℕ) → byte_at l.bytes k ≡ laid l.place l.n (λ n. Some (byte_of l.value n)) (byte_at l.fn.bytes) k
