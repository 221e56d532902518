-- What a transaction did, block by block, as maps over blocks and addresses.
use Rattle.std.specs.Prelude.{ℕ, Bool, false, cond, nat_lt, ◌==◌, ◌&&◌, ◌/◌, ◌%◌, Option, Some, None, List}
use Rattle.std.specs.Option.{option_map_or, option_and_then, unwrap_or}
use Rattle.std.specs.List.{slice_index_or}
use Rattle.std.specs.Ordering.{nat_cmp}
use Rattle.std.specs.BTreeMap.{get}
use Rattle.table.specs.declared.effect.MemoryAct.{MemoryAct}
use Rattle.words.specs.Bytes.{bytes_in, byte_of}
use Rattle.flat.specs.Bytes.{laid}
use Rattle.outcomes.specs.declared.overlay.Overlay.{Overlay}

-- the byte that a footprint has at a place in its block, if it was written
abbrev pub byte_at : List (Option ℕ) → ℕ → Option ℕ
byte_at bytes k = slice_index_or bytes k None

-- whether the block was read
abbrev pub reads_in : Overlay → ℕ → Bool
reads_in o b = option_map_or (λ p. p.read) (get nat_cmp o.blocks b) false

-- whether the block was written
abbrev pub writes_in : Overlay → ℕ → Bool
writes_in o b = option_map_or (λ p. p.written) (get nat_cmp o.blocks b) false

-- the byte that was written to an address, if one was
abbrev pub byte_over : Overlay → ℕ → Option ℕ
byte_over o a = option_and_then (λ p. byte_at p.bytes (a % 32)) (get nat_cmp o.blocks (a / 32))

-- the bytes over memory after a store of a number
abbrev pub bytes_put : MemoryAct → Option ℕ → (ℕ → Option ℕ) → ℕ → Option ℕ
bytes_put m None old a = old a
bytes_put m (Some v) old a = laid m.addr (bytes_in m.width) (λ k. Some (byte_of v k)) old a

-- what is written beyond memory doesn't count
abbrev pub within : ℕ → (ℕ → Option ℕ) → ℕ → Option ℕ
within size writes a = cond (nat_lt a size) (writes a) None

-- memory of a size, with the first n bytes of a block laid over it where they were written
abbrev pub block_laid : ℕ → ℕ → List (Option ℕ) → ℕ → (ℕ → ℕ) → ℕ → ℕ
block_laid size b bytes n mem a = cond ((a / 32 == b) && nat_lt (a % 32) n) (unwrap_or (within size (λ a. byte_at bytes (a % 32)) a) (mem a)) (mem a)
