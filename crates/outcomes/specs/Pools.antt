-- The states of a search as flat states, by the values that a pool has.
use Rattle.std.specs.Prelude.{ℕ, ◌≡◌, ◌<◌, ◌≤◌, Option, Some, None, List, length, slice_get, slice_index, take}
use Rattle.std.specs.Option.{option_map_or}
use Rattle.flat.specs.State.{Setting, Flat, idle}
use Rattle.outcomes.specs.declared.hart.Hart.{Hart}
use Rattle.outcomes.specs.declared.memory.Memory.{Memory}
use Rattle.outcomes.specs.declared.reservations.Reservations.{Reservations}
use Rattle.outcomes.specs.declared.pool.State.{State}
use Rattle.outcomes.specs.declared.pool.Pool.{Pool}
use Rattle.outcomes.specs.Harts.{mem_at, hart_of}
use Rattle.outcomes.specs.Standings.{hart_in}
use Rattle.outcomes.specs.Reservations.{reserved_of}

-- the memory under a number, where memory began with these bytes
abbrev pub memory_in : List ℕ → List Memory → ℕ → ℕ → ℕ
memory_in image memories n a = option_map_or (λ m. mem_at image m a) (slice_get memories n) 0

-- a state of a search as a flat state
abbrev pub flat_in : Setting → List ℕ → Pool → State → Flat
flat_in s image p x = record {
  setting = s;
  mem = λ a. memory_in image p.memories.keys x.memory a;
  hart = λ i. option_map_or (hart_of (length image)) (hart_in p.harts.keys (take s.count x.harts) i) idle;
}

-- the block that each hart has reserved in it
abbrev pub reserved_in : Pool → State → ℕ → Option ℕ
reserved_in p x i = option_map_or (λ r. reserved_of r i) (slice_get p.reservations.keys x.reserved) None

-- a flat state with another memory
abbrev pub with_mem : Flat → (ℕ → ℕ) → Flat
with_mem f mem = record f { mem = λ a. mem a }

-- the pool has all that a state of so many harts names
pub record IsWithin (count : ℕ) (p : Pool) (x : State) : Type 0 where
  pub full : count ≤ length x.harts
  pub harts : (i : ℕ) → i < count → slice_index x.harts i < length p.harts.keys
  pub memory : x.memory < length p.memories.keys
  pub reserved : x.reserved < length p.reservations.keys

-- what the pool had under a number it still has there
pub record Grows (old new : Pool) : Type 0 where
  pub harts : (n : ℕ) (h : Hart) → slice_get old.harts.keys n ≡ Some h → slice_get new.harts.keys n ≡ Some h
  pub memories : (n : ℕ) (m : Memory) → slice_get old.memories.keys n ≡ Some m → slice_get new.memories.keys n ≡ Some m
  pub reservations : (n : ℕ) (r : Reservations) → slice_get old.reservations.keys n ≡ Some r → slice_get new.reservations.keys n ≡ Some r
