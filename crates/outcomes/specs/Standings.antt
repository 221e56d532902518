-- A state of a search as a flat state.
use Rattle.std.specs.Prelude.{ℕ, ◌≡◌, ◌≢◌, Option, Some, None, Ok, Err, List, length, slice_get}
use Rattle.std.specs.Option.{option_map_or, option_and_then}
use Rattle.words.specs.declared.cause.Status.TheVariants.{Running}
use Rattle.table.specs.Program.{word_at}
use Rattle.flat.specs.State.{Setting, FlatHart, Flat, idle}
use Rattle.flat.specs.Causes.{next_of}
use Rattle.flat.specs.Bytes.{put_at}
use Rattle.outcomes.specs.declared.hart.Hart.{Hart}
use Rattle.outcomes.specs.declared.scene.Scene.{Scene}
use Rattle.outcomes.specs.declared.scene.NextMove.{NextMove}
use Rattle.outcomes.specs.declared.scene.NextMove.TheVariants.{Idle, Stops, Goes}
use Rattle.outcomes.specs.declared.standing.Standing.{Standing}
use Rattle.outcomes.specs.declared.change.Change.{Change}
use Rattle.outcomes.specs.Harts.{mem_at, mem_after, hart_of}

abbrev pub setting_of : Scene → Setting
setting_of s = record { segments = s.program.now.segments; size = length s.image.now; count = s.count }

-- the hart under one of these numbers, if there is one
abbrev pub hart_in : List Hart → List ℕ → ℕ → Option Hart
hart_in pool ids i = option_and_then (slice_get pool) (slice_get ids i)

-- the flat state
abbrev pub flat_of : Standing → Flat
flat_of s = record {
  setting = setting_of s.scene;
  mem = λ a. mem_at s.scene.image.now s.memory.now a;
  hart = λ i. option_map_or (hart_of (length s.scene.image.now)) (hart_in s.pool.now s.ids.now i) idle;
}

-- a flat state belongs to the state of a search
abbrev pub Belongs : Flat → Standing → Type 0
Belongs f s = f ≡ flat_of s

-- what a hart is about to do: nothing, since it doesn't run; stop for a cause; or go on by the effect of its word
abbrev pub IsNextMove : Setting → FlatHart → NextMove → Type 0
IsNextMove s h Idle = h.status ≢ Running
IsNextMove s h (Stops c) = (h.status ≡ Running) × (next_of s h ≡ Err c)
IsNextMove s h (Goes word e) = (h.status ≡ Running) × (word_at s.segments h.pc ≡ Some word) × (next_of s h ≡ Ok e)

-- the flat state after a change
abbrev pub changed : List ℕ → Flat → Change → Flat
changed image f c = record f {
  mem = λ a. mem_after image c.memory f.mem a;
  hart = put_at c.id (hart_of (length image) c.hart) f.hart;
}
