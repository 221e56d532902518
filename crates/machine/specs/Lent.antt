-- A hart that is lent out: it retires words by itself, away from its machine, and comes back.
use Rattle.std.specs.Prelude.{ℕ, ◌≡◌, List, [], ◌∷◌, length, Option, Some, slice_get, slice_set}
use Rattle.std.specs.Option.{option_map, option_map_or}
use Rattle.words.specs.declared.entry.Entry.{Entry}
use Rattle.table.specs.Program.{Segment}
use Rattle.hart.specs.declared.reply.Local.TheVariants.{Retired}
use Rattle.hart.specs.Parts.{Parts}
use Rattle.hart.specs.Places.{KeepsWays}
use Rattle.hart.specs.Staying.{StaysPut}
use Rattle.hart.specs.Rows.{setting_of}
use Rattle.hart.specs.Locals.{FollowsAlone}
use Rattle.machine.specs.States.{State}

-- hart i, if it is one
abbrev pub hart_if : State → ℕ → Option Parts
hart_if m i = option_map (λ s. s.hart) (slice_get m.seats i)

-- the machine with another hart in the seat of hart i; what the seat's hart has put out stays
abbrev pub with_hart : State → ℕ → Parts → State
with_hart m i h = record m { seats = option_map_or (λ s. slice_set m.seats i (record s { hart = h })) (slice_get m.seats i) m.seats }

-- a hart retires a word of a program with these segments by itself, with this entry, and is then the other; its place stays
pub record RetiresAlone (sets : ℕ) (segments : List Segment) (old : Parts) (e : Entry) (new : Parts) : Type 0 where
  pub alone : FollowsAlone sets (setting_of segments old) old new (Retired e)
  pub stays : StaysPut old new
  pub ways : KeepsWays sets old.cache new.cache

-- a hart retires words by itself, one after another, with these entries, and is then the other
abbrev pub RunsAlone : ℕ → List Segment → Parts → List Entry → Parts → Type 0
RunsAlone sets segments old [] new = new ≡ old
RunsAlone sets segments old (e ∷ es) new = (next : Parts) × RetiresAlone sets segments old e next × RunsAlone sets segments next es new

-- so many words retired by itself make of hart i this one
abbrev pub ComesBack : ℕ → State → ℕ → ℕ → Parts → Type 0
ComesBack sets m i k new = (old : Parts) × (es : List Entry) × (hart_if m i ≡ Some old) × RunsAlone sets m.program.segments old es new × (length es ≡ k)
