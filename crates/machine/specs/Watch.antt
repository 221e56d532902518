-- What a debugger watches: which steps are enabled, and whether any hart runs.
use Rattle.std.specs.Prelude.{ℕ, ◌≡◌, Bool, ◌&&◌, false, not, nat_lt, Option, Some, None, is_some}
use Rattle.std.specs.Option.{option_map_or}
use Rattle.words.specs.declared.entry.Step.{Step}
use Rattle.words.specs.declared.entry.Step.TheVariants.{Core, Evict, Deliver}
use Rattle.protocol.specs.Messages.{Message, receiver_of}
use Rattle.protocol.specs.Caches.{Geometry}
use Rattle.protocol.specs.Core.{core_row}
use Rattle.protocol.specs.Evict.{evict_row}
use Rattle.protocol.specs.Machine.{Machine, MayNameIn}
use Rattle.machine.specs.States.{State, shown, setting_of}
use Rattle.machine.specs.Making.{victims}
use Rattle.machine.specs.Turns.{NoneRuns, is_held}

-- no hart runs
abbrev pub IsOver : ℕ → State → Type 0
IsOver sets m = NoneRuns (shown sets m).harts 0 (setting_of m).count

-- whether a message has where to arrive: its hart is there, or the directory doesn't hold it
abbrev pub arrives : Machine → Message → Option ℕ → Bool
arrives w m (Some i) = nat_lt i w.setting.count
arrives w m None = not (is_held w m)

-- whether a row of the protocol applies to a step, where these victims would be evicted
abbrev pub applies : (ℕ → Option ℕ) → Step → Machine → Bool
applies victim (Core i) w = nat_lt i w.setting.count && is_some (core_row w.setting i w.stamps victim (w.harts i))
applies victim (Evict i b) w = nat_lt i w.setting.count && is_some (evict_row i b (w.harts i))
applies victim (Deliver number) w = option_map_or (λ m. arrives w m (receiver_of m)) (w.net number) false

-- whether a step is enabled, with victims that the hart's cache may name
abbrev pub IsEnabled : Geometry → Machine → Step → Bool → Type 0
IsEnabled g w step enabled = (victim : ℕ → Option ℕ) × MayNameIn g w step victim × (enabled ≡ applies victim step w)

-- the same with the victims that it does name
abbrev pub IsEnabledByRule : Geometry → State → Step → Bool → Type 0
IsEnabledByRule g m step enabled = MayNameIn g (shown g.sets m) step (victims g.sets m step) × (enabled ≡ applies (victims g.sets m step) step (shown g.sets m))
