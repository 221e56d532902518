-- The choices of a list that a run has made, and how it goes on from them.
use Rattle.std.specs.Prelude.{ℕ, ◌≡◌, ◌<◌, ◌≤◌, ◌+◌, ◌-◌, ◌++◌, List, length, drop, Option}
use Rattle.std.specs.List.{FoldsTo}
use Rattle.words.specs.declared.entry.Entry.{Entry}
use Rattle.words.specs.declared.entry.Step.{Step}
use Rattle.protocol.specs.Caches.{Geometry}
use Rattle.protocol.specs.Machine.{Runs}
use Rattle.machine.specs.States.{State, setting_of, shown}
use Rattle.schedule.specs.declared.choices.Choice.{Choice}
use Rattle.schedule.specs.Moments.{Moment, entries_of}
use Rattle.schedule.specs.Observed.{Sight, joined}
use Rattle.schedule.specs.Runs.{FollowsThen}

-- some steps of the protocol's machine give these entries
abbrev pub GivesAll : Geometry → State → List Entry → State → Type 0
GivesAll g v es w = (steps : List Step) × Runs g (shown g.sets v) steps es (shown g.sets w)

-- k steps of a list were made with these moments, and the last core step was this hart's: what is made by further steps is made by all, whatever comes behind the list
pub record HasMade (g : Geometry) (all : List Choice) (k : ℕ) (v w : State) (after : ℕ) (ms : List Moment) : Type 0 where
  pub goes_on : (r : Option (List Choice)) (m : ℕ) (more : List Moment) (z : State) → FollowsThen r g (drop k all) m w after more z → FollowsThen r g all (k + m) v ((setting_of v).count - 1) (ms ++ more) z
  pub gives : GivesAll g v (entries_of ms) w

-- the same, and their moments were seen
abbrev pub HasSeen : {L : Type 0} → Sight L → Geometry → List Choice → ℕ → State → State → ℕ → L → L → Type 0
HasSeen saw g all k v w after x y = (groups : List (List Moment)) × HasMade g all k v w after (joined groups) × FoldsTo saw x groups y

-- as many choices of a list were made as n steps allow: all of them where steps are left
abbrev pub HasBegun : {L : Type 0} → Sight L → Geometry → List Choice → ℕ → State → State → ℕ → ℕ → L → L → Type 0
HasBegun saw g all n v w after left x y = (k : ℕ) × HasSeen saw g all k v w after x y × (k + left ≡ n) × (0 < left → length all ≤ k)
