-- The ends that were found so far.
use Rattle.std.specs.Prelude.{ℕ, ◌≡◌, ◌≤◌, ◌<◌, ◌⊎◌, List, map}
use Rattle.std.specs.List.{Contains}
use Rattle.outcomes.specs.declared.breadth_first.Outcomes.{Outcomes}
use Rattle.outcomes.specs.declared.gathering.End.{End}
use Rattle.outcomes.specs.declared.gathering.Found.{Found}
use Rattle.outcomes.specs.Ends.{IsEndWith, reports_of}

-- the ends, in the order of their reports
abbrev pub ends_in : Found → List End
ends_in found = map (λ p. record { report = p.0; place = p.1 }) found.places.entries

-- the ends have a report that they had, or just got with this place
pub record IsKept (old new : List End) (report : List ℕ) (place : ℕ) : Type 0 where
  pub stay : (e : End) → Contains old e → Contains new e
  pub come : (e : End) → Contains new e → Contains old e ⊎ ((e.report.items ≡ report) × (e.place ≡ place) × (Contains (reports_of old) report → ⊥))
  pub has : Contains (reports_of new) report

-- the ends among the first n states
pub record AreEndsAmong (o : Outcomes) (words : List ℕ) (n : ℕ) (ends : List End) : Type 0 where
  pub reached : (e : End) → Contains ends e → IsEndWith o words e.place e.report.items × (e.place < n)
  pub all : (k : ℕ) (r : List ℕ) → k < n → IsEndWith o words k r → Contains (reports_of ends) r
  pub first : (e : End) → Contains ends e → (k : ℕ) → IsEndWith o words k e.report.items → e.place ≤ k
