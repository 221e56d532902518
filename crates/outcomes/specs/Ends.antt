-- The distinct reports of all ends that a search found.
use Rattle.std.specs.Prelude.{ℕ, ◌≡◌, ◌≤◌, List, map}
use Rattle.std.specs.List.{Contains}
use Rattle.std.specs.List.Sorted.{IsStrictlySortedBy}
use Rattle.std.specs.Ordering.{nat_cmp}
use Rattle.std.specs.Cmp.Lexicographic.{slice_cmp}
use Rattle.render.specs.Reports.{report_of}
use Rattle.outcomes.specs.declared.breadth_first.Outcomes.{Outcomes}
use Rattle.outcomes.specs.Searches.{flat_at, IsEnd}
use Rattle.outcomes.specs.declared.gathering.End.{End}

-- in the state at a place no hart runs, and this is the report on it, with the words at these addresses
pub record IsEndWith (o : Outcomes) (words : List ℕ) (k : ℕ) (report : List ℕ) : Type 0 where
  pub end : IsEnd o k
  pub told : report_of (flat_at o end.state) words ≡ report

-- the reports alone
abbrev pub reports_of : List End → List (List ℕ)
reports_of ends = map (λ e. e.report.items) ends

-- the ends are all that a search found, each report once, with the first place that has it, in the order of their bytes
pub record AreEndsOf (o : Outcomes) (words : List ℕ) (ends : List End) : Type 0 where
  pub ascending : IsStrictlySortedBy (slice_cmp nat_cmp) (reports_of ends)
  pub reached : (e : End) → Contains ends e → IsEndWith o words e.place e.report.items
  pub all : (k : ℕ) (r : List ℕ) → IsEndWith o words k r → Contains (reports_of ends) r
  pub first : (e : End) → Contains ends e → (k : ℕ) → IsEndWith o words k e.report.items → e.place ≤ k
