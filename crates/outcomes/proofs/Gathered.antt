-- The ends among the first states, one state after another.
use Rattle.std.proofs.Common.{◌≡◌, ◌<◌, ◌≤◌, ◌+◌, ◌⊎◌, inl, inr, ℕ, arith, Some, List, [], length, sym, ap, subst, ◌∙◌}
use Rattle.std.specs.Prelude.{slice_get}
use Rattle.std.specs.List.{Contains}
use Rattle.std.specs.List.Sorted.{IsStrictlySortedBy}
use Rattle.std.specs.Ordering.{nat_cmp}
use Rattle.std.specs.Cmp.Lexicographic.{slice_cmp}
use Rattle.std.proofs.lemmas.Bool.{cases_lt}
use Rattle.std.proofs.lemmas.Option.{slice_get_within, slice_get_cases}
use Rattle.render.specs.Reports.{report_of}
use Rattle.outcomes.specs.declared.pool.State.{State}
use Rattle.outcomes.specs.declared.breadth_first.Outcomes.{Outcomes}
use Rattle.outcomes.specs.Searches.{flat_at, Stands, IsEnd}
use Rattle.outcomes.specs.declared.gathering.End.{End}
use Rattle.outcomes.specs.Ends.{IsEndWith, reports_of, AreEndsOf}
use Rattle.outcomes.specs.Found.{IsKept, AreEndsAmong}
use Rattle.outcomes.proofs.Members.{none_in, mapped, mapped_from}

one_there : {A : Type 0} (xs : List A) (k : ℕ) (x y : A) → slice_get xs k ≡ Some x → slice_get xs k ≡ Some y → x ≡ y
one_there xs k x y a b = let e : Some x ≡ Some y = sym a ∙ b in cc

below_or_at : (k n : ℕ) → k < n + 1 → (k < n) ⊎ (k ≡ n)
below_or_at k n lt = elim (cases_lt k n) [ inl less ↦ inl less | inr le ↦ inr (omega arith) ]

-- a report stays in the list
pub reports_stay : (old new : List End) → ((e : End) → Contains old e → Contains new e) → (r : List ℕ) → Contains (reports_of old) r → Contains (reports_of new) r
reports_stay old new stay r there =
    let e = mapped_from (λ (e : End). e.report.items) old r there in
    subst (Contains (reports_of new)) e.2 (mapped (λ (e : End). e.report.items) new e.0 (stay e.0 e.1))

-- a state stands at each place below their number
pub stands_there : (o : Outcomes) (k : ℕ) → k < length o.states.keys → (x : State) × Stands o k x
stands_there o k lt = elim ((slice_get_cases o.states.keys k).1) [ inl here ↦ (here.0, here.2) | inr past ↦ absurd (omega (arith, past.0)) ]

module _ (o : Outcomes) (words : List ℕ) where
  -- at one place there is one report
  one_report : (k : ℕ) (r s : List ℕ) → IsEndWith o words k r → IsEndWith o words k s → r ≡ s
  one_report k r s a b =
      let same : a.end.state ≡ b.end.state = one_there o.states.keys k a.end.state b.end.state a.end.stands b.end.stands in
      sym a.told ∙ ap (λ (x : State). report_of (flat_at o x) words) same ∙ b.told

  pub among_none : AreEndsAmong o words 0 []
  among_none = record {
    reached = λ e c. absurd (none_in e c);
    all = λ k r lt w. absurd (omega (arith, lt));
    first = λ e c k w. absurd (none_in e c);
  }

  -- a hart runs in the next state, or there is no such state
  pub among_same : (n : ℕ) (ends : List End) → AreEndsAmong o words n ends → (IsEnd o n → ⊥) → AreEndsAmong o words (n + 1) ends
  among_same n ends among none = record {
    reached = λ e c. let r = among.reached e c in (r.0, omega (arith, r.1));
    all = λ k r lt w. elim (below_or_at k n lt) [
      | inl less ↦ among.all k r less w
      | inr same ↦ absurd (none (subst (IsEnd o) same w.end))
    ];
    first = among.first;
  }

  -- the report on the next state is kept
  pub among_more : (n : ℕ) (old new : List End) (report : List ℕ) → AreEndsAmong o words n old → IsEndWith o words n report → IsKept old new report n → AreEndsAmong o words (n + 1) new
  among_more n old new report among here kept = record {
    reached = λ e c. elim (kept.come e c) [
      | inl before ↦ let r = among.reached e before in (r.0, omega (arith, r.1))
      | inr now ↦ (subst (IsEndWith o words e.place) (sym now.0) (subst (λ k. IsEndWith o words k report) (sym now.1) here), omega (arith, now.1))
    ];
    all = λ k r lt w. elim (below_or_at k n lt) [
      | inl less ↦ reports_stay old new kept.stay r (among.all k r less w)
      | inr same ↦ subst (Contains (reports_of new)) (one_report n report r here (subst (λ k. IsEndWith o words k r) same w)) kept.has
    ];
    first = λ e c k w. elim (kept.come e c) [
      | inl before ↦ among.first e before k w
      | inr now ↦ elim (cases_lt k n) [
        | inl less ↦ absurd (now.2 (among.all k report less (subst (IsEndWith o words k) now.0 w)))
        | inr le ↦ omega (arith, now.1)
      ]
    ];
  }

  -- all states were gone through
  pub all_gathered : (n : ℕ) (ends : List End) → length o.states.keys ≤ n → AreEndsAmong o words n ends → IsStrictlySortedBy (slice_cmp nat_cmp) (reports_of ends) → AreEndsOf o words ends
  all_gathered n ends le among up = record {
    ascending = up;
    reached = λ e c. (among.reached e c).0;
    all = λ k r w. let within = slice_get_within o.states.keys k w.end.state w.end.stands in among.all k r (omega (arith, within)) w;
    first = among.first;
  }
