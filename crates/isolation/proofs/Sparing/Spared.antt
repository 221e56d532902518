-- No conflict aborts a transaction that was the earliest at its begin.
use Rattle.std.proofs.Common.{◌≡◌, ◌≤◌, ◌<◌, ◌+◌, min, ℕ, true, false, List, [], ◌∷◌, ◌++◌, Some, inl, refl, sym, subst, arith}
use Rattle.words.specs.declared.entry.Entry.{Entry}
use Rattle.words.specs.declared.entry.Entry.TheVariants.{Abort}
use Rattle.words.specs.declared.entry.Step.{Step}
use Rattle.words.specs.declared.cause.AbortCause.TheVariants.{Conflict}
use Rattle.table.specs.Program.{AreBytes}
use Rattle.flat.specs.State.{Setting}
use Rattle.flat.specs.Reasons.{History, told, history_of, no_history}
use Rattle.flat.proofs.Apart.{not_both}
use Rattle.protocol.specs.Caches.{Geometry}
use Rattle.protocol.specs.Machine.{Machine, Steps, Runs}
use Rattle.protocol.specs.Start.{start}
use Rattle.protocol.proofs.Splits.{runs_at}
use Rattle.isolation.specs.Earliest.{HoldsStamp, IsEarliest, IsInsideSince, BeganEarliest}
use Rattle.isolation.proofs.Belongs.Belonging.{conflict_after}
use Rattle.isolation.proofs.Sparing.Fitting.{AllFit, all_fit, history_more, history_then, rest_fits}
use Rattle.isolation.proofs.Sparing.Holding.{Holds, all_hold, holds_next, taken_one}
use Rattle.isolation.proofs.Sparing.Going.{Spares, Begun, begun, spared_all}

-- the history when the transaction began, and after the entries since
at_begin : (before : List Entry) (begin : Entry) → history_of no_history (before ++ begin ∷ []) ≡ told (history_of no_history before) begin
at_begin before begin = history_more no_history before begin

later : (before : List Entry) (begin : Entry) (es : List Entry) → history_of no_history (before ++ begin ∷ es) ≡ history_of (told (history_of no_history before) begin) es
later before begin es = history_then no_history before (begin ∷ es)

-- what is known as it begins
record Beginning (n : ℕ) (before : List Entry) (begin : Entry) (since : List Entry) (i : ℕ) : Type 0 where
  held : Holds n (history_of no_history before)
  holds : Holds n (told (history_of no_history before) begin)
  fit : AllFit n (told (history_of no_history before) begin) since
  inside : (es rest : List Entry) → since ≡ es ++ rest → 0 < ((history_of (told (history_of no_history before) begin) es).past i).depth
  begun : Begun (history_of no_history before) i begin

first_fits : (n : ℕ) (h : History) (es fs : List Entry) → AllFit n h (es ++ fs) → AllFit n h es
first_fits n h [] fs a = tt
first_fits n h (e ∷ es) fs a = (a.0, first_fits n (told h e) es fs a.1)

beginning : (n : ℕ) (before : List Entry) (begin : Entry) (since : List Entry) (i : ℕ) → AllFit n no_history (before ++ begin ∷ since) → IsInsideSince before begin since i → Beginning n before begin since i
beginning n before begin since i fit v = record {
  held = held;
  holds = holds_next n (history_of no_history before) begin rest.0 held;
  fit = rest.1;
  inside = inside;
  begun = begun (history_of no_history before) i begin v.outside (inside [] since refl);
} where
  held : Holds n (history_of no_history before)
  held = all_hold n before (first_fits n no_history before (begin ∷ since) fit)

  rest : AllFit n (history_of no_history before) (begin ∷ since)
  rest = rest_fits n no_history before (begin ∷ since) fit

  inside : (es rest : List Entry) → since ≡ es ++ rest → 0 < ((history_of (told (history_of no_history before) begin) es).past i).depth
  inside es rest is = subst (λ (h : History). 0 < (h.past i).depth) (later before begin es) (v.inside es rest is)

-- a stamp that was counted, and isn't of the greatest count
below_taken : (c taken : ℕ) → min (c + 1) 18446744073709551615 ≤ taken → c < 18446744073709551615 → c < taken
below_taken c taken counted lt = grind arith

-- it refuses no earlier one
refuses_none : (n : ℕ) (before : List Entry) (begin : Entry) (since : List Entry) (i : ℕ) → Beginning n before begin since i → IsEarliest n (told (history_of no_history before) begin) i
    → ((history_of no_history (before ++ begin ∷ since)).past i).refused_earlier ≡ false
refuses_none n before begin since i v earliest =
    let h = told (history_of no_history before) begin in
    let deep : 0 < (h.past i).depth = v.inside [] since refl in
    let spares : Spares h i = record {
      refused = v.begun.refused;
      count = below_taken (h.past i).stamp.count h.taken (v.holds.harts i (inl deep)).1 earliest.count;
      others = λ k ne holds. earliest.others k (v.holds.harts k holds).0 ne holds;
    } in
    subst (λ (z : History). (z.past i).refused_earlier ≡ false) (sym (later before begin since)) (spared_all n h i since v.fit v.holds v.inside spares).refused

-- where no stamp was taken before, it is the earliest
one_taken : (c taken : ℕ) → min (c + 1) 18446744073709551615 ≤ taken → taken ≤ 1 → c < 18446744073709551615
one_taken c taken counted one = grind arith

none_taken : (c taken : ℕ) → min (c + 1) 18446744073709551615 ≤ taken → taken ≡ 0 → ⊥
none_taken c taken counted none = grind arith

first_is_earliest : (n : ℕ) (before : List Entry) (begin : Entry) (since : List Entry) (i : ℕ) → Beginning n before begin since i → (history_of no_history before).taken ≡ 0 → IsEarliest n (told (history_of no_history before) begin) i
first_is_earliest n before begin since i v none = record {
  others = λ k lt ne holds. absurd (none_holds k (subst HoldsStamp (v.begun.others k ne) holds));
  count = one_taken ((told (history_of no_history before) begin).past i).stamp.count (told (history_of no_history before) begin).taken (v.holds.harts i (inl (v.inside [] since refl))).1 one;
} where
  none_holds : (k : ℕ) → HoldsStamp ((history_of no_history before).past k) → ⊥
  none_holds k holds = none_taken ((history_of no_history before).past k).stamp.count (history_of no_history before).taken (v.held.harts k holds).1 none

  one : (told (history_of no_history before) begin).taken ≤ 1
  one = let more = taken_one (history_of no_history before) begin v.held.taken in omega (arith, more, none)

module _ (g : Geometry) (s : Setting) (entry : ℕ) (steps : List Step) (before since : List Entry) (begin : Entry) (i : ℕ) (bytes : AreBytes s.segments) where
  -- after an abort for a conflict an earlier one was refused
  refused_next : (v w : Machine) (next : Step) → Runs g (start s entry) steps (before ++ begin ∷ since) v → Steps g v next (Some (Abort i Conflict)) w → ((history_of no_history (before ++ begin ∷ since)).past i).refused_earlier ≡ true
  refused_next v w next r step = (conflict_after g s entry steps (before ++ begin ∷ since) v w next i bytes r step).0

  begins : (v : Machine) → Runs g (start s entry) steps (before ++ begin ∷ since) v → IsInsideSince before begin since i → Beginning s.count before begin since i
  begins v r inside = beginning s.count before begin since i (all_fit g s entry bytes v steps (before ++ begin ∷ since) r) inside

  pub earliest_next : (v w : Machine) (next : Step) → Runs g (start s entry) steps (before ++ begin ∷ since) v → Steps g v next (Some (Abort i Conflict)) w → BeganEarliest s.count before begin since i → ⊥
  earliest_next v w next r step is =
      not_both _ (refused_next v w next r step)
      (refuses_none s.count before begin since i (begins v r is.inside) (subst (λ h. IsEarliest s.count h i) (at_begin before begin) is.earliest))

  pub first_next : (v w : Machine) (next : Step) → Runs g (start s entry) steps (before ++ begin ∷ since) v → Steps g v next (Some (Abort i Conflict)) w → (history_of no_history before).taken ≡ 0 → IsInsideSince before begin since i → ⊥
  first_next v w next r step none is =
      let b = begins v r is in
      not_both _ (refused_next v w next r step) (refuses_none s.count before begin since i b (first_is_earliest s.count before begin since i b none))

pub earliest_among : (g : Geometry) (s : Setting) (entry : ℕ) (steps : List Step) (before since after : List Entry) (begin : Entry) (w : Machine) (i : ℕ)
    → AreBytes s.segments → Runs g (start s entry) steps ((before ++ begin ∷ since) ++ Abort i Conflict ∷ after) w → BeganEarliest s.count before begin since i → ⊥
earliest_among g s entry steps before since after begin w i bytes r is =
    let k = runs_at g (start s entry) w steps (before ++ begin ∷ since) (Abort i Conflict) after r in
    earliest_next g s entry k.0 before since begin i bytes k.3 k.4 k.1 k.6 k.7 is

pub first_among : (g : Geometry) (s : Setting) (entry : ℕ) (steps : List Step) (before since after : List Entry) (begin : Entry) (w : Machine) (i : ℕ)
    → AreBytes s.segments → Runs g (start s entry) steps ((before ++ begin ∷ since) ++ Abort i Conflict ∷ after) w → (history_of no_history before).taken ≡ 0 → IsInsideSince before begin since i → ⊥
first_among g s entry steps before since after begin w i bytes r none is =
    let k = runs_at g (start s entry) w steps (before ++ begin ∷ since) (Abort i Conflict) after r in
    first_next g s entry k.0 before since begin i bytes k.3 k.4 k.1 k.6 k.7 none is
