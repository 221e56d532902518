-- A walk over the messages in flight, in order: each is the first from a number on, and the next number is one more than its own.
use Rattle.std.proofs.Common.{◌≡◌, ◌<◌, ◌≤◌, ◌+◌, ◌++◌, ◌∙◌, ℕ, true, false, cond, Some, None, List, [], ◌∷◌, inl, inr, arith, refl, sym, ap, subst, append_assoc, append-nil}
use Rattle.std.specs.Prelude.{nat_le}
use Rattle.std.specs.List.{flat_map}
use Rattle.std.proofs.lemmas.Bool.{cases_lt}
use Rattle.std.proofs.lemmas.Bool.Decides.{nat_tests}
use Rattle.std.proofs.lemmas.Option.{same_Some}
use Rattle.network.specs.declared.net.Flight.{Flight}
use Rattle.network.specs.Flights.{AreInOrder, AreNumbered, first_from}
use Rattle.network.proofs.OneOrder.{at_first, from_is}

-- those before the first that has this number or a greater one, and the others
abbrev pub those_before : ℕ → List Flight → List Flight
those_before number [] = []
those_before number (f ∷ fs) = cond (nat_le number f.number) [] (f ∷ those_before number fs)

abbrev pub those_from : ℕ → List Flight → List Flight
those_from number [] = []
those_from number (f ∷ fs) = cond (nat_le number f.number) (f ∷ fs) (those_from number fs)

some_not_none : (f : Flight) → Some f ≡ None → ⊥
some_not_none f e = absurd (cc)

yes : (number : ℕ) (f : Flight) → number ≤ f.number → nat_le number f.number ≡ true
yes number f low = grind (arith, nat_tests)

no : (number : ℕ) (f : Flight) → f.number < number → nat_le number f.number ≡ false
no number f high = grind (arith, nat_tests)

before_here : (number : ℕ) (f : Flight) (fs : List Flight) → number ≤ f.number → those_before number (f ∷ fs) ≡ []
before_here number f fs low = λ k. cond (yes number f low k) [] (f ∷ those_before number fs)

before_later : (number : ℕ) (f : Flight) (fs : List Flight) → f.number < number → those_before number (f ∷ fs) ≡ f ∷ those_before number fs
before_later number f fs high = λ k. cond (no number f high k) [] (f ∷ those_before number fs)

first_here : (number : ℕ) (f : Flight) (fs : List Flight) → number ≤ f.number → first_from number (f ∷ fs) ≡ Some f
first_here number f fs low = λ k. cond (yes number f low k) (Some f) (first_from number fs)

first_later : (number : ℕ) (f : Flight) (fs : List Flight) → f.number < number → first_from number (f ∷ fs) ≡ first_from number fs
first_later number f fs high = λ k. cond (no number f high k) (Some f) (first_from number fs)

-- the two are all
split : (number : ℕ) (fs : List Flight) → those_before number fs ++ those_from number fs ≡ fs
split number [] = refl
split number (f ∷ fs) = elim (nat_le number f.number) as (λ b. cond b [] (f ∷ those_before number fs) ++ cond b (f ∷ fs) (those_from number fs) ≡ f ∷ fs) [
  | true ↦ refl
  | false ↦ ap (λ (l : List Flight). f ∷ l) (split number fs)
]

none_before : (fs : List Flight) → those_before 0 fs ≡ []
none_before [] = refl
none_before (f ∷ fs) = before_here 0 f fs (omega arith)

-- where there is no first, all come before
all_before : (number : ℕ) (fs : List Flight) → first_from number fs ≡ None → those_before number fs ≡ fs
all_before number [] is = refl
all_before number (f ∷ fs) is = elim (cases_lt f.number number) [
  | inl high ↦ before_later number f fs high ∙ ap (λ (l : List Flight). f ∷ l) (all_before number fs (sym (first_later number f fs high) ∙ is))
  | inr low ↦ absurd (some_not_none f (sym (first_here number f fs low) ∙ is))
]

-- after one, none comes before one more than its number
none_later : (f : Flight) (fs : List Flight) → AreInOrder (f ∷ fs) → those_before (f.number + 1) fs ≡ []
none_later f [] order = refl
none_later f (g ∷ gs) order =
    let above : f.number < g.number = order.0 g.number g (at_first g gs g.number refl) in
    before_here (f.number + 1) g gs (omega (arith, above))

-- before one more than the number of the first from a number on come those before this number, and it
one_more_before : (number : ℕ) (fs : List Flight) (f : Flight) → AreInOrder fs → first_from number fs ≡ Some f → those_before (f.number + 1) fs ≡ those_before number fs ++ (f ∷ [])
one_more_before number [] f order is = absurd (some_not_none f (sym is))
one_more_before number (g ∷ gs) f order is = elim (cases_lt g.number number) [
  | inl high ↦
      let later : first_from number gs ≡ Some f = sym (first_later number g gs high) ∙ is in
      let from : number ≤ f.number = (from_is number gs f later).0 in
      before_later (f.number + 1) g gs (omega (arith, high, from))
      ∙ (ap (λ (l : List Flight). g ∷ l) (one_more_before number gs f order.1 later)
      ∙ ap (λ (l : List Flight). l ++ (f ∷ [])) (sym (before_later number g gs high)))
  | inr low ↦
      let same : g ≡ f = same_Some g f (sym (first_here number g gs low) ∙ is) in
      let one : those_before (g.number + 1) (g ∷ gs) ≡ those_before number (g ∷ gs) ++ (g ∷ []) =
      before_later (g.number + 1) g gs (omega arith)
      ∙ (ap (λ (l : List Flight). g ∷ l) (none_later g gs order)
      ∙ ap (λ (l : List Flight). l ++ (g ∷ [])) (sym (before_here number g gs low))) in
      subst (λ (h : Flight). those_before (h.number + 1) (g ∷ gs) ≡ those_before number (g ∷ gs) ++ (h ∷ [])) same one
]

both_texts : (text : Flight → List ℕ) (fs gs : List Flight) → flat_map text (fs ++ gs) ≡ flat_map text fs ++ flat_map text gs
both_texts text [] gs = refl
both_texts text (f ∷ fs) gs = ap (λ (l : List ℕ). text f ++ l) (both_texts text fs gs) ∙ sym (append_assoc (text f) (flat_map text fs) (flat_map text gs))

-- the texts of those that a walk has met, and of those that are left
module _ (text : Flight → List ℕ) where
  abbrev pub text_before : ℕ → List Flight → List ℕ
  text_before number fs = flat_map text (those_before number fs)

  abbrev pub text_from : ℕ → List Flight → List ℕ
  text_from number fs = flat_map text (those_from number fs)

  -- at first it has met none
  pub none_met : (fs : List Flight) → [] ≡ text_before 0 fs
  none_met fs = ap (flat_map text) (sym (none_before fs))

  -- nor from a number on, if those with lower ones have no text
  pub none_yet : (number : ℕ) (fs : List Flight) → ((f : Flight) → f.number < number → text f ≡ []) → [] ≡ text_before number fs
  none_yet number [] empty = refl
  none_yet number (f ∷ fs) empty = elim (cases_lt f.number number) [
    | inl high ↦ none_yet number fs empty ∙ (ap (λ (l : List ℕ). l ++ text_before number fs) (sym (empty f high)) ∙ ap (flat_map text) (sym (before_later number f fs high)))
    | inr low ↦ ap (flat_map text) (sym (before_here number f fs low))
  ]

  -- then one more
  pub one_met : (number : ℕ) (fs : List Flight) (f : Flight) → AreInOrder fs → Some f ≡ first_from number fs → text_before number fs ++ text f ≡ text_before (f.number + 1) fs
  one_met number fs f order is =
      ap (λ (l : List ℕ). text_before number fs ++ l) (sym (append-nil (text f)))
      ∙ (sym (both_texts text (those_before number fs) (f ∷ []))
      ∙ ap (flat_map text) (sym (one_more_before number fs f order (sym is))))

  -- at last all
  pub all_met : (number : ℕ) (fs : List Flight) → None ≡ first_from number fs → text_before number fs ≡ flat_map text fs
  all_met number fs is = ap (flat_map text) (all_before number fs (sym is))

  -- and with one more, and those that are left, they are all
  pub met_and_left : (number : ℕ) (fs : List Flight) (f : Flight) → AreInOrder fs → Some f ≡ first_from number fs → (text_before number fs ++ text f) ++ text_from (f.number + 1) fs ≡ flat_map text fs
  met_and_left number fs f order is =
      ap (λ (l : List ℕ). l ++ text_from (f.number + 1) fs) (one_met number fs f order is)
      ∙ (sym (both_texts text (those_before (f.number + 1) fs) (those_from (f.number + 1) fs)) ∙ ap (flat_map text) (split (f.number + 1) fs))

-- what a walk meets has a number below the next, so that the walk ends
pub goes_on : (number next : ℕ) (fs : List Flight) (f : Flight) → AreNumbered fs next → first_from number fs ≡ Some f → (number ≤ f.number) × (f.number < next)
goes_on number next fs f numbered is = let from = from_is number fs f is in (from.0, numbered f.number f from.1)
