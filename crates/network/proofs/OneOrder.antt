-- Messages that stand in order are one list where the same ones are found by their numbers.
use Rattle.std.proofs.Common.{◌≡◌, ◌≢◌, ◌<◌, ◌≤◌, ◌+◌, ◌∙◌, ◌⊎◌, ℕ, Bool, true, false, cond, Option, Some, None, List, [], ◌∷◌, inl, inr, arith, refl, sym, ap}
use Rattle.std.specs.Prelude.{◌==◌, nat_le}
use Rattle.std.proofs.lemmas.Bool.{cases_lt, cases_eq}
use Rattle.std.proofs.lemmas.Bool.Decides.{nat_tests}
use Rattle.std.proofs.lemmas.Option.{same_Some}
use Rattle.network.specs.declared.net.Flight.{Flight}
use Rattle.network.specs.Flights.{AreInOrder, first_from, flight_at}

no_flight : (f : Flight) → None ≡ Some f → ⊥
no_flight f e = absurd (cc)

-- the first of some messages has its number, and no other
pub at_first : (f : Flight) (fs : List Flight) (number : ℕ) → f.number ≡ number → flight_at (f ∷ fs) number ≡ Some f
at_first f fs number is = let yes : (f.number == number) ≡ true = grind (arith, nat_tests) in λ k. cond (yes k) (Some f) (flight_at fs number)

pub at_others : (f : Flight) (fs : List Flight) (number : ℕ) → f.number ≢ number → flight_at (f ∷ fs) number ≡ flight_at fs number
at_others f fs number ne = let no : (f.number == number) ≡ false = grind (arith, nat_tests) in λ k. cond (no k) (Some f) (flight_at fs number)

-- what is found by a number has it
pub number_is : (fs : List Flight) (number : ℕ) (f : Flight) → flight_at fs number ≡ Some f → f.number ≡ number
number_is [] number f at = absurd (no_flight f at)
number_is (g ∷ gs) number f at = elim (cases_eq g.number number) [
  | inl e ↦ sym (ap (λ (h : Flight). h.number) (same_Some g f (sym (at_first g gs number e) ∙ at))) ∙ e
  | inr ne ↦ number_is gs number f (sym (at_others g gs number ne) ∙ at)
]

-- behind the first there is none with its number, nor with a lower one
pub none_behind : (f : Flight) (fs : List Flight) → AreInOrder (f ∷ fs) → (number : ℕ) → number ≤ f.number → flight_at fs number ≡ None
none_behind f fs order number low = by (flight_at fs number) refl
  where
    by : (o : Option Flight) → flight_at fs number ≡ o → o ≡ None
    by None at = refl
    by (Some g) at = let above : f.number < g.number = order.0 number g at in let is : g.number ≡ number = number_is fs number g at in absurd (omega (arith, above, is, low))

module _ (f g : Flight) (fs gs : List Flight) (one : AreInOrder (f ∷ fs)) (other : AreInOrder (g ∷ gs)) (same : (number : ℕ) → flight_at (f ∷ fs) number ≡ flight_at (g ∷ gs) number) where
  not_below : f.number < g.number → ⊥
  not_below lt =
      let at : flight_at (g ∷ gs) f.number ≡ Some f = sym (same f.number) ∙ at_first f fs f.number refl in
      let ne : g.number ≢ f.number = λ e. omega (arith, lt, e) in
      no_flight f (sym (none_behind g gs other f.number (omega (arith, lt))) ∙ (sym (at_others g gs f.number ne) ∙ at))

  not_above : g.number < f.number → ⊥
  not_above lt =
      let at : flight_at (f ∷ fs) g.number ≡ Some g = same g.number ∙ at_first g gs g.number refl in
      let ne : f.number ≢ g.number = λ e. omega (arith, lt, e) in
      no_flight g (sym (none_behind f fs one g.number (omega (arith, lt))) ∙ (sym (at_others f fs g.number ne) ∙ at))

  one_number : f.number ≡ g.number
  one_number = elim (cases_lt f.number g.number) [
    | inl lt ↦ absurd (not_below lt)
    | inr ge ↦ elim (cases_lt g.number f.number) [
      | inl lt ↦ absurd (not_above lt)
      | inr le ↦ omega (arith, ge, le)
    ]
  ]

  one_first : f ≡ g
  one_first = same_Some f g (sym (at_first f fs f.number refl) ∙ (same f.number ∙ at_first g gs f.number (sym one_number)))

  same_rest : (j : ℕ) → flight_at fs j ≡ flight_at gs j
  same_rest j = elim (cases_eq f.number j) [
    | inl e ↦ none_behind f fs one j (omega (arith, e)) ∙ sym (none_behind g gs other j (omega (arith, e, one_number)))
    | inr ne ↦
        let ne_too : g.number ≢ j = λ e. ne (one_number ∙ e) in
        sym (at_others f fs j ne) ∙ (same j ∙ at_others g gs j ne_too)
  ]

-- messages in order are one list with others in order that have the same ones
pub one_order : (fs gs : List Flight) → AreInOrder fs → AreInOrder gs → ((number : ℕ) → flight_at fs number ≡ flight_at gs number) → fs ≡ gs
one_order [] [] one other same = refl
one_order [] (g ∷ gs) one other same = absurd (no_flight g (same g.number ∙ at_first g gs g.number refl))
one_order (f ∷ fs) [] one other same = absurd (no_flight f (sym (same f.number) ∙ at_first f fs f.number refl))
one_order (f ∷ fs) (g ∷ gs) one other same =
    λ k. one_first f g fs gs one other same k ∷ one_order fs gs one.1 other.1 (same_rest f g fs gs one other same) k

-- the first from a number on
first_here : (number : ℕ) (g : Flight) (gs : List Flight) → number ≤ g.number → first_from number (g ∷ gs) ≡ Some g
first_here number g gs low = let yes : nat_le number g.number ≡ true = grind (arith, nat_tests) in λ k. cond (yes k) (Some g) (first_from number gs)

first_later : (number : ℕ) (g : Flight) (gs : List Flight) → g.number < number → first_from number (g ∷ gs) ≡ first_from number gs
first_later number g gs high = let no : nat_le number g.number ≡ false = grind (arith, nat_tests) in λ k. cond (no k) (Some g) (first_from number gs)

-- it is in flight with its own number, which isn't below
pub from_is : (number : ℕ) (fs : List Flight) (f : Flight) → first_from number fs ≡ Some f → (number ≤ f.number) × (flight_at fs f.number ≡ Some f)
from_is number [] f is = absurd (no_flight f is)
from_is number (g ∷ gs) f is = elim (cases_lt g.number number) [
  | inl high ↦
      let rest = from_is number gs f (sym (first_later number g gs high) ∙ is) in
      (rest.0, at_others g gs f.number (λ e. omega (arith, high, e, rest.0)) ∙ rest.1)
  | inr low ↦
      let same : g ≡ f = same_Some g f (sym (first_here number g gs low) ∙ is) in
      let has : g.number ≡ f.number = ap (λ (h : Flight). h.number) same in
      (omega (arith, low, has), at_first g gs f.number has ∙ ap (λ (h : Flight). Some h) same)
]

-- from a number up to that of the first there is none
pub none_between : (number : ℕ) (fs : List Flight) (f : Flight) → AreInOrder fs → first_from number fs ≡ Some f → (other : ℕ) → number ≤ other → other < f.number → flight_at fs other ≡ None
none_between number [] f order is other from to = refl
none_between number (g ∷ gs) f order is other from to = elim (cases_lt g.number number) [
  | inl high ↦ at_others g gs other (λ e. omega (arith, high, e, from)) ∙ none_between number gs f order.1 (sym (first_later number g gs high) ∙ is) other from to
  | inr low ↦
      let has : g.number ≡ f.number = ap (λ (h : Flight). h.number) (same_Some g f (sym (first_here number g gs low) ∙ is)) in
      at_others g gs other (λ e. omega (arith, e, has, to)) ∙ none_behind g gs order other (omega (arith, has, to))
]

-- and where there is no first, none at all
pub none_from : (number : ℕ) (fs : List Flight) → first_from number fs ≡ None → (other : ℕ) → number ≤ other → flight_at fs other ≡ None
none_from number [] is other from = refl
none_from number (g ∷ gs) is other from = elim (cases_lt g.number number) [
  | inl high ↦ at_others g gs other (λ e. omega (arith, high, e, from)) ∙ none_from number gs (sym (first_later number g gs high) ∙ is) other from
  | inr low ↦ absurd (no_flight g (sym is ∙ first_here number g gs low))
]

-- a number above those of all
abbrev pub past : List Flight → ℕ
past [] = 0
past (f ∷ fs) = f.number + 1 + past fs

pub past_all : (fs : List Flight) (number : ℕ) → past fs ≤ number → flight_at fs number ≡ None
past_all [] number high = refl
past_all (f ∷ fs) number high = at_others f fs number (λ e. omega (arith, e, high)) ∙ past_all fs number (omega (arith, high))
