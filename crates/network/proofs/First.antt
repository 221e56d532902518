-- Lists of messages in order: the first from a number on, the only one, and none.
use Rattle.std.proofs.Common.{◌≡◌, ◌≢◌, ◌<◌, ◌≤◌, ℕ, inl, inr, List, [], ◌∷◌, length, Some, None, refl, sym, ap, ◌∙◌, arith}
use Rattle.std.proofs.lemmas.Bool.{cases_eq, cases_lt, le-leb, lt-leb}
use Rattle.std.proofs.lemmas.Option.{none-some}
use Rattle.network.specs.declared.net.Flight.{Flight}
use Rattle.network.specs.Flights.{flight_at, first_from, AreInOrder, IsAlone}
use Rattle.network.proofs.Sorted.{flight_at-cons_same, flight_at-cons_other, numbered_at}

-- what stands after the head stands in the list
after : (g : Flight) (gs : List Flight) → AreInOrder (g ∷ gs) → (n : ℕ) (f : Flight) → flight_at gs n ≡ Some f → flight_at (g ∷ gs) n ≡ Some f
after g gs order n f at = flight_at-cons_other g gs n (λ same. omega (arith, same, order.0 n f at, numbered_at gs n f at)) ∙ at

pub first_none : (number : ℕ) (fs : List Flight) → AreInOrder fs → ((n : ℕ) (f : Flight) → flight_at fs n ≡ Some f → n < number) → first_from number fs ≡ None
first_none number [] order none = refl
first_none number (g ∷ gs) order none =
    rw (lt-leb number g.number (none g.number g (flight_at-cons_same g gs g.number refl))) (first_none number gs order.1 (λ n f at. none n f (after g gs order n f at)))

pub first_is : (number : ℕ) (fs : List Flight) → AreInOrder fs → (f : Flight) → flight_at fs f.number ≡ Some f → number ≤ f.number
    → ((n : ℕ) (g : Flight) → flight_at fs n ≡ Some g → number ≤ n → f.number ≤ n) → first_from number fs ≡ Some f
first_is number [] order f at above least = absurd (none-some f at)
first_is number (g ∷ gs) order f at above least = elim (cases_lt g.number number) [
  | inl lower ↦
      rw (lt-leb number g.number lower)
      (first_is number gs order.1 f (sym (flight_at-cons_other g gs f.number (λ same. omega (arith, same, lower, above))) ∙ at) above (λ n h there. least n h (after g gs order n h there)))
  | inr from ↦
      let here = flight_at-cons_same g gs g.number refl in
      let low : f.number ≤ g.number = least g.number g here from in
      rw (le-leb number g.number from) (elim (cases_eq g.number f.number) [
        | inl e ↦ sym (flight_at-cons_same g gs f.number e) ∙ at
        | inr ne ↦ let more = order.0 f.number f (sym (flight_at-cons_other g gs f.number ne) ∙ at) in absurd (omega (arith, more, low))
      ])
]

-- of one message, that with a number is the only one
pub alone_from : (fs : List Flight) (n : ℕ) (f : Flight) → length fs ≡ 1 → flight_at fs n ≡ Some f → IsAlone fs n
alone_from [] n f one at = absurd (none-some f at)
alone_from (g ∷ []) n f one at = elim (cases_eq g.number n) [
  | inl e ↦ (g, refl, e)
  | inr ne ↦ absurd (none-some f (sym (flight_at-cons_other g [] n ne) ∙ at))
]
alone_from (g ∷ (h ∷ hs)) n f one at = absurd (omega (arith, one))

-- where nothing is in flight with any number, there is none
pub none_left : (fs : List Flight) → ((n : ℕ) → flight_at fs n ≡ None) → fs ≡ []
none_left [] none = refl
none_left (g ∷ gs) none = absurd (none-some g (sym (none g.number) ∙ flight_at-cons_same g gs g.number refl))

-- without the only one
pub none_beside : (fs news : List Flight) (number : ℕ) → IsAlone fs number → flight_at news number ≡ None → ((other : ℕ) → other ≢ number → flight_at news other ≡ flight_at fs other) → news ≡ []
none_beside fs news number alone gone others = none_left news (λ n. elim (cases_eq n number) [
  | inl e ↦ rw e gone
  | inr ne ↦ others n ne ∙ ap (λ gs. flight_at gs n) alone.1 ∙ flight_at-cons_other alone.0 [] n (λ same. ne (sym same ∙ alone.2))
])
