-- The messages of the slots in order: what is in flight with a number is what some key has.
use Rattle.std.proofs.Common.{◌≡◌, ◌≢◌, ℕ, zero, suc, inl, inr, List, [], ◌∷◌, length, Option, Some, None, cond, get_or, refl, sym, ap, subst, ◌∙◌, arith, eqb}
use Rattle.std.specs.Prelude.{is_some, IsSome, count_by}
use Rattle.std.proofs.lemmas.Bool.{cases_eq, cases_lt, eq-eqb, ne_eqb, le-leb, lt-leb}
use Rattle.std.proofs.lemmas.List.Sums.{sum_by-cons}
use Rattle.std.proofs.lemmas.Option.{same_Some, none-some}
use Rattle.network.specs.declared.net.Flight.{Flight}
use Rattle.network.specs.Flights.{flight_at, AreInOrder, AreNumbered}
use Rattle.network.specs.Sorted.{put_in, in_order, AreBelow, IsAbsent}

-- one more message has its number, and each other number what it had
pub flight_at-cons_same : (f : Flight) (fs : List Flight) (n : ℕ) → f.number ≡ n → flight_at (f ∷ fs) n ≡ Some f
flight_at-cons_same f fs n e = rw (eq-eqb f.number n e)

pub flight_at-cons_other : (f : Flight) (fs : List Flight) (n : ℕ) → f.number ≢ n → flight_at (f ∷ fs) n ≡ flight_at fs n
flight_at-cons_other f fs n ne = rw (ne_eqb f.number n ne)

pub flight_at-put_in : (f : Flight) (fs : List Flight) (n : ℕ) → flight_at (put_in f fs) n ≡ cond (eqb f.number n) (Some f) (flight_at fs n)
flight_at-put_in f [] n = refl
flight_at-put_in f (g ∷ gs) n = elim (cases_lt g.number f.number) [
  | inl lower ↦ rw (lt-leb f.number g.number lower) (elim (cases_eq g.number n) [
    | inl e ↦ flight_at-cons_same g (put_in f gs) n e ∙ rw (ne_eqb f.number n (λ same. omega (arith, e, same, lower)), eq-eqb g.number n e)
    | inr ne ↦ flight_at-cons_other g (put_in f gs) n ne ∙ flight_at-put_in f gs n ∙ rw (ne_eqb g.number n ne)
  ])
  | inr above ↦ rw (le-leb f.number g.number above)
]

-- a message in a list has the number that it is found by
pub numbered_at : (fs : List Flight) (n : ℕ) (f : Flight) → flight_at fs n ≡ Some f → f.number ≡ n
numbered_at [] n f at = absurd (none-some f at)
numbered_at (g ∷ gs) n f at = elim (cases_eq g.number n) [
  | inl e ↦ let same : g ≡ f = same_Some g f (sym (flight_at-cons_same g gs n e) ∙ at) in sym (ap (λ (x : Flight). x.number) same) ∙ e
  | inr ne ↦ numbered_at gs n f (sym (flight_at-cons_other g gs n ne) ∙ at)
]

-- what is in flight with a number is under a key
pub found : (slots : List (Option Flight)) (n : ℕ) (f : Flight) → flight_at (in_order slots) n ≡ Some f → (key : ℕ) × (get_or slots key None ≡ Some f) × (f.number ≡ n)
found [] n f at = absurd (none-some f at)
found (None ∷ rest) n f at = let more = found rest n f at in (suc more.0, more.1, more.2)
found (Some g ∷ rest) n f at = elim (cases_eq g.number n) [
  | inl e ↦
      let here : flight_at (put_in g (in_order rest)) n ≡ Some g = flight_at-put_in g (in_order rest) n ∙ rw (eq-eqb g.number n e) in
      let same : g ≡ f = same_Some g f (sym here ∙ at) in
      (zero, ap (λ x. Some x) same, sym (ap (λ (x : Flight). x.number) same) ∙ e)
  | inr ne ↦
      let there : flight_at (put_in g (in_order rest)) n ≡ flight_at (in_order rest) n = flight_at-put_in g (in_order rest) n ∙ rw (ne_eqb g.number n ne) in
      let more = found rest n f (sym there ∙ at) in (suc more.0, more.1, more.2)
]

-- where a key has a message, one with its number is in flight
pub is_there : (slots : List (Option Flight)) (key : ℕ) (f : Flight) → get_or slots key None ≡ Some f → (g : Flight) × (flight_at (in_order slots) f.number ≡ Some g)
is_there [] key f at = absurd (none-some f at)
is_there (None ∷ rest) zero f at = absurd (none-some f at)
is_there (None ∷ rest) (suc key) f at = is_there rest key f at
is_there (Some g ∷ rest) zero f at = (g, flight_at-put_in g (in_order rest) f.number ∙ rw (eq-eqb g.number f.number (ap (λ (x : Flight). x.number) (same_Some g f at))))
is_there (Some g ∷ rest) (suc key) f at = elim (cases_eq g.number f.number) [
  | inl e ↦ (g, flight_at-put_in g (in_order rest) f.number ∙ rw (eq-eqb g.number f.number e))
  | inr ne ↦ let more = is_there rest key f at in (more.0, flight_at-put_in g (in_order rest) f.number ∙ rw (ne_eqb g.number f.number ne) more.1)
]

-- no key has the number where none is in flight with it, and the other way round
pub absent_from : (slots : List (Option Flight)) (n : ℕ) → flight_at (in_order slots) n ≡ None → IsAbsent slots n
absent_from slots n none key f at e =
    let more = is_there slots key f at in
    absurd (none-some more.0 (sym none ∙ subst (λ m. flight_at (in_order slots) m ≡ Some more.0) e more.1))

pub none_from : (slots : List (Option Flight)) (n : ℕ) → IsAbsent slots n → flight_at (in_order slots) n ≡ None
none_from slots n gone = by_cases (flight_at (in_order slots) n) refl
  where
    by_cases : (o : Option Flight) → flight_at (in_order slots) n ≡ o → flight_at (in_order slots) n ≡ None
    by_cases None is = is
    by_cases (Some f) is = let here = found slots n f is in absurd (gone here.0 f here.1 here.2)

-- a message that goes in where none has its number leaves the order
pub put_in_ordered : (f : Flight) (fs : List Flight) → AreInOrder fs → flight_at fs f.number ≡ None → AreInOrder (put_in f fs)
put_in_ordered f [] ordered none = (λ n g at. absurd (none-some g at), tt)
put_in_ordered f (g ∷ gs) ordered none = elim (cases_eq g.number f.number) [
  | inl e ↦ absurd (none-some g (sym none ∙ flight_at-cons_same g gs f.number e))
  | inr ne ↦ elim (cases_lt g.number f.number) [
    | inl lower ↦
        let none_more : flight_at gs f.number ≡ None = sym (flight_at-cons_other g gs f.number ne) ∙ none in
        rw (lt-leb f.number g.number lower) (
          λ n h at. elim (cases_eq f.number n) [
            | inl e ↦
                let here : flight_at (put_in f gs) n ≡ Some f = flight_at-put_in f gs n ∙ rw (eq-eqb f.number n e) in
                let same : f.number ≡ h.number = ap (λ (x : Flight). x.number) (same_Some f h (sym here ∙ at)) in
                omega (arith, same, lower)
            | inr apart ↦
                let there : flight_at (put_in f gs) n ≡ flight_at gs n = flight_at-put_in f gs n ∙ rw (ne_eqb f.number n apart) in
                ordered.0 n h (sym there ∙ at)
          ],
          put_in_ordered f gs ordered.1 none_more,
        )
    | inr above ↦ rw (le-leb f.number g.number above) (
      λ n h at. elim (cases_eq g.number n) [
        | inl e ↦
            let same : g.number ≡ h.number = ap (λ (x : Flight). x.number) (same_Some g h (sym (flight_at-cons_same g gs n e) ∙ at)) in
            omega (arith, same, above, ne)
        | inr apart ↦ let more = ordered.0 n h (sym (flight_at-cons_other g gs n apart) ∙ at) in omega (arith, more, above)
      ],
      ordered,
    )
  ]
]

-- no two keys have messages of one number
abbrev pub AreApart : List (Option Flight) → Type 0
AreApart slots = (key other : ℕ) (f g : Flight) → get_or slots key None ≡ Some f → get_or slots other None ≡ Some g → f.number ≡ g.number → key ≡ other

apart_rest : (o : Option Flight) (rest : List (Option Flight)) → AreApart (o ∷ rest) → AreApart rest
apart_rest o rest apart key other f g at there e = let same : suc key ≡ suc other = apart (suc key) (suc other) f g at there e in omega (arith, same)

pub ordered : (slots : List (Option Flight)) → AreApart slots → AreInOrder (in_order slots)
ordered [] apart = tt
ordered (None ∷ rest) apart = ordered rest (apart_rest None rest apart)
ordered (Some f ∷ rest) apart = put_in_ordered f (in_order rest) (ordered rest (apart_rest (Some f) rest apart))
    (none_from rest f.number (λ key g at e. let same : zero ≡ suc key = apart zero (suc key) f g refl at (sym e) in omega (arith, same)))

-- what a key has is what is in flight with its number
pub holds : (slots : List (Option Flight)) → AreApart slots → (key : ℕ) (f : Flight) → get_or slots key None ≡ Some f → flight_at (in_order slots) f.number ≡ Some f
holds slots apart key f at =
    let there = is_there slots key f at in
    let here = found slots f.number there.0 there.1 in
    let key_same : here.0 ≡ key = apart here.0 key there.0 f here.1 at here.2 in
    there.1 ∙ sym here.1 ∙ ap (λ k. get_or slots k None) key_same ∙ at

-- there are as many in order as under the keys
length-put_in : (f : Flight) (fs : List Flight) → length (put_in f fs) ≡ suc (length fs)
length-put_in f [] = refl
length-put_in f (g ∷ gs) = elim (cases_lt g.number f.number) [
  | inl lower ↦ rw (lt-leb f.number g.number lower) (ap suc (length-put_in f gs))
  | inr above ↦ rw (le-leb f.number g.number above)
]

pub length-in_order : (slots : List (Option Flight)) → length (in_order slots) ≡ count_by is_some slots
length-in_order [] = refl
length-in_order (None ∷ rest) = omega (arith, length-in_order rest, sum_by-cons (λ o. cond (is_some o) 1 0) None rest)
length-in_order (Some f ∷ rest) = omega (arith, length-put_in f (in_order rest), length-in_order rest, sum_by-cons (λ o. cond (is_some o) 1 0) (Some f) rest)

-- slots with the same messages of a number have the same in flight with it
pub same_at : (slots news : List (Option Flight)) (n : ℕ) → AreApart slots → AreApart news
    → ((key : ℕ) (f : Flight) → f.number ≡ n → get_or slots key None ≡ Some f → get_or news key None ≡ Some f)
    → ((key : ℕ) (f : Flight) → f.number ≡ n → get_or news key None ≡ Some f → get_or slots key None ≡ Some f) → flight_at (in_order news) n ≡ flight_at (in_order slots) n
same_at slots news n apart apart_news into from = by_cases (flight_at (in_order slots) n) refl
  where
    by_cases : (o : Option Flight) → flight_at (in_order slots) n ≡ o → flight_at (in_order news) n ≡ flight_at (in_order slots) n
    by_cases None is = none_from news n (λ key f at e. absent_from slots n is key f (from key f e at) e) ∙ sym is
    by_cases (Some f) is =
        let here = found slots n f is in
        subst (λ m. flight_at (in_order news) m ≡ Some f) here.2 (holds news apart_news here.0 f (into here.0 f here.2 here.1)) ∙ sym is

-- each number is below the next
pub numbered : (slots : List (Option Flight)) (next : ℕ) → AreBelow slots next → AreNumbered (in_order slots) next
numbered slots next below n f at = let here = found slots n f at in below here.0 f here.1

pub is_some_at : (slots : List (Option Flight)) (n key : ℕ) (f : Flight) → get_or slots key None ≡ Some f → f.number ≡ n → IsSome (flight_at (in_order slots) n)
is_some_at slots n key f at e = let there = is_there slots key f at in ap is_some (subst (λ m. flight_at (in_order slots) m ≡ Some there.0) e there.1)
