-- Messages by rising number, from the first on, while the key of each is known.
use Rattle.std.proofs.Common.{◌≡◌, ◌+◌, ◌<◌, ◌≤◌, inl, inr, ℕ, Bool, true, false, List, Option, Some, None, get_or, arith, sym, subst, ◌∙◌}
use Rattle.std.proofs.lemmas.Bool.{cases_eq, cases_lt}
use Rattle.std.proofs.lemmas.Option.{same_Some}
use Rattle.words.specs.declared.message.Message.{Message}
use Rattle.network.specs.declared.net.Flight.{Flight}
use Rattle.network.specs.Flights.{flight_at, first_from, NonePasses, IsOldest}
use Rattle.network.specs.Sorted.{in_order, AreKept, IsAbsent}
use Rattle.network.proofs.Sorted.{found, holds, ordered}
use Rattle.network.proofs.First.{first_is, first_none}

-- no message with a lower number passes a test
abbrev pub NoneBelow : (Message → Bool → Type 0) → List (Option Flight) → ℕ → Type 0
NoneBelow answers slots number = (k : ℕ) (g : Flight) → get_or slots k None ≡ Some g → g.number < number → answers g.message false

module _ (answers : Message → Bool → Type 0) (slots : List (Option Flight)) (next : ℕ) (keys : List ℕ) (kept : AreKept slots next keys) (number : ℕ) (none : NoneBelow answers slots number) where
  -- no message has the number
  pub none_more : IsAbsent slots number → NoneBelow answers slots (number + 1)
  none_more gone k g at lower = none k g at (let ne = gone k g at in omega (arith, ne, lower))

  -- or the one that has it doesn't pass
  pub fails_more : (key : ℕ) (f : Flight) → get_or slots key None ≡ Some f → f.number ≡ number → answers f.message false → NoneBelow answers slots (number + 1)
  fails_more key f here is fails k g at lower = elim (cases_eq g.number number) [
    | inl e ↦
        let same : k ≡ key = kept.apart k key g f at here (e ∙ sym is) in
        let flight : f ≡ g = same_Some f g (sym here ∙ subst (λ n. get_or slots n None ≡ Some g) same at) in
        subst (λ (x : Flight). answers x.message false) flight fails
    | inr ne ↦ none k g at (omega (arith, ne, lower))
  ]

  -- the first that passes is the oldest
  pub first_passes : (key : ℕ) (f : Flight) → get_or slots key None ≡ Some f → f.number ≡ number → answers f.message true → IsOldest answers (in_order slots) number
  first_passes key f here is passes = record {
    flight = f;
    here = subst (λ n. flight_at (in_order slots) n ≡ Some f) is (holds slots kept.apart key f here);
    passes = passes;
    first = λ other g at. elim (cases_lt other number) [
      | inl lower ↦ let one = found slots other g at in inl (none one.0 g one.1 (omega (arith, lower, one.2)))
      | inr above ↦ inr above
    ];
  }

  -- or none does
  pub none_passes : next ≤ number → NonePasses answers (in_order slots)
  none_passes end other g at = let one = found slots other g at in none one.0 g one.1 (omega (arith, kept.below one.0 g one.1, end))

module _ (slots : List (Option Flight)) (next : ℕ) (keys : List ℕ) (kept : AreKept slots next keys) (number other : ℕ) (from : number ≤ other)
    (none : (key : ℕ) (f : Flight) → get_or slots key None ≡ Some f → number ≤ f.number → other ≤ f.number) where
  -- the first that has a number from one on, or none
  pub first_met : (key : ℕ) (f : Flight) → get_or slots key None ≡ Some f → f.number ≡ other → first_from number (in_order slots) ≡ Some f
  first_met key f here is =
      first_is number (in_order slots) (ordered slots kept.apart) f (holds slots kept.apart key f here) (omega (arith, from, is)) (λ n g at above.
      let one = found slots n g at in omega (arith, none one.0 g one.1 (omega (arith, above, one.2)), one.2, is))

  pub none_met : next ≤ other → first_from number (in_order slots) ≡ None
  none_met end = first_none number (in_order slots) (ordered slots kept.apart) (λ n g at. elim (cases_lt n number) [
    | inl lower ↦ lower
    | inr above ↦ let one = found slots n g at in absurd (omega (arith, none one.0 g one.1 (omega (arith, above, one.2)), one.2, kept.below one.0 g one.1, end))
  ])
