-- The lowest number so far among the messages that pass.
use Rattle.std.proofs.Common.{◌≡◌, ℕ, ◌<◌, ◌≤◌, ◌+◌, ◌⊎◌, inl, inr, Bool, true, false, List, Option, Some, None, get_or, length, arith, refl, ap, sym, ◌∙◌, subst, Bor, true≢false}
use Rattle.std.specs.Prelude.{IfSome, IfNone}
use Rattle.std.proofs.lemmas.Bool.{cases_eq, ltb-true, ltb-false}
use Rattle.std.proofs.lemmas.Option.{same_Some}
use Rattle.std.specs.Fn.{FnReturnsAt, Shared}
use Rattle.words.specs.declared.message.Message.{Message}
use Rattle.network.specs.declared.net.Flight.{Flight}
use Rattle.network.specs.Flights.{flight_at, IsOldest, NonePasses, first_from}
use Rattle.network.specs.Sorted.{in_order, is_lower}
use Rattle.network.proofs.Sorted.{AreApart, found, holds, ordered}
use Rattle.network.proofs.Crowded.{inside}
use Rattle.network.proofs.First.{first_is, first_none}

-- what a call by reference gave
pub told : {F T R : Type 0} (g : Shared F (Bor T × Unit {0}) R) (f : F) (p : Bor T) (r s : R) → g.post f (p, tt) r → r ≡ s → FnReturnsAt g f p.now s
told {F} {T} {R} g f p r s h e = let P : R → Type 0 = λ x. g.post f (p, tt) x in record { shown = p; shows = refl; says = record { met = subst P e h } }

module _ (Passes Fails : Flight → Type 0) (slots : List (Option Flight)) where
  pub record BestAt (end number : ℕ) : Type 0 where
    pub key : ℕ
    pub flight : Flight
    pub here : get_or slots key None ≡ Some flight
    pub numbered : flight.number ≡ number
    pub passes : Passes flight
    pub first : (other : ℕ) (f : Flight) → other < end → get_or slots other None ≡ Some f → Fails f ⊎ (number ≤ f.number)

  -- what the best of the keys below an end is
  abbrev pub IsBest : ℕ → Option ℕ → Type 0
  IsBest end None = (other : ℕ) (f : Flight) → other < end → get_or slots other None ≡ Some f → Fails f
  IsBest end (Some best) = BestAt end best

  -- a key with no message that passes and is lower changes nothing
  pub IsBest-skip : (end : ℕ) (best : Option ℕ) → IsBest end best → ((f : Flight) → get_or slots end None ≡ Some f → Fails f ⊎ (is_lower f.number best ≡ false)) → IsBest (end + 1) best
  IsBest-skip end None h skip = λ other f below at. elim (cases_eq other end) [
    | inl e ↦ elim (skip f (rw e at at)) [ inl fails ↦ fails | inr lower ↦ absurd (true≢false lower) ]
    | inr ne ↦ h other f (omega arith) at
  ]
  IsBest-skip end (Some best) h skip = record {
    key = h.key;
    flight = h.flight;
    here = h.here;
    numbered = h.numbered;
    passes = h.passes;
    first = λ other f below at. elim (cases_eq other end) [
      | inl e ↦ elim (skip f (rw e at at)) [ inl fails ↦ inl fails | inr lower ↦ inr (ltb-false f.number best lower) ]
      | inr ne ↦ h.first other f (omega arith) at
    ];
  }

  first_taken : (end : ℕ) (best : Option ℕ) (g : Flight) → IsBest end best → is_lower g.number best ≡ true → (other : ℕ) (f : Flight) → other < end → get_or slots other None ≡ Some f
      → Fails f ⊎ (g.number ≤ f.number)
  first_taken end None g h lower other f below at = inl (h other f below at)
  first_taken end (Some best) g h lower other f below at = elim (h.first other f below at) [
    | inl fails ↦ inl fails
    | inr later ↦ inr (omega (arith, later, ltb-true g.number best lower))
  ]

  -- a key with a lower message that passes
  pub IsBest-take : (end : ℕ) (best : Option ℕ) (g : Flight) → IsBest end best → get_or slots end None ≡ Some g → is_lower g.number best ≡ true → Passes g → IsBest (end + 1) (Some g.number)
  IsBest-take end best g h at lower passes = record {
    key = end;
    flight = g;
    here = at;
    numbered = refl;
    passes = passes;
    first = λ other f below there. elim (cases_eq other end) [
      | inl e ↦ let same : g ≡ f = same_Some g f (sym at ∙ (rw e at there)) in inr (omega (arith, ap (λ (x : Flight). x.number) same))
      | inr ne ↦ first_taken end best g h lower other f (omega arith) there
    ];
  }

-- a message has a number from one on, or a lower one
abbrev pub IsFrom : ℕ → Flight → Type 0
IsFrom number f = number ≤ f.number

abbrev pub IsBelow : ℕ → Flight → Type 0
IsBelow number f = f.number < number

module _ (slots : List (Option Flight)) (end : ℕ) (all : length slots ≤ end) where
  below_end : (key : ℕ) (f : Flight) → get_or slots key None ≡ Some f → key < end
  below_end key f at = omega (arith, inside slots key f at, all)

  -- the best of all keys is the oldest, and where there is no best, none passes
  module _ (answers : Message → Bool → Type 0) where
    pub oldest_best : AreApart slots → (best : Option ℕ) → IsBest (λ f. answers f.message true) (λ f. answers f.message false) slots end best → IfSome best (IsOldest answers (in_order slots))
    oldest_best apart None h = tt
    oldest_best apart (Some number) h = record {
      flight = h.flight;
      here = subst (λ n. flight_at (in_order slots) n ≡ Some h.flight) h.numbered (holds slots apart h.key h.flight h.here);
      passes = h.passes;
      first = λ other f at.
          let one = found slots other f at in
          elim (h.first one.0 f (below_end one.0 f one.1) one.1) [ inl fails ↦ inl fails | inr later ↦ inr (omega (arith, later, one.2)) ];
    }

    pub none_best : (best : Option ℕ) → IsBest (λ f. answers f.message true) (λ f. answers f.message false) slots end best → IfNone best (NonePasses answers (in_order slots))
    none_best None h = λ number f at. let one = found slots number f at in h one.0 f (below_end one.0 f one.1) one.1
    none_best (Some number) h = tt

  -- the best of all keys that have a number from one on is the first from there
  module _ (number : ℕ) (apart : AreApart slots) where
    pub first_best : (best : ℕ) → IsBest (IsFrom number) (IsBelow number) slots end (Some best) → flight_at (in_order slots) best ≡ first_from number (in_order slots)
    first_best best h =
        let held = holds slots apart h.key h.flight h.here in
        let least : (n : ℕ) (g : Flight) → flight_at (in_order slots) n ≡ Some g → number ≤ n → h.flight.number ≤ n = λ n g at above.
        let one = found slots n g at in
        elim (h.first one.0 g (below_end one.0 g one.1) one.1) [ inl lower ↦ absurd (omega (arith, lower, one.2, above)) | inr later ↦ omega (arith, later, one.2, h.numbered) ] in
        subst (λ n. flight_at (in_order slots) n ≡ Some h.flight) h.numbered held ∙ sym (first_is number (in_order slots) (ordered slots apart) h.flight held h.passes least)

    pub first_no_best : IsBest (IsFrom number) (IsBelow number) slots end None → None ≡ first_from number (in_order slots)
    first_no_best h = sym (first_none number (in_order slots) (ordered slots apart) (λ n f at. let one = found slots n f at in omega (arith, one.2, h one.0 f (below_end one.0 f one.1) one.1)))
