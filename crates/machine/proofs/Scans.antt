-- Messages are gone over in the order of sending until one has what is looked for.
use Rattle.std.proofs.Common.{◌≡◌, ◌<◌, ◌≤◌, ◌+◌, ◌⊎◌, inl, inr, ℕ, zero, suc, List, Option, Some, None, arith, refl, sym, ap, ◌∙◌}
use Rattle.std.specs.Option.{option_map, option_or, option_and_then}
use Rattle.std.proofs.lemmas.Bool.{cases_lt, cases_eq}
use Rattle.network.specs.declared.net.Flight.{Flight}
use Rattle.network.specs.Flights.{AreInOrder, AreNumbered, first_from}
use Rattle.network.proofs.OneOrder.{from_is, none_between, none_from}
use Rattle.protocol.specs.Messages.{Message, shown}
use Rattle.protocol.specs.Network.{Network, LiesBelow}
use Rattle.protocol.specs.Values.{first_below}
use Rattle.machine.specs.Mail.{in_flight}
use Rattle.machine.specs.Reads.{FirstOf}

-- nothing so far
abbrev pub NoneBelow : {A : Type 0} → Network → (Message → Option A) → ℕ → Type 0
NoneBelow net f n = (number : ℕ) → number < n → option_and_then f (net number) ≡ None

pub none_below : {A : Type 0} (f : ℕ → Option A) (n : ℕ) → ((k : ℕ) → k < n → f k ≡ None) → first_below n f ≡ None
none_below f zero none = refl
none_below f (suc n) none = (λ i. option_or (none_below f n (λ k lt. none k (omega arith)) i) (f n)) ∙ none n (omega arith)

-- the first is found at a number
pub found_at : {A : Type 0} (f : ℕ → Option A) (number : ℕ) (x : A) (n : ℕ) → ((k : ℕ) → k < number → f k ≡ None) → f number ≡ Some x → number < n → first_below n f ≡ Some x
found_at f number x zero none here lt = absurd (omega arith)
found_at f number x (suc n) none here lt = elim (cases_eq n number) [
  | inl e ↦ (λ i. option_or (none_below f n (λ k below. none k (omega (arith, below, e))) i) (f n)) ∙ ap f e ∙ here
  | inr ne ↦ λ i. option_or (found_at f number x n none here (omega (arith, lt, ne)) i) (f n)
]

-- a message that is there lies below
inside : {A : Type 0} (net : Network) (f : Message → Option A) (number : ℕ) (x : A) (keys : ℕ) → option_and_then f (net number) ≡ Some x → LiesBelow keys net → number < keys
inside net f number x keys here below = elim (cases_lt number keys) [
  | inl lt ↦ lt
  | inr le ↦ absurd (no (sym (ap (option_and_then f) (below number le)) ∙ here))
]
  where
    no : None ≡ Some x → ⊥
    no e = cc

first_found : {A : Type 0} (net : Network) (f : Message → Option A) (number : ℕ) (x : A) → NoneBelow net f number → option_and_then f (net number) ≡ Some x → FirstOf net f (Some x)
first_found net f number x none here keys below = sym (found_at (λ k. option_and_then f (net k)) number x keys none here (inside net f number x keys here below))

first_none : {A : Type 0} (net : Network) (f : Message → Option A) (n : ℕ) → NoneBelow net f n → LiesBelow n net → FirstOf net f None
first_none {A} net f n none lies keys below = sym (none_below (λ k. option_and_then f (net k)) keys (λ k lt. by k (cases_lt k n)))
  where
    by : (k : ℕ) → (k < n) ⊎ (n ≤ k) → option_and_then f (net k) ≡ None
    by k (inl lt) = none k lt
    by k (inr le) = ap (option_and_then f) (lies k le)

-- one number more without it
none_more : {A : Type 0} (net : Network) (f : Message → Option A) (n : ℕ) → NoneBelow net f n → option_and_then f (net n) ≡ None → NoneBelow net f (n + 1)
none_more net f n none here = λ number lt. elim (cases_eq number n) [
  | inl e ↦ ap (λ k. option_and_then f (net k)) e ∙ here
  | inr ne ↦ none number (omega (arith, lt, ne))
]

-- From a number on to the next message

module _ {A : Type 0} (fs : List Flight) (f : Message → Option A) (number : ℕ) (none : NoneBelow (in_flight fs) f number) where
  module _ (g : Flight) (order : AreInOrder fs) (is : first_from number fs ≡ Some g) where
    none_before : NoneBelow (in_flight fs) f g.number
    none_before = λ j below. elim (cases_lt j number) [
      | inl lt ↦ none j lt
      | inr from ↦ ap (λ o. option_and_then f (option_map shown (option_map (λ (h : Flight). h.message) o))) (none_between number fs g order is j from below)
    ]

    at_it : (o : Option A) → f (shown g.message) ≡ o → option_and_then f (in_flight fs g.number) ≡ o
    at_it o here = ap (λ o. option_and_then f (option_map shown (option_map (λ (h : Flight). h.message) o))) (from_is number fs g is).1 ∙ here

    pub found_from : (x : A) → f (shown g.message) ≡ Some x → FirstOf (in_flight fs) f (Some x)
    found_from x here = first_found (in_flight fs) f g.number x none_before (at_it (Some x) here)

    pub none_on : f (shown g.message) ≡ None → NoneBelow (in_flight fs) f (g.number + 1)
    none_on here = none_more (in_flight fs) f g.number none_before (at_it None here)

  pub none_left : first_from number fs ≡ None → FirstOf (in_flight fs) f None
  none_left is = first_none (in_flight fs) f number none (λ j le. ap (λ o. option_map shown (option_map (λ (h : Flight). h.message) o)) (none_from number fs is j le))

-- the next message has a number below that of the one to be sent
pub next_below : (fs : List Flight) (number next : ℕ) (g : Flight) → AreNumbered fs next → first_from number fs ≡ Some g → (number ≤ g.number) × (g.number < next)
next_below fs number next g numbered is = let there = from_is number fs g is in (there.0, numbered g.number g there.1)
