-- What a search for a number found, or that there is none.
use Rattle.std.proofs.Common.{◌≡◌, ◌≢◌, ◌<◌, ◌≤◌, ◌+◌, ◌%◌, ℕ, true, false, List, Option, Some, None, get_or, refl, sym, ap, subst, ◌∙◌}
use Rattle.std.specs.Prelude.{is_some, IsSomeAnd, IfSome, IfNone}
use Rattle.std.proofs.lemmas.Bool.{true≢false, false≢true}
use Rattle.network.specs.declared.net.Flight.{Flight}
use Rattle.network.specs.Flights.{flight_at}
use Rattle.network.specs.Sorted.{in_order, AreKept, IsUnder, IsAbsent}
use Rattle.network.proofs.Sorted.{AreApart, holds}

-- a number is under a key
abbrev pub IsHeld : List (Option Flight) → ℕ → Type 0
IsHeld slots number = (key : ℕ) × (f : Flight) × (get_or slots key None ≡ Some f) × (f.number ≡ number)

-- what a search for a number found, or that there is none
pub held_at : (slots : List (Option Flight)) (number key : ℕ) → IsUnder slots number key → (f : Flight) × (get_or slots key None ≡ Some f) × (f.number ≡ number)
held_at slots number key is = by_cases (get_or slots key None) refl is
  where
    by_cases : (o : Option Flight) → get_or slots key None ≡ o → IsSomeAnd o (λ f. f.number ≡ number) → (f : Flight) × (get_or slots key None ≡ Some f) × (f.number ≡ number)
    by_cases None at has = absurd has
    by_cases (Some f) at has = (f, at, has)

pub held : (slots : List (Option Flight)) (number : ℕ) (o : Option ℕ) → IfSome o (IsUnder slots number) → is_some o ≡ true → IsHeld slots number
held slots number None is some = absurd (false≢true some)
held slots number (Some key) is some = let one = held_at slots number key is in (key, one.0, one.1, one.2)

pub gone : (slots : List (Option Flight)) (number : ℕ) (o : Option ℕ) → IfNone o (IsAbsent slots number) → is_some o ≡ false → IsAbsent slots number
gone slots number None is none = is
gone slots number (Some key) is none = absurd (true≢false none)

-- what is under a key with the number is in flight with it
pub number_at : (slots : List (Option Flight)) (number key : ℕ) (f : Flight) → IsUnder slots number key → get_or slots key None ≡ Some f → f.number ≡ number
number_at slots number key f is at = subst (λ (o : Option Flight). IsSomeAnd o (λ g. g.number ≡ number)) at is

pub at_key : (slots : List (Option Flight)) → AreApart slots → (number key : ℕ) → IsUnder slots number key → get_or slots key None ≡ flight_at (in_order slots) number
at_key slots apart number key is =
    let one = held_at slots number key is in
    one.1 ∙ sym (holds slots apart key one.0 one.1) ∙ ap (λ n. flight_at (in_order slots) n) one.2

-- of the last numbers, one that isn't where its remainder says is under no key
pub not_there : (slots : List (Option Flight)) (next : ℕ) (keys : List ℕ) (number : ℕ) → AreKept slots next keys → next < 18446744073709551615 → next ≤ number + 64
    → ((f : Flight) → get_or slots (get_or keys (number % 64) 0) None ≡ Some f → f.number ≢ number) → IsAbsent slots number
not_there slots next keys number kept range near none key f at e =
    let here : get_or keys (number % 64) 0 ≡ key = subst (λ n. get_or keys (n % 64) 0 ≡ key) e (kept.recent key f at range (rw e near)) in
    none f (ap (λ k. get_or slots k None) here ∙ at) e
