-- How a net holds its messages. No public clause cites this file.
use Rattle.std.specs.Prelude.{ℕ, ◌≡◌, ◌≢◌, ◌<◌, ◌≤◌, ◌+◌, ◌%◌, Bool, true, cond, nat_le, nat_lt, List, [], ◌∷◌, Option, Some, None, IsSomeAnd, slice_index}
use Rattle.std.specs.List.{slice_index_or}
use Rattle.network.specs.declared.net.Flight.{Flight}

-- a message before the first that has a number as great
abbrev pub put_in : Flight → List Flight → List Flight
put_in f [] = f ∷ []
put_in f (g ∷ gs) = cond (nat_le f.number g.number) (f ∷ g ∷ gs) (g ∷ put_in f gs)

-- the messages of the slots, by rising number
abbrev pub in_order : List (Option Flight) → List Flight
in_order [] = []
in_order (None ∷ rest) = in_order rest
in_order (Some f ∷ rest) = put_in f (in_order rest)

-- each number is below the next
abbrev pub AreBelow : List (Option Flight) → ℕ → Type 0
AreBelow slots next = (key : ℕ) (f : Flight) → slice_index_or slots key None ≡ Some f → f.number < next

-- each number is below the next, no two keys have messages of one number, and the last 64 numbers have their keys, each where its remainder says
pub record AreKept (slots : List (Option Flight)) (next : ℕ) (keys : List ℕ) : Type 0 where
  pub range : next ≤ 18446744073709551615
  pub below : AreBelow slots next
  pub apart : (key other : ℕ) (f g : Flight) → slice_index_or slots key None ≡ Some f → slice_index_or slots other None ≡ Some g → f.number ≡ g.number → key ≡ other
  pub recent : (key : ℕ) (f : Flight) → slice_index_or slots key None ≡ Some f → next < 18446744073709551615 → next ≤ f.number + 64 → slice_index keys (f.number % 64) ≡ key

-- while numbers last, no message in flight has a number below the first
pub record AreFrom (slots : List (Option Flight)) (next first : ℕ) : Type 0 where
  pub before : first ≤ next
  pub above : next < 18446744073709551615 → (key : ℕ) (f : Flight) → slice_index_or slots key None ≡ Some f → first ≤ f.number

-- a message with the number is under a key, or under none
abbrev pub IsUnder : List (Option Flight) → ℕ → ℕ → Type 0
IsUnder slots number key = IsSomeAnd (slice_index_or slots key None) (λ f. f.number ≡ number)

abbrev pub IsAbsent : List (Option Flight) → ℕ → Type 0
IsAbsent slots number = (key : ℕ) (f : Flight) → slice_index_or slots key None ≡ Some f → f.number ≢ number

-- whether a number is below the best so far
abbrev pub is_lower : ℕ → Option ℕ → Bool
is_lower number None = true
is_lower number (Some best) = nat_lt number best
