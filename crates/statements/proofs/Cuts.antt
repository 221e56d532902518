-- A cut, by the place of the byte at which it is made.
use Rattle.std.proofs.Common.{◌≡◌, ℕ, ◌+◌, ◌-◌, Bool, true, false, cond, not, suc, List, [], ◌∷◌, length, take, drop, Option, Some, None, nat_lt, refl, sym, ap, ◌∙◌, arith}
use Rattle.std.specs.List.{position, position_or_len, slice_split, onto_first}
use Rattle.std.proofs.lemmas.Grind.{common_steps}
use Rattle.std.proofs.lemmas.Bool.Decides.{nat_tests}
use Rattle.statements.specs.Cutting.{Cut, cut, with_front, is_blank, trim_start, cut_word}

-- what is behind the first n bytes and one more, if there are so many
abbrev behind : ℕ → List ℕ → Option (List ℕ)
behind n xs = cond (nat_lt n (length xs)) (Some (drop (n + 1) xs)) None

-- a cut behind the first n bytes
abbrev cut_behind : ℕ → List ℕ → Cut
cut_behind n xs = record { front = take n xs; rest = behind n xs }

one_more : (n : ℕ) → 1 + n ≡ suc n
one_more n = omega arith

more_one : (n : ℕ) → suc n + 1 ≡ suc (n + 1)
more_one n = omega arith

less : (n m : ℕ) → nat_lt n m ≡ nat_lt (suc n) (suc m)
less n m = grind (arith, nat_tests)

some : (m : ℕ) → true ≡ nat_lt 0 (suc m)
some m = grind (arith, nat_tests)

behind_first : (x : ℕ) (xs : List ℕ) → Some xs ≡ behind 0 (x ∷ xs)
behind_first x xs = ap (λ b. cond b (Some xs) None) (some (length xs))

behind_next : (x n : ℕ) (xs : List ℕ) → behind n xs ≡ behind (suc n) (x ∷ xs)
behind_next x n xs =
    ap (λ b. cond b (Some (drop (n + 1) xs)) None) (less n (length xs)) ∙ ap (λ k. cond (nat_lt (suc n) (suc (length xs))) (Some (drop k (x ∷ xs))) None) (sym (more_one n))

next : (x n : ℕ) (xs : List ℕ) → with_front x (cut_behind n xs) ≡ cut_behind (1 + n) (x ∷ xs)
next x n xs = rw (one_more n) (ap (λ (r : Option (List ℕ)). record { front = x ∷ take n xs; rest = r }) (behind_next x n xs))

-- the first byte stays in front, or the cut is made at it
step : (b : Bool) (x n : ℕ) (xs : List ℕ) (later : Cut) → later ≡ cut_behind n xs
    → cond b (record { front = []; rest = Some xs }) (with_front x later) ≡ cut_behind (cond (not b) (1 + n) 0) (x ∷ xs)
step true x n xs later h = ap (λ (r : Option (List ℕ)). record { front = []; rest = r }) (behind_first x xs)
step false x n xs later h = ap (with_front x) h ∙ next x n xs

at : (p : ℕ → Bool) (xs : List ℕ) → cut p xs ≡ cut_behind (position_or_len p xs) xs
at p [] = refl
at p (x ∷ xs) = step (p x) x (position_or_len p xs) xs (cut p xs) (at p xs)

pub cut_found : (p : ℕ → Bool) (xs : List ℕ) (i : ℕ) → position p xs ≡ Some i → cut p xs ≡ record { front = take i xs; rest = Some (take (length xs - (i + 1)) (drop (i + 1) xs)) }
cut_found p xs i h = at p xs ∙ grind (arith, common_steps)

pub cut_none : (p : ℕ → Bool) (xs : List ℕ) → position p xs ≡ None → cut p xs ≡ record { front = xs; rest = None }
cut_none p xs h = at p xs ∙ grind (arith, common_steps)

-- the parts of a list, by the first cut
abbrev pub other_parts : (ℕ → Bool) → Option (List ℕ) → List (List ℕ)
other_parts p None = []
other_parts p (Some rest) = slice_split p rest

part_step : (b : Bool) (p : ℕ → Bool) (x : ℕ) (xs : List ℕ) (later : Cut) → slice_split p xs ≡ later.front ∷ other_parts p later.rest
    → cond b ([] ∷ slice_split p xs) (onto_first x (slice_split p xs)) ≡ (cond b (record { front = []; rest = Some xs }) (with_front x later)).front ∷ other_parts p (cond b (record { front = []; rest = Some xs }) (with_front x later)).rest
part_step true p x xs later h = refl
part_step false p x xs later h = ap (onto_first x) h

pub parts_cut : (p : ℕ → Bool) (xs : List ℕ) → slice_split p xs ≡ (cut p xs).front ∷ other_parts p (cut p xs).rest
parts_cut p [] = refl
parts_cut p (x ∷ xs) = part_step (p x) p x xs (cut p xs) (parts_cut p xs)

pub last_part : (p : ℕ → Bool) (xs front : List ℕ) → record { front = front; rest = None } ≡ cut p xs → slice_split p xs ≡ front ∷ []
last_part p xs front h = parts_cut p xs ∙ ap (λ (c : Cut). c.front ∷ other_parts p c.rest) (sym h)

pub first_part : (p : ℕ → Bool) (xs front rest : List ℕ) → record { front = front; rest = Some rest } ≡ cut p xs → slice_split p xs ≡ front ∷ slice_split p rest
first_part p xs front rest h = parts_cut p xs ∙ ap (λ (c : Cut). c.front ∷ other_parts p c.rest) (sym h)

-- the first word

pub word_found : (xs : List ℕ) (i : ℕ) (r : List ℕ) → position is_blank xs ≡ Some i → r ≡ trim_start (take (length xs - (i + 1)) (drop (i + 1) xs)) → (take i xs, r) ≡ cut_word xs
unfolding cut_word
word_found xs i r h e = rw (cut_found is_blank xs i h, e) refl

pub word_none : (xs : List ℕ) → position is_blank xs ≡ None → (xs, []) ≡ cut_word xs
unfolding cut_word
word_none xs h = rw (cut_none is_blank xs h) refl
