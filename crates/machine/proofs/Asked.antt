-- Harts that are asked one after another, by rising number.
use Rattle.std.proofs.Common.{◌≡◌, ◌<◌, ◌≤◌, ◌+◌, ◌∙◌, ◌++◌, ◌&&◌, ℕ, Bool, true, false, List, [], ◌∷◌, map, nat_lt, inl, inr, arith, refl, sym, ap}
use Rattle.std.specs.Prelude.{◌==◌, ◌||◌, ◌⊎◌, cond, count_by}
use Rattle.std.proofs.lemmas.Bool.{cases_lt, lt-ltb, le-ltb, ne_eqb, eq-eqb}
use Rattle.std.proofs.lemmas.List.{map-append}
use Rattle.std.proofs.lemmas.List.Sums.{sum_by-append}
use Rattle.words.specs.Harts.{names, IsNext}
use Rattle.hart.specs.declared.reply.ForwardAnswer.{ForwardAnswer}
use Rattle.machine.specs.Serving.{is_asked, refuses}

or_none : (b : Bool) → (b || false) ≡ b
or_none true = refl
or_none false = refl

or_both : (a b c : Bool) → (a || (b || c)) ≡ ((a || b) || c)
or_both true b c = refl
or_both false b c = refl

and_all : (b : Bool) → (b && true) ≡ b
and_all true = refl
and_all false = refl

and_none : (b : Bool) → (b && false) ≡ false
and_none true = refl
and_none false = refl

-- one more
asked_also : (xs : List (ℕ × ForwardAnswer)) (x : ℕ × ForwardAnswer) (i : ℕ) → is_asked (xs ++ x ∷ []) i ≡ (is_asked xs i || (x.0 == i))
asked_also [] x i = or_none (x.0 == i)
asked_also (y ∷ ys) x i = ap (λ b. (y.0 == i) || b) (asked_also ys x i) ∙ or_both (y.0 == i) (is_asked ys i) (x.0 == i)

-- of the harts below the first there is none
pub asked_none : (asked i : ℕ) → is_asked [] i ≡ (names asked i && nat_lt i 0)
asked_none asked i = sym (ap (λ b. names asked i && b) (le-ltb i 0 (omega arith)) ∙ and_none (names asked i))

-- of a set, the next has a number that is none of the first
module _ (asked from to : ℕ) (next : IsNext asked from to) (i : ℕ) where
  pub named_next : ((names asked i && nat_lt i from) || (to == i)) ≡ (names asked i && nat_lt i (to + 1))
  named_next = by (cases_lt i from) (cases_lt i to) (cases_lt i (to + 1))
    where
      by : (i < from) ⊎ (from ≤ i) → (i < to) ⊎ (to ≤ i) → (i < to + 1) ⊎ (to + 1 ≤ i) → ((names asked i && nat_lt i from) || (to == i)) ≡ (names asked i && nat_lt i (to + 1))
      by (inl low) before within =
          let first : nat_lt i from ≡ true = lt-ltb i from low in
          let also : nat_lt i (to + 1) ≡ true = lt-ltb i (to + 1) (omega (arith, low, next.from)) in
          let apart : (to == i) ≡ false = ne_eqb to i (λ e. omega (arith, e, low, next.from)) in
          ap (λ b. (names asked i && b) || (to == i)) first ∙ ap (λ b. (names asked i && true) || b) apart ∙ or_none (names asked i && true) ∙ ap (λ b. names asked i && b) (sym also)
      by (inr high) (inl before) within =
          let none : names asked i ≡ false = next.first i high before in
          let apart : (to == i) ≡ false = ne_eqb to i (λ e. omega (arith, e, before)) in
          ap (λ b. (b && nat_lt i from) || (to == i)) none ∙ apart ∙ ap (λ b. b && nat_lt i (to + 1)) (sym none)
      by (inr high) (inr behind) (inl within) =
          let same : to ≡ i = omega (arith, behind, within) in
          let here : (to == i) ≡ true = eq-eqb to i same in
          let named : names asked i ≡ true = ap (names asked) (sym same) ∙ next.named in
          let later : nat_lt i from ≡ false = le-ltb i from high in
          let also : nat_lt i (to + 1) ≡ true = lt-ltb i (to + 1) within in
          ap (λ b. (names asked i && b) || (to == i)) later ∙ ap (λ b. b || (to == i)) (and_none (names asked i)) ∙ here ∙ sym (ap (λ b. b && nat_lt i (to + 1)) named ∙ also)
      by (inr high) (inr behind) (inr past) =
          let later : nat_lt i from ≡ false = le-ltb i from high in
          let apart : (to == i) ≡ false = ne_eqb to i (λ e. omega (arith, e, past)) in
          let beyond : nat_lt i (to + 1) ≡ false = le-ltb i (to + 1) past in
          ap (λ b. (names asked i && b) || (to == i)) later ∙ ap (λ b. b || (to == i)) (and_none (names asked i)) ∙ apart ∙ sym (ap (λ b. names asked i && b) beyond ∙ and_none (names asked i))

  pub asked_more : (xs : List (ℕ × ForwardAnswer)) (a : ForwardAnswer) → is_asked xs i ≡ (names asked i && nat_lt i from) → is_asked (xs ++ (to, a) ∷ []) i ≡ (names asked i && nat_lt i (to + 1))
  asked_more xs a so_far = asked_also xs (to, a) i ∙ ap (λ b. b || (to == i)) so_far ∙ named_next

-- and behind the last there is none
pub named_all : (asked from i : ℕ) → ((h : ℕ) → from ≤ h → names asked h ≡ false) → (names asked i && nat_lt i from) ≡ names asked i
named_all asked from i none = by (cases_lt i from)
  where
    by : (i < from) ⊎ (from ≤ i) → (names asked i && nat_lt i from) ≡ names asked i
    by (inl low) = ap (λ b. names asked i && b) (lt-ltb i from low) ∙ and_all (names asked i)
    by (inr high) = ap (λ b. b && nat_lt i from) (none i high) ∙ sym (none i high)

pub asked_all : (asked from : ℕ) (xs : List (ℕ × ForwardAnswer)) (i : ℕ) → ((h : ℕ) → from ≤ h → names asked h ≡ false) → is_asked xs i ≡ (names asked i && nat_lt i from) → names asked i ≡ is_asked xs i
asked_all asked from xs i none so_far = sym (so_far ∙ named_all asked from i none)

-- how many refuse, with one more
pub refused_more : (xs : List (ℕ × ForwardAnswer)) (x : ℕ × ForwardAnswer) → count_by refuses (map (λ y. y.1) (xs ++ x ∷ [])) ≡ count_by refuses (map (λ y. y.1) xs) + count_by refuses (x.1 ∷ [])
refused_more xs x = ap (count_by refuses) (map-append (λ (y : ℕ × ForwardAnswer). y.1) xs (x ∷ [])) ∙ sum_by-append (λ a. cond (refuses a) 1 0) (map (λ (y : ℕ × ForwardAnswer). y.1) xs) (x.1 ∷ [])
