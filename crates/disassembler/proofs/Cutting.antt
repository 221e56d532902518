-- Texts that are cut at a separator.
use Rattle.std.proofs.Common.{◌≡◌, ◌≢◌, ℕ, Bool, true, false, not, cond, ◌&&◌, ◌==◌, List, [], ◌∷◌, ◌++◌, refl, ap}
use Rattle.std.proofs.lemmas.Bool.{and_parts, not-true, eqb-false, ne_eqb}

-- no byte of the text is this one
abbrev pub Lacks : ℕ → List ℕ → Type 0
Lacks c [] = Unit {0}
Lacks c (x ∷ xs) = (x ≢ c) × Lacks c xs

-- a test of that
abbrev pub lacks : ℕ → List ℕ → Bool
lacks c [] = true
lacks c (x ∷ xs) = not (x == c) && lacks c xs

pub lacks-true : (c : ℕ) (xs : List ℕ) → lacks c xs ≡ true → Lacks c xs
lacks-true c [] h = tt
lacks-true c (x ∷ xs) h =
    let both = and_parts (not (x == c)) (lacks c xs) h in
    (eqb-false x c (not-true (x == c) both.0), lacks-true c xs both.1)

pub tail-same : (x y : ℕ) (xs ys : List ℕ) → x ∷ xs ≡ y ∷ ys → xs ≡ ys
tail-same x y xs ys e = cc

-- what stands before the first separator, and what after it
pub cut-same : (c : ℕ) (a b x y : List ℕ) → Lacks c a → Lacks c b → a ++ c ∷ x ≡ b ++ c ∷ y → (a ≡ b) × (x ≡ y)
cut-same c [] [] x y la lb e = (refl, cc)
cut-same c [] (k ∷ b) x y la lb e = absurd (lb.0 (cc))
cut-same c (h ∷ a) [] x y la lb e = absurd (la.0 (cc))
cut-same c (h ∷ a) (k ∷ b) x y la lb e =
    let head : h ≡ k = cc in
    let rest = cut-same c a b x y la.1 lb.1 (tail-same h k (a ++ c ∷ x) (b ++ c ∷ y) e) in
    let front : a ≡ b = rest.0 in
    let whole : h ∷ a ≡ k ∷ b = cc in
    (whole, rest.1)

-- the text up to its first space
abbrev pub first_word : List ℕ → List ℕ
first_word [] = []
first_word (x ∷ xs) = cond (x == 32) [] (x ∷ first_word xs)

step : (b : Bool) (x : ℕ) (xs ys : List ℕ) → b ≡ false → xs ≡ ys → cond b [] (x ∷ xs) ≡ x ∷ ys
step true x xs ys h e = absurd (cc)
step false x xs ys h e = ap (λ l. x ∷ l) e

other : (x c : ℕ) → x ≢ c → (x == c) ≡ false
other x c h = ne_eqb x c h

pub first_word-followed : (a rest : List ℕ) → Lacks 32 a → first_word (a ++ 32 ∷ rest) ≡ a
first_word-followed [] rest la = refl
first_word-followed (x ∷ a) rest la =
    step (x == 32) x (first_word (a ++ 32 ∷ rest)) a (other x 32 la.0) (first_word-followed a rest la.1)

pub first_word-alone : (a : List ℕ) → Lacks 32 a → first_word a ≡ a
first_word-alone [] la = refl
first_word-alone (x ∷ a) la = step (x == 32) x (first_word a) a (other x 32 la.0) (first_word-alone a la.1)
