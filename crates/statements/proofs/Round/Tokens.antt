-- Texts that are read as they stand: no byte of them parts operands or ends a statement.
use Rattle.std.proofs.Common.{◌≡◌, ℕ, ◌+◌, ◌≤◌, Bool, true, false, cond, not, ◌&&◌, ◌==◌, List, [], ◌∷◌, ◌++◌, length, Some, None, refl, ap, ◌∙◌, arith, length-append}
use Rattle.std.specs.List.{list_all}
use Rattle.std.proofs.lemmas.Bool.{and_parts, and_from, not-true}
use Rattle.std.proofs.lemmas.List.Folds.{list_all-append}
use Rattle.statements.specs.Cutting.{cut, with_front, is_blank, is_empty, trim_start, trim_end, trim}

-- a byte of a statement: no `#`, colon or carriage return
abbrev pub is_plain : ℕ → Bool
is_plain c = not (c == 35) && (not (c == 58) && not (c == 13))

-- a byte of an operand: no blank or comma either
abbrev pub is_solid : ℕ → Bool
is_solid c = not (is_blank c) && (not (c == 44) && is_plain c)

pub all_weaker : (p q : ℕ → Bool) → ((c : ℕ) → p c ≡ true → q c ≡ true) → (t : List ℕ) → list_all p t ≡ true → list_all q t ≡ true
all_weaker p q h [] e = refl
all_weaker p q h (c ∷ cs) e =
    let b = and_parts (p c) (list_all p cs) e in
    and_from (q c) (list_all q cs) (h c b.0) (all_weaker p q h cs b.1)

pub all_both : (p : ℕ → Bool) (xs ys : List ℕ) → list_all p xs ≡ true → list_all p ys ≡ true → list_all p (xs ++ ys) ≡ true
all_both p xs ys a b = list_all-append p xs ys ∙ and_from (list_all p xs) (list_all p ys) a b

solid_parts : (c : ℕ) → is_solid c ≡ true → (is_blank c ≡ false) × (not (c == 44) ≡ true) × (is_plain c ≡ true)
solid_parts c e =
    let a = and_parts (not (is_blank c)) (not (c == 44) && is_plain c) e in
    let b = and_parts (not (c == 44)) (is_plain c) a.1 in
    (not-true (is_blank c) a.0, b.0, b.1)

pub solid_no_comma : (t : List ℕ) → list_all is_solid t ≡ true → list_all (λ c. not (c == 44)) t ≡ true
solid_no_comma = all_weaker is_solid (λ c. not (c == 44)) (λ c e. (solid_parts c e).1)

pub solid_no_blank : (t : List ℕ) → list_all is_solid t ≡ true → list_all (λ c. not (is_blank c)) t ≡ true
solid_no_blank = all_weaker is_solid (λ c. not (is_blank c)) (λ c e. ap not (solid_parts c e).0)

pub solid_plain : (t : List ℕ) → list_all is_solid t ≡ true → list_all is_plain t ≡ true
solid_plain = all_weaker is_solid is_plain (λ c e. (solid_parts c e).2)

-- Cuts

pub cut_at : (p : ℕ → Bool) (a : List ℕ) (c : ℕ) (b : List ℕ) → list_all (λ x. not (p x)) a ≡ true → p c ≡ true → cut p (a ++ c ∷ b) ≡ record { front = a; rest = Some b }
cut_at p [] c b h e = ap (λ t. cond t (record { front = []; rest = Some b }) (with_front c (cut p b))) e
cut_at p (x ∷ a) c b h e =
    let k = and_parts (not (p x)) (list_all (λ x. not (p x)) a) h in
    ap (λ t. cond t (record { front = []; rest = Some (a ++ c ∷ b) }) (with_front x (cut p (a ++ c ∷ b)))) (not-true (p x) k.0)
    ∙ ap (with_front x) (cut_at p a c b k.1 e)

pub cut_nowhere : (p : ℕ → Bool) (a : List ℕ) → list_all (λ x. not (p x)) a ≡ true → cut p a ≡ record { front = a; rest = None }
cut_nowhere p [] h = refl
cut_nowhere p (x ∷ a) h =
    let k = and_parts (not (p x)) (list_all (λ x. not (p x)) a) h in
    ap (λ t. cond t (record { front = []; rest = Some a }) (with_front x (cut p a))) (not-true (p x) k.0) ∙ ap (with_front x) (cut_nowhere p a k.1)

-- Blanks

-- an operand, or a mnemonic
pub record IsToken (t : List ℕ) : Type 0 where
  pub solid : list_all is_solid t ≡ true
  pub some : is_empty t ≡ false
  pub short : length t ≤ 20

-- a text of which neither end is blank
pub record IsTight (t : List ℕ) : Type 0 where
  pub front : trim_start t ≡ t
  pub back : trim_end t ≡ t
  pub some : is_empty t ≡ false

front_solid : (t u : List ℕ) → list_all is_solid t ≡ true → is_empty t ≡ false → trim_start (t ++ u) ≡ t ++ u
front_solid [] u h some = absurd (cc)
front_solid (c ∷ cs) u h some =
    let k = and_parts (is_solid c) (list_all is_solid cs) h in
    ap (λ b. cond b (trim_start (cs ++ u)) (c ∷ (cs ++ u))) (solid_parts c k.0).0

back_solid : (t : List ℕ) → list_all is_solid t ≡ true → trim_end t ≡ t
back_solid [] h = refl
back_solid (c ∷ cs) h =
    let k = and_parts (is_solid c) (list_all is_solid cs) h in
    ap (λ b. cond (b && is_empty (trim_end cs)) [] (c ∷ trim_end cs)) (solid_parts c k.0).0 ∙ ap (λ l. c ∷ l) (back_solid cs k.1)

more_empty : (t u : List ℕ) → is_empty u ≡ false → is_empty (t ++ u) ≡ false
more_empty [] u h = h
more_empty (c ∷ cs) u h = refl

kept : (b e : Bool) (c : ℕ) (l : List ℕ) → e ≡ false → cond (b && e) [] (c ∷ l) ≡ c ∷ l
kept true true c l h = absurd (cc)
kept true false c l h = refl
kept false e c l h = refl

back_more : (t u : List ℕ) → trim_end u ≡ u → is_empty u ≡ false → trim_end (t ++ u) ≡ t ++ u
back_more [] u h some = h
back_more (c ∷ cs) u h some =
    ap (λ l. cond (is_blank c && is_empty l) [] (c ∷ l)) (back_more cs u h some) ∙ kept (is_blank c) (is_empty (cs ++ u)) c (cs ++ u) (more_empty cs u some)

pub token_tight : (t : List ℕ) → IsToken t → IsTight t
token_tight [] h = let e : true ≡ false = h.some in absurd (cc)
token_tight (c ∷ cs) h =
    let k = and_parts (is_solid c) (list_all is_solid cs) h.solid in
    record { front = ap (λ b. cond b (trim_start cs) (c ∷ cs)) (solid_parts c k.0).0; back = back_solid (c ∷ cs) h.solid; some = refl }

-- a token, and any bytes up to an end that isn't blank
pub tight_more : (t u v : List ℕ) → IsToken t → IsTight v → IsTight (t ++ (u ++ v))
tight_more t u v h k =
    let inner = back_more u v k.back k.some in
    let some = more_empty u v k.some in
    record { front = front_solid t (u ++ v) h.solid h.some; back = back_more t (u ++ v) inner some; some = more_empty t (u ++ v) some }

pub tight_trim : (t : List ℕ) → IsTight t → trim t ≡ t
tight_trim t h = ap trim_end h.front ∙ h.back

-- what stands behind a mnemonic, of at most so many bytes
pub record IsBody (n : ℕ) (t : List ℕ) : Type 0 where
  pub plain : list_all is_plain t ≡ true
  pub tight : IsTight t
  pub short : length t ≤ n

pub body_one : (t : List ℕ) → IsToken t → IsBody 20 t
body_one t h = record { plain = solid_plain t h.solid; tight = token_tight t h; short = h.short }

-- an operand more in front
pub body_more : (n : ℕ) (t u : List ℕ) → IsToken t → IsBody n u → IsBody (n + 22) (t ++ 44 ∷ 32 ∷ u)
body_more n t u h k = record {
  plain = all_both is_plain t (44 ∷ 32 ∷ u) (solid_plain t h.solid) k.plain;
  tight = tight_more t (44 ∷ 32 ∷ []) u h k.tight;
  short = omega (arith, length-append t (44 ∷ 32 ∷ u), h.short, k.short);
}
