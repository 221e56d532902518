-- Blanks at the end of a text.
use Rattle.std.proofs.Common.{◌≡◌, ℕ, ◌-◌, ◌≤◌, Bool, true, false, cond, ◌&&◌, List, [], ◌∷◌, ◌++◌, length, take, get_or, refl, sym, ap, ◌∙◌, arith}
use Rattle.std.proofs.lemmas.Grind.{common_steps}
use Rattle.std.proofs.lemmas.List.{take_more}
use Rattle.statements.specs.Cutting.{is_blank, is_empty, trim_end}

-- a blank at the end is dropped, and another byte is kept
step : (b : Bool) (x : ℕ) (xs : List ℕ) (kept : List ℕ) → is_empty kept ≡ false → cond (b && is_empty kept) [] (x ∷ kept) ≡ x ∷ kept
step true x xs [] h = absurd (cc)
step true x xs (k ∷ ks) h = refl
step false x xs kept h = refl

pub trim_end_blank : (xs : List ℕ) (c : ℕ) → is_blank c ≡ true → trim_end (xs ++ c ∷ []) ≡ trim_end xs
trim_end_blank [] c h = ap (λ b. cond (b && true) [] (c ∷ [])) h
trim_end_blank (x ∷ xs) c h = ap (λ kept. cond (is_blank x && is_empty kept) [] (x ∷ kept)) (trim_end_blank xs c h)

not_empty : (xs : List ℕ) (c : ℕ) → is_empty (xs ++ c ∷ []) ≡ false
not_empty [] c = refl
not_empty (x ∷ xs) c = refl

pub trim_end_kept : (xs : List ℕ) (c : ℕ) → is_blank c ≡ false → trim_end (xs ++ c ∷ []) ≡ xs ++ c ∷ []
trim_end_kept [] c h = ap (λ b. cond (b && true) [] (c ∷ [])) h
trim_end_kept (x ∷ xs) c h =
    ap (λ kept. cond (is_blank x && is_empty kept) [] (x ∷ kept)) (trim_end_kept xs c h) ∙ step (is_blank x) x xs (xs ++ c ∷ []) (not_empty xs c)

-- a text, by its last byte
parted : (xs : List ℕ) → 1 ≤ length xs → xs ≡ take (length xs - 1) xs ++ get_or xs (length xs - 1) 0 ∷ []
parted xs h = grind (arith, common_steps, take_more)

pub trimmed_blank : (xs : List ℕ) → 1 ≤ length xs → is_blank (get_or xs (length xs - 1) 0) ≡ true → trim_end (take (length xs - 1) xs) ≡ trim_end xs
trimmed_blank xs h b = sym (trim_end_blank (take (length xs - 1) xs) (get_or xs (length xs - 1) 0) b) ∙ ap trim_end (sym (parted xs h))

pub trimmed_kept : (xs : List ℕ) → 1 ≤ length xs → is_blank (get_or xs (length xs - 1) 0) ≡ false → xs ≡ trim_end xs
trimmed_kept xs h b =
    parted xs h ∙ sym (trim_end_kept (take (length xs - 1) xs) (get_or xs (length xs - 1) 0) b) ∙ ap trim_end (sym (parted xs h))
