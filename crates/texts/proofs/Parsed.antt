-- What the library's parser reads where no plus sign comes first.
use Rattle.std.proofs.Common.{◌≡◌, ◌∙◌, ◌^◌, ◌&&◌, ℕ, Bool, cond, true, false, List, [], ◌∷◌, length, drop, nat_lt, refl, ap, Some, None, Result, Ok, Err, lt-ltb, ltb-true}
use Rattle.std.specs.Prelude.{◌==◌, slice_index}
use Rattle.std.specs.Char.{digit_value}
use Rattle.std.specs.List.{list_all}
use Rattle.std.specs.Result.{result_ok}
use Rattle.std.proofs.lemmas.Bool.{false≢true}
use Rattle.std.specs.Str.Parse.{AllDigits, ParsesUnsigned, digits_value, without_leading_plus}
use Rattle.texts.specs.Numbers.{is_numeral, number_in}

both : (a b : Bool) → (a && b) ≡ true → (a ≡ true) × (b ≡ true)
both true b e = (refl, e)
both false b e = absurd (false≢true e)

digits_pass : (base : ℕ) (text : List ℕ) → AllDigits base text → list_all (λ c. nat_lt (digit_value c) base) text ≡ true
digits_pass base [] h = refl
digits_pass base (c ∷ cs) h = rw (lt-ltb (digit_value c) base h.0) (digits_pass base cs h.1)

digits_from : (base : ℕ) (text : List ℕ) → list_all (λ c. nat_lt (digit_value c) base) text ≡ true → AllDigits base text
digits_from base [] e = tt
digits_from base (c ∷ cs) e =
    let parts = both _ _ e in
    (ltb-true _ _ parts.0, digits_from base cs parts.1)

abbrev fits_as : ℕ → List ℕ → Bool
fits_as base text = is_numeral base text && nat_lt (digits_value base text) (2 ^ 32)

-- the parser gives the number that the text stands for, but for a plus sign
parsed : {E : Type 0} (base : ℕ) (text : List ℕ) (r : Result ℕ E) → ParsesUnsigned 32 base text r → result_ok r ≡ number_in base (without_leading_plus text)
parsed base text (Ok n) h =
    let ds = without_leading_plus text in
    rw (lt-ltb 0 (length ds) h.0.0.0, digits_pass base ds h.0.0.1, lt-ltb (digits_value base ds) (2 ^ 32) h.0.1) (ap (λ v. Some v) h.1)
parsed base text (Err e) h = go (fits_as base (without_leading_plus text)) refl
  where
    go : (b : Bool) → fits_as base (without_leading_plus text) ≡ b → None ≡ cond b (Some (digits_value base (without_leading_plus text))) None
    go false t = refl
    go true t =
        let outer = both _ _ t in
        let inner = both _ _ outer.0 in
        absurd (h ((ltb-true _ _ inner.0, digits_from base (without_leading_plus text) inner.1), ltb-true _ _ outer.1))

pub parsed_plain : {E : Type 0} (base : ℕ) (text : List ℕ) (r : Result ℕ E) → (slice_index text 0 == 43) ≡ false → ParsesUnsigned 32 base text r
    → result_ok r ≡ number_in base text
parsed_plain base text r plain h = parsed base text r h ∙ ap (λ b. number_in base (drop (cond b 1 0) text)) plain
