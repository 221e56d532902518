-- The words of a text.
use Rattle.std.proofs.Common.{◌≡◌, ◌≢◌, ◌<◌, ◌≤◌, ◌+◌, ℕ, Bool, true, false, cond, not, List, [], ◌∷◌, length, Option, Some, None, Bor, MatchOption, if◌then◌else◌, codes, eqb, refl, sym, ap, ap₂, ◌∙◌, arith}
use Rattle.std.specs.List.{slice_split, onto_first, position_or_len, before_first, after_first}
use Rattle.std.specs.Str.{bytes_eq}
use Rattle.std.proofs.lemmas.Bool.{false_from_ne_true}
use Rattle.std.proofs.lemmas.Slice.Eq.{bytes_eq-Decides}
use Rattle.std.proofs.lemmas.List.Splits.{slice_split_first, length-slice_split}
use Rattle.schedule.specs.Spelling.{words_of, turn_of, choice_of}

-- there is a word, be it empty
pub some_word : (text : List ℕ) → 1 ≤ length (words_of text)
some_word text = omega (arith, length-slice_split (λ c. eqb c 32) text)

-- no element passes
passes_not : (x : ℕ) (xs : List ℕ) (n : ℕ) (rest : List (List ℕ)) (b : Bool) → cond (not b) (1 + n) 0 ≡ length (x ∷ xs) → (n ≡ length xs → rest ≡ xs ∷ []) → cond b ([] ∷ rest) (onto_first x rest) ≡ (x ∷ xs) ∷ []
passes_not x xs n rest true h later = absurd (omega (arith, h))
passes_not x xs n rest false h later = ap (onto_first x) (later (omega (arith, h)))

none_passes : (p : ℕ → Bool) (xs : List ℕ) → position_or_len p xs ≡ length xs → slice_split p xs ≡ xs ∷ []
none_passes p [] h = refl
none_passes p (x ∷ xs) h = passes_not x xs (position_or_len p xs) (slice_split p xs) (p x) h (none_passes p xs)

-- the words, by what a cut at the first space gave
pub words_cut : (text : List ℕ) (r : Option (Bor (List ℕ) × Bor (List ℕ)))
    → MatchOption r (position_or_len (λ b. eqb b 32) text ≡ length text) (λ x. (x.0.now ≡ before_first (λ b. eqb b 32) text) × (x.1.now ≡ after_first (λ b. eqb b 32) text) × (position_or_len (λ b. eqb b 32) text < length text))
    → MatchOption r (words_of text ≡ text ∷ []) (λ x. words_of text ≡ x.0.now ∷ words_of x.1.now)
words_cut text None h = none_passes (λ b. eqb b 32) text h
words_cut text (Some x) (front, back, found) = slice_split_first (λ b. eqb b 32) text 0 found ∙ ap₂ (λ (f b : List ℕ). f ∷ words_of b) (sym front) (sym back)

-- a turn has no further word
no_turn : (words : List (List ℕ)) → 1 ≤ length words → turn_of words ≡ None
no_turn [] h = absurd (omega (arith, h))
no_turn (w ∷ ws) h = refl

pub turn_alone : (text : List ℕ) → turn_of (words_of text) ≡ None
turn_alone text = no_turn (words_of text) (some_word text)

-- another verb spells nothing
wrong_verb : (b : Bool) (words : List (List ℕ)) → turn_of words ≡ None → None ≡ (if b then turn_of words else None)
wrong_verb true words h = sym h
wrong_verb false words h = refl

unequal : (xs ys : List ℕ) → xs ≢ ys → bytes_eq xs ys ≡ false
unequal xs ys ne = false_from_ne_true (bytes_eq xs ys) (λ e. ne ((bytes_eq-Decides xs ys).0 e))

pub no_choice : (verb text : List ℕ) → verb ≢ codes "core" → verb ≢ codes "evict" → verb ≢ codes "deliver" → None ≡ choice_of (verb ∷ words_of text)
no_choice verb text core evict deliver =
    rw (unequal verb (codes "core") core, unequal verb (codes "evict") evict, unequal verb (codes "deliver") deliver) (wrong_verb (bytes_eq verb (codes "turn")) (words_of text) (turn_alone text))
