-- Words and their bytes.
use Rattle.std.proofs.Common.{◌≡◌, ℕ, zero, suc, ◌<◌, ◌≤◌, ◌+◌, ◌/◌, ◌%◌, ◌^◌, arith, refl, subst, Option, Some, IfSome, List, length, slice_set, slice_index, get_or-set_same, get_or-set_other, inl, inr}
use Rattle.std.specs.Int.{w32, to_le_bytes, from_le_bytes}
use Rattle.std.proofs.lemmas.Bool.{cases_eq}
use Rattle.cache.specs.declared.line.Line.{Line}
use Rattle.words.specs.declared.entry.Width.{Width}
use Rattle.words.specs.declared.entry.Width.TheVariants.{Byte, Half, Word}
use Rattle.words.specs.Bytes.{bytes_in, byte_of}
use Rattle.cache.specs.Bytes.{word_with, block_with, PutsBytes}

-- two bytes put into a word's bytes, side by side
pub halves : (word p v : ℕ) → word < 2 ^ 32 → p < 3 → from_le_bytes w32 (slice_set (slice_set (to_le_bytes w32 word) p (v % 256)) (p + 1) (v / 256 % 256)) ≡ word_with word p 2 v
halves word zero v fits h = omega arith
halves word (suc zero) v fits h = omega arith
halves word (suc (suc zero)) v fits h = omega arith
halves word (suc (suc (suc p))) v fits h = absurd (omega arith)

-- what holds at each place of a word
each_place : (P : ℕ → Type 0) → P 0 → P 1 → P 2 → P 3 → (k : ℕ) → k < 4 → P k
each_place P at0 at1 at2 at3 zero h = at0
each_place P at0 at1 at2 at3 (suc zero) h = at1
each_place P at0 at1 at2 at3 (suc (suc zero)) h = at2
each_place P at0 at1 at2 at3 (suc (suc (suc zero))) h = at3
each_place P at0 at1 at2 at3 (suc (suc (suc (suc k)))) h = absurd (omega arith)

-- a byte that was put into a word
word_with-put : (width : Width) (word p v k : ℕ) → p + bytes_in width ≤ 4 → k < bytes_in width → byte_of (word_with word p (bytes_in width) v) (p + k) ≡ byte_of v k
word_with-put Byte word p v k fits h =
    let first : k ≡ 0 = omega arith in
    rw first (each_place (λ q. byte_of (word_with word q 1 v) (q + 0) ≡ byte_of v 0) (omega arith) (omega arith) (omega arith) (omega arith) p (omega arith))
word_with-put Half word zero v zero fits h = omega arith
word_with-put Half word zero v (suc zero) fits h = omega arith
word_with-put Half word zero v (suc (suc k)) fits h = absurd (omega arith)
word_with-put Half word (suc zero) v zero fits h = omega arith
word_with-put Half word (suc zero) v (suc zero) fits h = omega arith
word_with-put Half word (suc zero) v (suc (suc k)) fits h = absurd (omega arith)
word_with-put Half word (suc (suc zero)) v zero fits h = omega arith
word_with-put Half word (suc (suc zero)) v (suc zero) fits h = omega arith
word_with-put Half word (suc (suc zero)) v (suc (suc k)) fits h = absurd (omega arith)
word_with-put Half word (suc (suc (suc p))) v k fits h = absurd (omega arith)
word_with-put Word word p v k fits h =
    let whole : p ≡ 0 = omega arith in
    rw whole (each_place (λ j. byte_of (word_with word 0 4 v) (0 + j) ≡ byte_of v j) (omega arith) (omega arith) (omega arith) (omega arith) k h)

-- a byte outside of them is as it was
abbrev Kept : ℕ → ℕ → ℕ → ℕ → ℕ → Type 0
Kept word v p n k = (k < p → byte_of (word_with word p n v) k ≡ byte_of word k) × (p + n ≤ k → byte_of (word_with word p n v) k ≡ byte_of word k)

kept_byte : (word v p k : ℕ) → p < 4 → k < 4 → Kept word v p 1 k
kept_byte word v p k hp hk = each_place (λ q. Kept word v q 1 k)
    (each_place (λ j. Kept word v 0 1 j) (λ h. omega arith, λ h. omega arith) (λ h. omega arith, λ h. omega arith) (λ h. omega arith, λ h. omega arith) (λ h. omega arith, λ h. omega arith) k hk)
    (each_place (λ j. Kept word v 1 1 j) (λ h. omega arith, λ h. omega arith) (λ h. omega arith, λ h. omega arith) (λ h. omega arith, λ h. omega arith) (λ h. omega arith, λ h. omega arith) k hk)
    (each_place (λ j. Kept word v 2 1 j) (λ h. omega arith, λ h. omega arith) (λ h. omega arith, λ h. omega arith) (λ h. omega arith, λ h. omega arith) (λ h. omega arith, λ h. omega arith) k hk)
    (each_place (λ j. Kept word v 3 1 j) (λ h. omega arith, λ h. omega arith) (λ h. omega arith, λ h. omega arith) (λ h. omega arith, λ h. omega arith) (λ h. omega arith, λ h. omega arith) k hk)
    p hp

kept_half : (word v p k : ℕ) → p < 4 → k < 4 → Kept word v p 2 k
kept_half word v p k hp hk = each_place (λ q. Kept word v q 2 k)
    (each_place (λ j. Kept word v 0 2 j) (λ h. omega arith, λ h. omega arith) (λ h. omega arith, λ h. omega arith) (λ h. omega arith, λ h. omega arith) (λ h. omega arith, λ h. omega arith) k hk)
    (each_place (λ j. Kept word v 1 2 j) (λ h. omega arith, λ h. omega arith) (λ h. omega arith, λ h. omega arith) (λ h. omega arith, λ h. omega arith) (λ h. omega arith, λ h. omega arith) k hk)
    (each_place (λ j. Kept word v 2 2 j) (λ h. omega arith, λ h. omega arith) (λ h. omega arith, λ h. omega arith) (λ h. omega arith, λ h. omega arith) (λ h. omega arith, λ h. omega arith) k hk)
    (each_place (λ j. Kept word v 3 2 j) (λ h. omega arith, λ h. omega arith) (λ h. omega arith, λ h. omega arith) (λ h. omega arith, λ h. omega arith) (λ h. omega arith, λ h. omega arith) k hk)
    p hp

word_with-kept : (width : Width) (word p v k : ℕ) → p + bytes_in width ≤ 4 → k < 4 → Kept word v p (bytes_in width) k
word_with-kept Byte word p v k fits h = kept_byte word v p k (omega arith) h
word_with-kept Half word p v k fits h = kept_half word v p k (omega arith) h
word_with-kept Word word p v k fits h = (λ below. absurd (omega arith), λ above. absurd (omega arith))

-- an access at a multiple of its width lies in one word
aligned-inside : (width : Width) (addr : ℕ) → addr % bytes_in width ≡ 0 → addr % 4 + bytes_in width ≤ 4
aligned-inside Byte addr h = omega arith
aligned-inside Half addr h = omega arith
aligned-inside Word addr h = omega arith

some_byte : (width : Width) → bytes_in width ≤ 4
some_byte Byte = omega arith
some_byte Half = omega arith
some_byte Word = omega arith

-- a store puts its bytes into the block
pub block_with-puts : (content : List ℕ) (addr : ℕ) (width : Width) (v : ℕ) → length content ≡ 8 → addr % bytes_in width ≡ 0 → PutsBytes content (block_with content addr width v) (addr % 32) (bytes_in width) v
block_with-puts content addr width v full aligned =
    let p : ℕ = addr % 4 in
    let w : ℕ = addr / 4 % 8 in
    let n : ℕ = bytes_in width in
    let old : ℕ = slice_index content w in
    let new : ℕ = word_with old p n v in
    let inside : p + n ≤ 4 = aligned-inside width addr aligned in
    let here : slice_index (slice_set content w new) w ≡ new = get_or-set_same content w new 0 (omega arith) in
    record {
      put = λ k h.
          let word : (addr % 32 + k) / 4 ≡ w = omega arith in
          let place : (addr % 32 + k) % 4 ≡ p + k = omega arith in
          rw (word, place, here) (word_with-put width old p v k inside h);
      below = λ i h. elim (cases_eq (i / 4) w) [
        | inl e ↦ rw (e, here) ((word_with-kept width old p v (i % 4) inside (omega arith)).0 (omega arith))
        | inr ne ↦ rw (get_or-set_other content w (i / 4) new 0 ne) refl
      ];
      above = λ i h. elim (cases_eq (i / 4) w) [
        | inl e ↦ rw (e, here) ((word_with-kept width old p v (i % 4) inside (omega arith)).1 (omega arith))
        | inr ne ↦ rw (get_or-set_other content w (i / 4) new 0 ne) refl
      ];
    }

-- the same of a block's line before and after
pub line-puts : (old new : Option Line) (l m : Line) (p n v : ℕ) → Some l ≡ old → new ≡ Some m → PutsBytes l.content m.content p n v → IfSome old (λ o. IfSome new (λ q. PutsBytes o.content q.content p n v))
line-puts old new l m p n v is now h =
    subst (λ x. IfSome x (λ o. IfSome new (λ q. PutsBytes o.content q.content p n v))) is (rw now h)
