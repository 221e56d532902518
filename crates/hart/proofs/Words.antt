-- The words of a block and its bytes: what an access reads and writes there.
use Rattle.std.proofs.Common.{◌≡◌, ◌&&◌, ◌+◌, ◌-◌, ◌*◌, ◌/◌, ◌%◌, ◌^◌, ◌<◌, ◌≤◌, ◌∙◌, ◌⊎◌, ℕ, zero, suc, Bool, true, false, cond, List, length, map, slice_index, refl, sym, ap, subst, arith, inl, inr, Some, slice_set, length-set, get_or-set_same, get_or-set_other}
use Rattle.std.specs.Prelude.{nat_le, nat_lt}
use Rattle.std.specs.List.{range_with_len}
use Rattle.std.proofs.lemmas.Bool.{cases_lt, cases_eq}
use Rattle.std.proofs.lemmas.Bool.Decides.{nat_tests}
use Rattle.std.proofs.lemmas.List.FromFn.{fill_by_all}
use Rattle.words.specs.declared.entry.Width.{Width}
use Rattle.words.specs.declared.entry.Width.TheVariants.{Byte, Half, Word}
use Rattle.words.specs.Bytes.{bytes_in, byte_of, number_at}
use Rattle.table.specs.Effects.{loaded, part_of}
use Rattle.flat.specs.Bytes.{laid}
use Rattle.table.specs.declared.effect.MemoryAct.{MemoryAct}
use Rattle.cache.specs.Bytes.{byte_at, word_with, PutsBytes}
use Rattle.cache.proofs.StoredBytes.{block_with-puts}
use Rattle.protocol.specs.Lines.{byte_in, words_put}

-- Reading

-- an unsigned load leaves the number as it is
pub unsigned : (width : Width) (n : ℕ) → loaded false width n ≡ n
unsigned Byte n = refl
unsigned Half n = refl
unsigned Word n = refl

two_bytes : (w q : ℕ) → q % 2 ≡ 0 → q < 4 → byte_of w q + 256 * byte_of w (q + 1) ≡ w / 256 ^ q % 65536
two_bytes w zero even below = omega arith
two_bytes w (suc zero) even below = absurd (omega arith)
two_bytes w (suc (suc zero)) even below = omega arith
two_bytes w (suc (suc (suc q))) even below = absurd (omega arith)

-- the number that stands at a multiple of its width is a part of one word
pub number_in : (content : List ℕ) (a : ℕ) (width : Width) → slice_index content (a / 4 % 8) < 4294967296 → a % bytes_in width ≡ 0
    → number_at (byte_in content) a width ≡ part_of (slice_index content (a / 4 % 8)) a width
number_in content a Byte fits aligned = refl
number_in content a Half fits aligned =
    let word : (a + 1) / 4 % 8 ≡ a / 4 % 8 = omega arith in
    let place : (a + 1) % 4 ≡ a % 4 + 1 = omega arith in
    rw (word, place) (two_bytes (slice_index content (a / 4 % 8)) (a % 4) (omega arith) (omega arith))
number_in content a Word fits aligned =
    let w : ℕ = slice_index content (a / 4 % 8) in
    let at0 : a % 4 ≡ 0 = omega arith in
    let word1 : (a + 1) / 4 % 8 ≡ a / 4 % 8 = omega arith in
    let word2 : (a + 2) / 4 % 8 ≡ a / 4 % 8 = omega arith in
    let word3 : (a + 3) / 4 % 8 ≡ a / 4 % 8 = omega arith in
    let place1 : (a + 1) % 4 ≡ 1 = omega arith in
    let place2 : (a + 2) % 4 ≡ 2 = omega arith in
    let place3 : (a + 3) % 4 ≡ 3 = omega arith in
    rw (word1, word2, word3, place1, place2, place3, at0) (omega (arith, fits))

-- Writing

-- four bytes make a word
whole : (w : ℕ) → w < 4294967296 → byte_of w 0 + 256 * byte_of w 1 + 65536 * byte_of w 2 + 16777216 * byte_of w 3 ≡ w
whole w fits = omega arith

module _ (old new : List ℕ) (a n v : ℕ) (inside : a % 32 + n ≤ 32) (puts : PutsBytes old new (a % 32) n v) where
  -- the bytes of the block after a store
  byte_put : (i : ℕ) → i < 32 → laid a n (byte_of v) (byte_in old) (32 * (a / 32) + i) ≡ byte_at new i
  byte_put i below = by_place (nat_le a x && nat_lt x (a + n)) refl
    where
      x : ℕ
      x = 32 * (a / 32) + i

      word_is : x / 4 % 8 ≡ i / 4
      word_is = omega arith

      place_is : x % 4 ≡ i % 4
      place_is = omega arith

      same : byte_in old x ≡ byte_at old i
      same = rw (word_is, place_is) refl

      outside : nat_le a x && nat_lt x (a + n) ≡ false → (x < a) ⊎ (a ≤ x) → byte_in old x ≡ byte_at new i
      outside is (inl low) = same ∙ sym (puts.below i (omega arith))
      outside is (inr high) =
          let above : a + n ≤ x = grind (arith, nat_tests) in
          same ∙ sym (puts.above i (omega arith))

      by_place : (t : Bool) → nat_le a x && nat_lt x (a + n) ≡ t → cond t (byte_of v (x - a)) (byte_in old x) ≡ byte_at new i
      by_place true is =
          let low : a ≤ x = grind (arith, nat_tests) in
          let high : x < a + n = grind (arith, nat_tests) in
          let at : a % 32 + (x - a) ≡ i = omega arith in
          sym (puts.put (x - a) (omega arith)) ∙ ap (byte_at new) at
      by_place false is = outside is (cases_lt x a)

  -- a word of it
  word_put : (k : ℕ) → k < 8 → slice_index new k < 4294967296 → slice_index new k ≡ number_at (laid a n (byte_of v) (byte_in old)) (32 * (a / 32) + 4 * k) Word
  word_put k below fits =
      let m : ℕ → ℕ = laid a n (byte_of v) (byte_in old) in
      let b : ℕ = 32 * (a / 32) in
      let at0 : m (b + 4 * k) ≡ byte_of (slice_index new k) 0 = ap m (first) ∙ byte_put (4 * k + 0) (omega arith) ∙ byte_is 0 (omega arith) in
      let at1 : m (b + 4 * k + 1) ≡ byte_of (slice_index new k) 1 = ap m (sum 1) ∙ byte_put (4 * k + 1) (omega arith) ∙ byte_is 1 (omega arith) in
      let at2 : m (b + 4 * k + 2) ≡ byte_of (slice_index new k) 2 = ap m (sum 2) ∙ byte_put (4 * k + 2) (omega arith) ∙ byte_is 2 (omega arith) in
      let at3 : m (b + 4 * k + 3) ≡ byte_of (slice_index new k) 3 = ap m (sum 3) ∙ byte_put (4 * k + 3) (omega arith) ∙ byte_is 3 (omega arith) in
      rw (at0, at1, at2, at3) (sym (whole (slice_index new k) fits))
    where
      first : 32 * (a / 32) + 4 * k ≡ 32 * (a / 32) + (4 * k + 0)
      first = omega arith

      sum : (j : ℕ) → 32 * (a / 32) + 4 * k + j ≡ 32 * (a / 32) + (4 * k + j)
      sum j = omega arith

      byte_is : (j : ℕ) → j < 4 → byte_at new (4 * k + j) ≡ byte_of (slice_index new k) j
      byte_is j low =
          let word : (4 * k + j) / 4 ≡ k = omega arith in
          let place : (4 * k + j) % 4 ≡ j = omega arith in
          rw (word, place) refl

  -- all of them
  pub words_put-is : length new ≡ 8 → ((k : ℕ) → k < 8 → slice_index new k < 4294967296)
      → new ≡ map (λ k. number_at (laid a n (byte_of v) (byte_in old)) (32 * (a / 32) + 4 * k) Word) (range_with_len 0 8)
  words_put-is long fits = fill_by_all (λ k. number_at (laid a n (byte_of v) (byte_in old)) (32 * (a / 32) + 4 * k) Word) new 8 0 long (λ k below. word_put k below (fits k below))

-- an access at a multiple of its width lies in one block
pub inside-block : (a : ℕ) (width : Width) → a % bytes_in width ≡ 0 → a % 32 + bytes_in width ≤ 32
inside-block a Byte aligned = omega arith
inside-block a Half aligned = omega arith
inside-block a Word aligned = omega arith

-- the words after a store are those before, with one changed
pub words_put-word : (content : List ℕ) (m : MemoryAct) (v word : ℕ) → m.addr % bytes_in m.width ≡ 0 → length content ≡ 8 → ((k : ℕ) → slice_index content k < 4294967296) → word < 4294967296
    → word ≡ word_with (slice_index content (m.addr / 4 % 8)) (m.addr % 4) (bytes_in m.width) v → words_put m (Some v) content ≡ slice_set content (m.addr / 4 % 8) word
words_put-word content m v word aligned full fits small is =
    let w : ℕ = m.addr / 4 % 8 in
    let n : ℕ = bytes_in m.width in
    let new : List ℕ = slice_set content w word in
    let puts : PutsBytes content new (m.addr % 32) n v = subst (λ x. PutsBytes content (slice_set content w x) (m.addr % 32) n v) (sym is) (block_with-puts content m.addr m.width v full aligned) in
    sym (words_put-is content new m.addr n v (inside-block m.addr m.width aligned) puts (length-set content w word ∙ full) (λ k below. elim (cases_eq k w) [
      | inl here ↦ let at : slice_index new w ≡ word = get_or-set_same content w word 0 (omega (arith, full)) in rw (here, at) small
      | inr ne ↦ rw (get_or-set_other content w k word 0 ne) (fits k)
    ]))
