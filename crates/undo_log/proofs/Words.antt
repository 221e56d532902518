-- Words and records as bytes: what a write leaves, and what is read back of it.
use Rattle.std.proofs.Common.{◌≡◌, ◌+◌, ◌-◌, ◌*◌, ◌/◌, ◌<◌, ◌≤◌, ◌++◌, ◌∙◌, ℕ, zero, suc, List, [], ◌∷◌, length, get_or, map, take, drop, refl, sym, ap, arith}
use Rattle.std.specs.List.{range_with_len, flat_map}
use Rattle.std.specs.Int.{w32, to_le_bytes, from_le_bytes}
use Rattle.std.proofs.lemmas.List.{append_assoc, drop_at, drop-drop, drop-append-le, take-append-le, drop-take, take-take, take_more, length-take-le, length-drop}
use Rattle.std.proofs.lemmas.List.Concat.{flat_map-append}
use Rattle.std.proofs.lemmas.Slice.{take-put_mid}
use borrow.Rule.Slice.PartMut.{put_mid}
use Rattle.std.proofs.lemmas.List.FromFn.{fill_by_all, length-map-range_with_len, get_or-map-range_with_len}
use Rattle.std.proofs.lemmas.Nat.{from_le_bytes-to_le_bytes_4}
use Rattle.undo_log.specs.declared.record.Record.{Record}
use Rattle.undo_log.specs.Bytes.{record_bytes, word_at, record_at, overwritten}

-- each word of a list takes four bytes
piece : (ws rest : List ℕ) (k : ℕ) → k < length ws → take 4 (drop (4 * k) (flat_map (to_le_bytes w32) ws ++ rest)) ≡ to_le_bytes w32 (get_or ws k 0)
piece [] rest k in_list = absurd (omega (arith, in_list))
piece (w ∷ ws) rest zero in_list = refl
piece (w ∷ ws) rest (suc k) in_list =
    let four : 4 * suc k ≡ suc (suc (suc (suc (4 * k)))) = omega arith in
    rw four (piece ws rest k (omega arith))

-- the k-th of some words is read back at its place
pub word_at-written : (front ws rest : List ℕ) (i k : ℕ) → i ≡ length front + 4 * k → k < length ws → get_or ws k 0 < 4294967296 → word_at (front ++ (flat_map (to_le_bytes w32) ws ++ rest)) i ≡ get_or ws k 0
word_at-written front ws rest i k is in_list fits =
    let written : List ℕ = flat_map (to_le_bytes w32) ws ++ rest in
    let there : drop i (front ++ written) ≡ drop (4 * k) written =
    ap (λ (n : ℕ). drop n (front ++ written)) is
    ∙ sym (drop-drop (4 * k) (length front) (front ++ written))
    ∙ ap (drop (4 * k)) (drop_at front written (length front) refl) in
    ap (λ (bytes : List ℕ). from_le_bytes w32 (take 4 bytes)) there
    ∙ ap (from_le_bytes w32) (piece ws rest k in_list)
    ∙ from_le_bytes-to_le_bytes_4 (get_or ws k 0) fits

-- a write further up leaves a word as it was
pub word_at-kept : (bytes rest : List ℕ) (at i : ℕ) → at ≤ length bytes → i + 4 ≤ at → word_at (take at bytes ++ rest) i ≡ word_at bytes i
word_at-kept bytes rest at i inside below =
    let front : length (take at bytes) ≡ at = length-take-le at bytes inside in
    let split : at ≡ i + (at - i) = omega arith in
    let there : drop i (take at bytes) ≡ take (at - i) (drop i bytes) = ap (λ (n : ℕ). drop i (take n bytes)) split ∙ drop-take i (at - i) bytes in
    let long : 4 ≤ length (drop i (take at bytes)) = omega (arith, length-drop i (take at bytes), front) in
    ap (from_le_bytes w32) (
    ap (take 4) (drop-append-le i (take at bytes) rest (omega (arith, front)))
    ∙ take-append-le 4 (drop i (take at bytes)) rest long
    ∙ ap (take 4) there
    ∙ take-take 4 (at - i) (drop i bytes) (omega arith))

-- a record is there once its nine words are
pub record_at-is :
    (bytes : List ℕ) (i b : ℕ) (words : List ℕ) → word_at bytes i / 32 ≡ b → length words ≡ 8 →
    ((k : ℕ) → k < 8 → get_or words k 0 ≡ word_at bytes (i + 4 + 4 * k)) →
    record_at bytes i ≡ record { block = b; before = words }
record_at-is bytes i b words first len each =
    let all : words ≡ map (λ k. word_at bytes (i + 4 + 4 * k)) (range_with_len 0 8) = fill_by_all (λ k. word_at bytes (i + 4 + 4 * k)) words 8 0 len each in
    λ j. record { block = first j; before = sym all j }

-- what a record needs so that its words fit
pub record IsRecord (r : Record) : Type 0 where
  pub address : 32 * r.block < 4294967296
  pub words : length r.before ≡ 8
  pub fits : (k : ℕ) → get_or r.before k 0 < 4294967296

-- a record is read back where it was written
pub record_at-overwritten : (bytes : List ℕ) (at : ℕ) (r : Record) → at ≤ length bytes → IsRecord r → record_at (overwritten bytes at (record_bytes r)) at ≡ r
record_at-overwritten bytes at r inside is =
    let ws : List ℕ = 32 * r.block ∷ r.before in
    let rest : List ℕ = drop (at + length (record_bytes r)) bytes in
    let front : length (take at bytes) ≡ at = length-take-le at bytes inside in
    let shape : overwritten bytes at (record_bytes r) ≡ take at bytes ++ (record_bytes r ++ rest) = append_assoc (take at bytes) (record_bytes r) rest in
    let first : word_at (take at bytes ++ (record_bytes r ++ rest)) at ≡ 32 * r.block = word_at-written (take at bytes) ws rest at 0 (omega (arith, front)) (omega arith) is.address in
    let next : (k : ℕ) → k < 8 → word_at (take at bytes ++ (record_bytes r ++ rest)) (at + 4 + 4 * k) ≡ get_or r.before k 0 =
    λ k below. word_at-written (take at bytes) ws rest (at + 4 + 4 * k) (suc k) (omega (arith, front)) (omega (arith, is.words)) (is.fits k) in
    ap (λ (bs : List ℕ). record_at bs at) shape
    ∙ record_at-is (take at bytes ++ (record_bytes r ++ rest)) at r.block r.before (omega (arith, first)) is.words (λ k below. sym (next k below))

-- a write further up leaves a record as it was
pub record_at-kept : (bytes others : List ℕ) (at i : ℕ) → at ≤ length bytes → i + 36 ≤ at → record_at (overwritten bytes at others) i ≡ record_at bytes i
record_at-kept bytes others at i inside below =
    let rest : List ℕ = drop (at + length others) bytes in
    let f : ℕ → ℕ = λ k. word_at bytes (i + 4 + 4 * k) in
    let kept : (n : ℕ) → n + 4 ≤ at → word_at (overwritten bytes at others) n ≡ word_at bytes n =
    λ n low. ap (λ (bs : List ℕ). word_at bs n) (append_assoc (take at bytes) others rest) ∙ word_at-kept bytes (others ++ rest) at n inside low in
    record_at-is (overwritten bytes at others) i (word_at bytes i / 32) (map f (range_with_len 0 8)) (ap (λ (w : ℕ). w / 32) (kept i (omega arith))) (length-map-range_with_len f 0 8)
    (λ k lt. get_or-map-range_with_len f 0 8 k k 0 lt (omega arith) ∙ sym (kept (i + 4 + 4 * k) (omega arith)))

-- a word more is written after the others
pub pieces-more :
    (bytes ys : List ℕ) (w : ℕ) (ws : List ℕ) (k size : ℕ) → 8 + 4 * k ≤ length bytes → k < length ws → ys ≡ to_le_bytes w32 (get_or ws k 0) →
    take (4 + 4 * k) bytes ≡ flat_map (to_le_bytes w32) (w ∷ take k ws) →
    take (4 + 4 * (k + 1)) (put_mid (4 + 4 * k) size bytes ys) ≡ flat_map (to_le_bytes w32) (w ∷ take (k + 1) ws)
pieces-more bytes ys w ws k size room in_list is before =
    let f : ℕ → List ℕ = to_le_bytes w32 in
    let x : ℕ = get_or ws k 0 in
    let four : length ys ≡ 4 = ap length is in
    take-put_mid (4 + 4 * k) size bytes ys (4 + 4 * (k + 1)) (omega (arith, four)) (omega arith)
    ∙ (λ j. before j ++ is j)
    ∙ sym (flat_map-append f (w ∷ take k ws) (x ∷ []))
    ∙ ap (λ (xs : List ℕ). flat_map f (w ∷ xs)) (sym (take_more ws k 0 in_list))

-- what a copy into a part of the bytes leaves
pub overwritten-copy : (bytes new others : List ℕ) (at size : ℕ) → new ≡ others → length new ≡ size → put_mid at size bytes new ≡ overwritten bytes at others
overwritten-copy bytes new others at size is long =
    let size_is : size ≡ length others = sym long ∙ ap length is in
    ap (λ (ys : List ℕ). put_mid at size bytes ys) is
    ∙ ap (λ (n : ℕ). put_mid at n bytes others) size_is
    ∙ ap (λ (rest : List ℕ). take at bytes ++ (others ++ rest)) (drop-drop (length others) at bytes)
    ∙ sym (append_assoc (take at bytes) others (drop (at + length others) bytes))
