-- How the words of a window are found, segment by segment.
use Rattle.std.proofs.Common.{◌≡◌, ℕ, zero, suc, slice_index_or, replicate, ◌+◌, ◌*◌, ◌<◌, ◌≤◌, Bool, true, false, ◌&&◌, cond, List, [], ◌∷◌, ◌++◌, take, length, get_or, Option, Some, None, refl, ap, sym, ◌∙◌, arith}
use Rattle.std.specs.Int.{div_ceil}
use Rattle.std.specs.List.{flat_map, range_with_len}
use Rattle.std.specs.Option.{option_or}
use Rattle.std.proofs.lemmas.List.{get_or-replicate, length-replicate, take_more}
use Rattle.std.proofs.lemmas.Bool.Decides.{nat_tests}
use Rattle.table.specs.Program.{Segment, holds, word_in, word_at}
use Rattle.texts.proofs.Pieces.{one-more_number}
use Rattle.disassembler.specs.Tables.{Table}
use Rattle.disassembler.specs.Listing.{AddsWords, line_at, line_if, lines_from}
use Rattle.disassembler.proofs.Words.{no-word}

or-none : (o : Option ℕ) → option_or o None ≡ o
or-none None = refl
or-none (Some w) = refl

-- ---- one segment

-- of a segment's words those below one are added
pub record AddsBelow (s : Segment) (start n : ℕ) (before after : List (Option ℕ)) : Type 0 where
  pub kept : length after ≡ length before
  pub added : (i : ℕ) → i < length before → start + i < n → get_or after i None ≡ option_or (get_or before i None) (word_at (s ∷ []) (4 * (start + i)))
  pub left : (i : ℕ) → i < length before → n ≤ start + i → get_or after i None ≡ get_or before i None

-- ---- all segments

word_at-append : (xs ys : List Segment) (a : ℕ) → word_at (xs ++ ys) a ≡ option_or (word_at xs a) (word_at ys a)
word_at-append [] ys a = refl
word_at-append (x ∷ xs) ys a = go (x.exec && holds x a 4) (word_at-append xs ys a)
  where
    go : (b : Bool) → word_at (xs ++ ys) a ≡ option_or (word_at xs a) (word_at ys a)
        → cond b (Some (word_in x a)) (word_at (xs ++ ys) a) ≡ option_or (cond b (Some (word_in x a)) (word_at xs a)) (word_at ys a)
    go true rest = refl
    go false rest = rest

or-assoc : (o p q : Option ℕ) → option_or (option_or o p) q ≡ option_or o (option_or p q)
or-assoc None p q = refl
or-assoc (Some w) p q = refl

pub adds-no_segment : (start : ℕ) (words : List (Option ℕ)) → AddsWords [] start words words
adds-no_segment start words = (refl, λ i less. sym (or-none (get_or words i None)))

-- the words of the first segments, and then those of one more
pub adds-segment : (ss : List Segment) (n start : ℕ) (d : Segment) (before between after : List (Option ℕ)) → n < length ss
    → AddsWords (take n ss) start before between → AddsWords (get_or ss n d ∷ []) start between after → AddsWords (take (n + 1) ss) start before after
adds-segment ss n start d before between after less first second = (
  second.0 ∙ first.0,
  λ i within.
      let a = 4 * (start + i) in
      let there : i < length between = omega (arith, first.0) in
      second.1 i there
      ∙ ap (λ o. option_or o (word_at (get_or ss n d ∷ []) a)) (first.1 i within)
      ∙ or-assoc (get_or before i None) (word_at (take n ss) a) (word_at (get_or ss n d ∷ []) a)
      ∙ ap (option_or (get_or before i None)) (sym (ap (λ l. word_at l a) (take_more ss n d less) ∙ word_at-append (take n ss) (get_or ss n d ∷ []) a)),
)

-- ---- the lines of a window

same-texts : (f g : ℕ → List ℕ) (n : ℕ) → ((i : ℕ) → i < n → f i ≡ g i) → flat_map f (range_with_len 0 n) ≡ flat_map g (range_with_len 0 n)
same-texts f g zero same = refl
same-texts f g (suc m) same =
    let one : m + 1 ≡ suc m = omega arith in
    ap (λ k. flat_map f (range_with_len 0 k)) (sym one) ∙ one-more_number f m
    ∙ ap (λ l. l ++ f m) (same-texts f g m (λ i less. same i (omega arith)))
    ∙ ap (λ l. flat_map g (range_with_len 0 m) ++ l) (same m (omega arith))
    ∙ sym (one-more_number g m) ∙ ap (λ k. flat_map g (range_with_len 0 k)) one

-- where there was no word, the words of a window give its lines
pub window-lines : (names : Table) (ss : List Segment) (start n : ℕ) (words : List (Option ℕ)) → AddsWords ss start (replicate n None) words
    → flat_map (λ i. line_if names (4 * (start + i)) (slice_index_or words i None)) (range_with_len 0 (length words)) ≡ lines_from names ss start n
unfolding lines_from
window-lines names ss start n words adds =
    let long : length (replicate {A = Option ℕ} n None) ≡ n = length-replicate n None in
    ap (λ k. flat_map (λ i. line_if names (4 * (start + i)) (slice_index_or words i None)) (range_with_len 0 k)) (adds.0 ∙ long)
    ∙ same-texts (λ i. line_if names (4 * (start + i)) (slice_index_or words i None)) (λ i. line_at names ss (4 * (start + i))) n (λ i less.
    ap (line_if names (4 * (start + i)))
    (adds.1 i (omega (arith, long)) ∙ ap (λ o. option_or o (word_at ss (4 * (start + i)))) (get_or-replicate n i None None less)))

-- ---- all windows

ceiling-window : (end : ℕ) → end ≤ 16384 * div_ceil end 16384
ceiling-window end = grind (arith, nat_tests)

-- no text stands behind the windows that reach to its end
pub none-after : (ss : List Segment) (n end d : ℕ) → n ≡ length ss
    → ((j : ℕ) (s : Segment) → j < n → (get_or ss j s).exec ≡ true → (get_or ss j s).addr + (get_or ss j s).size ≤ end)
    → d ≡ div_ceil end 16384 → (k : ℕ) → 4096 * d ≤ k → word_at ss (4 * k) ≡ None
none-after ss n end d all ends up k over = no-word ss (4 * k) (λ j s less exec here.
    let e = ends j s (omega arith) exec in
    let c = ceiling-window end in
    let high : (get_or ss j s).addr + (get_or ss j s).size < 4 * k + 4 = omega arith in
    grind (arith, nat_tests))
