-- The words that text has, and their lines.
use Rattle.std.proofs.Common.{◌≡◌, ℕ, zero, suc, ◌+◌, ◌-◌, ◌*◌, ◌<◌, ◌≤◌, Bool, true, false, ◌&&◌, cond, List, [], ◌∷◌, ◌++◌, length, get_or, Option, Some, None, refl, ap, sym, ◌∙◌, arith, append-nil, append_assoc}
use Rattle.std.specs.List.{flat_map, range_with_len}
use Rattle.std.proofs.lemmas.Bool.{and_parts}
use Rattle.table.specs.Program.{Segment, holds, word_in, word_at}
use Rattle.texts.proofs.Pieces.{one-more_number}
use Rattle.disassembler.specs.Tables.{Table}
use Rattle.disassembler.specs.Listing.{line_if, line_at, lines, lines_from}
use Rattle.disassembler.proofs.Listed.{lines-step}

pub skipped : (t : Segment) (a : ℕ) (b : Bool) (rest : Option ℕ) → (b ≡ true → ⊥) → cond b (Some (word_in t a)) rest ≡ rest
skipped t a true rest e = absurd (e refl)
skipped t a false rest e = refl

-- where no text segment has a word, text has none
pub no-word : (ss : List Segment) (a : ℕ) → ((j : ℕ) (d : Segment) → j < length ss → (get_or ss j d).exec ≡ true → holds (get_or ss j d) a 4 ≡ true → ⊥) → word_at ss a ≡ None
no-word [] a none = refl
no-word (s ∷ ss) a none =
    skipped s a (s.exec && holds s a 4) (word_at ss a) (λ e. let both = and_parts s.exec (holds s a 4) e in none 0 s (omega arith) both.0 both.1)
    ∙ no-word ss a (λ j d less. none (suc j) d (omega arith))

-- the lines of words that text hasn't
pub lines-skip : (names : Table) (ss : List Segment) (n m : ℕ) → ((k : ℕ) → n ≤ k → k < n + m → word_at ss (4 * k) ≡ None) → lines names ss (n + m) ≡ lines names ss n
lines-skip names ss n zero none = let same : n + 0 ≡ n = omega arith in ap (lines names ss) same
lines-skip names ss n (suc m) none =
    let next : n + suc m ≡ n + m + 1 = omega arith in
    ap (lines names ss) next ∙ lines-step names ss (n + m)
    ∙ ap (λ o. lines names ss (n + m) ++ line_if names (4 * (n + m)) o) (none (n + m) (omega arith) (omega arith)) ∙ append-nil (lines names ss (n + m))
    ∙ lines-skip names ss n m (λ k low high. none k low (omega arith))

-- all lines, where text has no further word
pub lines-end : (names : Table) (ss : List Segment) (n : ℕ) → n ≤ 1048576 → ((k : ℕ) → n ≤ k → word_at ss (4 * k) ≡ None) → lines names ss 1048576 ≡ lines names ss n
lines-end names ss n le none =
    let all : n + (1048576 - n) ≡ 1048576 = omega arith in
    ap (lines names ss) (sym all) ∙ lines-skip names ss n (1048576 - n) (λ k low high. none k low)

-- the lines of some more words
pub lines-more : (names : Table) (ss : List Segment) (n m : ℕ) → lines names ss (n + m) ≡ lines names ss n ++ lines_from names ss n m
unfolding lines_from
lines-more names ss n zero = let none : n + 0 ≡ n = omega arith in ap (lines names ss) none ∙ sym (append-nil (lines names ss n))
lines-more names ss n (suc m) =
    let next : n + suc m ≡ n + m + 1 = omega arith in
    let one : m + 1 ≡ suc m = omega arith in
    let piece = λ (i : ℕ). line_at names ss (4 * (n + i)) in
    let before = flat_map piece (range_with_len 0 m) in
    ap (lines names ss) next ∙ lines-step names ss (n + m)
    ∙ ap (λ l. l ++ line_at names ss (4 * (n + m))) (lines-more names ss n m)
    ∙ append_assoc (lines names ss n) before (piece m)
    ∙ ap (λ l. lines names ss n ++ l) (sym (one-more_number piece m) ∙ ap (λ k. flat_map piece (range_with_len 0 k)) one)
