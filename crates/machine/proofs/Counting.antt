-- Harts that are counted one after another.
use Rattle.std.proofs.Common.{◌≡◌, ◌<◌, ◌+◌, ◌∙◌, ℕ, Bool, cond, List, length, get_or, drop, ap, sym}
use Rattle.std.specs.Prelude.{count_by}
use Rattle.std.proofs.lemmas.List.{drop_more}
use Rattle.std.proofs.lemmas.List.Sums.{sum_by-cons}

-- the next one of a list, and those behind it
pub one_more : {A : Type 0} (p : A → Bool) (xs : List A) (i : ℕ) (x : A) (b : Bool) → i < length xs → x ≡ get_or xs i x → b ≡ p x → count_by p (drop i xs) ≡ cond b 1 0 + count_by p (drop (i + 1) xs)
one_more p xs i x b lt at is =
    ap (count_by p) (drop_more xs i x lt)
    ∙ sum_by-cons (λ y. cond (p y) 1 0) (get_or xs i x) (drop (i + 1) xs)
    ∙ ap (λ t. cond t 1 0 + count_by p (drop (i + 1) xs)) (ap p (sym at) ∙ sym is)
