-- A block that is written over a part of a list, where no more than its front counts.
use Rattle.std.proofs.Common.{◌≡◌, ℕ, ◌+◌, ◌≤◌, List, ◌++◌, length, take, refl, sym, ap, ◌∙◌, arith}
use Rattle.std.proofs.Math.Seq.{take-append-add}
use Rattle.std.proofs.lemmas.List.{length-take-le, take-take}
use Rattle.std.proofs.lemmas.Slice.{take-put_mid}
use borrow.Rule.Slice.PartMut.{put_mid}

-- what stood before the block, and its first n
pub front_put : {X : Type 0} (a k n : ℕ) (xs ys : List X) → n ≤ length ys → a ≤ length xs → take (a + n) (put_mid a k xs ys) ≡ take a xs ++ take n ys
front_put a k n xs ys few within =
    let whole = take-put_mid a k xs ys (a + length ys) refl within in
    let front = length-take-le a xs within in
    let parted = take-append-add (take a xs) ys n in
    sym (take-take (a + n) (a + length ys) (put_mid a k xs ys) (omega arith)) ∙ ap (λ l. take (a + n) l) whole
    ∙ ap (λ m. take (m + n) (take a xs ++ ys)) (sym front) ∙ parted
