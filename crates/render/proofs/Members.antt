-- The numbers of a set of harts.
use Rattle.std.proofs.Common.{◌≡◌, ℕ, ◌+◌, ◌++◌, Bool, true, false, List, refl, sym, ap, ◌∙◌, add-one}
use Rattle.std.specs.Prelude.{decimal}
use Rattle.render.specs.Parts.{listed, with_comma}

-- one more number, which the set names
pub listed-with : (named : ℕ → Bool) (n h : ℕ) (before : List ℕ) → h ≡ n → named h ≡ true → before ≡ listed named n → with_comma before ++ decimal h ≡ listed named (n + 1)
unfolding listed
listed-with named n h before same is e =
    let here : named n ≡ true = ap named (sym same) ∙ is in
    rw (add-one, here, same, e) refl

-- one more number, which the set doesn't name
pub listed-without : (named : ℕ → Bool) (n h : ℕ) (before : List ℕ) → h ≡ n → named h ≡ false → before ≡ listed named n → before ≡ listed named (n + 1)
unfolding listed
listed-without named n h before same is e =
    let here : named n ≡ false = ap named (sym same) ∙ is in
    rw (add-one, here) e
