use Rattle.std.proofs.Common.{◌<◌, sym, ap, ◌+◌, ◌∙◌, ◌∷◌, [], arith}
use Rattle.std.proofs.lemmas.Fmt.{decimal_digit}
use Rattle.render.proofs.parts.hart_digit.Goals as goal

pub returns-clause-digit : goal.returns-clause-digit
returns-clause-digit c =
    let small : c.args.hart < 10 = omega (arith, c.index.ensures.value, c.index.ensures.bound) in
    ap (λ h. (48 + h) ∷ []) c.index.ensures.value ∙ sym (decimal_digit c.args.hart small)
