use Rattle.std.proofs.Common.{◌≡◌, ◌==◌, not, ℕ, List, take, ap, ◌∙◌, arith, length-take}
use Rattle.std.specs.List.{before_first, position_or_len}
use Rattle.disassembler.proofs.Fronts.{front-cut}
use Rattle.disassembler.proofs.strings.front_of.Goals as goal

pub returns-clause-text : goal.returns-clause-text
returns-clause-text c =
    let text = c.strings_from.result.now in
    ap (λ k. take k c.cut-front.result.now) c.string_len.ensures ∙ ap (λ (l : List ℕ). take (position_or_len (λ x. x == 0) l) l) c.cut-front.ensures.text
    ∙ front-cut (λ x. not (x == 0)) c.args.most text ∙ ap (λ (t : List ℕ). take c.args.most (before_first (λ x. x == 0) t)) c.strings_from.ensures

pub returns-clause-short : goal.returns-clause-short
returns-clause-short c = let short = c.cut-front.ensures.short in rw length-take (omega (arith, short))
