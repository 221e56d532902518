use Rattle.std.proofs.Common.{◌++◌, List, ℕ, take, ap, ◌∙◌}
use Rattle.std.proofs.lemmas.List.{take-take}
use Rattle.render.proofs.entry_lines.WordText.add.Goals as goal

-- the front of the whole is that of its first bytes
pub returns-in-Some : goal.returns-in-Some
returns-in-Some g c =
    let text = c.args.self.now in
    let first = c.in-Some.ensures.cases in
    c.put_front.ensures ∙ ap (λ (l : List ℕ). c.args.line.now ++ l) (ap (λ (l : List ℕ). take text.len l) first.same ∙ take-take text.len 64 text.bytes c.if-self-le-FEW_BYTES.true)
