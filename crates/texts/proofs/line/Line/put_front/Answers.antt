use Rattle.std.proofs.Common.{◌≡◌, ◌≤◌, ◌+◌, ◌-◌, ◌++◌, take, length, ap, ◌∙◌, arith}
use Rattle.texts.proofs.Fronts.{front_put}
use Rattle.texts.proofs.line.Line.put_front.Goals as goal

pub returns : goal.returns
returns g c =
    let start = c.self.inside.len in
    let block = c.copy_from_slice.ensures.after in
    let before : take start c.self.inside.bytes ≡ c.args.self.now = c.self.view_is in
    let whole : c.args.len ≤ length c.copy_from_slice.new.self = rw block (omega (arith, c.requires.inside, c.told-block)) in
    let within : start ≤ length c.self.inside.bytes = omega (arith, c.self.told, c.self.invariant) in
    front_put start (start + g.row.N - start) c.args.len c.self.inside.bytes c.copy_from_slice.new.self whole within
    ∙ ap (λ l. take start c.self.inside.bytes ++ take c.args.len l) block ∙ ap (λ l. l ++ take c.args.len c.args.block.now) before
