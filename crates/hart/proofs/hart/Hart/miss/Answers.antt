use Rattle.std.proofs.Common.{◌∙◌}
use Rattle.hart.specs.Shown.{shown_hart}
use Rattle.hart.specs.Rows.{setting_of, victim_of}
use Rattle.hart.proofs.Misses.{if_both, lacks_block}
use Rattle.hart.proofs.hart.Hart.miss.Goals as goal

pub returns-clause-row : goal.returns-clause-row
returns-clause-row g c = if_both c.ask_for.result c.ask_for.ensures.lacks c.ask_for.ensures.row (λ enough made row output.
    let p = c.args.self.now in
    lacks_block (setting_of c.args.text.now.segments.now p) p.index c.args.taken (victim_of g.row.SETS p.cache) (shown_hart g.row.SETS output p)
    _ c.in_ok-legal.field-0.effect c.args.m.now c.in_ok-legal.ensures.effect c.in_ok-legal.ensures.act enough
    ∙ row output)
