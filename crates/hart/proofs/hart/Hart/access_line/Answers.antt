use Rattle.std.proofs.Common.{◌≡◌, ◌∙◌, ◌/◌, None, is_some, sym, ap}
use Rattle.cache.specs.Sets.{way_at}
use Rattle.cache.proofs.Changes.{has_way}
use Rattle.hart.specs.Parts.{Parts}
use Rattle.hart.proofs.hart.Hart.access_line.Goals as goal

-- a block with a line has a way
pub unreachable-requires : goal.unreachable-requires
unreachable-requires g c =
    let S = g.row.SETS in
    let b = c.args.m.now.addr / 32 in
    let none : way_at S c.args.self.now.cache b ≡ None = ap (λ (p : Parts). way_at S p.cache b) (sym c.self.view_is) ∙ ap (way_at S c.self.inside.cache) (sym c.block.ensures) ∙ sym c.way.ensures ∙ c.in_default.is in
    has_way S c.args.self.now.cache b none (ap is_some c.requires.line)
