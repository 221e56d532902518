use Rattle.std.proofs.Common.{◌≡◌, ◌/◌, ◌∙◌, None, Some, ap, sym, subst}
use Rattle.cache.specs.Sets.{line_at, HasRoom}
use Rattle.conflict.specs.Requests.{shown_put}
use Rattle.protocol.specs.Requests.{ask_row}
use Rattle.protocol.specs.Core.{kind_of}
use Rattle.hart.specs.Parts.{Parts}
use Rattle.hart.specs.Shown.{shown_hart}
use Rattle.hart.specs.Rows.{advanced, victim_of}
use Rattle.hart.proofs.Rows.{none_shown}
use Rattle.hart.proofs.Misses.{asks, asked, no_victim}
use Rattle.hart.proofs.hart.Hart.ask_for.Goals as goal

pub returns-clause-row : goal.returns-clause-row
returns-clause-row g c = λ output.
    let p = c.args.self.now in
    let m = c.args.m.now in
    let h = shown_hart g.row.SETS output p in
    let block : c.block-block.result ≡ m.addr / 32 = c.block-block.ensures in
    let free = none_shown shown_put c.self.inside.put (sym c.is_some.ensures ∙ c.if-is_some.false) in
    let room : line_at g.row.SETS p.cache (m.addr / 32) ≡ None → HasRoom g.row.SETS p.cache (m.addr / 32) =
    subst (λ b. line_at g.row.SETS p.cache b ≡ None → HasRoom g.row.SETS p.cache b) block (c.lacks.ensures.room c.if-not-lacks.false) in
    asks p.index (victim_of g.row.SETS p.cache) (kind_of m) (m.addr / 32) h
    (ap (λ (q : Parts). (shown_hart g.row.SETS output q).put) (sym c.self.view_is) ∙ free)
    (no_victim g.row.SETS p.cache (m.addr / 32) room)
    ∙ ap Some (
    ap (λ k. ask_row p.index k (m.addr / 32) h) (sym c.kind_of-kind.ensures)
    ∙ ap (λ b. ask_row p.index c.kind_of-kind.result b h) (sym block)
    ∙ asked g.row.SETS output p c.wait_for.new.self c.kind_of-kind.result c.block-block.result c.wait_for.ensures.stays.index c.wait_for.ensures.tx (c.wait_for.ensures.hart output)
    ∙ ap (advanced g.row.SETS output c.wait_for.new.self) (sym c.asks.ensures)
    )
