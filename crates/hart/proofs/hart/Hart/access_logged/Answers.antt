use Rattle.std.proofs.Common.{◌≡◌, ℕ, ◌/◌, ◌∙◌, Some, ap, sym, subst}
use Rattle.protocol.specs.Hart.{Hart, with_line}
use Rattle.protocol.specs.Lines.{byte_in, line_used}
use Rattle.protocol.specs.Core.{retire_row}
use Rattle.hart.specs.Parts.{Parts}
use Rattle.hart.specs.Shown.{shown_line, shown_hart}
use Rattle.hart.specs.Places.{KeepsWays}
use Rattle.hart.proofs.hart.Hart.access_logged.Goals as goal

pub returns-clause-row : goal.returns-clause-row
returns-clause-row g c = λ output.
    let a = c.args in
    let view = byte_in a.line.now.content in
    let at = λ (p : Parts). record (shown_hart g.row.SETS output p) { reserved = a.kept } in
    let h = with_line (a.m.now.addr / 32) (Some (line_used a.in_transaction a.m.now (shown_line a.line.now))) (at a.self.now) in
    let index : a.self.now.index ≡ c.self.inside.index = sym (ap (λ (p : Parts). p.index) c.self.view_is ∙ c.use_way.ensures.stays.index) in
    ap (λ (i : ℕ). retire_row i view a.word a.effect.now h) index
    ∙ ap (λ (k : Hart). retire_row c.self.inside.index view a.word a.effect.now (record k { reserved = a.kept })) (sym (c.use_way.ensures.hart output))
    ∙ ap (λ (p : Parts). retire_row c.self.inside.index view a.word a.effect.now (at p)) (sym c.self.view_is)
    ∙ c.retire_access.ensures.row output

pub returns-clause-ways : goal.returns-clause-ways
returns-clause-ways g c = subst (KeepsWays g.row.SETS c.args.self.now.cache) (sym (c.retire_access.ensures.cache ∙ ap (λ (p : Parts). p.cache) c.self.view_is)) c.use_way.ensures.ways
