use Rattle.std.proofs.Common.{◌≡◌, ◌∙◌, ◌/◌, ℕ, List, Option, Some, ap, sym}
use Rattle.std.specs.Option.{option_map}
use Rattle.protocol.specs.Lines.{Line, byte_in}
use Rattle.protocol.specs.Core.{Makes, access_move}
use Rattle.hart.specs.Shown.{shown_line, shown_tx, shown_hart, lines_of}
use Rattle.hart.proofs.Alone.{is_call, alone-retires, access-made, accessed_hart, accesses, accessed-output, accessed-pc}
use Rattle.hart.proofs.hart.Hart.access_alone.Goals as goal

pub returns-clause-step : goal.returns-clause-step
returns-clause-step g c =
    let S = g.row.SETS in
    let p = c.args.self.now in
    let e = c.args.effect.now in
    let m = c.args.m.now in
    let w = c.args.word in
    let kept = c.args.kept in
    let o = shown_tx p.tx in
    let l = shown_line c.in-Some.line in
    let h = λ (output : List ℕ). shown_hart S output p in
    let block : c.block.result ≡ m.addr / 32 = c.block.ensures in
    let here : lines_of S p.cache (m.addr / 32) ≡ Some l = ap (lines_of S p.cache) (sym block) ∙ ap (option_map shown_line) (sym c.line.ensures.value ∙ c.in-Some.is) in
    let enough = sym c.is_enough.ensures ∙ c.if-not-is_enough.false in
    let fits = sym c.is_log_full.ensures ∙ c.if-is_log_full.false in
    rw (c.alone.ensures) (alone-retires S p c.access_line.new.self c.access_line.result (λ output taken. access_move p.index w e m kept (lines_of S p.cache (m.addr / 32)) (h output)) p.index w p.pc (byte_in l.content) e (λ output. accessed_hart m kept l o (h output)) (ap is_call c.requires.act)
    (λ output taken. ap (λ (x : Option Line). access_move p.index w e m kept x (h output)) here ∙ access-made p.index w e m kept l (h output) enough ∙ ap Makes (accesses p.index w e m kept l o (h output) fits))
    (λ output. accessed-output m kept l o (h output))
    (λ output. accessed-pc m kept l o (h output))
    (λ output. sym (accesses p.index w e m kept l o (h output) fits) ∙ c.access_line.ensures.row output))
