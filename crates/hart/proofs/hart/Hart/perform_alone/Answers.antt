use Rattle.std.proofs.Common.{◌≡◌, ◌∙◌, ◌/◌, ℕ, List, Option, false, refl, ap, sym, subst}
use Rattle.table.specs.declared.effect.Act.{Act}
use Rattle.table.specs.declared.effect.Act.TheVariants as act
use Rattle.protocol.specs.Core.{Makes, access_move, effect_move, no_memory}
use Rattle.hart.specs.Shown.{shown_tx, shown_hart, lines_of}
use Rattle.hart.specs.Locals.{needs_hub, FollowsMove}
use Rattle.hart.proofs.Alone.{no_call, alone-retires, plain-move, begun_hart, begins, begun-output, begun-pc, committed_hart, commits, committed-output, committed-pc}
use Rattle.hart.proofs.hart.Hart.perform_alone.Goals as goal

pub returns-in-Memory-clause-step : goal.returns-in-Memory-clause-step
returns-in-Memory-clause-step g c =
    let p = c.args.self.now in
    let next = c.args.next.now in
    let m = c.in-Memory.m in
    let h = λ (output : List ℕ). shown_hart g.row.SETS output p in
    subst (λ (a : Act). FollowsMove g.row.SETS (λ output taken. effect_move p.index taken next.word next.effect a (h output)) p c.access_alone.new.self c.access_alone.result) (sym c.in-Memory.is)
    (subst (λ (kept : Option ℕ). FollowsMove g.row.SETS (λ output taken. access_move p.index next.word next.effect m kept (lines_of g.row.SETS p.cache (m.addr / 32)) (h output)) p c.access_alone.new.self c.access_alone.result)
    c.reserved_with.ensures c.access_alone.ensures.step)

pub returns-in-Conditional-clause-step : goal.returns-in-Conditional-clause-step
returns-in-Conditional-clause-step g c =
    let p = c.args.self.now in
    let next = c.args.next.now in
    subst (λ (a : Act). FollowsMove g.row.SETS (λ output taken. effect_move p.index taken next.word next.effect a (shown_hart g.row.SETS output p)) p c.conditional_store_alone.new.self c.conditional_store_alone.result) (sym c.in-Conditional.is) c.conditional_store_alone.ensures.step

pub returns-in-Begin-clause-step : goal.returns-in-Begin-clause-step
returns-in-Begin-clause-step g c =
    let p = c.args.self.now in
    let e = c.args.next.now.effect in
    let w = c.args.next.now.word in
    let o = shown_tx p.tx in
    let h = λ (output : List ℕ). shown_hart g.row.SETS output p in
    let inside : needs_hub o (act.Begin c.in-Begin.abort_pc) ≡ false = ap (needs_hub o) (sym c.in-Begin.is) ∙ c.requires.alone in
    rw (c.alone.ensures) (alone-retires g.row.SETS p c.begin.new.self c.begin.result (λ output taken. effect_move p.index taken w e e.act (h output)) p.index w p.pc no_memory e (λ output. begun_hart o (h output)) (no_call o e.act c.requires.alone)
    (λ output taken. ap (λ (a : Act). effect_move p.index taken w e a (h output)) c.in-Begin.is ∙ ap Makes (begins p.index taken w c.in-Begin.abort_pc e o (h output) inside))
    (λ output. begun-output o (h output))
    (λ output. begun-pc o (h output))
    (λ output. sym (begins p.index 0 w c.in-Begin.abort_pc e o (h output) inside) ∙ c.begin.ensures.row output))

pub returns-in-Commit-clause-step : goal.returns-in-Commit-clause-step
returns-in-Commit-clause-step g c =
    let p = c.args.self.now in
    let e = c.args.next.now.effect in
    let w = c.args.next.now.word in
    let o = shown_tx p.tx in
    let h = λ (output : List ℕ). shown_hart g.row.SETS output p in
    rw (c.alone-in-Commit.ensures) (alone-retires g.row.SETS p c.commit.new.self c.commit.result (λ output taken. effect_move p.index taken w e e.act (h output)) p.index w p.pc no_memory e (λ output. committed_hart o (h output)) (no_call o e.act c.requires.alone)
    (λ output taken. ap (λ (a : Act). effect_move p.index taken w e a (h output)) c.in-Commit.is ∙ ap Makes (commits p.index w e o (h output)))
    (λ output. committed-output o (h output))
    (λ output. committed-pc o (h output))
    (λ output. sym (commits p.index w e o (h output)) ∙ c.commit.ensures.row output))

pub returns-in-Nothing-clause-step : goal.returns-in-Nothing-clause-step
returns-in-Nothing-clause-step g c =
    let p = c.args.self.now in
    let e = c.args.next.now.effect in
    let w = c.args.next.now.word in
    let h = λ (output : List ℕ). shown_hart g.row.SETS output p in
    rw (c.alone-in-Nothing.ensures) (alone-retires g.row.SETS p c.retire.new.self c.retire.result (λ output taken. effect_move p.index taken w e e.act (h output)) p.index w p.pc no_memory e h (no_call (shown_tx p.tx) e.act c.requires.alone)
    (λ output taken. plain-move p.index taken w e e.act (h output) c.in-Nothing.is)
    (λ output. refl)
    (λ output. refl)
    c.retire.ensures.row)
