use Rattle.std.proofs.Common.{◌≡◌, ◌∙◌, false, refl, sym}
use Rattle.flat.proofs.Maps.{put_there}
use Rattle.words.specs.Harts.{names}
use Rattle.machine.specs.States.{shown}
use Rattle.watch.proofs.AskedTurns.{all_free_but, quiet_free}
use Rattle.watch.proofs.rows.behind_request.Goals as goal

-- all harts are free
pub returns-then-is_over-clause-quiescent : goal.returns-then-is_over-clause-quiescent
returns-then-is_over-clause-quiescent g c = λ _.
    let w = shown g.row.SETS c.args.machine.now in
    let i = c.args.hart in
    let over = c.if-is_over.ensures refl in
    let stale : (w.harts i).fresh ≡ false = sym c.fresh.ensures ∙ sym (put_there i c.fresh.result (names c.args.tally.now.fresh)) ∙ sym (c.set_fresh.ensures i) ∙ over.1 i in
    quiet_free g.row.SETS c.args.machine.now over.0 (all_free_but w i c.requires.others stale over.2)

pub returns-then-is_over-clause-again : goal.returns-then-is_over-clause-again
returns-then-is_over-clause-again g c = λ _.
    let w = shown g.row.SETS c.args.machine.now in
    let i = c.args.hart in
    let over = c.if-is_over.ensures refl in
    let stale : (w.harts i).fresh ≡ false = sym c.fresh.ensures ∙ sym (put_there i c.fresh.result (names c.args.tally.now.fresh)) ∙ sym (c.set_fresh.ensures i) ∙ over.1 i in
    let free = all_free_but w i c.requires.others stale over.2 in
    (quiet_free g.row.SETS c.args.machine.now over.0 free, over.1, free)
