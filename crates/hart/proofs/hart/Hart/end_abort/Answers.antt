use Rattle.std.proofs.Common.{◌≡◌, ◌∙◌, Some, None, false, sym, ap, subst}
use Rattle.std.proofs.lemmas.Option.{same_Some}
use Rattle.words.specs.declared.entry.Entry.TheVariants.{Abort}
use Rattle.flat.specs.Steps.{status_for}
use Rattle.protocol.specs.Lines.{line_cleared}
use Rattle.protocol.specs.Hart.{Transaction, gives}
use Rattle.hart.specs.Parts.{Parts}
use Rattle.hart.specs.Shown.{shown_tx, shown_hart, lines_of, running}
use Rattle.hart.specs.Rows.{stepped}
use Rattle.hart.proofs.Views.{parts}
use Rattle.hart.proofs.Lines.{lines-cleared}
use Rattle.hart.proofs.Logs.{shown-running}
use Rattle.hart.specs.Places.{KeepsWays}
use Rattle.hart.proofs.Places.{marks_cleared}
use Rattle.hart.proofs.hart.Hart.end_abort.Goals as goal

pub returns-clause-row : goal.returns-clause-row
returns-clause-row g c = λ output t cause is why.
    let S = g.row.SETS in
    let old = c.self.inside in
    let ended = c.end_abort-restart in
    let runs : running old.tx ≡ t = shown-running old.tx t (ap (λ (p : Parts). shown_tx p.tx) c.self.view_is ∙ is) in
    let causes : ended.result.cause ≡ cause = same_Some _ _ (sym ended.ensures.cause ∙ ap (λ (p : Parts). p.tx.aborting) c.self.view_is ∙ why) in
    let regs = ended.ensures.regs ∙ ap (λ (u : Transaction). u.checkpoint) runs in
    let pc = ended.ensures.pc ∙ ap (λ (u : Transaction). u.abort_pc) runs in
    let status = c.status_for-self-inside.ensures ∙ ap status_for causes in
    let stamp = ended.ensures.stamp ∙ ap (λ (u : Transaction). Some u.stamp) runs in
    let lines : lines_of S c.clear_marks.new.self ≡ (λ b. line_cleared (lines_of S c.args.self.now.cache b)) =
    lines-cleared S old.cache c.clear_marks.new.self c.clear_marks.ensures.lines ∙ (λ j b. line_cleared (lines_of S (c.self.view_is j).cache b)) in
    let new = record (parts old) {
      regs = ended.result.regs;
      pc = ended.result.pc;
      status = c.status_for-self-inside.result;
      tx = ended.new.tx;
      cache = c.clear_marks.new.self;
      reserved = None;
      fresh = false;
    } in
    sym (ap (stepped S output new) c.gives.ensures
    ∙ (λ j. gives (Abort (c.self.view_is j).index (causes j)) (record (shown_hart S output (c.self.view_is j)) {
      regs = regs j;
      pc = pc j;
      status = status j;
      tx = ended.ensures.shown j;
      kept_stamp = stamp j;
      reserved = None;
      lines = lines j;
      fresh = false;
    })))

pub returns-clause-ways : goal.returns-clause-ways
returns-clause-ways g c = subst (λ (p : Parts). KeepsWays g.row.SETS p.cache c.clear_marks.new.self) c.self.view_is (marks_cleared g.row.SETS c.self.inside.cache c.clear_marks.new.self c.clear_marks.ensures.ways)
