use Rattle.std.proofs.Common.{◌≡◌, ◌∙◌, ◌==◌, ◌-◌, ap, sym, cond, Some, None, true, false, subst}
use Rattle.hart.specs.Shown.{shown_tx, shown_hart}
use Rattle.hart.proofs.Views.{parts}
use Rattle.hart.proofs.Lines.{lines-cleared}
use Rattle.hart.proofs.Rows.{commits-outer, commits-inner}
use Rattle.hart.specs.Parts.{Parts}
use Rattle.hart.specs.Places.{KeepsWays}
use Rattle.hart.proofs.Places.{marks_cleared, none_moves}
use Rattle.hart.proofs.hart.Hart.commit.Goals as goal

pub returns-then-commit-clause-row : goal.returns-then-commit-clause-row
returns-then-commit-clause-row g c = λ output.
    let S = g.row.SETS in
    let old = c.self.inside in
    let new = c.commit.new.tx in
    let h = shown_hart S output (parts old) in
    let k = shown_hart S output (record (parts old) { tx = new; cache = c.clear_marks.new.self; reserved = None }) in
    let done = c.commit.ensures in
    rw (← c.self.view_is) (commits-outer old.index c.args.word c.args.effect.now (shown_tx old.tx) h k
    (λ e. let no = (done.outside e).1 in let yes = c.if-commit.true in cc)
    (λ t e.
    let last : (t.depth == 1) ≡ true = sym (done.inside t e).0 ∙ c.if-commit.true in
    let none : shown_tx new ≡ None = (done.inside t e).1 ∙ ap (λ b. cond b None (Some (record t { depth = t.depth - 1 }))) last in
    (last, λ j. record h { tx = none j; kept_stamp = done.stamp j; reserved = None; lines = lines-cleared S old.cache c.clear_marks.new.self c.clear_marks.ensures.lines j }))
    ∙ c.retire.ensures.row output)

pub returns-clause-row : goal.returns-clause-row
returns-clause-row g c = λ output.
    let S = g.row.SETS in
    let old = c.self.inside in
    let new = c.commit.new.tx in
    let h = shown_hart S output (parts old) in
    let k = shown_hart S output (record (parts old) { tx = new }) in
    let done = c.commit.ensures in
    rw (← c.self.view_is) (commits-inner old.index c.args.word c.args.effect.now (shown_tx old.tx) h k
    (λ e j. shown_hart S output (record (parts old) { tx = (done.outside e).0 j }))
    (λ t e.
    let more : (t.depth == 1) ≡ false = sym (done.inside t e).0 ∙ c.if-commit.false in
    let less : shown_tx new ≡ Some (record t { depth = t.depth - 1 }) = (done.inside t e).1 ∙ ap (λ b. cond b None (Some (record t { depth = t.depth - 1 }))) more in
    (more, λ j. record h { tx = less j; kept_stamp = done.stamp j }))
    ∙ c.retire-2.ensures.row output)

-- lines stay in their ways

pub returns-then-commit-clause-ways : goal.returns-then-commit-clause-ways
returns-then-commit-clause-ways g c =
    subst (λ (p : Parts). KeepsWays g.row.SETS p.cache c.retire.new.self.cache) c.self.view_is
    (subst (KeepsWays g.row.SETS c.self.inside.cache) (sym c.retire.ensures.cache) (marks_cleared g.row.SETS c.self.inside.cache c.clear_marks.new.self c.clear_marks.ensures.ways))

pub returns-clause-ways : goal.returns-clause-ways
returns-clause-ways g c = subst (λ (p : Parts). KeepsWays g.row.SETS p.cache c.retire-2.new.self.cache) c.self.view_is (none_moves g.row.SETS c.self.inside.cache c.retire-2.new.self.cache c.retire-2.ensures.cache)
