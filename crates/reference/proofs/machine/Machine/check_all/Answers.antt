use Rattle.std.proofs.Common.{◌≡◌, None, length, List, subst, sym, arith}
use Rattle.std.specs.List.{slice_get}
use Rattle.std.proofs.lemmas.List.{take_more}
use Rattle.std.proofs.lemmas.Option.{slice_get_past}
use Rattle.words.specs.declared.entry.Entry.{Entry}
use Rattle.flat.specs.Steps.{IsRun, Carries}
use Rattle.reference.specs.Machines.{flat_of}
use Rattle.reference.proofs.Checked.{run_more}
use Rattle.reference.proofs.machine.Machine.check_all.Goals as goal

pub loop-accepted-preserved : goal.loop-accepted-preserved
loop-accepted-preserved c =
    let P : List Entry → Type 0 = λ es. IsRun (flat_of c.args.self.now) es (flat_of c.check.new.self) in
    let C : Entry → Type 0 = λ e. Carries (flat_of c.loop-accepted.self) e (flat_of c.check.new.self) in
    let good = c.in-Ok-true.ensures.accepted c.in-Ok-true.field-0-test in
    let k = take_more c.args.entries.now c.loop-accepted.accepted c.index-entries-accepted.result c.loop-accepted-test.true in
    subst P (sym k) (run_more (flat_of c.args.self.now) (flat_of c.loop-accepted.self) (flat_of c.check.new.self) _ _ c.loop-accepted.invariant (subst C c.index-entries-accepted.is good))

pub returns-clause-refused : goal.returns-clause-refused
returns-clause-refused c e g found =
    let none : slice_get c.args.entries.now (length c.args.entries.now) ≡ None = slice_get_past c.args.entries.now (length c.args.entries.now) (omega arith) in cc
