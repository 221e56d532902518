use Rattle.std.proofs.Common.{◌<◌, ◌∙◌, cond, sym, ap, arith}
use Rattle.std.proofs.lemmas.Bool.{lt-ltb}
use Rattle.std.proofs.Math.Path.{fun_ext}
use Rattle.std.specs.Option.{option_map}
use Rattle.flat.specs.State.{idle}
use Rattle.flat.specs.Start as flat
use Rattle.transaction.specs.Transactions.{kept_stamp}
use Rattle.protocol.specs.Start.{first_hart}
use Rattle.hart.specs.Shown.{shown_line, shown_tx}
use Rattle.hart.proofs.hart.Hart.new.Goals as goal

pub returns-clause-start : goal.returns-clause-start
returns-clause-start g c = λ s size count.
    let a = c.args in
    let first = flat.first_hart s a.entry a.index in
    let hart = c.requires.hart in
    let within : a.index < s.count = omega arith in
    let regs = c.first_regs.ensures s size count in
    let tx = ap shown_tx c.new-2.ensures in
    let stamp = ap kept_stamp c.new-2.ensures in
    let lines = fun_ext (λ b. ap (option_map shown_line) (c.new-3.ensures.empty b)) in
    (λ j. record (first_hart first) { regs = regs j; tx = tx j; kept_stamp = stamp j; lines = lines j })
    ∙ ap (λ one. first_hart (cond one first idle)) (sym (lt-ltb a.index s.count within))
