use Rattle.std.proofs.Common.{arith}
use Rattle.std.proofs.lemmas.Grind.{common_steps}
use Rattle.std.proofs.lemmas.Bool.Decides.{nat_tests}
use Rattle.std.proofs.Math.Path.{fun_ext}
use Rattle.directory.proofs.rules.expected.Goals as goal

pub returns : goal.returns
returns c = fun_ext (λ h.
    let at = c.concerned-expect.ensures c.args.hart h in
    grind (arith, common_steps, nat_tests, at, c.remove.ensures.this, c.remove.ensures.others h))
