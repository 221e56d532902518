use Rattle.std.proofs.Common.{rules, length, append_assoc, length-append, ap, arith}
use Rattle.disassembler.proofs.Decimals.{signed-small, signed-negative}
use Rattle.disassembler.proofs.numbers.add_signed.Goals as goal

pub put_small-requires-then-n : goal.put_small-requires-then-n
put_small-requires-then-n g c =
    let written = simp length-append at (ap length c.put.ensures) in
    search (rules, written)

pub returns-then-n-lt100-clause-text : goal.returns-then-n-lt100-clause-text
returns-then-n-lt100-clause-text g c =
    let number = signed-small c.args.n c.if-n-lt100.true in
    simp (c.put_small.ensures.text, number)

pub returns-then-n-clause-text : goal.returns-then-n-clause-text
returns-then-n-clause-text g c =
    let number = signed-negative c.args.n (omega arith) (omega arith) in
    simp (c.put_small-then-n.ensures.text, c.put.ensures, append_assoc, number)

pub returns-then-n-clause-longer : goal.returns-then-n-clause-longer
returns-then-n-clause-longer g c =
    omega (arith, c.put_small-then-n.ensures.longer, simp length-append at (ap length c.put.ensures))
