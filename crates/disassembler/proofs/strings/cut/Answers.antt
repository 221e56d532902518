use Rattle.std.proofs.Common.{◌≡◌, ◌≤◌, length, take, sym, arith, take_all, length-take-le}
use Rattle.disassembler.proofs.strings.cut.Goals as goal

pub slice_bounds-result-end : goal.slice_bounds-result-end
slice_bounds-result-end c = let long = c.if-text-most.false in sym (length-take-le c.args.most c.args.text.now (omega (arith, long)))

pub returns-then-text-most-clause-text : goal.returns-then-text-most-clause-text
returns-then-text-most-clause-text c = sym (take_all c.args.most c.args.text.now c.if-text-most.true)

pub returns-else-text-most-clause-short : goal.returns-else-text-most-clause-short
returns-else-text-most-clause-short c =
    let long = c.if-text-most.false in
    let all : length (take c.args.most c.args.text.now) ≡ c.args.most = length-take-le c.args.most c.args.text.now (omega (arith, long)) in
    omega (arith, all)
