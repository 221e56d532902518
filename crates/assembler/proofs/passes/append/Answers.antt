use Rattle.std.proofs.Common.{refl}
use Rattle.std.proofs.lemmas.Result.{on_ok_weaker}
use Rattle.statements.specs.Bytes.{low_bytes}
use Rattle.assembler.proofs.Images.{low_length}
use Rattle.assembler.proofs.passes.append.Goals as goal

pub returns-in-Numbers : goal.returns-in-Numbers
returns-in-Numbers c =
    rw c.in-Numbers.is (on_ok_weaker c.append_numbers.result (λ e. (low_bytes c.in-Numbers.width c.in-Numbers.values.items, refl, low_length c.in-Numbers.width c.in-Numbers.values.items, e)) (rw c.as_slice.ensures.value at c.append_numbers.ensures))
