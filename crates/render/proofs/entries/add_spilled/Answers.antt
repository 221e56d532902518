use Rattle.std.proofs.Common.{append_assoc}
use Rattle.render.proofs.entries.add_spilled.Goals as goal

pub returns-clause-text : goal.returns-clause-text
returns-clause-text g c =
    simp (append_assoc, c.put-2.ensures, c.put_bytes-2.ensures, c.put.ensures, c.put_bytes.ensures, c.hart_digit.ensures.digit, c.first_byte.ensures.digits)
