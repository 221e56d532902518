use Rattle.std.proofs.Common.{append_assoc}
use Rattle.render.proofs.entries.add_retired.Goals as goal

pub returns-clause-text : goal.returns-clause-text
returns-clause-text g c = simp (append_assoc, c.add_effect.ensures.text, c.add_word.ensures.text, c.put_bytes.ensures, c.hart_digit.ensures.digit)
