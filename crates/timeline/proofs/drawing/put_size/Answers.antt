use Rattle.std.proofs.Common.{sym}
use Rattle.timeline.proofs.drawing.put_size.Goals as goal

pub returns : goal.returns
returns g c = rw (sym c.format.ensures.text, sym c.as_bytes.ensures.value, sym c.format-2.ensures.text, sym c.as_bytes-2.ensures.value) c.put_all.ensures
