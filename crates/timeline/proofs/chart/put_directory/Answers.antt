use Rattle.std.proofs.Common.{sym}
use Rattle.timeline.proofs.chart.put_directory.Goals as goal

pub returns : goal.returns
returns g c = rw (sym c.format.ensures.text, sym c.as_bytes.ensures.value) c.put_all.ensures
