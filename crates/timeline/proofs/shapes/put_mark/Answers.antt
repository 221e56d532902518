use Rattle.std.proofs.Common.{sym}
use Rattle.timeline.proofs.shapes.put_mark.Goals as goal

pub returns : goal.returns
returns g c =
    rw (
      sym c.class_of.ensures,
      sym c.as_bytes.ensures.value,
      sym c.x_of.ensures,
      sym c.format.ensures.text,
      sym c.as_bytes-2.ensures.value,
      sym c.y_at.ensures,
      sym c.format-2.ensures.text,
      sym c.as_bytes-3.ensures.value,
    ) c.put_all.ensures
