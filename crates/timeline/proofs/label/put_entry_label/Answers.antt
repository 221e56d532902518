use Rattle.std.proofs.Common.{sym}
use Rattle.timeline.proofs.label.put_entry_label.Goals as goal

pub returns-in-Refuse : goal.returns-in-Refuse
returns-in-Refuse g c =
    rw (c.in-Refuse.is, sym c.hart_text.ensures, sym c.as_str.ensures.value, sym c.as_bytes-in-Refuse.ensures.value) c.put_all-in-Refuse.ensures
