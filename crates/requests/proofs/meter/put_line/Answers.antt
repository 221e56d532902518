use Rattle.std.proofs.Common.{◌∙◌, sym}
use Rattle.requests.proofs.meter.put_line.Goals as goal

pub returns : goal.returns
returns g c = rw (sym (c.as_bytes.ensures.value ∙ c.format.ensures.text), sym (c.as_bytes-2.ensures.value ∙ c.format-2.ensures.text), sym (c.as_bytes-3.ensures.value ∙ c.format-3.ensures.text), sym (c.as_bytes-4.ensures.value ∙ c.format-4.ensures.text), sym (c.as_bytes-5.ensures.value ∙ c.format-5.ensures.text)) c.put_all.ensures
