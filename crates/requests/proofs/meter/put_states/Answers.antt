use Rattle.std.proofs.Common.{◌∙◌, sym}
use Rattle.requests.proofs.meter.put_states.Goals as goal

pub returns : goal.returns
returns g c = rw (sym (c.as_bytes.ensures.value ∙ c.format.ensures.text), sym (c.as_bytes-2.ensures.value ∙ c.format-2.ensures.text)) c.put_all.ensures
