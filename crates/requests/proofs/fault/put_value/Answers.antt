use Rattle.requests.proofs.fault.put_value.Goals as goal

pub returns : goal.returns
returns g c = rw (← c.as_bytes.ensures.value, ← c.as_bytes-2.ensures.value) c.put_all.ensures
