use Rattle.std.proofs.Common.{ap, sym}
use Rattle.requests.specs.Faults.{fault_text}
use Rattle.texts.proofs.Putting.{puts-same}
use Rattle.requests.proofs.fault.Fault.put.Goals as goal

pub returns-in-Value : goal.returns-in-Value
returns-in-Value g c = puts-same (sym (ap fault_text c.in-Value.is)) (rw (← c.hint.ensures) c.put_value.ensures)

pub returns-in-Load : goal.returns-in-Load
returns-in-Load g c = puts-same (sym (ap fault_text c.in-Load.is)) (rw (← c.number.ensures, ← c.name.ensures) c.put_refusal.ensures)

pub returns-in-Boot : goal.returns-in-Boot
returns-in-Boot g c = puts-same (sym (ap fault_text c.in-Boot.is)) (rw (← c.number-in-Boot.ensures, ← c.name-in-Boot.ensures) c.put_refusal-in-Boot.ensures)

pub returns-in-Source : goal.returns-in-Source
returns-in-Source g c = puts-same (sym (ap fault_text c.in-Source.is)) c.put_refused.ensures

pub returns-in_default : goal.returns-in_default
returns-in_default g c = puts-same (sym c.plain.ensures) c.put_line.ensures
