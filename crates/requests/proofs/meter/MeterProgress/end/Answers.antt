use Rattle.requests.proofs.meter.MeterProgress.end.Goals as goal

-- a line that stands is cleared
pub returns-then-self-clause-clears : goal.returns-then-self-clause-clears
returns-then-self-clause-clears g c = λ stands. (c.put.result, record { whole = c.put.ensures.all; clean = c.put.ensures.clean; part = c.put.ensures.part; fault = c.put.ensures.fault })
