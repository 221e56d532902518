use Rattle.board.proofs.Returns.{lease_leads}
use Rattle.board.proofs.lending.take_back.Goals as goal

pub returns-clause-leads : goal.returns-clause-leads
returns-clause-leads g c =
    lease_leads g.row.SETS g.row.WAYS g.T.Trace.traces c.args.machine.now c.adopt.new.self c.args.lease.now c.keeps.ensures c.requires.hart c.requires.text c.after.ensures.ran (cc)
    c.hart-hart.result c.after.result.now c.hart-hart.ensures c.after.ensures.value c.adopt.ensures.runs
