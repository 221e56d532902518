use Rattle.outcomes.proofs.Noted.{noted}
use Rattle.outcomes.proofs.hart.Transaction.access.Goals as goal

pub returns : goal.returns
returns c size fits =
    noted size c.args.self.now c.note.new.self c.args.m.now c.args.value c.counted-self.result
    c.in_ok-note.ensures.reads c.in_ok-note.ensures.writes c.in_ok-note.ensures.bytes c.counted-self.ensures fits
