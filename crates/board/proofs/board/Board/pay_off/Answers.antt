use Rattle.std.proofs.Common.{rules}
use Rattle.board.proofs.board.Board.pay_off.Goals as goal

pub take-requires : goal.take-requires
take-requires g c = (search rules, rw (← c.self.view_is) (c.in-Some.ensures.chosen, c.in-Some.ensures.within))
