use Rattle.std.proofs.lemmas.Bool.Decides.{Decides-at}
use Rattle.conflict.proofs.Equal.{decides_option, decides_put}
use Rattle.conflict.proofs.request.same_put.Goals as goal

pub returns : goal.returns
returns c = Decides-at c.eq.result _ c.eq.ensures (decides_option decides_put _ _)
