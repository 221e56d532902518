use Rattle.std.proofs.lemmas.Bool.Decides.{Decides-at}
use Rattle.conflict.proofs.Equal.{decides_option, decides_request}
use Rattle.conflict.proofs.request.same_request.Goals as goal

pub returns : goal.returns
returns c = Decides-at c.eq.result _ c.eq.ensures (decides_option decides_request _ _)
