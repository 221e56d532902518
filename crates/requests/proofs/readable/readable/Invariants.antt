use Rattle.std.proofs.Common.{◌≡◌, take}
use Rattle.render.specs.Reports.{AllReadable}
use Rattle.requests.specs.Runs.{addresses}
use Rattle.requests.proofs.readable.readable.Given as goal

abbrev pub invariant-loop-word : goal.invariant-loop-word
invariant-loop-word g l = (l.addrs.items ≡ take l.word-index (addresses l.words)) × AllReadable (g.M.Engine.setting l.machine) (take l.word-index (addresses l.words))
