use Rattle.std.proofs.Common.{◌<◌, length, ap}
use Rattle.directory.specs.Blocks.{Blocks}
use Rattle.directory.proofs.Kept.{IsSound-put, IsKept-busy, NamesBelow-first}
use Rattle.directory.proofs.directory.Directory.occupy.Goals as goal

-- a new one
pub invariant_of-self-2 : goal.invariant_of-self-2
invariant_of-self-2 c =
    let inside : c.number.result < length c.self.inside.memory.items = rw (c.number.ensures, ap (λ (d : Blocks). d.memory) c.self.view_is) c.requires.inside in
    let hart : c.args.busy.requester < c.self.inside.harts = rw (ap (λ (d : Blocks). d.harts) c.self.view_is) c.requires.hart in
    IsSound-put _ _ _ _ _ _ c.self.invariant c.in_ok-insert.ensures.updates.0
    (IsKept-busy _ _ _ _ _ inside (NamesBelow-first _ _ c.first.ensures) hart)
