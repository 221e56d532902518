use Rattle.std.proofs.Common.{subst}
use Rattle.std.specs.Prelude.{◌≡◌, not, List}
use Rattle.std.specs.List.{IsAllAdjacentAnswer}
use Rattle.loader.specs.Headers.{share}
use Rattle.loader.specs.declared.headers.SegmentHeader.{SegmentHeader}
use Rattle.loader.proofs.Rising.{neighbours_tell}
use Rattle.loader.proofs.elf.some_share.Goals as goal

pub returns : goal.returns
returns c =
    let ks = c.in_ok-rising.rising.items in
    let yes = c.neighbours_stand_apart.result in
    let answer = subst (λ (xs : List SegmentHeader). IsAllAdjacentAnswer (λ h k yes. yes ≡ not (share h k)) xs yes) c.deref.ensures.value c.neighbours_stand_apart.ensures in
    neighbours_tell c.args.headers.now ks yes c.in_ok-rising.ensures.moved c.in_ok-rising.ensures.rising c.requires answer
