use Rattle.std.proofs.Common.{◌≤◌, arith, length, sym, subst}
use Rattle.std.proofs.lemmas.Result.{IfOk-weaker}
use Rattle.outcomes.specs.Ends.{AreEndsOf}
use Rattle.outcomes.specs.Found.{AreEndsAmong}
use Rattle.outcomes.proofs.KeptEnds.{ends_none}
use Rattle.outcomes.proofs.Gathered.{among_none, all_gathered}
use Rattle.outcomes.proofs.gathering.ends_of.Goals as goal

pub loop-place-init : goal.loop-place-init
loop-place-init c =
    let o = c.args.outcomes.now in
    let words = c.args.words.now in
    subst (AreEndsAmong o words 0) (sym (ends_none (record { places = c.new.result }) c.new.ensures.empty)) (among_none o words)

pub returns : goal.returns
returns c =
    let o = c.args.outcomes.now in
    let words = c.args.words.now in
    let through : length o.states.keys ≤ c.loop-place.place = omega (arith, c.len-place-end.ensures) in
    IfOk-weaker c.listed.result _ _
    (λ ends same. subst (AreEndsOf o words) (sym same) (all_gathered o words c.loop-place.place _ through c.loop-place.invariant c.listed.ensures.ascending))
    c.listed.ensures.same
