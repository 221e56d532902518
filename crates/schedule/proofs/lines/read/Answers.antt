use Rattle.std.proofs.Common.{◌≡◌, ◌+◌, ◌∙◌, Bor, ap, List, ℕ, take, sym, subst, arith, lit<, take_all}
use Rattle.std.proofs.lemmas.Iterator.Consumers.{map_from_collect}
use Rattle.std.proofs.lemmas.Iterator.Splits.{YieldsList-from_str_split}
use Rattle.std.proofs.lemmas.Result.{IfOk-at_ok}
use Rattle.std.proofs.lemmas.List.{length-map}
use Rattle.schedule.specs.declared.choices.Choice.{Choice}
use Rattle.schedule.specs.Lines.{lines_of, AreSpelledBy, IsFirstWrong}
use Rattle.schedule.proofs.Reading.{NoneWrong, texts, spelled_more, silent_more, first_wrong}
use Rattle.schedule.proofs.lines.read.Goals as goal
use Rattle.schedule.proofs.lines.read.Goals.{then-says+in-Some+in_ok-push-in-Some, else-says}

pub returns-in-None : goal.returns-in-None
returns-in-None c =
    let all : texts c.in_ok-lines.lines.items ≡ lines_of c.args.text.now =
    IfOk-at_ok _ c.in_ok-lines.was (map_from_collect _ c.collect.ensures.ran (YieldsList-from_str_split 10 c.args.text.now (lit< tt) c.split.ensures.text c.split.ensures.has_more c.split.ensures.pattern)) in
    subst (λ (ls : List (List ℕ)). IsFirstWrong ls (c.loop-index.index + 1)) (subst (λ items. texts items ≡ lines_of c.args.text.now) (sym c.deref-line-items.ensures.value) all)
    (first_wrong c.deref-line-items.result.now c.loop-index.index c.loop-index.choices.items c.loop-index-test.true c.loop-index.invariant.0 c.loop-index.invariant.1
    (sym c.says.ensures ∙ c.if-says.true) c.in-None.ensures)

pub loop-index-preserved : goal.loop-index-preserved
loop-index-preserved c =
    let items = c.deref-line-items.result.now in
    let i = c.loop-index.index in
    elim c.if-says.branch [
      | then-says+in-Some+in_ok-push-in-Some w ↦
          subst (λ (cs : List Choice). AreSpelledBy (take (i + 1) (texts items)) cs × NoneWrong (take (i + 1) (texts items))) (sym w.in_ok-push-in-Some.ensures.items ∙ ap (λ v. v.items) (sym w.choices-is))
          (spelled_more items i c.loop-index.choices.items c.loop-index-test.true c.loop-index.invariant.0 c.loop-index.invariant.1 w.in-Some.choice (sym c.says.ensures ∙ w.if-says.true) w.in-Some.ensures)
      | else-says w ↦
          subst (λ (cs : List Choice). AreSpelledBy (take (i + 1) (texts items)) cs × NoneWrong (take (i + 1) (texts items))) (ap (λ v. v.items) (sym w.choices-is))
          (silent_more items i c.loop-index.choices.items c.loop-index-test.true c.loop-index.invariant.0 c.loop-index.invariant.1 (sym c.says.ensures ∙ w.if-says.false))
    ]

pub returns : goal.returns
returns c =
    let all : texts c.in_ok-lines.lines.items ≡ lines_of c.args.text.now =
    IfOk-at_ok _ c.in_ok-lines.was (map_from_collect _ c.collect.ensures.ran (YieldsList-from_str_split 10 c.args.text.now (lit< tt) c.split.ensures.text c.split.ensures.has_more c.split.ensures.pattern)) in
    let here : texts c.deref-line-items.result.now ≡ lines_of c.args.text.now = subst (λ items. texts items ≡ lines_of c.args.text.now) (sym c.deref-line-items.ensures.value) all in
    let count = length-map c.deref-line-items.result.now (λ (x : Bor (List ℕ)). x.now) in
    let whole : take c.loop-index.index (texts c.deref-line-items.result.now) ≡ texts c.deref-line-items.result.now = take_all c.loop-index.index (texts c.deref-line-items.result.now) (omega (arith, count)) in
    subst (λ (ls : List (List ℕ)). AreSpelledBy ls c.loop-index.choices.items) (whole ∙ here) c.loop-index.invariant.0
