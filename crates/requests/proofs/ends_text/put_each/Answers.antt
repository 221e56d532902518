use Rattle.std.proofs.Common.{◌≤◌, ◌+◌, ◌∙◌, length, ap, Ok}
use Rattle.std.specs.List.{flat_map, enumerate_from}
use Rattle.std.proofs.lemmas.List.{take_all}
use Rattle.std.proofs.lemmas.List.FromFn.{length-enumerate_from}
use Rattle.texts.proofs.Putting.{puts-same, puts-cut_at, puts-one_more}
use Rattle.requests.specs.EndTexts.{numbered, end_text}
use Rattle.requests.proofs.Numbered.{among_numbered, text_there}
use Rattle.requests.proofs.ends_text.put_each.Goals as goal

pub returns-in_err-put_end : goal.returns-in_err-put_end
returns-in_err-put_end g c =
    let ends = c.args.ends.now in
    let e = c.index-ends-k.result in
    puts-cut_at end_text (enumerate_from 1 ends) c.loop-k.k (0, e) (among_numbered ends c.loop-k.k e c.loop-k-test.true) c.loop-k.invariant c.in_err-put_end.was
    (puts-same (ap (numbered (c.loop-k.k + 1)) c.deref.ensures.value ∙ text_there ends c.loop-k.k e c.loop-k-test.true c.index-ends-k.is) c.put_end.ensures) c.from_residual.ensures.0

pub loop-k-preserved : goal.loop-k-preserved
loop-k-preserved g c =
    let ends = c.args.ends.now in
    let e = c.index-ends-k.result in
    puts-one_more end_text (enumerate_from 1 ends) c.loop-k.k (0, e) (among_numbered ends c.loop-k.k e c.loop-k-test.true) c.loop-k.invariant
    (puts-same {r = Ok tt} (ap (numbered (c.loop-k.k + 1)) c.deref.ensures.value ∙ text_there ends c.loop-k.k e c.loop-k-test.true c.index-ends-k.is) c.in_ok-put_end.ensures)

pub returns : goal.returns
returns g c =
    let ends = c.args.ends.now in
    let past : length (enumerate_from 1 ends) ≤ c.loop-k.k = rw (length-enumerate_from 1 ends) c.loop-k-test.false in
    puts-same (ap (flat_map end_text) (take_all c.loop-k.k (enumerate_from 1 ends) past)) c.loop-k.invariant
