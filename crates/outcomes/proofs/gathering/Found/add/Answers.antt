use Rattle.std.proofs.Common.{arith, sym, ap, subst, ◌∙◌}
use Rattle.std.proofs.lemmas.Result.{on_ok_weaker}
use Rattle.flat.specs.State.{Flat}
use Rattle.isolation.specs.Walks.{IsEnded}
use Rattle.render.specs.Reports.{AllReadable, report_of}
use Rattle.outcomes.specs.Ends.{IsEndWith}
use Rattle.outcomes.proofs.Gathered.{stands_there, among_same, among_more}
use Rattle.outcomes.proofs.gathering.Found.add.Goals as goal

pub returns-in_default : goal.returns-in_default
returns-in_default c = absurd (omega (arith, c.in_default.ensures.none, c.requires.place))

pub returns-then-not-is_ended : goal.returns-then-not-is_ended
returns-then-not-is_ended c =
    let o = c.args.outcomes.now in
    among_same o c.args.words.now c.args.place _ c.requires.among
    (λ end. c.is_ended.ensures.no c.if-not-is_ended.true (subst IsEnded (sym (c.in-Some.ensures.some end.state end.stands)) end.ended))

pub report_on-requires : goal.report_on-requires
report_on-requires c =
    let x = stands_there c.args.outcomes.now c.args.place c.requires.place in
    let same = c.in-Some.ensures.some x.0 x.1 in
    subst (λ (f : Flat). AllReadable f.setting c.args.words.now) (sym same) c.requires.readable

pub returns : goal.returns
returns c =
    let o = c.args.outcomes.now in
    let words = c.args.words.now in
    let x = stands_there o c.args.place c.requires.place in
    let same = c.in-Some.ensures.some x.0 x.1 in
    let here : IsEndWith o words c.args.place c.in_ok-report.report.items = record {
      end = record { state = x.0; stands = x.1; ended = subst IsEnded same (c.is_ended.ensures.yes c.if-not-is_ended.false) };
      told = ap (λ f. report_of f words) (sym same) ∙ sym c.in_ok-report.ensures;
    } in
    on_ok_weaker c.keep.result (λ kept. among_more o words c.args.place _ _ c.in_ok-report.report.items c.requires.among here kept) c.keep.ensures
