use Rattle.std.proofs.Common.{◌++◌, ◌∷◌, [], inl, refl, ap, sym, ◌∙◌}
use Rattle.std.proofs.lemmas.Option.{slice_get-get_or}
use Rattle.flat.specs.Reads.{is_readable}
use Rattle.requests.proofs.Reading.{addresses-more, readable-more}
use Rattle.requests.proofs.readable.readable.Goals as goal

pub loop-word-preserved : goal.loop-word-preserved
loop-word-preserved g c =
    let s = g.M.Engine.setting c.args.machine.now in
    let readable = ap (is_readable s) (sym c.new-addr.ensures) ∙ sym c.is_readable.ensures ∙ c.if-not-is_readable.false in (
      c.in_ok-push.ensures.items ∙ ap (λ a. c.loop-word.addrs.items ++ a ∷ []) c.new-addr.ensures ∙ addresses-more c.args.words.now c.loop-word.word-index _ c.loop-word.addrs.items c.loop-word-test.true c.loop-word.invariant.0,
      readable-more s c.args.words.now c.loop-word.word-index _ c.loop-word-test.true c.loop-word.invariant.1 readable,
    )

pub returns-then-not-is_readable-clause-refused : goal.returns-then-not-is_readable-clause-refused
returns-then-not-is_readable-clause-refused g c =
    let s = g.M.Engine.setting c.args.machine.now in
    let unreadable = ap (is_readable s) (sym c.new-addr.ensures) ∙ sym c.is_readable.ensures ∙ c.if-not-is_readable.true in
    inl (c.loop-word.word-index, _, record { stands = slice_get-get_or c.args.words.now c.loop-word.word-index _ c.loop-word-test.true; here = unreadable; before = c.loop-word.invariant.1 }, refl)
