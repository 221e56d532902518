use Rattle.std.proofs.Common.{sym, ap, ◌∙◌, arith}
use Rattle.statements.specs.Places.{labels_of}
use Rattle.assembler.specs.declared.progress.Progress.{Progress}
use Rattle.assembler.proofs.Sizes.{ends_same}
use Rattle.assembler.proofs.passes.finish.Goals as goal

pub program-requires-clause-some_word : goal.program-requires-clause-some_word
program-requires-clause-some_word c =
    let w = c.in_ok-write.ensures in
    let s = c.requires.surveyed in
    let same = ends_same (labels_of (record { labels = c.args.labels; text_size = c.args.text_size })) c.args.source.now _ w.0 s.1 w.1 in
    omega (arith, w.2.text_size, ap (λ (p : Progress). p.text_size) same, s.2, c.requires.some_word)

pub program-requires-clause-size : goal.program-requires-clause-size
program-requires-clause-size c =
    let w = c.in_ok-write.ensures in
    let s = c.requires.surveyed in
    w.2.text_size ∙ ap (λ (p : Progress). p.text_size) (ends_same (labels_of (record { labels = c.args.labels; text_size = c.args.text_size })) c.args.source.now _ w.0 s.1 w.1) ∙ sym s.2
