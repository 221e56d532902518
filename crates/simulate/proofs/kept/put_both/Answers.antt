use Rattle.std.proofs.Common.{◌≡◌, ◌++◌, ◌∙◌, ℕ, List, [], append-nil, ap, codes, sym, take}
use Rattle.std.proofs.lemmas.List.Concat.{flat_map-append}
use Rattle.schedule.specs.declared.choices.Choice.{Choice}
use Rattle.schedule.specs.Written.{line_of, text_of}
use Rattle.texts.proofs.Putting.{puts-both, puts-cut, puts-same}
use Rattle.simulate.proofs.kept.put_both.Goals as goal

-- the two texts are one
one_text : (first taken kept : List Choice) → first ≡ taken → text_of first ++ (text_of kept ++ []) ≡ text_of (taken ++ kept)
one_text first taken kept is =
    ap (λ (l : List Choice). text_of l ++ (text_of kept ++ [])) is ∙ ap (λ (l : List ℕ). text_of taken ++ l) (append-nil (text_of kept)) ∙ sym (flat_map-append (λ (c : Choice). line_of c ++ codes "\n") taken kept)

pub returns-in_err-put_history-clause-puts : goal.returns-in_err-put_history-clause-puts
returns-in_err-put_history-clause-puts g c =
    puts-same (one_text c.first.result.now (take c.args.steps c.args.choices.now) c.args.history.now.choices c.first.ensures)
    (puts-both c.in_ok-put_choices.ensures (puts-cut [] c.in_err-put_history.was c.put_history.ensures c.from_residual-in_err-put_history.ensures.0))

pub returns-clause-puts : goal.returns-clause-puts
returns-clause-puts g c =
    puts-same (one_text c.first.result.now (take c.args.steps c.args.choices.now) c.args.history.now.choices c.first.ensures)
    (puts-both c.in_ok-put_choices.ensures (puts-both c.in_ok-put_history.ensures c.flush.ensures.puts))
