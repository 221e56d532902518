use Rattle.std.proofs.Common.{◌≡◌, ◌≤◌, ◌+◌, length, option_map}
use Rattle.statements.specs.Places.{places_in}
use Rattle.assembler.specs.Passes.{pass, survey, survey_line}
use Rattle.assembler.proofs.Passing.{left, remaining}
use Rattle.assembler.proofs.passes.survey.Given as goal

-- the pass over the lines that are left ends as that over all
abbrev pub invariant-lines : goal.invariant-lines
invariant-lines l =
    (pass survey_line l.number (left (option_map (λ x. x.now) l.rest)) (record { progress = l.progress; places = places_in l.labels }) ≡ survey l.source)
    × (l.number + remaining (option_map (λ x. x.now) l.rest) ≤ length l.source + 2)

abbrev pub decreases-lines : goal.decreases-lines
decreases-lines l = remaining (option_map (λ x. x.now) l.rest)
