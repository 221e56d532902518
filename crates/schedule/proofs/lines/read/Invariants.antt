use Rattle.std.proofs.Common.{map, take}
use Rattle.schedule.specs.Lines.{AreSpelledBy}
use Rattle.schedule.proofs.Reading.{NoneWrong}
use Rattle.schedule.proofs.lines.read.Given as goal

-- the choices so far are those of the lines so far
abbrev pub invariant-loop-index : goal.invariant-loop-index
invariant-loop-index l =
    AreSpelledBy (take l.index (map (λ x. x.now) l.line-items)) l.choices.items
    × NoneWrong (take l.index (map (λ x. x.now) l.line-items))
