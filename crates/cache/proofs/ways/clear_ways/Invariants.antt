use Rattle.std.proofs.Common.{◌≡◌, ◌++◌, map, take, drop}
use Rattle.std.specs.Option.{option_map}
use Rattle.cache.specs.Line.{without_marks}
use Rattle.cache.proofs.ways.clear_ways.Given as goal

abbrev pub invariant-loop-way : goal.invariant-loop-way
invariant-loop-way l = l.ways ≡ map (option_map without_marks) (take l.way-index l.initial.ways) ++ drop l.way-index l.initial.ways
