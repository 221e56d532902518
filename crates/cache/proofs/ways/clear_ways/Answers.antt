use Rattle.std.specs.Option.{option_map}
use Rattle.std.proofs.lemmas.List.Edits.{map_over_more}
use Rattle.cache.specs.Line.{without_marks}
use Rattle.cache.proofs.ways.clear_ways.Goals as goal

pub loop-way-preserved : goal.loop-way-preserved
loop-way-preserved c = rw (c.clear.ensures, ← c.way-item.is) (map_over_more (option_map without_marks) c.args.ways.now c.loop-way.ways c.loop-way.way-index c.way-item.result c.loop-way-test.true c.loop-way.invariant c.way-item.is)
