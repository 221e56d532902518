use Rattle.std.proofs.lemmas.List.Elements.{All-replicate}
use Rattle.render.specs.Words.{IsWordText}
use Rattle.render.proofs.entry_lines.EntryLines.new.Goals as goal

pub invariant_of-result : goal.invariant_of-result
invariant_of-result c = All-replicate (IsWordText c.args.names.now) 256 c.new-first.result c.new-first.ensures.text
