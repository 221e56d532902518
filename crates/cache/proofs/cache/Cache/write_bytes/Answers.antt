use Rattle.std.proofs.Common.{rules, ◌≡◌, ◌/◌, ◌%◌, Some, refl, sym, ◌∙◌, ap, length}
use Rattle.std.specs.Option.{option_map}
use Rattle.cache.specs.declared.line.Line.{Line}
use Rattle.words.specs.Bytes.{bytes_in}
use Rattle.cache.specs.Line.{stored}
use Rattle.cache.specs.Sets.{line_at}
use Rattle.cache.proofs.Changes.{changes-line}
use Rattle.cache.proofs.StoredBytes.{block_with-puts, line-puts}
use Rattle.cache.proofs.cache.Cache.write_bytes.Goals as goal

pub returns-in-Some-clause-line : goal.returns-in-Some-clause-line
returns-in-Some-clause-line g c =
    let is : Some c.in-Some.line ≡ line_at g.row.SETS c.args.self.now (c.args.addr / 32) = rw c.block.ensures at c.in-Some.ensures.value in
    changes-line g.row.SETS c.args.self.now c.replace.new.self (c.args.addr / 32) (stored c.args.addr c.args.width c.args.value) c.in-Some.line _ is (c.in-Some.ensures.block ∙ c.block.ensures) (rw (c.with_bytes.ensures, c.index-in-Some.ensures.value, c.index.ensures.value) refl) c.replace.ensures.line

pub returns-in-Some-clause-bytes : goal.returns-in-Some-clause-bytes
returns-in-Some-clause-bytes g c =
    let is : Some c.in-Some.line ≡ line_at g.row.SETS c.args.self.now (c.args.addr / 32) = rw c.block.ensures at c.in-Some.ensures.value in
    let full : length c.in-Some.line.content ≡ 8 = search rules in
    let after : Line = stored c.args.addr c.args.width c.args.value c.in-Some.line in
    let now : line_at g.row.SETS c.replace.new.self (c.args.addr / 32) ≡ Some after = (returns-in-Some-clause-line g c).this ∙ ap (option_map (stored c.args.addr c.args.width c.args.value)) (sym is) in
    line-puts _ _ c.in-Some.line after (c.args.addr % 32) (bytes_in c.args.width) c.args.value is now (block_with-puts c.in-Some.line.content c.args.addr c.args.width c.args.value full c.requires.aligned)
