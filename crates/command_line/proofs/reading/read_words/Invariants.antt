use Rattle.std.proofs.Common.{◌≡◌, drop, map, take}
use Rattle.texts.specs.Numbers.{number_of}
use Rattle.command_line.specs.Reading.{AreWordsOf, malformed}
use Rattle.command_line.specs.declared.argument.Argument.TheVariants as argument
use Rattle.command_line.proofs.reading.read_words.Given as goal

abbrev pub invariant-loop-text : goal.invariant-loop-text
invariant-loop-text l = record {
  read : AreWordsOf (map (λ t. t.now) (take l.text-index l.texts)) l.words.items;
  rest : malformed argument.Word number_of (map (λ t. t.now) (drop l.text-index l.texts)) ≡ malformed argument.Word number_of (map (λ t. t.now) l.texts);
}
