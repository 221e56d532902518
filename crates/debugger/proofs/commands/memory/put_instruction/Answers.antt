use Rattle.std.proofs.Common.{refl}
use Rattle.disassembler.specs.Listing.{line}
use Rattle.debugger.proofs.commands.memory.put_instruction.Goals as goal

pub returns : goal.returns
returns g c = record {
  text = line c.args.names.now c.args.addr c.unwrap.result;
  is = rw (← c.text.ensures.value, ← c.word.ensures, c.unwrap.ensures) refl;
  puts = c.put_line.ensures;
}
