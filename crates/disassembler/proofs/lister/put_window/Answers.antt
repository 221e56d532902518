use Rattle.texts.proofs.Putting.{puts-same}
use Rattle.disassembler.proofs.Windows.{window-lines}
use Rattle.disassembler.proofs.lister.put_window.Goals as goal

pub returns : goal.returns
returns g c = puts-same (window-lines c.args.names.now c.args.segments.now c.args.start 4096 c.add_words.new.words c.add_words.ensures) c.put_words.ensures
