use Rattle.std.proofs.Common.{refl}
use Rattle.clap.specs.Words.{found_of}
use Rattle.command_line.proofs.Values.{words_are}
use Rattle.command_line.proofs.reading.words_given.Goals as goal

pub returns-in-Some : goal.returns-in-Some
returns-in-Some c = rw (words_are (found_of c.args.matches.now) _ c.in-Some.ensures) c.read_words.ensures

pub returns-in-None : goal.returns-in-None
returns-in-None c = rw (words_are (found_of c.args.matches.now) _ c.in-None.ensures, c.new.ensures.items) (refl, refl)
