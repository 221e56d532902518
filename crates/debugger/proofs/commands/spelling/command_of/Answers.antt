use Rattle.std.proofs.Common.{◌∙◌, sym, ◌∷◌}
use Rattle.schedule.specs.Spelling.{words_of}
use Rattle.debugger.proofs.Words.{told}
use Rattle.debugger.proofs.commands.spelling.command_of.Goals as goal

pub returns-in-Some : goal.returns-in-Some
returns-in-Some c =
    c.with_words.ensures
    ∙ told c.args.names.now c.args.line.now (c.in-Some.verb.now ∷ words_of c.in-Some.words.now) (sym c.is_comment.ensures ∙ c.if-is_comment.false) c.in-Some.ensures
