use Rattle.std.proofs.Common.{◌∙◌, ap, is_some, map, sym, true≢false}
use Rattle.clap.specs.Words.{app_of, found_of, rows_of}
use Rattle.command_line.proofs.Taken.{read_words, refused_words, subcommand_asked, subcommand_given}
use Rattle.command_line.proofs.parser.parse.Goals as goal

pub read-requires : goal.read-requires
read-requires c =
    (subcommand_asked (map (λ w. w.now) c.args.words.now) (app_of c.in_ok-command.field-0) c.in-Ok.matches c.in-Some.values.now c.in-Some.name.now
    c.in_ok-command.ensures c.in-Ok.ensures.kinds c.in-Ok.ensures.matches c.in-Some.ensures.name c.in-Some.ensures.rows).complete

pub unreachable-requires : goal.unreachable-requires
unreachable-requires c =
    let given = subcommand_given (map (λ w. w.now) c.args.words.now) (app_of c.in_ok-command.field-0) c.in-Ok.matches
    c.in_ok-command.ensures c.in-Ok.ensures.kinds c.in-Ok.ensures.matches in
    true≢false (sym given ∙ ap is_some (sym c.in-None.ensures.name))

pub returns-in-Some : goal.returns-in-Some
returns-in-Some c =
    let words = map (λ w. w.now) c.args.words.now in
    let asked = subcommand_asked words (app_of c.in_ok-command.field-0) c.in-Ok.matches c.in-Some.values.now c.in-Some.name.now
    c.in_ok-command.ensures c.in-Ok.ensures.kinds c.in-Ok.ensures.matches c.in-Some.ensures.name c.in-Some.ensures.rows in
    read_words words c.in-Some.name.now (rows_of (found_of c.in-Some.values.now)) c.read.result asked.asks c.read.ensures

pub returns-in-Err : goal.returns-in-Err
returns-in-Err c =
    refused_words (map (λ w. w.now) c.args.words.now) (app_of c.in_ok-command.field-0) c.in-Err.error c.told.result
    c.in_ok-command.ensures c.in-Err.ensures.kinds c.told.ensures.memory c.told.ensures.told
