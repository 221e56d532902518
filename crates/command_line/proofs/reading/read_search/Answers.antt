use Rattle.std.proofs.Common.{◌≡◌, ◌∙◌, codes, false, subst, sym}
use Rattle.std.proofs.lemmas.Result.{err_from_is_err_and}
use Rattle.clap.specs.Words.{first_of, found_of, rows_of}
use Rattle.texts.specs.Numbers.{number_of}
use Rattle.command_line.specs.Reading.{IsWitnessOf, can_write, given, malformed, words_of}
use Rattle.command_line.specs.declared.argument.Argument.TheVariants as argument
use Rattle.command_line.proofs.Values.{behind_witness, first_behind, first_of_more, path_refused}
use Rattle.command_line.specs.declared.fault.OrderFault.TheVariants.{Value}
use Rattle.command_line.proofs.reading.read_search.Goals as goal

pub returns-in_err-harts : goal.returns-in_err-harts
returns-in_err-harts c =
    let rows = rows_of (found_of c.args.matches.now) in
    let p = err_from_is_err_and c.from_residual.result c.from_residual.ensures.1 in
    rw (p.1, p.2) (
    first_of_more (malformed argument.Harts number_of (given (codes "harts") rows)) _ _ c.in_err-harts.ensures)

pub returns-in_err-memory : goal.returns-in_err-memory
returns-in_err-memory c =
    let rows = rows_of (found_of c.args.matches.now) in
    let p = err_from_is_err_and c.from_residual-in_err-memory.result c.from_residual-in_err-memory.ensures.1 in
    rw (p.1, p.2) (
    first_behind argument.Harts number_of 1 _ (first_of (codes "harts") rows) _ _ c.in_ok-harts.ensures (
    first_of_more (malformed argument.Memory number_of (given (codes "memory") rows)) _ _ c.in_err-memory.ensures))

pub returns-in_err-states : goal.returns-in_err-states
returns-in_err-states c =
    let rows = rows_of (found_of c.args.matches.now) in
    let p = err_from_is_err_and c.from_residual-in_err-states.result c.from_residual-in_err-states.ensures.1 in
    rw (p.1, p.2) (
    first_behind argument.Harts number_of 1 _ (first_of (codes "harts") rows) _ _ c.in_ok-harts.ensures (
    first_behind argument.Memory number_of 1048576 _ (first_of (codes "memory") rows) _ _ c.in_ok-memory.ensures (
    first_of_more (malformed argument.States number_of (given (codes "states") rows)) _ _ c.in_err-states.ensures)))

pub returns-in_err-witness : goal.returns-in_err-witness
returns-in_err-witness c =
    let rows = rows_of (found_of c.args.matches.now) in
    let p = err_from_is_err_and c.from_residual-in_err-witness.result c.from_residual-in_err-witness.ensures.1 in
    rw (p.1, p.2) (
    first_behind argument.Harts number_of 1 _ (first_of (codes "harts") rows) _ _ c.in_ok-harts.ensures (
    first_behind argument.Memory number_of 1048576 _ (first_of (codes "memory") rows) _ _ c.in_ok-memory.ensures (
    first_behind argument.States number_of 1000000 _ (first_of (codes "states") rows) _ _ c.in_ok-states.ensures (
    first_of_more (malformed argument.Witness number_of (given (codes "witness") rows)) _ _ c.in_err-witness.ensures))))

pub returns-in_err-words : goal.returns-in_err-words
returns-in_err-words c =
    let rows = rows_of (found_of c.args.matches.now) in
    let p = err_from_is_err_and c.from_residual-in_err-words.result c.from_residual-in_err-words.ensures.1 in
    rw (p.1, p.2) (
    first_behind argument.Harts number_of 1 _ (first_of (codes "harts") rows) _ _ c.in_ok-harts.ensures (
    first_behind argument.Memory number_of 1048576 _ (first_of (codes "memory") rows) _ _ c.in_ok-memory.ensures (
    first_behind argument.States number_of 1000000 _ (first_of (codes "states") rows) _ _ c.in_ok-states.ensures (
    behind_witness rows _ _ _ c.in_ok-witness.ensures (
    first_of_more (malformed argument.Word number_of (words_of rows)) _ _ c.in_err-words.ensures)))))

pub returns-in-Some : goal.returns-in-Some
returns-in-Some c =
    let rows = rows_of (found_of c.args.matches.now) in
    let witness = c.in-Some.field-0 in
    let bad : can_write rows witness.path.now ≡ false = rw (c.in-Some.is) at (sym c.can_write.ensures ∙ c.if-not-can_write.true) in
    let last = path_refused rows witness c.in_ok-words.words.items (subst (IsWitnessOf rows) c.in-Some.is c.in_ok-witness.ensures) c.in_ok-words.ensures bad in
    rw (c.in-Some.is) (
    first_behind argument.Harts number_of 1 _ (first_of (codes "harts") rows) _ (Value argument.Witness witness.path) c.in_ok-harts.ensures (
    first_behind argument.Memory number_of 1048576 _ (first_of (codes "memory") rows) _ (Value argument.Witness witness.path) c.in_ok-memory.ensures (
    first_behind argument.States number_of 1000000 _ (first_of (codes "states") rows) _ (Value argument.Witness witness.path) c.in_ok-states.ensures (
    behind_witness rows _ _ (Value argument.Witness witness.path) c.in_ok-witness.ensures last))))
