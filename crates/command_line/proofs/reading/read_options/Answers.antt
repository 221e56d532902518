use Rattle.std.proofs.Common.{codes, ◌++◌}
use Rattle.std.proofs.lemmas.Result.{err_from_is_err_and}
use Rattle.clap.specs.Words.{first_of, found_of, rows_of}
use Rattle.texts.specs.Numbers.{number_of}
use Rattle.command_line.specs.Reading.{cache_of, given, malformed, seed_of, stats_of, words_of}
use Rattle.command_line.specs.Mixes.{mix_of}
use Rattle.command_line.specs.declared.argument.Argument.TheVariants as argument
use Rattle.command_line.proofs.Values.{first_behind, first_of_more}
use Rattle.command_line.proofs.reading.read_options.Goals as goal

pub returns-in_err-harts : goal.returns-in_err-harts
returns-in_err-harts c =
    let rows = rows_of (found_of c.args.matches.now) in
    let p = err_from_is_err_and c.from_residual.result c.from_residual.ensures.1 in
    rw (p.1, p.2) (
    first_of_more (malformed argument.Harts number_of (given (codes "harts") rows)) _ _ c.in_err-harts.ensures)

pub returns-in_err-memory : goal.returns-in_err-memory
returns-in_err-memory c =
    let rows = rows_of (found_of c.args.matches.now) in
    let p = err_from_is_err_and c.from_residual-in_err-memory.result c.from_residual-in_err-memory.ensures.1 in
    rw (p.1, p.2) (
    first_behind argument.Harts number_of 1 _ (first_of (codes "harts") rows) _ _ c.in_ok-harts.ensures (
    first_of_more (malformed argument.Memory number_of (given (codes "memory") rows)) _ _ c.in_err-memory.ensures))

pub returns-in_err-steps : goal.returns-in_err-steps
returns-in_err-steps c =
    let rows = rows_of (found_of c.args.matches.now) in
    let p = err_from_is_err_and c.from_residual-in_err-steps.result c.from_residual-in_err-steps.ensures.1 in
    rw (p.1, p.2) (
    first_behind argument.Harts number_of 1 _ (first_of (codes "harts") rows) _ _ c.in_ok-harts.ensures (
    first_behind argument.Memory number_of 1048576 _ (first_of (codes "memory") rows) _ _ c.in_ok-memory.ensures (
    first_of_more (malformed argument.Steps number_of (given (codes "steps") rows)) _ _ c.in_err-steps.ensures)))

pub returns-in_err-cache : goal.returns-in_err-cache
returns-in_err-cache c =
    let rows = rows_of (found_of c.args.matches.now) in
    let p = err_from_is_err_and c.from_residual-in_err-cache.result c.from_residual-in_err-cache.ensures.1 in
    rw (p.1, p.2) (
    first_behind argument.Harts number_of 1 _ (first_of (codes "harts") rows) _ _ c.in_ok-harts.ensures (
    first_behind argument.Memory number_of 1048576 _ (first_of (codes "memory") rows) _ _ c.in_ok-memory.ensures (
    first_behind argument.Steps number_of 10000000 _ (first_of (codes "steps") rows) _ _ c.in_ok-steps.ensures (
    first_of_more (malformed argument.Cache cache_of (given (codes "cache") rows)) _ _ c.in_err-cache.ensures))))

pub returns-in_err-stats : goal.returns-in_err-stats
returns-in_err-stats c =
    let rows = rows_of (found_of c.args.matches.now) in
    let p = err_from_is_err_and c.from_residual-in_err-stats.result c.from_residual-in_err-stats.ensures.1 in
    rw (p.1, p.2) (
    first_behind argument.Harts number_of 1 _ (first_of (codes "harts") rows) _ _ c.in_ok-harts.ensures (
    first_behind argument.Memory number_of 1048576 _ (first_of (codes "memory") rows) _ _ c.in_ok-memory.ensures (
    first_behind argument.Steps number_of 10000000 _ (first_of (codes "steps") rows) _ _ c.in_ok-steps.ensures (
    first_behind argument.Cache cache_of _ _ (first_of (codes "cache") rows) _ _ c.in_ok-cache.ensures (
    first_of_more _ (malformed argument.Seed seed_of (given (codes "seed") rows) ++ (malformed argument.Mix mix_of (given (codes "mix") rows) ++ malformed argument.Word number_of (words_of rows))) _ c.in_err-stats.ensures)))))

pub returns-in_err-seed : goal.returns-in_err-seed
returns-in_err-seed c =
    let rows = rows_of (found_of c.args.matches.now) in
    let p = err_from_is_err_and c.from_residual-in_err-seed.result c.from_residual-in_err-seed.ensures.1 in
    rw (p.1, p.2) (
    first_behind argument.Harts number_of 1 _ (first_of (codes "harts") rows) _ _ c.in_ok-harts.ensures (
    first_behind argument.Memory number_of 1048576 _ (first_of (codes "memory") rows) _ _ c.in_ok-memory.ensures (
    first_behind argument.Steps number_of 10000000 _ (first_of (codes "steps") rows) _ _ c.in_ok-steps.ensures (
    first_behind argument.Cache cache_of _ _ (first_of (codes "cache") rows) _ _ c.in_ok-cache.ensures (
    first_behind argument.Stats stats_of _ _ (first_of (codes "stats") rows) _ _ c.in_ok-stats.ensures (
    first_of_more _ (malformed argument.Mix mix_of (given (codes "mix") rows) ++ malformed argument.Word number_of (words_of rows)) _ c.in_err-seed.ensures))))))

pub returns-in_err-mix : goal.returns-in_err-mix
returns-in_err-mix c =
    let rows = rows_of (found_of c.args.matches.now) in
    let p = err_from_is_err_and c.from_residual-in_err-mix.result c.from_residual-in_err-mix.ensures.1 in
    rw (p.1, p.2) (
    first_behind argument.Harts number_of 1 _ (first_of (codes "harts") rows) _ _ c.in_ok-harts.ensures (
    first_behind argument.Memory number_of 1048576 _ (first_of (codes "memory") rows) _ _ c.in_ok-memory.ensures (
    first_behind argument.Steps number_of 10000000 _ (first_of (codes "steps") rows) _ _ c.in_ok-steps.ensures (
    first_behind argument.Cache cache_of _ _ (first_of (codes "cache") rows) _ _ c.in_ok-cache.ensures (
    first_behind argument.Stats stats_of _ _ (first_of (codes "stats") rows) _ _ c.in_ok-stats.ensures (
    first_behind argument.Seed seed_of _ _ (first_of (codes "seed") rows) _ _ c.in_ok-seed.ensures (
    first_of_more _ (malformed argument.Word number_of (words_of rows)) _ c.in_err-mix.ensures)))))))

pub returns-in_err-words : goal.returns-in_err-words
returns-in_err-words c =
    let rows = rows_of (found_of c.args.matches.now) in
    let p = err_from_is_err_and c.from_residual-in_err-words.result c.from_residual-in_err-words.ensures.1 in
    rw (p.1, p.2) (
    first_behind argument.Harts number_of 1 _ (first_of (codes "harts") rows) _ _ c.in_ok-harts.ensures (
    first_behind argument.Memory number_of 1048576 _ (first_of (codes "memory") rows) _ _ c.in_ok-memory.ensures (
    first_behind argument.Steps number_of 10000000 _ (first_of (codes "steps") rows) _ _ c.in_ok-steps.ensures (
    first_behind argument.Cache cache_of _ _ (first_of (codes "cache") rows) _ _ c.in_ok-cache.ensures (
    first_behind argument.Stats stats_of _ _ (first_of (codes "stats") rows) _ _ c.in_ok-stats.ensures (
    first_behind argument.Seed seed_of _ _ (first_of (codes "seed") rows) _ _ c.in_ok-seed.ensures (
    first_behind argument.Mix mix_of _ _ (first_of (codes "mix") rows) _ _ c.in_ok-mix.ensures (
    c.in_err-words.ensures))))))))

pub returns : goal.returns
returns c = (
  (c.argument-file.ensures, c.in_ok-harts.ensures, c.in_ok-memory.ensures, c.in_ok-cache.ensures),
  c.in_ok-steps.ensures,
  c.path_given.ensures,
  c.in_ok-stats.ensures,
  c.in_ok-seed.ensures,
  c.in_ok-mix.ensures,
  c.path_given-2.ensures,
  c.path_given-3.ensures,
  c.flag_given.ensures,
  c.path_given-4.ensures,
  c.in_ok-words.ensures,
)
