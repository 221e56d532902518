-- The program's command, as clap knows it.
use Rattle.std.specs.Prelude.{◌≡◌, List, Result, IfOk, Some, [], ◌∷◌, true, false, codes}
use Rattle.std.specs.declared.alloc.AllocError.{AllocError}
use Rattle.clap.specs.Words.{App, Rule, Shape, Text, app_of, new_rule, with_rule}
use Rattle.clap.specs.Simple.{new_shape}
use Rattle.clap.specs.declared.builder.ArgAction.TheVariants.{Append, SetTrue, Version}
use Rattle.clap.specs.declared.builder.command.Command.{Command}
use Rattle.clap.specs.declared.builder.command.Command.TheViews.{out-Command}

-- an argument that has to be there
abbrev pub required_named : Text → Rule
required_named name = record (new_rule name) { required = true; value_names = 1 }

-- an option with one value
abbrev pub option_named : Text → Rule
option_named name = record (new_rule name) { long = Some name; value_names = 1 }

-- an option without a value
abbrev pub flag_named : Text → Rule
flag_named name = record (new_rule name) { long = Some name; action = Some SetTrue }

-- the arguments WORD, as many as the user likes
abbrev pub words : Rule
words = record (new_rule (codes "words")) { action = Some Append; value_names = 1 }

-- the option that has a run to an outcome written: with the outcome's number, and the path of a file
abbrev pub witness : Rule
witness = record (new_rule (codes "witness")) { long = Some (codes "witness"); value_names = 2 }

-- the option that asks for the program's version
abbrev pub version : Rule
version = record (new_rule (codes "version")) { long = Some (codes "version"); action = Some Version }

-- the command is this one, and has no global argument
pub record IsApp (c : Command) (app : App) : Type 0 where
  pub shape : app_of c ≡ app
  pub local : (out-Command c).has_globals ≡ false

-- the same of a command, if it could be made
abbrev pub Makes : Result Command AllocError → App → Type 0
Makes made app = IfOk made (λ c. IsApp c app)

-- a command with these arguments after its own
unfoldable pub with_rules : List Rule → App → App
with_rules [] app = app
with_rules (rule ∷ rules) app = with_rules rules (with_rule app rule)

-- the program and the machine that runs it, for `run`, `debug` and `outcomes`
abbrev pub machine : List Rule
machine = required_named (codes "file") ∷ option_named (codes "harts") ∷ option_named (codes "memory") ∷ []

-- of `run`: how far it goes, what chooses its steps, what is shown of it, and the rest
abbrev pub limits : List Rule
limits = option_named (codes "steps") ∷ option_named (codes "cache") ∷ []

abbrev pub choosers : List Rule
choosers = option_named (codes "schedule") ∷ option_named (codes "seed") ∷ option_named (codes "mix") ∷ []

abbrev pub views : List Rule
views = option_named (codes "trace") ∷ option_named (codes "timeline") ∷ option_named (codes "stats") ∷ []

abbrev pub threads_and_words : List Rule
threads_and_words = flag_named (codes "threads") ∷ option_named (codes "history") ∷ words ∷ []

-- of `outcomes`: how far it goes, and the rest
abbrev pub search_and_words : List Rule
search_and_words = option_named (codes "states") ∷ witness ∷ words ∷ []

-- the subcommand `run`
abbrev pub run : Shape
run = record (new_shape (codes "run")) {
  rules = required_named (codes "file") ∷ option_named (codes "harts") ∷ option_named (codes "memory")
      ∷ option_named (codes "steps") ∷ option_named (codes "cache") ∷ option_named (codes "schedule") ∷ option_named (codes "seed") ∷ option_named (codes "mix") ∷ option_named (codes "trace")
      ∷ option_named (codes "timeline") ∷ option_named (codes "stats") ∷ flag_named (codes "threads") ∷ option_named (codes "history") ∷ words ∷ [];
}

-- the subcommand `debug`
abbrev pub debug : Shape
debug = record (new_shape (codes "debug")) {
  rules = required_named (codes "file") ∷ option_named (codes "harts") ∷ option_named (codes "memory") ∷ option_named (codes "cache") ∷ [];
}

-- the subcommand `outcomes`
abbrev pub outcomes : Shape
outcomes = record (new_shape (codes "outcomes")) {
  rules = required_named (codes "file") ∷ option_named (codes "harts") ∷ option_named (codes "memory")
      ∷ option_named (codes "states") ∷ witness ∷ words ∷ [];
}

-- the subcommand `dis`
abbrev pub dis : Shape
dis = record (new_shape (codes "dis")) { rules = required_named (codes "file") ∷ [] }

-- the subcommand `asm`
abbrev pub asm : Shape
asm = record (new_shape (codes "asm")) {
  rules = required_named (codes "source") ∷ required_named (codes "target") ∷ [];
}

-- the program before its option and its subcommands
abbrev pub program : App
program = record {
  top = record (new_shape (codes "logtm")) {
    has_version = true;
    disable_version_flag = true;
    disable_help_subcommand = true;
    subcommand_required = true;
  };
  subs = [];
}

-- the program, which has to be given a subcommand
abbrev pub logtm : App
logtm = record {
  top = record (new_shape (codes "logtm")) {
    rules = version ∷ [];
    is_leaf = false;
    has_version = true;
    disable_version_flag = true;
    disable_help_subcommand = true;
    subcommand_required = true;
  };
  subs = run ∷ debug ∷ outcomes ∷ dis ∷ asm ∷ [];
}
