-- What the values that clap found stand for.
use Rattle.std.specs.Prelude.{ℕ, ◌≡◌, ◌⊎◌, ◌||◌, Bool, true, false, IfSome, IsSome, ⊤, List, [], ◌∷◌, ◌++◌, Option, Some, None, codes, drop, filter, if◌then◌else◌, is_some, length, map, not, slice_get, unwrap_or}
use Rattle.std.specs.Borrow.{Bor}
use Rattle.std.specs.Option.{option_map, option_map_or, option_to_list}
use Rattle.std.specs.Str.{bytes_eq}
use Rattle.clap.specs.Words.{Row, Text, all_of, fault_of, first_of, subcommand_of, IsAmong}
use Rattle.clap.specs.declared.error.kind.ErrorKind.{ErrorKind}
use Rattle.clap.specs.declared.error.kind.ErrorKind.TheVariants.{DisplayHelp, DisplayVersion}
use Rattle.command_line.specs.Command.{logtm}
use Rattle.texts.specs.Numbers.{number_of}
use Rattle.command_line.specs.declared.argument.Argument.{Argument}
use Rattle.command_line.specs.declared.argument.Argument.TheVariants as argument
use Rattle.command_line.specs.declared.fault.OrderFault.{OrderFault}
use Rattle.command_line.specs.declared.fault.OrderFault.TheVariants.{Asked, Refused, Value, NoMemory}
use Rattle.command_line.specs.declared.options.Options.{Options}
use Rattle.command_line.specs.declared.request.Cache.{Cache}
use Rattle.command_line.specs.declared.request.Cache.TheVariants.{Small, Normal, OneByOne, OneByTwo, TwoByTwo, FourByOne, FourByTwo, EightByTwo, EightByFour, SixtyFourByFour, SixtyFourByEight}
use Rattle.command_line.specs.declared.request.Request.{Request}
use Rattle.command_line.specs.declared.request.Request.TheVariants.{Run, Debug, Outcomes, Dis, Asm}
use Rattle.command_line.specs.declared.request.Search.{Search}
use Rattle.command_line.specs.declared.request.Setup.{Setup}
use Rattle.command_line.specs.declared.request.Stats.{Stats}
use Rattle.command_line.specs.declared.request.Stats.TheVariants.{Table, Csv}
use Rattle.command_line.specs.declared.request.Witness.{Witness}
use Rattle.command_line.specs.declared.request.Word.{Word}
use Rattle.command_line.specs.Mixes.{mix_of}
use Rattle.command_line.specs.Runs.{IsRunFault, IsRunOf}

-- the cache of this name, or of this size: its sets, and the ways of each
unfoldable pub cache_of : Text → Option Cache
cache_of text =
    if bytes_eq text (codes "small") || bytes_eq text (codes "2x1") then Some Small
    else if bytes_eq text (codes "normal") || bytes_eq text (codes "16x4") then Some Normal
    else if bytes_eq text (codes "1x1") then Some OneByOne
    else if bytes_eq text (codes "1x2") then Some OneByTwo
    else if bytes_eq text (codes "2x2") then Some TwoByTwo
    else if bytes_eq text (codes "4x1") then Some FourByOne
    else if bytes_eq text (codes "4x2") then Some FourByTwo
    else if bytes_eq text (codes "8x2") then Some EightByTwo
    else if bytes_eq text (codes "8x4") then Some EightByFour
    else if bytes_eq text (codes "64x4") then Some SixtyFourByFour
    else if bytes_eq text (codes "64x8") then Some SixtyFourByEight
    else None

-- the form of this name, in which counts are shown
abbrev pub stats_of : Text → Option (Option Stats)
stats_of text =
    if bytes_eq text (codes "table") then Some (Some Table)
    else if bytes_eq text (codes "csv") then Some (Some Csv) else None

-- the seed that a text says
abbrev pub seed_of : Text → Option (Option ℕ)
seed_of text = option_map Some (number_of text)

-- the value given for an option, if it was given
abbrev pub given : Text → List Row → List Text
given id rows = option_to_list (first_of id rows)

-- the texts of the WORDs, in the order in which they were given
abbrev pub words_of : List Row → List Text
words_of rows = unwrap_or (all_of (codes "words") rows) []

-- whether a flag was given, for which clap has the value true then, and else false
abbrev pub is_given : Text → List Row → Bool
is_given id rows = option_map_or (λ text. bytes_eq text (codes "true")) (first_of id rows) false

-- what the value given for an option is read as, or this default where it was not given
abbrev pub read_or : {T : Type 0} → (Text → Option T) → T → Text → List Row → Option T
read_or read default id rows = option_map_or read (first_of id rows) (Some default)

-- the texts, each with what it is for
abbrev pub meant_for : Argument → List Text → List (Argument × Text)
meant_for argument texts = map (λ text. (argument, text)) texts

-- those of the texts for an argument that are not read as anything
abbrev pub malformed : {T : Type 0} → Argument → (Text → Option T) → List Text → List (Argument × Text)
malformed argument read texts = meant_for argument (filter (λ text. not (is_some (read text))) texts)

-- the malformed values of a run, in the order in which its values are read
abbrev pub malformed_of_run : List Row → List (Argument × Text)
malformed_of_run rows = malformed argument.Harts number_of (given (codes "harts") rows)
    ++ (malformed argument.Memory number_of (given (codes "memory") rows)
    ++ (malformed argument.Steps number_of (given (codes "steps") rows)
    ++ (malformed argument.Cache cache_of (given (codes "cache") rows)
    ++ (malformed argument.Stats stats_of (given (codes "stats") rows)
    ++ (malformed argument.Seed seed_of (given (codes "seed") rows)
    ++ (malformed argument.Mix mix_of (given (codes "mix") rows)
    ++ malformed argument.Word number_of (words_of rows)))))))

-- the same of a machine that is to be played by hand
abbrev pub malformed_of_setup : List Row → List (Argument × Text)
malformed_of_setup rows = malformed argument.Harts number_of (given (codes "harts") rows)
    ++ (malformed argument.Memory number_of (given (codes "memory") rows)
    ++ malformed argument.Cache cache_of (given (codes "cache") rows))

-- what --witness is given behind the outcome's number: the path
abbrev pub witness_paths : List Row → List Text
witness_paths rows = drop 1 (unwrap_or (all_of (codes "witness") rows) [])

-- whether a run to an outcome can be written to this path, which is neither a dash nor the program's
abbrev pub can_write : List Row → Text → Bool
can_write rows path = not (bytes_eq path (codes "-") || option_map_or (λ file. bytes_eq path file) (first_of (codes "file") rows) false)

-- the malformed values of a search, in the order in which its values are read: last a path that can't be written to
abbrev pub malformed_of_search : List Row → List (Argument × Text)
malformed_of_search rows = malformed argument.Harts number_of (given (codes "harts") rows)
    ++ (malformed argument.Memory number_of (given (codes "memory") rows)
    ++ (malformed argument.States number_of (given (codes "states") rows)
    ++ (malformed argument.Witness number_of (given (codes "witness") rows)
    ++ (malformed argument.Word number_of (words_of rows)
    ++ meant_for argument.Witness (filter (λ path. not (can_write rows path)) (witness_paths rows))))))

-- the words are these texts with their numbers
abbrev pub AreWordsOf : List Text → List Word → Type 0
AreWordsOf texts words = (map (λ w. w.text.now) words ≡ texts)
    × (map (λ w. Some w.addr) words ≡ map number_of texts)

-- the program and its machine are what the values stand for
abbrev pub IsSetupOf : List Row → Setup → Type 0
IsSetupOf rows setup =
    (first_of (codes "file") rows ≡ Some setup.file.now)
    × (read_or number_of 1 (codes "harts") rows ≡ Some setup.harts)
    × (read_or number_of 1048576 (codes "memory") rows ≡ Some setup.memory)
    × (read_or cache_of Normal (codes "cache") rows ≡ Some setup.cache)

-- the path is the value given for an option
abbrev pub IsPathOf : Text → List Row → Option (Bor Text) → Type 0
IsPathOf id rows path = option_map (λ text. text.now) path ≡ first_of id rows

-- the options of a run are what the values stand for
abbrev pub AreOptionsOf : List Row → Options → Type 0
AreOptionsOf rows options =
    IsSetupOf rows options.setup
    × (read_or number_of 10000000 (codes "steps") rows ≡ Some options.steps)
    × IsPathOf (codes "schedule") rows options.schedule
    × (read_or stats_of None (codes "stats") rows ≡ Some options.stats)
    × (read_or seed_of None (codes "seed") rows ≡ Some options.seed)
    × (read_or mix_of None (codes "mix") rows ≡ Some options.mix)
    × IsPathOf (codes "trace") rows options.trace
    × IsPathOf (codes "timeline") rows options.timeline
    × (options.threads ≡ is_given (codes "threads") rows)
    × IsPathOf (codes "history") rows options.history
    × AreWordsOf (words_of rows) options.words.items

-- the run that is to be written is the one that --witness asks for: to the outcome of its first value, at the path of its second
abbrev pub IsWitnessOf : List Row → Option Witness → Type 0
IsWitnessOf rows None = all_of (codes "witness") rows ≡ None
IsWitnessOf rows (Some witness) = (number : Text) × (all_of (codes "witness") rows ≡ Some (number ∷ witness.path.now ∷ []))
    × (number_of number ≡ Some witness.outcome)

-- the search is what the values stand for
abbrev pub IsSearchOf : List Row → Search → Type 0
IsSearchOf rows search =
    (first_of (codes "file") rows ≡ Some search.file.now)
    × (read_or number_of 1 (codes "harts") rows ≡ Some search.harts)
    × (read_or number_of 1048576 (codes "memory") rows ≡ Some search.memory)
    × (read_or number_of 1000000 (codes "states") rows ≡ Some search.states)
    × IsWitnessOf rows search.witness
    × IfSome search.witness (λ witness. can_write rows witness.path.now ≡ true)
    × AreWordsOf (words_of rows) search.words.items

-- the request is what the values of the subcommand of this name stand for
abbrev pub IsReadingOf : Text → List Row → Request → Type 0
IsReadingOf name rows (Run run) = (name ≡ codes "run") × ((options : Options) × AreOptionsOf rows options × IsRunOf options run)
IsReadingOf name rows (Debug setup) = (name ≡ codes "debug") × IsSetupOf rows setup
IsReadingOf name rows (Outcomes search) = (name ≡ codes "outcomes") × IsSearchOf rows search
IsReadingOf name rows (Dis file) = (name ≡ codes "dis") × (first_of (codes "file") rows ≡ Some file.now)
IsReadingOf name rows (Asm source target) = (name ≡ codes "asm")
    × (first_of (codes "source") rows ≡ Some source.now)
    × (first_of (codes "target") rows ≡ Some target.now)

-- the fault names the first of these values and what it is for, or memory ran out
abbrev pub NamesFirstOf : List (Argument × Text) → OrderFault → Type 0
NamesFirstOf values (Value argument value) = slice_get values 0 ≡ Some (argument, value.now)
NamesFirstOf values NoMemory = ⊤
NamesFirstOf values other = ⊥

-- why a run's values stand for nothing: one is malformed; or none is, and what they ask for doesn't go together
abbrev pub IsOptionsFault : List Row → OrderFault → Type 0
IsOptionsFault rows fault = NamesFirstOf (malformed_of_run rows) fault
    ⊎ ((options : Options) × AreOptionsOf rows options × IsRunFault options fault)

-- why the values of the subcommand of this name do
abbrev pub IsReadingFault : Text → List Row → OrderFault → Type 0
IsReadingFault name rows fault = ((name ≡ codes "run") × IsOptionsFault rows fault)
    ⊎ (((name ≡ codes "debug") × NamesFirstOf (malformed_of_setup rows) fault)
    ⊎ ((name ≡ codes "outcomes") × NamesFirstOf (malformed_of_search rows) fault))

-- a value was given for the argument
abbrev pub HasValue : Text → List Row → Type 0
HasValue id rows = IsSome (first_of id rows)

-- the option was not given, or two values were
abbrev pub HasBoth : Text → List Row → Type 0
HasBoth id rows = IfSome (all_of id rows) (λ values. length values ≡ 2)

-- this is the name of a subcommand, each argument that it has to have was given a value, and an option with two was given both
abbrev pub IsComplete : Text → List Row → Type 0
IsComplete name rows = ((name ≡ codes "run") × HasValue (codes "file") rows)
    ⊎ (((name ≡ codes "debug") × HasValue (codes "file") rows)
    ⊎ (((name ≡ codes "outcomes") × HasValue (codes "file") rows × HasBoth (codes "witness") rows)
    ⊎ (((name ≡ codes "dis") × HasValue (codes "file") rows)
    ⊎ ((name ≡ codes "asm") × HasValue (codes "source") rows × HasValue (codes "target") rows))))

-- clap takes the words, and finds this subcommand with these values
abbrev pub AsksFor : Text → List Text → List Row → Type 0
AsksFor name words rows =
    (fault_of logtm words ≡ []) × (subcommand_of logtm words ≡ Some (name, rows))

-- the words ask for this
abbrev pub IsRequestOf : List Text → Request → Type 0
IsRequestOf words request =
    (name : Text) × (rows : List Row) × AsksFor name words rows × IsReadingOf name rows request

-- clap is asked for help, or for the version
abbrev pub IsAsking : ErrorKind → Type 0
IsAsking kind = (kind ≡ DisplayHelp) ⊎ (kind ≡ DisplayVersion)

-- why the words ask for nothing of this program: they ask clap for help or the version, it refuses them, a value is malformed, what is asked for doesn't go together, or memory ran out
abbrev pub IsFaultOf : List Text → OrderFault → Type 0
IsFaultOf words (Asked text) = (kind : ErrorKind) × IsAmong kind (fault_of logtm words) × IsAsking kind
IsFaultOf words (Refused text) = (kind : ErrorKind) × IsAmong kind (fault_of logtm words) × (IsAsking kind → ⊥)
IsFaultOf words NoMemory = ⊤
IsFaultOf words other = (name : Text) × (rows : List Row) × AsksFor name words rows × IsReadingFault name rows other

-- what clap has for the user by an error of a kind: what was asked for, or a refusal; or memory ran out for its text
abbrev pub IsToldBy : ErrorKind → OrderFault → Type 0
IsToldBy kind (Asked text) = IsAsking kind
IsToldBy kind (Refused text) = IsAsking kind → ⊥
IsToldBy kind NoMemory = ⊤
IsToldBy kind other = ⊥
