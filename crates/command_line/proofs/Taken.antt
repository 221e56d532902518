-- Where clap takes the words, they ask for a subcommand, and give it each argument that it has to have.
use Rattle.std.proofs.Common.{◌≡◌, ◌∙◌, ◌&&◌, ⊎_elim, inl, inr, Bool, true, false, not, refl, sym, ap, subst, true≢false, IfSome, cond, List, [], ◌∷◌, Option, Some, None, Result, Ok, Err, MatchResult, codes, is_some, option_map, unwrap_or}
use Rattle.std.specs.List.{find, slice_index_or}
use Rattle.std.specs.Box.{box_value}
use Rattle.std.specs.Prelude.{Box}
use Rattle.clap.specs.Words.{App, HasMatchesOf, Row, Shape, Text, built, fault_of, found_of, is_simple, kind_of, rows_of, subcommand_name_of, subcommand_of}
use Rattle.clap.specs.Words.{subcommand_rows, subcommand_rows_of, HasKind}
use Rattle.clap.specs.declared.error.Error.{Error}
use Rattle.clap.specs.declared.error.kind.ErrorKind.TheVariants.{OutOfMemory}
use Rattle.clap.specs.declared.parser.matches.ArgMatches.{ArgMatches}
use Rattle.clap.specs.declared.parser.matches.ArgMatches.TheViews.{out-ArgMatches, out-SubCommand}
use Rattle.clap.specs.declared.parser.matches.SubCommand.{SubCommand}
use Rattle.clap.specs.Faults.{entered_fault, is_simple_and_free, level_fault}
use Rattle.clap.specs.Simple.{argument_words, entered, label_of, names_of, rows_at}
use Rattle.clap.specs.Walk.{answers_to, finished, nothing_held, rows_after, stop_after, walk}
use Rattle.command_line.specs.Command.{asm, debug, dis, logtm, outcomes, run}
use Rattle.command_line.specs.Reading.{AsksFor, IsComplete, IsFaultOf, IsReadingFault, IsReadingOf, IsToldBy, IsRequestOf}
use Rattle.command_line.specs.declared.fault.OrderFault.{OrderFault}
use Rattle.command_line.specs.declared.fault.OrderFault.TheVariants.{NoMemory, Asked, Refused, ThreadsAlone, MixAlone, TwoFiles, TwoViews, LongPicture, LongPage, Value}
use Rattle.command_line.specs.declared.request.Request.{Request}
use Rattle.command_line.proofs.Levels.{both_there, given_first, lacks_nothing, level_passes, subcommand_checked, value_there}

-- ---- the subcommands

-- where clap takes the words that follow the subcommand's name, it is complete
abbrev Completes : Shape → Type 0
Completes s = (words : List Text) → level_fault s [] nothing_held words false [] ≡ [] → IsComplete s.name (rows_after s.rules [] words)

-- the subcommands as clap builds them
abbrev built_run : Shape
built_run = slice_index_or (built logtm).subs 0 run

abbrev built_debug : Shape
built_debug = slice_index_or (built logtm).subs 1 debug

abbrev built_outcomes : Shape
built_outcomes = slice_index_or (built logtm).subs 2 outcomes

abbrev built_dis : Shape
built_dis = slice_index_or (built logtm).subs 3 dis

abbrev built_asm : Shape
built_asm = slice_index_or (built logtm).subs 4 asm

run_completes : Completes built_run
run_completes words none =
    let file = given_first _ _ (lacks_nothing built_run words refl none) in
    inl (refl, value_there (codes "file") built_run words refl refl none file.0)

debug_completes : Completes built_debug
debug_completes words none =
    let file = given_first _ _ (lacks_nothing built_debug words refl none) in
    inr (inl (refl, value_there (codes "file") built_debug words refl refl none file.0))

outcomes_completes : Completes built_outcomes
outcomes_completes words none =
    let file = given_first _ _ (lacks_nothing built_outcomes words refl none) in
    inr (inr (inl (
      refl,
      value_there (codes "file") built_outcomes words refl refl none file.0,
      both_there (codes "witness") built_outcomes words refl refl none,
    )))

dis_completes : Completes built_dis
dis_completes words none =
    let file = given_first _ _ (lacks_nothing built_dis words refl none) in
    inr (inr (inr (inl (refl, value_there (codes "file") built_dis words refl refl none file.0))))

asm_completes : Completes built_asm
asm_completes words none =
    let source = given_first _ _ (lacks_nothing built_asm words refl none) in
    let target = given_first _ _ source.1 in
    inr (inr (inr (inr (
      refl,
      value_there (codes "source") built_asm words refl refl none source.0,
      value_there (codes "target") built_asm words refl refl none target.0,
    ))))

abbrev EachCompletes : List Shape → Type 0
EachCompletes [] = Unit {0}
EachCompletes (s ∷ rest) = Completes s × EachCompletes rest

found_completes : (p : Shape → Bool) (subs : List Shape) → EachCompletes subs → IfSome (find p subs) Completes
found_completes p [] each = tt
found_completes p (s ∷ rest) each = go (p s) (found_completes p rest each.1)
  where
    go : (b : Bool) → IfSome (find p rest) Completes → IfSome (cond b (Some s) (find p rest)) Completes
    go true later = each.0
    go false later = later

-- the subcommand that is entered, with the words that follow its name
record Entered (top : Shape) (subs : List Shape) (stop : Option (Text × List Text)) : Type 0 where
  shape : Shape
  words : List Text
  rows : entered (record { top = top; subs = subs }) stop ≡ Some (rows_at shape words)
  fault : entered_fault (record { top = top; subs = subs }) stop ≡ level_fault shape [] nothing_held words false []
  completes : Completes shape

entered_here : (top : Shape) (subs : List Shape) (stop : Option (Text × List Text)) → EachCompletes subs
    → is_some (entered (record { top = top; subs = subs }) stop) ≡ true → Entered top subs stop
entered_here top subs None each there = absurd (true≢false (sym there))
entered_here top subs (Some p) each there =
    go (find (λ s. answers_to p.0 (label_of s)) subs) refl (found_completes (λ s. answers_to p.0 (label_of s)) subs each)
  where
    go : (o : Option Shape) → find (λ s. answers_to p.0 (label_of s)) subs ≡ o → IfSome o Completes → Entered top subs (Some p)
    go (Some s) e completes = record { shape = s; words = p.1; rows = rw e refl; fault = rw e refl; completes = completes }
    go None e completes =
        let not_there : is_some (entered (record { top = top; subs = subs }) (Some p)) ≡ false = rw e refl in
        absurd (true≢false (sym there ∙ not_there))

-- ---- the words

-- the words ask for this subcommand with these values, which are complete
pub record AsksCompletely (words : List Text) (name : Text) (rows : List Row) : Type 0 where
  pub asks : AsksFor name words rows
  pub complete : IsComplete name rows

subcommand_is_there : (has : Bool) → (not has && true) ≡ false → has ≡ true
subcommand_is_there true none = refl
subcommand_is_there false none = absurd (true≢false none)

taken : (words : List Text) → fault_of logtm words ≡ [] → (name : Text) × (rows : List Row) × AsksCompletely words name rows
taken words none =
    let top = (built logtm).top in
    let after = argument_words logtm words in
    let names = names_of (built logtm) in
    let stop = stop_after top.rules names after in
    let passes = level_passes top names after (is_some (entered (built logtm) stop)) (entered_fault (built logtm) stop) none in
    let there = subcommand_is_there (is_some (entered (built logtm) stop)) (subcommand_checked top (finished top.rules (walk top.rules names nothing_held after).held) _ passes.checks) in
    let inner = entered_here top (built logtm).subs stop (run_completes, (debug_completes, (outcomes_completes, (dis_completes, (asm_completes, tt))))) there in (
      inner.shape.name,
      rows_after inner.shape.rules [] inner.words,
      record {
        asks = (none, inner.rows);
        complete = inner.completes inner.words (sym inner.fault ∙ passes.inner);
      },
    )

-- ---- the matches

-- what clap says where it takes the words: they pass, and the matches are those of the words
record Takes (words : List Text) (m : ArgMatches) : Type 0 where
  name : Text
  rows : List Row
  given : AsksCompletely words name rows
  found : subcommand_rows_of m ≡ Some (name, rows)

takes_words : (words : List Text) (a : App) (m : ArgMatches) → a ≡ logtm → (is_simple_and_free a ≡ true → fault_of a words ≡ []) → HasMatchesOf a words m → Takes words m
takes_words words a m is passes matches =
    let none : fault_of logtm words ≡ [] = sym (ap (λ b. fault_of b words) is) ∙ passes (ap is_simple_and_free is) in
    let asked = taken words none in
    record {
      name = asked.0;
      rows = asked.1;
      given = asked.2;
      found = (matches (ap is_simple is)).1 ∙ ap (λ b. subcommand_of b words) is ∙ asked.2.asks.1;
    }

name_in_rows : (m : ArgMatches) → option_map (λ p. p.0) (subcommand_rows_of m) ≡ subcommand_name_of m
name_in_rows m = go (out-ArgMatches m).subcommand
  where
    go : {Z : Type 0} (o : Option (Box SubCommand Z)) → option_map (λ p. p.0) (subcommand_rows o) ≡ option_map (λ b. (out-SubCommand (box_value b)).name.now) o
    go None = refl
    go (Some b) = refl

-- the subcommand that clap gives is the one that the words ask for
pub subcommand_asked : (words : List Text) (a : App) (m inner : ArgMatches) (name : Text) → a ≡ logtm → (is_simple_and_free a ≡ true → fault_of a words ≡ []) → HasMatchesOf a words m
    → Some name ≡ subcommand_name_of m → Some (rows_of (found_of inner)) ≡ option_map (λ p. p.1) (subcommand_rows_of m) → AsksCompletely words name (rows_of (found_of inner))
subcommand_asked words a m inner name is passes matches named rows =
    let t = takes_words words a m is passes matches in
    let same_name : t.name ≡ name = ap (λ o. unwrap_or o []) (sym (ap (option_map (λ p. p.0)) t.found) ∙ name_in_rows m ∙ sym named) in
    let same_rows : t.rows ≡ rows_of (found_of inner) = ap (λ o. unwrap_or o []) (sym (ap (option_map (λ p. p.1)) t.found) ∙ sym rows) in
    rw (← same_name, ← same_rows) t.given

-- and it gives one
pub subcommand_given : (words : List Text) (a : App) (m : ArgMatches) → a ≡ logtm → (is_simple_and_free a ≡ true → fault_of a words ≡ []) → HasMatchesOf a words m
    → is_some (subcommand_name_of m) ≡ true
subcommand_given words a m is passes matches =
    ap is_some (sym (name_in_rows m) ∙ ap (option_map (λ p. p.0)) (takes_words words a m is passes matches).found)

-- ---- the refusal

abbrev is_no_memory : OrderFault → Bool
is_no_memory NoMemory = true
is_no_memory other = false

-- clap's error is what the words ask for, or why they are refused
pub refused_words : (words : List Text) (a : App) (error : Error) (fault : OrderFault) → a ≡ logtm → (is_simple_and_free a ≡ true → HasKind (fault_of a words) error)
    → (kind_of error ≡ OutOfMemory → fault ≡ NoMemory) → IsToldBy (kind_of error) fault → IsFaultOf words fault
refused_words words a error fault is fails memory told = go fault memory told
  where
    kinds : HasKind (fault_of logtm words) error
    kinds = subst (λ b. HasKind (fault_of b words) error) is (fails (ap is_simple_and_free is))

    go : (fault : OrderFault) → (kind_of error ≡ OutOfMemory → fault ≡ NoMemory) → IsToldBy (kind_of error) fault → IsFaultOf words fault
    go (Asked text) memory told = ⊎_elim (λ out. absurd (true≢false (sym (ap is_no_memory (memory out))))) (λ among. (kind_of error, among, told)) kinds
    go (Refused text) memory told = ⊎_elim (λ out. absurd (true≢false (sym (ap is_no_memory (memory out))))) (λ among. (kind_of error, among, told)) kinds
    go (Value argument value) memory told = absurd told
    go TwoViews memory told = absurd told
    go LongPicture memory told = absurd told
    go LongPage memory told = absurd told
    go ThreadsAlone memory told = absurd told
    go MixAlone memory told = absurd told
    go TwoFiles memory told = absurd told
    go NoMemory memory told = tt

-- ---- the reading of the values is what the words ask for

pub read_words : (words : List Text) (name : Text) (rows : List Row) (r : Result Request OrderFault) → AsksFor name words rows
    → MatchResult r (IsReadingOf name rows) (IsReadingFault name rows) → MatchResult r (IsRequestOf words) (IsFaultOf words)
read_words words name rows (Ok request) asks read = (name, rows, asks, read)
read_words words name rows (Err (Asked text)) asks bad =
    ⊎_elim (λ run. ⊎_elim (λ first. absurd first) (λ options. ⊎_elim (λ show. absurd show) (λ threads. absurd threads.2) options.2) run.1)
    (⊎_elim (λ debug. absurd debug.1) (λ outcomes. absurd outcomes.1)) bad
read_words words name rows (Err (Refused text)) asks bad =
    ⊎_elim (λ run. ⊎_elim (λ first. absurd first) (λ options. ⊎_elim (λ show. absurd show) (λ threads. absurd threads.2) options.2) run.1)
    (⊎_elim (λ debug. absurd debug.1) (λ outcomes. absurd outcomes.1)) bad
read_words words name rows (Err (Value argument value)) asks bad = (name, rows, asks, bad)
read_words words name rows (Err TwoViews) asks bad = (name, rows, asks, bad)
read_words words name rows (Err LongPicture) asks bad = (name, rows, asks, bad)
read_words words name rows (Err LongPage) asks bad = (name, rows, asks, bad)
read_words words name rows (Err ThreadsAlone) asks bad = (name, rows, asks, bad)
read_words words name rows (Err MixAlone) asks bad = (name, rows, asks, bad)
read_words words name rows (Err TwoFiles) asks bad = (name, rows, asks, bad)
read_words words name rows (Err NoMemory) asks bad = tt
