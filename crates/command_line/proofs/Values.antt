-- Values that are read.
use Rattle.std.proofs.Common.{◌≡◌, ◌∙◌, ◌++◌, List, [], ◌∷◌, Option, Some, None, IfSome, Result, MatchResult, false, not, codes, drop, filter, is_some, length, map, arith, refl, sym, ap, subst, true≢false}
use Rattle.std.specs.Borrow.{Bor}
use Rattle.std.specs.List.{find}
use Rattle.std.specs.Option.{IsSome, ok_or, option_map, option_map_or, option_to_list, unwrap_or}
use Rattle.std.specs.Prelude.{option_and_then, slice_get, slice_index_or}
use Rattle.std.specs.Str.{bytes_eq}
use Rattle.std.proofs.lemmas.List.{length-map}
use Rattle.clap.specs.Words.{Row, Text, all_of, first_of, first_value, matched_of, raw_values, rows_of}
use Rattle.clap.specs.declared.parser.matches.Found.{Found}
use Rattle.clap.proofs.WalkLemmas.{first_value-rows, raw_values-rows}
use Rattle.texts.specs.Numbers.{number_of}
use Rattle.command_line.specs.Reading.{AreWordsOf, HasBoth, HasValue, IsWitnessOf, NamesFirstOf, can_write, given, malformed, meant_for, witness_paths, words_of}
use Rattle.command_line.specs.declared.argument.Argument.{Argument}
use Rattle.command_line.specs.declared.argument.Argument.TheVariants as argument
use Rattle.command_line.specs.declared.fault.OrderFault.{OrderFault}
use Rattle.command_line.specs.declared.fault.OrderFault.TheVariants.{Asked, Refused, Value, TwoViews, LongPicture, LongPage, ThreadsAlone, MixAlone, TwoFiles, NoMemory}
use Rattle.command_line.specs.declared.request.Witness.{Witness}
use Rattle.command_line.specs.declared.request.Word.{Word}

module _ {T : Type 0} (argument : Argument) (read : Text → Option T) (default : T) where
  here : (text : Bor Text) (o : Option T) → o ≡ read text.now
      → MatchResult (ok_or o (Value argument text)) (λ x. option_map_or read (Some text.now) (Some default) ≡ Some x) (NamesFirstOf (malformed argument read (text.now ∷ [])))
  here text (Some x) is = sym is
  here text None is = rw (← is) refl

  -- the value of an option is read, or is the first malformed one
  pub option_read : (given : Option Text) (text : Bor Text) (o : Option T) (r : Result T OrderFault) → Some text.now ≡ given → o ≡ read text.now
      → r ≡ ok_or o (Value argument text) → MatchResult r (λ x. option_map_or read given (Some default) ≡ Some x) (NamesFirstOf (malformed argument read (option_to_list given)))
  option_read given text o r found is reads = rw (reads, ← found) (here text o is)

-- the WORDs as the getter gives them
pub words_are : (f : Found) (o : Option (List Text)) → o ≡ option_map raw_values (matched_of f (codes "words")) → words_of (rows_of f) ≡ unwrap_or o []
words_are f o is = ap (λ given. unwrap_or given []) (sym (is ∙ raw_values-rows f (codes "words")))

-- a value that was given is there
pub value_is_there : (f : Found) (id : Text) (o : Option (Bor Text)) → option_map (λ s. s.now) o ≡ first_value f id → HasValue id (rows_of f) → IsSome o
value_is_there f id (Some text) is has = refl
value_is_there f id None is has = absurd (true≢false (sym has ∙ ap is_some (sym (is ∙ first_value-rows f id))))

-- a value that is read is not malformed
pub none_malformed : {T : Type 0} (argument : Argument) (read : Text → Option T) (default x : T) (given : Option Text) → option_map_or read given (Some default) ≡ Some x → malformed argument read (option_to_list given) ≡ []
none_malformed argument read default x None is = refl
none_malformed argument read default x (Some text) is = rw is refl

-- the first of some texts is the first of more
pub first_of_more : (xs ys : List (Argument × Text)) (fault : OrderFault) → NamesFirstOf xs fault → NamesFirstOf (xs ++ ys) fault
first_of_more xs ys (Asked text) first = absurd first
first_of_more xs ys (Refused text) first = absurd first
first_of_more [] ys (Value argument value) first = absurd (cc)
first_of_more (x ∷ xs) ys (Value argument value) first = first
first_of_more xs ys TwoViews first = absurd first
first_of_more xs ys LongPicture first = absurd first
first_of_more xs ys LongPage first = absurd first
first_of_more xs ys ThreadsAlone first = absurd first
first_of_more xs ys MixAlone first = absurd first
first_of_more xs ys TwoFiles first = absurd first
first_of_more xs ys NoMemory first = tt

-- a fault in the values behind one that is read is the first of all
pub first_behind : {T : Type 0} (argument : Argument) (read : Text → Option T) (default x : T) (given : Option Text) (rest : List (Argument × Text)) (fault : OrderFault)
    → option_map_or read given (Some default) ≡ Some x → NamesFirstOf rest fault → NamesFirstOf (malformed argument read (option_to_list given) ++ rest) fault
first_behind argument read default x given rest fault is first = rw (none_malformed argument read default x given is) first

-- words that are read are not malformed
pub words_well_formed : (texts : List Text) (words : List Word) → map (λ w. Some w.addr) words ≡ map number_of texts → malformed argument.Word number_of texts ≡ []
words_well_formed [] words are = refl
words_well_formed (text ∷ texts) [] are = absurd (cc)
words_well_formed (text ∷ texts) (word ∷ words) are =
    let first : number_of text ≡ Some word.addr = sym (ap (λ read. unwrap_or (slice_get read 0) None) are) in
    rw (first) (words_well_formed texts words (ap (drop 1) are))

-- ---- the option with two values

-- its first value is the first of all
first_of_all : (id : Text) (rows : List Row) → first_of id rows ≡ option_and_then (λ values. slice_get values 0) (all_of id rows)
first_of_all id rows = go (find (λ r. bytes_eq r.id id) rows)
  where
    go : (o : Option Row) → option_and_then (λ (r : Row). slice_get r.values 0) o ≡ option_and_then (λ (values : List Text). slice_get values 0) (option_map (λ (r : Row). r.values) o)
    go None = refl
    go (Some r) = refl

two_texts : (values : List (Bor Text)) (default : Bor Text) → length values ≡ 2
    → map (λ s. s.now) values ≡ (slice_index_or values 0 default).now ∷ (slice_index_or values 1 default).now ∷ []
two_texts [] default two = absurd (omega arith)
two_texts (x ∷ []) default two = absurd (omega arith)
two_texts (x ∷ y ∷ []) default two = refl
two_texts (x ∷ y ∷ z ∷ rest) default two = absurd (omega arith)

-- the two values as the getter gives them
pub are_two : (f : Found) (values : List (Bor Text)) → Some (map (λ s. s.now) values) ≡ option_map raw_values (matched_of f (codes "witness")) → HasBoth (codes "witness") (rows_of f)
    → length values ≡ 2
are_two f values is both =
    let given : Some (map (λ s. s.now) values) ≡ all_of (codes "witness") (rows_of f) = is ∙ raw_values-rows f (codes "witness") in
    sym (length-map values (λ s. s.now)) ∙ subst (λ o. IfSome o (λ values. length values ≡ 2)) (sym given) both

pub both_values : (f : Found) (values : List (Bor Text)) (default : Bor Text) → Some (map (λ s. s.now) values) ≡ option_map raw_values (matched_of f (codes "witness"))
    → HasBoth (codes "witness") (rows_of f) → all_of (codes "witness") (rows_of f) ≡ Some ((slice_index_or values 0 default).now ∷ (slice_index_or values 1 default).now ∷ [])
both_values f values default is both = sym (is ∙ raw_values-rows f (codes "witness")) ∙ ap Some (two_texts values default (are_two f values is both))

-- the first of them is malformed
pub number_refused : (f : Found) (values : List (Bor Text)) (default : Bor Text) → Some (map (λ s. s.now) values) ≡ option_map raw_values (matched_of f (codes "witness"))
    → HasBoth (codes "witness") (rows_of f) → number_of (slice_index_or values 0 default).now ≡ None
    → NamesFirstOf (malformed argument.Witness number_of (given (codes "witness") (rows_of f))) (Value argument.Witness (slice_index_or values 0 default))
number_refused f values default is both none = rw (first_of_all (codes "witness") (rows_of f), both_values f values default is both, none) refl

-- the outcome's number is read
number_well_formed : (rows : List Row) (witness : Option Witness) → IsWitnessOf rows witness → malformed argument.Witness number_of (given (codes "witness") rows) ≡ []
number_well_formed rows None is = rw (first_of_all (codes "witness") rows, is) refl
number_well_formed rows (Some witness) is = rw (first_of_all (codes "witness") rows, is.1, is.2) refl

-- a fault behind it is the first of all
pub behind_witness : (rows : List Row) (witness : Option Witness) (rest : List (Argument × Text)) (fault : OrderFault) → IsWitnessOf rows witness → NamesFirstOf rest fault
    → NamesFirstOf (malformed argument.Witness number_of (given (codes "witness") rows) ++ rest) fault
behind_witness rows witness rest fault is first = rw (number_well_formed rows witness is) first

-- the path is the last value that is malformed
pub path_refused : (rows : List Row) (witness : Witness) (words : List Word) → IsWitnessOf rows (Some witness) → AreWordsOf (words_of rows) words
    → can_write rows witness.path.now ≡ false
    → NamesFirstOf (malformed argument.Word number_of (words_of rows) ++ meant_for argument.Witness (filter (λ path. not (can_write rows path)) (witness_paths rows))) (Value argument.Witness witness.path)
path_refused rows witness words is are bad = rw (words_well_formed (words_of rows) words are.1, is.1, bad) refl
