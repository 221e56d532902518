-- Where clap takes the words of a level, each argument that has to be there was given a value, and an option with two values both.
use Rattle.std.proofs.Common.{◌≡◌, ◌&&◌, ◌||◌, Bool, true, false, not, refl, sym, ap, true≢false, arith, List, [], ◌∷◌, length, Option, Some, None, IfSome, is_some, option_map}
use Rattle.std.specs.Prelude.{option_and_then, slice_get}
use Rattle.std.specs.List.{find, list_all, list_any}
use Rattle.std.specs.Option.{option_map_or}
use Rattle.std.specs.Str.{bytes_eq}
use Rattle.clap.specs.Words.{Row, Rule, Shape, Text}
use Rattle.clap.specs.Facts.{explicit_source}
use Rattle.clap.specs.Faults.{check_fault, defaults_fault, level_fault, settle_fault, walk_fault}
use Rattle.clap.specs.Kinds.{Kinds, check_kinds, or_else}
use Rattle.clap.specs.Takes.{is_given}
use Rattle.clap.specs.Walk.{Names, finished, nothing_held, rows_after, settled, walk, walk_from}
use Rattle.command_line.specs.Reading.{HasBoth, HasValue}
use Rattle.command_line.proofs.Filled.{both_pass, found_filled, is_none, is_regular, rows_filled}

-- each step of a level passes
pub record Passes (s : Shape) (names : Names) (words : List Text) (has : Bool) (below : Kinds) : Type 0 where
  pub walks : walk_fault s names (walk_from nothing_held) words ≡ []
  pub inner : below ≡ []
  pub settles : settle_fault s.rules s.args_override_self (walk s.rules names nothing_held words).held ≡ []
  pub checks : check_fault s (finished s.rules (walk s.rules names nothing_held words).held) has ≡ []

pub level_passes : (s : Shape) (names : Names) (words : List Text) (has : Bool) (below : Kinds) → level_fault s names nothing_held words has below ≡ [] → Passes s names words has below
level_passes s names words has below none =
    let end = (walk s.rules names nothing_held words).held in
    let checks = check_fault s (finished s.rules end) has in
    let defaults = defaults_fault (settled s.rules end).rows s.rules in
    let settles = settle_fault s.rules s.args_override_self end in
    let first = both_pass (walk_fault s names (walk_from nothing_held) words) (or_else below (or_else settles (or_else defaults checks))) none in
    let second = both_pass below (or_else settles (or_else defaults checks)) first.1 in
    let third = both_pass settles (or_else defaults checks) second.1 in
    record { walks = first.0; inner = second.0; settles = third.0; checks = (both_pass defaults checks third.1).1 }

-- no subcommand and no argument is wanted
checks_pass : (help subcommand argument : Bool) → check_kinds help subcommand argument ≡ [] → (subcommand ≡ false) × (argument ≡ false)
checks_pass true subcommand argument none = absurd (true≢false (sym (ap is_none none)))
checks_pass false true argument none = absurd (true≢false (sym (ap is_none none)))
checks_pass false false true none = absurd (true≢false (sym (ap is_none none)))
checks_pass false false false none = (refl, refl)

-- a rule that is required has no row
abbrev pub lacks : List Row → List Rule → Bool
lacks rows rules = list_any (λ a. a.required && not (is_given a.id rows)) rules

-- a subcommand that has to be there is there
pub subcommand_checked : (s : Shape) (rows : List Row) (has : Bool) → check_fault s rows has ≡ [] → (not has && s.subcommand_required) ≡ false
subcommand_checked s rows has none = (checks_pass _ _ (not (s.subcommand_negates_reqs && has) && lacks rows s.rules) none).0

checked : (negates lacking : Bool) → negates ≡ false → (not (negates && false) && lacking) ≡ false → lacking ≡ false
checked true lacking is none = absurd (true≢false is)
checked false lacking is none = none

-- a subcommand lacks nothing
pub lacks_nothing : (s : Shape) (words : List Text) → s.subcommand_negates_reqs ≡ false → level_fault s [] nothing_held words false [] ≡ []
    → lacks (rows_after s.rules [] words) s.rules ≡ false
lacks_nothing s words is none =
    checked s.subcommand_negates_reqs (lacks (rows_after s.rules [] words) s.rules) is (checks_pass _ _ _ (level_passes s [] words false [] none).checks).1

-- a rule that is required and not lacking is given
pub given_first : (given rest : Bool) → ((true && not given) || rest) ≡ false → (given ≡ true) × (rest ≡ false)
given_first true rest none = (refl, none)
given_first false rest none = absurd (true≢false none)

some_from : (o : Option Row) → option_map_or (λ r. explicit_source r.source) o false ≡ true → is_some o ≡ true
some_from None h = absurd (true≢false (sym h))
some_from (Some r) h = refl

one_there : (o : Option Row) → IfSome o (λ r. length r.values ≡ 1) → is_some o ≡ true → is_some (option_and_then (λ r. slice_get r.values 0) o) ≡ true
one_there None one there = absurd (true≢false (sym there))
one_there (Some r) one there = has_first r.values one
  where
    has_first : (values : List Text) → length values ≡ 1 → is_some (slice_get values 0) ≡ true
    has_first [] one = absurd (omega arith)
    has_first (v ∷ vs) one = refl

two_there : (o : Option Row) → IfSome o (λ r. length r.values ≡ 2) → IfSome (option_map (λ r. r.values) o) (λ values. length values ≡ 2)
two_there None two = tt
two_there (Some r) two = two

-- where the words are taken, an argument that takes a value and is given has it
pub value_there : (id : Text) (s : Shape) (words : List Text) → s.args_override_self ≡ false → list_all (is_regular id 1) s.rules ≡ true
    → level_fault s [] nothing_held words false [] ≡ [] → is_given id (rows_after s.rules [] words) ≡ true → HasValue id (rows_after s.rules [] words)
value_there id s words once regular none given =
    let passes = level_passes s [] words false [] none in
    let rows = rows_after s.rules [] words in
    let filled = rows_filled id 1 refl s once regular [] words passes.walks passes.settles in
    one_there (find (λ r. bytes_eq r.id id) rows) (found_filled id 1 rows filled) (some_from _ given)

-- and one that takes two has both, if it is given
pub both_there : (id : Text) (s : Shape) (words : List Text) → s.args_override_self ≡ false → list_all (is_regular id 2) s.rules ≡ true
    → level_fault s [] nothing_held words false [] ≡ [] → HasBoth id (rows_after s.rules [] words)
both_there id s words once regular none =
    let passes = level_passes s [] words false [] none in
    let rows = rows_after s.rules [] words in
    let filled = rows_filled id 2 refl s once regular [] words passes.walks passes.settles in
    two_there (find (λ r. bytes_eq r.id id) rows) (found_filled id 2 rows filled)
