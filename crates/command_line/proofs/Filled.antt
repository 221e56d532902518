-- Where clap takes the words, each argument of an id whose rules take n values was given n.
use Rattle.std.proofs.Common.{◌≡◌, ◌∙◌, IfSome, ◌&&◌, ◌||◌, ◌==◌, ◌+◌, ℕ, Bool, cond, true, false, zero, suc, not, refl, sym, ap, true≢false, arith, nat_lt, eqb-true, eq-eqb, List, [], ◌∷◌, ◌++◌, length, Option, Some, None, is_some}
use Rattle.std.specs.List.{find, fold, list_all}
use Rattle.std.specs.Option.{option_map_or}
use Rattle.std.specs.Prelude.{min, slice_get}
use Rattle.std.specs.Str.{bytes_eq, chars}
use Rattle.std.proofs.lemmas.Slice.Eq.{bytes_eq-Decides}
use Rattle.clap.proofs.WalkLemmas.{both}
use Rattle.clap.specs.Facts.{unwrap_or_range}
use Rattle.clap.specs.Faults.{action_fault, bundle_fault, bundle_step_fault, flag_word_fault, flags_fault, long_fault, option_fault, other_fault, positional_fault}
use Rattle.clap.specs.Faults.{react_fault, repeat_fault, settle_fault, short_fault, step_fault, stray_fault, turn_fault, use_fault, values_fault, walk_fault, word_fault}
use Rattle.clap.specs.Kinds.{Kinds, or_else, range_kinds}
use Rattle.clap.specs.Lexer.{long_of, short_of}
use Rattle.clap.specs.Simple.{Shape}
use Rattle.clap.specs.Walk.{Held, Names, Outcome, Row, Rule, Step, Text, Waiting, Walk}
use Rattle.clap.specs.Walk.{action_of, after_flag, after_step, arg_by_id, arg_by_index, arg_by_long, arg_by_short, at_row, attached_value, bundle, bundle_met, bundle_step, count_of, counted}
use Rattle.clap.specs.Walk.{default_rows, done, flag_met, has_row, idle, is_empty, long_met, long_or_other, more_values, most_values, next, new_count, nothing_held, option, option_met, option_word, plain, plain_word, positional}
use Rattle.clap.specs.Walk.{reacted, reading_by, refused, rows_after, settled, settled_rows, short_met, short_or_plain, subcommand, subcommand_met, subcommand_or_other, takes_several, takes_values, to_positional}
use Rattle.clap.specs.Walk.{trailing, used, used_as, used_by_id, value, values_or_missing, waits, walk, walk_from, walked, walked_from, with_count, with_default, with_values, without, word_met, is_pending}
use Rattle.clap.specs.declared.builder.value_parser.Reading.{Reading}
use Rattle.clap.specs.declared.builder.ArgAction.{ArgAction}
use Rattle.clap.specs.declared.builder.ArgAction.TheVariants.{Set, Append, SetTrue, SetFalse, Count, Help, HelpShort, HelpLong, Version}
use Rattle.clap.specs.declared.error.kind.ErrorKind.{ErrorKind}
use Rattle.clap.specs.declared.error.kind.ErrorKind.TheVariants as kind
use Rattle.clap.specs.declared.parser.matches.ValueSource.{ValueSource}
use Rattle.clap.specs.declared.parser.matches.ValueSource.TheVariants.{CommandLine, DefaultValue}

-- ---- steps without a fault

-- there is no kind of fault
abbrev pub is_none : Kinds → Bool
is_none [] = true
is_none (k ∷ ks) = false

-- both steps pass
pub both_pass : (a b : Kinds) → or_else a b ≡ [] → (a ≡ []) × (b ≡ [])
both_pass [] b e = (refl, e)
both_pass (k ∷ ks) b e = absurd (true≢false (sym (ap is_none e)))

-- a fault that is not met leaves the rest
not_met : (b : Bool) (k : ErrorKind) (rest : Kinds) → cond b (k ∷ []) rest ≡ [] → (b ≡ false) × (rest ≡ [])
not_met true k rest none = absurd (true≢false (sym (ap is_none none)))
not_met false k rest none = (refl, none)

right_count : (b : Bool) → cond b [] (kind.WrongNumberOfValues ∷ []) ≡ [] → b ≡ true
right_count true none = refl
right_count false none = absurd (true≢false (sym (ap is_none none)))

-- where n values are wanted, n are given
n_given : (n count : ℕ) → range_kinds n n count ≡ [] → count ≡ n
n_given n count none =
    let counted = (not_met (nat_lt 0 n && count == 0) kind.InvalidValue _ none).1 in
    sym (eqb-true n count (right_count (n == count) (rw (eq-eqb n n refl) at counted)))

-- an argument that is not given again has no row
unused : (has again : Bool) → again ≡ false → cond (has && not again) (kind.ArgumentConflict ∷ []) [] ≡ [] → has ≡ false
unused true true once none = absurd (true≢false once)
unused true false once none = absurd (true≢false (sym (ap is_none none)))
unused false again once none = refl

either_false : (a b : Bool) → (a || b) ≡ false → (a ≡ false) × (b ≡ false)
either_false true b none = absurd (true≢false none)
either_false false b none = (refl, none)

abbrev is_set : ArgAction → Bool
is_set Set = true
is_set other = false

-- the rows without an id that they don't have are the same
none_left_out : (key : Text) (rows : List Row) → has_row key rows ≡ false → without key rows ≡ rows
none_left_out key [] none = refl
none_left_out key (r ∷ rs) none =
    let apart = either_false (bytes_eq r.id key) (has_row key rs) none in
    rw (apart.0) (ap (λ rest. r ∷ rest) (none_left_out key rs apart.1))

found_passes : {X : Type 0} (p test : X → Bool) (xs : List X) → list_all test xs ≡ true → IfSome (find p xs) (λ x. test x ≡ true)
found_passes p test [] all = tt
found_passes p test (y ∷ ys) all = go (p y) (found_passes p test ys (both _ _ all).1)
  where
    go : (b : Bool) → IfSome (find p ys) (λ x. test x ≡ true) → IfSome (cond b (Some y) (find p ys)) (λ x. test x ≡ true)
    go true h = (both _ _ all).0
    go false h = h

module _ (id : Text) (n : ℕ) where
  -- each row of the id has n values
  abbrev pub Filled : List Row → Type 0
  Filled [] = Unit {0}
  Filled (r ∷ rs) = (bytes_eq r.id id ≡ true → length r.values ≡ n) × Filled rs

  -- the argument takes n values, once, and has no default
  abbrev pub takes_once : Rule → Bool
  takes_once a = ((unwrap_or_range a.range).start_inclusive == n && most_values a == n) && (is_set (action_of a) && is_empty a.defaults)

  -- so does each argument of the id
  abbrev pub is_regular : Rule → Bool
  is_regular a = not (bytes_eq a.id id) || takes_once a

  join : (xs ys : List Row) → Filled xs → Filled ys → Filled (xs ++ ys)
  join [] ys f g = g
  join (x ∷ xs) ys f g = (f.0, join xs ys f.1 g)

  -- ---- a use of an argument with another id

  another : (row key : Text) → bytes_eq row key ≡ true → bytes_eq key id ≡ false → bytes_eq row id ≡ false
  another row key same other = ap (λ k. bytes_eq k id) ((bytes_eq-Decides row key).0 same) ∙ other

  at_row_filled : (key : Text) (change : Row → List Row) (missing rows : List Row)
      → ((r : Row) → bytes_eq r.id key ≡ true → Filled (change r)) → Filled missing → Filled rows → Filled (at_row key change missing rows)
  at_row_filled key change missing [] changes none f = none
  at_row_filled key change missing (r ∷ rs) changes none f = go (bytes_eq r.id key) refl (at_row_filled key change missing rs changes none f.1)
    where
      go : (b : Bool) → bytes_eq r.id key ≡ b → Filled (at_row key change missing rs) → Filled (cond b (change r ++ rs) (r ∷ at_row key change missing rs))
      go true same rest = join (change r) rs (changes r same) f.1
      go false same rest = (f.0, rest)

  without_filled : (key : Text) (rows : List Row) → Filled rows → Filled (without key rows)
  without_filled key rows f = at_row_filled key (λ _. []) [] rows (λ r same. tt) tt f

  module _ (key : Text) (other : bytes_eq key id ≡ false) where
    -- whatever values a row of the other id has
    not_this : (row : Text) (values : List Text) → bytes_eq row key ≡ true → bytes_eq row id ≡ true → length values ≡ n
    not_this row values same e = absurd (true≢false (sym e ∙ another row key same other))

    with_values_other : (how : Reading) (s : ValueSource) (values : List Text) (rows : List Row) → Filled rows → Filled (with_values key how s values rows)
    with_values_other how s values rows f =
        at_row_filled key (more_values s values) _ rows (λ r same. (not_this r.id _ same, tt)) ((λ e. absurd (true≢false (sym e ∙ other))), tt) f

    with_count_other : (how : Reading) (s : ValueSource) (k : ℕ) (rows : List Row) → Filled rows → Filled (with_count key how s k rows)
    with_count_other how s k rows f =
        at_row_filled key (new_count s k) _ rows (λ r same. (not_this r.id _ same, tt)) ((λ e. absurd (true≢false (sym e ∙ other))), tt) f

    counted_other : (how : Reading) (values : List Text) (rows : List Row) → Filled rows → Filled (counted key how values rows)
    counted_other how [] rows f = with_count_other how CommandLine (min (count_of key rows + 1) 255) _ (without_filled key rows f)
    counted_other how (v ∷ vs) rows f = with_values_other how CommandLine (v ∷ vs) _ (without_filled key rows f)

    used_as_other : (action : ArgAction) (how : Reading) (values : List Text) (rows : List Row) → Filled rows → Filled (used_as action key how values rows)
    used_as_other Set how values rows f = with_values_other how CommandLine values _ (without_filled key rows f)
    used_as_other SetTrue how values rows f = with_values_other how CommandLine values _ (without_filled key rows f)
    used_as_other SetFalse how values rows f = with_values_other how CommandLine values _ (without_filled key rows f)
    used_as_other Append how values rows f = with_values_other how CommandLine values rows f
    used_as_other Count how values rows f = counted_other how values rows f
    used_as_other Help how values rows f = f
    used_as_other HelpShort how values rows f = f
    used_as_other HelpLong how values rows f = f
    used_as_other Version how values rows f = f

  -- ---- a use of an argument with the id, and of any

  -- a row for an id that had none
  new_row_filled : (key : Text) (change : Row → List Row) (new rows : List Row) → has_row key rows ≡ false → Filled new → Filled rows → Filled (at_row key change new rows)
  new_row_filled key change new [] none one f = one
  new_row_filled key change new (r ∷ rs) none one f =
      let apart = either_false (bytes_eq r.id key) (has_row key rs) none in
      rw (apart.0) (f.0, new_row_filled key change new rs apart.1 one f.1)

  set_filled : (action : ArgAction) (again : Bool) (a : Rule) (how : Reading) (values : List Text) (rows : List Row) → is_set action ≡ true → again ≡ false → length values ≡ n
      → action_fault action again a values rows ≡ [] → Filled rows → Filled (used_as action a.id how values rows)
  set_filled Set again a how values rows ok once count none f =
      let first = unused (has_row a.id rows) again once (both_pass (repeat_fault again a.id rows) (values_fault a values) none).0 in
      rw (none_left_out a.id rows first) (new_row_filled a.id (more_values CommandLine values) _ rows first ((λ e. count), tt) f)
  set_filled Append again a how values rows ok once count none f = absurd (true≢false (sym ok))
  set_filled SetTrue again a how values rows ok once count none f = absurd (true≢false (sym ok))
  set_filled SetFalse again a how values rows ok once count none f = absurd (true≢false (sym ok))
  set_filled Count again a how values rows ok once count none f = absurd (true≢false (sym ok))
  set_filled Help again a how values rows ok once count none f = absurd (true≢false (sym ok))
  set_filled HelpShort again a how values rows ok once count none f = absurd (true≢false (sym ok))
  set_filled HelpLong again a how values rows ok once count none f = absurd (true≢false (sym ok))
  set_filled Version again a how values rows ok once count none f = absurd (true≢false (sym ok))

  module _ (some : (n == 0) ≡ false) (again : Bool) (once : again ≡ false) where
    not_missing : (a : Rule) (values : List Text) → length values ≡ n → values_or_missing a values ≡ values
    not_missing a [] count = absurd (true≢false (ap (λ k. k == 0) count ∙ some))
    not_missing a (v ∷ vs) count = refl

    this_used_filled : (a : Rule) (values : List Text) (rows : List Row) → takes_once a ≡ true → use_fault again a values rows ≡ [] → Filled rows → Filled (used a values rows)
    this_used_filled a values rows ok none f =
        let least = (unwrap_or_range a.range).start_inclusive in
        let parts = both (least == n && most_values a == n) (is_set (action_of a) && is_empty a.defaults) ok in
        let range = both (least == n) (most_values a == n) parts.0 in
        let action = both (is_set (action_of a)) (is_empty a.defaults) parts.1 in
        let steps = both_pass (range_kinds least (most_values a) (length values)) (action_fault (action_of a) again a (values_or_missing a values) rows) none in
        let is_least : least ≡ n = eqb-true least n range.0 in
        let is_most : most_values a ≡ n = eqb-true (most_values a) n range.1 in
        let wanted : range_kinds n n (length values) ≡ [] =
        sym (ap (λ k. range_kinds k (most_values a) (length values)) is_least ∙ ap (λ k. range_kinds n k (length values)) is_most) ∙ steps.0 in
        let count = n_given n (length values) wanted in
        let given = not_missing a values count in
        set_filled (action_of a) again a (reading_by a) (values_or_missing a values) rows action.0 once (ap length given ∙ count) steps.1 f

    used_filled : (a : Rule) (values : List Text) (rows : List Row) → is_regular a ≡ true → use_fault again a values rows ≡ [] → Filled rows → Filled (used a values rows)
    used_filled a values rows ok none f = go (bytes_eq a.id id) refl ok
      where
        go : (b : Bool) → bytes_eq a.id id ≡ b → (not b || takes_once a) ≡ true → Filled (used a values rows)
        go true is ok = this_used_filled a values rows ok none f
        go false is ok = used_as_other a.id is (action_of a) (reading_by a) (values_or_missing a values) rows f

    by_id_filled : (o : Option Rule) (values : List Text) (rows : List Row) → IfSome o (λ a. is_regular a ≡ true)
        → option_map_or (λ a. use_fault again a values rows) o [] ≡ [] → Filled rows → Filled (used_by_id o values rows)
    by_id_filled None values rows ok none f = f
    by_id_filled (Some a) values rows ok none f = used_filled a values rows ok none f

    module _ (c : List Rule) (regular : list_all is_regular c ≡ true) where
      settled_rows_filled : (p : Option (Text × List Text)) (rows : List Row)
          → option_map_or (λ p. option_map_or (λ a. use_fault again a p.1 rows) (arg_by_id c p.0) []) p [] ≡ [] → Filled rows → Filled (settled_rows c p rows)
      settled_rows_filled None rows none f = f
      settled_rows_filled (Some p) rows none f = by_id_filled (arg_by_id c p.0) p.1 rows (found_passes _ is_regular c regular) none f

      settled_filled : (h : Held) → settle_fault c again h ≡ [] → Filled h.rows → Filled (settled c h).rows
      settled_filled h none f = settled_rows_filled h.pending h.rows none f

      reacted_filled : (a : Rule) (values : List Text) (h : Held) → is_regular a ≡ true → react_fault c again a values h ≡ [] → Filled h.rows → Filled (reacted c a values h).rows
      reacted_filled a values h ok none f =
          let steps = both_pass (settle_fault c again h) (use_fault again a values (settled c h).rows) none in
          used_filled a values (settled c h).rows ok steps.1 (settled_filled h steps.0 f)

      -- ---- flags and options

      option_met_filled : (a : Rule) (v : Option Text) (h : Held) → is_regular a ≡ true → option_fault c again a v h ≡ [] → Filled h.rows → Filled (option_met c a v h).0.rows
      option_met_filled a (Some v) h ok none f = reacted_filled a (v ∷ []) h ok none f
      option_met_filled a None h ok none f = settled_filled h none f

      flag_met_filled : (a : Rule) (v : Option Text) (h : Held) → is_regular a ≡ true
          → cond (is_some v) (kind.TooManyValues ∷ []) (react_fault c again a [] h) ≡ [] → Filled h.rows → Filled (flag_met c a v h).0.rows
      flag_met_filled a (Some v) h ok none f = f
      flag_met_filled a None h ok none f = reacted_filled a [] h ok none f

      long_met_filled : (o : Option Rule) (v : Option Text) (h : Held) → IfSome o (λ a. is_regular a ≡ true) → long_fault c again o v h ≡ [] → Filled h.rows
          → Filled (long_met c o v h).0.rows
      long_met_filled None v h ok none f = f
      long_met_filled (Some a) v h ok none f = go (takes_values a) none
        where
          go : (b : Bool) → cond b (option_fault c again a v h) (cond (is_some v) (kind.TooManyValues ∷ []) (react_fault c again a [] h)) ≡ []
              → Filled (cond b (option_met c a v h) (flag_met c a v h)).0.rows
          go true none = option_met_filled a v h ok none f
          go false none = flag_met_filled a v h ok none f

      short_met_filled : (o : Option Rule) (rest : Text) (h : Held) (onward : Held → Held × Outcome) (faults : Held → Kinds) → IfSome o (λ a. is_regular a ≡ true)
          → ((k : Held) → faults k ≡ [] → Filled k.rows → Filled (onward k).0.rows) → short_fault c again o rest h faults ≡ [] → Filled h.rows
          → Filled (short_met c o rest h onward).0.rows
      short_met_filled None rest h onward faults ok keeps none f = f
      short_met_filled (Some a) rest h onward faults ok keeps none f = go (takes_values a) none
        where
          go : (b : Bool) → cond b (option_fault c again a (attached_value rest) h) (or_else (react_fault c again a [] h) (faults (reacted c a [] h))) ≡ []
              → Filled (cond b (option_met c a (attached_value rest) h) (onward (reacted c a [] h))).0.rows
          go true none = option_met_filled a (attached_value rest) h ok none f
          go false none =
              let steps = both_pass (react_fault c again a [] h) (faults (reacted c a [] h)) none in
              keeps (reacted c a [] h) steps.1 (reacted_filled a [] h ok steps.0 f)

      bundle_step_filled : (o : Option ℕ) (flags : Text) (skip : ℕ) (so_far : Outcome) (h : Held) (onward : Text → ℕ → Outcome → Held → Held × Outcome)
          (faults : Text → ℕ → Held → Kinds)
          → ((t : Text) (k : ℕ) (r : Outcome) (x : Held) → faults t k x ≡ [] → Filled x.rows → Filled (onward t k r x).0.rows)
          → bundle_step_fault c again o flags skip h faults ≡ [] → Filled h.rows → Filled (bundle_step c o flags skip so_far h onward).0.rows
      bundle_step_filled None flags skip so_far h onward faults keeps none f = f
      bundle_step_filled (Some x) flags zero so_far h onward faults keeps none f =
          short_met_filled (arg_by_short c x) _ h _ _ (found_passes _ is_regular c regular) (keeps _ 0 done) none f
      bundle_step_filled (Some x) flags (suc skip) so_far h onward faults keeps none f = keeps _ skip so_far h none f

      bundle_met_filled : (k : ℕ) (flags : Text) (skip : ℕ) (so_far : Outcome) (h : Held) → flags_fault c again k flags skip h ≡ [] → Filled h.rows
          → Filled (bundle_met c k flags skip so_far h).0.rows
      unfolding bundle_met flags_fault
      bundle_met_filled zero flags skip so_far h none f = f
      bundle_met_filled (suc k) flags skip so_far h none f =
          bundle_step_filled (slice_get (chars flags) 0) flags skip so_far h (bundle_met c k) (flags_fault c again k) (bundle_met_filled k) none f

      -- ---- words

      option_word_filled : (o : Option Rule) (key word : Text) (h : Held) → Filled h.rows → Filled (option_word o key word h).0.rows
      option_word_filled None key word h f = f
      option_word_filled (Some a) key word h f = f

      plain_word_filled : (waiting : Waiting) (word : Text) (h : Held) → Filled h.rows → Filled (plain_word c waiting word h).0.rows
      plain_word_filled idle word h f = f
      plain_word_filled (option key) word h f = option_word_filled (arg_by_id c key) key word h f
      plain_word_filled positional word h f = f

      after_flag_filled : (waiting : Waiting) (word : Text) (h : Held) (r : Outcome) → Filled h.rows → Filled (after_flag c waiting word h r).0.rows
      after_flag_filled waiting word h done f = f
      after_flag_filled waiting word h (waits key) f = f
      after_flag_filled waiting word h plain f = plain_word_filled waiting word h f
      after_flag_filled waiting word h refused f = plain_word_filled waiting word h f

      short_or_plain_filled : (waiting : Waiting) (word : Text) (o : Option Text) (h : Held) → option_map_or (λ flags. bundle_fault c again flags h) o [] ≡ [] → Filled h.rows
          → Filled (short_or_plain c waiting word o h).0.rows
      short_or_plain_filled waiting word None h none f = plain_word_filled waiting word h f
      short_or_plain_filled waiting word (Some flags) h none f =
          after_flag_filled waiting word _ (bundle c flags h).1 (bundle_met_filled (length flags) flags h.skip plain (record h { skip = 0 }) none f)

      long_or_other_filled : (waiting : Waiting) (word : Text) (o : Option (Text × Option Text)) (h : Held) → flag_word_fault c again o word h ≡ [] → Filled h.rows
          → Filled (long_or_other c waiting word o h).0.rows
      long_or_other_filled waiting word None h none f = short_or_plain_filled waiting word (short_of word) h none f
      long_or_other_filled waiting word (Some p) h none f =
          after_flag_filled waiting word _ (long_met c (arg_by_long c p.0) p.1 h).1
          (long_met_filled (arg_by_long c p.0) p.1 h (found_passes _ is_regular c regular) none f)

  -- ---- the walk

  module _ (some : (n == 0) ≡ false) (s : Shape) (once : s.args_override_self ≡ false) (regular : list_all is_regular s.rules ≡ true) (names : Names) where
    subcommand_or_other_filled : (o : Option Text) (waiting : Waiting) (position : ℕ) (word : Text) (h : Held) → other_fault s o word h ≡ [] → Filled h.rows
        → Filled (subcommand_or_other s.rules o waiting position word h).0.rows
    subcommand_or_other_filled (Some name) waiting position word h none f = f
    subcommand_or_other_filled None waiting position word h none f = go (bytes_eq word (45 ∷ 45 ∷ [])) none
      where
        go : (b : Bool) → cond b [] (flag_word_fault s.rules s.args_override_self (long_of word) word h) ≡ []
            → Filled (cond b (h, trailing position) (long_or_other s.rules waiting word (long_of word) h)).0.rows
        go true none = f
        go false none = long_or_other_filled some s.args_override_self once s.rules regular waiting word (long_of word) h none f

    word_met_filled : (is_trailing : Bool) (waiting : Waiting) (position : ℕ) (word : Text) (h : Held) → word_fault s names is_trailing waiting word h ≡ [] → Filled h.rows
        → Filled (word_met s.rules names is_trailing waiting position word h).0.rows
    word_met_filled true waiting position word h none f = f
    word_met_filled false waiting position word h none f = subcommand_or_other_filled (subcommand_met names waiting word) waiting position word h none f

    to_positional_filled : (o : Option Rule) (word : Text) (w : Walk) (h : Held)
        → option_map_or (λ a. positional_fault s.rules s.args_override_self a h) o (stray_fault s) ≡ [] → Filled h.rows → Filled (to_positional s.rules o word w h).held.rows
    to_positional_filled None word w h none f = f
    to_positional_filled (Some a) word w h none f = go (is_pending a h.pending && takes_several a) none
      where
        go : (b : Bool) → cond b [] (settle_fault s.rules s.args_override_self h) ≡ [] → Filled (cond b h (settled s.rules h)).rows
        go true none = f
        go false none = settled_filled some s.args_override_self once s.rules regular h none f

    after_step_filled : (word : Text) (w : Walk) (h : Held) (step : Step) → step_fault s w.position h step ≡ [] → Filled h.rows → Filled (after_step s.rules word w h step).held.rows
    after_step_filled word w h (next waiting) none f = f
    after_step_filled word w h (trailing position) none f = f
    after_step_filled word w h (subcommand name) none f = f
    after_step_filled word w h value none f = to_positional_filled (arg_by_index s.rules w.position) word w h none f

    abbrev met : Walk → Text → Held × Step
    met w word = word_met s.rules names w.is_trailing w.waiting w.position word w.held

    abbrev here_fault : Walk → Text → Kinds
    here_fault w word = or_else (word_fault s names w.is_trailing w.waiting word w.held) (step_fault s w.position (met w word).0 (met w word).1)

    walked_from_filled : (o : Option (Text × List Text)) (w : Walk) (word : Text) → cond (is_some o) [] (here_fault w word) ≡ [] → Filled w.held.rows
        → Filled (walked_from s.rules names o w word).held.rows
    walked_from_filled (Some p) w word none f = f
    walked_from_filled None w word none f =
        let steps = both_pass (word_fault s names w.is_trailing w.waiting word w.held) (step_fault s w.position (met w word).0 (met w word).1) none in
        after_step_filled word w (met w word).0 (met w word).1 steps.1 (word_met_filled w.is_trailing w.waiting w.position word w.held steps.0 f)

    walked_filled : (w : Walk) (word : Text) → turn_fault s names w word ≡ [] → Filled w.held.rows → Filled (walked s.rules names w word).held.rows
    unfolding walked
    walked_filled w word none f = walked_from_filled w.stopped w word none f

    walk_filled : (w : Walk) (words : List Text) → walk_fault s names w words ≡ [] → Filled w.held.rows → Filled (fold (walked s.rules names) w words).held.rows
    unfolding walk_fault
    walk_filled w [] none f = f
    walk_filled w (x ∷ xs) none f =
        let steps = both_pass (turn_fault s names w x) (walk_fault s names (walked s.rules names w x) xs) none in
        walk_filled (walked s.rules names w x) xs steps.1 (walked_filled w x steps.0 f)

    -- ---- defaults, and the rows at the end

    no_default : (key : Text) (how : Reading) (values : List Text) (rows : List Row) → is_empty values ≡ true → Filled rows → Filled (default_rows key how values rows)
    no_default key how [] rows none f = f
    no_default key how (v ∷ vs) rows none f = let bad = eqb-true (length (v ∷ vs)) 0 none in absurd (omega arith)

    other_default : (key : Text) (how : Reading) (values : List Text) (rows : List Row) → bytes_eq key id ≡ false → Filled rows → Filled (default_rows key how values rows)
    other_default key how [] rows other f = f
    other_default key how (v ∷ vs) rows other f = with_values_other key other how DefaultValue (v ∷ vs) rows f

    default_filled : (rows : List Row) (a : Rule) → is_regular a ≡ true → Filled rows → Filled (with_default rows a)
    default_filled rows a ok f = go (has_row a.id rows)
      where
        by_id : (b : Bool) → bytes_eq a.id id ≡ b → (not b || takes_once a) ≡ true → Filled (default_rows a.id (reading_by a) a.defaults rows)
        by_id true is ok = no_default a.id (reading_by a) a.defaults rows (both _ _ (both _ _ ok).1).1 f
        by_id false is ok = other_default a.id (reading_by a) a.defaults rows is f

        go : (b : Bool) → Filled (cond b rows (default_rows a.id (reading_by a) a.defaults rows))
        go true = f
        go false = by_id (bytes_eq a.id id) refl ok

    defaults_filled : (rules : List Rule) (rows : List Row) → list_all is_regular rules ≡ true → Filled rows → Filled (fold with_default rows rules)
    defaults_filled [] rows ok f = f
    defaults_filled (a ∷ rest) rows ok f = defaults_filled rest (with_default rows a) (both _ _ ok).1 (default_filled rows a (both _ _ ok).0 f)

    pub rows_filled : (words : List Text) → walk_fault s names (walk_from nothing_held) words ≡ []
        → settle_fault s.rules s.args_override_self (walk s.rules names nothing_held words).held ≡ [] → Filled (rows_after s.rules names words)
    rows_filled words walks settles =
        let walked_over = walk_filled (walk_from nothing_held) words walks tt in
        defaults_filled s.rules _ regular (settled_filled some s.args_override_self once s.rules regular (walk s.rules names nothing_held words).held settles walked_over)

  -- the row that is found has n values
  pub found_filled : (rows : List Row) → Filled rows → IfSome (find (λ r. bytes_eq r.id id) rows) (λ r. length r.values ≡ n)
  found_filled [] f = tt
  found_filled (r ∷ rs) f = go (bytes_eq r.id id) refl (found_filled rs f.1)
    where
      go : (b : Bool) → bytes_eq r.id id ≡ b → IfSome (find (λ x. bytes_eq x.id id) rs) (λ x. length x.values ≡ n)
          → IfSome (cond b (Some r) (find (λ x. bytes_eq x.id id) rs)) (λ x. length x.values ≡ n)
      go true is later = f.0 is
      go false is later = later
