-- Choices whose lines can be read again: those that lines spell, those of steps, and those that chance chose.
use Rattle.std.proofs.Common.{◌≡◌, ◌<◌, ◌/◌, ◌%◌, ◌^◌, ◌==◌, ◌&&◌, ℕ, zero, suc, Bool, true, false, cond, nat_eq, nat_lt, All, List, [], ◌∷◌, map, filter, drop, codes, Option, Some, None, option_map, option_and_then, if◌then◌else◌, bytes_eq, arith, refl, sym, ap, subst}
use Rattle.std.specs.List.{starts_with}
use Rattle.std.specs.Str.Parse.{digits_value}
use Rattle.std.proofs.lemmas.Bool.{and_parts}
use Rattle.std.proofs.lemmas.Bool.Decides.{Decides-ltb}
use Rattle.std.proofs.lemmas.List.Elements.{All-nil, All-cons, All-same, All-weaker}
use Rattle.std.proofs.lemmas.Option.{none-some, same_Some, cond_some, option_and_then_some}
use Rattle.words.specs.declared.entry.Entry.{Entry}
use Rattle.words.specs.declared.entry.Step.{Step}
use Rattle.words.specs.Limits.{most_harts, block_bytes}
use Rattle.texts.specs.Numbers.{is_numeral, number_in, number_of}
use Rattle.flat.specs.State.{Setting}
use Rattle.protocol.specs.Caches.{Geometry}
use Rattle.protocol.proofs.Settings.{setting_stays}
use Rattle.machine.specs.States.{State, setting_of, shown}
use Rattle.machine.specs.Turns.{hart_after}
use Rattle.machine.proofs.Made.{steps_of}
use Rattle.schedule.specs.declared.choices.Choice.{Choice}
use Rattle.schedule.specs.declared.choices.Choice.TheVariants.{Core, Evict, Deliver, Turn}
use Rattle.schedule.specs.Spelling.{name, sort_of, hart_of, block_of, core_of, evict_of, deliver_of, turn_of, choice_of, words_of}
use Rattle.schedule.specs.Lines.{says, spelled, AreSpelledBy}
use Rattle.schedule.specs.Moments.{Moment}
use Rattle.schedule.specs.Runs.{Makes, TakesChosen, FollowsThen, last_after}
use Rattle.schedule.specs.Steps.{IsWithin}
use Rattle.schedule.specs.Written.{HasAddress, IsReadable, IsWritable}

-- a choice of one step can be read
pub readable : (c : Choice) → IsWritable c → IsReadable c
readable (Core h) few = few
readable (Evict h b) named = named
readable (Deliver n) named = named
readable Turn none = absurd none

pub all_readable : (cs : List Choice) → All IsWritable cs → All IsReadable cs
all_readable cs h = All-weaker IsWritable IsReadable readable cs h

-- What a line spells

mapped : {A B : Type 0} (f : A → B) (o : Option A) (y : B) → option_map f o ≡ Some y → (x : A) × (o ≡ Some x) × (f x ≡ y)
mapped f None y is = absurd (none-some y is)
mapped f (Some x) y is = (x, refl, same_Some (f x) y is)

-- a number is below 2^32
below : (base : ℕ) (word : List ℕ) (n : ℕ) → number_in base word ≡ Some n → n < 2 ^ 32
below base word n is =
    let value = digits_value base word in
    let passed = cond_some (is_numeral base word && nat_lt value (2 ^ 32)) value n is in
    subst (λ m. m < 2 ^ 32) passed.1 ((Decides-ltb value (2 ^ 32)).0 (and_parts (is_numeral base word) (nat_lt value (2 ^ 32)) passed.0).1)

number_below : (word : List ℕ) (n : ℕ) → number_of word ≡ Some n → n < 2 ^ 32
number_below word n is = by_base (starts_with nat_eq word (codes "0x")) is
  where
    by_base : (b : Bool) → cond b (number_in 16 (drop 2 word)) (number_in 10 word) ≡ Some n → n < 2 ^ 32
    by_base true is = below 16 (drop 2 word) n is
    by_base false is = below 10 word n is

-- a hart's number is one that a machine may have, and a block has an address
hart_few : (word : List ℕ) (h : ℕ) → hart_of word ≡ Some h → h < most_harts
hart_few word h is = option_and_then_some (λ n. if nat_lt n most_harts then Some n else None) (number_of word) h is (λ n number few.
    let passed = cond_some (nat_lt n most_harts) n h few in
    subst (λ m. m < most_harts) passed.1 ((Decides-ltb n most_harts).0 passed.0))

block_near : (word : List ℕ) (b : ℕ) → block_of word ≡ Some b → HasAddress b
block_near word b is = option_and_then_some (λ a. if a % 4 == 0 then Some (a / block_bytes) else None) (number_of word) b is (λ a number four.
    omega (arith, number_below word a number, (cond_some (a % 4 == 0) (a / block_bytes) b four).1))

core_readable : (words : List (List ℕ)) (c : Choice) → core_of words ≡ Some c → IsReadable c
core_readable [] c is = absurd (none-some c is)
core_readable (hart ∷ []) c is = let h = mapped Core (hart_of hart) c is in subst IsReadable h.2 (hart_few hart h.0 h.1)
core_readable (hart ∷ w ∷ ws) c is = absurd (none-some c is)

evict_readable : (words : List (List ℕ)) (c : Choice) → evict_of words ≡ Some c → IsReadable c
evict_readable [] c is = absurd (none-some c is)
evict_readable (hart ∷ []) c is = absurd (none-some c is)
evict_readable (hart ∷ place ∷ []) c is = option_and_then_some (λ h. option_map (Evict h) (block_of place)) (hart_of hart) c is (λ h few rest.
    let b = mapped (Evict h) (block_of place) c rest in
    subst IsReadable b.2 (hart_few hart h few, block_near place b.0 b.1))
evict_readable (hart ∷ place ∷ w ∷ ws) c is = absurd (none-some c is)

deliver_readable : (words : List (List ℕ)) (c : Choice) → deliver_of words ≡ Some c → IsReadable c
deliver_readable [] c is = absurd (none-some c is)
deliver_readable (sort ∷ []) c is = absurd (none-some c is)
deliver_readable (sort ∷ hart ∷ []) c is = absurd (none-some c is)
deliver_readable (sort ∷ hart ∷ place ∷ []) c is =
    option_and_then_some (λ s. option_and_then (λ h. option_map (λ b. Deliver (name s h b)) (block_of place)) (hart_of hart)) (sort_of sort) c is (λ s sorted others.
    option_and_then_some (λ h. option_map (λ b. Deliver (name s h b)) (block_of place)) (hart_of hart) c others (λ h few rest.
    let b = mapped (λ b. Deliver (name s h b)) (block_of place) c rest in
    subst IsReadable b.2 (hart_few hart h few, block_near place b.0 b.1)))
deliver_readable (sort ∷ hart ∷ place ∷ w ∷ ws) c is = absurd (none-some c is)

turn_readable : (words : List (List ℕ)) (c : Choice) → turn_of words ≡ Some c → IsReadable c
turn_readable [] c is = subst IsReadable (same_Some Turn c is) (tt {0})
turn_readable (w ∷ ws) c is = absurd (none-some c is)

choice_readable : (words : List (List ℕ)) (c : Choice) → choice_of words ≡ Some c → IsReadable c
choice_readable [] c is = absurd (none-some c is)
choice_readable (verb ∷ words) c is = by_verb (bytes_eq verb (codes "core")) (bytes_eq verb (codes "evict")) (bytes_eq verb (codes "deliver")) (bytes_eq verb (codes "turn")) is
  where
    by_verb : (core evict deliver turn : Bool)
        → (if core then core_of words else if evict then evict_of words else if deliver then deliver_of words else if turn then turn_of words else None) ≡ Some c → IsReadable c
    by_verb true evict deliver turn is = core_readable words c is
    by_verb false true deliver turn is = evict_readable words c is
    by_verb false false true turn is = deliver_readable words c is
    by_verb false false false true is = turn_readable words c is
    by_verb false false false false is = absurd (none-some c is)

-- what lines spell can be read
each_readable : (lines : List (List ℕ)) (cs : List Choice) → map Some cs ≡ map spelled lines → All IsReadable cs
each_readable lines [] are = All-nil IsReadable
each_readable [] (c ∷ cs) are = absurd (cc)
each_readable (line ∷ lines) (c ∷ cs) are =
    let first : Some c ≡ spelled line = cc in
    let rest : map Some cs ≡ map spelled lines = cc in
    All-cons IsReadable c cs (choice_readable (words_of line) c (sym first)) (each_readable lines cs rest)

pub spelled_readable : (lines : List (List ℕ)) (cs : List Choice) → AreSpelledBy lines cs → All IsReadable cs
spelled_readable lines cs are = each_readable (filter says lines) cs are

-- What chance chose

-- a choice within a memory that has addresses can be written
pub within_writable : (s : Setting) (c : Choice) → s.size < 2 ^ 32 → IsWithin s c → IsWritable c
within_writable s (Core h) less few = few
within_writable s (Evict h b) less (few, near) = (few, omega (arith, near, less))
within_writable s (Deliver n) less (few, near) = (few, omega (arith, near, less))
within_writable s Turn less none = absurd none

-- a step changes neither text, size nor the number of harts
setting_made : (g : Geometry) (v w : State) (step : Option Step) (e : Option Entry) → Makes g v step e w → setting_of w ≡ setting_of v
setting_made g v w None e (none, same) = ap setting_of same
setting_made g v w (Some step) e made = setting_stays g (shown g.sets v) (shown g.sets w) step e (steps_of g v step e w made)

still_less : (g : Geometry) (v w : State) (step : Option Step) (e : Option Entry) → Makes g v step e w → (setting_of v).size < 2 ^ 32 → (setting_of w).size < 2 ^ 32
still_less g v w step e made less = subst (λ (s : Setting). s.size < 2 ^ 32) (sym (setting_made g v w step e made)) less

taken_readable : (g : Geometry) (cs : List Choice) (n : ℕ) (v : State) (after : ℕ) (ms : List Moment) (w : State) → (setting_of v).size < 2 ^ 32 → TakesChosen g cs n v after ms w → All IsReadable cs
taken_readable g [] n v after ms w less takes = All-nil IsReadable
taken_readable g (c ∷ cs) zero v after ms w less takes = absurd takes
taken_readable g (c ∷ cs) (suc n) v after ms w less (step, e, u, rest, chosen, made, takes, is) =
    All-cons IsReadable c cs (readable c (within_writable (setting_of v) c less chosen.within))
    (taken_readable g cs n u (hart_after step after) rest w (still_less g v u (Some step) e made less) takes)

-- what chance chose behind a list can be read
pub chosen_readable : (g : Geometry) (cs chosen : List Choice) (n : ℕ) (v : State) (after : ℕ) (ms : List Moment) (w : State) → (setting_of v).size < 2 ^ 32
    → FollowsThen (Some chosen) g cs n v after ms w → All IsReadable chosen
chosen_readable g [] chosen n v after ms w less takes = taken_readable g chosen n v after ms w less takes
chosen_readable g (c ∷ cs) chosen zero v after ms w less (none, same, nothing) = All-same IsReadable chosen [] nothing (All-nil IsReadable)
chosen_readable g (c ∷ cs) chosen (suc n) v after ms w less (step, e, u, rest, is_step, made, follows, is) =
    chosen_readable g cs chosen n u (last_after step after) rest w (still_less g v u step e made less) follows
