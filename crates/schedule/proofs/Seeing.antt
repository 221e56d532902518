-- A run whose moments are seen as its steps are made.
use Rattle.std.proofs.Common.{◌≡◌, ◌<◌, ◌≤◌, ◌+◌, ◌-◌, ◌++◌, ◌⊎◌, ℕ, zero, suc, inl, inr, List, [], ◌∷◌, length, get_or, Option, Some, None, refl, sym, ap, ◌∙◌, subst, subst₂, append_assoc, arith}
use Rattle.std.specs.List.{FoldsTo}
use Rattle.std.proofs.lemmas.Fn.{FoldsTo-push}
use Rattle.std.proofs.lemmas.List.{append-nil}
use Rattle.std.proofs.lemmas.List.Concat.{flat_map-append}
use Rattle.words.specs.declared.entry.Entry.{Entry}
use Rattle.words.specs.declared.entry.Step.{Step}
use Rattle.protocol.specs.Caches.{Geometry}
use Rattle.machine.specs.States.{State, setting_of}
use Rattle.machine.specs.Turns.{hart_after}
use Rattle.schedule.specs.declared.choices.Choice.{Choice}
use Rattle.schedule.specs.declared.halt.Halt.{Halt}
use Rattle.schedule.specs.declared.halt.Halt.TheVariants.{NoMemory, Untold}
use Rattle.schedule.specs.Begun.{HasMade, HasSeen, HasBegun}
use Rattle.schedule.specs.Courses.{Behind, Turns, Chance, course, forgotten, IsNoneNext, IsUnbegun}
use Rattle.schedule.specs.Moments.{Moment, moment}
use Rattle.schedule.specs.Observed.{Sight, MakesSeen, StopsAt, GoesSeen, GoesUnseen, MoreSeen, MoreUnseen, IsSeen, IsHalted, joined}
use Rattle.schedule.specs.Runs.{last_after, Plays}
use Rattle.schedule.specs.Steps.{IsStepOf}
use Rattle.schedule.proofs.Making.{made_none, made_choice}
use Rattle.schedule.proofs.Going.{HasTurned, HasGone, forget, gone_first, gone_idle, gone_more, gone_whole, played, turned_on}

joined_more : (groups : List (List Moment)) (ms : List Moment) → joined groups ++ ms ≡ joined (groups ++ ms ∷ [])
joined_more groups ms = ap (λ (l : List Moment). joined groups ++ l) (sym (append-nil ms)) ∙ sym (flat_map-append (λ (l : List Moment). l) groups (ms ∷ []))

module _ {L : Type 0} (saw missed : Sight L) (g : Geometry) (all : List Choice) where
  -- the choices of the list were made, and steps behind them, and their moments were seen
  abbrev pub HasSeenMore : Behind → ℕ → State → State → ℕ → L → L → Type 0
  HasSeenMore b k v w after x y = (groups : List (List Moment)) × HasGone g all b k v w after (joined groups) × FoldsTo saw x groups y

  pub seen_none : (v : State) (after : ℕ) (x : L) → after ≡ (setting_of v).count - 1 → HasSeen saw g all 0 v v after x x
  seen_none v after x is = ([], subst (λ (a : ℕ). HasMade g all 0 v v a []) (sym is) (made_none g all v), refl)

  -- the list so far, and all that there is
  pub seen_list : (b : Behind) (k : ℕ) (v w : State) (after : ℕ) (x y : L) → IsUnbegun b → HasSeen saw g all k v w after x y → IsSeen saw g (course all b) k v w x y
  seen_list b k v w after x y unbegun (groups, made, sight) = (groups, played g all k v w after (joined groups) b unbegun made, sight)

  -- the steps so far, and all that there are
  pub seen_all : (b : Behind) (k n : ℕ) (v w : State) (after : ℕ) (x y : L) → k ≡ n → HasSeenMore b k v w after x y → IsSeen saw g (course all b) n v w x y
  seen_all b k n v w after x y is (groups, gone, sight) = (groups, gone_whole g all k v w after (joined groups) n (omega (arith, is)) b (omega (arith, is)) gone, sight)

  pub seen_idle : (b : Behind) (k n : ℕ) (v w : State) (after : ℕ) (x y : L) → k ≤ n → HasSeenMore b k v w after x y → IsNoneNext g w after b → IsSeen saw g (course all b) n v w x y
  seen_idle b k n v w after x y within (groups, gone, sight) none = (groups, gone_idle g all k v w after (joined groups) n within b gone none, sight)

  -- what comes behind the list begins
  pub seen_first : (b : Behind) (k : ℕ) (v w : State) (after : ℕ) (x y : L) → IsUnbegun b → length all ≤ k → HasSeen saw g all k v w after x y → HasSeenMore b k v w after x y
  seen_first b k v w after x y unbegun end (groups, made, sight) = (groups, gone_first g all k v w after (joined groups) end made b unbegun, sight)

  -- n steps, of which these are left, were begun with the list: none is left, or the others were made of the list and behind it
  abbrev pub HasSeenSoFar : Behind → ℕ → ℕ → State → State → ℕ → L → L → Type 0
  HasSeenSoFar b n left v w after x y = ((left ≡ 0) × IsSeen saw g (course all b) n v w x y) ⊎ ((k : ℕ) × HasSeenMore b k v w after x y × (k + left ≡ n))

  pub seen_begun : (b : Behind) (n left : ℕ) (v w : State) (after : ℕ) (x y : L) → IsUnbegun b → HasBegun saw g all n v w after left x y → HasSeenSoFar b n left v w after x y
  seen_begun b n zero v w after x y unbegun (k, seen, count, end) =
      let whole : k ≡ n = omega (arith, count) in
      inl (refl, subst (λ (i : ℕ). IsSeen saw g (course all b) i v w x y) whole (seen_list b k v w after x y unbegun seen))
  seen_begun b n (suc left) v w after x y unbegun (k, seen, count, end) = inr (k, seen_first b k v w after x y unbegun (end (omega arith)) seen, count)

  pub seen_left : (b : Behind) (n left : ℕ) (v w : State) (after : ℕ) (x y : L) → 0 < left → HasSeenSoFar b n left v w after x y → (k : ℕ) × HasSeenMore b k v w after x y × (k + left ≡ n)
  seen_left b n left v w after x y some (inl (none, seen)) = absurd (omega (arith, some, none))
  seen_left b n left v w after x y some (inr so_far) = so_far

  pub seen_whole : (b : Behind) (n left : ℕ) (v w : State) (after : ℕ) (x y : L) → left ≤ 0 → HasSeenSoFar b n left v w after x y → IsSeen saw g (course all b) n v w x y
  seen_whole b n left v w after x y none (inl (over, seen)) = seen
  seen_whole b n left v w after x y none (inr (k, seen, count)) = seen_all b k n v w after x y (omega (arith, none, count)) seen

  -- no further step was made
  module _ (k n : ℕ) (v u w : State) (x y z : L) (less : k < n) (same : w ≡ u) (kept : z ≡ y) where
    unmade : (b : Behind) → IsSeen saw g (course all b) k v u x y → IsHalted saw missed g (course all (forgotten b)) n v w x z NoMemory
    unmade b (groups, plays, sight) =
        let told : Plays g (course all (forgotten b)) k v (joined groups) u = forget g all b k v (joined groups) u plays in
        (k, less, (groups, subst (λ (m : State). Plays g (course all (forgotten b)) k v (joined groups) m) (sym same) told, subst (λ (l : L). FoldsTo saw x groups l) (sym kept) sight))

  -- a further one was made, and could not be told
  missed_one : (b : Behind) (k n : ℕ) (v u w : State) (x y z : L) (groups : List (List Moment)) (step : Step) (e : Option Entry) → k < n → FoldsTo saw x groups y → missed y (moment u step e w ∷ []) z
      → Plays g (course all b) (k + 1) v (joined groups ++ moment u step e w ∷ []) w → IsHalted saw missed g (course all (forgotten b)) n v w x z Untold
  missed_one b k n v u w x y z groups step e less sight fails plays =
      (k, less, (groups, moment u step e w ∷ [], y, forget g all b (k + 1) v (joined groups ++ moment u step e w ∷ []) w plays, sight, fails))

  -- Within the list

  module _ (k : ℕ) (v u w : State) (after : ℕ) (x y z : L) (before : HasSeen saw g all k v u after x y) where
    -- one more choice
    pub seen_choice : (c : Choice) (step : Option Step) → k < length all → c ≡ get_or all k c → IsStepOf g.sets u after c step → MakesSeen saw g u step w y z → HasSeen saw g all (k + 1) v w (last_after step after) x z
    seen_choice c None inside is chosen (same, kept) =
        let made : HasMade g all (k + 1) v w after (joined before.0 ++ []) = made_choice g all k v u w after (joined before.0) c None None inside is before.1 chosen (refl, same) in
        (before.0, subst (λ (l : List Moment). HasMade g all (k + 1) v w after l) (append-nil (joined before.0)) made, subst (λ (l : L). FoldsTo saw x before.0 l) (sym kept) before.2)
    seen_choice c (Some step) inside is chosen (e, made, sight) =
        let ms : List Moment = moment u step e w ∷ [] in (
          before.0 ++ ms ∷ [],
          subst (λ (l : List Moment). HasMade g all (k + 1) v w (hart_after step after) l) (joined_more before.0 ms) (made_choice g all k v u w after (joined before.0) c (Some step) e inside is before.1 chosen made),
          FoldsTo-push saw x before.0 y ms z before.2 sight,
        )

    -- one that could not be told
    pub stopped_choice : (b : Behind) (n : ℕ) (c : Choice) (step : Step) (halt : Halt) → IsUnbegun b → k < length all → c ≡ get_or all k c → k < n → IsStepOf g.sets u after c (Some step)
        → StopsAt missed g u step w y z halt → IsHalted saw missed g (course all (forgotten b)) n v w x z halt
    stopped_choice b n c step NoMemory unbegun inside is less chosen (same, kept) = unmade k n v u w x y z less same kept b (seen_list b k v u after x y unbegun before)
    stopped_choice b n c step Untold unbegun inside is less chosen (e, made, fails) =
        let ms = joined before.0 ++ moment u step e w ∷ [] in
        let one : HasMade g all (k + 1) v w (hart_after step after) ms = made_choice g all k v u w after (joined before.0) c (Some step) e inside is before.1 chosen made in
        missed_one b k n v u w x y z before.0 step e less before.2 fails (played g all (k + 1) v w (hart_after step after) ms b unbegun one)

  -- Behind it

  module _ (b : Behind) (k : ℕ) (v u w : State) (after : ℕ) (x y z : L) (before : HasSeenMore b k v u after x y) where
    -- one more step
    pub seen_next : (c : Behind) (step : Step) → GoesSeen saw g u after b step c w y z → HasSeenMore c (k + 1) v w (hart_after step after) x z
    seen_next c step (next, (e, made, sight)) =
        let ms : List Moment = moment u step e w ∷ [] in (
          before.0 ++ ms ∷ [],
          subst (λ (l : List Moment). HasGone g all c (k + 1) v w (hart_after step after) l) (joined_more before.0 ms) (gone_more g all k v u after (joined before.0) w b c step e before.1 next made),
          FoldsTo-push saw x before.0 y ms z before.2 sight,
        )

    -- one that could not be told
    pub stopped_next : (c : Behind) (n : ℕ) (halt : Halt) → k < n → GoesUnseen missed g u after b c w y z halt → IsHalted saw missed g (course all (forgotten c)) n v w x z halt
    stopped_next c n NoMemory less (same, kept, alike) =
        subst (λ (d : Behind). IsHalted saw missed g (course all d) n v w x z NoMemory) (sym alike) (unmade k n v u w x y z less same kept b (seen_all b k k v u after x y refl before))
    stopped_next c n Untold less (step, next, (e, made, fails)) =
        let ms = joined before.0 ++ moment u step e w ∷ [] in
        let one : HasGone g all c (k + 1) v w (hart_after step after) ms = gone_more g all k v u after (joined before.0) w b c step e before.1 next made in
        missed_one c k n v u w x y z before.0 step e less before.2 fails (gone_whole g all (k + 1) v w (hart_after step after) ms (k + 1) (omega arith) c (omega arith) one)

  -- more turns, where it is turns that come next
  pub seen_more : (b : Behind) (k : ℕ) (v u w : State) (after : ℕ) (x y z : L) (n last : ℕ) → HasSeenMore b k v u after x y → MoreSeen saw g b u after n w last y z → HasSeenMore b (k + n) v w last x z
  seen_more b k v u w after x y z n last before more = by_sort b before more
    where
      still : (b : Behind) → HasSeenMore b k v u after x y → n ≡ 0 → w ≡ u → last ≡ after → z ≡ y → HasSeenMore b (k + n) v w last x z
      still b (groups, gone, sight) none same is kept =
          let count : k ≡ k + n = omega (arith, none) in
          let there : HasGone g all b k v w last (joined groups) = subst₂ (λ (m : State) (h : ℕ). HasGone g all b k v m h (joined groups)) (sym same) (sym is) gone in
          (groups, subst (λ (i : ℕ). HasGone g all b i v w last (joined groups)) count there, subst (λ (l : L). FoldsTo saw x groups l) (sym kept) sight)

      by_sort : (b : Behind) → HasSeenMore b k v u after x y → MoreSeen saw g b u after n w last y z → HasSeenMore b (k + n) v w last x z
      by_sort Turns before (inl (none, same, is, kept)) = still Turns before none same is kept
      by_sort Turns (groups, gone, sight) (inr (ms, took, count, later)) = (
        groups ++ ms ∷ [],
        subst (λ (l : List Moment). HasTurned g all (k + n) v w last l) (joined_more groups ms)
            (subst (λ (i : ℕ). HasTurned g all (k + i) v w last (joined groups ++ ms)) (sym count) (turned_on g all k v u w after last (joined groups) ms gone took)),
        FoldsTo-push saw x groups y ms z sight later,
      )
      by_sort (Chance kept_choices) before (none, same, is, kept) = still (Chance kept_choices) before none same is kept

  -- more turns, of which the observer could not tell
  pub unseen_more : (b : Behind) (k n : ℕ) (v u w : State) (after : ℕ) (x y z : L) (most : ℕ) → k + most ≤ n → HasSeenMore b k v u after x y → MoreUnseen missed g b u after most w y z
      → IsHalted saw missed g (course all (forgotten b)) n v w x z Untold
  unseen_more Turns k n v u w after x y z most within (groups, gone, sight) ([], last, took, some, few, fails) = absurd (omega (arith, some))
  unseen_more Turns k n v u w after x y z most within (groups, gone, sight) (m ∷ ms, last, took, some, few, fails) =
      let all_made = joined groups ++ m ∷ ms in
      let count : k + length (m ∷ ms) ≡ k + length ms + 1 = omega arith in
      let turned : HasTurned g all (k + length ms + 1) v w last all_made = subst (λ (i : ℕ). HasTurned g all i v w last all_made) count (turned_on g all k v u w after last (joined groups) (m ∷ ms) gone took) in
      let plays : Plays g (course all Turns) (k + length ms + 1) v all_made w = gone_whole g all (k + length ms + 1) v w last all_made (k + length ms + 1) (omega arith) Turns (omega arith) turned in
      (k + length ms, omega (arith, within, few), (groups, m ∷ ms, y, forget g all Turns (k + length ms + 1) v all_made w plays, sight, fails))
  unseen_more (Chance kept) k n v u w after x y z most within before more = absurd more

-- what holds of no moment, and of more moments where it holds of those before, holds of all that were seen
module _ {L : Type 0} (saw : Sight L) (J : List Moment → L → Type 0) (more : (ms ns : List Moment) (y z : L) → J ms y → saw y ns z → J (ms ++ ns) z) where
  holds_on : (before : List Moment) (groups : List (List Moment)) (x y : L) → J before x → FoldsTo saw x groups y → J (before ++ joined groups) y
  holds_on before [] x y here same = subst₂ J (sym (append-nil before)) same here
  holds_on before (ms ∷ groups) x y here (l, first, rest) =
      subst (λ (all : List Moment). J all y) (append_assoc before ms (joined groups)) (holds_on (before ++ ms) groups l y (more before ms x l here first) rest)

  pub holds_of_all : (groups : List (List Moment)) (x y : L) → J [] x → FoldsTo saw x groups y → J (joined groups) y
  holds_of_all groups x y none folds = holds_on [] groups x y none folds
