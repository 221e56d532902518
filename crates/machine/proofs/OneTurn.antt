-- One step at most is the next turn.
use Rattle.std.proofs.Common.{◌≡◌, ◌≤◌, ◌+◌, ◌∙◌, ◌⊎◌, ℕ, true, false, true≢false, Option, Some, None, List, inl, inr, arith, refl, sym, ap, subst}
use Rattle.std.proofs.lemmas.Bool.{cases_lt}
use Rattle.words.specs.declared.cause.Status.TheVariants.{Running}
use Rattle.words.specs.declared.entry.Step.{Step}
use Rattle.words.specs.declared.entry.Step.TheVariants.{Core, Evict, Deliver}
use Rattle.network.specs.declared.net.Flight.{Flight}
use Rattle.protocol.specs.Messages.{shown as shown_message}
use Rattle.protocol.specs.Hart.{Hart}
use Rattle.protocol.specs.Caches.{Geometry}
use Rattle.protocol.specs.Machine.{Machine}
use Rattle.machine.specs.States.{State, shown}
use Rattle.machine.specs.Turns.{is_held, AllHeld, IsOldestFree, NoneRuns, NoneFresh, IsFirstFresh, IsNextAfter, IsNextTurn}
use Rattle.machine.specs.Twins.{AreTwins}

-- Harts

module _ (harts : ℕ → Hart) (n : ℕ) where
  one_fresh : (i j : ℕ) → IsFirstFresh harts n i → IsFirstFresh harts n j → i ≡ j
  one_fresh i j one other = elim (cases_lt i j) [
    | inl below ↦ absurd (other.3 i below one.1 one.2)
    | inr ge ↦ elim (cases_lt j i) [
      | inl below ↦ absurd (one.3 j below other.1 other.2)
      | inr le ↦ omega (arith, le, ge)
    ]
  ]

  -- of two numbers, with none that runs from one up to the other
  one_run : (from to i j : ℕ) → from ≤ i → from ≤ j → (harts i).status ≡ Running → (harts j).status ≡ Running → NoneRuns harts from i → NoneRuns harts from j → i ≡ j
  one_run from to i j above above_too runs runs_too none none_too = elim (cases_lt i j) [
    | inl below ↦ absurd (none_too i above below runs)
    | inr ge ↦ elim (cases_lt j i) [
      | inl below ↦ absurd (none j above_too below runs_too)
      | inr le ↦ omega (arith, le, ge)
    ]
  ]

  one_after : (after i j : ℕ) → IsNextAfter harts n after i → IsNextAfter harts n after j → i ≡ j
  one_after after i j (within, runs, inl (above, none)) (within_too, runs_too, inl (above_too, none_too)) =
      one_run (after + 1) n i j (omega (arith, above)) (omega (arith, above_too)) runs runs_too none none_too
  one_after after i j (within, runs, inl (above, none)) (within_too, runs_too, inr (le, rest, none_too)) = absurd (rest i (omega (arith, above)) within runs)
  one_after after i j (within, runs, inr (le, rest, none)) (within_too, runs_too, inl (above, none_too)) = absurd (rest j (omega (arith, above)) within_too runs_too)
  one_after after i j (within, runs, inr (le, rest, none)) (within_too, runs_too, inr (le_too, rest_too, none_too)) =
      one_run 0 n i j (omega arith) (omega arith) runs runs_too none none_too

  one_hart : (after i j : ℕ) → IsFirstFresh harts n i ⊎ (NoneFresh harts n × IsNextAfter harts n after i) → IsFirstFresh harts n j ⊎ (NoneFresh harts n × IsNextAfter harts n after j) → i ≡ j
  one_hart after i j (inl one) (inl other) = one_fresh i j one other
  one_hart after i j (inl one) (inr other) = absurd (other.0 i one.0 one.1 one.2)
  one_hart after i j (inr one) (inl other) = absurd (one.0 j other.0 other.1 other.2)
  one_hart after i j (inr one) (inr other) = one_after after i j one.1 other.1

  -- a hart whose turn it is runs
  runs_now : (after i : ℕ) → IsFirstFresh harts n i ⊎ (NoneFresh harts n × IsNextAfter harts n after i) → NoneRuns harts 0 n → ⊥
  runs_now after i (inl one) none = none i (omega arith) one.0 one.1
  runs_now after i (inr one) none = none i (omega arith) one.1.0 one.1.1

-- Messages

module _ (w : Machine) (flights : List Flight) where
  not_held : (number : ℕ) → IsOldestFree w flights number → AllHeld w flights → ⊥
  not_held number o all = true≢false (sym (all number o.flight o.here) ∙ o.free)

  before : (h : Flight) (i j : ℕ) → (is_held w (shown_message h.message) ≡ true) ⊎ (i ≤ j) → is_held w (shown_message h.message) ≡ false → i ≤ j
  before h i j (inl held) free = absurd (true≢false (sym held ∙ free))
  before h i j (inr is) free = is

  one_message : (i j : ℕ) → IsOldestFree w flights i → IsOldestFree w flights j → i ≡ j
  one_message i j one other =
      let low : i ≤ j = before other.flight i j (one.first j other.flight other.here) other.free in
      let high : j ≤ i = before one.flight j i (other.first i one.flight one.here) one.free in
      omega (arith, low, high)

  -- Turns

  one_turn : (after : ℕ) (s t : Option Step) → IsNextTurn w flights after s → IsNextTurn w flights after t → s ≡ t
  one_turn after None None one other = refl
  one_turn after None (Some (Core j)) one other = absurd (runs_now w.harts w.setting.count after j other.1 one.1)
  one_turn after None (Some (Evict j b)) one other = absurd other.1
  one_turn after None (Some (Deliver number)) one other = absurd (not_held number other one.0)
  one_turn after (Some (Core i)) None one other = absurd (runs_now w.harts w.setting.count after i one.1 other.1)
  one_turn after (Some (Core i)) (Some (Core j)) one other = ap (λ n. Some (Core n)) (one_hart w.harts w.setting.count after i j one.1 other.1)
  one_turn after (Some (Core i)) (Some (Evict j b)) one other = absurd other.1
  one_turn after (Some (Core i)) (Some (Deliver number)) one other = absurd (not_held number other one.0)
  one_turn after (Some (Evict i b)) t one other = absurd one.1
  one_turn after (Some (Deliver number)) None one other = absurd (not_held number one other.0)
  one_turn after (Some (Deliver number)) (Some (Core j)) one other = absurd (not_held number one other.0)
  one_turn after (Some (Deliver number)) (Some (Evict j b)) one other = absurd other.1
  one_turn after (Some (Deliver number)) (Some (Deliver other_number)) one other = ap (λ n. Some (Deliver n)) (one_message number other_number one other)

-- a turn of a machine is its twin's
pub turn_of_twin : (g : Geometry) (v w : State) (after : ℕ) (s : Option Step) → AreTwins g v w → IsNextTurn (shown g.sets v) v.flights after s → IsNextTurn (shown g.sets w) w.flights after s
turn_of_twin g v w after s twins turn =
    subst (λ flights. IsNextTurn (shown g.sets w) flights after s) twins.flights (subst (λ m. IsNextTurn m v.flights after s) twins.machine turn)

pub turn_once : (g : Geometry) (v w : State) (after : ℕ) (s t : Option Step) → AreTwins g v w → IsNextTurn (shown g.sets v) v.flights after s → IsNextTurn (shown g.sets w) w.flights after t → s ≡ t
turn_once g v w after s t twins one other = one_turn (shown g.sets w) w.flights after s t (turn_of_twin g v w after s twins one) other
