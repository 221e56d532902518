-- Turns that were taken one after another, and counted.
use Rattle.std.proofs.Common.{◌≡◌, ◌+◌, ◌++◌, ℕ, [], ◌∷◌, length, Some, arith, refl, length-append}
use Rattle.words.specs.declared.entry.Step.{Step}
use Rattle.words.specs.declared.entry.Step.TheVariants.{Deliver}
use Rattle.protocol.specs.Caches.{Geometry}
use Rattle.machine.specs.States.{State, shown}
use Rattle.machine.specs.Turns.{hart_after, IsNextTurn, IsOldestFree}
use Rattle.schedule.specs.Moments.{moment}
use Rattle.schedule.proofs.Taken.{turn_one, turns_both}
use Rattle.watch.specs.declared.counting.Tally.{Tally}
use Rattle.watch.specs.Runs.{MakesCounted, TakesCounted}
use Rattle.watch.proofs.Tallying.{adds_both, adds_none, adds_one}

module _ (g : Geometry) where
  -- none, one, and some behind others
  pub none_counted : (v : State) (after : ℕ) (t : Tally) → TakesCounted g v after 0 v after t t
  none_counted v after t = record { moments = []; took = (refl, refl); turns = refl; adds = adds_none g.sets t }

  pub turn_counted : (v w : State) (after : ℕ) (step : Step) (t s : Tally) → IsNextTurn (shown g.sets v) v.flights after (Some step) → MakesCounted g v step w t s → TakesCounted g v after 1 w (hart_after step after) t s
  turn_counted v w after step t s next (e, made, one) =
      record { moments = moment v step e w ∷ []; took = turn_one g v w after step e next made; turns = refl; adds = adds_one g.sets (moment v step e w) t s one }

  pub both_counted : (v u w : State) (a b c m n : ℕ) (t s r : Tally) → TakesCounted g v a m u b t s → TakesCounted g u b n w c s r → TakesCounted g v a (m + n) w c t r
  both_counted v u w a b c m n t s r first later = record {
    moments = first.moments ++ later.moments;
    took = turns_both g v u w a b c first.moments later.moments first.took later.took;
    turns =
        let long : length (first.moments ++ later.moments) ≡ length first.moments + length later.moments = length-append first.moments later.moments in
        let one = first.turns in
        let other = later.turns in
        omega (arith, long, one, other);
    adds = adds_both g.sets t s r first.moments later.moments first.adds later.adds;
  }

  -- one more message arrived
  pub arrived_counted : (v u w : State) (number flight : ℕ) (t s r : Tally) → ((a : ℕ) → TakesCounted g v a number u a t s) → IsOldestFree (shown g.sets u) u.flights flight → MakesCounted g u (Deliver flight) w s r
      → (a : ℕ) → TakesCounted g v a (number + 1) w a t r
  arrived_counted v u w number flight t s r before oldest made a = both_counted v u w a a a number 1 t s r (before a) (turn_counted u w a (Deliver flight) s r oldest made)
