-- Turns whose lines were put.
use Rattle.std.proofs.Common.{◌≡◌, ◌≤◌, ◌+◌, ◌++◌, ℕ, [], length, arith, refl, length-append}
use Rattle.words.specs.Sinks.{SinkState}
use Rattle.texts.proofs.Putting.{took-nothing}
use Rattle.disassembler.specs.Tables.{Table}
use Rattle.protocol.specs.Caches.{Geometry}
use Rattle.machine.specs.States.{State}
use Rattle.schedule.proofs.Taken.{turns_both}
use Rattle.watch.specs.Rows.{CutsTurns, PutsTurns}
use Rattle.watch.proofs.Tracing.{traced_both, traced_part}

module _ (g : Geometry) (names : Table) where
  -- none, and some behind others
  pub none_put : (v : State) (after : ℕ) (a : SinkState) → PutsTurns g names v after 0 v after a a
  none_put v after a = record { moments = []; took = (refl, refl); turns = refl; put = took-nothing a }

  pub both_put : (v u w : State) (h i j m n : ℕ) (a b c : SinkState) → PutsTurns g names v h m u i a b → PutsTurns g names u i n w j b c → PutsTurns g names v h (m + n) w j a c
  both_put v u w h i j m n a b c first later = record {
    moments = first.moments ++ later.moments;
    took = turns_both g v u w h i j first.moments later.moments first.took later.took;
    turns =
        let long : length (first.moments ++ later.moments) ≡ length first.moments + length later.moments = length-append first.moments later.moments in
        let one = first.turns in
        let other = later.turns in
        omega (arith, long, one, other);
    put = traced_both names a b c first.moments later.moments first.put later.put;
  }

  -- some whose lines were not taken whole
  pub cut_behind : (v u w : State) (h i m rest most : ℕ) (a b c : SinkState) → m + rest ≤ most → PutsTurns g names v h m u i a b → CutsTurns g names u i rest w b c → CutsTurns g names v h most w a c
  cut_behind v u w h i m rest most a b c within first later =
      let long : length (first.moments ++ later.moments) ≡ length first.moments + length later.moments = length-append first.moments later.moments in
      let one = first.turns in
      let some = later.some in
      let few = later.few in
      record {
        moments = first.moments ++ later.moments;
        last = later.last;
        took = turns_both g v u w h i later.last first.moments later.moments first.took later.took;
        some = omega (arith, long, some);
        few = omega (arith, long, one, few, within);
        part = traced_part names a b c first.moments later.moments first.put later.part;
      }
