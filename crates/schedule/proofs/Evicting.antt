-- A line that can be given up is there.
use Rattle.std.proofs.Common.{◌≡◌, ℕ, Bool, true, false, Option, Some, None, sym}
use Rattle.std.specs.Prelude.{◌&&◌, is_some, nat_lt, IsSome}
use Rattle.words.specs.declared.entry.Step.TheVariants.{Evict}
use Rattle.protocol.specs.Lines.{Line}
use Rattle.protocol.specs.Hart.{Hart}
use Rattle.protocol.specs.Caches.{Geometry}
use Rattle.protocol.specs.Evict.{evict_line, evict_row}
use Rattle.machine.specs.States.{State, shown}
use Rattle.machine.specs.Watch.{IsEnabledByRule}

second : (a b : Bool) → true ≡ (a && b) → b ≡ true
second true b both = sym both
second false b both = absurd (cc)

there : (i b : ℕ) (o : Option Line) (h : Hart) → is_some (evict_line i b o h) ≡ true → IsSome o
there i b None h some = absurd (cc)
there i b (Some l) h some = cc

pub evicted_line : (g : Geometry) (v : State) (i b : ℕ) → IsEnabledByRule g v (Evict i b) true → IsSome (((shown g.sets v).harts i).lines b)
evicted_line g v i b enabled =
    let h = (shown g.sets v).harts i in
    there i b (h.lines b) h (second (nat_lt i (shown g.sets v).setting.count) (is_some (evict_row i b h)) enabled.1)
