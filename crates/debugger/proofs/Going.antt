-- Turns made one after another.
use Rattle.std.proofs.Common.{◌≡◌, ◌+◌, ℕ, suc, arith, Option, None, subst}
use Rattle.words.specs.declared.entry.Entry.{Entry}
use Rattle.protocol.specs.Caches.{Geometry}
use Rattle.debugger.specs.Sessions.{Session, IsIdle, Turns, Waits, RunsOn, LetsOn}

-- one more without an entry
pub waits_more : (g : Geometry) (n : ℕ) (s u t : Session) → Waits g n s u → Turns g u None t → Waits g (n + 1) s t
waits_more g n s u t before turn =
    let count : suc n ≡ n + 1 = omega arith in
    subst (λ (m : ℕ). Waits g m s t) count (u, before, turn)

-- one more of a run
pub runs_more : (g : Geometry) (n : ℕ) (s u t : Session) (e : Option Entry) → RunsOn g n s u → (IsIdle g.sets u → ⊥) → Turns g u e t → LetsOn g.sets t e → RunsOn g (n + 1) s t
runs_more g n s u t e before runs turn lets =
    let count : suc n ≡ n + 1 = omega arith in
    subst (λ (m : ℕ). RunsOn g m s t) count (u, e, before, runs, turn, lets)
