-- A step that was chosen and made.
use Rattle.std.proofs.Common.{◌≡◌, ℕ, Bool, true, Option, Some, refl, subst}
use Rattle.words.specs.declared.entry.Entry.{Entry}
use Rattle.words.specs.declared.entry.Step.{Step}
use Rattle.protocol.specs.Caches.{Geometry}
use Rattle.machine.specs.Making.{MakesStep}
use Rattle.machine.specs.States.{State}
use Rattle.machine.specs.Turns.{hart_after}
use Rattle.machine.specs.Watch.{IsEnabledByRule}
use Rattle.debugger.specs.Sessions.{Session, Makes}

pub makes : (g : Geometry) (s : Session) (m : State) (last : ℕ) (step : Step) (enabled : Bool) (o e : Option Entry) → enabled ≡ true → IsEnabledByRule g s.machine step enabled → o ≡ e
    → MakesStep g s.machine step o m → last ≡ hart_after step s.last
    → Makes g s (Some step) e (record { machine = m; last = last; breakpoints = s.breakpoints })
makes g s m last step enabled o e on is same made after = (
  subst (λ b. IsEnabledByRule g s.machine step b) on is,
  subst (λ x. MakesStep g s.machine step x m) same made,
  after,
  refl,
)
