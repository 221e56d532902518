-- A step of the machine is one of the protocol's.
use Rattle.std.proofs.Common.{ℕ, Option, None, Result, Ok, Err, refl, subst}
use Rattle.std.specs.Prelude.{IfOk}
use Rattle.std.specs.declared.alloc.AllocError.{AllocError}
use Rattle.words.specs.declared.entry.Entry.{Entry}
use Rattle.words.specs.declared.entry.Step.{Step}
use Rattle.protocol.specs.Network.{Sends}
use Rattle.protocol.specs.Caches.{Geometry}
use Rattle.protocol.specs.Machine.{Change, Steps, ComesAbout, no_change}
use Rattle.machine.specs.Mail.{in_flight, mail_of}
use Rattle.machine.specs.Making.{BringsAbout, MakesStep, change_by, victims}
use Rattle.machine.specs.States.{State, shown}
use Rattle.machine.proofs.Sending.{sends_of, all_left}

about_of : (sets : ℕ) (v : State) (c : Change) (e : Option Entry) (w : State) → BringsAbout sets v c e w → ComesAbout c e (shown sets w)
about_of sets v c e w b =
    (b.entry, in_flight w.flights, subst (λ net. Sends net c.sent (in_flight w.flights)) b.leaves.messages (sends_of c.sent b.left (mail_of w.flights) v.sent w.sent b.sends), b.machine)

pub steps_of : (g : Geometry) (v : State) (step : Step) (e : Option Entry) (w : State) → MakesStep g v step e w → Steps g (shown g.sets v) step e (shown g.sets w)
steps_of g v step e w m = (victims g.sets v step, m.may, about_of g.sets v (change_by g.sets v step) e w m.made)

pub steps_if_ok : (g : Geometry) (v : State) (step : Step) (w : State) (r : Result (Option Entry) AllocError) → IfOk r (λ e. MakesStep g v step e w) → IfOk r (λ e. Steps g (shown g.sets v) step e (shown g.sets w))
steps_if_ok g v step w (Ok e) made = steps_of g v step e w made
steps_if_ok g v step w (Err x) made = tt {0}

-- nothing changes
pub nothing : (sets : ℕ) (v : State) → BringsAbout sets v (no_change (shown sets v)) None v
nothing sets v = record { entry = refl; machine = refl; left = mail_of v.flights; leaves = all_left v.flights; sends = (refl, refl) }
