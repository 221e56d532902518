-- How looks are answered.
use Rattle.std.proofs.Common.{◌≡◌, ℕ, List, Option, Some, None, Result, Ok, Err, inl, inr, refl, sym, ap, ◌∙◌}
use Rattle.std.specs.Prelude.{IfSome, ◌⊎◌}
use Rattle.words.specs.declared.sink.SinkFault.{SinkFault}
use Rattle.words.specs.Sinks.{SinkState}
use Rattle.disassembler.specs.Tables.{Table}
use Rattle.protocol.specs.Caches.{Geometry}
use Rattle.machine.specs.States.{State}
use Rattle.debugger.specs.declared.commands.command.Command.{Command}
use Rattle.debugger.specs.declared.commands.command.Command.TheVariants.{Step, Run, Break, Core, Evict, Deliver, Look as LookAt, Comment, Quit}
use Rattle.debugger.specs.declared.commands.command.Look.{Look}
use Rattle.debugger.specs.declared.commands.fault.DebugFault.{DebugFault}
use Rattle.debugger.specs.declared.commands.fault.DebugFault.TheVariants.{Device}
use Rattle.debugger.specs.Looks.{Shows, refusal, told}
use Rattle.debugger.specs.declared.session.Flow.{Flow}
use Rattle.debugger.specs.Sessions.{Session, IsDeedRefused}
use Rattle.debugger.specs.Answers.{Carries, Answers, IsRefused}

not_both : (r : Result Unit DebugFault) (f : DebugFault) → r ≡ Ok tt → r ≡ Err f → ⊥
not_both r f ok err = cc

same_err : (r : Result Unit DebugFault) (x y : DebugFault) → r ≡ Err x → r ≡ Err y → x ≡ y
same_err r x y e f = cc

module _ (names : Table) (sets : ℕ) (m : State) (l : Look) (a b : SinkState) where
  -- what a look came to
  abbrev Shown : Result Unit DebugFault → Type 0
  Shown r = (put : Result Unit SinkFault) × Shows names sets m l a b put × (r ≡ told put)

  put_whole : (put : Result Unit SinkFault) → Shows names sets m l a b put → Ok tt ≡ told put → Shows names sets m l a b (Ok tt)
  put_whole (Ok _) shows is = shows
  put_whole (Err _) shows is = cc

  put_cut : (put : Result Unit SinkFault) (fault : DebugFault) → Shows names sets m l a b put → Err fault ≡ told put → (fault ≡ Device) × (f : SinkFault) × Shows names sets m l a b (Err f)
  put_cut (Ok _) fault shows is = cc
  put_cut (Err f) fault shows is = (cc, f, shows)

  -- a look that is refused
  abbrev IsRefusedAs : Option DebugFault → Result Unit DebugFault → Type 0
  IsRefusedAs o r = IfSome o (λ f. (r ≡ Err f) × (b ≡ a))

  whole : (o : Option DebugFault) (r : Result Unit DebugFault) → refusal m l ≡ o → IsRefusedAs o r → (refusal m l ≡ None → Shown r) → r ≡ Ok tt → (refusal m l ≡ None) × Shows names sets m l a b (Ok tt)
  whole None r is refused shown ok = let s = shown is in (is, put_whole s.0 s.1 (sym ok ∙ s.2))
  whole (Some f) r is refused shown ok = absurd (not_both r f ok refused.0)

  -- it was put
  pub look_whole : (r : Result Unit DebugFault) → IsRefusedAs (refusal m l) r → (refusal m l ≡ None → Shown r) → r ≡ Ok tt → (refusal m l ≡ None) × Shows names sets m l a b (Ok tt)
  look_whole r refused shown ok = whole (refusal m l) r refl refused shown ok

  cut : (o : Option DebugFault) (r : Result Unit DebugFault) (fault : DebugFault) → refusal m l ≡ o → IsRefusedAs o r → (refusal m l ≡ None → Shown r) → r ≡ Err fault
      → ((fault ≡ Device) × (refusal m l ≡ None) × (f : SinkFault) × Shows names sets m l a b (Err f)) ⊎ ((refusal m l ≡ Some fault) × (b ≡ a))
  cut None r fault is refused shown err = let s = shown is in let p = put_cut s.0 fault s.1 (sym err ∙ s.2) in inl (p.0, is, p.1, p.2)
  cut (Some f) r fault is refused shown err = inr (is ∙ ap (λ x. Some x) (same_err r f fault refused.0 err), refused.1)

  -- or not
  pub look_cut : (r : Result Unit DebugFault) (fault : DebugFault) → IsRefusedAs (refusal m l) r → (refusal m l ≡ None → Shown r) → r ≡ Err fault
      → ((fault ≡ Device) × (refusal m l ≡ None) × (f : SinkFault) × Shows names sets m l a b (Err f)) ⊎ ((refusal m l ≡ Some fault) × (b ≡ a))
  look_cut r fault refused shown err = cut (refusal m l) r fault refl refused shown err

-- of a look that is refused nothing is put
pub nothing_put : {S : Type 0} (state : S → SinkState) (old new : S) (o : Option DebugFault) (r : Result Unit DebugFault)
    → IfSome o (λ f. (r ≡ Err f) × (new ≡ old)) → IfSome o (λ f. (r ≡ Err f) × (state new ≡ state old))
nothing_put state old new None r refused = tt {0}
nothing_put state old new (Some f) r refused = (refused.0, ap state refused.1)

-- its fault is given on
pub refused_as : {S : Type 0} (old new : S) (o : Option DebugFault) (r : Result Unit DebugFault) (x : Result Flow DebugFault) → IfSome o (λ f. (r ≡ Err f) × (new ≡ old)) → ((f : DebugFault) → r ≡ Err f → x ≡ Err f)
    → (fault : DebugFault) → o ≡ Some fault → x ≡ Err fault
refused_as old new None r x refused on fault is = cc
refused_as old new (Some f) r x refused on fault is = on fault (refused.0 ∙ ap (λ y. Err y) (same f fault is))
  where
    same : (x y : DebugFault) → Some x ≡ Some y → x ≡ y
    same x y e = cc

-- a command that is no look is answered as it is carried out
pub answers : (g : Geometry) (names : Table) (s t : Session) (command : Command) (a b : SinkState) (r : Result Flow DebugFault) → ((l : Look) → command ≡ LookAt l → ⊥)
    → Carries g names s command t a b r → Answers g names s command t a b r
answers g names s t Step a b r no_look carries = carries
answers g names s t (Run n) a b r no_look carries = carries
answers g names s t (Break p) a b r no_look carries = carries
answers g names s t (Core h) a b r no_look carries = carries
answers g names s t (Evict h p) a b r no_look carries = carries
answers g names s t (Deliver sort h p) a b r no_look carries = carries
answers g names s t (LookAt l) a b r no_look carries = absurd (no_look l refl)
answers g names s t Comment a b r no_look carries = carries
answers g names s t Quit a b r no_look carries = carries

-- and refused as it is refused there
pub deed_refused : (sets : ℕ) (s : Session) (command : Command) (fault : DebugFault) → ((l : Look) → command ≡ LookAt l → ⊥) → IsRefused sets s command fault → IsDeedRefused sets s command fault
deed_refused sets s Step fault no_look refused = refused
deed_refused sets s (Run n) fault no_look refused = refused
deed_refused sets s (Break p) fault no_look refused = refused
deed_refused sets s (Core h) fault no_look refused = refused
deed_refused sets s (Evict h p) fault no_look refused = refused
deed_refused sets s (Deliver sort h p) fault no_look refused = refused
deed_refused sets s (LookAt l) fault no_look refused = absurd (no_look l refl)
deed_refused sets s Comment fault no_look refused = refused
deed_refused sets s Quit fault no_look refused = refused
