-- Sessions that no command tells apart answer a command alike.
use Rattle.std.proofs.Common.{◌≡◌, ◌≢◌, ◌⊎◌, ◌∙◌, ℕ, Bool, Option, Some, None, List, [], Result, Ok, Err, inl, inr, refl, sym, ap, subst}
use Rattle.std.proofs.lemmas.Option.{none-some, same_Some}
use Rattle.words.specs.Sinks.{SinkState}
use Rattle.texts.specs.Puts.{Puts}
use Rattle.texts.proofs.Putting.{puts-nothing}
use Rattle.disassembler.specs.Tables.{Table}
use Rattle.protocol.specs.Caches.{Geometry}
use Rattle.machine.specs.States.{State}
use Rattle.machine.specs.Twins.{AreTwins}
use Rattle.debugger.specs.declared.commands.command.Command.{Command}
use Rattle.debugger.specs.declared.commands.command.Command.TheVariants as command
use Rattle.debugger.specs.declared.commands.command.Look.{Look}
use Rattle.debugger.specs.declared.commands.fault.DebugFault.{DebugFault}
use Rattle.debugger.specs.declared.commands.fault.DebugFault.TheVariants as fault
use Rattle.debugger.specs.declared.session.Flow.{Flow}
use Rattle.debugger.specs.Answers.{Answers, Carries, ShowsLook, flow_of}
use Rattle.debugger.specs.Debugging.{said}
use Rattle.debugger.specs.Looks.{refusal}
use Rattle.debugger.specs.Sessions.{Session}
use Rattle.debugger.specs.Sure.{answers_surely}
use Rattle.debugger.specs.Texts.{IsTextOf}
use Rattle.debugger.specs.Twins.{AreTwinSessions}
use Rattle.debugger.proofs.OneDeed.{Outcome, Comes, AreOne, one_deed}
use Rattle.debugger.proofs.OneLook.{look_once, refusal_is}
use Rattle.debugger.proofs.OneTold.{told_once}
use Rattle.debugger.proofs.OneTurns.{both_stay}

pub quietly : (a b : SinkState) → b ≡ a → Puts a b [] (Ok tt)
quietly a b same = subst (λ (c : SinkState). Puts a c [] (Ok tt)) (sym same) (puts-nothing a)

-- what both took is one text
abbrev pub AreToldOne : SinkState → SinkState → SinkState → SinkState → Type 0
AreToldOne a b c d = (text : List ℕ) × Puts a b text (Ok tt) × Puts c d text (Ok tt)

-- What is told of an outcome

abbrev TellsText : Table → State → Outcome → List ℕ → Type 0
TellsText names m (Ok report) text = IsTextOf names m report text
TellsText names m (Err f) text = text ≡ []

tells_once : (names : Table) (g : Geometry) (v w : State) (o : Outcome) (one other : List ℕ) → AreTwins g v w → TellsText names v o one → TellsText names w o other → one ≡ other
tells_once names g v w (Ok report) one other twins is also = told_once names g v w report one other twins is also
tells_once names g v w (Err f) one other twins is also = is ∙ sym also

abbrev result_of : Command → Outcome → Result Flow DebugFault
result_of c (Ok report) = Ok (flow_of c)
result_of c (Err f) = Err f

record Spoken (g : Geometry) (names : Table) (s : Session) (c : Command) (u : Session) (a b : SinkState) (r : Result Flow DebugFault) : Type 0 where
  outcome : Outcome
  comes : Comes g s c outcome u
  text : List ℕ
  tells : TellsText names u.machine outcome text
  puts : Puts a b text (Ok tt)
  result : r ≡ result_of c outcome

spoken : (g : Geometry) (names : Table) (s : Session) (c : Command) (u : Session) (a b : SinkState) (r : Result Flow DebugFault) → Carries g names s c u a b r
    → (r ≡ Err fault.NoMemory → ⊥) → (r ≡ Err fault.Device → ⊥) → Spoken g names s c u a b r
spoken g names s c u a b (Ok f) (report, text, does, tells, puts, is) sure clean =
    record { outcome = Ok report; comes = inl (report, refl, does); text = text; tells = tells; puts = puts; result = ap (λ (x : Flow). Ok x) is }
spoken g names s c u a b (Err fault.Device) carries sure clean = absurd (clean refl)
spoken g names s c u a b (Err fault.NoMemory) carries sure clean = absurd (sure refl)
spoken g names s c u a b (Err fault.Limit) (limited, quiet) sure clean =
    record { outcome = Err fault.Limit; comes = inr (inl (refl, limited)); text = []; tells = refl; puts = quietly a b quiet; result = refl }
spoken g names s c u a b (Err fault.Unknown) ((refused, stays), quiet) sure clean =
    record { outcome = Err fault.Unknown; comes = inr (inr (fault.Unknown, refl, refused, stays)); text = []; tells = refl; puts = quietly a b quiet; result = refl }
spoken g names s c u a b (Err fault.NoHart) ((refused, stays), quiet) sure clean =
    record { outcome = Err fault.NoHart; comes = inr (inr (fault.NoHart, refl, refused, stays)); text = []; tells = refl; puts = quietly a b quiet; result = refl }
spoken g names s c u a b (Err fault.Address) ((refused, stays), quiet) sure clean =
    record { outcome = Err fault.Address; comes = inr (inr (fault.Address, refl, refused, stays)); text = []; tells = refl; puts = quietly a b quiet; result = refl }
spoken g names s c u a b (Err fault.Stopped) ((refused, stays), quiet) sure clean =
    record { outcome = Err fault.Stopped; comes = inr (inr (fault.Stopped, refl, refused, stays)); text = []; tells = refl; puts = quietly a b quiet; result = refl }

module _ (g : Geometry) (names : Table) (s t : Session) (twins : AreTwinSessions g s t) (u x : Session) (a b c d : SinkState) where
  -- the same answer, sessions that no command tells apart, and one text
  abbrev AreAlike : Result Flow DebugFault → Result Flow DebugFault → Type 0
  AreAlike r q = (r ≡ q) × AreTwinSessions g u x × AreToldOne a b c d

  deed_alike : (k : Command) (r q : Result Flow DebugFault) → ((l : Look) → k ≡ command.Look l → ⊥) → Spoken g names s k u a b r → Spoken g names t k x c d q → AreAlike r q
  deed_alike k r q deed one other =
      let both = one_deed g s t twins k u x one.outcome other.outcome deed one.comes other.comes in
      let text : one.text ≡ other.text = tells_once names g u.machine x.machine other.outcome one.text other.text both.1.machine
      (subst (λ (o : Outcome). TellsText names u.machine o one.text) both.0 one.tells) other.tells in (
        one.result ∙ (ap (result_of k) both.0 ∙ sym other.result),
        both.1,
        (one.text, one.puts, subst (λ (text : List ℕ). Puts c d text (Ok tt)) (sym text) other.puts),
      )

  deed_once : (k : Command) (r q : Result Flow DebugFault) → ((l : Look) → k ≡ command.Look l → ⊥) → (r ≡ Err fault.NoMemory → ⊥) → (r ≡ Err fault.Device → ⊥) → (q ≡ Err fault.NoMemory → ⊥)
      → (q ≡ Err fault.Device → ⊥) → Carries g names s k u a b r → Carries g names t k x c d q → AreAlike r q
  deed_once k r q deed sure clean sure_too clean_too one other =
      deed_alike k r q deed (spoken g names s k u a b r one sure clean) (spoken g names t k x c d q other sure_too clean_too)

  look_alike : (l : Look) (r q : Result Flow DebugFault) → (r ≡ Err fault.Device → ⊥) → (q ≡ Err fault.Device → ⊥)
      → ShowsLook names g.sets s.machine l a b r × (u ≡ s) → ShowsLook names g.sets t.machine l c d q × (x ≡ t) → AreAlike r q
  look_alike l (Ok f) (Ok h) clean clean_too ((none, shows, go), same) ((none_too, shows_too, go_too), also) =
      let text : shows.text ≡ shows_too.text = look_once names g s.machine t.machine twins.machine l shows.text shows_too.text none shows.is shows_too.is in (
        ap (λ (y : Flow). Ok y) (go ∙ sym go_too),
        both_stay g s t u x twins same also,
        (shows.text, shows.puts, subst (λ (text : List ℕ). Puts c d text (Ok tt)) (sym text) shows_too.puts),
      )
  look_alike l (Ok f) (Err e) clean clean_too ((none, shows, go), same) (inl (device, fine, put, cut), also) = absurd (clean_too (ap (λ (y : DebugFault). Err y) device))
  look_alike l (Ok f) (Err e) clean clean_too ((none, shows, go), same) (inr (refused, quiet), also) =
      absurd (none-some e (sym none ∙ (refusal_is names g s.machine t.machine twins.machine l ∙ refused)))
  look_alike l (Err e) q clean clean_too (inl (device, fine, put, cut), same) other = absurd (clean (ap (λ (y : DebugFault). Err y) device))
  look_alike l (Err e) (Ok h) clean clean_too (inr (refused, quiet), same) ((none, shows, go), also) =
      absurd (none-some e (sym none ∙ (sym (refusal_is names g s.machine t.machine twins.machine l) ∙ refused)))
  look_alike l (Err e) (Err h) clean clean_too (inr (refused, quiet), same) (inl (device, fine, put, cut), also) = absurd (clean_too (ap (λ (y : DebugFault). Err y) device))
  look_alike l (Err e) (Err h) clean clean_too (inr (refused, quiet), same) (inr (refused_too, quiet_too), also) = (
    ap (λ (y : DebugFault). Err y) (same_Some e h (sym refused ∙ (refusal_is names g s.machine t.machine twins.machine l ∙ refused_too))),
    both_stay g s t u x twins same also,
    ([], quietly a b quiet, quietly c d quiet_too),
  )

  alike : (k : Command) (r q : Result Flow DebugFault) → (r ≡ Err fault.NoMemory → ⊥) → (r ≡ Err fault.Device → ⊥) → (q ≡ Err fault.NoMemory → ⊥) → (q ≡ Err fault.Device → ⊥)
      → Answers g names s k u a b r → Answers g names t k x c d q → AreAlike r q
  alike (command.Step) r q sure clean sure_too clean_too one other = deed_once command.Step r q (λ l is. cc) sure clean sure_too clean_too one other
  alike (command.Run n) r q sure clean sure_too clean_too one other = deed_once (command.Run n) r q (λ l is. cc) sure clean sure_too clean_too one other
  alike (command.Break p) r q sure clean sure_too clean_too one other = deed_once (command.Break p) r q (λ l is. cc) sure clean sure_too clean_too one other
  alike (command.Core h) r q sure clean sure_too clean_too one other = deed_once (command.Core h) r q (λ l is. cc) sure clean sure_too clean_too one other
  alike (command.Evict h p) r q sure clean sure_too clean_too one other = deed_once (command.Evict h p) r q (λ l is. cc) sure clean sure_too clean_too one other
  alike (command.Deliver sort h p) r q sure clean sure_too clean_too one other = deed_once (command.Deliver sort h p) r q (λ l is. cc) sure clean sure_too clean_too one other
  alike (command.Look l) r q sure clean sure_too clean_too one other = look_alike l r q clean clean_too one other
  alike (command.Comment) r q sure clean sure_too clean_too one other = deed_once command.Comment r q (λ l is. cc) sure clean sure_too clean_too one other
  alike (command.Quit) r q sure clean sure_too clean_too one other = deed_once command.Quit r q (λ l is. cc) sure clean sure_too clean_too one other

  -- so does the answer as a line hears it
  pub answer_once : (k : Command) (r q : Result Bool DebugFault) → (r ≡ Err fault.Device → ⊥) → (q ≡ Err fault.Device → ⊥) → answers_surely g names s k u a b r → answers_surely g names t k x c d q
      → (r ≡ q) × AreTwinSessions g u x × AreToldOne a b c d
  answer_once k r q clean clean_too ((told, one, is), sure) ((told_too, other, also), sure_too) =
      let both = alike k told told_too (λ e. sure (is ∙ ap said e)) (λ e. clean (is ∙ ap said e)) (λ e. sure_too (also ∙ ap said e)) (λ e. clean_too (also ∙ ap said e)) one other in
      (is ∙ (ap said both.0 ∙ sym also), both.1, both.2)
