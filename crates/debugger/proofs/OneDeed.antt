-- What a command does is the same in sessions that no command tells apart: they come to one report or to one fault, and no command tells them apart then.
use Rattle.std.proofs.Common.{◌≡◌, ◌≢◌, ◌<◌, ◌⊎◌, ◌/◌, ◌++◌, ◌==◌, ◌∙◌, ℕ, Bool, true, false, true≢false, Option, Some, None, List, [], ◌∷◌, Result, Ok, Err, length, inl, inr, arith, refl, sym, ap, subst}
use Rattle.std.specs.Prelude.{is_some, position, remove}
use Rattle.std.proofs.lemmas.Option.{none-some, same_Some}
use Rattle.words.specs.Limits.{block_bytes}
use Rattle.words.specs.declared.entry.Entry.{Entry}
use Rattle.words.specs.declared.entry.Step.{Step as MachineStep}
use Rattle.protocol.specs.Caches.{Geometry}
use Rattle.protocol.specs.Machine.{Machine}
use Rattle.machine.specs.Making.{MakesStep}
use Rattle.machine.specs.States.{setting_of}
use Rattle.machine.specs.Turns.{hart_after}
use Rattle.machine.proofs.Twins.{one_entry, twins_on}
use Rattle.machine.proofs.TwinReads.{enabled_once}
use Rattle.schedule.specs.declared.choices.Choice.{Choice}
use Rattle.schedule.specs.declared.choices.Choice.TheVariants as choice
use Rattle.schedule.specs.Spelling.{name}
use Rattle.schedule.specs.Steps.{IsStepOf}
use Rattle.schedule.proofs.OneRun.{one_step}
use Rattle.debugger.specs.declared.commands.command.Command.{Command}
use Rattle.debugger.specs.declared.commands.command.Command.TheVariants as command
use Rattle.debugger.specs.declared.commands.command.Look.{Look}
use Rattle.debugger.specs.declared.commands.fault.DebugFault.{DebugFault}
use Rattle.debugger.specs.declared.commands.fault.DebugFault.TheVariants as fault
use Rattle.debugger.specs.declared.report.Report.{Report}
use Rattle.debugger.specs.declared.report.Report.TheVariants as told
use Rattle.debugger.specs.Sessions.{Session, IsIdle, Waits, StepsTo, RunsOn, RunsOut, RunsInto, Sets, Clears, Makes, IsDisabled, Chooses, Does, IsLimited, IsDeedRefused, IsPlaced, has_breakpoint, most_breakpoints, place_fault, patience}
use Rattle.debugger.specs.Twins.{AreTwinSessions}
use Rattle.debugger.proofs.OneTurns.{both_stay, idle_too, idle_before, waits_once, steps_once, steps_or_waits, waits_or_steps, runs_once, out_once, into_once, out_or_into, into_or_out, out_or_limit, limit_or_out, into_or_limit, limit_or_into}

-- what a command comes to: a report, a limit, or a refusal
abbrev pub Outcome : Type 0
Outcome = Result Report DebugFault

abbrev pub Comes : Geometry → Session → Command → Outcome → Session → Type 0
Comes g s c o u = ((report : Report) × (o ≡ Ok report) × Does g s c report u)
    ⊎ (((o ≡ Err fault.Limit) × IsLimited g s c u)
    ⊎ ((f : DebugFault) × (o ≡ Err f) × IsDeedRefused g.sets s c f × (u ≡ s)))

-- one outcome, and sessions that no command tells apart
abbrev pub AreOne : Geometry → Outcome → Outcome → Session → Session → Type 0
AreOne g o p u x = (o ≡ p) × AreTwinSessions g u x

module _ (g : Geometry) (s t : Session) (twins : AreTwinSessions g s t) where
  places_are : (c : Command) → place_fault (setting_of s.machine) c ≡ place_fault (setting_of t.machine) c
  places_are c = ap (λ (m : Machine). place_fault m.setting c) twins.machine.machine

  -- a place that is there isn't refused
  placed_or_refused : (c : Command) (f : DebugFault) → place_fault (setting_of s.machine) c ≡ None → place_fault (setting_of t.machine) c ≡ Some f → ⊥
  placed_or_refused c f none some = none-some f (sym none ∙ (places_are c ∙ some))

  refused_or_placed : (c : Command) (f : DebugFault) → place_fault (setting_of s.machine) c ≡ Some f → place_fault (setting_of t.machine) c ≡ None → ⊥
  refused_or_placed c f some none = none-some f (sym none ∙ (sym (places_are c) ∙ some))

  refused_once : (c : Command) (e f : DebugFault) → place_fault (setting_of s.machine) c ≡ Some e → place_fault (setting_of t.machine) c ≡ Some f → e ≡ f
  refused_once c e f one other = same_Some e f (sym one ∙ (places_are c ∙ other))

  -- Step

  abbrev Stepped : ℕ → Session → Outcome → Session → Type 0
  Stepped most r o u = ((e : Entry) × (o ≡ Ok (told.Entry e)) × (IsIdle g.sets r → ⊥) × StepsTo g most r e u)
      ⊎ (((o ≡ Err fault.Limit) × (IsIdle g.sets r → ⊥) × (n : ℕ) × (n ≡ most) × Waits g n r u)
      ⊎ ((o ≡ Err fault.Stopped) × IsIdle g.sets r × (u ≡ r)))

  does_step : (r u : Session) (o : Outcome) (report : Report) → o ≡ Ok report → Does g r command.Step report u → Stepped patience r o u
  does_step r u o (told.Entry e) is (runs, steps) = inl (e, is, runs, steps)
  does_step r u o (told.Stopped) is does = absurd does
  does_step r u o (told.Broke i pc) is does = absurd does
  does_step r u o (told.Set b) is does = absurd does
  does_step r u o (told.Cleared b) is does = absurd does
  does_step r u o (told.Nothing) is does = absurd does
  does_step r u o (told.Made n) is does = absurd does
  does_step r u o (told.Silence) is does = absurd does

  stepped : (r u : Session) (o : Outcome) → Comes g r command.Step o u → Stepped patience r o u
  stepped r u o (inl (report, is, does)) = does_step r u o report is does
  stepped r u o (inr (inl (is, (runs, (n, all, waits))))) = inr (inl (is, runs, n, all, waits))
  stepped r u o (inr (inr (f, is, (idle, stopped), same))) = inr (inr (is ∙ ap (λ (e : DebugFault). Err e) stopped, idle, same))

  one_stepped : (most : ℕ) (u x : Session) (o p : Outcome) → Stepped most s o u → Stepped most t p x → AreOne g o p u x
  one_stepped most u x o p (inl (d, is, runs, one)) (inl (e, also, goes, other)) =
      let both = steps_once g most s t u x d e twins one other in (is ∙ (ap (λ (e : Entry). Ok (told.Entry e)) both.0 ∙ sym also), both.1)
  one_stepped most u x o p (inl (d, is, runs, one)) (inr (inl (also, goes, n, all, other))) = absurd (steps_or_waits g most s t u x d twins one (subst (λ (k : ℕ). Waits g k t x) all other))
  one_stepped most u x o p (inl (d, is, runs, one)) (inr (inr (also, idle, same))) = absurd (runs (idle_before g s t twins idle))
  one_stepped most u x o p (inr (inl (is, runs, n, all, one))) (inl (e, also, goes, other)) = absurd (waits_or_steps g most s t u x e twins (subst (λ (k : ℕ). Waits g k s u) all one) other)
  one_stepped most u x o p (inr (inl (is, runs, n, all, one))) (inr (inl (also, goes, m, all_too, other))) =
      (is ∙ sym also, waits_once g n s t u x twins one (subst (λ (k : ℕ). Waits g k t x) (all_too ∙ sym all) other))
  one_stepped most u x o p (inr (inl (is, runs, n, all, one))) (inr (inr (also, idle, same))) = absurd (runs (idle_before g s t twins idle))
  one_stepped most u x o p (inr (inr (is, idle, same))) (inl (e, also, goes, other)) = absurd (goes (idle_too g s t twins idle))
  one_stepped most u x o p (inr (inr (is, idle, same))) (inr (inl (also, goes, n, all, other))) = absurd (goes (idle_too g s t twins idle))
  one_stepped most u x o p (inr (inr (is, idle, same))) (inr (inr (also, quiet, stays))) = (is ∙ sym also, both_stay g s t u x twins same stays)

  -- Run

  abbrev Ran : ℕ → Session → Outcome → Session → Type 0
  Ran n r o u = ((o ≡ Ok told.Stopped) × RunsOut g n r u)
      ⊎ (((i : ℕ) × (pc : ℕ) × (o ≡ Ok (told.Broke i pc)) × RunsInto g n r i pc u)
      ⊎ ((o ≡ Err fault.Limit) × RunsOn g n r u × (IsIdle g.sets u → ⊥)))

  does_run : (n : ℕ) (r u : Session) (o : Outcome) (report : Report) → o ≡ Ok report → Does g r (command.Run n) report u → Ran n r o u
  does_run n r u o (told.Entry e) is does = absurd does
  does_run n r u o (told.Stopped) is does = inl (is, does)
  does_run n r u o (told.Broke i pc) is does = inr (inl (i, pc, is, does))
  does_run n r u o (told.Set b) is does = absurd does
  does_run n r u o (told.Cleared b) is does = absurd does
  does_run n r u o (told.Nothing) is does = absurd does
  does_run n r u o (told.Made m) is does = absurd does
  does_run n r u o (told.Silence) is does = absurd does

  ran : (n : ℕ) (r u : Session) (o : Outcome) → Comes g r (command.Run n) o u → Ran n r o u
  ran n r u o (inl (report, is, does)) = does_run n r u o report is does
  ran n r u o (inr (inl (is, (on, goes)))) = inr (inr (is, on, goes))
  ran n r u o (inr (inr (f, is, refused, same))) = absurd (none-some f refused)

  one_ran : (n : ℕ) (u x : Session) (o p : Outcome) → Ran n s o u → Ran n t p x → AreOne g o p u x
  one_ran n u x o p (inl (is, one)) (inl (also, other)) = (is ∙ sym also, out_once g n s t u x twins one other)
  one_ran n u x o p (inl (is, one)) (inr (inl (j, q, also, other))) = absurd (out_or_into g n s t u x j q twins one other)
  one_ran n u x o p (inl (is, one)) (inr (inr (also, other, goes))) = absurd (out_or_limit g n s t u x twins one other goes)
  one_ran n u x o p (inr (inl (i, pc, is, one))) (inl (also, other)) = absurd (into_or_out g n s t u x i pc twins one other)
  one_ran n u x o p (inr (inl (i, pc, is, one))) (inr (inl (j, q, also, other))) =
      let both = into_once g n s t u x i pc j q twins one other in (is ∙ (ap (λ (at : ℕ × ℕ). Ok (told.Broke at.0 at.1)) both.0 ∙ sym also), both.1)
  one_ran n u x o p (inr (inl (i, pc, is, one))) (inr (inr (also, other, goes))) = absurd (into_or_limit g n s t u x i pc twins one other)
  one_ran n u x o p (inr (inr (is, one, runs))) (inl (also, other)) = absurd (limit_or_out g n s t u x twins one runs other)
  one_ran n u x o p (inr (inr (is, one, runs))) (inr (inl (j, q, also, other))) = absurd (limit_or_into g n s t u x j q twins one other)
  one_ran n u x o p (inr (inr (is, one, runs))) (inr (inr (also, other, goes))) = (is ∙ sym also, runs_once g n s t u x twins one other)

  -- Break

  abbrev Toggled : ℕ → Session → Outcome → Session → Type 0
  Toggled b r o u = ((o ≡ Ok (told.Set b)) × IsPlaced r (command.Break b) × Sets r b u)
      ⊎ (((o ≡ Ok (told.Cleared b)) × IsPlaced r (command.Break b) × Clears r b u)
      ⊎ (((o ≡ Err fault.Limit) × IsPlaced r (command.Break b) × (has_breakpoint r.breakpoints b ≡ false) × (length r.breakpoints ≡ most_breakpoints) × (u ≡ r))
      ⊎ ((f : DebugFault) × (o ≡ Err f) × (place_fault (setting_of r.machine) (command.Break b) ≡ Some f) × (u ≡ r))))

  does_toggle : (b : ℕ) (r u : Session) (o : Outcome) (report : Report) → o ≡ Ok report → Does g r (command.Break b) report u → Toggled b r o u
  does_toggle b r u o (told.Entry e) is does = absurd does
  does_toggle b r u o (told.Stopped) is does = absurd does
  does_toggle b r u o (told.Broke i pc) is does = absurd does
  does_toggle b r u o (told.Set place) is (at, placed, sets) = inl (is ∙ ap (λ (p : ℕ). Ok (told.Set p)) at, placed, sets)
  does_toggle b r u o (told.Cleared place) is (at, placed, clears) = inr (inl (is ∙ ap (λ (p : ℕ). Ok (told.Cleared p)) at, placed, clears))
  does_toggle b r u o (told.Nothing) is does = absurd does
  does_toggle b r u o (told.Made m) is does = absurd does
  does_toggle b r u o (told.Silence) is does = absurd does

  toggled : (b : ℕ) (r u : Session) (o : Outcome) → Comes g r (command.Break b) o u → Toggled b r o u
  toggled b r u o (inl (report, is, does)) = does_toggle b r u o report is does
  toggled b r u o (inr (inl (is, (placed, none, full, same)))) = inr (inr (inl (is, placed, none, full, same)))
  toggled b r u o (inr (inr (f, is, refused, same))) = inr (inr (inr (f, is, refused, same)))

  -- there is a breakpoint, or none
  is_there : (b n : ℕ) (xs : List ℕ) → position (λ a. a == b) xs ≡ Some n → has_breakpoint xs b ≡ false → ⊥
  is_there b n xs at none = true≢false (sym (ap is_some at) ∙ none)

  there_too : (b n : ℕ) → position (λ a. a == b) s.breakpoints ≡ Some n → has_breakpoint t.breakpoints b ≡ false → ⊥
  there_too b n at none = is_there b n t.breakpoints (ap (λ (xs : List ℕ). position (λ a. a == b) xs) (sym twins.breakpoints) ∙ at) none

  there_before : (b n : ℕ) → has_breakpoint s.breakpoints b ≡ false → position (λ a. a == b) t.breakpoints ≡ Some n → ⊥
  there_before b n none at = is_there b n s.breakpoints (ap (λ (xs : List ℕ). position (λ a. a == b) xs) twins.breakpoints ∙ at) none

  as_many : length s.breakpoints ≡ length t.breakpoints
  as_many = ap (λ (xs : List ℕ). length xs) twins.breakpoints

  one_toggled : (b : ℕ) (u x : Session) (o p : Outcome) → Toggled b s o u → Toggled b t p x → AreOne g o p u x
  one_toggled b u x o p (inl (is, placed, (none, room, one))) (inl (also, placed_too, (none_too, room_too, other))) = (
    is ∙ sym also,
    both_stay g (record s { breakpoints = s.breakpoints ++ b ∷ [] }) (record t { breakpoints = t.breakpoints ++ b ∷ [] }) u x
        (record { machine = twins.machine; last = twins.last; breakpoints = ap (λ (xs : List ℕ). xs ++ b ∷ []) twins.breakpoints }) one other,
  )
  one_toggled b u x o p (inl (is, placed, (none, room, one))) (inr (inl (also, placed_too, (m, at, other)))) = absurd (there_before b m none at)
  one_toggled b u x o p (inl (is, placed, (none, room, one))) (inr (inr (inl (also, placed_too, none_too, full, other)))) = absurd (omega (arith, room, full, as_many))
  one_toggled b u x o p (inl (is, placed, (none, room, one))) (inr (inr (inr (f, also, refused, other)))) = absurd (placed_or_refused (command.Break b) f placed refused)
  one_toggled b u x o p (inr (inl (is, placed, (n, at, one)))) (inl (also, placed_too, (none_too, room_too, other))) = absurd (there_too b n at none_too)
  one_toggled b u x o p (inr (inl (is, placed, (n, at, one)))) (inr (inl (also, placed_too, (m, at_too, other)))) =
      let same : n ≡ m = same_Some n m (sym at ∙ (ap (λ (xs : List ℕ). position (λ a. a == b) xs) twins.breakpoints ∙ at_too)) in (
        is ∙ sym also,
        both_stay g (record s { breakpoints = remove s.breakpoints n }) (record t { breakpoints = remove t.breakpoints m }) u x
            (record { machine = twins.machine; last = twins.last; breakpoints = λ k. remove (twins.breakpoints k) (same k) }) one other,
      )
  one_toggled b u x o p (inr (inl (is, placed, (n, at, one)))) (inr (inr (inl (also, placed_too, none_too, full, other)))) = absurd (there_too b n at none_too)
  one_toggled b u x o p (inr (inl (is, placed, (n, at, one)))) (inr (inr (inr (f, also, refused, other)))) = absurd (placed_or_refused (command.Break b) f placed refused)
  one_toggled b u x o p (inr (inr (inl (is, placed, none, full, one)))) (inl (also, placed_too, (none_too, room_too, other))) = absurd (omega (arith, room_too, full, as_many))
  one_toggled b u x o p (inr (inr (inl (is, placed, none, full, one)))) (inr (inl (also, placed_too, (m, at, other)))) = absurd (there_before b m none at)
  one_toggled b u x o p (inr (inr (inl (is, placed, none, full, one)))) (inr (inr (inl (also, placed_too, none_too, full_too, other)))) = (is ∙ sym also, both_stay g s t u x twins one other)
  one_toggled b u x o p (inr (inr (inl (is, placed, none, full, one)))) (inr (inr (inr (f, also, refused, other)))) = absurd (placed_or_refused (command.Break b) f placed refused)
  one_toggled b u x o p (inr (inr (inr (e, is, refused, one)))) (inl (also, placed_too, (none_too, room_too, other))) = absurd (refused_or_placed (command.Break b) e refused placed_too)
  one_toggled b u x o p (inr (inr (inr (e, is, refused, one)))) (inr (inl (also, placed_too, (m, at, other)))) = absurd (refused_or_placed (command.Break b) e refused placed_too)
  one_toggled b u x o p (inr (inr (inr (e, is, refused, one)))) (inr (inr (inl (also, placed_too, none_too, full, other)))) = absurd (refused_or_placed (command.Break b) e refused placed_too)
  one_toggled b u x o p (inr (inr (inr (e, is, refused, one)))) (inr (inr (inr (f, also, refused_too, other)))) =
      (is ∙ (ap (λ (h : DebugFault). Err h) (refused_once (command.Break b) e f refused refused_too) ∙ sym also), both_stay g s t u x twins one other)

  -- Steps by hand

  -- what is told of a step that was made
  abbrev report_for : Option Entry → ℕ → Report
  report_for None number = told.Made number
  report_for (Some e) number = told.Entry e

  abbrev Chosen : Command → Choice → Session → Outcome → Session → Type 0
  Chosen at c r o u = ((o ≡ Ok told.Nothing) × IsPlaced r at × (step : Option MachineStep) × IsStepOf g.sets r.machine r.last c step × IsDisabled g r step × (u ≡ r))
      ⊎ (((e : Option Entry) × (o ≡ Ok (report_for e r.machine.sent)) × IsPlaced r at × (step : Option MachineStep) × IsStepOf g.sets r.machine r.last c step × Makes g r step e u)
      ⊎ ((f : DebugFault) × (o ≡ Err f) × (place_fault (setting_of r.machine) at ≡ Some f) × (u ≡ r)))

  chosen : (at : Command) (c : Choice) (r u : Session) (o : Outcome) (report : Report) → o ≡ Ok report → IsPlaced r at → Chooses g r c report u → Chosen at c r o u
  chosen at c r u o (told.Entry e) is placed (step, of, makes) = inr (inl (Some e, is, placed, step, of, makes))
  chosen at c r u o (told.Stopped) is placed chooses = absurd chooses
  chosen at c r u o (told.Broke i pc) is placed chooses = absurd chooses
  chosen at c r u o (told.Set b) is placed chooses = absurd chooses
  chosen at c r u o (told.Cleared b) is placed chooses = absurd chooses
  chosen at c r u o (told.Nothing) is placed (step, of, disabled, same) = inl (is, placed, step, of, disabled, same)
  chosen at c r u o (told.Made n) is placed (step, of, makes, number) = inr (inl (None, is ∙ ap (λ (k : ℕ). Ok (told.Made k)) number, placed, step, of, makes))
  chosen at c r u o (told.Silence) is placed chooses = absurd chooses

  step_once : (c : Choice) (p q : Option MachineStep) → IsStepOf g.sets s.machine s.last c p → IsStepOf g.sets t.machine t.last c q → p ≡ q
  step_once c p q one other = one_step g s.machine t.machine s.last c p q twins.machine one (subst (λ (n : ℕ). IsStepOf g.sets t.machine n c q) (sym twins.last) other)

  made_once : (p : Option MachineStep) (d e : Option Entry) (u x : Session) → Makes g s p d u → Makes g t p e x → (d ≡ e) × AreTwinSessions g u x
  made_once None d e u x one other = absurd one
  made_once (Some step) d e u x (on, one, last, points) (on_too, other, last_too, points_too) = (
    one_entry g s.machine t.machine twins.machine step d e u.machine x.machine one other,
    record {
      machine = twins_on g s.machine t.machine twins.machine step d e u.machine x.machine one other;
      last = last ∙ (ap (hart_after step) twins.last ∙ sym last_too);
      breakpoints = points ∙ (twins.breakpoints ∙ sym points_too);
    },
  )

  disabled_or_made : (p : Option MachineStep) (e : Option Entry) (x : Session) → IsDisabled g s p → Makes g t p e x → ⊥
  disabled_or_made None e x off made = absurd made
  disabled_or_made (Some step) e x off (on, made, last, points) = true≢false (sym (enabled_once g s.machine t.machine twins.machine step false true off on))

  made_or_disabled : (p : Option MachineStep) (e : Option Entry) (u : Session) → Makes g s p e u → IsDisabled g t p → ⊥
  made_or_disabled None e u made off = absurd made
  made_or_disabled (Some step) e u (on, made, last, points) off = true≢false (enabled_once g s.machine t.machine twins.machine step true false on off)

  one_chosen : (at : Command) (c : Choice) (u x : Session) (o p : Outcome) → Chosen at c s o u → Chosen at c t p x → AreOne g o p u x
  one_chosen at c u x o p (inl (is, placed, a, of, off, one)) (inl (also, placed_too, b, of_too, off_too, other)) = (is ∙ sym also, both_stay g s t u x twins one other)
  one_chosen at c u x o p (inl (is, placed, a, of, off, one)) (inr (inl (e, also, placed_too, b, of_too, made))) =
      absurd (disabled_or_made b e x (subst (IsDisabled g s) (step_once c a b of of_too) off) made)
  one_chosen at c u x o p (inl (is, placed, a, of, off, one)) (inr (inr (f, also, refused, other))) = absurd (placed_or_refused at f placed refused)
  one_chosen at c u x o p (inr (inl (d, is, placed, a, of, made))) (inl (also, placed_too, b, of_too, off, other)) =
      absurd (made_or_disabled b d u (subst (λ (q : Option MachineStep). Makes g s q d u) (step_once c a b of of_too) made) off)
  one_chosen at c u x o p (inr (inl (d, is, placed, a, of, made))) (inr (inl (e, also, placed_too, b, of_too, made_too))) =
      let both = made_once b d e u x (subst (λ (q : Option MachineStep). Makes g s q d u) (step_once c a b of of_too) made) made_too in
      (is ∙ ((λ k. Ok (report_for (both.0 k) (twins.machine.sent k))) ∙ sym also), both.1)
  one_chosen at c u x o p (inr (inl (d, is, placed, a, of, made))) (inr (inr (f, also, refused, other))) = absurd (placed_or_refused at f placed refused)
  one_chosen at c u x o p (inr (inr (e, is, refused, one))) (inl (also, placed, b, of, off, other)) = absurd (refused_or_placed at e refused placed)
  one_chosen at c u x o p (inr (inr (e, is, refused, one))) (inr (inl (d, also, placed, b, of, made))) = absurd (refused_or_placed at e refused placed)
  one_chosen at c u x o p (inr (inr (e, is, refused, one))) (inr (inr (f, also, refused_too, other))) =
      (is ∙ (ap (λ (h : DebugFault). Err h) (refused_once at e f refused refused_too) ∙ sym also), both_stay g s t u x twins one other)

  chooses : (at : Command) (c : Choice) (r u : Session) (o : Outcome)
      → ((report : Report) × (o ≡ Ok report) × (IsPlaced r at × Chooses g r c report u)) ⊎ (((o ≡ Err fault.Limit) × ⊥) ⊎ ((f : DebugFault) × (o ≡ Err f) × (place_fault (setting_of r.machine) at ≡ Some f) × (u ≡ r)))
      → Chosen at c r o u
  chooses at c r u o (inl (report, is, (placed, does))) = chosen at c r u o report is placed does
  chooses at c r u o (inr (inl (is, limited))) = absurd limited
  chooses at c r u o (inr (inr (f, is, refused, same))) = inr (inr (f, is, refused, same))

  -- Comments, and the end

  abbrev Silent : Session → Outcome → Session → Type 0
  Silent r o u = (o ≡ Ok told.Silence) × (u ≡ r)

  does_comment : (r u : Session) (o : Outcome) (report : Report) → o ≡ Ok report → Does g r command.Comment report u → Silent r o u
  does_comment r u o (told.Entry e) is does = absurd does
  does_comment r u o (told.Stopped) is does = absurd does
  does_comment r u o (told.Broke i pc) is does = absurd does
  does_comment r u o (told.Set b) is does = absurd does
  does_comment r u o (told.Cleared b) is does = absurd does
  does_comment r u o (told.Nothing) is does = absurd does
  does_comment r u o (told.Made m) is does = absurd does
  does_comment r u o (told.Silence) is same = (is, same)

  does_quit : (r u : Session) (o : Outcome) (report : Report) → o ≡ Ok report → Does g r command.Quit report u → Silent r o u
  does_quit r u o (told.Entry e) is does = absurd does
  does_quit r u o (told.Stopped) is does = absurd does
  does_quit r u o (told.Broke i pc) is does = absurd does
  does_quit r u o (told.Set b) is does = absurd does
  does_quit r u o (told.Cleared b) is does = absurd does
  does_quit r u o (told.Nothing) is does = absurd does
  does_quit r u o (told.Made m) is does = absurd does
  does_quit r u o (told.Silence) is same = (is, same)

  comment : (r u : Session) (o : Outcome) → Comes g r command.Comment o u → Silent r o u
  comment r u o (inl (report, is, does)) = does_comment r u o report is does
  comment r u o (inr (inl (is, limited))) = absurd limited
  comment r u o (inr (inr (f, is, refused, same))) = absurd (none-some f refused)

  quit : (r u : Session) (o : Outcome) → Comes g r command.Quit o u → Silent r o u
  quit r u o (inl (report, is, does)) = does_quit r u o report is does
  quit r u o (inr (inl (is, limited))) = absurd limited
  quit r u o (inr (inr (f, is, refused, same))) = absurd (none-some f refused)

  one_silent : (u x : Session) (o p : Outcome) → Silent s o u → Silent t p x → AreOne g o p u x
  one_silent u x o p (is, one) (also, other) = (is ∙ sym also, both_stay g s t u x twins one other)

  -- All of them

  pub one_deed : (c : Command) (u x : Session) (o p : Outcome) → ((l : Look) → c ≡ command.Look l → ⊥) → Comes g s c o u → Comes g t c p x → AreOne g o p u x
  one_deed (command.Step) u x o p deed one other = one_stepped patience u x o p (stepped s u o one) (stepped t x p other)
  one_deed (command.Run n) u x o p deed one other = one_ran n u x o p (ran n s u o one) (ran n t x p other)
  one_deed (command.Break b) u x o p deed one other = one_toggled b u x o p (toggled b s u o one) (toggled b t x p other)
  one_deed (command.Core h) u x o p deed one other =
      one_chosen (command.Core h) (choice.Core h) u x o p (chooses (command.Core h) (choice.Core h) s u o one) (chooses (command.Core h) (choice.Core h) t x p other)
  one_deed (command.Evict h a) u x o p deed one other =
      let c = choice.Evict h (a / block_bytes) in
      one_chosen (command.Evict h a) c u x o p (chooses (command.Evict h a) c s u o one) (chooses (command.Evict h a) c t x p other)
  one_deed (command.Deliver sort h a) u x o p deed one other =
      let c = choice.Deliver (name sort h (a / block_bytes)) in
      one_chosen (command.Deliver sort h a) c u x o p (chooses (command.Deliver sort h a) c s u o one) (chooses (command.Deliver sort h a) c t x p other)
  one_deed (command.Look l) u x o p deed one other = absurd (deed l refl)
  one_deed (command.Comment) u x o p deed one other = one_silent u x o p (comment s u o one) (comment t x p other)
  one_deed (command.Quit) u x o p deed one other = one_silent u x o p (quit s u o one) (quit t x p other)
