-- What was made of a board's machine and journal is a turn, or a lease that is settled.
use Rattle.std.proofs.Common.{◌≡◌, ◌<◌, ◌≤◌, ℕ, List, length, Option, Some, Result, Ok, Err, refl, sym, subst, ◌∙◌}
use Rattle.std.specs.Prelude.{OnOk}
use Rattle.words.specs.Limits.{most_harts}
use Rattle.words.specs.declared.entry.Entry.{Entry}
use Rattle.words.specs.declared.entry.Step.{Step}
use Rattle.protocol.specs.Caches.{Geometry}
use Rattle.machine.specs.States.{State}
use Rattle.machine.specs.Lent.{with_hart}
use Rattle.schedule.specs.declared.choices.Choice.{Choice}
use Rattle.schedule.specs.Runs.{Makes}
use Rattle.schedule.specs.Steps.{IsChoiceOf}
use Rattle.schedule.specs.Written.{IsWritable}
use Rattle.board.specs.Leases.{most_steps, Lent}
use Rattle.board.specs.Histories.{Told, TellsMore, LeadsAlone, one_step, core_steps}
use Rattle.board.specs.Boards.{Held, IsTurn, IsSettled}

module _ {J : Type 0} (g : Geometry) (tells : J → Told → Type 0) (b : Held J) (m : State) (j : J) where
  same_choice : (step : Step) (c x : Choice) → IsChoiceOf g.sets b.machine step c → Some c ≡ Some x → IsChoiceOf g.sets b.machine step x
  same_choice step c x chosen same = let is : c ≡ x = cc in subst (IsChoiceOf g.sets b.machine step) is chosen

  same_writable : (c x : Choice) → IsWritable c → Some c ≡ Some x → IsWritable x
  same_writable c x writable same = let is : c ≡ x = cc in subst IsWritable is writable

  pub turned : {E : Type 0} (step : Step) (c : Choice) (r : Result Unit E) → IsChoiceOf g.sets b.machine step c → IsWritable c
      → OnOk r ((e : Option Entry) × Makes g b.machine (Some step) e m × TellsMore tells b.journal (one_step step e (Some c)) j)
      → OnOk r ((e : Option Entry) × IsTurn g tells b step (Some c) e (record b { machine = m; journal = j }))
  turned step c (Ok _) chosen writable (e, made, told) =
      (e, record { made = made; chosen = λ x same. same_choice step c x chosen same; writable = λ x same. same_writable c x writable same; told = told; rest = refl })
  turned step c (Err _) chosen writable made = tt {0}

  pub settled : {T : Type 0} (traces : T → List Entry → Type 0) (l : Lent T) → l.id < most_harts → l.steps ≤ most_steps → m ≡ with_hart b.machine l.id l.after → LeadsAlone g traces b.machine l m
      → ((es : List Entry) → traces l.trace es → length es ≡ l.steps → TellsMore tells b.journal (core_steps l.id es) j)
      → IsSettled g tells traces b l (record b { machine = m; journal = j })
  settled traces l few short is (es, traced, count, runs, leads) noted =
      record { few = few; short = short; entries = es; traced = traced; count = count; runs = runs; leads = leads; told = noted es traced count; rest = λ k. record b { machine = is k; journal = j } }

-- what is noted of a lease's number, steps and trace is noted of the lease
pub noted_of : {J T : Type 0} (traces : T → List Entry → Type 0) (tells : J → Told → Type 0) (x y : J) (l : Lent T) (i n : ℕ) (t : T) → i ≡ l.id → n ≡ l.steps → t ≡ l.trace
    → ((es : List Entry) → traces t es → length es ≡ n → TellsMore tells x (core_steps i es) y) → (es : List Entry) → traces l.trace es → length es ≡ l.steps → TellsMore tells x (core_steps l.id es) y
noted_of traces tells x y l i n t is_id is_steps is_trace noted es traced count =
    subst (λ (k : ℕ). TellsMore tells x (core_steps k es) y) is_id (noted es (subst (λ u. traces u es) (sym is_trace) traced) (count ∙ sym is_steps))
