-- A machine and the flat state that belongs to it meet the invariant, and so they do after each step.
use Rattle.std.proofs.Common.{◌≡◌, ◌≤◌, ℕ, List, [], ◌∷◌, ◌++◌, Option, None, Some, length, min, refl, sym, subst, arith}
use Rattle.std.specs.Prelude.{option_to_list}
use Rattle.words.specs.declared.cause.AbortCause.TheVariants.{Conflict}
use Rattle.words.specs.declared.entry.Entry.{Entry}
use Rattle.words.specs.declared.entry.Entry.TheVariants.{Abort, Refuse}
use Rattle.words.specs.declared.entry.Step.{Step}
use Rattle.flat.specs.State.{Setting, Flat, Tx as FlatTx}
use Rattle.flat.specs.Start.{first_state}
use Rattle.flat.specs.Steps.{CarriesSome, IsRun}
use Rattle.flat.specs.Reasons.{no_history, history_of, RefusalHasReason, ConflictHasReason}
use Rattle.flat.proofs.Determined.{one_last}
use Rattle.flat.proofs.Runs.{run_then}
use Rattle.protocol.specs.Hart.{Transaction, log_of}
use Rattle.protocol.specs.Caches.{Geometry}
use Rattle.protocol.specs.Machine.{Machine, Steps, Runs}
use Rattle.protocol.specs.Network.{LiesBelow}
use Rattle.protocol.specs.Start.{start}
use Rattle.protocol.proofs.Splits.{runs_then, runs_at}
use Rattle.table.specs.Program.{AreBytes}
use Rattle.isolation.specs.Belongs.{Belongs}
use Rattle.isolation.specs.Answers.{AnswersAs}
use Rattle.isolation.specs.Facts.{LogsUndo, LogsFit}
use Rattle.isolation.proofs.Machine.Slots.{Mail}
use Rattle.isolation.proofs.Machine.World.{World}
use Rattle.isolation.proofs.Machine.Invariant.{TxIs, Inv, Next}
use Rattle.isolation.proofs.Machine.Readings.{aborting_from}
use Rattle.isolation.proofs.Steps.Starting.{first_world, inv_start}
use Rattle.isolation.proofs.Steps.StepNext.{step_next, one_more, runs_later}
use Rattle.isolation.proofs.Consequences.Views.{logged_by_one}
use Rattle.isolation.proofs.Consequences.Views as views

-- both machines, after entries
abbrev pub world : Machine → Flat → List Entry → Mail → World
world w f es mail = record { machine = w; flat = f; history = history_of no_history es; mail = mail }

-- after steps that give these entries, beside the flat machine's run of them
pub inv_after : (g : Geometry) (s : Setting) (entry : ℕ) (steps : List Step) (es : List Entry) (f : Flat) (w : Machine) → AreBytes s.segments → Runs g (start s entry) steps es w → IsRun (first_state s entry) es f → (mail : Mail) × Inv (world w f es mail)
inv_after g s entry steps es f w bytes r run =
    let l = runs_later g (first_world s entry) (inv_start s entry bytes) steps es w r in
    (l.mail, subst (λ z. Inv (world w z es l.mail)) (one_last (first_state s entry) l.flat f es l.run run) l.inv)

-- so it is for a machine and a state that belongs to it
pub inv_of : (g : Geometry) (f : Flat) (w : Machine) → (b : Belongs g f w) → (mail : Mail) × Inv (world w f b.entries mail)
inv_of g f w b = inv_after g b.setting b.entry b.steps b.entries f w b.bytes b.run b.flat_run

-- and for each step from there
pub next_after : (g : Geometry) (f : Flat) (v w : Machine) (s : Step) (e : Option Entry) (b : Belongs g f v) → Steps g v s e w → Next (world v f b.entries (inv_of g f v b).0) e w
next_after g f v w s e b step = let i = inv_of g f v b in step_next g (world v f b.entries i.0) i.1 s e w step

-- one step more, and its entry

at_end : (e : Option Entry) → option_to_list e ++ [] ≡ option_to_list e
at_end None = refl
at_end (Some e) = refl

runs_more : (g : Geometry) (u v w : Machine) (ss : List Step) (es : List Entry) (s : Step) (e : Option Entry) → Runs g u ss es v → Steps g v s e w → Runs g u (ss ++ s ∷ []) (es ++ option_to_list e) w
runs_more g u v w ss es s e r step = runs_then g u v w ss (s ∷ []) es (option_to_list e) r (w, e, [], step, (refl, refl), sym (at_end e))

flat_more : (f g h : Flat) (es : List Entry) (e : Option Entry) → IsRun f es g → CarriesSome g e h → IsRun f (es ++ option_to_list e) h
flat_more f g h es None r c = run_then f g h es [] r c
flat_more f g h es (Some e) r c = run_then f g h es (e ∷ []) r (h, c, refl)

-- the first states belong together
pub belongs_start : (g : Geometry) (s : Setting) (entry : ℕ) → AreBytes s.segments → Belongs g (first_state s entry) (start s entry)
belongs_start g s entry bytes = record { setting = s; entry = entry; bytes = bytes; steps = []; entries = []; run = (refl, refl); flat_run = refl }

-- after a step some flat state belongs to the machine, and the entry carries the old one to it
pub belongs_next : (g : Geometry) (f : Flat) (v w : Machine) (s : Step) (e : Option Entry) → Belongs g f v → Steps g v s e w → (h : Flat) × CarriesSome f e h × Belongs g h w
belongs_next g f v w s e b step =
    let n = next_after g f v w s e b step in (
      n.flat,
      n.carries,
      record {
        setting = b.setting;
        entry = b.entry;
        bytes = b.bytes;
        steps = b.steps ++ s ∷ [];
        entries = b.entries ++ option_to_list e;
        run = runs_more g (start b.setting b.entry) v w b.steps b.entries s e b.run step;
        flat_run = flat_more (first_state b.setting b.entry) f n.flat b.entries e b.flat_run n.carries;
      },
    )

-- and so it does after steps from there
pub belongs_later : (g : Geometry) (f : Flat) (v w : Machine) (steps : List Step) (es : List Entry) → Belongs g f v → Runs g v steps es w → (h : Flat) × IsRun f es h × Belongs g h w
belongs_later g f v w [] es b r = (f, subst (λ z. IsRun f z f) (sym r.0) refl, subst (Belongs g f) (sym r.1) b)
belongs_later g f v w (s ∷ ss) es b r =
    let n = belongs_next g f v r.0 s r.1 b r.3 in
    let l = belongs_later g n.0 r.0 w ss r.2 n.2 r.4 in
    (l.0, subst (λ z. IsRun f z l.0) (sym r.5) (one_more f n.0 l.0 r.1 r.2 n.1 l.1), l.2)

-- after any steps from the start one does, which the entries lead to
pub belongs_after : (g : Geometry) (s : Setting) (entry : ℕ) (steps : List Step) (es : List Entry) (w : Machine) → AreBytes s.segments → Runs g (start s entry) steps es w → (f : Flat) × IsRun (first_state s entry) es f × Belongs g f w
belongs_after g s entry steps es w bytes r =
    let l = runs_later g (first_world s entry) (inv_start s entry bytes) steps es w r in
    (l.flat, l.run, record { setting = s; entry = entry; bytes = bytes; steps = steps; entries = es; run = r; flat_run = l.run })

-- answers

-- what a machine answers is what its flat state says
pub answers_after : (g : Geometry) (f : Flat) (w : Machine) (keys : ℕ) → Belongs g f w → LiesBelow keys w.net → AnswersAs keys w f
answers_after g f w keys b below =
    let i = inv_of g f w b in
    let x = world w f b.entries i.0 in
    let v = i.1 in
    record {
      harts = λ j. record { regs = sym (v.harts j).regs; pc = sym (v.harts j).pc; status = sym (v.harts j).status; output = sym (v.harts j).output };
      peek = λ a. views.peek_is x v keys below a;
      view = λ j a o n. views.view_is x v keys below j a o (λ e. n (aborting_from (w.harts j) e));
      raw_written = λ j a o n e. views.raw_written x v keys below j a o (λ k. n (aborting_from (w.harts j) k)) e;
      raw_unwritten = λ a n. views.raw_unwritten x v keys below a n;
    }

-- undoing all logs leads to the flat machine's memory
pub logs_after : (g : Geometry) (f : Flat) (w : Machine) (keys : ℕ) → Belongs g f w → LiesBelow keys w.net → LogsUndo keys w f
logs_after g f w keys b below =
    let i = inv_of g f w b in
    let x = world w f b.entries i.0 in
    record { one_log = λ j k c o p n e. logged_by_one x i.1 j k c o p n e; memory = λ a. views.peek_is x i.1 keys below a }

-- a log that came with at most 113 counted stores has at most 113 records
log_fits : (a : Option Transaction) (b : Option FlatTx) → TxIs a b → length (log_of a) ≤ 113
log_fits None b e = omega (arith)
log_fits (Some t) None e = absurd e
log_fits (Some t) (Some u) e = below (length t.log) u.stores e.logged
  where
    below : (n k : ℕ) → n ≤ min k 113 → n ≤ 113
    below n k l = grind arith

pub logs_fit_after : (g : Geometry) (f : Flat) (w : Machine) → Belongs g f w → LogsFit w
logs_fit_after g f w b = λ i. log_fits (w.harts i).tx (f.hart i).tx ((inv_of g f w b).1.harts i).tx

-- reasons

-- a refusal, after these entries, has its reason
pub refusal_after : (g : Geometry) (s : Setting) (entry : ℕ) (steps : List Step) (es : List Entry) (f : Flat) (v w : Machine) (next : Step) (j i b : ℕ) → AreBytes s.segments → Runs g (start s entry) steps es v → IsRun (first_state s entry) es f → Steps g v next (Some (Refuse j i b)) w → RefusalHasReason f (history_of no_history es) j i b
refusal_after g s entry steps es f v w next j i b bytes r run step =
    let k = inv_after g s entry steps es f v bytes r run in
    (step_next g (world v f es k.0) k.1 next (Some (Refuse j i b)) w step).reason

-- and so has an abort by a conflict
pub conflict_after : (g : Geometry) (s : Setting) (entry : ℕ) (steps : List Step) (es : List Entry) (v w : Machine) (next : Step) (i : ℕ) → AreBytes s.segments → Runs g (start s entry) steps es v → Steps g v next (Some (Abort i Conflict)) w → ConflictHasReason (history_of no_history es) i
conflict_after g s entry steps es v w next i bytes r step =
    let f = belongs_after g s entry steps es v bytes r in
    let k = inv_after g s entry steps es f.0 v bytes r f.1 in
    (step_next g (world v f.0 es k.0) k.1 next (Some (Abort i Conflict)) w step).reason

-- each refusal among the entries of a run
pub refusal_among : (g : Geometry) (s : Setting) (entry : ℕ) (steps : List Step) (before after : List Entry) (f : Flat) (w : Machine) (j i b : ℕ) → AreBytes s.segments → Runs g (start s entry) steps (before ++ Refuse j i b ∷ after) w → IsRun (first_state s entry) before f → RefusalHasReason f (history_of no_history before) j i b
refusal_among g s entry steps before after f w j i b bytes r run =
    let k = runs_at g (start s entry) w steps before (Refuse j i b) after r in
    refusal_after g s entry k.0 before f k.3 k.4 k.1 j i b bytes k.6 run k.7

-- each abort by a conflict among them
pub conflict_among : (g : Geometry) (s : Setting) (entry : ℕ) (steps : List Step) (before after : List Entry) (w : Machine) (i : ℕ) → AreBytes s.segments → Runs g (start s entry) steps (before ++ Abort i Conflict ∷ after) w → ConflictHasReason (history_of no_history before) i
conflict_among g s entry steps before after w i bytes r =
    let k = runs_at g (start s entry) w steps before (Abort i Conflict) after r in
    conflict_after g s entry k.0 before k.3 k.4 k.1 i bytes k.6 k.7
