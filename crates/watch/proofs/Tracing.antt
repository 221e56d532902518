-- The lines of entries that are put one after another.
use Rattle.std.proofs.Common.{◌≡◌, ◌++◌, ℕ, List, [], ◌∷◌, Result, Ok, Err, MatchResult, sym, subst}
use Rattle.std.specs.List.{FoldsTo}
use Rattle.std.proofs.lemmas.List.{append-nil}
use Rattle.std.proofs.lemmas.List.Concat.{flat_map-append}
use Rattle.words.specs.declared.sink.SinkFault.{SinkFault}
use Rattle.words.specs.Sinks.{SinkState, TookAll, TookPart}
use Rattle.texts.specs.Puts.{Puts}
use Rattle.texts.proofs.Putting.{took-nothing, took-both, took-then-part}
use Rattle.disassembler.specs.Tables.{Table}
use Rattle.protocol.specs.Caches.{Geometry}
use Rattle.machine.specs.States.{State}
use Rattle.schedule.specs.Courses.{Course}
use Rattle.schedule.specs.declared.halt.Halt.{Halt}
use Rattle.schedule.specs.declared.halt.Halt.TheVariants.{NoMemory, Untold}
use Rattle.schedule.specs.Moments.{Moment}
use Rattle.schedule.specs.Observed.{IsSeen, IsHalted, joined}
use Rattle.schedule.proofs.Seeing.{holds_of_all}
use Rattle.watch.specs.Traces.{line_of, trace_of, IsTraced, IsCut}

pub trace_both : (names : Table) (ms ns : List Moment) → trace_of names ms ++ trace_of names ns ≡ trace_of names (ms ++ ns)
trace_both names ms ns = sym (flat_map-append (line_of names) ms ns)

pub traced_both : (names : Table) (a b c : SinkState) (ms ns : List Moment) → TookAll a b (trace_of names ms) → TookAll b c (trace_of names ns) → TookAll a c (trace_of names (ms ++ ns))
traced_both names a b c ms ns first later = subst (λ (text : List ℕ). TookAll a c text) (trace_both names ms ns) (took-both a b c (trace_of names ms) (trace_of names ns) first later)

pub traced_part : (names : Table) (a b c : SinkState) (ms ns : List Moment) → TookAll a b (trace_of names ms) → TookPart b c (trace_of names ns) → TookPart a c (trace_of names (ms ++ ns))
traced_part names a b c ms ns first later = subst (λ (text : List ℕ). TookPart a c text) (trace_both names ms ns) (took-then-part a b c (trace_of names ms) (trace_of names ns) first later)

-- the line of one moment
pub traced_one : (names : Table) (a b : SinkState) (m : Moment) → Puts a b (line_of names m) (Ok tt) → TookAll a b (trace_of names (m ∷ []))
traced_one names a b m puts = subst (λ (text : List ℕ). TookAll a b text) (sym (append-nil (line_of names m))) (record { whole = puts.whole; clean = puts.clean })

pub untraced_one : (names : Table) (a b : SinkState) (m : Moment) (fault : SinkFault) → Puts a b (line_of names m) (Err fault) → TookPart a b (trace_of names (m ∷ []))
untraced_one names a b m fault puts = subst (λ (text : List ℕ). TookPart a b text) (sym (append-nil (line_of names m))) (record { part = puts.part; fault = puts.fault })

-- the lines of moments that were put group by group
module _ {S : Type 0} (names : Table) (state : S → SinkState) where
  abbrev pub Saw : S → List Moment → S → Type 0
  Saw x ms y = TookAll (state x) (state y) (trace_of names ms)

  abbrev pub Missed : S → List Moment → S → Type 0
  Missed x ms y = TookPart (state x) (state y) (trace_of names ms)

  traced_all : (groups : List (List Moment)) (x y : S) → FoldsTo Saw x groups y → Saw x (joined groups) y
  traced_all groups x y folds = holds_of_all Saw (Saw x) (λ ms ns z w first later. traced_both names (state x) (state z) (state w) ms ns first later) groups x y (took-nothing (state x)) folds

  -- what was seen of a run, as what the sink took. Of one that ended early its course is told so
  pub told : (g : Geometry) (course early : Course) (n : ℕ) (v w : State) (x y : S) (r : Result Unit Halt)
      → MatchResult r (λ _. IsSeen Saw g course n v w x y) (IsHalted Saw Missed g early n v w x y)
      → MatchResult r (λ _. IsTraced names g course n v w (state x) (state y)) (IsCut names g early n v w (state x) (state y))
  told g course early n v w x y (Ok _) (groups, plays, folds) = (joined groups, plays, traced_all groups x y folds)
  told g course early n v w x y (Err NoMemory) (m, less, (groups, plays, folds)) = (m, less, (joined groups, plays, traced_all groups x y folds))
  told g course early n v w x y (Err Untold) (m, less, (groups, last, z, plays, folds, missed)) =
      (m, less, joined groups ++ last, plays, traced_part names (state x) (state z) (state y) (joined groups) last (traced_all groups x z folds) missed)
