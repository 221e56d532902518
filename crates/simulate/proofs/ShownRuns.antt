-- What is shown of steps, from what made them.
use Rattle.std.proofs.Common.{◌<◌, ◌≤◌, ◌+◌, ℕ, List, [], Result, Ok, Err, MatchResult, inl, inr, refl, sym, subst, arith, append-nil}
use Rattle.std.specs.Borrow.{Bor}
use Rattle.words.specs.declared.sink.SinkFault.{SinkFault}
use Rattle.words.specs.Sinks.{SinkState, TookAll, TookPart}
use Rattle.command_line.specs.declared.request.Show.TheVariants as shows
use Rattle.command_line.specs.declared.request.View.{View}
use Rattle.command_line.specs.declared.request.View.TheVariants.{Trace, Timeline, Picture, Page}
use Rattle.disassembler.specs.Tables.{Table}
use Rattle.protocol.specs.Caches.{Geometry}
use Rattle.machine.specs.States.{State}
use Rattle.schedule.specs.Courses.{Course}
use Rattle.schedule.specs.declared.halt.Halt.{Halt}
use Rattle.schedule.specs.declared.halt.Halt.TheVariants as halt
use Rattle.schedule.specs.Moments.{Moment}
use Rattle.schedule.specs.Runs.{Plays}
use Rattle.watch.specs.declared.counting.Tally.{Tally}
use Rattle.watch.specs.Runs.{IsTallyOf}
use Rattle.watch.specs.Traces.{trace_of, IsTraced, IsCut}
use Rattle.timeline.specs.Timelines as timeline
use Rattle.timeline.specs.Pictures.{IsPictured, IsNotPictured}
use Rattle.pages.specs.Pages.{IsPaged, IsPagedInPart}
use Rattle.texts.specs.Puts.{Puts}
use Rattle.texts.proofs.Putting.{took-nothing, took-both, took-then-part}
use Rattle.requests.specs.Faults.{of_halt}
use Rattle.requests.specs.Outputs.{Sinks, TakeAll}
use Rattle.simulate.specs.Shown.{IsShown, IsCutShort, IsViewed, IsViewCut, IsViewFault, view_text}
use Rattle.requests.specs.declared.fault.Fault.{Fault}
use Rattle.requests.specs.declared.fault.Fault.TheVariants.{Unmade, NoMemory}

-- sinks of which only one took something
module _ (a b : SinkState) where
  into_output : (file : SinkState) (text : List ℕ) → TookAll a b text → TakeAll (record { output = a; file = file }) (record { output = b; file = file }) (record { output = text; file = [] })
  into_output file text took = record { output = took; file = took-nothing file }

  into_file : (output : SinkState) (text : List ℕ) → TookAll a b text → TakeAll (record { output = output; file = a }) (record { output = output; file = b }) (record { output = []; file = text })
  into_file output text took = record { output = took-nothing output; file = took }

module _ (names : Table) (g : Geometry) (words : List ℕ) (on : Course) (n : ℕ) (v w : State) where
  -- nothing is shown before the report
  pub shown_alone : (counts : Tally) (sinks : Sinks) → (ms : List Moment) × Plays g on n v ms w → IsShown names shows.Report g words on n v w counts sinks sinks
  shown_alone counts sinks (ms, plays) = (ms, plays, tt, record { output = took-nothing sinks.output; file = took-nothing sinks.file })

  pub cut_alone : (sinks : Sinks) → (m : ℕ) × (m < n) × ((ms : List Moment) × Plays g on m v ms w) → IsCutShort names shows.Report g words on n v w sinks sinks NoMemory
  cut_alone sinks (m, less, (ms, plays)) = inl (refl, (m, less, (ms, plays, record { output = took-nothing sinks.output; file = took-nothing sinks.file })))

  -- counts stand behind it
  pub shown_counts : (form : _) (counts : Tally) (sinks : Sinks) → IsTallyOf g on n v w counts → IsShown names (shows.Counts form) g words on n v w counts sinks sinks
  shown_counts form counts sinks (ms, plays, tally) = (ms, plays, tally, record { output = took-nothing sinks.output; file = took-nothing sinks.file })

  pub cut_counts : (form : _) (sinks : Sinks) → (m : ℕ) × (m < n) × ((ms : List Moment) × Plays g on m v ms w) → IsCutShort names (shows.Counts form) g words on n v w sinks sinks NoMemory
  cut_counts form sinks (m, less, (ms, plays)) = inl (refl, (m, less, (ms, plays, record { output = took-nothing sinks.output; file = took-nothing sinks.file })))

  module _ (a b : SinkState) where
    -- a trace on standard output
    pub shown_trace : (counts : Tally) (file : SinkState) → IsTraced names g on n v w a b → IsShown names shows.Trace g words on n v w counts (record { output = a; file = file }) (record { output = b; file = file })
    shown_trace counts file (ms, plays, took) = (ms, plays, tt, into_output a b file (trace_of names ms) took)

    pub cut_trace : (file : SinkState) (h : Halt) → IsCut names g on n v w a b h → IsCutShort names shows.Trace g words on n v w (record { output = a; file = file }) (record { output = b; file = file }) (of_halt h)
    cut_trace file halt.NoMemory (m, less, (ms, plays, took)) = inl (refl, (m, less, (ms, plays, into_output a b file (trace_of names ms) took)))
    cut_trace file halt.Untold (m, less, ms, plays, part) = let within : m + 1 ≤ n = omega (arith, less) in inr (inl (refl, refl, (m + 1, within, (ms, plays, part, refl))))

    -- a view in a file
    pub shown_view : (view : View) (path : Bor (List ℕ)) (counts : Tally) (output : SinkState) → IsViewed names view g words on n v w a b
        → IsShown names (shows.View view path) g words on n v w counts (record { output = output; file = a }) (record { output = output; file = b })
    shown_view view path counts output (ms, plays, took) = (ms, plays, tt, into_file a b output (view_text names view g words v ms) took)

    pub cut_view : (view : View) (path : Bor (List ℕ)) (output : SinkState) (fault : Fault) → IsViewFault names view g words on n v w a b path fault
        → IsCutShort names (shows.View view path) g words on n v w (record { output = output; file = a }) (record { output = output; file = b }) fault
    cut_view view path output fault (inl (is, (m, less, (ms, plays, took)))) = inl (is, (m, less, (ms, plays, into_file a b output _ took)))
    cut_view view path output fault (inr (is, (m, within, (ms, plays, part)))) = inr (inr (view, path, refl, is, (m, within, (ms, plays, part, refl))))

-- the views, where a run that ended early is told so
module _ (names : Table) (g : Geometry) (words : List ℕ) (on early : Course) (n : ℕ) (v w : State) (a b : SinkState) where
  pub as_trace : (r : Result Unit Halt) → MatchResult r (λ _. IsTraced names g on n v w a b) (IsCut names g early n v w a b)
      → MatchResult r (λ _. IsViewed names Trace g words on n v w a b) (IsViewCut names Trace g words early n v w a b)
  as_trace (Ok _) (ms, plays, took) = (ms, plays, took)
  as_trace (Err halt.NoMemory) (m, less, (ms, plays, took)) = (m, less, (ms, plays, took))
  as_trace (Err halt.Untold) (m, less, ms, plays, took) = let within : m + 1 ≤ n = omega (arith, less) in (m + 1, within, (ms, plays, took))

  pub as_timeline : (r : Result Unit Halt) → MatchResult r (λ _. timeline.IsShown g on n v w a b) (timeline.IsCutShort g early n v w a b)
      → MatchResult r (λ _. IsViewed names Timeline g words on n v w a b) (IsViewCut names Timeline g words early n v w a b)
  as_timeline (Ok _) (ms, plays, took) = (ms, plays, took)
  as_timeline (Err halt.NoMemory) (m, less, ms, plays, took) = (m, less, (ms, plays, took))
  as_timeline (Err halt.Untold) (m, less, ms, plays, took) = let within : m ≤ n = omega (arith, less) in (m, within, (ms, plays, took))

  pub as_picture : (r : Result Unit Halt) → MatchResult r (λ _. IsPictured g on n v w a b) (IsNotPictured g early n v w a b)
      → MatchResult r (λ _. IsViewed names Picture g words on n v w a b) (IsViewCut names Picture g words early n v w a b)
  as_picture (Ok _) (ms, plays, took) = (ms, plays, took)
  as_picture (Err halt.NoMemory) ((m, less, ms, plays), same) = (m, less, (ms, plays, subst (λ (s : SinkState). TookAll a s []) (sym same) (took-nothing a)))
  as_picture (Err halt.Untold) (ms, plays, took) = let all : n ≤ n = omega arith in (n, all, (ms, plays, took))

  pub as_page : (r : Result Unit Halt) → MatchResult r (λ _. IsPaged names g words on n v w a b) (IsPagedInPart names g words early n v w a b)
      → MatchResult r (λ _. IsViewed names Page g words on n v w a b) (IsViewCut names Page g words early n v w a b)
  as_page (Ok _) (ms, plays, took) = (ms, plays, took)
  as_page (Err halt.NoMemory) (m, less, ms, plays, took) = (m, less, (ms, plays, took))
  as_page (Err halt.Untold) (m, less, ms, plays, took) = let within : m ≤ n = omega (arith, less) in (m, within, (ms, plays, took))

-- a view that was put, and then written out, or not
module _ (names : Table) (view : View) (g : Geometry) (words : List ℕ) (on : Course) (n : ℕ) (v w : State) (a b c : SinkState) where
  pub flushed : IsViewed names view g words on n v w a b → Puts b c [] (Ok tt) → IsViewed names view g words on n v w a c
  flushed (ms, plays, took) out =
      let text : List ℕ = view_text names view g words v ms in
      (ms, plays, subst (λ (l : List ℕ). TookAll a c l) (append-nil text) (took-both a b c text [] took (record { whole = out.whole; clean = out.clean })))

  pub unflushed : (early : Course) (e : SinkFault) (path : Bor (List ℕ)) → ((ms : List Moment) → Plays g on n v ms w → Plays g early n v ms w) → IsViewed names view g words on n v w a b → Puts b c [] (Err e)
      → IsViewFault names view g words early n v w a c path (Unmade path)
  unflushed early e path still (ms, plays, took) out =
      let text : List ℕ = view_text names view g words v ms in
      let all : n ≤ n = omega arith in
      inr (refl, (n, all, (ms, still ms plays, subst (λ (l : List ℕ). TookPart a c l) (append-nil text) (took-then-part a b c text [] took (record { part = out.part; fault = out.fault })))))
