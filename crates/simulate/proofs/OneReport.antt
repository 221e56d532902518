-- Two runs of one file by one schedule give one report.
use Rattle.std.proofs.Common.{◌≡◌, ◌<◌, ◌≤◌, ◌+◌, ◌-◌, ◌⊎◌, ◌++◌, ◌∙◌, ℕ, Some, None, List, [], ◌∷◌, map, inl, inr, arith, refl, sym, ap, subst}
use Rattle.flat.specs.State.{Flat}
use Rattle.flat.specs.Steps.{IsRun}
use Rattle.flat.proofs.Determined.{one_last}
use Rattle.loader.specs.Programs.{Program}
use Rattle.protocol.specs.Caches.{Geometry}
use Rattle.protocol.specs.Machine.{Machine}
use Rattle.machine.specs.States.{State, setting_of}
use Rattle.machine.specs.Twins.{AreTwins}
use Rattle.machine.proofs.Twins.{twins_first}
use Rattle.command_line.specs.declared.request.Run.{Run}
use Rattle.command_line.specs.declared.request.Setup.{Setup}
use Rattle.command_line.specs.declared.request.Show.{Show}
use Rattle.command_line.specs.declared.request.Show.TheVariants as shows
use Rattle.command_line.specs.declared.request.View.{View}
use Rattle.command_line.specs.declared.request.View.TheVariants as views
use Rattle.disassembler.specs.Tables.{Table}
use Rattle.render.specs.Reports.{report_of}
use Rattle.render.specs.Statuses.{status_for, IsGreatest, IsStatusOf}
use Rattle.schedule.specs.declared.choices.Choice.{Choice}
use Rattle.schedule.specs.Courses.{Behind, Turns, Chance, IsTold}
use Rattle.schedule.specs.Moments.{Moment, entries_of}
use Rattle.schedule.specs.Runs.{Goes}
use Rattle.schedule.specs.Twins.{AreTwinRuns}
use Rattle.schedule.proofs.OneRun.{run_once, same_entries}
use Rattle.watch.proofs.OneCount.{same_number, same_figures}
use Rattle.pages.proofs.OnePage.{same_page}
use Rattle.watch.specs.Traces.{line_if, trace_of}
use Rattle.timeline.specs.Events.{events_before, events_behind, events_from, slice_event, arrival_event, sent_events, next_time}
use Rattle.timeline.specs.Marks.{lane_of, label_of, edge_of}
use Rattle.timeline.specs.Timelines.{opening, closing}
use Rattle.timeline.specs.Drawings.{drawn}
use Rattle.timeline.specs.Rows.{rows_from}
use Rattle.simulate.specs.Given.{AreTextsOf, IsGiven}
use Rattle.simulate.specs.Counted.{counts_text}
use Rattle.requests.specs.Runs.{ComesBy, addresses}
use Rattle.requests.specs.Outputs.{Texts, Sinks, TakeAll}
use Rattle.simulate.specs.Shown.{shown_texts, view_text}
use Rattle.requests.specs.Sources.{names_in}
use Rattle.requests.specs.Starts.{IsFirstOf, flat_start}
use Rattle.requests.proofs.Determined.{one_in_file}

-- The run

-- lines spell one list of choices
pub one_list : (cs ds : List Choice) → map Some cs ≡ map Some ds → cs ≡ ds
one_list [] [] same = refl
one_list [] (d ∷ ds) same = absurd (cc)
one_list (c ∷ cs) [] same = absurd (cc)
one_list (c ∷ cs) (d ∷ ds) same =
    let first : c ≡ d = cc in
    let rest : cs ≡ ds = one_list cs ds cc in
    λ i. first i ∷ rest i

goes_once : (g : Geometry) (behind : Behind) (choices : List Choice) (n : ℕ) (v w u x : State) (after : ℕ) (ms ns : List Moment) → IsTold behind → AreTwins g v w
    → Goes behind g choices n v after ms u → Goes behind g choices n w after ns x → AreTwinRuns g ms ns
goes_once g Turns choices n v w u x after ms ns told twins one other = (run_once g None choices n v w u x after ms ns twins one other).0
goes_once g (Chance None) choices n v w u x after ms ns told twins one other = absurd told
goes_once g (Chance (Some chosen)) choices n v w u x after ms ns told twins one other = (run_once g (Some chosen) choices n v w u x after ms ns twins one other).0

module _ (g : Geometry) (setup : Setup) (behind : Behind) (file list : List ℕ) (steps : ℕ) (told : IsTold behind) (ms ns : List Moment) (f h : Flat)
    (one : ComesBy g setup behind file list steps ms f) (other : ComesBy g setup behind file list steps ns h) where
  program_is : other.program ≡ one.program
  program_is = one_in_file setup.file.now file one.program other.program one.holds other.holds

  twins : AreTwins g one.first other.first
  twins =
      let begins = subst (λ (p : Program). IsFirstOf g p setup other.first) program_is other.begins in
      twins_first g one.first other.first (one.begins.begins ∙ sym begins.begins) one.begins.unused begins.unused

  choices_are : other.choices ≡ one.choices
  choices_are = one_list other.choices one.choices (other.chosen.1 ∙ sym one.chosen.1)

  pub twin_runs : AreTwinRuns g ms ns
  twin_runs =
      let last : (setting_of other.first).count - 1 ≡ (setting_of one.first).count - 1 = ap (λ (m : Machine). m.setting.count - 1) (sym twins.machine) in
      goes_once g behind one.choices steps one.first other.first one.last other.last ((setting_of one.first).count - 1) ms ns told twins one.made
      (subst (λ (cs : List Choice). Goes behind g cs steps other.first ((setting_of one.first).count - 1) ns other.last) choices_are
      (subst (λ (after : ℕ). Goes behind g other.choices steps other.first after ns other.last) last other.made))

  pub one_flat : f ≡ h
  one_flat = one_last (flat_start one.program setup) f h (entries_of ms) one.run
      (subst (λ (es : List _). IsRun (flat_start one.program setup) es h) (sym (same_entries g ms ns twin_runs))
      (subst (λ (p : Program). IsRun (flat_start p setup) (entries_of ns) h) program_is other.run))

-- The report

one_greatest : (f : Flat) (n s t : ℕ) → IsGreatest f n s → IsGreatest f n t → t ≡ s
one_greatest f n s t one other =
    let below : s ≤ t = least one.reached other in
    let above : t ≤ s = least other.reached one in
    omega (arith, below, above)
  where
    least : {a b : ℕ} → (a ≡ 0) ⊎ ((i : ℕ) × (i < n) × (status_for (f.hart i).status ≡ a)) → IsGreatest f n b → a ≤ b
    least (inl zero) greatest = omega (arith, zero)
    least (inr (i, within, is)) greatest = let bound = greatest.bound i within in omega (arith, bound, is)

-- What is shown

module _ (g : Geometry) where
  same_trace : (names : Table) (ms ns : List Moment) → AreTwinRuns g ms ns → trace_of names ms ≡ trace_of names ns
  same_trace names [] [] twin = refl
  same_trace names [] (n ∷ ns) twin = absurd twin
  same_trace names (m ∷ ms) [] twin = absurd twin
  same_trace names (m ∷ ms) (n ∷ ns) (first, rest) = λ i. line_if names (first.entry i) ++ same_trace names ms ns rest i

  same_rows : (number : ℕ) (ms ns : List Moment) → AreTwinRuns g ms ns → rows_from g.sets number ms ≡ rows_from g.sets number ns
  same_rows number [] [] twin = refl
  same_rows number [] (n ∷ ns) twin = absurd twin
  same_rows number (m ∷ ms) [] twin = absurd twin
  same_rows number (m ∷ ms) (n ∷ ns) (first, rest) = λ i. record {
    number = number;
    sent = first.sent i;
    sent_behind = first.after.sent i;
    step = first.step i;
    arrival = first.arrival i;
    entry = first.entry i;
    edge = edge_of (first.entry i) (first.after.machine i);
  } ∷ same_rows (number + 1) ms ns rest i

  same_events : (time : ℕ) (ms ns : List Moment) → AreTwinRuns g ms ns → events_from g.sets time ms ≡ events_from g.sets time ns
  same_events time [] [] twin = refl
  same_events time [] (n ∷ ns) twin = absurd twin
  same_events time (m ∷ ms) [] twin = absurd twin
  same_events time (m ∷ ms) (n ∷ ns) (first, rest) =
      let lane : lane_of m.step m.arrival ≡ lane_of n.step n.arrival = λ i. lane_of (first.step i) (first.arrival i) in
      let sent : sent_events time (lane_of n.step n.arrival) n.sent m.after.flights ≡ sent_events time (lane_of n.step n.arrival) n.sent n.after.flights =
      ap (sent_events time (lane_of n.step n.arrival) n.sent) first.after.flights in
      let all : sent_events time (lane_of m.step m.arrival) m.sent m.after.flights ≡ sent_events time (lane_of n.step n.arrival) n.sent n.after.flights =
      (λ i. sent_events time (lane i) (first.sent i) m.after.flights) ∙ sent in
      λ i. (events_before time (lane i) (edge_of (first.entry i) (first.after.machine i)) ++ (slice_event time (lane i) (label_of (first.step i) (first.arrival i) (first.entry i))
      ++ (arrival_event time (lane i) (first.arrival i) ++ (all i ++ events_behind time (lane i) (edge_of (first.entry i) (first.after.machine i))))))
      ++ same_events (next_time time) ms ns rest i

  same_view : (names : Table) (view : View) (words : List ℕ) (v w : State) (ms ns : List Moment) → AreTwins g v w → AreTwinRuns g ms ns
      → view_text names view g words v ms ≡ view_text names view g words w ns
  same_view names views.Trace words v w ms ns first twin = same_trace names ms ns twin
  same_view names views.Timeline words v w ms ns first twin = λ i. opening (first.machine i).setting.count ++ (same_events 0 ms ns twin i ++ closing)
  same_view names views.Picture words v w ms ns first twin = λ i. drawn (first.machine i).setting.count (same_rows 0 ms ns twin i)
  same_view names views.Page words v w ms ns first twin = same_page names g words v w ms ns first twin

  same_texts : (names : Table) (show : Show) (words : List ℕ) (v w : State) (ms ns : List Moment) (report : List ℕ) → AreTwins g v w → AreTwinRuns g ms ns
      → shown_texts names show g words v ms report ≡ shown_texts names show g words w ns report
  same_texts names shows.Report words v w ms ns report first twin = refl
  same_texts names (shows.Counts form) words v w ms ns report first twin = λ i. record {
    output = [] ++ (report ++ counts_text form (λ h k. same_number g h k ms ns twin i) (first.machine i).setting.count (same_figures g ms ns twin i));
    file = [];
  }
  same_texts names shows.Trace words v w ms ns report first twin = λ i. record { output = same_trace names ms ns twin i ++ (report ++ []); file = [] }
  same_texts names (shows.View view path) words v w ms ns report first twin = λ i. record { output = [] ++ (report ++ []); file = same_view names view words v w ms ns first twin i }

module _ (g : Geometry) (run : Run) (behind : Behind) (show : Show) (file list : List ℕ) (told : IsTold behind) where
  pub texts_once : (t u : Texts) (s r : ℕ) → AreTextsOf g run behind show file list t s → AreTextsOf g run behind show file list u r → (r ≡ s) × (u ≡ t)
  texts_once t u s r (ms, f, one, (report, is_report, texts)) (ns, h, other, (report_too, is_report_too, texts_too)) =
      let words = addresses run.words.items in
      let names = names_in run.setup.file.now file in
      let twin = twin_runs g run.setup behind file list run.steps told ms ns f h one other in
      let end : h ≡ f = sym (one_flat g run.setup behind file list run.steps told ms ns f h one other) in
      let begin = twins g run.setup behind file list run.steps told ms ns f h one other in
      let reports : report_too ≡ report = is_report_too.text ∙ (ap (λ (e : Flat). report_of e words) end ∙ sym is_report.text) in (
        one_greatest f f.setting.count s r is_report.status (subst (λ (e : Flat). IsStatusOf e r) end is_report_too.status),
        texts_too ∙ (ap (λ (r : List ℕ). shown_texts names show g words other.first ns r) reports ∙ (sym (same_texts g names show words one.first other.first ms ns report begin twin) ∙ sym texts)),
      )

pub given_once : (g : Geometry) (run : Run) (behind : Behind) (show : Show) (file list : List ℕ) (before after earlier later : Sinks) (status other : ℕ) → IsTold behind
    → IsGiven g run behind show file list before after status → IsGiven g run behind show file list earlier later other
    → (other ≡ status) × ((texts : Texts) × TakeAll before after texts × TakeAll earlier later texts)
given_once g run behind show file list before after earlier later status other told (goes, (texts, are, took)) (goes_too, (texts_too, are_too, took_too)) =
    let once = texts_once g run behind show file list told texts texts_too status other are are_too in
    (once.0, (texts, took, subst (λ (x : Texts). TakeAll earlier later x) once.1 took_too))
