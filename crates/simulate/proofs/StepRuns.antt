-- A run by turns or by chance, from what its parts came to.
use Rattle.std.proofs.Common.{◌≡◌, ◌++◌, ℕ, List, Some, None, Result, Ok, Err, MatchResult, inl, inr, refl, sym, subst, ap, ap₂, ◌∙◌}
use Rattle.words.specs.Sinks.{SinkState, TookAll, TookPart}
use Rattle.command_line.specs.declared.request.Run.{Run}
use Rattle.command_line.specs.declared.request.Show.{Show}
use Rattle.command_line.specs.declared.request.Show.TheVariants as shows
use Rattle.command_line.specs.declared.request.Stats.{Stats}
use Rattle.command_line.specs.declared.request.Stats.TheVariants.{Table, Csv}
use Rattle.protocol.specs.Caches.{Geometry}
use Rattle.flat.specs.State.{Flat, Setting}
use Rattle.command_line.specs.declared.request.Setup.{Setup}
use Rattle.requests.specs.Runs.{ComesBy, addresses}
use Rattle.machine.specs.States.{State, setting_of}
use Rattle.schedule.specs.declared.choices.Choice.{Choice}
use Rattle.schedule.specs.Courses.{Behind, Turns, Chance, course, forgotten}
use Rattle.schedule.specs.Moments.{Moment}
use Rattle.schedule.specs.Runs.{Plays}
use Rattle.watch.specs.declared.counting.Tally.{Tally}
use Rattle.watch.specs.Kinds.{count_at, number_of}
use Rattle.watch.specs.Traffic.{figure_at, figure_of}
use Rattle.watch.specs.Runs.{IsTally}
use Rattle.watch.proofs.SameTexts.{same_table, same_csv, same_machine_table, same_machine_lines}
use Rattle.texts.proofs.Putting.{took-both, took-then-part, took-part-longer}
use Rattle.requests.specs.Begins.{IsBegunBy, IsUnbegun}
use Rattle.requests.specs.Conclusions.{IsConcluded, IsHalfConcluded}
use Rattle.simulate.specs.Counted.{AreCounts, IsEnded, IsHalfEnded, behind_report, counts_part, counts_text}
use Rattle.simulate.specs.Given.{AreTextsOf, IsGiven, IsNotGiven}
use Rattle.render.specs.Reports.{AllReadable, report_of}
use Rattle.requests.specs.Sources.{names_in}
use Rattle.requests.specs.Outputs.{Texts, Sinks, TakeAll}
use Rattle.simulate.specs.Shown.{IsShown, IsCutShort, shown_before, shown_so_far, shown_texts}
use Rattle.render.specs.Statuses.{IsStatusOf}
use Rattle.requests.specs.declared.fault.Fault.{Fault}
use Rattle.requests.specs.declared.fault.Fault.TheVariants.{Unwritten}
use Rattle.requests.proofs.Performing.{HasEnd, end_of, its_report, same_setting, still_readable}

-- a run that has not begun
pub not_begun : (g : Geometry) (run : Run) (b : Behind) (show : Show) (file list : List ℕ) (sinks : Sinks) (fault : Fault) → IsUnbegun run file list fault → IsNotGiven g run b show file list sinks sinks fault
not_begun g run b show file list sinks fault why = inl (why, refl, refl)

text_of : (form : Stats) (sets : ℕ) (ms : List Moment) (t : Tally) (harts : ℕ) → IsTally sets ms t → counts_text form (count_at t.harts) harts (figure_at t.machine) ≡ counts_text form (λ h k. number_of sets h k ms) harts (figure_of ms)
text_of Table sets ms t harts are =
    ap₂ (λ (a b : List ℕ). a ++ b) (same_table (count_at t.harts) (λ h k. number_of sets h k ms) are.harts harts) (same_machine_table (figure_at t.machine) (figure_of ms) are.machine)
text_of Csv sets ms t harts are =
    ap₂ (λ (a b : List ℕ). a ++ b) (same_csv (count_at t.harts) (λ h k. number_of sets h k ms) are.harts harts) (same_machine_lines (figure_at t.machine) (figure_of ms) are.machine)

-- the counts that were put are those of the moments
put_as : (s : Show) (sets : ℕ) (ms : List Moment) (t : Tally) (n m : ℕ) → AreCounts s sets ms t → n ≡ m → counts_part s t n ≡ behind_report s sets m ms
put_as shows.Report sets ms t n m are same = refl
put_as (shows.Counts form) sets ms t n m are same = text_of form sets ms t n are ∙ ap (λ (k : ℕ). counts_text form (λ h k. number_of sets h k ms) k (figure_of ms)) same
put_as shows.Trace sets ms t n m are same = refl
put_as (shows.View view path) sets ms t n m are same = refl

-- the choices of chance need not be told
forget_comes : (g : Geometry) (setup : Setup) (b : Behind) (file list : List ℕ) (steps : ℕ) (ms : List Moment) (f : Flat) → ComesBy g setup b file list steps ms f → ComesBy g setup (forgotten b) file list steps ms f
forget_comes g setup Turns file list steps ms f comes = comes
forget_comes g setup (Chance None) file list steps ms f comes = comes
forget_comes g setup (Chance (Some chosen)) file list steps ms f comes = record {
  program = comes.program;
  holds = comes.holds;
  first = comes.first;
  begins = comes.begins;
  choices = comes.choices;
  chosen = comes.chosen;
  last = comes.last;
  made = (chosen, comes.made);
  run = comes.run;
  reasons = comes.reasons;
}

forget_first : (g : Geometry) (setup : Setup) (b : Behind) (file list : List ℕ) (steps : ℕ) (ms : List Moment) (f : Flat) (comes : ComesBy g setup b file list steps ms f) → (forget_comes g setup b file list steps ms f comes).first ≡ comes.first
unfolding forget_comes
forget_first g setup Turns file list steps ms f comes = refl
forget_first g setup (Chance None) file list steps ms f comes = refl
forget_first g setup (Chance (Some chosen)) file list steps ms f comes = refl

module _ (g : Geometry) (run : Run) (b : Behind) (show : Show) (file list : List ℕ) (v w : State) (addrs : List ℕ) (choices followed : List Choice) (begun : IsBegunBy g run file list v addrs choices) (same : followed ≡ choices) where
  ends : (c : Behind) (steps : ℕ) (ms : List Moment) → Plays g (course followed c) steps v ms w → HasEnd g run c file list steps ms v w
  ends c steps ms plays = end_of g run c file list v addrs choices followed begun same steps ms w plays

  -- the words that are shown are those that are asked for
  module _ (watched : List ℕ) (as_begun : watched ≡ addrs) where
    asked_words : watched ≡ addresses run.words.items
    asked_words = as_begun ∙ begun.same

    -- its steps were not all made and shown
    pub cut_short : (before after : Sinks) (fault : Fault) → IsCutShort (names_in run.setup.file.now file) show g watched (course followed b) run.steps v w before after fault → IsNotGiven g run b show file list before after fault
    cut_short before after fault (inl (is, (m, less, (ms, plays, took)))) =
        let e = ends b m ms plays in
        let all = subst (λ (words : List ℕ). TakeAll before after (shown_so_far (names_in run.setup.file.now file) show g words v ms)) asked_words took in
        inr (inl (is, (m, less, (ms, e.end, e.comes, subst (λ (s : State). TakeAll before after (shown_so_far (names_in run.setup.file.now file) show g (addresses run.words.items) s ms)) (sym e.first) all))))
    cut_short before after fault (inr (inl (is, trace, (m, within, (ms, plays, part, kept))))) =
        let e = ends b m ms plays in
        let some = subst (λ (words : List ℕ). TookPart before.output after.output (shown_before (names_in run.setup.file.now file) show g words v ms).output) asked_words part in
        inr (inr (inl (is, trace, (m, within, (ms, e.end, e.comes, subst (λ (s : State). TookPart before.output after.output (shown_before (names_in run.setup.file.now file) show g (addresses run.words.items) s ms).output) (sym e.first) some, kept)))))
    cut_short before after fault (inr (inr (view, path, of, is, (m, within, (ms, plays, part, kept))))) =
        let e = ends b m ms plays in
        let some = subst (λ (words : List ℕ). TookPart before.file after.file (shown_before (names_in run.setup.file.now file) show g words v ms).file) asked_words part in
        inr (inr (inr (inl (view, path, of, is, (m, within, (ms, e.end, e.comes, subst (λ (s : State). TookPart before.file after.file (shown_before (names_in run.setup.file.now file) show g (addresses run.words.items) s ms).file) (sym e.first) some, kept))))))

  module _ (watched : List ℕ) (as_begun : watched ≡ addrs) (words : List ℕ) (as_given : words ≡ addrs) (counts : Tally) (before middle : Sinks)
      (shown_all : IsShown (names_in run.setup.file.now file) show g watched (course followed b) run.steps v w counts before middle) where
    abbrev ms : List Moment
    ms = shown_all.0

    e : HasEnd g run b file list run.steps ms v w
    e = ends b run.steps ms shown_all.1

    -- the machine at the end can be asked for the words
    pub readable_then : AllReadable (setting_of w) words
    readable_then = still_readable g run b file list v addrs choices followed begun same words as_given ms w e

    abbrev pre : Texts
    pre = shown_before (names_in run.setup.file.now file) show g (addresses run.words.items) e.comes.first ms

    taken : TakeAll before middle pre
    taken =
        let all = subst (λ (l : List ℕ). TakeAll before middle (shown_before (names_in run.setup.file.now file) show g l v ms)) (asked_words watched as_begun) shown_all.3 in
        subst (λ (s : State). TakeAll before middle (shown_before (names_in run.setup.file.now file) show g (addresses run.words.items) s ms)) (sym e.first) all

    abbrev report : List ℕ
    report = report_of e.end words

    abbrev whole : Texts
    whole = shown_texts (names_in run.setup.file.now file) show g (addresses run.words.items) e.comes.first ms report

    texts : (status : ℕ) → IsStatusOf e.end status → AreTextsOf g run b show file list whole status
    texts status of = (ms, e.end, e.comes, (report, its_report g run b file list v addrs choices followed begun same words as_given ms w e status of, refl))

    early_texts : (status : ℕ) → AreTextsOf g run b show file list whole status → AreTextsOf g run (forgotten b) show file list whole status
    early_texts status (ns, f, comes, (text, is_report, same_text)) =
        let first = forget_first g run.setup b file list run.steps ns f comes in (
          ns,
          f,
          forget_comes g run.setup b file list run.steps ns f comes,
          (
            text,
            is_report,
            subst (λ (s : State). whole ≡ shown_texts (names_in run.setup.file.now file) show g (addresses run.words.items) s ns text) (sym first) same_text,
          ),
        )

    -- a put of the report failed
    half_reported : (output : SinkState) (fault : Fault) → IsHalfConcluded g w words middle.output output fault
        → IsNotGiven g run (forgotten b) show file list before (record { output = output; file = middle.file }) fault
    half_reported output fault (unwritten, of) =
        let half = of e.end e.belongs in
        let behind = behind_report show g.sets (setting_of e.comes.first).count ms in
        let part = took-then-part before.output middle.output output pre.output (report ++ behind) taken.output (took-part-longer middle.output output report behind half.2) in
        inr (inr (inr (inr (unwritten, (whole, half.0, early_texts half.0 (texts half.0 half.1), part, taken.file)))))

    module _ (reported : SinkState) (status : ℕ) (concluded : IsConcluded g w words middle.output reported status) where
      abbrev of_end : IsStatusOf e.end status × TookAll middle.output reported report
      of_end = concluded.1 e.end e.belongs

      behind_as : counts_part show counts (setting_of w).count ≡ behind_report show g.sets (setting_of e.comes.first).count ms
      behind_as = put_as show g.sets ms counts (setting_of w).count (setting_of e.comes.first).count shown_all.2
          (ap (λ (s : Setting). s.count) (sym (same_setting g e.end w e.belongs) ∙ e.same) ∙ ap (λ (s : State). (setting_of s).count) (sym e.first))

      -- all was put
      given : (output : SinkState) → TookAll reported output (counts_part show counts (setting_of w).count)
          → IsGiven g run b show file list before (record { output = output; file = middle.file }) status
      given output took =
          let behind = behind_report show g.sets (setting_of e.comes.first).count ms in
          let last : TookAll reported output behind = subst (λ (text : List ℕ). TookAll reported output text) behind_as took in
          let all = took-both before.output middle.output output pre.output (report ++ behind) taken.output (took-both middle.output reported output report behind of_end.1 last) in
          (concluded.0, (whole, texts status of_end.0, record { output = all; file = taken.file }))

      -- a put of the counts failed
      half_counted : (output : SinkState) (fault : Fault) → fault ≡ Unwritten → TookPart reported output (counts_part show counts (setting_of w).count)
          → IsNotGiven g run (forgotten b) show file list before (record { output = output; file = middle.file }) fault
      half_counted output fault unwritten took =
          let behind = behind_report show g.sets (setting_of e.comes.first).count ms in
          let last : TookPart reported output behind = subst (λ (text : List ℕ). TookPart reported output text) behind_as took in
          let part = took-then-part before.output middle.output output pre.output (report ++ behind) taken.output (took-then-part middle.output reported output report behind of_end.1 last) in
          inr (inr (inr (inr (unwritten, (whole, status, early_texts status (texts status of_end.0), part, taken.file)))))

    -- what came of the report and the counts is what comes of the run
    pub ended : (output : SinkState) (r : Result ℕ Fault) → MatchResult r (IsEnded g w words show counts middle.output output) (IsHalfEnded g w words show counts middle.output output)
        → MatchResult r (IsGiven g run b show file list before (record { output = output; file = middle.file })) (IsNotGiven g run (forgotten b) show file list before (record { output = output; file = middle.file }))
    ended output (Ok status) (reported, concluded, took) = given reported status concluded output took
    ended output (Err fault) (inl half) = half_reported output fault half
    ended output (Err fault) (inr (unwritten, (reported, status, concluded, part))) = half_counted reported status concluded output fault unwritten part
