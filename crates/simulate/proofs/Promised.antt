-- Every report is of a run of the flat machine.
use Rattle.std.proofs.Common.{◌≡◌, ℕ, List, Option, Some, refl, subst}
use Rattle.std.specs.Borrow.{Bor}
use Rattle.words.specs.Sinks.{TookAll}
use Rattle.flat.specs.State.{Flat}
use Rattle.flat.proofs.Serial.{as_if_alone}
use Rattle.protocol.specs.Caches.{Geometry}
use Rattle.command_line.specs.declared.request.Print.{Print}
use Rattle.command_line.specs.declared.request.Run.{Run}
use Rattle.command_line.specs.declared.request.Show.{Show}
use Rattle.command_line.specs.declared.request.Show.TheVariants.{Report}
use Rattle.command_line.specs.Runs.{shown}
use Rattle.schedule.specs.declared.choices.Choice.{Choice}
use Rattle.schedule.specs.Courses.{Behind, Turns, Chance, IsTold}
use Rattle.schedule.specs.Moments.{Moment}
use Rattle.requests.specs.Outputs.{Texts, Sinks}
use Rattle.requests.specs.Runs.{ComesBy, addresses}
use Rattle.requests.specs.Schedules.{HasSteps}
use Rattle.requests.specs.Sources.{names_in}
use Rattle.requests.specs.Starts.{flat_start}
use Rattle.simulate.specs.Given.{AreTextsOf, IsGiven}
use Rattle.simulate.specs.Kept.{IsGivenAndKept, IsHistoryOf}
use Rattle.simulate.specs.Promise.{IsPromised, IsReached}
use Rattle.simulate.specs.Shown.{shown_texts}
use Rattle.simulate.specs.Threaded.{IsGivenInThreads, history_text, with_steps}
use Rattle.simulate.proofs.OneReport.{texts_once}

module _ (g : Geometry) (run : Run) (behind : Behind) (show : Show) (file list : List ℕ) where
  abbrev reached : (ms : List Moment) (f : Flat) → ComesBy g run.setup behind file list run.steps ms f → IsReached g run behind file list ms f
  reached ms f comes = record {
    comes = comes;
    serial = λ before its after i u v is runs attempt. as_if_alone (flat_start comes.program run.setup).setting comes.program.entry before i u v its runs attempt;
  }

  -- the texts that are shown have the report in them
  texts_promised : (before after : Sinks) (texts : Texts) (status : ℕ) → AreTextsOf g run behind show file list texts status → TookAll before.output after.output texts.output
      → IsPromised g run behind show file list before after status
  texts_promised before after texts status (ms, f, comes, (report, is_report, is)) took =
      (ms, f, reached ms f comes, (report, is_report, subst (λ (t : Texts). TookAll before.output after.output t.output) is took))

  pub given_promised : (before after : Sinks) (status : ℕ) → IsGiven g run behind show file list before after status → IsPromised g run behind show file list before after status
  given_promised before after status (reported, (texts, are, took)) = texts_promised before after texts status are took.output

  -- and what is promised of two runs whose choices are told is one text
  pub promised_once : (before after earlier later : Sinks) (status other : ℕ) → IsTold behind → IsPromised g run behind show file list before after status
      → IsPromised g run behind show file list earlier later other → (other ≡ status) × ((text : List ℕ) × TookAll before.output after.output text × TookAll earlier.output later.output text)
  promised_once before after earlier later status other told (ms, f, one, (report, is_report, took)) (ns, h, two, (report_too, is_report_too, took_too)) =
      let names = names_in run.setup.file.now file in
      let words = addresses run.words.items in
      let texts : Texts = shown_texts names show g words one.comes.first ms report in
      let texts_too : Texts = shown_texts names show g words two.comes.first ns report_too in
      let once = texts_once g run behind show file list told texts texts_too status other (ms, f, one.comes, (report, is_report, refl)) (ns, h, two.comes, (report_too, is_report_too, refl)) in
      (once.0, (texts.output, took, subst (λ (t : Texts). TookAll earlier.output later.output t.output) once.1 took_too))

pub kept_promised : (g : Geometry) (run : Run) (print : Print) (path : Bor (List ℕ)) (file list : List ℕ) (before after : Sinks) (status : ℕ)
    → IsGivenAndKept g run print path file list before after status
    → (chosen : List Choice) × ((history : List ℕ) × IsHistoryOf run.steps list chosen history × TookAll before.file after.file history)
    × IsPromised g run (Chance (Some chosen)) (shown print) file list before after status
kept_promised g run print path file list before after status (reported, (texts, history, of, took, kept)) = (
  of.chosen,
  (history, of.history_of, kept),
  texts_promised g run (Chance (Some of.chosen)) (shown print) file list before after texts status of.texts_of took,
)

pub threads_promised : (g : Geometry) (run : Run) (history : Option (Bor (List ℕ))) (file : List ℕ) (before after : Sinks) (status : ℕ)
    → IsGivenInThreads g run history file before after status
    → (list : List ℕ) × (n : ℕ) × HasSteps list n × TookAll before.file after.file (history_text history list) × IsPromised g (with_steps run n) Turns Report file list before after status
threads_promised g run history file before after status (reported, (list, n, counted, texts, are, turns, took, kept)) =
    (list, n, counted, kept, texts_promised g (with_steps run n) Turns Report file list before after texts status are took)
