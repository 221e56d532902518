-- A run by chance whose history is written behind it.
use Rattle.std.proofs.Common.{◌≡◌, ◌++◌, ◌∙◌, ℕ, List, [], Some, inr, refl, ap, subst, take}
use Rattle.std.specs.Borrow.{Bor}
use Rattle.words.specs.Sinks.{SinkState, TookAll, TookPart}
use Rattle.command_line.specs.declared.request.Print.{Print}
use Rattle.command_line.specs.declared.request.Print.TheVariants as print
use Rattle.command_line.specs.declared.request.Run.{Run}
use Rattle.command_line.specs.Runs.{shown}
use Rattle.disassembler.specs.Tables.{Table}
use Rattle.protocol.specs.Caches.{Geometry}
use Rattle.machine.specs.States.{State}
use Rattle.schedule.specs.declared.choices.Choice.{Choice}
use Rattle.schedule.specs.Courses.{Chance}
use Rattle.schedule.specs.Moments.{Moment}
use Rattle.schedule.specs.Written.{text_of}
use Rattle.texts.proofs.Putting.{took-both, took-then-part}
use Rattle.simulate.specs.Given.{AreTextsOf, IsGiven}
use Rattle.simulate.specs.Kept.{IsGivenAndKept, IsNotGivenOrKept, IsOfHistory}
use Rattle.requests.specs.Runs.{addresses}
use Rattle.requests.specs.Schedules.{AreChosenBy}
use Rattle.requests.specs.Sources.{names_in}
use Rattle.requests.specs.Outputs.{Sinks, Texts}
use Rattle.simulate.specs.Shown.{shown_texts}
use Rattle.requests.specs.declared.fault.Fault.{Fault}
use Rattle.requests.specs.declared.fault.Fault.TheVariants.{Unmade}

-- nothing is shown in a file
by_print : (names : Table) (p : Print) (g : Geometry) (words : List ℕ) (first : State) (ms : List Moment) (report : List ℕ) → (shown_texts names (shown p) g words first ms report).file ≡ []
by_print names print.Report g words first ms report = refl
by_print names (print.Counts stats) g words first ms report = refl
by_print names print.Trace g words first ms report = refl

module _ (g : Geometry) (run : Run) (p : Print) (path : Bor (List ℕ)) (file list : List ℕ) (chosen choices : List Choice) (are : AreChosenBy list choices) (before middle : Sinks) (status : ℕ)
    (given : IsGiven g run (Chance (Some chosen)) (shown p) file list before middle status) (page : SinkState) where
  abbrev texts : Texts
  texts = given.1.0

  abbrev history : List ℕ
  history = text_of (take run.steps choices ++ chosen)

  abbrev after : Sinks
  after = record { output = middle.output; file = page }

  none_yet : TookAll before.file middle.file []
  none_yet =
      let of : AreTextsOf g run (Chance (Some chosen)) (shown p) file list texts status = given.1.1 in
      let none : texts.file ≡ [] = ap (λ (t : Texts). t.file) of.3.2 ∙ by_print (names_in run.setup.file.now file) p g (addresses run.words.items) of.2.first of.0 of.3.0 in
      subst (λ (l : List ℕ). TookAll before.file middle.file l) none given.1.2.file

  of_history : IsOfHistory g run p path file list before after texts status history
  of_history = record { chosen = chosen; texts_of = given.1.1; history_of = (choices, are, refl) }

  pub kept : TookAll middle.file page history → IsGivenAndKept g run p path file list before after status
  kept took = (given.0, (texts, history, of_history, given.1.2.output, took-both before.file middle.file page [] history none_yet took))

  pub unkept : (fault : Fault) → fault ≡ Unmade path → TookPart middle.file page history → IsNotGivenOrKept g run p path file list before after fault
  unkept fault is took = inr (is, (texts, status, history, of_history, given.1.2.output, took-then-part before.file middle.file page [] history none_yet took))
