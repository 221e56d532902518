-- A history that a run by chance has written makes that run again.
use Rattle.std.proofs.Common.{◌≡◌, ◌<◌, ◌-◌, ◌^◌, ◌++◌, ◌∙◌, ℕ, Bool, true, false, cond, All, List, [], length, take, Some, None, arith, refl, sym, ap, subst}
use Rattle.std.specs.Borrow.{Bor}
use Rattle.std.proofs.lemmas.Bool.Decides.{nat_tests}
use Rattle.std.proofs.lemmas.List.Elements.{All-append, All-take}
use Rattle.words.specs.Sinks.{TookAll}
use Rattle.table.specs.Program.{Segment}
use Rattle.flat.specs.Boots.{boot_fault, is_size, is_count, fits_below}
use Rattle.flat.specs.declared.boot_fault.BootFault.TheVariants as boot
use Rattle.flat.specs.State.{Flat, Setting}
use Rattle.command_line.specs.declared.request.Print.{Print}
use Rattle.command_line.specs.declared.request.Run.{Run}
use Rattle.command_line.specs.declared.request.Setup.{Setup}
use Rattle.command_line.specs.Runs.{shown}
use Rattle.protocol.specs.Caches.{Geometry}
use Rattle.protocol.specs.Machine.{Machine}
use Rattle.machine.specs.States.{setting_of}
use Rattle.schedule.specs.declared.choices.Choice.{Choice}
use Rattle.schedule.specs.Courses.{Turns, Chance}
use Rattle.schedule.specs.Moments.{Moment}
use Rattle.schedule.specs.Runs.{Follows}
use Rattle.schedule.specs.Written.{text_of, IsReadable}
use Rattle.schedule.proofs.Again.{follows_again}
use Rattle.schedule.proofs.Readable.{spelled_readable, chosen_readable}
use Rattle.schedule.proofs.Texts.{is_text, are_spelled}
use Rattle.schedule.specs.Lines.{lines_of}
use Rattle.requests.specs.Outputs.{Texts, Sinks}
use Rattle.requests.specs.Runs.{ComesBy}
use Rattle.requests.specs.Schedules.{AreChosenBy, HasSteps}
use Rattle.simulate.specs.Given.{AreTextsOf, IsGiven}
use Rattle.simulate.specs.Kept.{IsGivenAndKept, IsHistoryOf, IsOfHistory}
use Rattle.simulate.specs.Threaded.{with_steps}
use Rattle.simulate.proofs.OneReport.{one_list, texts_once}
use Rattle.simulate.proofs.OneHistory.{whole_list, one_count}

-- a memory that a program is booted with has addresses
small_memory : (segments : List Segment) (n size : ℕ) → boot_fault segments n size ≡ None → size < 2 ^ 32
small_memory segments n size boots = small (passed (is_size size) (is_count n) (fits_below size n segments) boots)
  where
    passed : (a b c : Bool) → cond a (cond b (cond c None (Some boot.DoesNotFit)) (Some boot.BadHarts)) (Some boot.BadSize) ≡ None → a ≡ true
    passed true b c e = refl
    passed false b c e = cc

    small : is_size size ≡ true → size < 2 ^ 32
    small is = grind (arith, nat_tests)

module _ (g : Geometry) (setup : Setup) (file list history : List ℕ) (steps n : ℕ) (chosen : List Choice) (ms : List Moment) (f : Flat)
    (comes : ComesBy g setup (Chance (Some chosen)) file list steps ms f) (is_history : IsHistoryOf steps list chosen history) (counted : HasSteps history n) where
  -- the choices that were made
  abbrev choices : List Choice
  choices = take steps comes.choices ++ chosen

  spells : history ≡ text_of choices
  spells =
      let same : is_history.0 ≡ comes.choices = one_list is_history.0 comes.choices (is_history.1.1 ∙ sym comes.chosen.1) in
      is_history.2 ∙ ap (λ (cs : List Choice). text_of (take steps cs ++ chosen)) same

  -- each has a line that can be read again
  made_readable : All IsReadable choices
  made_readable =
      let small : (setting_of comes.first).size < 2 ^ 32 =
      subst (λ (s : Setting). s.size < 2 ^ 32) (sym (ap (λ (m : Machine). m.setting) comes.begins.begins)) (small_memory comes.program.segments setup.harts setup.memory comes.begins.boots) in
      All-append IsReadable (take steps comes.choices) chosen (All-take IsReadable steps comes.choices (spelled_readable (lines_of list) comes.choices comes.chosen.1))
      (chosen_readable g comes.choices chosen steps comes.first ((setting_of comes.first).count - 1) ms comes.last small comes.made)

  are_chosen : AreChosenBy history choices
  are_chosen = subst (λ (l : List ℕ). AreChosenBy l choices) (sym spells) (is_text choices made_readable, are_spelled choices made_readable)

  -- so the history is a schedule that makes the run
  replay : ComesBy g setup Turns file history n ms f
  replay =
      let count : length choices ≡ n = one_count history (length choices) n (choices, are_chosen, refl) counted in record {
        program = comes.program;
        holds = comes.holds;
        first = comes.first;
        begins = comes.begins;
        choices = choices;
        chosen = are_chosen;
        last = comes.last;
        made = subst (λ (k : ℕ). Follows g choices k comes.first ((setting_of comes.first).count - 1) ms comes.last) count
            (follows_again g comes.choices chosen steps comes.first ((setting_of comes.first).count - 1) ms comes.last comes.made);
        run = comes.run;
        reasons = comes.reasons;
      }

-- so the texts of the run are those of the schedule
pub replayed : (g : Geometry) (run : Run) (print : Print) (path : Bor (List ℕ)) (file list history : List ℕ) (n : ℕ) (before after : Sinks) (texts : Texts) (status : ℕ) → HasSteps history n
    → IsOfHistory g run print path file list before after texts status history → AreTextsOf g (with_steps run n) Turns (shown print) file history texts status
unfolding replay
replayed g run print path file list history n before after texts status counted of =
    let are : AreTextsOf g run (Chance (Some of.chosen)) (shown print) file list texts status = of.texts_of in
    (are.0, are.1, replay g run.setup file list history run.steps n of.chosen are.0 are.1 are.2 of.history_of counted, are.3)

pub kept_once : (g : Geometry) (run : Run) (print : Print) (path : Bor (List ℕ)) (file list history : List ℕ) (n : ℕ) (before after earlier later : Sinks) (status other : ℕ)
    → before.file.taken ≡ Some [] → after.file.taken ≡ Some history → HasSteps history n
    → IsGivenAndKept g run print path file list before after status → IsGiven g (with_steps run n) Turns (shown print) file history earlier later other
    → (other ≡ status) × ((text : List ℕ) × TookAll before.output after.output text × TookAll earlier.output later.output text)
kept_once g run print path file list history n before after earlier later status other empty all counted (reported, (texts, written, of, took, kept)) (reported_too, (texts_too, are_too, took_too)) =
    let same : written ≡ history = whole_list before.file after.file written history empty all kept in
    let as_kept : IsOfHistory g run print path file list before after texts status history = subst (λ (l : List ℕ). IsOfHistory g run print path file list before after texts status l) same of in
    let first = replayed g run print path file list history n before after texts status counted as_kept in
    let once = texts_once g (with_steps run n) Turns (shown print) file history tt texts texts_too status other first are_too in
    (once.0, (texts.output, took, subst (λ (t : Texts). TookAll earlier.output later.output t.output) once.1 took_too.output))
