-- Where a run has come to, from what its parts answered.
use Rattle.std.proofs.Common.{◌≡◌, ℕ, List, [], refl, ap, sym, subst, ◌∙◌}
use Rattle.protocol.specs.Caches.{Geometry}
use Rattle.table.specs.Program.{AreBytes}
use Rattle.flat.specs.State.{Flat}
use Rattle.flat.proofs.Runs.{run_setting}
use Rattle.command_line.specs.declared.request.Run.{Run}
use Rattle.isolation.specs.Belongs.{Belongs, BelongsAfter}
use Rattle.isolation.proofs.Belongs.Belonging.{inv_of}
use Rattle.isolation.proofs.Leading.{starts_unled, bytes_of}
use Rattle.machine.specs.States.{State, setting_of, shown}
use Rattle.schedule.specs.declared.choices.Choice.{Choice}
use Rattle.schedule.specs.Courses.{Behind, course}
use Rattle.schedule.specs.Moments.{Moment, entries_of}
use Rattle.schedule.specs.Runs.{Plays}
use Rattle.render.specs.Reports.{AllReadable, report_of}
use Rattle.requests.specs.Begins.{IsBegunBy}
use Rattle.requests.specs.Runs.{addresses, ComesBy, IsReport}
use Rattle.requests.specs.Starts.{flat_start}
use Rattle.render.specs.Statuses.{IsStatusOf}
use Rattle.requests.proofs.Reading.{readable-stays}

-- a flat state that belongs to a machine has its setting
pub same_setting : (g : Geometry) (f : Flat) (m : State) → Belongs g f (shown g.sets m) → f.setting ≡ setting_of m
same_setting g f m b = (inv_of g f (shown g.sets m) b).1.same

-- a run that has begun, and made so many steps, has an end: a flat state belongs to its machine to which its entries lead
pub record HasEnd (g : Geometry) (run : Run) (b : Behind) (file list : List ℕ) (steps : ℕ) (moments : List Moment) (v w : State) : Type 0 where
  pub end : Flat
  pub comes : ComesBy g run.setup b file list steps moments end
  pub first : comes.first ≡ v
  pub belongs : Belongs g end (shown g.sets w)
  pub same : end.setting ≡ setting_of v

module _ (g : Geometry) (run : Run) (b : Behind) (file list : List ℕ) (v : State) (addrs : List ℕ) (choices followed : List Choice) (begun : IsBegunBy g run file list v addrs choices) (same : followed ≡ choices) where
  pub end_of : (steps : ℕ) (moments : List Moment) (w : State) → Plays g (course followed b) steps v moments w → HasEnd g run b file list steps moments v w
  end_of steps moments w plays =
      let start = begun.starts in
      let booting : Flat = flat_start start.program run.setup in
      let as_chosen : Plays g (course choices b) steps v moments w = subst (λ (cs : List Choice). Plays g (course cs b) steps v moments w) same plays in
      let bytes : AreBytes start.program.segments = bytes_of g booting booting.setting start.program.entry (shown g.sets v) start.first.begins start.belongs in
      let unled : BelongsAfter g [] booting (shown g.sets v) = subst (BelongsAfter g [] booting) (sym start.first.begins) (starts_unled g booting.setting start.program.entry bytes) in
      let carried = as_chosen.1 [] booting unled in
      record {
        end = carried.0;
        comes = record { program = start.program; holds = start.holds; first = v; begins = start.first; choices = choices; chosen = begun.chosen; last = w; made = as_chosen.0; run = carried.1; reasons = carried.2 };
        first = refl;
        belongs = carried.3.0;
        same = run_setting booting carried.0 (entries_of moments) carried.1 ∙ same_setting g booting v start.belongs;
      }

  -- the words can still be read in it
  module _ (words : List ℕ) (as_given : words ≡ addrs) (moments : List Moment) (w : State) (e : HasEnd g run b file list run.steps moments v w) where
    asked : words ≡ addresses run.words.items
    asked = as_given ∙ begun.same

    readable_at_end : AllReadable e.end.setting words
    readable_at_end = subst (λ (l : List ℕ). AllReadable e.end.setting l) (sym asked) (readable-stays (setting_of v) e.end.setting (addresses run.words.items) e.same begun.readable)

    pub still_readable : AllReadable (setting_of w) words
    still_readable = readable-stays e.end.setting (setting_of w) words (sym (same_setting g e.end w e.belongs)) readable_at_end

    -- what is put of it is the run's report
    pub its_report : (status : ℕ) → IsStatusOf e.end status → IsReport e.end run.words.items (report_of e.end words) status
    its_report status given = record { readable = subst (λ (l : List ℕ). AllReadable e.end.setting l) asked readable_at_end; text = ap (report_of e.end) asked; status = given }
