-- A history is played again.
use Rattle.std.proofs.Common.{◌≡◌, ◌-◌, ◌∙◌, ℕ, List, length, None, sym, ap, subst}
use Rattle.words.specs.declared.entry.Entry.{Entry}
use Rattle.loader.specs.Programs.{Program}
use Rattle.protocol.specs.Caches.{Geometry}
use Rattle.protocol.specs.Machine.{Machine}
use Rattle.protocol.specs.Start.{start}
use Rattle.machine.specs.States.{State, setting_of, shown}
use Rattle.machine.specs.Twins.{AreTwins}
use Rattle.machine.specs.Unused.{IsUnused}
use Rattle.machine.proofs.Twins.{twins_first}
use Rattle.schedule.specs.declared.choices.Choice.{Choice}
use Rattle.schedule.specs.Moments.{Moment, entries_of}
use Rattle.schedule.specs.Runs.{Follows}
use Rattle.schedule.specs.Twins.{AreTwinRuns}
use Rattle.schedule.proofs.OneRun.{run_once, same_entries}
use Rattle.board.specs.Histories.{IsCourse, first_flat}

module _ (g : Geometry) (p : Program) (n size : ℕ) (choices : List Choice) (es : List Entry) (m first w : State) (ms : List Moment) (course : IsCourse g p n size choices es m)
    (starts : shown g.sets first ≡ start (first_flat p n size).setting p.entry) (unused : IsUnused g first)
    (follows : Follows g choices (length choices) first ((setting_of first).count - 1) ms w) where
  begins : AreTwins g course.first first
  begins = twins_first g course.first first (course.starts ∙ sym starts) course.unused unused

  both : AreTwinRuns g course.moments ms × AreTwins g m w
  both =
      let last : (setting_of first).count - 1 ≡ (setting_of course.first).count - 1 = ap (λ (v : Machine). v.setting.count - 1) (sym begins.machine) in
      run_once g None choices (length choices) course.first first m w ((setting_of course.first).count - 1) course.moments ms begins course.follows
      (subst (λ (after : ℕ). Follows g choices (length choices) first after ms w) last follows)

  pub machine_again : AreTwins g m w
  machine_again = both.1

  pub entries_again : es ≡ entries_of ms
  entries_again = course.given ∙ same_entries g course.moments ms both.0
