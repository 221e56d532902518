-- The counts behind a report.
use Rattle.std.specs.Prelude.{ℕ, ◌≡◌, ◌⊎◌, ◌++◌, List, []}
use Rattle.words.specs.Sinks.{SinkState, TookAll, TookPart}
use Rattle.protocol.specs.Caches.{Geometry}
use Rattle.machine.specs.States.{State, setting_of}
use Rattle.command_line.specs.declared.request.Show.{Show}
use Rattle.command_line.specs.declared.request.Show.TheVariants.{Counts}
use Rattle.command_line.specs.declared.request.Stats.{Stats}
use Rattle.command_line.specs.declared.request.Stats.TheVariants.{Table, Csv}
use Rattle.schedule.specs.Moments.{Moment}
use Rattle.watch.specs.declared.counting.Tally.{Tally}
use Rattle.watch.specs.declared.figures.Figure.{Figure}
use Rattle.watch.specs.declared.kinds.Kind.{Kind}
use Rattle.watch.specs.Kinds.{count_at, number_of}
use Rattle.watch.specs.Traffic.{figure_at, figure_of}
use Rattle.watch.specs.Runs.{IsTally}
use Rattle.watch.specs.CountTexts.{table, csv}
use Rattle.watch.specs.MachineTexts.{machine_table, machine_lines}
use Rattle.requests.specs.Conclusions.{IsConcluded, IsHalfConcluded}
use Rattle.requests.specs.declared.fault.Fault.{Fault}
use Rattle.requests.specs.declared.fault.Fault.TheVariants.{Unwritten}

-- the counts of so many harts, and what is told of the machine, in a form
abbrev pub counts_text : Stats → (ℕ → Kind → ℕ) → ℕ → (Figure → ℕ) → List ℕ
counts_text Table count harts figure = table count harts ++ machine_table figure
counts_text Csv count harts figure = csv count harts ++ machine_lines figure

-- the counts of moments, where they are shown and caches have so many sets: how often they count for each hart as each kind, and what is told of the machine
abbrev pub behind_report : Show → ℕ → ℕ → List Moment → List ℕ
behind_report (Counts form) sets harts ms = counts_text form (λ h k. number_of sets h k ms) harts (figure_of ms)
behind_report other sets harts ms = []

-- the same of what was counted
abbrev pub counts_part : Show → Tally → ℕ → List ℕ
counts_part (Counts form) t harts = counts_text form (count_at t.harts) harts (figure_at t.machine)
counts_part other t harts = []

-- this is told of the moments, where counts are shown
abbrev pub AreCounts : Show → ℕ → List Moment → Tally → Type 0
AreCounts (Counts form) sets ms t = IsTally sets ms t
AreCounts other sets ms t = Unit {0}

module _ (g : Geometry) (m : State) (words : List ℕ) (show : Show) (counts : Tally) (before after : SinkState) where
  -- the report on a machine was put, and behind it the counts of its harts, where they are shown; the status goes with the report
  abbrev pub IsEnded : ℕ → Type 0
  IsEnded status = (middle : SinkState) × IsConcluded g m words before middle status × TookAll middle after (counts_part show counts (setting_of m).count)

  -- or a put failed: a beginning of the report was taken, or of the counts behind it
  abbrev pub IsHalfEnded : Fault → Type 0
  IsHalfEnded fault = IsHalfConcluded g m words before after fault
      ⊎ ((fault ≡ Unwritten) × ((middle : SinkState) × (status : ℕ) × IsConcluded g m words before middle status × TookPart middle after (counts_part show counts (setting_of m).count)))
