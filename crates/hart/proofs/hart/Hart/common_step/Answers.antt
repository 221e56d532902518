use Rattle.std.proofs.Common.{◌≡◌, ◌∙◌, ℕ, List, Option, Some, None, ap}
use Rattle.std.specs.Prelude.{IfSome}
use Rattle.std.specs.Option.{option_map}
use Rattle.conflict.specs.Requests.{shown_request}
use Rattle.flat.specs.State.{Setting}
use Rattle.flat.specs.Causes.{next_of}
use Rattle.protocol.specs.Hart.{is_running}
use Rattle.protocol.specs.Core.{core_row, instruction_move, move_row}
use Rattle.hart.specs.declared.reply.CommonStep.{CommonStep}
use Rattle.hart.specs.Parts.{Parts}
use Rattle.hart.specs.Shown.{shown_hart}
use Rattle.hart.specs.Rows.{setting_of, seen_hart, victim_of, advanced}
use Rattle.hart.specs.Locals.{IsActive}
use Rattle.hart.proofs.Alone.{goes-on}
use Rattle.hart.proofs.hart.Hart.common_step.Goals as goal

pub returns-clause-row : goal.returns-clause-row
returns-clause-row g c = by_step c.common_instruction.result c.common_instruction.ensures.row
  where
    S : ℕ
    S = g.row.SETS

    p : Parts
    p = c.args.self.now

    s : Setting
    s = setting_of c.args.text.now.segments.now p

    after : Parts
    after = c.common_instruction.new.self

    active : IsActive p
    active = c.is_active.ensures.active.0 c.if-not-is_active.false

    by_step : (o : Option CommonStep)
        → IfSome o (λ made. (output : List ℕ) → move_row p.index (victim_of S p.cache) (instruction_move s p.index c.args.taken (next_of s (seen_hart S p)) (shown_hart S output p)) (shown_hart S output p) ≡ Some (advanced S output after made))
        → IfSome o (λ made. (output : List ℕ) → core_row s p.index c.args.taken (victim_of S p.cache) (shown_hart S output p) ≡ Some (advanced S output after made))
    by_step None row = tt
    by_step (Some made) row = λ output.
        ap (λ m. move_row p.index (victim_of S p.cache) m (shown_hart S output p)) (goes-on s p.index c.args.taken (shown_hart S output p) (ap is_running active.running) (ap (option_map shown_request) active.free) active.lasting)
        ∙ row output
