-- What is told of a report is the same on machines that no step tells apart.
use Rattle.std.proofs.Common.{◌≡◌, ◌==◌, ◌∙◌, ℕ, cond, List, codes, sym}
use Rattle.std.specs.List.{flat_map}
use Rattle.disassembler.specs.Tables.{Table}
use Rattle.protocol.specs.Caches.{Geometry}
use Rattle.machine.specs.States.{State}
use Rattle.machine.specs.Twins.{AreTwins}
use Rattle.debugger.specs.declared.report.Report.{Report}
use Rattle.debugger.specs.declared.report.Report.TheVariants.{Entry, Stopped, Broke, Set, Cleared, Nothing, Made, Silence}
use Rattle.debugger.specs.Texts.{line_from, IsTextOf}

pub told_once : (names : Table) (g : Geometry) (v w : State) (report : Report) (one other : List ℕ) → AreTwins g v w → IsTextOf names v report one → IsTextOf names w report other → one ≡ other
told_once names g v w (Entry e) one other twins is also = is ∙ sym also
told_once names g v w (Stopped) one other twins is also = is ∙ sym also
told_once names g v w (Broke i pc) one other twins is also = is ∙ sym also
told_once names g v w (Set b) one other twins is also = is ∙ sym also
told_once names g v w (Cleared b) one other twins is also = is ∙ sym also
told_once names g v w (Nothing) one other twins is also = is ∙ sym also
told_once names g v w (Made from) one other twins is also = is ∙ ((λ k. cond (twins.sent k == from) (codes "done\n") (flat_map (line_from from) (twins.flights k))) ∙ sym also)
told_once names g v w (Silence) one other twins is also = is ∙ sym also
