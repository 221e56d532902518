use Rattle.std.proofs.Common.{◌≡◌, ◌+◌, ◌<◌, ◌≤◌, ℕ, get_or, true}
use Rattle.table.specs.Program.{Segment}
use Rattle.disassembler.proofs.lister.windows.Given as goal

abbrev pub invariant-loop-segment : goal.invariant-loop-segment
invariant-loop-segment l = record {
  within : l.end ≤ 4194304;
  all : (j : ℕ) (d : Segment) → j < l.segment-index → (get_or l.segments j d).exec ≡ true → (get_or l.segments j d).addr + (get_or l.segments j d).size ≤ l.end;
}
