use Rattle.std.proofs.Common.{◌≡◌, ◌≤◌, ◌*◌, length}
use Rattle.words.specs.Harts.{names}
use Rattle.render.specs.Parts.{listed}
use Rattle.render.proofs.parts.harts_text.Given as goal

abbrev pub invariant-loop-number : goal.invariant-loop-number
invariant-loop-number l = record {
  text : l.text.bytes ≡ listed (names l.harts) l.number;
  short : length l.text.bytes ≤ 4 * l.number;
}
