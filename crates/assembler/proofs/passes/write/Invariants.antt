use Rattle.std.proofs.Common.{◌≡◌, ◌≤◌, ◌+◌, length, option_map}
use Rattle.statements.specs.Places.{labels_of}
use Rattle.assembler.specs.Passes.{Layout, pass, lay, lay_line}
use Rattle.assembler.specs.Programs.{IsImageOf}
use Rattle.assembler.proofs.Passing.{left, remaining}
use Rattle.assembler.proofs.passes.write.Given as goal

-- the pass over the lines that are left, from the layout so far, ends as that over all
abbrev pub invariant-lines : goal.invariant-lines
invariant-lines l =
    ((k : Layout) × (pass (lay_line (labels_of l.names)) l.number (left (option_map (λ x. x.now) l.rest)) k ≡ lay (labels_of l.names) l.source)
    × (k.progress ≡ l.progress) × IsImageOf k l.image.text_bytes.items l.image.data_bytes.items)
    × (l.number + remaining (option_map (λ x. x.now) l.rest) ≤ length l.source + 2)

abbrev pub decreases-lines : goal.decreases-lines
decreases-lines l = remaining (option_map (λ x. x.now) l.rest)
