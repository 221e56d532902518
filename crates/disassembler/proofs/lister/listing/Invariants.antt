use Rattle.std.proofs.Common.{◌*◌, Ok}
use Rattle.texts.specs.Puts.{Puts}
use Rattle.disassembler.specs.Listing.{lines}
use Rattle.disassembler.proofs.lister.listing.Given as goal

abbrev pub invariant-loop-window : goal.invariant-loop-window
invariant-loop-window g l =
    Puts (g.S.Sink.state l.initial.out) (g.S.Sink.state l.out) (lines l.names l.program.segments (4096 * l.window)) (Ok tt)
