-- What a seat answers, read as the result of a row of the protocol.
use Rattle.std.specs.Prelude.{ℕ, Option}
use Rattle.std.specs.Option.{option_map}
use Rattle.words.specs.declared.stamp.Stamp.{Stamp}
use Rattle.protocol.specs.Messages.{Message, Get, shown}
use Rattle.protocol.specs.Hart.{HartResult}
use Rattle.hart.specs.declared.reply.Asked.{Asked}
use Rattle.hart.specs.declared.reply.CoreStep.{CoreStep}
use Rattle.hart.specs.Shown.{shown_hart}
use Rattle.machine.specs.States.{Seat}

-- what became of a hart by a core step, where the seat has kept the byte that it put out
abbrev pub stepped : ℕ → Seat → CoreStep → HartResult
stepped sets new s = record { hart = shown_hart sets new.output new.hart; sent = option_map shown s.message; entry = s.entry; stamped = s.stamped }

-- what hart i asks of the directory, where its requests carry this stamp
abbrev pub asking : ℕ → Option Stamp → Asked → Message
asking i stamp a = Get i a.block a.kind stamp
