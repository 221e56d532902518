use Rattle.std.proofs.Common.{◌≡◌, map, take}
use Rattle.requests.specs.Quotes.{shown_byte}
use Rattle.requests.proofs.quote.quoted.Given as goal

abbrev pub invariant-loop-byte : goal.invariant-loop-byte
invariant-loop-byte l = l.shown.items ≡ map shown_byte (take l.byte-index l.front)
