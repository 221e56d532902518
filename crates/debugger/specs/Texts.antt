-- What a session tells.
use Rattle.std.specs.Prelude.{ℕ, ◌≡◌, ◌==◌, ◌++◌, List, [], ◌∷◌, nat_le, cond, codes, decimal}
use Rattle.std.specs.List.{concat, flat_map}
use Rattle.network.specs.declared.net.Flight.{Flight}
use Rattle.texts.specs.Numerals.{hexadecimal}
use Rattle.disassembler.specs.Labels.{label}
use Rattle.disassembler.specs.Tables.{Table}
use Rattle.render.specs.Entries.{entry_line}
use Rattle.render.specs.Messages.{message_text}
use Rattle.machine.specs.States.{State}
use Rattle.debugger.specs.declared.report.Report.{Report}
use Rattle.debugger.specs.declared.report.Report.TheVariants.{Entry, Stopped, Broke, Set, Cleared, Nothing, Made, Silence}

-- the line of a message that was sent
abbrev pub sent_line : Flight → List ℕ
sent_line f = codes "sent " ++ message_text f.message ++ codes "\n"

-- that of one in flight, if it got this number or a greater one when it was sent
abbrev pub line_from : ℕ → Flight → List ℕ
line_from from f = cond (nat_le from f.number) (sent_line f) []

-- what is told of a step without an entry, whose messages got the numbers from one on: those, the oldest first
abbrev pub made_text : State → ℕ → List ℕ
made_text m from = cond (m.sent == from) (codes "done\n") (flat_map (line_from from) m.flights)

-- a hart has come to a breakpoint
abbrev pub broke_line : Table → ℕ → ℕ → List ℕ
broke_line names i pc = concat (codes "break hart " ∷ decimal i ∷ codes " at 0x" ∷ hexadecimal pc ∷ label names pc ∷ codes "\n" ∷ [])

-- what became of a breakpoint
abbrev pub place_line : Table → List ℕ → ℕ → List ℕ
place_line names words place = concat (words ∷ hexadecimal place ∷ label names place ∷ codes "\n" ∷ [])

-- the text of a report on a machine, with names
abbrev pub IsTextOf : Table → State → Report → List ℕ → Type 0
IsTextOf names m (Entry e) text = text ≡ entry_line names e
IsTextOf names m (Stopped) text = text ≡ codes "stopped\n"
IsTextOf names m (Broke i pc) text = text ≡ broke_line names i pc
IsTextOf names m (Set b) text = text ≡ place_line names (codes "break set 0x") b
IsTextOf names m (Cleared b) text = text ≡ place_line names (codes "break cleared 0x") b
IsTextOf names m (Nothing) text = text ≡ codes "nothing\n"
IsTextOf names m (Made from) text = text ≡ made_text m from
IsTextOf names m (Silence) text = text ≡ []
