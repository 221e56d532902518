-- What the directory sends.
use Rattle.std.specs.Prelude.{ℕ, ◌≡◌, ⊤, false, List, [], ◌∷◌, map}
use Rattle.words.specs.Harts.{names}
use Rattle.protocol.specs.Messages.{Message, shown, Grant, PutAck}
use Rattle.protocol.specs.Directory.{forwards}
use Rattle.arrayvec.specs.ArrayVec.{ArrayVec}
use Rattle.directory.specs.declared.received.Outgoing.{Outgoing}
use Rattle.directory.specs.declared.received.Answer.{Answer}
use Rattle.directory.specs.declared.received.Answer.TheVariants.{Silent, Acknowledged, Granted}

-- the messages of a list, in order
abbrev pub messages_of : ArrayVec Outgoing → List Message
messages_of sends = map (λ sent. shown sent.message) sends.items

-- the messages of an answer among n harts, in order
abbrev pub messages_in : ℕ → Answer → List Message
messages_in n Silent = []
messages_in n (Acknowledged to block) = PutAck to block ∷ []
messages_in n (Granted to give expect content block kind stamp) =
    Grant to block (record { give = give; content = content; expect = names expect }) ∷ forwards n (names expect) block kind to stamp

-- nobody awaits an answer of its own
abbrev pub AwaitsOthers : Answer → Type 0
AwaitsOthers (Granted to give expect content block kind stamp) = names expect to ≡ false
AwaitsOthers answer = ⊤
