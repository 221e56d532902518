-- What a hart answers, read as the result of a row of the protocol.
use Rattle.std.specs.Prelude.{ℕ, ◌≡◌, ◌<◌, ◌%◌, Bool, true, false, List, [], ◌∷◌, ◌++◌, Option, Some, None}
use Rattle.std.specs.Option.{option_map}
use Rattle.words.specs.Bytes.{bytes_in}
use Rattle.table.specs.Program.{Segment}
use Rattle.table.specs.declared.effect.Act.{Act}
use Rattle.table.specs.declared.effect.Act.TheVariants as act
use Rattle.words.specs.declared.entry.Entry.{Entry}
use Rattle.words.specs.declared.entry.Entry.TheVariants.{Refuse}
use Rattle.transaction.specs.Value.{Transaction}
use Rattle.flat.specs.State.{Setting, FlatHart}
use Rattle.cache.specs.declared.ways.Victim.{Victim}
use Rattle.cache.specs.declared.ways.Victim.TheVariants.{Free, Drop, WriteBack}
use Rattle.cache.specs.Sets.{Sets, victim_at}
use Rattle.protocol.specs.Messages.{Message, Get, Done, Ack, Nack, shown}
use Rattle.protocol.specs.Hart.{HartResult, flat_hart, stamp_of}
use Rattle.hart.specs.declared.reply.Reply.{Reply}
use Rattle.hart.specs.declared.reply.Settled.{Settled}
use Rattle.hart.specs.declared.reply.Settled.TheVariants as request
use Rattle.hart.specs.declared.reply.ForwardAnswer.{ForwardAnswer}
use Rattle.hart.specs.declared.reply.ForwardAnswer.TheVariants as answer
use Rattle.hart.specs.declared.reply.CoreStep.{CoreStep}
use Rattle.hart.specs.declared.reply.CommonStep.{CommonStep}
use Rattle.hart.specs.declared.reply.Asked.{Asked}
use Rattle.hart.specs.Parts.{Parts}
use Rattle.hart.specs.Shown.{shown_tx, shown_hart}

-- what hart i tells the directory of its request, which goes on so
abbrev pub done_of : ℕ → Settled → Option Message
done_of i request.Waiting = None
done_of i (request.Refused b) = Some (Done i b false None)
done_of i (request.Granted b content) = Some (Done i b true content)

-- what became of a hart, which has put out these bytes, and of its request
abbrev pub settled : ℕ → List ℕ → Parts → Settled → HartResult
settled sets output new s = record {
  hart = shown_hart sets output new;
  sent = done_of new.index s;
  entry = None;
  stamped = false;
}

-- what hart i answers to hart r's request for block b, and the entry that it gives
abbrev pub answer_of : ℕ → ℕ → ℕ → ForwardAnswer → Message
answer_of i r b (answer.Nack stamp) = Nack i r b stamp
answer_of i r b (answer.Ack content) = Ack i r b content

abbrev pub refusal_of : ℕ → ℕ → ℕ → ForwardAnswer → Option Entry
refusal_of i r b (answer.Nack stamp) = Some (Refuse i r b)
refusal_of i r b (answer.Ack content) = None

-- what became of a hart, which has put out these bytes, and its answer to hart r's request for block b
abbrev pub answered : ℕ → List ℕ → Parts → ℕ → ℕ → ForwardAnswer → HartResult
answered sets output new r b a = record {
  hart = shown_hart sets output new;
  sent = Some (answer_of new.index r b a);
  entry = refusal_of new.index r b a;
  stamped = false;
}

-- what became of a hart that has put out these bytes, and its reply to an eviction
abbrev pub replied : ℕ → List ℕ → Parts → Reply → HartResult
replied sets output new r = record {
  hart = shown_hart sets output new;
  sent = option_map shown r.message;
  entry = r.entry;
  stamped = false;
}

-- the bytes that a hart has put out, with one more, if it put out one
abbrev pub with_byte : List ℕ → Option ℕ → List ℕ
with_byte output None = output
with_byte output (Some byte) = output ++ byte ∷ []

-- what became of it by a core step
abbrev pub stepped : ℕ → List ℕ → Parts → CoreStep → HartResult
stepped sets output new s = record {
  hart = shown_hart sets (with_byte output s.output) new;
  sent = option_map shown s.message;
  entry = s.entry;
  stamped = s.stamped;
}

-- what it asks for of the directory
abbrev pub request_of : Parts → Asked → Message
request_of p a = Get p.index a.block a.kind (stamp_of (shown_tx p.tx))

-- what became of it by one of the common steps
abbrev pub advanced : ℕ → List ℕ → Parts → CommonStep → HartResult
advanced sets output new s = record {
  hart = shown_hart sets output new;
  sent = option_map (request_of new) s.asked;
  entry = s.entry;
  stamped = s.stamped;
}

-- the machine's setting, as the hart has it, with a program's segments
abbrev pub setting_of : List Segment → Parts → Setting
setting_of segments p = record { segments = segments; size = p.size; count = p.harts }

-- the hart as the causes of an instruction see it; what it has put out has no say in them
abbrev pub seen_hart : ℕ → Parts → FlatHart
seen_hart sets p = flat_hart (shown_hart sets [] p)

abbrev pub block_of : Victim → Option ℕ
block_of Free = None
block_of (Drop l) = Some l.block
block_of (WriteBack l) = Some l.block

-- the block that the cache evicts for another, where its set has no room: that of the first line without marks, or of the first
-- line if all have marks
abbrev pub victim_of : ℕ → Sets → ℕ → Option ℕ
victim_of sets cache b = block_of (victim_at sets cache b)

abbrev pub is_access : Act → Bool
is_access (act.Memory m) = true
is_access _ = false

-- what is known of an act that has no cause: an access is at a multiple of its width, and a transaction can go one deeper
abbrev pub Fits : Transaction → Act → Type 0
Fits tx (act.Memory m) = m.addr % bytes_in m.width ≡ 0
Fits tx (act.Conditional rd m) = m.addr % bytes_in m.width ≡ 0
Fits tx (act.Begin p) = tx.depth < 255
Fits tx _ = Unit {0}
