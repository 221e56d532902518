-- The sorts of messages.
use Rattle.std.specs.Prelude.{ℕ, ◌≡◌, Bool, Option}
use Rattle.words.specs.declared.stamp.Stamp.{Stamp}
use Rattle.words.specs.declared.message.Kind.{Kind}
use Rattle.protocol.specs.Messages.{Block, Granted, Message, Get, Put, Done, Grant, Forward, PutAck, Ack, Nack}

abbrev pub IsGet : Message → Type 0
IsGet m = (from block : ℕ) × (kind : Kind) × (stamp : Option Stamp) × (m ≡ Get from block kind stamp)

abbrev pub IsPut : Message → Type 0
IsPut m = (from block : ℕ) × (content : Block) × (marked : Bool) × (m ≡ Put from block content marked)

abbrev pub IsDone : Message → Type 0
IsDone m = (from block : ℕ) × (ok : Bool) × (content : Option Block) × (m ≡ Done from block ok content)

abbrev pub IsGrant : Message → Type 0
IsGrant m = (to block : ℕ) × (granted : Granted) × (m ≡ Grant to block granted)

abbrev pub IsForward : Message → Type 0
IsForward m = (to block : ℕ) × (kind : Kind) × (requester : ℕ) × (stamp : Option Stamp) × (m ≡ Forward to block kind requester stamp)

abbrev pub IsPutAck : Message → Type 0
IsPutAck m = (to block : ℕ) × (m ≡ PutAck to block)

abbrev pub IsAck : Message → Type 0
IsAck m = (from to block : ℕ) × (content : Option Block) × (m ≡ Ack from to block content)

abbrev pub IsNack : Message → Type 0
IsNack m = (from to block : ℕ) × (stamp : Option Stamp) × (m ≡ Nack from to block stamp)
