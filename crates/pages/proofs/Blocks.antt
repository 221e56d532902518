-- The block that a message's name has is that of the message.
use Rattle.std.proofs.Common.{◌≡◌, refl}
use Rattle.protocol.specs.Messages.{Message, Get, Put, Done, Grant, Forward, PutAck, Ack, Nack, block_of}
use Rattle.schedule.specs.Steps.{name_of}

pub block_named : (m : Message) → (name_of m).block ≡ block_of m
block_named (Get from block kind stamp) = refl
block_named (Put from block content marked) = refl
block_named (Done from block ok content) = refl
block_named (Grant to block granted) = refl
block_named (Forward to block kind requester stamp) = refl
block_named (PutAck to block) = refl
block_named (Ack from to block content) = refl
block_named (Nack from to block stamp) = refl
