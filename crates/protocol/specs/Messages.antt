-- The messages between harts and the directory, as the rows speak of them: those of crate words, where a set of harts is a test
-- on harts.
--
-- The source is LogTM (Moore, Bobba, Moravan, Hill, Wood: "LogTM: Log-based Transactional Memory", HPCA 2006): a directory
-- forwards a request to those who may conflict, and each of them answers the requester with an ACK or a NACK. The paper lists no
-- messages; these are this project's. A grant names the harts whose answers the requester awaits, a Put tells whether its line
-- was marked, and a Done ends each request.
use Rattle.std.specs.Prelude.{ℕ, Bool, Option, Some, None, List}
use Rattle.words.specs.Harts.{names}
use Rattle.words.specs.declared.stamp.Stamp.{Stamp}
use Rattle.words.specs.declared.message.Kind.{Kind}
use Rattle.words.specs.declared.message.LineState.{LineState}
use Rattle.words.specs.declared.message.Message.{Message as Coded}
use Rattle.words.specs.declared.message.Message.TheVariants as coded

-- the words of a block, by rising address
abbrev pub Block : Type 0
Block = List ℕ

-- what a request is given: how its hart may hold the block, memory's content, and the harts whose answers it awaits
pub record Granted : Type 0 where
  pub give : LineState
  pub content : Block
  pub expect : ℕ → Bool

pub data Message : Type 0 where
  Get : (from block : ℕ) (kind : Kind) (stamp : Option Stamp) → Message
  Put : (from block : ℕ) (content : Block) (marked : Bool) → Message
  Done : (from block : ℕ) (ok : Bool) (content : Option Block) → Message
  Grant : (to block : ℕ) (granted : Granted) → Message
  Forward : (to block : ℕ) (kind : Kind) (requester : ℕ) (stamp : Option Stamp) → Message
  PutAck : (to block : ℕ) → Message
  Ack : (from to block : ℕ) (content : Option Block) → Message
  Nack : (from to block : ℕ) (stamp : Option Stamp) → Message

-- the program's message, read so
abbrev pub shown : Coded → Message
shown (coded.Get from block kind stamp) = Get from block kind stamp
shown (coded.Put from block content marked) = Put from block content marked
shown (coded.Done from block ok content) = Done from block ok content
shown (coded.Grant to block give content expect) = Grant to block (record { give = give; content = content; expect = names expect })
shown (coded.Forward to block kind requester stamp) = Forward to block kind requester stamp
shown (coded.PutAck to block) = PutAck to block
shown (coded.Ack from to block content) = Ack from to block content
shown (coded.Nack from to block stamp) = Nack from to block stamp

-- the block that a message is about
abbrev pub block_of : Message → ℕ
block_of (Get from block kind stamp) = block
block_of (Put from block content marked) = block
block_of (Done from block ok content) = block
block_of (Grant to block granted) = block
block_of (Forward to block kind requester stamp) = block
block_of (PutAck to block) = block
block_of (Ack from to block content) = block
block_of (Nack from to block stamp) = block

-- the hart that a message goes to; None where it goes to the directory
abbrev pub receiver_of : Message → Option ℕ
receiver_of (Get from block kind stamp) = None
receiver_of (Put from block content marked) = None
receiver_of (Done from block ok content) = None
receiver_of (Grant to block granted) = Some to
receiver_of (Forward to block kind requester stamp) = Some to
receiver_of (PutAck to block) = Some to
receiver_of (Ack from to block content) = Some to
receiver_of (Nack from to block stamp) = Some to
