-- A message that arrives at the directory keeps the invariant.
use Rattle.std.proofs.Common.{◌≡◌, ℕ, Option, None, Some, sym}
use Rattle.std.proofs.lemmas.Option.{none-some}
use Rattle.words.specs.declared.entry.Entry.{Entry}
use Rattle.protocol.specs.Messages.{Message, Get, Put, Done, Grant, Forward, PutAck, Ack, Nack, block_of, receiver_of}
use Rattle.protocol.specs.Directory.{directory_row}
use Rattle.protocol.specs.Machine.{Machine, served_change, ComesAbout}
use Rattle.isolation.proofs.Machine.World.{World}
use Rattle.isolation.proofs.Machine.Invariant.{Inv, Next}
use Rattle.isolation.proofs.Directory.PutRows.{put_next}
use Rattle.isolation.proofs.Directory.DoneRows.{done_next}
use Rattle.isolation.proofs.Directory.GetRows.{get_next}

-- whichever message it is
pub directory_next : (x : World) (v : Inv x) (key : ℕ) (m : Message) (e : Option Entry) (w : Machine) → x.machine.net key ≡ Some m → receiver_of m ≡ None → ComesAbout (served_change key (block_of m) (directory_row x.machine.setting.count m (x.machine.entries (block_of m)) (x.machine.memory (block_of m))) x.machine) e w → Next x e w
directory_next x v key (Get from block kind stamp) e w k r c = get_next x v key from block kind stamp k e w c
directory_next x v key (Put from block content marked) e w k r c = put_next x v key from block content marked k e w c
directory_next x v key (Done from block ok content) e w k r c = done_next x v key from block ok content k e w c
directory_next x v key (Grant to block granted) e w k r c = absurd (none-some to (sym r))
directory_next x v key (Forward to block kind requester stamp) e w k r c = absurd (none-some to (sym r))
directory_next x v key (PutAck to block) e w k r c = absurd (none-some to (sym r))
directory_next x v key (Ack from to block content) e w k r c = absurd (none-some to (sym r))
directory_next x v key (Nack from to block stamp) e w k r c = absurd (none-some to (sym r))
