-- What memory holds, as the machine has it: the value in place, and the value with running transactions rolled back.
--
-- As in LogTM (HPCA 2006) new values are in place and old ones in the log. In place is what the owner has in its cache, or what
-- is in flight from there; and memory itself only where there is neither. The messages looked at are those under the first so
-- many keys (all, if they lie below).
use Rattle.std.specs.Prelude.{ℕ, zero, suc, Bool, true, false, cond, ◌==◌, ◌&&◌, ◌/◌, Option, Some, None, unwrap_or, List, [], ◌∷◌, is_some}
use Rattle.std.specs.Option.{option_and_then, option_or}
use Rattle.protocol.specs.Messages.{Block, Message, Done, Ack}
use Rattle.words.specs.LineStates.{is_owned}
use Rattle.protocol.specs.Lines.{byte_in, owned_content}
use Rattle.protocol.specs.Hart.{Request, LogRecord, log_of, put_content}
use Rattle.protocol.specs.Directory.{Owner, Nobody, Owned, Sticky, Busy}
use Rattle.protocol.specs.Network.{Network}
use Rattle.protocol.specs.Machine.{Machine}

-- the first that there is, of those below n
abbrev pub first_below : {A : Type 0} → ℕ → (ℕ → Option A) → Option A
first_below zero f = None
first_below (suc n) f = option_or (first_below n f) (f n)

-- the content of an acknowledgement of block b
abbrev pub ack_content : ℕ → Message → Option Block
ack_content b (Ack from to c content) = cond (c == b) content None
ack_content b _ = None

-- that of a Done
abbrev pub done_content : ℕ → Message → Option Block
done_content b (Done from c ok content) = cond (c == b) content None
done_content b _ = None

-- what a request for block b has kept
abbrev pub kept_content : ℕ → Option Request → Option Block
kept_content b None = None
kept_content b (Some r) = cond (r.block == b) r.content None

-- whether a message is the Done of r's granted request for block b
abbrev pub is_done_by : ℕ → ℕ → Message → Bool
is_done_by r b (Done from c ok content) = ok && ((from == r) && (c == b))
is_done_by r b _ = false

-- whether r's request for block b is granted, and the directory hasn't been told yet
abbrev pub has_done : ℕ → Network → ℕ → ℕ → Bool
has_done keys net r b = is_some (first_below keys (λ key. option_and_then (λ m. cond (is_done_by r b m) (Some m) None) (net key)))

-- the owner by the entry alone
abbrev pub entry_owner : Owner → Option ℕ
entry_owner Nobody = None
entry_owner (Owned o) = Some o
entry_owner (Sticky o) = None

abbrev pub owner_with : ℕ → Network → ℕ → Option Busy → Owner → Option ℕ
owner_with keys net b None owner = entry_owner owner
owner_with keys net b (Some q) owner = cond (is_owned q.give && has_done keys net q.requester b) (Some q.requester) (entry_owner owner)

-- who owns a block: the requester that was given E or M, from its Done on; else the entry's owner
abbrev pub owner_of : ℕ → Machine → ℕ → Option ℕ
owner_of keys w b = owner_with keys w.net b (w.entries b).busy (w.entries b).owner

-- the first that there is of: the owner's E or M line; what an acknowledgement in flight, or kept, carries; what a Done in
-- flight carries; the owner's Put; and memory
abbrev pub in_place : ℕ → Machine → ℕ → Block
in_place keys w b =
    unwrap_or (option_or (option_and_then (λ i. owned_content ((w.harts i).lines b)) (owner_of keys w b))
    (option_or (first_below keys (λ key. option_and_then (ack_content b) (w.net key)))
    (option_or (first_below w.setting.count (λ i. kept_content b (w.harts i).request))
    (option_or (first_below keys (λ key. option_and_then (done_content b) (w.net key)))
    (option_and_then (λ i. put_content b (w.harts i).put) (owner_of keys w b))))))
    (w.memory b)

-- the words in the oldest record of a block, or those given: what they are once the log is undone, the newest record first
abbrev pub restored : List LogRecord → ℕ → Block → Block
restored [] b words = words
restored (r ∷ rest) b words = restored rest b (cond (r.block == b) r.before words)

-- with the logs of all harts below n undone (no more than one has the block)
abbrev pub all_restored : ℕ → Machine → ℕ → Block → Block
all_restored zero w b words = words
all_restored (suc n) w b words = restored (log_of (w.harts n).tx) b (all_restored n w b words)

-- the block with all running transactions rolled back
abbrev pub committed : ℕ → Machine → ℕ → Block
committed keys w b = all_restored w.setting.count w b (in_place keys w b)

-- whether a log has a record of the block
abbrev pub is_logged : List LogRecord → ℕ → Bool
is_logged [] b = false
is_logged (r ∷ rest) b = cond (r.block == b) true (is_logged rest b)

-- Byte by byte: the value in place; memory without running transactions; memory as hart i sees it
abbrev pub raw : ℕ → Machine → ℕ → ℕ
raw keys w a = byte_in (in_place keys w (a / 32)) a

abbrev pub peek : ℕ → Machine → ℕ → ℕ
peek keys w a = byte_in (committed keys w (a / 32)) a

abbrev pub view : ℕ → Machine → ℕ → ℕ → ℕ
view keys w i a = cond (is_logged (log_of (w.harts i).tx) (a / 32)) (raw keys w a) (peek keys w a)
