-- Which row it comes to, by what is known of the hart.
use Rattle.std.proofs.Common.{◌≡◌, ◌==◌, ◌+◌, ◌-◌, ◌/◌, ◌&&◌, ℕ, nat_le, length, cond, ◌∷◌, Bool, true, false, List, Option, Some, None, is_some, refl, sym, arith}
use Rattle.std.specs.Prelude.{is_none}
use Rattle.std.specs.Option.{option_map}
use Rattle.std.proofs.lemmas.Bool.Decides.{nat_tests}
use Rattle.words.specs.declared.stamp.Stamp.{Stamp}
use Rattle.words.specs.declared.message.Kind.{Kind}
use Rattle.words.specs.declared.message.LineState.{LineState}
use Rattle.words.specs.declared.message.LineState.TheVariants.{Shared, Exclusive, Modified}
use Rattle.words.specs.LineStates.{is_owned}
use Rattle.words.specs.declared.entry.Entry.{Entry}
use Rattle.words.specs.Marks.{is_marked}
use Rattle.protocol.specs.Messages.{Block, Message, Granted, Put, Done, Ack}
use Rattle.flat.specs.Bytes.{put_at}
use Rattle.protocol.specs.Lines.{Line, refuses, byte_in, owned_content, line_given, line_undone, line_cleared, line_used}
use Rattle.protocol.specs.Hart.{Hart, Transaction, LogRecord, Request, sends, overflow_of, with_line}
use Rattle.protocol.specs.Requests.{have_answered, granted_so_far, refused_row, granted_row, answer_row}
use Rattle.protocol.specs.Evict.{evict_row, evict_by, drop_row, write_back_row, without_line, spill_of}
use Rattle.protocol.specs.Core.{Makes, Lacks, start_abort_row, undo_row, undo_move, abort_move, fetch_row, move_row, begin_row, tx_begun, commit_row, retire_row, no_memory, is_log_due, tx_used, access_row}
use Rattle.words.specs.Limits.{log_records}
use Rattle.words.specs.declared.cause.AbortCause.{AbortCause}
use Rattle.words.specs.declared.cause.AbortCause.TheVariants.{LogFull}
use Rattle.words.specs.declared.message.Kind.TheVariants.{Write}
use Rattle.table.specs.declared.effect.MemoryAct.{MemoryAct}
use Rattle.table.specs.declared.effect.Effect.{Effect}
use Rattle.protocol.specs.HartMessages.{forward_row, refuse_row, acknowledge_row, content_held, reserved_given}

-- what isn't there isn't shown
pub none_shown : {A B : Type 0} (f : A → B) (o : Option A) → is_some o ≡ false → option_map f o ≡ None
none_shown f None e = refl
none_shown f (Some x) e = cc

-- evictions

pub evicts-shared : (i b : ℕ) (l : Line) (h : Hart) → h.lines b ≡ Some l → is_owned l.state ≡ false → evict_row i b h ≡ Some (drop_row i b l h)
evicts-shared i b l h is shared = rw is (by_state l.state shared)
  where
    by_state : (s : LineState) → is_owned s ≡ false → evict_by s i b l h ≡ Some (drop_row i b l h)
    by_state Shared e = refl
    by_state Exclusive e = cc
    by_state Modified e = cc

pub evicts-owned : (i b : ℕ) (l : Line) (h : Hart) → h.lines b ≡ Some l → is_owned l.state ≡ true → h.put ≡ None → evict_row i b h ≡ Some (write_back_row i b l h)
evicts-owned i b l h is owned free = rw is (by_state l.state owned)
  where
    by_state : (s : LineState) → is_owned s ≡ true → evict_by s i b l h ≡ Some (write_back_row i b l h)
    by_state Shared e = cc
    by_state Exclusive e = rw free refl
    by_state Modified e = rw free refl

-- forwards

pub forward-refused : (i b : ℕ) (kind : Kind) (r : ℕ) (stamp : Option Stamp) (h : Hart) → refuses (h.lines b) (overflow_of h.tx) kind ≡ true → forward_row i b kind r stamp h ≡ refuse_row i b r stamp h
forward-refused i b kind r stamp h is = rw is refl

pub forward-met : (i b : ℕ) (kind : Kind) (r : ℕ) (stamp : Option Stamp) (h : Hart) → refuses (h.lines b) (overflow_of h.tx) kind ≡ false → forward_row i b kind r stamp h ≡ acknowledge_row i b kind r h
forward-met i b kind r stamp h is = rw is refl

-- the end of a request

pub ends-refused : (n i : ℕ) (r : Request) (g : Granted) (h : Hart) → r.grant ≡ Some g → have_answered n g.expect r.answered ≡ true → r.refused ≡ true → granted_so_far n i r r.grant h ≡ refused_row i r h
ends-refused n i r g h is all refused = rw (is, all, refused) refl

pub ends-granted : (n i : ℕ) (r : Request) (g : Granted) (h : Hart) → r.grant ≡ Some g → have_answered n g.expect r.answered ≡ true → r.refused ≡ false → granted_so_far n i r r.grant h ≡ granted_row i r g h
ends-granted n i r g h is all refused = rw (is, all, refused) refl

-- an answer to the request that is out
pub answered : (n i b : ℕ) (keep : Request → Request) (r q : Request) (h : Hart) → h.request ≡ Some r → r.block ≡ b → q ≡ keep r → answer_row n i b keep h.request h ≡ granted_so_far n i q q.grant h
answered n i b keep r q h is here kept = rw (is, kept, here) (grind (arith, nat_tests))

-- what a row is made of

pub dropped : (i b : ℕ) (l : Line) (h k : Hart) (e : Option Entry) → k ≡ without_line b l h → e ≡ spill_of i b l → drop_row i b l h ≡ record { hart = k; sent = None; entry = e; stamped = false }
dropped i b l h k e hart entry = λ j. record { hart = sym hart j; sent = None; entry = sym entry j; stamped = false }

pub written_back : (i b : ℕ) (l : Line) (h k : Hart) (m : Bool) (e : Option Entry) → k ≡ without_line b l h → m ≡ is_marked l.marks → e ≡ spill_of i b l
    → write_back_row i b l h ≡ record { hart = record k { put = Some (record { block = b; content = l.content; marked = m }) }; sent = Some (Put i b l.content m); entry = e; stamped = false }
written_back i b l h k m e hart marked entry = λ j. record {
  hart = record (sym hart j) { put = Some (record { block = b; content = l.content; marked = sym marked j }) };
  sent = Some (Put i b l.content (sym marked j));
  entry = sym entry j;
  stamped = false;
}

pub granted : (i b : ℕ) (l : Line) (back : Option Block) (h k : Hart) (m : Message) → k ≡ with_line b (Some l) h → m ≡ Done i b true back
    → sends (Done i b true back) (with_line b (Some l) (record h { request = None; fresh = true })) ≡ record { hart = record k { request = None; fresh = true }; sent = Some m; entry = None; stamped = false }
granted i b l back h k m hart sent = λ j. record { hart = record (sym hart j) { request = None; fresh = true }; sent = Some (sym sent j); entry = None; stamped = false }

pub acknowledged : (i b : ℕ) (kind : Kind) (r : ℕ) (h k : Hart) (content : Option Block) → k ≡ with_line b (line_given kind (h.lines b)) (record h { reserved = reserved_given kind b h.reserved }) → content ≡ content_held b h
    → acknowledge_row i b kind r h ≡ record { hart = k; sent = Some (Ack i r b content); entry = None; stamped = false }
acknowledged i b kind r h k content hart is = λ j. record { hart = sym hart j; sent = Some (Ack i r b (sym is j)); entry = None; stamped = false }

pub undone : (t : Transaction) (r : LogRecord) (rest : List LogRecord) (l : Line) (h : Hart) (tx : Option Transaction) (kept : Option Stamp) (lines : ℕ → Option Line)
    → tx ≡ Some (record t { log = rest }) → kept ≡ h.kept_stamp → lines ≡ put_at r.block (Some (line_undone r.before l)) h.lines
    → undo_row t r rest l h ≡ record { hart = record h { tx = tx; kept_stamp = kept; lines = lines; fresh = false }; sent = None; entry = None; stamped = false }
undone t r rest l h tx kept lines is stamp at = λ j. record {
  hart = record h { tx = sym is j; kept_stamp = sym stamp j; lines = sym at j; fresh = false };
  sent = None;
  entry = None;
  stamped = false;
}

-- the end of a transaction

pub commits-outer : (i w : ℕ) (e : Effect) (o : Option Transaction) (h k : Hart) → (o ≡ None → ⊥)
    → ((t : Transaction) → o ≡ Some t → ((t.depth == 1) ≡ true) × (k ≡ record h { tx = None; reserved = None; lines = λ b. line_cleared (h.lines b) }))
    → commit_row i w e o h ≡ retire_row i no_memory w e k
commits-outer i w e None h k inside is = absurd (inside refl)
commits-outer i w e (Some t) h k inside is = let f = is t refl in rw (f.0, f.1) refl

pub commits-inner : (i w : ℕ) (e : Effect) (o : Option Transaction) (h k : Hart) → (o ≡ None → k ≡ h)
    → ((t : Transaction) → o ≡ Some t → ((t.depth == 1) ≡ false) × (k ≡ record h { tx = Some (record t { depth = t.depth - 1 }) }))
    → commit_row i w e o h ≡ retire_row i no_memory w e k
commits-inner i w e None h k outside is = rw (outside refl) refl
commits-inner i w e (Some t) h k outside is = let f = is t refl in rw (f.0, f.1) refl

-- a begin

pub begins : (i taken w p : ℕ) (e : Effect) (o : Option Transaction) (h k : Hart) (stamped : Bool)
    → (o ≡ None → (k ≡ record h { tx = Some (tx_begun i taken p h); kept_stamp = None; reserved = None }) × (stamped ≡ is_none h.kept_stamp))
    → ((t : Transaction) → o ≡ Some t → (k ≡ record h { tx = Some (record t { depth = t.depth + 1 }) }) × (stamped ≡ false))
    → begin_row i taken w e p o h ≡ record (retire_row i no_memory w e k) { stamped = stamped }
begins i taken w p e None h k stamped outside is = let f = outside refl in rw (f.0, f.1) refl
begins i taken w p e (Some t) h k stamped outside is = let f = is t refl in rw (f.0, f.1) refl

-- an access in a transaction, with and without room in the log

pub access-full : (i w : ℕ) (e : Effect) (m : MemoryAct) (kept : Option ℕ) (l : Line) (t : Transaction) (h : Hart) → is_log_due m l && nat_le log_records (length t.log) ≡ true
    → access_row i w e m kept l (Some t) h ≡ start_abort_row LogFull t h
access-full i w e m kept l t h full = rw full refl

pub access-fits : (i w : ℕ) (e : Effect) (m : MemoryAct) (kept : Option ℕ) (l : Line) (t : Transaction) (h : Hart) → is_log_due m l && nat_le log_records (length t.log) ≡ false
    → access_row i w e m kept l (Some t) h ≡ retire_row i (byte_in l.content) w e (with_line (m.addr / 32) (Some (line_used true m l)) (record h { tx = Some (tx_used m l t); reserved = kept }))
access-fits i w e m kept l t h fits = rw fits refl

-- a step of an abort

pub undoes : (i : ℕ) (victim : ℕ → Option ℕ) (cause : AbortCause) (t : Transaction) (r : LogRecord) (rest : List LogRecord) (l : Line) (h : Hart) → t.log ≡ r ∷ rest
    → h.lines r.block ≡ Some l → is_owned l.state ≡ true → move_row i victim (abort_move i cause t t.log h) h ≡ Some (undo_row t r rest l h)
undoes i victim cause t r rest l h log at owned = rw (log, at, owned) refl

pub undo-fetches : (i : ℕ) (victim : ℕ → Option ℕ) (cause : AbortCause) (t : Transaction) (r : LogRecord) (rest : List LogRecord) (h : Hart) → t.log ≡ r ∷ rest
    → owned_content (h.lines r.block) ≡ None → move_row i victim (abort_move i cause t t.log h) h ≡ fetch_row i victim Write r.block h
undo-fetches i victim cause t r rest h log none = rw log (by_line (h.lines r.block) none)
  where
    by_state : (b : Bool) (l : Line) → cond b (Some l.content) None ≡ None → move_row i victim (cond b (Makes (undo_row t r rest l h)) (Lacks Write r.block)) h ≡ fetch_row i victim Write r.block h
    by_state true l e = cc
    by_state false l e = refl

    by_line : (o : Option Line) → owned_content o ≡ None → move_row i victim (undo_move t r rest o h) h ≡ fetch_row i victim Write r.block h
    by_line None e = refl
    by_line (Some l) e = by_state (is_owned l.state) l e
