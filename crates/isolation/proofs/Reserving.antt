-- A hart has reserved a block only if the entries say so, and only while it has a line of it; and what it stores it stores to an E or M line. So it is after each
-- row.
use Rattle.std.proofs.Common.{◌≡◌, ◌≢◌, ◌≤◌, ◌-◌, ◌+◌, ◌/◌, ◌==◌, ◌&&◌, ℕ, Bool, true, false, List, [], ◌∷◌, Option, None, Some, Result, Ok, Err, cond, length, nat_lt, refl, sym, ap, subst, ◌∙◌, arith}
use Rattle.std.specs.Prelude.{is_some, is_none, nat_le, IsSome}
use Rattle.std.specs.Option.{option_map}
use Rattle.std.proofs.lemmas.Bool.{ne_eqb}
use Rattle.std.proofs.lemmas.Option.{same_Some}
use Rattle.words.specs.LineStates.{is_owned}
use Rattle.words.specs.declared.cause.Cause.{Cause}
use Rattle.words.specs.declared.cause.AbortCause.{AbortCause}
use Rattle.words.specs.declared.cause.AbortCause.TheVariants.{LogFull}
use Rattle.words.specs.declared.entry.Access.{Access}
use Rattle.words.specs.declared.entry.Entry.{Entry}
use Rattle.words.specs.declared.entry.Entry.TheVariants.{Retire, Abort, Trap, Refuse, Spill}
use Rattle.words.specs.declared.message.Kind.{Kind}
use Rattle.words.specs.declared.message.Kind.TheVariants.{Read, Write}
use Rattle.words.specs.declared.message.LineState.{LineState}
use Rattle.words.specs.declared.message.LineState.TheVariants.{Shared, Exclusive, Modified}
use Rattle.words.specs.declared.stamp.Stamp.{Stamp}
use Rattle.words.specs.Marks.{is_marked}
use Rattle.table.specs.declared.effect.Effect.{Effect}
use Rattle.table.specs.declared.effect.MemoryAct.{MemoryAct}
use Rattle.table.specs.declared.effect.Load.{Load}
use Rattle.table.specs.declared.effect.Store.{Store}
use Rattle.table.specs.declared.effect.Act.{Act}
use Rattle.table.specs.declared.effect.Act.TheVariants as act
use Rattle.table.specs.Effects.{write_of}
use Rattle.table.specs.Table.{decoded}
use Rattle.flat.specs.Bytes.{put_at}
use Rattle.flat.specs.State.{Setting}
use Rattle.flat.specs.Causes.{next_of}
use Rattle.flat.specs.Effects.{old_of, put_of, access}
use Rattle.flat.specs.Reservation.{without_block, is_reserved}
use Rattle.flat.specs.Reservations.{block_of, reserved_by, IsConditional}
use Rattle.flat.proofs.Maps.{one_number, two_numbers, put_there, put_elsewhere}
use Rattle.protocol.specs.Messages.{Block, Message, Granted, Get, Put, Done, Grant, Forward, PutAck, Ack, Nack}
use Rattle.protocol.specs.Lines.{Line, is_enough, byte_in, line_used, line_undone, line_cleared, line_given, refuses}
use Rattle.protocol.specs.Hart.{Hart, Transaction, LogRecord, PutOut, Request, HartResult, quiet, flat_hart, is_running, has_put_of, with_line, overflow_of}
use Rattle.protocol.specs.Evict.{drop_row, write_back_row, write_back_row_if_none_out, evict_by, evict_line, evict_row, spill_of}
use Rattle.protocol.specs.Requests.{ask_row, with_grant, with_ack, with_nack, have_answered, refused_row, granted_row, granted_so_far, answer_row, line_granted}
use Rattle.protocol.specs.HartMessages.{refuse_row, acknowledge_row, forward_row, put_ack_row, message_row}
use Rattle.protocol.specs.Core.{Move, Rests, Makes, Lacks, start_abort_row, undo_row, undo_move, abort_move, trap_row, retire_row, no_memory, begin_row, commit_row, tabort_row, kind_of, is_log_due, tx_used, access_row, access_move, reserved_with, conditional_move, effect_move, word_of, instruction_move, transaction_move, tx_move, core_move, no_longer_fresh, ask_with_room, victim_for, fetch_row, move_row, core_row}
use Rattle.isolation.proofs.Words.Decoding.{reserves, reserved_act, is_conditional, Reserves, next_reserves}

-- What is said of a row

-- what an entry of its own makes of a hart's reservation, where the hart is so deep in transactions
abbrev pub own_after : ℕ → Option Entry → Option ℕ → Option ℕ
own_after depth None r = r
own_after depth (Some (Retire i pc w x l s)) r = reserved_by (decoded w) depth l r
own_after depth (Some (Abort i c)) r = None
own_after depth (Some (Trap i c p)) r = None
own_after depth (Some (Refuse j i b)) r = r
own_after depth (Some (Spill i b)) r = r

-- a reserved block is the one that the entries say, and has a line
abbrev pub Holds : Option ℕ → (ℕ → Option Line) → Option ℕ → Type 0
Holds reserved lines known = (b : ℕ) → reserved ≡ Some b → (known ≡ Some b) × IsSome (lines b)

-- an E or M line of a block
abbrev pub IsOwning : Hart → ℕ → Type 0
IsOwning h b = (l : Line) × (h.lines b ≡ Some l) × (is_owned l.state ≡ true)

-- a store is to an E or M line, and a conditional store to the block that its hart had reserved
abbrev pub StoresWell : Hart → Option ℕ → ℕ → Option Access → Type 0
StoresWell h known w None = Unit {0}
StoresWell h known w (Some s) = IsOwning h (block_of s) × (IsConditional (decoded w) → known ≡ Some (block_of s))

-- the entry is hart i's, and what it stores it stores well
abbrev pub TellsWell : ℕ → Hart → Option ℕ → Option Entry → Type 0
TellsWell i h known None = Unit {0}
TellsWell i h known (Some (Retire j pc w x l s)) = (j ≡ i) × StoresWell h known w s
TellsWell i h known (Some (Abort j c)) = j ≡ i
TellsWell i h known (Some (Trap j c p)) = j ≡ i
TellsWell i h known (Some (Refuse j k b)) = j ≡ i
TellsWell i h known (Some (Spill j b)) = j ≡ i

-- a row of hart i keeps it so
pub record Keeps (i depth : ℕ) (h : Hart) (known : Option ℕ) (t : HartResult) : Type 0 where
  pub own : Holds t.hart.reserved t.hart.lines (own_after depth t.entry known)
  pub tells : TellsWell i h known t.entry

-- Lines

-- a line that is put is there, and the others stay
put_stays : (b : ℕ) (l : Line) (lines : ℕ → Option Line) (c : ℕ) → IsSome (lines c) → IsSome (put_at b (Some l) lines c)
put_stays b l lines c there = by (c == b)
  where
    by : (z : Bool) → IsSome (cond z (Some l) (lines c))
    by true = refl
    by false = there

put_is : (b : ℕ) (l : Line) (lines : ℕ → Option Line) → IsSome (put_at b (Some l) lines b)
put_is b l lines = subst (λ o. IsSome o) (sym (put_there b (Some l) lines)) refl

-- what is taken from one block leaves the others
taken_stays : (b : ℕ) (o : Option Line) (lines : ℕ → Option Line) (c : ℕ) → c ≢ b → IsSome (lines c) → IsSome (put_at b o lines c)
taken_stays b o lines c ne there = subst (λ o. IsSome o) (sym (put_elsewhere b c o lines ne)) there

-- Reservations

-- a reservation that is not of block b is what it was
left_apart : (b c : ℕ) (r : Option ℕ) → without_block b r ≡ Some c → (r ≡ Some c) × (c ≢ b)
left_apart b c None e = absurd (cc)
left_apart b c (Some d) e = by (d == b) refl e
  where
    by : (z : Bool) → (d == b) ≡ z → cond z None (Some d) ≡ Some c → (Some d ≡ Some c) × (c ≢ b)
    by true k e = absurd (cc)
    by false k e = let same : d ≡ c = cc in (e, λ z. two_numbers d b k (same ∙ z))

none_reserved : (lines : ℕ → Option Line) (known : Option ℕ) → Holds None lines known
none_reserved lines known b e = absurd (cc)

-- the test says that a block is reserved
reserved_is : (b : ℕ) (r : Option ℕ) → is_reserved b r ≡ true → r ≡ Some b
reserved_is b None e = absurd (cc)
reserved_is b (Some c) e = ap Some (one_number c b e)

module _ (i depth : ℕ) (h : Hart) (known : Option ℕ) (v : Holds h.reserved h.lines known) where
  abbrev Kept : HartResult → Type 0
  Kept t = Keeps i depth h known t

  -- a row that leaves the reservation, and its entry too, and takes no line away
  same : (t : HartResult) → t.hart.reserved ≡ h.reserved → own_after depth t.entry known ≡ known → ((c : ℕ) → IsSome (h.lines c) → IsSome (t.hart.lines c)) → TellsWell i h known t.entry → Kept t
  same t reserved after lines tells = record {
    own = λ b e. let was = v b (sym reserved ∙ e) in (after ∙ was.0, lines b was.1);
    tells = tells;
  }

  -- a row that ends the reservation
  ended : (t : HartResult) → t.hart.reserved ≡ None → TellsWell i h known t.entry → Kept t
  ended t none tells = record { own = λ b e. let no = sym none ∙ e in absurd (cc); tells = tells }

  -- a row that takes away the line of a block, and a reservation of it
  left : (t : HartResult) (b : ℕ) (o : Option Line) → t.hart.reserved ≡ without_block b h.reserved → t.hart.lines ≡ put_at b o h.lines → own_after depth t.entry known ≡ known → TellsWell i h known t.entry → Kept t
  left t b o reserved lines after tells = record {
    own = λ c e.
        let apart = left_apart b c h.reserved (sym reserved ∙ e) in
        let was = v c apart.0 in
        (after ∙ was.0, subst (λ z. IsSome (z c)) (sym lines) (taken_stays b o h.lines c apart.1 was.1));
    tells = tells;
  }

  either : (z : Bool) (t u : HartResult) → Kept t → Kept u → Kept (cond z t u)
  either true t u a b = a
  either false t u a b = b

  stay : (c : ℕ) → IsSome (h.lines c) → IsSome (h.lines c)
  stay c there = there

  -- Evictions

  spill_after : (b : ℕ) (l : Line) → own_after depth (spill_of i b l) known ≡ known
  spill_after b l = by (is_marked l.marks)
    where
      by : (z : Bool) → own_after depth (cond z (Some (Spill i b)) None) known ≡ known
      by true = refl
      by false = refl

  spill_tells : (b : ℕ) (l : Line) → TellsWell i h known (spill_of i b l)
  spill_tells b l = by (is_marked l.marks)
    where
      by : (z : Bool) → TellsWell i h known (cond z (Some (Spill i b)) None)
      by true = refl
      by false = tt

  abbrev KeptIf : Option HartResult → Type 0
  KeptIf o = (t : HartResult) → o ≡ Some t → Kept t

  one : (u : HartResult) → Kept u → KeptIf (Some u)
  one u k t e = subst Kept (same_Some u t e) k

  none : KeptIf None
  none t e = absurd (cc)

  by_put : (b : ℕ) (l : Line) (p : Option PutOut) → KeptIf (write_back_row_if_none_out i b l p h)
  by_put b l None = one (write_back_row i b l h) (left (write_back_row i b l h) b None refl refl (spill_after b l) (spill_tells b l))
  by_put b l (Some p) = none

  by_state : (b : ℕ) (l : Line) (z : LineState) → KeptIf (evict_by z i b l h)
  by_state b l Shared = one (drop_row i b l h) (left (drop_row i b l h) b None refl refl (spill_after b l) (spill_tells b l))
  by_state b l Exclusive = by_put b l h.put
  by_state b l Modified = by_put b l h.put

  by_line : (b : ℕ) (o : Option Line) → KeptIf (evict_line i b o h)
  by_line b None = none
  by_line b (Some l) = by_state b l l.state

  pub evict_keeps : (b : ℕ) → KeptIf (evict_row i b h)
  evict_keeps b = by_line b (h.lines b)

  -- Messages

  so_far : (n : ℕ) (r : Request) (o : Option Granted) → Kept (granted_so_far n i r o h)
  so_far n r None = same _ refl refl stay tt
  so_far n r (Some g) = either (have_answered n g.expect r.answered) _ _
      (either r.refused (refused_row i r h) (granted_row i r g h) (same _ refl refl stay tt) (same _ refl refl (put_stays r.block (line_granted r g h) h.lines) tt))
      (same (quiet (record h { request = Some r })) refl refl stay tt)

  answered : (n b : ℕ) (keep : Request → Request) (o : Option Request) → Kept (answer_row n i b keep o h)
  answered n b keep None = same _ refl refl stay tt
  answered n b keep (Some r) = either (r.block == b) _ _ (so_far n (keep r) (keep r).grant) (same (quiet h) refl refl stay tt)

  given_stays : (b c : ℕ) (o : Option Line) → IsSome (h.lines c) → h.lines b ≡ o → IsSome (put_at b (line_given Read o) h.lines c)
  given_stays b c None there e = by (c == b) refl
    where
      by : (z : Bool) → (c == b) ≡ z → IsSome (cond z None (h.lines c))
      by true k = let gone : h.lines c ≡ None = ap h.lines (one_number c b k) ∙ e in subst (λ o. IsSome o) gone there
      by false k = there
  given_stays b c (Some l) there e = put_stays b (record l { state = Shared }) h.lines c there

  acknowledged : (b : ℕ) (kind : Kind) (r : ℕ) → Kept (acknowledge_row i b kind r h)
  acknowledged b Read r = same (acknowledge_row i b Read r h) refl refl (λ c there. given_stays b c (h.lines b) there refl) tt
  acknowledged b Write r = left (acknowledge_row i b Write r h) b (line_given Write (h.lines b)) refl refl refl tt

  pub message_keeps : (n : ℕ) (m : Message) → Kept (message_row n i m h)
  message_keeps n (Get from b kind stamp) = same _ refl refl stay tt
  message_keeps n (Put from b content marked) = same _ refl refl stay tt
  message_keeps n (Done from b ok content) = same _ refl refl stay tt
  message_keeps n (Grant to b granted) = answered n b (with_grant granted) h.request
  message_keeps n (Forward to b kind r stamp) = either (refuses (h.lines b) (overflow_of h.tx) kind) (refuse_row i b r stamp h) (acknowledge_row i b kind r h) (same _ refl refl stay refl) (acknowledged b kind r)
  message_keeps n (PutAck to b) = either (has_put_of b h.put) _ _ (same (quiet (record h { put = None })) refl refl stay tt) (same (quiet h) refl refl stay tt)
  message_keeps n (Ack from to b content) = answered n b _ h.request
  message_keeps n (Nack from to b stamp) = answered n b _ h.request

  -- Core steps

  abbrev MoveKeeps : Move → Type 0
  MoveKeeps Rests = Unit {0}
  MoveKeeps (Makes t) = Kept t
  MoveKeeps (Lacks kind b) = Unit {0}

  undone : (t : Transaction) (r : LogRecord) (rest : List LogRecord) (o : Option Line) → MoveKeeps (undo_move t r rest o h)
  undone t r rest None = tt
  undone t r rest (Some l) = by (is_owned l.state)
    where
      by : (z : Bool) → MoveKeeps (cond z (Makes (undo_row t r rest l h)) (Lacks Write r.block))
      by true = same (undo_row t r rest l h) refl refl (put_stays r.block (line_undone r.before l) h.lines) tt
      by false = tt

  aborting : (cause : AbortCause) (t : Transaction) (log : List LogRecord) → MoveKeeps (abort_move i cause t log h)
  aborting cause t [] = ended _ refl refl
  aborting cause t (r ∷ rest) = undone t r rest (h.lines r.block)

  trapped : (c : Cause) (z : Option Transaction) → Kept (trap_row i c z h)
  trapped c None = ended _ refl refl
  trapped c (Some t) = same _ refl refl stay tt

  abort_starts : (z : Option Transaction) → Kept (tabort_row z h)
  abort_starts None = same _ refl refl stay tt
  abort_starts (Some t) = same _ refl refl stay tt

  -- a word, with what it does to the reservation
  module _ (w nx : ℕ) (wr : Option (ℕ × ℕ)) where
    abbrev does : Act → Effect
    does a = record { next = nx; write = wr; act = a }

    -- a word without an act, and a call
    retired : (a : Act) → Reserves (decoded w) a → reserved_act a depth None known ≡ known → (t : HartResult) → t.hart.reserved ≡ h.reserved → t.hart.lines ≡ h.lines
        → (x : Option (ℕ × ℕ)) → t.entry ≡ Some (Retire i h.pc w x None None) → Kept t
    retired a tells after t reserved lines x entry = same t reserved
        (ap (λ o. own_after depth o known) entry ∙ (tells.reserved depth None known ∙ after))
        (λ c there. subst (λ z. IsSome (z c)) (sym lines) there)
        (subst (TellsWell i h known) (sym entry) (refl, tt))

    cut : (t : HartResult) → t.hart.reserved ≡ None → (x : Option (ℕ × ℕ)) → t.entry ≡ Some (Retire i h.pc w x None None) → Kept t
    cut t gone x entry = ended t gone (subst (TellsWell i h known) (sym entry) (refl, tt))

    -- an access, which leaves this block reserved
    module _ (m : MemoryAct) (kept : Option ℕ) (a : Act) (tells : Reserves (decoded w) a) (conditional : is_conditional a ≡ true → known ≡ Some (m.addr / 32))
        (own : (old : ℕ) (l : Line) → Holds kept (put_at (m.addr / 32) (Some l) h.lines) (reserved_act a depth (option_map (λ q. access m old) m.load) known)) where
      made : (l : Line) → h.lines (m.addr / 32) ≡ Some l → is_enough (kind_of m) (Some l) ≡ true → (u : Line) (t : HartResult) → t.hart.reserved ≡ kept → t.hart.lines ≡ put_at (m.addr / 32) (Some u) h.lines
          → (x : Option (ℕ × ℕ)) → t.entry ≡ Some (Retire i h.pc w x (option_map (λ q. access m (old_of (byte_in l.content) m)) m.load) (option_map (access m) (option_map (put_of (byte_in l.content) m) m.store))) → Kept t
      made l k enough u t reserved lines x entry = record {
        own = λ b e.
            let was = own (old_of (byte_in l.content) m) u b (sym reserved ∙ e) in
            (ap (λ o. own_after depth o known) entry ∙ (tells.reserved depth _ known ∙ was.0), subst (λ z. IsSome (z b)) (sym lines) was.1);
        tells = subst (TellsWell i h known) (sym entry) (refl, stores m.store refl);
      }
        where
          stores : (z : Option Store) → m.store ≡ z → StoresWell h known w (option_map (access m) (option_map (put_of (byte_in l.content) m) z))
          stores None e = tt
          stores (Some q) e = ((l, k, subst (λ y. is_enough (cond (is_some y) Write Read) (Some l) ≡ true) e enough), λ c. conditional (tells.conditional c))

      rowed : (l : Line) → h.lines (m.addr / 32) ≡ Some l → is_enough (kind_of m) (Some l) ≡ true → (z : Option Transaction) → Kept (access_row i w (does (act.Memory m)) m kept l z h)
      rowed l k enough None = made l k enough (line_used false m l) _ refl refl _ refl
      rowed l k enough (Some t) = either (is_log_due m l && nat_le 113 (length t.log)) (start_abort_row LogFull t h)
          (retire_row i (byte_in l.content) w (does (act.Memory m)) (with_line (m.addr / 32) (Some (line_used true m l)) (record h { tx = Some (tx_used m l t); reserved = kept })))
          (same _ refl refl stay tt)
          (made l k enough (line_used true m l) _ refl refl _ refl)

      accessed : (o : Option Line) → h.lines (m.addr / 32) ≡ o → MoveKeeps (access_move i w (does (act.Memory m)) m kept o h)
      accessed None k = tt
      accessed (Some l) k = by (is_enough (kind_of m) (Some l)) refl
        where
          by : (z : Bool) → is_enough (kind_of m) (Some l) ≡ z → MoveKeeps (cond z (Makes (access_row i w (does (act.Memory m)) m kept l h.tx h)) (Lacks (kind_of m) (m.addr / 32)))
          by true enough = rowed l k enough h.tx
          by false less = tt

    -- after a load that reserves its block is reserved, after any other access what was
    own_plain : (m : MemoryAct) (q : Option Load) (old : ℕ) (l : Line)
        → Holds (reserved_with m q h.reserved) (put_at (m.addr / 32) (Some l) h.lines) (cond (reserves q) (option_map block_of (option_map (λ z. access m old) q)) known)
    own_plain m None old l = λ b e. let was = v b e in (was.0, put_stays (m.addr / 32) l h.lines b was.1)
    own_plain m (Some q) old l = by q.reserves
      where
        by : (z : Bool) → Holds (cond z (Some (m.addr / 32)) h.reserved) (put_at (m.addr / 32) (Some l) h.lines) (cond z (Some (m.addr / 32)) known)
        by true = λ b e. let same : m.addr / 32 ≡ b = cc in (e, subst (λ c. IsSome (put_at (m.addr / 32) (Some l) h.lines c)) same (put_is (m.addr / 32) l h.lines))
        by false = λ b e. let was = v b e in (was.0, put_stays (m.addr / 32) l h.lines b was.1)

  -- in a transaction the entries say how deep it is, and outside that it is none
  module _ (s : Setting) (taken : ℕ) (deep : (t : Transaction) → h.tx ≡ Some t → (depth ≡ t.depth) × (1 ≤ t.depth)) (flat : h.tx ≡ None → depth ≡ 0) where
    not_zero : (t : Transaction) → h.tx ≡ Some t → (depth == 0) ≡ false
    not_zero t e = let d = deep t e in ne_eqb depth 0 (λ z. omega (arith, z, d.0, d.1))

    module _ (w nx : ℕ) (wr : Option (ℕ × ℕ)) where
      abbrev act_does : Act → Effect
      act_does a = record { next = nx; write = wr; act = a }

      begun : (p : ℕ) → Reserves (decoded w) (act.Begin p) → (z : Option Transaction) → h.tx ≡ z → Kept (begin_row i taken w (act_does (act.Begin p)) p z h)
      begun p tells None e = cut w nx wr _ refl _ refl
      begun p tells (Some t) e = retired w nx wr (act.Begin p) tells (ap (λ z. cond z None known) (not_zero t e)) _ refl refl _ refl

      committed : Reserves (decoded w) act.Commit → (z : Option Transaction) → h.tx ≡ z → Kept (commit_row i w (act_does act.Commit) z h)
      committed tells None e = retired w nx wr act.Commit tells (ap (λ d. cond (d == 1) None known) (flat e)) _ refl refl _ refl
      committed tells (Some t) e = by (t.depth == 1) refl
        where
          by : (z : Bool) → (t.depth == 1) ≡ z → Kept (cond z (retire_row i no_memory w (act_does act.Commit) (record h { tx = None; reserved = None; lines = λ b. line_cleared (h.lines b) }))
              (retire_row i no_memory w (act_does act.Commit) (record h { tx = Some (record t { depth = t.depth - 1 }) })))
          by true one = cut w nx wr _ refl _ refl
          by false more = retired w nx wr act.Commit tells (ap (λ d. cond (d == 1) None known) (deep t e).0 ∙ ap (λ z. cond z None known) more) _ refl refl _ refl

      conditioned : (rd : ℕ) (m : MemoryAct) → Reserves (decoded w) (act.Conditional rd m) → MoveKeeps (conditional_move i w (act_does (act.Conditional rd m)) m h)
      conditioned rd m tells = by (is_reserved (m.addr / 32) h.reserved) refl
        where
          by : (z : Bool) → is_reserved (m.addr / 32) h.reserved ≡ z
              → MoveKeeps (cond z (access_move i w (record { next = nx; write = write_of rd 0; act = act.Memory m }) m None (h.lines (m.addr / 32)) h)
              (Makes (retire_row i no_memory w (record { next = nx; write = write_of rd 1; act = act.Nothing }) (record h { reserved = None }))))
          by true is = accessed w nx (write_of rd 0) m None (act.Conditional rd m) tells (λ c. (v (m.addr / 32) (reserved_is (m.addr / 32) h.reserved is)).0)
              (λ old l. none_reserved (put_at (m.addr / 32) (Some l) h.lines) None) (h.lines (m.addr / 32)) refl
          by false not = cut w nx (write_of rd 1) _ refl _ refl

      effected : (a : Act) → Reserves (decoded w) a → MoveKeeps (effect_move i taken w (act_does a) a h)
      effected act.Nothing tells = retired w nx wr act.Nothing tells refl _ refl refl _ refl
      effected (act.Memory m) tells = accessed w nx wr m (reserved_with m m.load h.reserved) (act.Memory m) tells (λ c. absurd (cc)) (own_plain w nx wr m m.load) (h.lines (m.addr / 32)) refl
      effected (act.Conditional rd m) tells = conditioned rd m tells
      effected (act.Begin p) tells = begun p tells h.tx refl
      effected act.Commit tells = committed tells h.tx refl
      effected act.Abort tells = abort_starts h.tx
      effected act.Call tells = retired w nx wr act.Call tells refl _ refl refl _ refl
      effected act.Break tells = retired w nx wr act.Break tells refl _ refl refl _ refl

    worded : (z : Result Effect Cause) → next_of s (flat_hart h) ≡ z → MoveKeeps (instruction_move s i taken z h)
    worded (Err c) k = trapped c h.tx
    worded (Ok e) k = effected (word_of s h) e.next e.write e.act (next_reserves s (flat_hart h) e k)

    inside : (t : Transaction) (z : Option AbortCause) → MoveKeeps (transaction_move s i taken t z h)
    inside t None = worded (next_of s (flat_hart h)) refl
    inside t (Some cause) = aborting cause t t.log

    by_tx : (z : Option Transaction) → MoveKeeps (tx_move s i taken z h)
    by_tx None = worded (next_of s (flat_hart h)) refl
    by_tx (Some t) = inside t t.aborting

    moves : MoveKeeps (core_move s i taken h)
    moves = by (is_running h.status && is_none h.request)
      where
        by : (z : Bool) → MoveKeeps (cond z (tx_move s i taken h.tx h) Rests)
        by true = by_tx h.tx
        by false = tt

    module _ (victim : ℕ → Option ℕ) where
      longer : (o : Option HartResult) → KeptIf o → KeptIf (option_map no_longer_fresh o)
      longer None k = none
      longer (Some u) k = one (no_longer_fresh u) (let d = k u refl in record { own = d.own; tells = d.tells })

      with_room : (kind : Kind) (b : ℕ) (z : Option ℕ) → KeptIf (ask_with_room i kind b z h)
      with_room kind b None = one (ask_row i kind b h) (same _ refl refl stay tt)
      with_room kind b (Some c) = longer (evict_row i c h) (evict_keeps c)

      fetched : (kind : Kind) (b : ℕ) → KeptIf (fetch_row i victim kind b h)
      fetched kind b = by (has_put_of b h.put)
        where
          by : (z : Bool) → KeptIf (cond z None (ask_with_room i kind b (victim_for victim b (h.lines b)) h))
          by true = none
          by false = with_room kind b (victim_for victim b (h.lines b))

      moved : (m : Move) → MoveKeeps m → KeptIf (move_row i victim m h)
      moved Rests k = none
      moved (Makes t) k = one t k
      moved (Lacks kind b) k = fetched kind b

      pub core_keeps : KeptIf (core_row s i taken victim h)
      core_keeps = moved (core_move s i taken h) moves
