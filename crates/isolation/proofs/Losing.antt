-- A hart that has reserved a block by the entries has it reserved, or has lost its line, after each of its rows; and a conditional store fails only where its block isn't
-- reserved.
use Rattle.std.proofs.Common.{◌≡◌, ◌≢◌, ◌≤◌, ◌⊎◌, ◌-◌, ◌/◌, ◌==◌, ◌&&◌, ℕ, Bool, true, false, List, [], ◌∷◌, Option, None, Some, Result, Ok, Err, cond, length, refl, sym, ap, subst, ◌∙◌, inl, inr, arith}
use Rattle.std.specs.Prelude.{is_none, nat_le, IsSome, IsOkAnd}
use Rattle.std.specs.Option.{option_map}
use Rattle.std.proofs.lemmas.Bool.{ne_eqb}
use Rattle.std.proofs.lemmas.Bool.Decides.{nat_tests}
use Rattle.std.proofs.lemmas.Option.{none-some, same_Some}
use Rattle.words.specs.LineStates.{is_owned}
use Rattle.words.specs.declared.cause.Cause.{Cause}
use Rattle.words.specs.declared.cause.AbortCause.{AbortCause}
use Rattle.words.specs.declared.cause.AbortCause.TheVariants.{LogFull}
use Rattle.words.specs.declared.entry.Entry.{Entry}
use Rattle.words.specs.declared.entry.Entry.TheVariants.{Retire, Abort, Trap, Refuse, Spill}
use Rattle.words.specs.declared.message.Kind.{Kind}
use Rattle.words.specs.declared.message.Kind.TheVariants.{Read, Write}
use Rattle.words.specs.declared.message.LineState.{LineState}
use Rattle.words.specs.declared.message.LineState.TheVariants.{Shared, Exclusive, Modified}
use Rattle.words.specs.Marks.{is_marked}
use Rattle.table.specs.declared.instr.Instr.{Instr}
use Rattle.table.specs.declared.instr.Instr.TheVariants.{LoadReserved}
use Rattle.table.specs.declared.effect.Effect.{Effect}
use Rattle.table.specs.declared.effect.MemoryAct.{MemoryAct}
use Rattle.table.specs.declared.effect.Load.{Load}
use Rattle.table.specs.declared.effect.Store.{Store}
use Rattle.table.specs.declared.effect.Act.{Act}
use Rattle.table.specs.declared.effect.Act.TheVariants as act
use Rattle.table.specs.Effects.{write_of}
use Rattle.table.specs.Table.{decoded}
use Rattle.flat.specs.Bytes.{put_at}
use Rattle.flat.specs.State.{Setting}
use Rattle.flat.specs.Causes.{next_of}
use Rattle.flat.specs.Effects.{old_of, put_of, access}
use Rattle.flat.specs.Reservation.{without_block, is_reserved}
use Rattle.flat.specs.Reservations.{block_of}
use Rattle.flat.proofs.LoadsOrStores.{IsUseful, next_useful}
use Rattle.flat.proofs.Maps.{one_number, put_there}
use Rattle.protocol.specs.Messages.{Message, Granted, Get, Put, Done, Grant, Forward, PutAck, Ack, Nack}
use Rattle.protocol.specs.Lines.{Line, is_enough, byte_in, line_used, line_cleared, line_given, refuses}
use Rattle.protocol.specs.Hart.{Hart, Transaction, LogRecord, PutOut, Request, HartResult, quiet, flat_hart, is_running, has_put_of, with_line, overflow_of}
use Rattle.protocol.specs.Evict.{drop_row, write_back_row, write_back_row_if_none_out, evict_by, evict_line, evict_row, spill_of}
use Rattle.protocol.specs.Requests.{ask_row, with_grant, have_answered, refused_row, granted_row, granted_so_far, answer_row}
use Rattle.protocol.specs.HartMessages.{refuse_row, acknowledge_row, message_row}
use Rattle.protocol.specs.Core.{Move, Rests, Makes, Lacks, start_abort_row, undo_row, undo_move, abort_move, trap_row, retire_row, no_memory, begin_row, commit_row, tabort_row, kind_of, is_log_due, tx_used, access_row, access_move, reserved_with, conditional_move, effect_move, word_of, instruction_move, transaction_move, tx_move, core_move, no_longer_fresh, ask_with_room, victim_for, fetch_row, move_row, core_row}
use Rattle.isolation.specs.FailedStores.{StoresIfReserved, IsLoadReserved}
use Rattle.isolation.proofs.Words.Decoding.{reserves, reserved_act, Reserves, next_reserves}
use Rattle.isolation.proofs.Reserving.{own_after}

-- What is said of a row

-- the entry is of no LR
abbrev pub IsNoReserving : Option Entry → Type 0
IsNoReserving None = Unit {0}
IsNoReserving (Some (Retire j pc w x l s)) = IsLoadReserved (decoded w) → ⊥
IsNoReserving (Some (Abort j c)) = Unit {0}
IsNoReserving (Some (Trap j c p)) = Unit {0}
IsNoReserving (Some (Refuse j k b)) = Unit {0}
IsNoReserving (Some (Spill j b)) = Unit {0}

-- if the next word is a conditional store, its block isn't reserved
abbrev pub FailsWell : Result Effect Cause → Hart → Type 0
FailsWell next h = (b : ℕ) → IsOkAnd next (λ e. StoresIfReserved b e.act) → h.reserved ≢ Some b

-- the entry is hart i's, and a word that stores nothing is no conditional store to a reserved block
abbrev pub TellsFailure : Result Effect Cause → ℕ → Hart → Option Entry → Type 0
TellsFailure next i h None = Unit {0}
TellsFailure next i h (Some (Retire j pc w x l None)) = (j ≡ i) × FailsWell next h
TellsFailure next i h (Some (Retire j pc w x l (Some s))) = j ≡ i
TellsFailure next i h (Some (Abort j c)) = j ≡ i
TellsFailure next i h (Some (Trap j c p)) = j ≡ i
TellsFailure next i h (Some (Refuse j k b)) = j ≡ i
TellsFailure next i h (Some (Spill j b)) = j ≡ i

-- block b was reserved by the entries before, too; and if the hart had it reserved, it still has, or has lost its line for this reason
abbrev pub KnownStill : (ℕ → Type 0) → Hart → Option ℕ → HartResult → ℕ → Type 0
KnownStill Why h known t b = (known ≡ Some b) × IsNoReserving t.entry × (h.reserved ≡ Some b → (t.hart.reserved ≡ Some b) ⊎ ((t.hart.lines b ≡ None) × Why b))

-- a row of hart i, which may take a block's line for this reason
pub record Fades (Why : ℕ → Type 0) (s : Setting) (i depth : ℕ) (h : Hart) (known : Option ℕ) (t : HartResult) : Type 0 where
  pub keeps : (b : ℕ) → own_after depth t.entry known ≡ Some b → (t.hart.reserved ≡ Some b) ⊎ KnownStill Why h known t b
  pub tells : TellsFailure (next_of s (flat_hart h)) i h t.entry

-- a request of another hart that stores takes the line
abbrev pub TakesFor : (ℕ → Type 0) → Kind → ℕ → Type 0
TakesFor Why Read b = Unit {0}
TakesFor Why Write b = Why b

-- and no other message does
abbrev pub MayTake : (ℕ → Type 0) → Message → Type 0
MayTake Why (Forward to b kind r stamp) = TakesFor Why kind b
MayTake Why _ = Unit {0}

-- a word whose act leaves each reservation is no LR
no_reserving : (a : Act) (depth : ℕ) (x : Option Instr) → Reserves x a → reserved_act a depth None (Some 0) ≡ Some 0 → IsLoadReserved x → ⊥
no_reserving a depth None r e k = k
no_reserving a depth (Some (LoadReserved rd rs1 aq rl)) r e k = none-some 0 (r.reserved depth None (Some 0) ∙ e)
no_reserving a depth (Some x) r e k = absurd k

-- the test says that a block isn't reserved
not_reserved : (b : ℕ) (r : Option ℕ) → is_reserved b r ≡ false → r ≢ Some b
not_reserved b None e k = absurd (cc)
not_reserved b (Some c) e k = let same : c ≡ b = same_Some c b k in grind (arith, nat_tests)

module _ (Why : ℕ → Type 0) (s : Setting) (i depth : ℕ) (h : Hart) (known : Option ℕ) where
  abbrev next : Result Effect Cause
  next = next_of s (flat_hart h)

  abbrev Faded : HartResult → Type 0
  Faded t = Fades Why s i depth h known t

  -- a row that leaves the reservation, and whose entry does too
  same : (t : HartResult) → t.hart.reserved ≡ h.reserved → own_after depth t.entry known ≡ known → IsNoReserving t.entry → TellsFailure next i h t.entry → Faded t
  same t reserved after apart tells = record { keeps = λ b e. inr (sym after ∙ e, apart, λ k. inl (reserved ∙ k)); tells = tells }

  -- a row whose entry ends the reservation
  ended : (t : HartResult) → own_after depth t.entry known ≡ None → TellsFailure next i h t.entry → Faded t
  ended t none tells = record { keeps = λ b e. let z = sym none ∙ e in absurd (cc); tells = tells }

  -- a row that takes away the line of a block, and a reservation of it
  left : (t : HartResult) (b : ℕ) → Why b → t.hart.reserved ≡ without_block b h.reserved → t.hart.lines b ≡ None → own_after depth t.entry known ≡ known → IsNoReserving t.entry → TellsFailure next i h t.entry → Faded t
  left t b why reserved gone after apart tells = record { keeps = λ c e. inr (sym after ∙ e, apart, by c); tells = tells }
    where
      at : (c : ℕ) (z : Bool) → (c == b) ≡ z → without_block b (Some c) ≡ cond z None (Some c)
      at c z e = ap (λ z. cond z None (Some c)) e

      by : (c : ℕ) → h.reserved ≡ Some c → (t.hart.reserved ≡ Some c) ⊎ ((t.hart.lines c ≡ None) × Why c)
      by c k = or (c == b) refl
        where
          or : (z : Bool) → (c == b) ≡ z → (t.hart.reserved ≡ Some c) ⊎ ((t.hart.lines c ≡ None) × Why c)
          or true e = inr (ap t.hart.lines (one_number c b e) ∙ gone, subst Why (sym (one_number c b e)) why)
          or false e = inl (reserved ∙ ap (without_block b) k ∙ at c false e)

  either : (z : Bool) (t u : HartResult) → Faded t → Faded u → Faded (cond z t u)
  either true t u a b = a
  either false t u a b = b

  -- Evictions

  abbrev FadedIf : Option HartResult → Type 0
  FadedIf o = (t : HartResult) → o ≡ Some t → Faded t

  one : (u : HartResult) → Faded u → FadedIf (Some u)
  one u k t e = subst Faded (same_Some u t e) k

  none : FadedIf None
  none t e = absurd (cc)

  module _ (b : ℕ) (why : Why b) (l : Line) where
    gave_up : (t : HartResult) → t.hart.reserved ≡ without_block b h.reserved → t.hart.lines ≡ put_at b None h.lines → t.entry ≡ spill_of i b l → Faded t
    gave_up t reserved lines entry = by (is_marked l.marks) refl
      where
        by : (m : Bool) → is_marked l.marks ≡ m → Faded t
        by true e =
            let is : t.entry ≡ Some (Spill i b) = entry ∙ ap (λ m. cond m (Some (Spill i b)) None) e in
            left t b why reserved (ap (λ z. z b) lines ∙ put_there b None h.lines) (ap (λ o. own_after depth o known) is) (subst (λ o. IsNoReserving o) (sym is) tt) (subst (TellsFailure next i h) (sym is) refl)
        by false e =
            let is : t.entry ≡ None = entry ∙ ap (λ m. cond m (Some (Spill i b)) None) e in
            left t b why reserved (ap (λ z. z b) lines ∙ put_there b None h.lines) (ap (λ o. own_after depth o known) is) (subst (λ o. IsNoReserving o) (sym is) tt) (subst (TellsFailure next i h) (sym is) tt)

    by_put : (q : Option PutOut) → FadedIf (write_back_row_if_none_out i b l q h)
    by_put None = one (write_back_row i b l h) (gave_up (write_back_row i b l h) refl refl refl)
    by_put (Some q) = none

    by_state : (z : LineState) → FadedIf (evict_by z i b l h)
    by_state Shared = one (drop_row i b l h) (gave_up (drop_row i b l h) refl refl refl)
    by_state Exclusive = by_put h.put
    by_state Modified = by_put h.put

  by_line : (b : ℕ) → Why b → (o : Option Line) → FadedIf (evict_line i b o h)
  by_line b why None = none
  by_line b why (Some l) = by_state b why l l.state

  pub evict_fades : (b : ℕ) → Why b → FadedIf (evict_row i b h)
  evict_fades b why = by_line b why (h.lines b)

  -- Messages

  so_far : (n : ℕ) (r : Request) (o : Option Granted) → Faded (granted_so_far n i r o h)
  so_far n r None = same _ refl refl tt tt
  so_far n r (Some g) = either (have_answered n g.expect r.answered) _ _ (either r.refused (refused_row i r h) (granted_row i r g h) (same _ refl refl tt tt) (same _ refl refl tt tt)) (same (quiet (record h { request = Some r })) refl refl tt tt)

  answered : (n b : ℕ) (keep : Request → Request) (o : Option Request) → Faded (answer_row n i b keep o h)
  answered n b keep None = same _ refl refl tt tt
  answered n b keep (Some r) = either (r.block == b) _ _ (so_far n (keep r) (keep r).grant) (same (quiet h) refl refl tt tt)

  gone : (o : Option Line) → line_given Write o ≡ None
  gone None = refl
  gone (Some l) = refl

  acknowledged : (b : ℕ) (kind : Kind) (r : ℕ) → TakesFor Why kind b → Faded (acknowledge_row i b kind r h)
  acknowledged b Read r why = same (acknowledge_row i b Read r h) refl refl tt tt
  acknowledged b Write r why = left (acknowledge_row i b Write r h) b why refl (put_there b (line_given Write (h.lines b)) h.lines ∙ gone (h.lines b)) refl tt tt

  pub message_fades : (n : ℕ) (m : Message) → MayTake Why m → Faded (message_row n i m h)
  message_fades n (Get from b kind stamp) why = same _ refl refl tt tt
  message_fades n (Put from b content marked) why = same _ refl refl tt tt
  message_fades n (Done from b ok content) why = same _ refl refl tt tt
  message_fades n (Grant to b granted) why = answered n b (with_grant granted) h.request
  message_fades n (Forward to b kind r stamp) why = either (refuses (h.lines b) (overflow_of h.tx) kind) (refuse_row i b r stamp h) (acknowledge_row i b kind r h) (same _ refl refl tt refl) (acknowledged b kind r why)
  message_fades n (PutAck to b) why = either (has_put_of b h.put) _ _ (same (quiet (record h { put = None })) refl refl tt tt) (same (quiet h) refl refl tt tt)
  message_fades n (Ack from to b content) why = answered n b _ h.request
  message_fades n (Nack from to b stamp) why = answered n b _ h.request

  -- Core steps

  abbrev MoveFades : Move → Type 0
  MoveFades Rests = Unit {0}
  MoveFades (Makes t) = Faded t
  MoveFades (Lacks kind b) = Unit {0}

  undone : (t : Transaction) (r : LogRecord) (rest : List LogRecord) (o : Option Line) → MoveFades (undo_move t r rest o h)
  undone t r rest None = tt
  undone t r rest (Some l) = by (is_owned l.state)
    where
      by : (z : Bool) → MoveFades (cond z (Makes (undo_row t r rest l h)) (Lacks Write r.block))
      by true = same (undo_row t r rest l h) refl refl tt tt
      by false = tt

  aborting : (cause : AbortCause) (t : Transaction) (log : List LogRecord) → MoveFades (abort_move i cause t log h)
  aborting cause t [] = ended _ refl refl
  aborting cause t (r ∷ rest) = undone t r rest (h.lines r.block)

  trapped : (c : Cause) (z : Option Transaction) → Faded (trap_row i c z h)
  trapped c None = ended _ refl refl
  trapped c (Some t) = same _ refl refl tt tt

  abort_starts : (z : Option Transaction) → Faded (tabort_row z h)
  abort_starts None = same _ refl refl tt tt
  abort_starts (Some t) = same _ refl refl tt tt

  -- a word, with what it does to the reservation
  module _ (w nx : ℕ) (wr : Option (ℕ × ℕ)) where
    abbrev does : Act → Effect
    does a = record { next = nx; write = wr; act = a }

    fails_not : (a : Act) → next ≡ Ok (does a) → ((b : ℕ) → StoresIfReserved b a → ⊥) → FailsWell next h
    fails_not a k apart b c e = apart b (subst (λ r. IsOkAnd r (λ e. StoresIfReserved b e.act)) k c)

    -- a word without an access that leaves the reservation
    retired : (a : Act) → next ≡ Ok (does a) → ((b : ℕ) → StoresIfReserved b a → ⊥) → Reserves (decoded w) a → ((r : Option ℕ) → reserved_act a depth None r ≡ r) → (t : HartResult) → t.hart.reserved ≡ h.reserved
        → (x : Option (ℕ × ℕ)) → t.entry ≡ Some (Retire i h.pc w x None None) → Faded t
    retired a k apart tells after t reserved x entry = same t reserved
        (ap (λ o. own_after depth o known) entry ∙ (tells.reserved depth None known ∙ after known))
        (subst (λ o. IsNoReserving o) (sym entry) (no_reserving a depth (decoded w) tells (after (Some 0))))
        (subst (TellsFailure next i h) (sym entry) (refl, fails_not a k apart))

    -- and one that ends it
    cut : (a : Act) → Reserves (decoded w) a → reserved_act a depth None known ≡ None → FailsWell next h → (t : HartResult) → (x : Option (ℕ × ℕ)) → t.entry ≡ Some (Retire i h.pc w x None None) → Faded t
    cut a tells after fails t x entry = ended t (ap (λ o. own_after depth o known) entry ∙ (tells.reserved depth None known ∙ after)) (subst (TellsFailure next i h) (sym entry) (refl, fails))

    -- an access, which leaves this block reserved
    module _ (m : MemoryAct) (kept : Option ℕ) (a : Act) (tells : Reserves (decoded w) a) (fails : m.store ≡ None → FailsWell next h)
        (own : (old : ℕ) (b : ℕ) → reserved_act a depth (option_map (λ q. access m old) m.load) known ≡ Some b → (kept ≡ Some b) ⊎ ((known ≡ Some b) × (IsLoadReserved (decoded w) → ⊥) × (h.reserved ≡ Some b → kept ≡ Some b))) where
      made : (l : Line) (t : HartResult) → t.hart.reserved ≡ kept
          → (x : Option (ℕ × ℕ)) → t.entry ≡ Some (Retire i h.pc w x (option_map (λ q. access m (old_of (byte_in l.content) m)) m.load) (option_map (access m) (option_map (put_of (byte_in l.content) m) m.store))) → Faded t
      made l t reserved x entry = record {
        keeps = λ b e. elim (own (old_of (byte_in l.content) m) b (sym (tells.reserved depth (option_map (λ q. access m (old_of (byte_in l.content) m)) m.load) known) ∙ (ap (λ o. own_after depth o known) (sym entry) ∙ e))) [
          | inl now ↦ inl (reserved ∙ now)
          | inr still ↦ inr (still.0, subst (λ o. IsNoReserving o) (sym entry) still.1, λ k. inl (reserved ∙ still.2 k))
        ];
        tells = subst (TellsFailure next i h) (sym entry) (stores m.store refl);
      }
        where
          stores : (z : Option Store) → m.store ≡ z → TellsFailure next i h (Some (Retire i h.pc w x (option_map (λ q. access m (old_of (byte_in l.content) m)) m.load) (option_map (access m) (option_map (put_of (byte_in l.content) m) z))))
          stores None e = (refl, fails e)
          stores (Some q) e = refl

      rowed : (l : Line) (z : Option Transaction) → Faded (access_row i w (does (act.Memory m)) m kept l z h)
      rowed l None = made l _ refl _ refl
      rowed l (Some t) = either (is_log_due m l && nat_le 113 (length t.log)) (start_abort_row LogFull t h)
          (retire_row i (byte_in l.content) w (does (act.Memory m)) (with_line (m.addr / 32) (Some (line_used true m l)) (record h { tx = Some (tx_used m l t); reserved = kept })))
          (same _ refl refl tt tt) (made l _ refl _ refl)

      accessed : (o : Option Line) → MoveFades (access_move i w (does (act.Memory m)) m kept o h)
      accessed None = tt
      accessed (Some l) = by (is_enough (kind_of m) (Some l))
        where
          by : (z : Bool) → MoveFades (cond z (Makes (access_row i w (does (act.Memory m)) m kept l h.tx h)) (Lacks (kind_of m) (m.addr / 32)))
          by true = rowed l h.tx
          by false = tt

    -- an LR has its block reserved, and any other access leaves what was
    own_plain : (m : MemoryAct) (q : Option Load) → ((reserves q ≡ false) → IsLoadReserved (decoded w) → ⊥) → (old b : ℕ) → cond (reserves q) (option_map block_of (option_map (λ z. access m old) q)) known ≡ Some b
        → (reserved_with m q h.reserved ≡ Some b) ⊎ ((known ≡ Some b) × (IsLoadReserved (decoded w) → ⊥) × (h.reserved ≡ Some b → reserved_with m q h.reserved ≡ Some b))
    own_plain m None apart old b e = inr (e, apart refl, λ k. k)
    own_plain m (Some l) apart old b e = by l.reserves apart e
      where
        by : (z : Bool) → ((z ≡ false) → IsLoadReserved (decoded w) → ⊥) → cond z (Some (m.addr / 32)) known ≡ Some b
            → (cond z (Some (m.addr / 32)) h.reserved ≡ Some b) ⊎ ((known ≡ Some b) × (IsLoadReserved (decoded w) → ⊥) × (h.reserved ≡ Some b → cond z (Some (m.addr / 32)) h.reserved ≡ Some b))
        by true apart e = inl e
        by false apart e = inr (e, apart refl, λ k. k)

  -- in a transaction the entries say how deep it is, and outside that it is none
  module _ (taken : ℕ) (deep : (t : Transaction) → h.tx ≡ Some t → (depth ≡ t.depth) × (1 ≤ t.depth)) (flat : h.tx ≡ None → depth ≡ 0) where
    not_zero : (t : Transaction) → h.tx ≡ Some t → (depth == 0) ≡ false
    not_zero t e = let d = deep t e in ne_eqb depth 0 (λ z. omega (arith, z, d.0, d.1))

    zero_deep : h.tx ≡ None → (depth == 0) ≡ true
    zero_deep e = let d = flat e in grind (arith, nat_tests)

    module _ (w nx : ℕ) (wr : Option (ℕ × ℕ)) where
      abbrev act_does : Act → Effect
      act_does a = record { next = nx; write = wr; act = a }

      begun : (p : ℕ) → next ≡ Ok (act_does (act.Begin p)) → Reserves (decoded w) (act.Begin p) → (z : Option Transaction) → h.tx ≡ z → Faded (begin_row i taken w (act_does (act.Begin p)) p z h)
      begun p k tells None e = cut w nx wr (act.Begin p) tells (ap (λ z. cond z None known) (zero_deep e)) (fails_not w nx wr (act.Begin p) k (λ b x. x)) (begin_row i taken w (act_does (act.Begin p)) p None h) _ refl
      begun p k tells (Some t) e = retired w nx wr (act.Begin p) k (λ b x. x) tells (λ r. ap (λ z. cond z None r) (not_zero t e)) (begin_row i taken w (act_does (act.Begin p)) p (Some t) h) refl _ refl

      committed : next ≡ Ok (act_does act.Commit) → Reserves (decoded w) act.Commit → (z : Option Transaction) → h.tx ≡ z → Faded (commit_row i w (act_does act.Commit) z h)
      committed k tells None e = retired w nx wr act.Commit k (λ b x. x) tells (λ r. ap (λ d. cond (d == 1) None r) (flat e)) (commit_row i w (act_does act.Commit) None h) refl _ refl
      committed k tells (Some t) e = by (t.depth == 1) refl
        where
          by : (z : Bool) → (t.depth == 1) ≡ z → Faded (cond z (retire_row i no_memory w (act_does act.Commit) (record h { tx = None; reserved = None; lines = λ b. line_cleared (h.lines b) }))
              (retire_row i no_memory w (act_does act.Commit) (record h { tx = Some (record t { depth = t.depth - 1 }) })))
          by true one = cut w nx wr act.Commit tells (ap (λ d. cond (d == 1) None known) (deep t e).0 ∙ ap (λ z. cond z None known) one) (fails_not w nx wr act.Commit k (λ b x. x)) _ _ refl
          by false more = retired w nx wr act.Commit k (λ b x. x) tells (λ r. ap (λ d. cond (d == 1) None r) (deep t e).0 ∙ ap (λ z. cond z None r) more) _ refl _ refl

      conditioned : (rd : ℕ) (m : MemoryAct) → IsSome m.store → next ≡ Ok (act_does (act.Conditional rd m)) → Reserves (decoded w) (act.Conditional rd m) → MoveFades (conditional_move i w (act_does (act.Conditional rd m)) m h)
      conditioned rd m some k tells = by (is_reserved (m.addr / 32) h.reserved) refl
        where
          no_store : (o : Option Store) → IsSome o → o ≡ None → ⊥
          no_store None some e = cc
          no_store (Some q) some e = cc

          by : (z : Bool) → is_reserved (m.addr / 32) h.reserved ≡ z
              → MoveFades (cond z (access_move i w (record { next = nx; write = write_of rd 0; act = act.Memory m }) m None (h.lines (m.addr / 32)) h)
              (Makes (retire_row i no_memory w (record { next = nx; write = write_of rd 1; act = act.Nothing }) (record h { reserved = None }))))
          by true is = accessed w nx (write_of rd 0) m None (act.Conditional rd m) tells (λ e. absurd (no_store m.store some e)) (λ old b e. absurd (cc)) (h.lines (m.addr / 32))
          by false not = cut w nx (write_of rd 1) (act.Conditional rd m) tells refl
              (λ b c. subst (λ z. h.reserved ≢ Some z) (subst (λ r. IsOkAnd r (λ e. StoresIfReserved b e.act)) k c) (not_reserved (m.addr / 32) h.reserved not)) _ _ refl

      effected : (a : Act) → IsUseful a → next ≡ Ok (act_does a) → Reserves (decoded w) a → MoveFades (effect_move i taken w (act_does a) a h)
      effected act.Nothing useful k tells = retired w nx wr act.Nothing k (λ b x. x) tells (λ r. refl) (retire_row i no_memory w (act_does act.Nothing) h) refl _ refl
      effected (act.Memory m) useful k tells = accessed w nx wr m (reserved_with m m.load h.reserved) (act.Memory m) tells (λ e. fails_not w nx wr (act.Memory m) k (λ b x. x))
          (own_plain w nx wr m m.load (λ e. no_reserving (act.Memory m) depth (decoded w) tells (ap (λ z. cond z (option_map block_of None) (Some 0)) e))) (h.lines (m.addr / 32))
      effected (act.Conditional rd m) useful k tells = conditioned rd m useful k tells
      effected (act.Begin p) useful k tells = begun p k tells h.tx refl
      effected act.Commit useful k tells = committed k tells h.tx refl
      effected act.Abort useful k tells = abort_starts h.tx
      effected act.Call useful k tells = retired w nx wr act.Call k (λ b x. x) tells (λ r. refl) (retire_row i no_memory w (act_does act.Call) h) refl _ refl
      effected act.Break useful k tells = retired w nx wr act.Break k (λ b x. x) tells (λ r. refl) (retire_row i no_memory w (act_does act.Break) h) refl _ refl

    worded : (z : Result Effect Cause) → next ≡ z → MoveFades (instruction_move s i taken z h)
    worded (Err c) k = trapped c h.tx
    worded (Ok e) k = effected (word_of s h) e.next e.write e.act (next_useful s (flat_hart h) e k) k (next_reserves s (flat_hart h) e k)

    inside : (t : Transaction) (z : Option AbortCause) → MoveFades (transaction_move s i taken t z h)
    inside t None = worded next refl
    inside t (Some cause) = aborting cause t t.log

    by_tx : (z : Option Transaction) → MoveFades (tx_move s i taken z h)
    by_tx None = worded next refl
    by_tx (Some t) = inside t t.aborting

    moves : MoveFades (core_move s i taken h)
    moves = by (is_running h.status && is_none h.request)
      where
        by : (z : Bool) → MoveFades (cond z (tx_move s i taken h.tx h) Rests)
        by true = by_tx h.tx
        by false = tt

    module _ (why : (b : ℕ) → Why b) (victim : ℕ → Option ℕ) where
      longer : (o : Option HartResult) → FadedIf o → FadedIf (option_map no_longer_fresh o)
      longer None k = none
      longer (Some u) k = one (no_longer_fresh u) (let d = k u refl in record { keeps = d.keeps; tells = d.tells })

      with_room : (kind : Kind) (b : ℕ) (z : Option ℕ) → FadedIf (ask_with_room i kind b z h)
      with_room kind b None = one (ask_row i kind b h) (same _ refl refl tt tt)
      with_room kind b (Some c) = longer (evict_row i c h) (evict_fades c (why c))

      fetched : (kind : Kind) (b : ℕ) → FadedIf (fetch_row i victim kind b h)
      fetched kind b = by (has_put_of b h.put)
        where
          by : (z : Bool) → FadedIf (cond z None (ask_with_room i kind b (victim_for victim b (h.lines b)) h))
          by true = none
          by false = with_room kind b (victim_for victim b (h.lines b))

      moved : (m : Move) → MoveFades m → FadedIf (move_row i victim m h)
      moved Rests k = none
      moved (Makes t) k = one t k
      moved (Lacks kind b) k = fetched kind b

      pub core_fades : FadedIf (core_row s i taken victim h)
      core_fades = moved (core_move s i taken h) moves
