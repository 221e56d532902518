-- What is said of a hart beside its footprint holds after each of its rows, and each Spill and each abort for a full log has its reason.
use Rattle.std.proofs.Common.{◌≡◌, ◌≤◌, ◌⊎◌, ◌-◌, ◌+◌, ◌/◌, ◌==◌, ◌&&◌, ◌||◌, ℕ, Bool, true, false, List, [], ◌∷◌, Option, None, Some, Result, Ok, Err, cond, length, not, refl, sym, ap, subst, ◌∙◌, inl, inr, arith}
use Rattle.std.specs.Prelude.{is_some, is_none, nat_le, IsSome, IsOkAnd}
use Rattle.std.specs.Option.{option_map}
use Rattle.std.proofs.lemmas.Bool.{ne_eqb, and_parts}
use Rattle.std.proofs.lemmas.Bool.Decides.{nat_tests}
use Rattle.std.proofs.lemmas.Option.{same_Some}
use Rattle.words.specs.LineStates.{is_owned}
use Rattle.words.specs.declared.cause.Cause.{Cause}
use Rattle.words.specs.declared.cause.AbortCause.{AbortCause}
use Rattle.words.specs.declared.cause.AbortCause.TheVariants.{Asked, LogFull, Trapped}
use Rattle.words.specs.declared.entry.Access.{Access}
use Rattle.words.specs.declared.entry.Entry.TheVariants.{Retire, Spill}
use Rattle.words.specs.declared.marks.Marks.{Marks}
use Rattle.words.specs.declared.message.Kind.{Kind}
use Rattle.words.specs.declared.message.Kind.TheVariants.{Read, Write}
use Rattle.words.specs.declared.message.LineState.{LineState}
use Rattle.words.specs.declared.message.LineState.TheVariants.{Shared, Exclusive, Modified}
use Rattle.words.specs.Marks.{no_marks, is_marked}
use Rattle.table.specs.declared.effect.Effect.{Effect}
use Rattle.table.specs.declared.effect.MemoryAct.{MemoryAct}
use Rattle.table.specs.declared.effect.Load.{Load}
use Rattle.table.specs.declared.effect.Store.{Store}
use Rattle.table.specs.declared.effect.Act.{Act}
use Rattle.table.specs.declared.effect.Act.TheVariants as act
use Rattle.table.specs.Effects.{write_of}
use Rattle.flat.specs.Bytes.{put_at}
use Rattle.flat.specs.State.{Setting}
use Rattle.flat.specs.Causes.{next_of}
use Rattle.flat.specs.Effects.{old_of, put_of}
use Rattle.flat.specs.Reservation.{without_block, is_reserved}
use Rattle.flat.proofs.LoadsOrStores.{LoadsOrStores, IsUseful, next_useful}
use Rattle.flat.proofs.Maps.{one_number}
use Rattle.protocol.specs.Messages.{Message, Granted, Get, Put, Done, Grant, Forward, PutAck, Ack, Nack}
use Rattle.protocol.specs.Lines.{Line, is_enough, byte_in, line_used, line_undone, line_given, refuses}
use Rattle.protocol.specs.Hart.{Hart, Transaction, LogRecord, PutOut, Request, HartResult, quiet, flat_hart, flat_tx, is_running, has_put_of, with_line, overflow_of}
use Rattle.protocol.specs.Evict.{drop_row, write_back_row, write_back_row_if_none_out, evict_by, evict_line, evict_row, spill_of, tx_spilled}
use Rattle.protocol.specs.Requests.{new_request, ask_row, with_grant, with_ack, with_nack, have_answered, refused_row, granted_row, granted_so_far, answer_row, gives_way}
use Rattle.protocol.specs.HartMessages.{refuse_row, acknowledge_row, message_row, tx_refusing}
use Rattle.protocol.specs.Core.{Move, Rests, Makes, Lacks, start_abort_row, undo_row, undo_move, end_abort_row, abort_move, trap_row, retire_row, no_memory, begin_row, commit_row, tabort_row, kind_of, is_log_due, tx_used, tx_begun, access_row, access_move, reserved_with, conditional_move, effect_move, word_of, instruction_move, transaction_move, tx_move, core_move, no_longer_fresh, ask_with_room, victim_for, fetch_row, move_row, core_row}
use Rattle.isolation.specs.Footprints.{Footprint, no_footprint, with_spill}
use Rattle.isolation.specs.Reasons.{Accesses, NeedsRecord}
use Rattle.isolation.proofs.Footprints.Holding.{marks_of, IsWanted, AllUsed, MayEnd, Counts, Inside, Holds, HoldsOf, own_after, MaySpill, TellsWell, Keeps, spilled_next, refusing_next, way_next, next_with, refusing, refused, waiting, starting}
use Rattle.isolation.proofs.Footprints.Lines.{unmarked, same_there, cleared, given_read, given_write, reserved_before, as_marked, as_spilled, spilled, filled}
use Rattle.isolation.proofs.Footprints.Accesses.{WantsNone, retired, used_by, stays_used, uses, counts_running, accessed}

same_marks : (lines : ℕ → Option Line) (c : ℕ) → marks_of (lines c) ≡ marks_of (lines c)
same_marks lines c = refl

same_block : (r : Option ℕ) (c : ℕ) → r ≡ Some c → r ≡ Some c
same_block r c e = e

module _ (s : Setting) (i depth : ℕ) (h : Hart) (p : Footprint) (v : HoldsOf s h p) where
  abbrev next : Result Effect Cause
  next = next_of s (flat_hart h)

  abbrev Kept : HartResult → Type 0
  Kept t = Keeps s i depth h p t

  -- a row after which the hart does next what it did before
  rowed : (t : HartResult) → next_of s (flat_hart t.hart) ≡ next → Holds next t.hart.lines t.hart.reserved t.hart.request t.hart.tx (own_after depth t.entry p) → TellsWell next i h p t.entry → Kept t
  rowed t same holds tells = record { own = subst (λ r. Holds r t.hart.lines t.hart.reserved t.hart.request t.hart.tx (own_after depth t.entry p)) (sym same) holds; tells = tells }

  either : (z : Bool) (t u : HartResult) → (z ≡ true → Kept t) → (z ≡ false → Kept u) → Kept (cond z t u)
  either true t u a b = a refl
  either false t u a b = b refl

  quietly : (t : HartResult) → t.hart ≡ h → t.entry ≡ None → Kept t
  quietly t same none = record {
    own = subst (λ e. HoldsOf s t.hart (own_after depth e p)) (sym none) (subst (λ k. HoldsOf s k p) (sym same) v);
    tells = subst (TellsWell next i h p) (sym none) tt;
  }

  -- Evictions

  abbrev KeptIf : Option HartResult → Type 0
  KeptIf o = (t : HartResult) → o ≡ Some t → Kept t

  one : (u : HartResult) → Kept u → KeptIf (Some u)
  one u k t e = subst Kept (same_Some u t e) k

  none : KeptIf None
  none t e = absurd (cc)

  module _ (b : ℕ) (l : Line) (there : h.lines b ≡ Some l) where
    -- outside a transaction no line is marked, and in one a marked line has its reason
    may_spill : is_marked l.marks ≡ true → MaySpill next h p b
    may_spill marked = by h.tx v
      where
        here : marks_of (h.lines b) ≡ l.marks
        here = ap marks_of there

        by_mark : (t : Transaction) → Inside next h.lines h.reserved h.request t p → (r w x : Bool) → (marks_of (h.lines b)).read ≡ r → (marks_of (h.lines b)).written ≡ w → (marks_of (h.lines b)).overflowed ≡ x → (r || (w || x)) ≡ true
            → IsSome (Some t) × ((p.used b ≡ true) ⊎ (((marks_of (h.lines b)).overflowed ≡ true) × IsOkAnd next (λ e. Accesses b e.act)))
        by_mark t v true w x er ew ex e = (refl, inl (v.read b er))
        by_mark t v false true x er ew ex e = (refl, inl (v.written b ew))
        by_mark t v false false true er ew ex e = (refl, elim (v.overflowed b ex) [ inl u ↦ inl u | inr w ↦ inr (ex, w) ])
        by_mark t v false false false er ew ex e = absurd (cc)

        by : (o : Option Transaction) → Holds next h.lines h.reserved h.request o p → IsSome o × ((p.used b ≡ true) ⊎ (((marks_of (h.lines b)).overflowed ≡ true) × IsOkAnd next (λ e. Accesses b e.act)))
        by None v = let no : true ≡ false = sym marked ∙ ap is_marked (sym here ∙ v b) in absurd (cc)
        by (Some t) v = by_mark t v _ _ _ refl refl refl (ap is_marked here ∙ marked)

    abbrev without : Hart
    without = record h { lines = put_at b None h.lines; reserved = without_block b h.reserved; tx = option_map (tx_spilled (is_marked l.marks)) h.tx }

    gave_up : (t : HartResult) → t.hart.lines ≡ put_at b None h.lines → t.hart.reserved ≡ without_block b h.reserved → t.hart.request ≡ h.request → t.hart.tx ≡ option_map (tx_spilled (is_marked l.marks)) h.tx
        → next_of s (flat_hart t.hart) ≡ next → t.entry ≡ spill_of i b l → Kept t
    gave_up t lines reserved request tx same entry = rowed t same
        (subst (λ z. Holds next z t.hart.reserved t.hart.request t.hart.tx (own_after depth t.entry p)) (sym lines)
        (subst (λ z. Holds next (put_at b None h.lines) z t.hart.request t.hart.tx (own_after depth t.entry p)) (sym reserved)
        (subst (λ z. Holds next (put_at b None h.lines) (without_block b h.reserved) z t.hart.tx (own_after depth t.entry p)) (sym request)
        (subst (λ z. Holds next (put_at b None h.lines) (without_block b h.reserved) h.request z (own_after depth t.entry p)) (sym tx)
        (subst (λ z. Holds next (put_at b None h.lines) (without_block b h.reserved) h.request (option_map (tx_spilled (is_marked l.marks)) h.tx) (own_after depth z p)) (sym entry) (by (is_marked l.marks) refl))))))
        (subst (TellsWell next i h p) (sym entry) (tells (is_marked l.marks) refl))
      where
        by : (m : Bool) → is_marked l.marks ≡ m → Holds next (put_at b None h.lines) (without_block b h.reserved) h.request (option_map (tx_spilled m) h.tx) (own_after depth (cond m (Some (Spill i b)) None) p)
        by true e = as_spilled next (put_at b None h.lines) (without_block b h.reserved) h.request (with_spill b p) true h.tx (spilled next h.lines h.reserved h.request p b h.tx v)
        by false e = as_spilled next (put_at b None h.lines) (without_block b h.reserved) h.request p false h.tx
            (as_marked next h.lines h.reserved h.request p (put_at b None h.lines) (without_block b h.reserved) h.tx
            (same_there b None h.lines (sym (ap marks_of there ∙ unmarked l.marks e))) (λ c. reserved_before b c h.reserved) v)

        tells : (m : Bool) → is_marked l.marks ≡ m → TellsWell next i h p (cond m (Some (Spill i b)) None)
        tells true e = (refl, may_spill e)
        tells false e = tt

    same_next : next_of s (flat_hart without) ≡ next
    same_next = next_with s h (option_map flat_tx (option_map (tx_spilled (is_marked l.marks)) h.tx)) (spilled_next (is_marked l.marks) h.tx)

    by_put : (q : Option PutOut) → KeptIf (write_back_row_if_none_out i b l q h)
    by_put None = one (write_back_row i b l h) (gave_up (write_back_row i b l h) refl refl refl refl same_next refl)
    by_put (Some q) = none

    by_state : (z : LineState) → KeptIf (evict_by z i b l h)
    by_state Shared = one (drop_row i b l h) (gave_up (drop_row i b l h) refl refl refl refl same_next refl)
    by_state Exclusive = by_put h.put
    by_state Modified = by_put h.put

  by_line : (b : ℕ) (o : Option Line) → h.lines b ≡ o → KeptIf (evict_line i b o h)
  by_line b None e = none
  by_line b (Some l) e = by_state b l e l.state

  pub evict_keeps : (b : ℕ) → KeptIf (evict_row i b h)
  evict_keeps b = by_line b (h.lines b) refl

  -- Messages

  -- the hart's request is for a block that it wants
  request_wanted : (r : Request) → h.request ≡ Some r → (t : Transaction) → h.tx ≡ Some t → IsWanted next p r.block
  request_wanted r e t k = (subst (λ o. Holds next h.lines h.reserved h.request o p) k v).requests r e

  so_far : (n : ℕ) (q : Request) (o : Option Granted) → ((t : Transaction) → h.tx ≡ Some t → IsWanted next p q.block) → Kept (granted_so_far n i q o h)
  so_far n q None w = rowed (quiet (record h { request = Some q })) refl (waiting next h.lines h.reserved h.request p q h.tx w v) tt
  so_far n q (Some g) w = either (have_answered n g.expect q.answered) _ _
      (λ e. either q.refused (refused_row i q h) (granted_row i q g h)
      (λ e. rowed (refused_row i q h) (next_with s h (option_map flat_tx (option_map (gives_way q.earlier) h.tx)) (way_next q.earlier h.tx)) (refused next h.lines h.reserved h.request p q.earlier h.tx v) tt)
      (λ e. rowed (granted_row i q g h) refl (filled next h.lines h.reserved h.request p q.block g.give _ h.tx w v) tt))
      (λ e. rowed (quiet (record h { request = Some q })) refl (waiting next h.lines h.reserved h.request p q h.tx w v) tt)

  answered : (n b : ℕ) (keep : Request → Request) (o : Option Request) → h.request ≡ o → ((r : Request) → (keep r).block ≡ r.block) → Kept (answer_row n i b keep o h)
  answered n b keep None e same = quietly (quiet h) refl refl
  answered n b keep (Some r) e same = either (r.block == b) _ _
      (λ k. so_far n (keep r) (keep r).grant (λ t z. subst (IsWanted next p) (sym (same r)) (request_wanted r e t z)))
      (λ k. quietly (quiet h) refl refl)

  acknowledged : (b : ℕ) (kind : Kind) (r : ℕ) → refuses (h.lines b) (overflow_of h.tx) kind ≡ false → Kept (acknowledge_row i b kind r h)
  acknowledged b Read r met = rowed (acknowledge_row i b Read r h) refl
      (as_marked next h.lines h.reserved h.request p (put_at b (line_given Read (h.lines b)) h.lines) h.reserved h.tx (same_there b _ h.lines (given_read (h.lines b))) (same_block h.reserved) v) tt
  acknowledged b Write r met = rowed (acknowledge_row i b Write r h) refl
      (as_marked next h.lines h.reserved h.request p (put_at b (line_given Write (h.lines b)) h.lines) (without_block b h.reserved) h.tx
      (same_there b _ h.lines (given_write (h.lines b) (overflow_of h.tx) met)) (λ c. reserved_before b c h.reserved) v) tt

  pub message_keeps : (n : ℕ) (m : Message) → Kept (message_row n i m h)
  message_keeps n (Get from b kind stamp) = quietly (quiet h) refl refl
  message_keeps n (Put from b content marked) = quietly (quiet h) refl refl
  message_keeps n (Done from b ok content) = quietly (quiet h) refl refl
  message_keeps n (Grant to b granted) = answered n b (with_grant granted) h.request refl (λ r. refl)
  message_keeps n (Forward to b kind r stamp) = either (refuses (h.lines b) (overflow_of h.tx) kind) (refuse_row i b r stamp h) (acknowledge_row i b kind r h)
      (λ e. rowed (refuse_row i b r stamp h) (next_with s h (option_map flat_tx (option_map (tx_refusing stamp) h.tx)) (refusing_next stamp h.tx)) (refusing next h.lines h.reserved h.request p stamp h.tx v) refl)
      (acknowledged b kind r)
  message_keeps n (PutAck to b) = either (has_put_of b h.put) _ _ (λ e. rowed (quiet (record h { put = None })) refl v tt) (λ e. quietly (quiet h) refl refl)
  message_keeps n (Ack from to b content) = answered n b (with_ack from content) h.request refl (λ r. refl)
  message_keeps n (Nack from to b stamp) = answered n b (with_nack from _) h.request refl (λ r. refl)

  -- Core steps

  abbrev MoveKeeps : Move → Type 0
  MoveKeeps Rests = Unit {0}
  MoveKeeps (Makes t) = Kept t
  MoveKeeps (Lacks kind b) = (t : Transaction) → h.tx ≡ Some t → IsWanted next p b

  -- a hart in this transaction
  module _ (t : Transaction) (is : h.tx ≡ Some t) where
    inside : Inside next h.lines h.reserved h.request t p
    inside = subst (λ o. Holds next h.lines h.reserved h.request o p) is v

    same_tx : (u : Transaction) → flat_tx u ≡ flat_tx t → next_of s (flat_hart (record h { tx = Some u })) ≡ next
    same_tx u e = next_with s h (Some (flat_tx u)) (ap (λ z. Some z) e ∙ ap (option_map flat_tx) (sym is))

    started : (c : AbortCause) → MayEnd next p c → Kept (start_abort_row c t h)
    started c may = rowed (start_abort_row c t h) (same_tx (record t { aborting = Some c }) refl) (starting next h.lines h.reserved h.request p c t may inside) tt

    -- Aborts

    fewer : (u : Transaction) (c : AbortCause) (log : List LogRecord) → u.aborting ≡ Some c → AllUsed p log → Inside next h.lines h.reserved h.request u p
        → Inside next h.lines h.reserved h.request (record u { log = log }) p
    fewer u c log e all v = record {
      logged = v.logged;
      read = v.read;
      written = v.written;
      overflowed = v.overflowed;
      reserves = v.reserves;
      requests = v.requests;
      log = all;
      counts = by u.aborting e v.counts;
    } where
      by : (a : Option AbortCause) → a ≡ Some c → Counts next p a u.log → Counts next p a log
      by None e v = absurd (cc)
      by (Some c) e v = v

    undone : (c : AbortCause) (r : LogRecord) (rest : List LogRecord) → t.aborting ≡ Some c → t.log ≡ r ∷ rest → (o : Option Line) → h.lines r.block ≡ o → MoveKeeps (undo_move t r rest o h)
    undone c r rest cause log None e = λ u k. inl ((subst (AllUsed p) log inside.log).0)
    undone c r rest cause log (Some l) e = by (is_owned l.state)
      where
        all : AllUsed p (r ∷ rest)
        all = subst (AllUsed p) log inside.log

        by : (z : Bool) → MoveKeeps (cond z (Makes (undo_row t r rest l h)) (Lacks Write r.block))
        by true = rowed (undo_row t r rest l h) (same_tx (record t { log = rest }) refl)
            (as_marked next h.lines h.reserved h.request p (put_at r.block (Some (line_undone r.before l)) h.lines) h.reserved (Some (record t { log = rest }))
            (same_there r.block (Some (line_undone r.before l)) h.lines (ap marks_of (sym e))) (same_block h.reserved) (fewer t c rest cause all.1 inside)) tt
        by false = λ u k. inl all.0

    ended : (c : AbortCause) → t.aborting ≡ Some c → Kept (end_abort_row i c t h)
    ended c cause = record { own = λ b. cleared (h.lines b); tells = (refl, by t.aborting cause inside.counts) }
      where
        by : (a : Option AbortCause) → a ≡ Some c → Counts next p a t.log → MayEnd next p c
        by None e v = absurd (cc)
        by (Some d) e v = let same : d ≡ c = same_Some d c e in subst (MayEnd next p) same v

    aborting : (c : AbortCause) → t.aborting ≡ Some c → (log : List LogRecord) → t.log ≡ log → MoveKeeps (abort_move i c t log h)
    aborting c cause [] e = ended c cause
    aborting c cause (r ∷ rest) e = undone c r rest cause e (h.lines r.block) refl

  trapped : (c : Cause) (o : Option Transaction) → h.tx ≡ o → Kept (trap_row i c o h)
  trapped c None e = record {
    own = subst (λ o. Holds (next_of s (flat_hart (trap_row i c None h).hart)) h.lines None h.request o p) (sym e) (subst (λ o. Holds next h.lines h.reserved h.request o p) e v);
    tells = refl;
  }
  trapped c (Some t) e = started t e (Trapped c h.pc) tt

  abort_starts : (o : Option Transaction) → h.tx ≡ o → Kept (tabort_row o h)
  abort_starts None e = quietly (quiet h) refl refl
  abort_starts (Some t) e = started t e Asked tt

  -- in a transaction the entries say how deep it is, and outside that it is none; and the hart doesn't wait
  module _ (deep : (t : Transaction) → h.tx ≡ Some t → (depth ≡ t.depth) × (1 ≤ t.depth)) (flat : h.tx ≡ None → depth ≡ 0) (idle : h.request ≡ None) where
    not_zero : (t : Transaction) → h.tx ≡ Some t → (depth == 0) ≡ false
    not_zero t e = let d = deep t e in ne_eqb depth 0 (λ z. omega (arith, z, d.0, d.1))

    zero_deep : h.tx ≡ None → (depth == 0) ≡ true
    zero_deep e = let d = flat e in grind (arith, nat_tests)

    -- retired outside a transaction: its lines stay unmarked
    retired_outside : (t : HartResult) → h.tx ≡ None → t.hart.tx ≡ None → ((c : ℕ) → marks_of (t.hart.lines c) ≡ marks_of (h.lines c)) → (pc w : ℕ) (x : Option (ℕ × ℕ)) (load store : Option Access) → t.entry ≡ Some (Retire i pc w x load store) → Kept t
    retired_outside t e none marks pc w x load store entry = record {
      own = subst (λ o. Holds (next_of s (flat_hart t.hart)) t.hart.lines t.hart.reserved t.hart.request o (own_after depth t.entry p)) (sym none) (λ c. marks c ∙ subst (λ o. Holds next h.lines h.reserved h.request o p) e v c);
      tells = subst (TellsWell next i h p) (sym entry) refl;
    }

    -- in one, without an access
    retired_inside : (t : Transaction) → h.tx ≡ Some t → t.aborting ≡ None → (e : Effect) → next ≡ Ok e → WantsNone e.act → (q : HartResult) (u : Transaction) → q.hart.tx ≡ Some u → u.log ≡ t.log → u.aborting ≡ t.aborting
        → q.hart.lines ≡ h.lines → q.hart.request ≡ h.request → ((c : ℕ) → q.hart.reserved ≡ Some c → h.reserved ≡ Some c) → (pc w : ℕ) (x : Option (ℕ × ℕ)) → q.entry ≡ Some (Retire i pc w x None None) → Kept q
    retired_inside t is runs e k none q u tx log cause lines request fewer pc w x entry = record {
      own =
          subst (λ o. Holds (next_of s (flat_hart q.hart)) q.hart.lines q.hart.reserved q.hart.request o (own_after depth q.entry p)) (sym tx)
          (subst (λ z. Inside (next_of s (flat_hart q.hart)) q.hart.lines q.hart.reserved q.hart.request u (own_after depth z p)) (sym entry)
          (subst (λ z. Inside (next_of s (flat_hart q.hart)) q.hart.lines q.hart.reserved q.hart.request u (cond z no_footprint p)) (sym (not_zero t is))
          (subst (λ z. Inside (next_of s (flat_hart q.hart)) z q.hart.reserved q.hart.request u p) (sym lines)
          (subst (λ z. Inside (next_of s (flat_hart q.hart)) h.lines q.hart.reserved z u p) (sym (request ∙ idle))
          (retired next (next_of s (flat_hart q.hart)) h.lines h.reserved h.request p e k none q.hart.reserved fewer t u runs log cause (inside t is))))));
      tells = subst (TellsWell next i h p) (sym entry) refl;
    }

    -- a word that has this effect
    module _ (e : Effect) (k : next ≡ Ok e) (runs : (t : Transaction) → h.tx ≡ Some t → t.aborting ≡ None) where
      -- it accesses nothing, and is retired in the transaction that it was in
      plain : WantsNone e.act → (q : HartResult) → q.hart.tx ≡ h.tx → q.hart.lines ≡ h.lines → q.hart.request ≡ h.request → ((c : ℕ) → q.hart.reserved ≡ Some c → h.reserved ≡ Some c) → (pc w : ℕ) (x : Option (ℕ × ℕ))
          → q.entry ≡ Some (Retire i pc w x None None) → Kept q
      plain empty q tx lines request fewer pc w x entry = by h.tx refl
        where
          by : (o : Option Transaction) → h.tx ≡ o → Kept q
          by None is = retired_outside q is (tx ∙ is) (λ c. ap (λ z. marks_of (z c)) lines) pc w x None None entry
          by (Some t) is = retired_inside t is (runs t is) e k empty q t (tx ∙ is) refl refl lines request fewer pc w x entry

      -- an access, of a word that wants no other block
      module _ (w nx : ℕ) (wr : Option (ℕ × ℕ)) (m : MemoryAct) (kept : Option ℕ) (only : (c : ℕ) → Accesses c e.act → c ≡ m.addr / 32) (some : LoadsOrStores m.load m.store)
          (needs : IsSome m.store → p.logged (m.addr / 32) ≡ false → NeedsRecord p e.act) (wanted : (t : Transaction) → h.tx ≡ Some t → IsWanted next p (m.addr / 32))
          (known : (old : ℕ) (put : Store → ℕ) (c : ℕ) → ((d : ℕ) → h.reserved ≡ Some d → p.used d ≡ true) → kept ≡ Some c → (used_by m old put p m.load m.store).used c ≡ true) where
        abbrev does : Effect
        does = record { next = nx; write = wr; act = act.Memory m }

        full_due : (t : Transaction) (l : Line) → h.tx ≡ Some t → h.lines (m.addr / 32) ≡ Some l → (is_log_due m l && nat_le 113 (length t.log)) ≡ true → MayEnd next p LogFull
        full_due t l is there full =
            let parts = and_parts (is_log_due m l) (nat_le 113 (length t.log)) full in
            let due = and_parts (is_some m.store) (not l.marks.written) parts.0 in
            let v = inside t is in
            let n = counts_running next next h.lines h.reserved h.request p m 0 (λ s. 0) l there t (runs t is) v in (
              exact p.records (length t.log) n.0 n.1 parts.1,
              subst (λ r. IsOkAnd r (λ e. NeedsRecord p e.act)) (sym k) (needs due.0 (v.logged (m.addr / 32) ∙ ap (λ o. (marks_of o).written) there ∙ not_true l.marks.written due.1)),
            )
          where
            exact : (n k : ℕ) → n ≡ k → k ≤ 113 → nat_le 113 k ≡ true → n ≡ 113
            exact n k e l g = grind (arith, nat_tests)

            not_true : (z : Bool) → not z ≡ true → z ≡ false
            not_true true e = absurd (cc)
            not_true false e = refl

        stored : (l : Line) (t : Transaction) → h.lines (m.addr / 32) ≡ Some l → h.tx ≡ Some t → (is_log_due m l && nat_le 113 (length t.log)) ≡ false
            → Kept (retire_row i (byte_in l.content) w does (with_line (m.addr / 32) (Some (line_used true m l)) (record h { tx = Some (tx_used m l t); reserved = kept })))
        stored l t there is room = record {
          own =
              subst (λ z. Inside after put_lines kept h.request (tx_used m l t) (cond z no_footprint then)) (sym (not_zero t is))
              (subst (λ z. Inside after put_lines kept z (tx_used m l t) then) (sym idle)
              (accessed next after h.lines h.reserved h.request p m (old_of (byte_in l.content) m) (put_of (byte_in l.content) m) l there t (runs t is) (inside t is) e k only some room kept
              (λ c. known (old_of (byte_in l.content) m) (put_of (byte_in l.content) m) c (inside t is).reserves)));
          tells = refl;
        } where
          row : HartResult
          row = retire_row i (byte_in l.content) w does (with_line (m.addr / 32) (Some (line_used true m l)) (record h { tx = Some (tx_used m l t); reserved = kept }))

          after : Result Effect Cause
          after = next_of s (flat_hart row.hart)

          put_lines : ℕ → Option Line
          put_lines = put_at (m.addr / 32) (Some (line_used true m l)) h.lines

          then : Footprint
          then = used_by m (old_of (byte_in l.content) m) (put_of (byte_in l.content) m) p m.load m.store

        access_made : (l : Line) → h.lines (m.addr / 32) ≡ Some l → (o : Option Transaction) → h.tx ≡ o → Kept (access_row i w does m kept l o h)
        access_made l there None is = retired_outside _ is is (same_there (m.addr / 32) (Some (line_used false m l)) h.lines (ap marks_of (sym there))) h.pc w _ _ _ refl
        access_made l there (Some t) is = either (is_log_due m l && nat_le 113 (length t.log)) (start_abort_row LogFull t h) _ (λ full. started t is LogFull (full_due t l is there full)) (stored l t there is)

        access_moves : (o : Option Line) → h.lines (m.addr / 32) ≡ o → MoveKeeps (access_move i w does m kept o h)
        access_moves None there = wanted
        access_moves (Some l) there = by (is_enough (kind_of m) (Some l))
          where
            by : (z : Bool) → MoveKeeps (cond z (Makes (access_row i w does m kept l h.tx h)) (Lacks (kind_of m) (m.addr / 32)))
            by true = access_made l there h.tx refl
            by false = wanted

    -- the block that an access leaves reserved is one that it or the transaction has loaded from
    reserved_used : (m : MemoryAct) (old : ℕ) (put : Store → ℕ) (load : Option Load) (c : ℕ) → ((d : ℕ) → h.reserved ≡ Some d → p.used d ≡ true) → reserved_with m load h.reserved ≡ Some c
        → (used_by m old put p load m.store).used c ≡ true
    reserved_used m old put None c was e = stays_used m old put p None m.store c (was c e)
    reserved_used m old put (Some l) c was e = by l.reserves e
      where
        by : (z : Bool) → cond z (Some (m.addr / 32)) h.reserved ≡ Some c → (used_by m old put p (Some l) m.store).used c ≡ true
        by true e = subst (λ z. (used_by m old put p (Some l) m.store).used z ≡ true) (same_Some (m.addr / 32) c e) (uses m old put p (Some l) m.store tt)
        by false e = stays_used m old put p (Some l) m.store c (was c e)

    reserved_is : (b : ℕ) (r : Option ℕ) → is_reserved b r ≡ true → r ≡ Some b
    reserved_is b None e = absurd (cc)
    reserved_is b (Some c) e = ap (λ z. Some z) (one_number c b e)

    stores_some : (load : Option Load) (store : Option Store) → IsSome store → LoadsOrStores load store
    stores_some None (Some q) e = tt
    stores_some None None e = absurd (cc)
    stores_some (Some l) q e = tt

    module _ (taken w nx : ℕ) (wr : Option (ℕ × ℕ)) (runs : (t : Transaction) → h.tx ≡ Some t → t.aborting ≡ None) where
      abbrev with_act : Act → Effect
      with_act a = record { next = nx; write = wr; act = a }

      begun : (n : ℕ) → next ≡ Ok (with_act (act.Begin n)) → (o : Option Transaction) → h.tx ≡ o → Kept (begin_row i taken w (with_act (act.Begin n)) n o h)
      begun n k None is = record {
        own = subst (λ z. Inside (next_of s (flat_hart (begin_row i taken w (with_act (act.Begin n)) n None h).hart)) h.lines None h.request (tx_begun i taken n h) (cond z no_footprint p)) (sym (zero_deep is)) (record {
          logged = λ c. ap (λ (k : Marks). k.written) (sym (bare c));
          read = λ c x. absurd (no_mark (λ (k : Marks). k.read) refl c x);
          written = λ c x. absurd (no_mark (λ (k : Marks). k.written) refl c x);
          overflowed = λ c x. absurd (no_mark (λ (k : Marks). k.overflowed) refl c x);
          reserves = λ c x. absurd (cc);
          requests = λ q x. let y = sym idle ∙ x in absurd (cc);
          log = tt;
          counts = (refl, omega (arith));
        });
        tells = refl;
      } where
        bare : (c : ℕ) → marks_of (h.lines c) ≡ no_marks
        bare = subst (λ o. Holds next h.lines h.reserved h.request o p) is v

        no_mark : (get : Marks → Bool) → get no_marks ≡ false → (c : ℕ) → get (marks_of (h.lines c)) ≡ true → ⊥
        no_mark get clear c x = let z : true ≡ false = sym x ∙ ap get (bare c) ∙ clear in absurd (cc)
      begun n k (Some t) is = retired_inside t is (runs t is) (with_act (act.Begin n)) k (λ c x. x) (begin_row i taken w (with_act (act.Begin n)) n (Some t) h) (record t { depth = t.depth + 1 }) refl refl refl refl refl (same_block h.reserved) h.pc w _ refl

      committed : next ≡ Ok (with_act act.Commit) → (o : Option Transaction) → h.tx ≡ o → Kept (commit_row i w (with_act act.Commit) o h)
      committed k None is = plain (with_act act.Commit) k runs (λ c x. x) (commit_row i w (with_act act.Commit) None h) refl refl refl (same_block h.reserved) h.pc w _ refl
      committed k (Some t) is = either (t.depth == 1) _ _
          (λ z. record { own = λ b. cleared (h.lines b); tells = refl })
          (λ z. retired_inside t is (runs t is) (with_act act.Commit) k (λ c x. x) (retire_row i no_memory w (with_act act.Commit) (record h { tx = Some (record t { depth = t.depth - 1 }) })) (record t { depth = t.depth - 1 }) refl refl refl refl refl (same_block h.reserved) h.pc w _ refl)

      -- a conditional store that is out is to a block that the transaction has reserved, and so has loaded from
      conditioned : (rd : ℕ) (m : MemoryAct) → IsSome m.store → next ≡ Ok (with_act (act.Conditional rd m)) → MoveKeeps (conditional_move i w (with_act (act.Conditional rd m)) m h)
      conditioned rd m some k = by (is_reserved (m.addr / 32) h.reserved) refl
        where
          by : (z : Bool) → is_reserved (m.addr / 32) h.reserved ≡ z
              → MoveKeeps (cond z (access_move i w (record { next = nx; write = write_of rd 0; act = act.Memory m }) m None (h.lines (m.addr / 32)) h)
              (Makes (retire_row i no_memory w (record { next = nx; write = write_of rd 1; act = act.Nothing }) (record h { reserved = None }))))
          by true is = access_moves (with_act (act.Conditional rd m)) k runs w nx (write_of rd 0) m None (λ c x. absurd x) (stores_some m.load m.store some) (λ x y. (x, y))
              (λ t z. inl ((inside t z).reserves (m.addr / 32) (reserved_is (m.addr / 32) h.reserved is))) (λ old put c was x. absurd (cc)) (h.lines (m.addr / 32)) refl
          by false not = plain (with_act (act.Conditional rd m)) k runs (λ c x. x) _ refl refl refl (λ c x. absurd (cc)) h.pc w _ refl

      effected : (a : Act) → IsUseful a → next ≡ Ok (with_act a) → MoveKeeps (effect_move i taken w (with_act a) a h)
      effected act.Nothing useful k = plain (with_act act.Nothing) k runs (λ c x. x) _ refl refl refl (same_block h.reserved) h.pc w _ refl
      effected (act.Memory m) useful k = access_moves (with_act (act.Memory m)) k runs w nx wr m (reserved_with m m.load h.reserved) (λ c x. sym x) useful (λ x y. (x, y))
          (λ t z. inr (subst (λ r. IsOkAnd r (λ e. Accesses (m.addr / 32) e.act)) (sym k) refl)) (λ old put. reserved_used m old put m.load) (h.lines (m.addr / 32)) refl
      effected (act.Conditional rd m) useful k = conditioned rd m useful k
      effected (act.Begin n) useful k = begun n k h.tx refl
      effected act.Commit useful k = committed k h.tx refl
      effected act.Abort useful k = abort_starts h.tx refl
      effected act.Call useful k = plain (with_act act.Call) k runs (λ c x. x) _ refl refl refl (same_block h.reserved) h.pc w _ refl
      effected act.Break useful k = plain (with_act act.Break) k runs (λ c x. x) _ refl refl refl (same_block h.reserved) h.pc w _ refl

    worded : (taken : ℕ) → ((t : Transaction) → h.tx ≡ Some t → t.aborting ≡ None) → (z : Result Effect Cause) → next ≡ z → MoveKeeps (instruction_move s i taken z h)
    worded taken runs (Err c) k = trapped c h.tx refl
    worded taken runs (Ok e) k = effected taken (word_of s h) e.next e.write runs e.act (next_useful s (flat_hart h) e k) k

    in_transaction : (taken : ℕ) (t : Transaction) → h.tx ≡ Some t → (c : Option AbortCause) → t.aborting ≡ c → MoveKeeps (transaction_move s i taken t c h)
    in_transaction taken t is None runs = worded taken (λ u e. subst (λ (z : Transaction). z.aborting ≡ None) (same_Some t u (sym is ∙ e)) runs) next refl
    in_transaction taken t is (Some c) e = aborting t is c e t.log refl

    by_tx : (taken : ℕ) (o : Option Transaction) → h.tx ≡ o → MoveKeeps (tx_move s i taken o h)
    by_tx taken None is = worded taken (λ t e. let none : None ≡ Some t = sym is ∙ e in absurd (cc)) next refl
    by_tx taken (Some t) is = in_transaction taken t is t.aborting refl

  module _ (deep : (t : Transaction) → h.tx ≡ Some t → (depth ≡ t.depth) × (1 ≤ t.depth)) (flat : h.tx ≡ None → depth ≡ 0) (taken : ℕ) where
    moves : MoveKeeps (core_move s i taken h)
    moves = by (is_running h.status && is_none h.request) refl
      where
        none_out : (o : Option Request) → is_none o ≡ true → o ≡ None
        none_out None e = refl
        none_out (Some q) e = absurd (cc)

        by : (z : Bool) → (is_running h.status && is_none h.request) ≡ z → MoveKeeps (cond z (tx_move s i taken h.tx h) Rests)
        by true e = by_tx deep flat (none_out h.request (and_parts (is_running h.status) (is_none h.request) e).1) taken h.tx refl
        by false e = tt

    module _ (victim : ℕ → Option ℕ) where
      longer : (o : Option HartResult) → KeptIf o → KeptIf (option_map no_longer_fresh o)
      longer None k = none
      longer (Some u) k = one (no_longer_fresh u) (let d = k u refl in record { own = d.own; tells = d.tells })

      with_room : (kind : Kind) (b : ℕ) (z : Option ℕ) → ((t : Transaction) → h.tx ≡ Some t → IsWanted next p b) → KeptIf (ask_with_room i kind b z h)
      with_room kind b None w = one (ask_row i kind b h) (rowed (ask_row i kind b h) refl (waiting next h.lines h.reserved h.request p (new_request b kind) h.tx w v) tt)
      with_room kind b (Some c) w = longer (evict_row i c h) (evict_keeps c)

      fetched : (kind : Kind) (b : ℕ) → ((t : Transaction) → h.tx ≡ Some t → IsWanted next p b) → KeptIf (fetch_row i victim kind b h)
      fetched kind b w = by (has_put_of b h.put)
        where
          by : (z : Bool) → KeptIf (cond z None (ask_with_room i kind b (victim_for victim b (h.lines b)) h))
          by true = none
          by false = with_room kind b (victim_for victim b (h.lines b)) w

      moved : (m : Move) → MoveKeeps m → KeptIf (move_row i victim m h)
      moved Rests k = none
      moved (Makes t) k = one t k
      moved (Lacks kind b) k = fetched kind b k

      pub core_keeps : KeptIf (core_row s i taken victim h)
      core_keeps = moved (core_move s i taken h) moves
