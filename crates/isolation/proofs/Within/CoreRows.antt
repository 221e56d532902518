-- A core step and an eviction leave a hart within memory, and ask for, or give back, blocks in memory.
use Rattle.std.proofs.Common.{◌≡◌, ℕ, ◌/◌, ◌-◌, ◌+◌, Bool, true, false, List, [], ◌∷◌, Option, None, Some, Result, Ok, Err, cond, refl, sym, ap, subst, ◌∙◌}
use Rattle.std.specs.Prelude.{◌&&◌, ◌==◌, nat_le, length, All, IfSome, is_some, is_none}
use Rattle.std.specs.Option.{option_map}
use Rattle.std.proofs.lemmas.List.Elements.{All-nil, All-cons, All-head, All-tail}
use Rattle.words.specs.Limits.{log_records}
use Rattle.words.specs.LineStates.{is_owned}
use Rattle.words.specs.Marks.{is_marked}
use Rattle.words.specs.declared.cause.Cause.{Cause}
use Rattle.words.specs.declared.cause.AbortCause.{AbortCause}
use Rattle.words.specs.declared.cause.AbortCause.TheVariants.{Asked, LogFull, Trapped}
use Rattle.words.specs.declared.message.Kind.{Kind}
use Rattle.words.specs.declared.message.Kind.TheVariants.{Write}
use Rattle.words.specs.declared.message.LineState.{LineState}
use Rattle.words.specs.declared.message.LineState.TheVariants.{Shared, Exclusive, Modified}
use Rattle.table.specs.declared.effect.Effect.{Effect}
use Rattle.table.specs.declared.effect.MemoryAct.{MemoryAct}
use Rattle.table.specs.declared.effect.Act.{Act}
use Rattle.table.specs.declared.effect.Act.TheVariants as act
use Rattle.flat.specs.State.{Setting}
use Rattle.table.specs.Effects.{resolved}
use Rattle.flat.specs.Reservation.{is_reserved}
use Rattle.flat.specs.Causes.{next_of, act_cause}
use Rattle.flat.proofs.Next.{next_ok}
use Rattle.protocol.specs.Lines.{Line, is_enough, byte_in, line_used, line_undone, line_cleared}
use Rattle.protocol.specs.Hart.{Hart, Transaction, LogRecord, PutOut, HartResult, flat_hart, is_running, has_put_of, log_of}
use Rattle.protocol.specs.Evict.{tx_spilled, without_line, write_back_row_if_none_out, evict_by, evict_line, evict_row}
use Rattle.protocol.specs.Requests.{new_request, ask_row}
use Rattle.protocol.specs.Core.{Move, Rests, Makes, Lacks, start_abort_row, undo_row, undo_move, abort_move, trap_row, retire_row, no_memory, tx_begun, begin_row, commit_row, tabort_row, kind_of, is_log_due, log_used, tx_used, access_row, access_move, reserved_with, conditional_move, effect_move, word_of, instruction_move, transaction_move, tx_move, core_move, no_longer_fresh, ask_with_room, victim_for, fetch_row, move_row, core_row}
use Rattle.isolation.specs.Memory.{LiesInMemory, HartIsWithin}
use Rattle.isolation.proofs.Within.Accesses.{access_within}
use Rattle.isolation.proofs.Within.Harts.{RecordLies, ResultIsWithin, either, log_left, same, with_line_put, with_transaction, without_transaction, with_request, with_put}

-- what a core is about to do leaves its hart within memory, or lacks a block in memory
abbrev pub MoveIsWithin : Setting → Move → Type 0
MoveIsWithin s Rests = Unit {0}
MoveIsWithin s (Makes t) = ResultIsWithin s t
MoveIsWithin s (Lacks kind b) = LiesInMemory s b

module _ (s : Setting) (i taken : ℕ) (h : Hart) (f : HartIsWithin s h) where
  -- the records of a transaction that runs
  records_of : (t : Transaction) → h.tx ≡ Some t → All (RecordLies s) t.log
  records_of t runs = subst (λ z. All (RecordLies s) (log_of z)) runs f.records

  -- a word is retired at a hart that is within memory
  retired : (view : ℕ → ℕ) (w : ℕ) (e : Effect) (k : Hart) → HartIsWithin s k → ResultIsWithin s (retire_row i view w e k)
  retired view w e k g = record { hart = same s k g _ refl refl refl refl; sent = tt }

  -- Aborts

  abort_starts : (cause : AbortCause) (t : Transaction) → h.tx ≡ Some t → ResultIsWithin s (start_abort_row cause t h)
  abort_starts cause t runs = record { hart = same s h f _ refl (sym (ap log_of runs)) refl refl; sent = tt }

  undone : (t : Transaction) (r : LogRecord) (rest : List LogRecord) → All (RecordLies s) (r ∷ rest) → (z : Option Line)
      → MoveIsWithin s (undo_move t r rest z h)
  undone t r rest lie None = All-head (RecordLies s) r rest lie
  undone t r rest lie (Some l) = by_owner (is_owned l.state)
    where
      shorter : Hart
      shorter = record h { tx = Some (record t { log = rest }) }

      by_owner : (z : Bool) → MoveIsWithin s (cond z (Makes (undo_row t r rest l h)) (Lacks Write r.block))
      by_owner false = All-head (RecordLies s) r rest lie
      by_owner true =
          let k = with_transaction s h f (record t { log = rest }) (All-tail (RecordLies s) r rest lie) in
          let g = with_line_put s _ k r.block (Some (line_undone r.before l)) (All-head (RecordLies s) r rest lie) in
          record { hart = same s _ g _ refl refl refl refl; sent = tt }

  abort_goes_on : (cause : AbortCause) (t : Transaction) (log : List LogRecord) → All (RecordLies s) log
      → MoveIsWithin s (abort_move i cause t log h)
  abort_goes_on cause t [] lie = record { hart = same s _ (without_transaction s h f) _ refl refl refl refl; sent = tt }
  abort_goes_on cause t (r ∷ rest) lie = undone t r rest lie (h.lines r.block)

  -- Instructions

  trapped : (c : Cause) (z : Option Transaction) → h.tx ≡ z → ResultIsWithin s (trap_row i c z h)
  trapped c None runs = record { hart = same s h f _ refl refl refl refl; sent = tt }
  trapped c (Some t) runs = abort_starts (Trapped c h.pc) t runs

  begun : (w : ℕ) (e : Effect) (p : ℕ) (z : Option Transaction) → h.tx ≡ z → ResultIsWithin s (begin_row i taken w e p z h)
  begun w e p None runs =
      let k = with_transaction s h f (tx_begun i taken p h) (All-nil (RecordLies s)) in
      record { hart = same s _ k _ refl refl refl refl; sent = tt }
  begun w e p (Some t) runs = retired no_memory w e _ (with_transaction s h f (record t { depth = t.depth + 1 }) (records_of t runs))

  committed : (w : ℕ) (e : Effect) (z : Option Transaction) → h.tx ≡ z → ResultIsWithin s (commit_row i w e z h)
  committed w e None runs = retired no_memory w e h f
  committed w e (Some t) runs = either s (t.depth == 1) _ _
      (retired no_memory w e _ (same s _ (without_transaction s h f) (record h { tx = None; reserved = None; lines = λ b. line_cleared (h.lines b) }) refl refl refl refl))
      (retired no_memory w e _ (with_transaction s h f (record t { depth = t.depth - 1 }) (records_of t runs)))

  taken_back : (z : Option Transaction) → h.tx ≡ z → ResultIsWithin s (tabort_row z h)
  taken_back None runs = record { hart = f; sent = tt }
  taken_back (Some t) runs = abort_starts Asked t runs

  -- Accesses

  module _ (w : ℕ) (e : Effect) (m : MemoryAct) (lies : LiesInMemory s (m.addr / 32)) where
    log_lies : (l : Line) (t : Transaction) → All (RecordLies s) t.log → All (RecordLies s) (log_used m l t.log)
    log_lies l t lie = by_due (is_log_due m l)
      where
        by_due : (z : Bool) → All (RecordLies s) (cond z (record { block = m.addr / 32; before = l.content } ∷ t.log) t.log)
        by_due true = All-cons (RecordLies s) _ t.log lies lie
        by_due false = lie

    used : (kept : Option ℕ) (l : Line) (z : Option Transaction) → h.tx ≡ z → ResultIsWithin s (access_row i w e m kept l z h)
    used kept l None runs = retired (byte_in l.content) w e _ (with_line_put s _ (same s h f (record h { reserved = kept }) refl refl refl refl) (m.addr / 32) (Some (line_used false m l)) lies)
    used kept l (Some t) runs = either s (is_log_due m l && nat_le log_records (length t.log)) _ _
        (abort_starts LogFull t runs)
        (let k = same s _ (with_transaction s h f (tx_used m l t) (log_lies l t (records_of t runs))) (record h { tx = Some (tx_used m l t); reserved = kept }) refl refl refl refl in
        retired (byte_in l.content) w e _ (with_line_put s _ k (m.addr / 32) (Some (line_used true m l)) lies))

    accessed : (kept : Option ℕ) (z : Option Line) → MoveIsWithin s (access_move i w e m kept z h)
    accessed kept None = lies
    accessed kept (Some l) = by_kind (is_enough (kind_of m) (Some l))
      where
        by_kind : (z : Bool) → MoveIsWithin s (cond z (Makes (access_row i w e m kept l h.tx h)) (Lacks (kind_of m) (m.addr / 32)))
        by_kind true = used kept l h.tx refl
        by_kind false = lies

  conditioned : (w : ℕ) (e : Effect) (m : MemoryAct) → LiesInMemory s (m.addr / 32) → MoveIsWithin s (conditional_move i w e m h)
  conditioned w e m lies = by (is_reserved (m.addr / 32) h.reserved)
    where
      by : (z : Bool) → MoveIsWithin s (cond z (access_move i w (resolved true e) m None (h.lines (m.addr / 32)) h) (Makes (retire_row i no_memory w (resolved false e) (record h { reserved = None }))))
      by true = accessed w (resolved true e) m lies None (h.lines (m.addr / 32))
      by false = retired no_memory w (resolved false e) _ (same s h f (record h { reserved = None }) refl refl refl refl)

  -- Moves

  effected : (w : ℕ) (e : Effect) → next_of s (flat_hart h) ≡ Ok e → (a : Act) → e.act ≡ a
      → MoveIsWithin s (effect_move i taken w e a h)
  effected w e ok act.Nothing is = retired no_memory w e h f
  effected w e ok (act.Memory m) is = accessed w e m (access_within s (flat_hart h) m (ap (act_cause s (flat_hart h)) (sym is) ∙ next_ok s (flat_hart h) e ok)).block (reserved_with m m.load h.reserved) (h.lines (m.addr / 32))
  effected w e ok (act.Conditional rd m) is = conditioned w e m (access_within s (flat_hart h) m (ap (act_cause s (flat_hart h)) (sym is) ∙ next_ok s (flat_hart h) e ok)).block
  effected w e ok (act.Begin p) is = begun w e p h.tx refl
  effected w e ok act.Commit is = committed w e h.tx refl
  effected w e ok act.Abort is = taken_back h.tx refl
  effected w e ok act.Call is = retired no_memory w e h f
  effected w e ok act.Break is = retired no_memory w e h f

  next : (z : Result Effect Cause) → next_of s (flat_hart h) ≡ z → MoveIsWithin s (instruction_move s i taken z h)
  next (Err c) ok = trapped c h.tx refl
  next (Ok e) ok = effected (word_of s h) e ok e.act refl

  inside : (t : Transaction) → h.tx ≡ Some t → (z : Option AbortCause) → MoveIsWithin s (transaction_move s i taken t z h)
  inside t runs None = next (next_of s (flat_hart h)) refl
  inside t runs (Some cause) = abort_goes_on cause t t.log (records_of t runs)

  by_transaction : (z : Option Transaction) → h.tx ≡ z → MoveIsWithin s (tx_move s i taken z h)
  by_transaction None runs = next (next_of s (flat_hart h)) refl
  by_transaction (Some t) runs = inside t runs t.aborting

  pub move_within : MoveIsWithin s (core_move s i taken h)
  move_within = by_rest (is_running h.status && is_none h.request)
    where
      by_rest : (z : Bool) → MoveIsWithin s (cond z (tx_move s i taken h.tx h) Rests)
      by_rest true = by_transaction h.tx refl
      by_rest false = tt

-- a row, where it is enabled
abbrev pub RowIsWithin : Setting → Option HartResult → Type 0
RowIsWithin s o = IfSome o (ResultIsWithin s)

-- Evictions

module _ (s : Setting) (i : ℕ) (h : Hart) (f : HartIsWithin s h) where
  module _ (b : ℕ) (l : Line) (lies : LiesInMemory s b) where
    gone : HartIsWithin s (without_line b l h)
    gone = with_line_put s _ (same s h f _ refl (log_left (tx_spilled (is_marked l.marks)) (λ t. refl) h.tx) refl refl) b None lies

    by_put : (z : Option PutOut) → RowIsWithin s (write_back_row_if_none_out i b l z h)
    by_put None = record { hart = with_put s _ gone _ lies; sent = lies }
    by_put (Some p) = tt

    by_state : (z : LineState) → RowIsWithin s (evict_by z i b l h)
    by_state Shared = record { hart = gone; sent = tt }
    by_state Exclusive = by_put h.put
    by_state Modified = by_put h.put

  -- a line is evicted
  pub evict_within : (b : ℕ) → RowIsWithin s (evict_row i b h)
  evict_within b = by_line (h.lines b) refl
    where
      by_line : (z : Option Line) → h.lines b ≡ z → RowIsWithin s (evict_line i b z h)
      by_line None there = tt
      by_line (Some l) there = by_state b l (f.lines b (ap is_some there)) l.state

  -- Requests

  asked : (kind : Kind) (b : ℕ) → LiesInMemory s b → ResultIsWithin s (ask_row i kind b h)
  asked kind b lies = record { hart = same s _ (with_request s h f (Some (new_request b kind)) lies) _ refl refl refl refl; sent = lies }

  evicted_first : (o : Option HartResult) → RowIsWithin s o → RowIsWithin s (option_map no_longer_fresh o)
  evicted_first None k = tt
  evicted_first (Some t) k = record { hart = same s t.hart k.hart _ refl refl refl refl; sent = k.sent }

  asked_with_room : (kind : Kind) (b : ℕ) → LiesInMemory s b → (z : Option ℕ) → RowIsWithin s (ask_with_room i kind b z h)
  asked_with_room kind b lies None = asked kind b lies
  asked_with_room kind b lies (Some v) = evicted_first (evict_row i v h) (evict_within v)

  module _ (victim : ℕ → Option ℕ) where
    fetched : (kind : Kind) (b : ℕ) → LiesInMemory s b → RowIsWithin s (fetch_row i victim kind b h)
    fetched kind b lies = by_put_out (has_put_of b h.put)
      where
        by_put_out : (z : Bool) → RowIsWithin s (cond z None (ask_with_room i kind b (victim_for victim b (h.lines b)) h))
        by_put_out true = tt
        by_put_out false = asked_with_room kind b lies (victim_for victim b (h.lines b))

    moved : (m : Move) → MoveIsWithin s m → RowIsWithin s (move_row i victim m h)
    moved Rests k = tt
    moved (Makes t) k = k
    moved (Lacks kind b) k = fetched kind b k

    -- a core step
    pub core_within : (taken : ℕ) → RowIsWithin s (core_row s i taken victim h)
    core_within taken = moved (core_move s i taken h) (move_within s i taken h f)
