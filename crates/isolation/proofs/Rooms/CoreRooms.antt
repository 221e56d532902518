-- A core step and an eviction add no line, and a request goes out only where there is room.
use Rattle.std.proofs.Common.{◌≡◌, ℕ, Bool, true, false, List, [], ◌∷◌, Option, None, Some, Result, Ok, Err, cond, refl, sym, ◌∙◌, subst}
use Rattle.std.specs.Prelude.{◌/◌, ◌-◌, ◌&&◌, ◌==◌, nat_le, length, IsSome, is_none}
use Rattle.std.specs.Option.{option_map}
use Rattle.std.proofs.lemmas.Option.{same_Some}
use Rattle.words.specs.declared.cause.Cause.{Cause}
use Rattle.words.specs.declared.cause.AbortCause.{AbortCause}
use Rattle.words.specs.declared.cause.AbortCause.TheVariants.{LogFull}
use Rattle.words.specs.declared.message.Kind.{Kind}
use Rattle.words.specs.declared.message.Kind.TheVariants.{Write}
use Rattle.words.specs.declared.message.LineState.{LineState}
use Rattle.words.specs.declared.message.LineState.TheVariants.{Shared, Exclusive, Modified}
use Rattle.table.specs.declared.effect.Effect.{Effect}
use Rattle.table.specs.declared.effect.MemoryAct.{MemoryAct}
use Rattle.table.specs.declared.effect.Act.{Act}
use Rattle.table.specs.declared.effect.Act.TheVariants as act
use Rattle.table.specs.Effects.{resolved}
use Rattle.flat.specs.Reservation.{is_reserved}
use Rattle.flat.specs.State.{Setting}
use Rattle.flat.specs.Causes.{next_of}
use Rattle.words.specs.LineStates.{is_owned}
use Rattle.protocol.specs.Lines.{Line, is_enough, byte_in, line_used, line_undone, line_cleared}
use Rattle.protocol.specs.Hart.{Hart, Transaction, LogRecord, PutOut, HartResult, flat_hart, is_running, has_put_of, with_line}
use Rattle.protocol.specs.Evict.{drop_row, write_back_row, write_back_row_if_none_out, evict_by, evict_line, evict_row, without_line}
use Rattle.protocol.specs.Requests.{new_request, ask_row}
use Rattle.protocol.specs.Core.{Move, Rests, Makes, Lacks, start_abort_row, undo_row, undo_move, abort_move, trap_row, retire_row, no_memory, begin_row, commit_row, tabort_row, kind_of, is_log_due, tx_used, access_row, access_move, reserved_with, conditional_move, effect_move, word_of, instruction_move, transaction_move, tx_move, core_move, no_longer_fresh, ask_with_room, victim_for, fetch_row, move_row, core_row}
use Rattle.protocol.specs.Caches.{Geometry, MayName}
use Rattle.protocol.specs.Machine.{MayLack}
use Rattle.isolation.proofs.Rooms.Sets.{LeavesRoom, Fits, Sheds, put_sheds, is_there, fits_shed, fits_asked, room_beside, room_left}

-- the same lines and request
pub sheds_none : (h k : Hart) → k.lines ≡ h.lines → k.request ≡ h.request → Sheds h k
sheds_none h k same asks = record { lines = λ c. subst (λ z. IsSome (z c) → IsSome (h.lines c)) (sym same) (λ s. s); waits = λ q e. (q, sym asks ∙ e, refl) }

-- one line put in place of one
pub sheds_one : (h k : Hart) (b : ℕ) (l m : Line) → h.lines b ≡ Some l → k.lines ≡ (with_line b (Some m) h).lines → k.request ≡ h.request → Sheds h k
sheds_one h k b l m e same asks = record {
  lines = λ c. subst (λ z. IsSome (z c) → IsSome (h.lines c)) (sym same) (put_sheds b (Some m) h.lines (λ s. is_there (h.lines b) l e) c);
  waits = λ q y. (q, sym asks ∙ y, refl);
}

-- one row or another
sheds_either : (h : Hart) (z : Bool) (t u : HartResult) → Sheds h t.hart → Sheds h u.hart → Sheds h (cond z t u).hart
sheds_either h true t u a b = a
sheds_either h false t u a b = b

cleared : (o : Option Line) → IsSome (line_cleared o) → IsSome o
cleared None s = s
cleared (Some l) s = refl

-- the marks are cleared
sheds_marks : (h k : Hart) → k.lines ≡ (λ b. line_cleared (h.lines b)) → k.request ≡ h.request → Sheds h k
sheds_marks h k same asks = record { lines = λ c. subst (λ z. IsSome (z c) → IsSome (h.lines c)) (sym same) (cleared (h.lines c)); waits = λ q e. (q, sym asks ∙ e, refl) }

-- Evictions

module _ (h : Hart) (i : ℕ) (b : ℕ) where
  gone : (l : Line) (k : Hart) → h.lines b ≡ Some l → k.lines ≡ (without_line b l h).lines → k.request ≡ h.request → Sheds h k
  gone l k e same asks = record {
    lines = λ c. subst (λ z. IsSome (z c) → IsSome (h.lines c)) (sym same) (put_sheds b None h.lines (λ s. is_there (h.lines b) l e) c);
    waits = λ q y. (q, sym asks ∙ y, refl);
  }

  by_put : (l : Line) → h.lines b ≡ Some l → (p : Option PutOut) (t : HartResult) → write_back_row_if_none_out i b l p h ≡ Some t → Sheds h t.hart
  by_put l e None t k = subst (λ (z : HartResult). Sheds h z.hart) (same_Some (write_back_row i b l h) t k) (gone l (write_back_row i b l h).hart e refl refl)
  by_put l e (Some p) t k = absurd (cc)

  by_state : (l : Line) → h.lines b ≡ Some l → (z : LineState) (t : HartResult) → evict_by z i b l h ≡ Some t → Sheds h t.hart
  by_state l e Shared t k = subst (λ (z : HartResult). Sheds h z.hart) (same_Some (drop_row i b l h) t k) (gone l (drop_row i b l h).hart e refl refl)
  by_state l e Exclusive t k = by_put l e h.put t k
  by_state l e Modified t k = by_put l e h.put t k

  -- a line is evicted
  pub evict_sheds : (t : HartResult) → evict_row i b h ≡ Some t → Sheds h t.hart
  evict_sheds t k = by_line (h.lines b) refl k
    where
      by_line : (l : Option Line) → h.lines b ≡ l → evict_line i b l h ≡ Some t → Sheds h t.hart
      by_line None e k = absurd (cc)
      by_line (Some l) e k = by_state l e l.state t k

-- Moves

-- a row that the core is about to make adds no line
abbrev MoveSheds : Hart → Move → Type 0
MoveSheds h Rests = Unit {0}
MoveSheds h (Makes t) = Sheds h t.hart
MoveSheds h (Lacks kind b) = Unit {0}

module _ (s : Setting) (i taken : ℕ) (h : Hart) where
  undo_sheds : (t : Transaction) (r : LogRecord) (rest : List LogRecord) (z : Option Line) → h.lines r.block ≡ z → MoveSheds h (undo_move t r rest z h)
  undo_sheds t r rest None e = tt
  undo_sheds t r rest (Some l) e = by_owner (is_owned l.state)
    where
      by_owner : (z : Bool) → MoveSheds h (cond z (Makes (undo_row t r rest l h)) (Lacks Write r.block))
      by_owner true = sheds_one h (undo_row t r rest l h).hart r.block l (line_undone r.before l) e refl refl
      by_owner false = tt

  abort_sheds : (cause : AbortCause) (t : Transaction) (log : List LogRecord) → MoveSheds h (abort_move i cause t log h)
  abort_sheds cause t [] = sheds_marks h _ refl refl
  abort_sheds cause t (r ∷ rest) = undo_sheds t r rest (h.lines r.block) refl

  trap_sheds : (c : Cause) (z : Option Transaction) → Sheds h (trap_row i c z h).hart
  trap_sheds c None = sheds_none h _ refl refl
  trap_sheds c (Some t) = sheds_none h _ refl refl

  begin_sheds : (w : ℕ) (e : Effect) (p : ℕ) (z : Option Transaction) → Sheds h (begin_row i taken w e p z h).hart
  begin_sheds w e p None = sheds_none h _ refl refl
  begin_sheds w e p (Some t) = sheds_none h _ refl refl

  commit_sheds : (w : ℕ) (e : Effect) (z : Option Transaction) → Sheds h (commit_row i w e z h).hart
  commit_sheds w e None = sheds_none h _ refl refl
  commit_sheds w e (Some t) = sheds_either h (t.depth == 1) (retire_row i no_memory w e (record h { tx = None; reserved = None; lines = λ b. line_cleared (h.lines b) })) (retire_row i no_memory w e (record h { tx = Some (record t { depth = t.depth - 1 }) }))
      (sheds_marks h _ refl refl)
      (sheds_none h _ refl refl)

  abort_begins : (z : Option Transaction) → Sheds h (tabort_row z h).hart
  abort_begins None = sheds_none h _ refl refl
  abort_begins (Some t) = sheds_none h _ refl refl

  module _ (w : ℕ) (e : Effect) where
    access_sheds : (m : MemoryAct) (kept : Option ℕ) (l : Line) → h.lines (m.addr / 32) ≡ Some l → (z : Option Transaction) → Sheds h (access_row i w e m kept l z h).hart
    access_sheds m kept l k None = sheds_one h _ (m.addr / 32) l (line_used false m l) k refl refl
    access_sheds m kept l k (Some t) = sheds_either h (is_log_due m l && nat_le 113 (length t.log)) (start_abort_row LogFull t h) (retire_row i (byte_in l.content) w e (with_line (m.addr / 32) (Some (line_used true m l)) (record h { tx = Some (tx_used m l t); reserved = kept })))
        (sheds_none h _ refl refl)
        (sheds_one h _ (m.addr / 32) l (line_used true m l) k refl refl)

    used : (m : MemoryAct) (kept : Option ℕ) (z : Option Line) → h.lines (m.addr / 32) ≡ z → MoveSheds h (access_move i w e m kept z h)
    used m kept None k = tt
    used m kept (Some l) k = by_kind (is_enough (kind_of m) (Some l))
      where
        by_kind : (z : Bool) → MoveSheds h (cond z (Makes (access_row i w e m kept l h.tx h)) (Lacks (kind_of m) (m.addr / 32)))
        by_kind true = access_sheds m kept l k h.tx
        by_kind false = tt

  conditional_sheds : (w : ℕ) (e : Effect) (m : MemoryAct) → MoveSheds h (conditional_move i w e m h)
  conditional_sheds w e m = by (is_reserved (m.addr / 32) h.reserved)
    where
      by : (z : Bool) → MoveSheds h (cond z (access_move i w (resolved true e) m None (h.lines (m.addr / 32)) h) (Makes (retire_row i no_memory w (resolved false e) (record h { reserved = None }))))
      by true = used w (resolved true e) m None (h.lines (m.addr / 32)) refl
      by false = sheds_none h _ refl refl

  module _ (w : ℕ) (e : Effect) where
    effect_sheds : (a : Act) → MoveSheds h (effect_move i taken w e a h)
    effect_sheds act.Nothing = sheds_none h _ refl refl
    effect_sheds (act.Memory m) = used w e m (reserved_with m m.load h.reserved) (h.lines (m.addr / 32)) refl
    effect_sheds (act.Conditional rd m) = conditional_sheds w e m
    effect_sheds (act.Begin p) = begin_sheds w e p h.tx
    effect_sheds act.Commit = commit_sheds w e h.tx
    effect_sheds act.Abort = abort_begins h.tx
    effect_sheds act.Call = sheds_none h _ refl refl
    effect_sheds act.Break = sheds_none h _ refl refl

  word_sheds : (z : Result Effect Cause) → MoveSheds h (instruction_move s i taken z h)
  word_sheds (Err c) = trap_sheds c h.tx
  word_sheds (Ok e) = effect_sheds (word_of s h) e e.act

  inside_sheds : (t : Transaction) (z : Option AbortCause) → MoveSheds h (transaction_move s i taken t z h)
  inside_sheds t None = word_sheds (next_of s (flat_hart h))
  inside_sheds t (Some cause) = abort_sheds cause t t.log

  tx_sheds : (z : Option Transaction) → MoveSheds h (tx_move s i taken z h)
  tx_sheds None = word_sheds (next_of s (flat_hart h))
  tx_sheds (Some t) = inside_sheds t t.aborting

  move_sheds : MoveSheds h (core_move s i taken h)
  move_sheds = by_rest (is_running h.status && is_none h.request)
    where
      by_rest : (z : Bool) → MoveSheds h (cond z (tx_move s i taken h.tx h) Rests)
      by_rest true = tx_sheds h.tx
      by_rest false = tt

-- A block that is lacked

module _ (g : Geometry) (i : ℕ) (victim : ℕ → Option ℕ) (h : Hart) (f : Fits g h) where
  asks : (kind : Kind) (b : ℕ) → LeavesRoom g h.lines b → Fits g (ask_row i kind b h).hart
  asks kind b room = fits_asked g h _ (new_request b kind) f refl refl room

  -- a line is evicted first
  evicts : (v : ℕ) (o : Option HartResult) → evict_row i v h ≡ o → (t : HartResult) → option_map no_longer_fresh o ≡ Some t → Fits g t.hart
  evicts v None k t e = absurd (cc)
  evicts v (Some u) k t e =
      let d = evict_sheds h i v u k in
      subst (λ (z : HartResult). Fits g z.hart) (same_Some (no_longer_fresh u) t e) (fits_shed g h _ f (record { lines = d.lines; waits = d.waits }))

  with_room : (kind : Kind) (b : ℕ) (a : Option ℕ) → (a ≡ None → LeavesRoom g h.lines b) → (t : HartResult) → ask_with_room i kind b a h ≡ Some t → Fits g t.hart
  with_room kind b None room t e = subst (λ (z : HartResult). Fits g z.hart) (same_Some (ask_row i kind b h) t e) (asks kind b (room refl))
  with_room kind b (Some v) room t e = evicts v (evict_row i v h) refl t e

  room_by : (b : ℕ) → (h.lines b ≡ None → MayName g h.lines b (victim b)) → (z : Option Line) → h.lines b ≡ z → victim_for victim b z ≡ None → LeavesRoom g h.lines b
  room_by b may None e n = room_left g h.lines b (subst (MayName g h.lines b) n (may e))
  room_by b may (Some l) e n = room_beside g h.lines b (f.sets b) (is_there (h.lines b) l e)

  fetches : (kind : Kind) (b : ℕ) → (h.lines b ≡ None → MayName g h.lines b (victim b)) → (t : HartResult) → fetch_row i victim kind b h ≡ Some t → Fits g t.hart
  fetches kind b may t e = by_put (has_put_of b h.put) e
    where
      by_put : (z : Bool) → cond z None (ask_with_room i kind b (victim_for victim b (h.lines b)) h) ≡ Some t → Fits g t.hart
      by_put true e = absurd (cc)
      by_put false e = with_room kind b (victim_for victim b (h.lines b)) (room_by b may (h.lines b) refl) t e

  moves : (m : Move) → MoveSheds h m → MayLack g h victim m → (t : HartResult) → move_row i victim m h ≡ Some t → Fits g t.hart
  moves Rests d may t e = absurd (cc)
  moves (Makes u) d may t e = subst (λ (z : HartResult). Fits g z.hart) (same_Some u t e) (fits_shed g h u.hart f d)
  moves (Lacks kind b) d may t e = fetches kind b may t e

  -- a core step
  pub core_fits : (s : Setting) (taken : ℕ) → MayLack g h victim (core_move s i taken h) → (t : HartResult) → core_row s i taken victim h ≡ Some t → Fits g t.hart
  core_fits s taken may t e = moves (core_move s i taken h) (move_sheds s i taken h) may t e

  -- an eviction
  pub evict_fits : (b : ℕ) (t : HartResult) → evict_row i b h ≡ Some t → Fits g t.hart
  evict_fits b t e = fits_shed g h t.hart f (evict_sheds h i b t e)
