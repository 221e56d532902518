-- A core that runs and doesn't wait has a row to make, unless a Put of its hart is out.
use Rattle.std.proofs.Common.{◌≡◌, ◌/◌, ℕ, Bool, true, false, cond, List, [], ◌∷◌, Option, Some, None, Result, Ok, Err, refl, ap}
use Rattle.std.specs.Prelude.{◌&&◌, is_some, is_none, IsSome}
use Rattle.std.specs.Option.{option_map}
use Rattle.words.specs.declared.cause.Cause.{Cause}
use Rattle.words.specs.declared.cause.AbortCause.{AbortCause}
use Rattle.words.specs.declared.message.LineState.{LineState}
use Rattle.words.specs.declared.message.LineState.TheVariants.{Shared, Exclusive, Modified}
use Rattle.words.specs.declared.message.Kind.{Kind}
use Rattle.words.specs.declared.message.Kind.TheVariants.{Write}
use Rattle.words.specs.LineStates.{is_owned}
use Rattle.table.specs.declared.effect.Effect.{Effect}
use Rattle.table.specs.declared.effect.MemoryAct.{MemoryAct}
use Rattle.table.specs.declared.effect.Act.{Act}
use Rattle.table.specs.declared.effect.Act.TheVariants as act
use Rattle.table.specs.Effects.{resolved}
use Rattle.flat.specs.State.{Setting}
use Rattle.flat.specs.Reservation.{is_reserved}
use Rattle.flat.specs.Causes.{next_of}
use Rattle.protocol.specs.Lines.{Line, is_enough}
use Rattle.protocol.specs.Hart.{Hart, Transaction, LogRecord, is_running, has_put_of, flat_hart}
use Rattle.protocol.specs.Caches.{Geometry, MayName}
use Rattle.protocol.specs.Core.{Move, Rests, Makes, Lacks, abort_move, access_move, access_row, ask_with_room, conditional_move, core_move, core_row, effect_move, instruction_move, kind_of, move_row, no_longer_fresh, no_memory, reserved_with, retire_row, transaction_move, tx_move, undo_move, undo_row, victim_for, word_of}
use Rattle.protocol.specs.Evict.{evict_by, evict_line}
use Rattle.protocol.specs.Machine.{MayLack}
use Rattle.hart.proofs.Victims.{may_lack}

-- What a core that goes on is about to do

abbrev IsMove : Move → Type 0
IsMove Rests = ⊥
IsMove (Makes turn) = Unit {0}
IsMove (Lacks kind block) = Unit {0}

either : (m n : Move) (b : Bool) → IsMove m → IsMove n → IsMove (cond b m n)
either m n true first second = first
either m n false first second = second

module _ (s : Setting) (i taken : ℕ) where
  access_moves : (w : ℕ) (e : Effect) (m : MemoryAct) (kept : Option ℕ) (o : Option Line) (h : Hart) → IsMove (access_move i w e m kept o h)
  access_moves w e m kept None h = tt
  access_moves w e m kept (Some l) h = either (Makes (access_row i w e m kept l h.tx h)) (Lacks (kind_of m) (m.addr / 32)) (is_enough (kind_of m) (Some l)) tt tt

  conditional_moves : (w : ℕ) (e : Effect) (m : MemoryAct) (h : Hart) → IsMove (conditional_move i w e m h)
  conditional_moves w e m h =
      either (access_move i w (resolved true e) m None (h.lines (m.addr / 32)) h) (Makes (retire_row i no_memory w (resolved false e) (record h { reserved = None })))
      (is_reserved (m.addr / 32) h.reserved) (access_moves w (resolved true e) m None (h.lines (m.addr / 32)) h) tt

  effect_moves : (w : ℕ) (e : Effect) (a : Act) (h : Hart) → IsMove (effect_move i taken w e a h)
  effect_moves w e act.Nothing h = tt
  effect_moves w e (act.Memory m) h = access_moves w e m (reserved_with m m.load h.reserved) (h.lines (m.addr / 32)) h
  effect_moves w e (act.Conditional rd m) h = conditional_moves w e m h
  effect_moves w e (act.Begin p) h = tt
  effect_moves w e act.Commit h = tt
  effect_moves w e act.Abort h = tt
  effect_moves w e act.Call h = tt
  effect_moves w e act.Break h = tt

  instruction_moves : (r : Result Effect Cause) (h : Hart) → IsMove (instruction_move s i taken r h)
  instruction_moves (Err c) h = tt
  instruction_moves (Ok e) h = effect_moves (word_of s h) e e.act h

  undo_moves : (t : Transaction) (r : LogRecord) (rest : List LogRecord) (o : Option Line) (h : Hart) → IsMove (undo_move t r rest o h)
  undo_moves t r rest None h = tt
  undo_moves t r rest (Some l) h = either (Makes (undo_row t r rest l h)) (Lacks Write r.block) (is_owned l.state) tt tt

  abort_moves : (cause : AbortCause) (t : Transaction) (log : List LogRecord) (h : Hart) → IsMove (abort_move i cause t log h)
  abort_moves cause t [] h = tt
  abort_moves cause t (r ∷ rest) h = undo_moves t r rest (h.lines r.block) h

  transaction_moves : (t : Transaction) (o : Option AbortCause) (h : Hart) → IsMove (transaction_move s i taken t o h)
  transaction_moves t None h = instruction_moves (next_of s (flat_hart h)) h
  transaction_moves t (Some cause) h = abort_moves cause t t.log h

  tx_moves : (o : Option Transaction) (h : Hart) → IsMove (tx_move s i taken o h)
  tx_moves None h = instruction_moves (next_of s (flat_hart h)) h
  tx_moves (Some t) h = transaction_moves t t.aborting h

  core_moves : (h : Hart) → is_running h.status ≡ true → h.request ≡ None → IsMove (core_move s i taken h)
  core_moves h runs none =
      let on : (is_running h.status && is_none h.request) ≡ true = rw (runs, none) refl in
      rw on (tx_moves h.tx h)

-- Where no Put is out, there is a row for it

module _ (g : Geometry) (i : ℕ) (victim : ℕ → Option ℕ) (h : Hart) (none_out : h.put ≡ None) where
  by_state : (s : LineState) (v : ℕ) (l : Line) → is_some (option_map no_longer_fresh (evict_by s i v l h)) ≡ true
  by_state Shared v l = refl
  by_state Exclusive v l = rw none_out refl
  by_state Modified v l = rw none_out refl

  by_line : (v : ℕ) (o : Option Line) → IsSome o → is_some (option_map no_longer_fresh (evict_line i v o h)) ≡ true
  by_line v None there = absurd (cc)
  by_line v (Some l) there = by_state l.state v l

  by_name : (kind : Kind) (b : ℕ) (o : Option ℕ) → MayName g h.lines b o → is_some (ask_with_room i kind b o h) ≡ true
  by_name kind b None may = refl
  by_name kind b (Some v) may = by_line v (h.lines v) may.1.1

  by_own : (kind : Kind) (b : ℕ) (o : Option Line) → (o ≡ None → MayName g h.lines b (victim b)) → is_some (ask_with_room i kind b (victim_for victim b o) h) ≡ true
  by_own kind b None may = by_name kind b (victim b) (may refl)
  by_own kind b (Some l) may = refl

  row_there : (m : Move) → IsMove m → MayLack g h victim m → is_some (move_row i victim m h) ≡ true
  row_there Rests moves may = absurd moves
  row_there (Makes turn) moves may = refl
  row_there (Lacks kind b) moves may = let none : has_put_of b h.put ≡ false = ap (has_put_of b) none_out in rw none (by_own kind b (h.lines b) may)

pub goes_on : (g : Geometry) (s : Setting) (i taken : ℕ) (victim : ℕ → Option ℕ) (h : Hart) → is_running h.status ≡ true → h.request ≡ None → h.put ≡ None
    → ((b : ℕ) → MayName g h.lines b (victim b)) → is_some (core_row s i taken victim h) ≡ true
goes_on g s i taken victim h runs none none_out may = row_there g i victim h none_out (core_move s i taken h) (core_moves s i taken h runs none) (may_lack g h victim (core_move s i taken h) may)
