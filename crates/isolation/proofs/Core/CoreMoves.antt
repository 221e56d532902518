-- What a core is about to do: each turn that it makes keeps the invariant, and a block that it lacks is one that its word, or its undo,
-- is about.
use Rattle.std.proofs.Common.{◌≡◌, ◌≢◌, ◌<◌, ◌≤◌, ◌/◌, ◌&&◌, ◌-◌, ℕ, List, [], ◌∷◌, Bool, true, false, Option, None, Some, Result, Ok, Err, cond, eqb, length, min, refl, sym, ap, subst, ◌∙◌, arith}
use Rattle.std.specs.Prelude.{is_some, is_none, nat_le, IsOkAnd}
use Rattle.std.proofs.lemmas.Bool.{eq-eqb, eqb-true, eqb-false, and_parts}
use Rattle.std.proofs.lemmas.Bool.Decides.{nat_tests}
use Rattle.words.specs.declared.cause.Cause.{Cause}
use Rattle.words.specs.declared.cause.AbortCause.{AbortCause}
use Rattle.words.specs.declared.cause.AbortCause.TheVariants.{Asked, LogFull, Trapped}
use Rattle.words.specs.declared.cause.Status.{Status}
use Rattle.words.specs.declared.cause.Status.TheVariants.{Running, Exited, Stopped}
use Rattle.words.specs.declared.message.Kind.{Kind}
use Rattle.words.specs.declared.message.Kind.TheVariants.{Write}
use Rattle.table.specs.declared.effect.Effect.{Effect}
use Rattle.table.specs.declared.effect.MemoryAct.{MemoryAct}
use Rattle.table.specs.declared.effect.Store.{Store}
use Rattle.table.specs.declared.effect.Act.{Act}
use Rattle.table.specs.declared.effect.Act.TheVariants as act
use Rattle.flat.specs.State.{Setting, FlatHart, Tx as FlatTx}
use Rattle.flat.specs.Causes.{next_of, done_next}
use Rattle.flat.specs.Steps.{is_abort, is_store}
use Rattle.flat.specs.Reservation.{is_reserved}
use Rattle.flat.proofs.LoadsOrStores.{next_useful}
use Rattle.table.specs.Effects.{write_of}
use Rattle.protocol.specs.Messages.{Block}
use Rattle.words.specs.LineStates.{is_owned}
use Rattle.protocol.specs.Lines.{Line, is_enough, byte_in, line_used, line_cleared}
use Rattle.protocol.specs.Hart.{Hart, Transaction, LogRecord, flat_hart, is_running, log_of, with_line}
use Rattle.protocol.specs.Core.{Move, Rests, Makes, Lacks, abort_move, undo_move, trap_row, start_abort_row, access_move, access_row, effect_move, instruction_move, transaction_move, tx_move, core_move, kind_of, is_log_due, word_of, begin_row, commit_row, tabort_row, retire_row, no_memory, undo_row, tx_used, reserved_with, conditional_move}
use Rattle.isolation.proofs.OneBlock.Model.State.{Tx, Outside, Aborting, Running as Inside_tx}
use Rattle.isolation.proofs.OneBlock.Model.Core.{Due}
use Rattle.isolation.proofs.Machine.World.{World, tx_by_cause, tx_at, images_of, act_at, access_at}
use Rattle.isolation.proofs.Machine.Invariant.{SameTx, Inv}
use Rattle.isolation.proofs.Machine.Tables.{record_here}
use Rattle.isolation.proofs.Machine.Transactions.{outside, not_aborting}
use Rattle.isolation.proofs.Words.NextWord.{next_is, next_done, commit_inside, abort_inside, no_break}
use Rattle.isolation.proofs.Core.HartResults.{Made}
use Rattle.isolation.proofs.Core.AbortRows.{made_start, made_end}
use Rattle.isolation.proofs.Core.UndoRows.{made_undo}
use Rattle.isolation.proofs.Core.RetireRows.{Ready}
use Rattle.isolation.proofs.Core.RegisterRows.{made_nothing, made_call}
use Rattle.isolation.proofs.Core.BeginRows.{made_begin, made_deeper}
use Rattle.isolation.proofs.Core.CommitRows.{made_shallower, made_commit}
use Rattle.isolation.proofs.Core.Accesses.{Access}
use Rattle.isolation.proofs.Core.PlainAccessRows.{made_plain}
use Rattle.isolation.proofs.Core.TxAccessRows.{made_inside}
use Rattle.isolation.proofs.Core.TrapRows.{made_trap}

-- what a move comes to
abbrev pub MoveIs : World → ℕ → Move → Type 0
MoveIs x i Rests = Unit {0}
MoveIs x i (Makes t) = Made x i t
MoveIs x i (Lacks kind b) = Due (tx_at (x.machine.harts i).tx) kind (access_at b (next_of x.machine.setting (x.flat.hart i))) (images_of b (log_of (x.machine.harts i).tx)) × (is_enough kind ((x.machine.harts i).lines b) ≡ false) × ((x.machine.harts i).request ≡ None)

-- an access is due of a hart that isn't being aborted
due_by : (t : Tx) (k : Kind) (a : Option Kind) (images : List Block) → t ≢ Aborting → a ≡ Some k → Due t k a images
due_by Outside k a images n e = e
due_by Inside_tx k a images n e = e
due_by Aborting k a images n e = absurd (n refl)

-- and an undo of one that is, and has a record of the block
due_undo : (t : Tx) (a : Option Kind) (images : List Block) (d : Block) (rest : List Block) → t ≡ Aborting → images ≡ d ∷ rest → Due t Write a images
due_undo t a images d rest e k = subst (λ z. Due z Write a images) (sym e) (subst (λ z. Due Aborting Write a z) (sym k) tt)

runs_is : (z : Status) → is_running z ≡ true → z ≡ Running
runs_is Running e = refl
runs_is (Exited n) e = absurd (cc)
runs_is (Stopped c n) e = absurd (cc)

free_is : {A : Type 0} (z : Option A) → is_none z ≡ true → z ≡ None
free_is None e = refl
free_is (Some a) e = absurd (cc)

-- a log that is full was filled by as many stores
full : (n k : ℕ) → nat_le 113 n ≡ true → n ≤ min k 113 → 113 ≤ k
full n k e z = grind (arith, nat_tests)

store_due : (m : MemoryAct) (l : Line) → is_log_due m l ≡ true → is_some m.store ≡ true
store_due m l e = by_store m.store e
  where
    by_store : (z : Option Store) → is_log_due (record m { store = z }) l ≡ true → is_some z ≡ true
    by_store None e = absurd (cc)
    by_store (Some q) e = refl

module _ (x : World) (v : Inv x) (i : ℕ) (o : i < x.machine.setting.count) (runs : (x.machine.harts i).status ≡ Running) (wait : (x.machine.harts i).request ≡ None) where
  abbrev s : Setting
  s = x.machine.setting

  abbrev h : Hart
  h = x.machine.harts i

  abbrev f : FlatHart
  f = x.flat.hart i

  -- a hart that is being aborted

  aborting_is : (t : Transaction) (c : AbortCause) → h.tx ≡ Some t → t.aborting ≡ Some c → tx_at h.tx ≡ Aborting
  aborting_is t c e a = ap tx_at e ∙ ap tx_by_cause a

  by_line : (t : Transaction) (c : AbortCause) (e : h.tx ≡ Some t) (a : t.aborting ≡ Some c) (r : LogRecord) (rest : List LogRecord) → t.log ≡ r ∷ rest → (z : Option Line) → h.lines r.block ≡ z → MoveIs x i (undo_move t r rest z h)
  by_line t c e a r rest g z k = by_copy z k
    where
      images_is : images_of r.block (log_of h.tx) ≡ r.before ∷ images_of r.block rest
      images_is = ap (λ y. images_of r.block (log_of y)) e ∙ ap (images_of r.block) g ∙ record_here r rest

      due : Due (tx_at h.tx) Write (access_at r.block (next_of s f)) (images_of r.block (log_of h.tx))
      due = due_undo (tx_at h.tx) (access_at r.block (next_of s f)) (images_of r.block (log_of h.tx)) r.before (images_of r.block rest) (aborting_is t c e a) images_is

      by_state : (l : Line) (y : Bool) → h.lines r.block ≡ Some l → is_owned l.state ≡ y → MoveIs x i (cond y (Makes (undo_row t r rest l h)) (Lacks Write r.block))
      by_state l true k y = made_undo x v i o t e wait c a r rest g l k y
      by_state l false k y = (due, ap (is_enough Write) k ∙ y, wait)

      by_copy : (z : Option Line) → h.lines r.block ≡ z → MoveIs x i (undo_move t r rest z h)
      by_copy None k = (due, ap (is_enough Write) k, wait)
      by_copy (Some l) k = by_state l (is_owned l.state) k refl

  by_log : (t : Transaction) (c : AbortCause) (e : h.tx ≡ Some t) (a : t.aborting ≡ Some c) (z : List LogRecord) → t.log ≡ z → MoveIs x i (abort_move i c t z h)
  by_log t c e a [] g = made_end x v i o t c e a g runs wait
  by_log t c e a (r ∷ rest) g = by_line t c e a r rest g (h.lines r.block) refl

  -- a hart that retires a word, or can't

  module _ (acts : tx_at h.tx ≢ Aborting) where
    r : Ready h
    r = record { runs = runs; free = wait; acts = acts }

    free_of : (t : Transaction) → h.tx ≡ Some t → t.aborting ≡ None
    free_of t e = not_aborting t (subst (λ z. tx_at z ≢ Aborting) e acts)

    by_trap : (c : Cause) → next_of s f ≡ Err c → (z : Option Transaction) → h.tx ≡ z → MoveIs x i (Makes (trap_row i c z h))
    by_trap c k None e = made_trap x v i o r c k e
    by_trap c k (Some t) e = made_start x v i o t e wait (Trapped c h.pc) (free_of t e) refl (λ u y d. (sym (v.harts i).pc, k))

    -- an access, or a conditional store that is made: its row's effect is d, and what is done is the access
    module _ (nx : ℕ) (wr : Option (ℕ × ℕ)) (m : MemoryAct) (kept : Option ℕ) (d : Effect) (k : next_of s f ≡ Ok d) (due : act_at (m.addr / 32) d.act ≡ Some (kind_of m)) (stores : is_store d.act ≡ is_some m.store)
        (done : done_next (is_some m.store) s f ≡ Ok (record { next = nx; write = wr; act = act.Memory m })) where
      abbrev made : Effect
      made = record { next = nx; write = wr; act = act.Memory m }

      lacks : (z : Option Line) → h.lines (m.addr / 32) ≡ z → is_enough (kind_of m) z ≡ false → MoveIs x i (Lacks (kind_of m) (m.addr / 32))
      lacks z y n = (due_by (tx_at h.tx) (kind_of m) (access_at (m.addr / 32) (next_of s f)) _ acts (ap (access_at (m.addr / 32)) k ∙ due), ap (is_enough (kind_of m)) y ∙ n, wait)

      abbrev access : (l : Line) → h.lines (m.addr / 32) ≡ Some l → is_enough (kind_of m) (Some l) ≡ true → Access x i
      access l y n = record { inv = v; is_hart = o; ready = r; does = m; next = nx; write = wr; is_done = done; line = l; has = y; enough = n }

      by_tx : (l : Line) → h.lines (m.addr / 32) ≡ Some l → is_enough (kind_of m) (Some l) ≡ true → (z : Option Transaction) → h.tx ≡ z → Made x i (access_row i (word_of s h) made m kept l z h)
      by_tx l y n None e = made_plain x i (access l y n) kept e
      by_tx l y n (Some t) e = by_room (is_log_due m l && nat_le 113 (length t.log)) refl
        where
          stores_filled : (u : FlatTx) → SameTx t u → nat_le 113 (length t.log) ≡ true → 113 ≤ u.stores
          stores_filled u d w = full (length t.log) u.stores w d.logged

          by_room : (w : Bool) → (is_log_due m l && nat_le 113 (length t.log)) ≡ w → Made x i (cond w (start_abort_row LogFull t h) (retire_row i (byte_in l.content) (word_of s h) made (with_line (m.addr / 32) (Some (line_used true m l)) (record h { tx = Some (tx_used m l t); reserved = kept }))))
          by_room true w = made_start x v i o t e wait LogFull (free_of t e) refl
              (λ u q z. (subst (λ z. IsOkAnd z (λ q. is_store q.act ≡ true)) (sym k) (stores ∙ store_due m l ((and_parts _ _ w).0)), stores_filled u z (and_parts (is_log_due m l) _ w).1))
          by_room false w = made_inside x i (access l y n) kept t e w

      by_copy : (z : Option Line) → h.lines (m.addr / 32) ≡ z → MoveIs x i (access_move i (word_of s h) made m kept z h)
      by_copy None y = lacks None y refl
      by_copy (Some l) y = by_kind (is_enough (kind_of m) (Some l)) refl
        where
          by_kind : (w : Bool) → is_enough (kind_of m) (Some l) ≡ w → MoveIs x i (cond w (Makes (access_row i (word_of s h) made m kept l h.tx h)) (Lacks (kind_of m) (m.addr / 32)))
          by_kind true w = by_tx l y w h.tx refl
          by_kind false w = lacks (Some l) y w

    itself : (m : MemoryAct) → cond (eqb (m.addr / 32) (m.addr / 32)) (Some (kind_of m)) None ≡ Some (kind_of m)
    itself m = ap (λ w. cond w (Some (kind_of m)) None) (eq-eqb (m.addr / 32) (m.addr / 32) refl)

    -- a conditional store has a store
    stores_one : (nx : ℕ) (wr : Option (ℕ × ℕ)) (rd : ℕ) (m : MemoryAct) → next_of s f ≡ Ok (record { next = nx; write = wr; act = act.Conditional rd m }) → is_some m.store ≡ true
    stores_one nx wr rd m k = next_useful s f (record { next = nx; write = wr; act = act.Conditional rd m }) k

    by_condition : (nx : ℕ) (wr : Option (ℕ × ℕ)) (rd : ℕ) (m : MemoryAct) → next_of s f ≡ Ok (record { next = nx; write = wr; act = act.Conditional rd m })
        → MoveIs x i (conditional_move i (word_of s h) (record { next = nx; write = wr; act = act.Conditional rd m }) m h)
    by_condition nx wr rd m k = go (is_reserved (m.addr / 32) h.reserved)
      where
        go : (z : Bool) → MoveIs x i (cond z (access_move i (word_of s h) (record { next = nx; write = write_of rd 0; act = act.Memory m }) m None (h.lines (m.addr / 32)) h)
            (Makes (retire_row i no_memory (word_of s h) (record { next = nx; write = write_of rd 1; act = act.Nothing }) (record h { reserved = None }))))
        go true = by_copy nx (write_of rd 0) m None (record { next = nx; write = wr; act = act.Conditional rd m }) k (itself m) refl
            (ap (λ z. done_next z s f) (stores_one nx wr rd m k) ∙ next_done s f (record { next = nx; write = wr; act = act.Conditional rd m }) true k) (h.lines (m.addr / 32)) refl
        go false = made_nothing x v i o r nx (write_of rd 1) None (next_done s f (record { next = nx; write = wr; act = act.Conditional rd m }) false k)

    module _ (nx : ℕ) (wr : Option (ℕ × ℕ)) where
      abbrev does : Act → Effect
      does a = record { next = nx; write = wr; act = a }

      by_begin : (a : ℕ) → next_of s f ≡ Ok (does (act.Begin a)) → (z : Option Transaction) → h.tx ≡ z → Made x i (begin_row i x.machine.stamps (word_of s h) (does (act.Begin a)) a z h)
      by_begin a k None e = made_begin x v i o r nx wr e a k
      by_begin a k (Some t) e = made_deeper x v i o r nx wr t e a k

      by_commit : next_of s f ≡ Ok (does act.Commit) → (z : Option Transaction) → h.tx ≡ z → Made x i (commit_row i (word_of s h) (does act.Commit) z h)
      by_commit k None e = absurd (commit_inside s f (does act.Commit) k refl (outside s h f (x.history.past i) (v.harts i) e))
      by_commit k (Some t) e = by_depth (eqb t.depth 1) refl
        where
          by_depth : (z : Bool) → eqb t.depth 1 ≡ z → Made x i (cond z (retire_row i no_memory (word_of s h) (does act.Commit) (record h { tx = None; reserved = None; lines = λ b. line_cleared (h.lines b) })) (retire_row i no_memory (word_of s h) (does act.Commit) (record h { tx = Some (record t { depth = t.depth - 1 }) })))
          by_depth true y = made_commit x v i o r nx wr t e (eqb-true t.depth 1 y) k
          by_depth false y = made_shallower x v i o r nx wr t e (eqb-false t.depth 1 y) k

      by_abort : next_of s f ≡ Ok (does act.Abort) → (z : Option Transaction) → h.tx ≡ z → Made x i (tabort_row z h)
      by_abort k None e = absurd (abort_inside s f (does act.Abort) k refl (outside s h f (x.history.past i) (v.harts i) e))
      by_abort k (Some t) e = made_start x v i o t e wait Asked (free_of t e) refl (λ u y d. subst (λ z. IsOkAnd z (λ q. is_abort q.act ≡ true)) (sym k) refl)

      by_act : (a : Act) → next_of s f ≡ Ok (does a) → MoveIs x i (effect_move i x.machine.stamps (word_of s h) (does a) a h)
      by_act act.Nothing k = made_nothing x v i o r nx wr h.reserved (next_done s f (does act.Nothing) false k)
      by_act (act.Memory m) k = by_copy nx wr m (reserved_with m m.load h.reserved) (does (act.Memory m)) k (itself m) refl (next_done s f (does (act.Memory m)) (is_some m.store) k) (h.lines (m.addr / 32)) refl
      by_act (act.Conditional rd m) k = by_condition nx wr rd m k
      by_act (act.Begin a) k = by_begin a k h.tx refl
      by_act act.Commit k = by_commit k h.tx refl
      by_act act.Abort k = by_abort k h.tx refl
      by_act act.Call k = made_call x v i o r nx wr k
      by_act act.Break k = absurd (no_break s f (does act.Break) k refl)

    by_next : (z : Result Effect Cause) → next_of s f ≡ z → MoveIs x i (instruction_move s i x.machine.stamps z h)
    by_next (Ok e) k = by_act e.next e.write e.act k
    by_next (Err c) k = by_trap c k h.tx refl

    instruction_is : MoveIs x i (instruction_move s i x.machine.stamps (next_of s (flat_hart h)) h)
    instruction_is = by_next (next_of s (flat_hart h)) (next_is s h f (x.history.past i) (v.harts i))

  by_aborting : (t : Transaction) → h.tx ≡ Some t → (z : Option AbortCause) → t.aborting ≡ z → MoveIs x i (transaction_move s i x.machine.stamps t z h)
  by_aborting t e None a = instruction_is (λ z. not_both (sym (ap tx_at e ∙ ap tx_by_cause a) ∙ z))
    where
      not_both : Inside_tx ≡ Aborting → ⊥
      not_both z = absurd (cc)
  by_aborting t e (Some c) a = by_log t c e a t.log refl

  -- a hart that runs and waits for nothing
  pub tx_move_is : (z : Option Transaction) → h.tx ≡ z → MoveIs x i (tx_move s i x.machine.stamps z h)
  tx_move_is None e = instruction_is (λ z. not_both (sym (ap tx_at e) ∙ z))
    where
      not_both : Outside ≡ Aborting → ⊥
      not_both z = absurd (cc)
  tx_move_is (Some t) e = by_aborting t e t.aborting refl

-- whatever a core is about to do
pub move_is : (x : World) (v : Inv x) (i : ℕ) → i < x.machine.setting.count → MoveIs x i (core_move x.machine.setting i x.machine.stamps (x.machine.harts i))
move_is x v i o = by_running (is_running (x.machine.harts i).status && is_none (x.machine.harts i).request) refl
  where
    by_running : (z : Bool) → (is_running (x.machine.harts i).status && is_none (x.machine.harts i).request) ≡ z → MoveIs x i (cond z (tx_move x.machine.setting i x.machine.stamps (x.machine.harts i).tx (x.machine.harts i)) Rests)
    by_running true e = tx_move_is x v i o (runs_is (x.machine.harts i).status (and_parts _ _ e).0) (free_is (x.machine.harts i).request (and_parts (is_running (x.machine.harts i).status) _ e).1) (x.machine.harts i).tx refl
    by_running false e = tt
