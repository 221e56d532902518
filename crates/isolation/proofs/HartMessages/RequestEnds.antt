-- A request that has heard one more answer waits on, or ends granted or refused: what its hart is then, at its block and as a whole.
use Rattle.std.proofs.Common.{◌≡◌, ℕ, Bool, true, false, Option, None, Some, cond, refl, ap, ◌∙◌, arith}
use Rattle.std.specs.Prelude.{◌&&◌, ◌||◌, IsSomeAnd, unwrap_or}
use Rattle.std.specs.Option.{option_map}
use Rattle.words.specs.declared.cause.AbortCause.TheVariants.{Conflict}
use Rattle.words.specs.declared.stamp.Stamp.{Stamp}
use Rattle.flat.specs.State.{Setting, FlatHart, Tx as FlatTx}
use Rattle.flat.specs.Reasons.{Past}
use Rattle.flat.proofs.Maps.{put_there}
use Rattle.protocol.specs.Messages.{Granted, Done}
use Rattle.protocol.specs.Hart.{Hart, Transaction, Request, HartResult, quiet, overflow_of, stamp_of, log_of}
use Rattle.protocol.specs.Requests.{have_answered, content_back, gives_way, line_granted, granted_row, refused_row, end_row, granted_so_far}
use Rattle.isolation.proofs.OneBlock.Model.State.{Wait, Aborting, Local}
use Rattle.isolation.proofs.OneBlock.Model.Messages.{fail_own, end_refused, end_granted, end_request, ends_if, with_grant, finish, filled}
use Rattle.isolation.proofs.Machine.Slots.{slot, Mail, at_here}
use Rattle.isolation.proofs.Machine.World.{as_done, copy_of, wait_of, tx_at, conflict_at, cycle_of, images_of, own_at, local_at}
use Rattle.isolation.proofs.Machine.Invariant.{TxIs, AbortIsDue, PastIs, HartIs}
use Rattle.isolation.proofs.Machine.Readings.{request_at}
use Rattle.isolation.proofs.Machine.Tables.{filled_same, back_same, value_same, complete_same}
use Rattle.isolation.proofs.HartMessages.OneHartMoves.{posted}

-- A transaction that may abort for a conflict

way_tx : (e : Bool) (t : Option Transaction) → tx_at (option_map (gives_way e) t) ≡ cond (cycle_of t && e) Aborting (tx_at t)
way_tx e t = grind arith

way_conflict : (e : Bool) (t : Option Transaction) → conflict_at (option_map (gives_way e) t) ≡ (conflict_at t || (cycle_of t && e))
way_conflict e t = grind arith

way_overflow : (e : Bool) (t : Option Transaction) → overflow_of (option_map (gives_way e) t) ≡ overflow_of t
way_overflow e t = grind arith

way_cycle : (e : Bool) (t : Option Transaction) → cycle_of (option_map (gives_way e) t) ≡ cycle_of t
way_cycle e t = grind arith

way_stamp : (e : Bool) (t : Option Transaction) → stamp_of (option_map (gives_way e) t) ≡ stamp_of t
way_stamp e t = grind arith

way_log : (e : Bool) (t : Option Transaction) → log_of (option_map (gives_way e) t) ≡ log_of t
way_log e t = grind arith

-- the hart, once its request has ended refused
abbrev pub giving : Bool → Hart → Hart
giving e h = record h { request = None; tx = option_map (gives_way e) h.tx }

-- its own fields then
pub own_giving : (s : Setting) (b : ℕ) (e : Bool) (h : Hart) (f : FlatHart) (p : Past) → own_at s b (giving e h) f p ≡ fail_own e (own_at s b h f p)
own_giving s b e h f p = λ k. record (fail_own e (own_at s b h f p)) {
  tx = way_tx e h.tx k;
  conflict = way_conflict e h.tx k;
  overflow = way_overflow e h.tx k;
  flag = way_cycle e h.tx k;
  stamp = way_stamp e h.tx k;
  images = images_of b (way_log e h.tx k);
}

way_is : (e : Bool) (t : Option Transaction) (u : Option FlatTx) → TxIs t u → TxIs (option_map (gives_way e) t) u
way_is e t u z = grind arith

way_due : (s : Setting) (e : Bool) (t : Option Transaction) (f : FlatHart) → TxIs t f.tx → AbortIsDue s t f → AbortIsDue s (option_map (gives_way e) t) f
way_due s e None f z d = tt
way_due s e (Some t) f z d = go (t.cycle && e) f.tx z
  where
    some : (u : Option FlatTx) → TxIs (Some t) u → IsSomeAnd u (λ _. Unit {0})
    some None y = absurd y
    some (Some u) y = tt

    go : (q : Bool) (u : Option FlatTx) → TxIs (Some t) u → AbortIsDue s (Some (cond q (record t { aborting = Some Conflict }) t)) f
    go true u y = some f.tx z
    go false u y = d

way_past : (e : Bool) (t : Option Transaction) (k : Option Stamp) (p : Past) → PastIs t k p → PastIs (option_map (gives_way e) t) k p
way_past e t k p z = grind arith

-- it is the flat machine's still
pub hart_giving : (s : Setting) (e : Bool) (h : Hart) (f : FlatHart) (p : Past) → HartIs s h f p → HartIs s (giving e h) f p
hart_giving s e h f p z = record {
  regs = z.regs;
  pc = z.pc;
  output = z.output;
  status = z.status;
  tx = way_is e h.tx f.tx z.tx;
  due = way_due s e h.tx f z.tx z.due;
  past = way_past e h.tx h.kept_stamp p z.past;
}

-- The three ways that it goes on

-- what holds of each of the three holds of what it does
pub ways : (P : HartResult → Type 0) (n i : ℕ) (r : Request) (o : Option Granted) (h : Hart) → P (quiet (record h { request = Some r })) → (r.refused ≡ true → P (refused_row i r h)) → ((g : Granted) → P (granted_row i r g h)) → P (granted_so_far n i r o h)
ways P n i r None h w f g = w
ways P n i r (Some y) h w f g = by_test (have_answered n y.expect r.answered)
  where
    by_end : (q : Bool) → r.refused ≡ q → P (cond q (refused_row i r h) (granted_row i r y h))
    by_end true e = f e
    by_end false e = g y

    by_test : (q : Bool) → P (cond q (end_row i r y h) (quiet (record h { request = Some r })))
    by_test true = by_end r.refused refl
    by_test false = w

-- At its block

module _ (s : Setting) (n i : ℕ) (r : Request) (h : Hart) (f : FlatHart) (p : Past) (mail : Mail) where
  -- what the hart is once the answer is kept
  abbrev pub kept : Local
  kept = record (local_at s r.block i h f p mail) { wait = Some (wait_of r) }

  -- and after a turn
  abbrev turned : HartResult → Local
  turned t = local_at s r.block i t.hart f p (posted t mail)

  waits_here : turned (quiet (record h { request = Some r })) ≡ kept
  waits_here = λ k. record kept { wait = request_at r.block (Some r) r refl refl k }

  refused_here : turned (refused_row i r h) ≡ end_refused (wait_of r) kept
  refused_here = λ k. record (end_refused (wait_of r) kept) {
    done = ap as_done (at_here (slot 2 r.block i) (Some (Done i r.block false None)) mail) k;
    own = own_giving s r.block r.earlier h f p k;
  }

  granted_here : (g : Granted) → turned (granted_row i r g h) ≡ end_granted (wait_of r) g kept
  granted_here g = λ k. record (end_granted (wait_of r) g kept) {
    line = (ap copy_of (put_there r.block (Some (line_granted r g h)) h.lines) ∙ filled_same g.give (overflow_of h.tx) (unwrap_or r.content g.content) (h.lines r.block) ∙ ap (λ d. filled g.give (overflow_of h.tx) d (copy_of (h.lines r.block))) (value_same r.content g.content)) k;
    done = (ap as_done (at_here (slot 2 r.block i) (Some (Done i r.block true (content_back g.give r.content))) mail) ∙ ap (λ d. Some (true, d)) (back_same g.give r.content)) k;
  }

  -- its row at the block is the one-block row
  pub so_far_here : (o : Option Granted) → turned (granted_so_far n i r o h) ≡ with_grant n (wait_of r) o kept
  so_far_here None = waits_here
  so_far_here (Some g) = by_test (have_answered n g.expect r.answered) ∙ ap (λ q. ends_if q (wait_of r) g kept) (complete_same n g.expect r.answered)
    where
      by_end : (q : Bool) → turned (cond q (refused_row i r h) (granted_row i r g h)) ≡ end_request q (wait_of r) g kept
      by_end true = refused_here
      by_end false = granted_here g

      by_test : (q : Bool) → turned (cond q (end_row i r g h) (quiet (record h { request = Some r }))) ≡ ends_if q (wait_of r) g kept
      by_test true = by_end r.refused
      by_test false = waits_here

-- one block's row, where that request waits
pub finish_kept : (n : ℕ) (l : Local) (w : Option Wait) (r : Request) → w ≡ Some (wait_of r) → finish n (record l { wait = w }) ≡ with_grant n (wait_of r) r.grant (record l { wait = Some (wait_of r) })
finish_kept n l w r e = ap (λ z. finish n (record l { wait = z })) e
