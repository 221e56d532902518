-- Each step keeps the invariant.
use Rattle.std.proofs.Common.{ℕ, Option, sym, ◌∙◌}
use Rattle.words.specs.declared.message.LineState.{LineState}
use Rattle.protocol.specs.Messages.{Block}
use Rattle.isolation.proofs.OneBlock.Model.State.{Local, One, at_hart}
use Rattle.isolation.proofs.OneBlock.Model.Step.{Step, Loads, Stores, Undoes, Asks, Drops, Evicts, Begins, Commits, Starts_abort, Ends_abort, Retires, Spills_elsewhere, Refuses_elsewhere, Refused_elsewhere, Conflicts_elsewhere, Fwd_acknowledged, Fwd_refused, Put_ack_comes, Grant_comes, Ack_comes, Nack_comes, Get_comes, Put_comes, Stale_put_comes, Done_comes, Done_refused_comes}
use Rattle.isolation.proofs.OneBlock.Invariant.Roles.{Role, Ghost}
use Rattle.isolation.proofs.OneBlock.Invariant.Each.{Each, ctx, Inv, Good}
use Rattle.isolation.proofs.OneBlock.Rows.Quiet.{retire_row, begin_row, start_abort_row, spill_row, refuse_row, note_row, clash_row}
use Rattle.isolation.proofs.OneBlock.Rows.ValueStaysRows.{load_row, ask_row, drop_row, evict_row, over_row, stale_row, ack_row}
use Rattle.isolation.proofs.OneBlock.Steps.FromOneHart.{local_move}
use Rattle.isolation.proofs.OneBlock.Steps.KeepsOwn.{stores, undoes, commits, ends_abort}
use Rattle.isolation.proofs.OneBlock.Steps.KeepsMessages.{grants_come, acks_come, nacks_come, refuses_come}
use Rattle.isolation.proofs.OneBlock.Steps.KeepsDirectory.{gets_come, puts_come, dones_come, failed_come}

module _ (n : ℕ) (s : One) (b : Option (ℕ × LineState)) (a : Role) (cur : Block) (w : Option ℕ) (g : ℕ → Ghost) (v : Inv n b a cur w s g) where
  by_itself : (h : ℕ) (l : Local) (gh : Ghost) → Each (ctx b a cur w s) (s.sharers h) h l gh → Good n (at_hart h l s)
  by_itself h l gh m = local_move n s b a cur w g h l gh v m

  -- whichever step it is
  pub keeps : (t : One) → Step n s t → Good n t
  keeps t (Loads h k o f y) = by_itself h _ _ (load_row (ctx b a cur w s) (s.sharers h) h (s.hart h) (g h) (v.each h o) k f y)
  keeps t (Stores h p k o f y) = stores n s b a cur w g v h p k o f y
  keeps t (Undoes h d rest o f x i y) = undoes n s b a cur w g v h d rest o f x i y
  keeps t (Asks h k o f p d y) = by_itself h _ _ (ask_row (ctx b a cur w s) (s.sharers h) h (s.hart h) (g h) (v.each h o) k f p d y)
  keeps t (Drops h d m o x) = by_itself h _ _ (drop_row (ctx b a cur w s) (s.sharers h) h (s.hart h) (g h) (v.each h o) d m x)
  keeps t (Evicts h k d m o x y p) = by_itself h _ _ (evict_row (ctx b a cur w s) (s.sharers h) h (s.hart h) (g h) (v.each h o) k d m x y)
  keeps t (Begins h st k o f x) = by_itself h _ _ (begin_row (ctx b a cur w s) (s.sharers h) h (s.hart h) (g h) (v.each h o) st k f x)
  keeps t (Commits h k o f x) = commits n s b a cur w g v h k o f x
  keeps t (Starts_abort h o f x) = by_itself h _ _ (start_abort_row (ctx b a cur w s) (s.sharers h) h (s.hart h) (g h) (v.each h o) f x)
  keeps t (Ends_abort h k o f x i) = ends_abort n s b a cur w g v h k o f i
  keeps t (Retires h k o f) = by_itself h _ _ (retire_row (ctx b a cur w s) (s.sharers h) h (s.hart h) (g h) (v.each h o) k f)
  keeps t (Spills_elsewhere h o x) = by_itself h _ _ (spill_row (ctx b a cur w s) (s.sharers h) h (s.hart h) (g h) (v.each h o) x)
  keeps t (Refuses_elsewhere h o x) = by_itself h _ _ (refuse_row (ctx b a cur w s) (s.sharers h) h (s.hart h) (g h) (v.each h o) x)
  keeps t (Refused_elsewhere h o f) = by_itself h _ _ (note_row (ctx b a cur w s) (s.sharers h) h (s.hart h) (g h) (v.each h o) f)
  keeps t (Conflicts_elsewhere h o f x y z) = by_itself h _ _ (clash_row (ctx b a cur w s) (s.sharers h) h (s.hart h) (g h) (v.each h o) f x y z)
  keeps t (Fwd_acknowledged h f o x y) = by_itself h _ _ (ack_row (ctx b a cur w s) (s.sharers h) h (s.hart h) (g h) (v.each h o) f x y)
  keeps t (Fwd_refused h f o x y) = refuses_come n s b a cur w g v h f o x
  keeps t (Put_ack_comes h o x) = by_itself h _ _ (over_row (ctx b a cur w s) (s.sharers h) h (s.hart h) (g h) (v.each h o) x)
  keeps t (Grant_comes r x o y) = grants_come n s b a cur w g v r x o y
  keeps t (Ack_comes h r d o x) = acks_come n s b a cur w g v h r d o x
  keeps t (Nack_comes h r st o x) = nacks_come n s b a cur w g v h r st o x
  keeps t (Get_comes r k st o x y) = gets_come n s b a cur w g v r k st o x y
  keeps t (Put_comes h d m o x y z) = puts_come n s b a cur w g v h d m o x y z
  keeps t (Stale_put_comes h d m o x y z) = by_itself h _ _ (stale_row (ctx b a cur w s) (s.sharers h) h (s.hart h) (g h) (v.each h o) d m x (sym v.busy_is ∙ y) z)
  keeps t (Done_comes r k d o x y) = dones_come n s b a cur w g v r k d o x y
  keeps t (Done_refused_comes r k d o x y) = failed_come n s b a cur w g v r k d o x y
