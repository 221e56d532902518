-- The steps of the protocol at one block, among n harts.
use Rattle.std.proofs.Common.{◌≡◌, ◌≢◌, ◌<◌, ℕ, List, [], ◌∷◌, Bool, true, false, Option, None, Some}
use Rattle.words.specs.declared.stamp.Stamp.{Stamp}
use Rattle.words.specs.declared.message.Kind.{Kind}
use Rattle.words.specs.declared.message.Kind.TheVariants.{Read, Write}
use Rattle.words.specs.declared.message.LineState.{LineState}
use Rattle.words.specs.declared.message.LineState.TheVariants.{Shared}
use Rattle.protocol.specs.Messages.{Block, Granted}
use Rattle.words.specs.declared.marks.Marks.{Marks}
use Rattle.protocol.specs.Directory.{Owned}
use Rattle.isolation.proofs.OneBlock.Model.State.{Has, Outside, Running, Aborting, Own, Fwd, Local, One, at_hart, lay}
use Rattle.isolation.proofs.OneBlock.Model.Core.{enough, retire, load, store, flat_after, undo, ask, Due, drop_line, write_back, begin, commit, start_abort, end_abort, spill_elsewhere, refuse_elsewhere, refused_elsewhere, conflict_elsewhere}
use Rattle.isolation.proofs.OneBlock.Model.Messages.{refuses, acknowledge, refuse, note, put_over, on_grant, take_ack, on_ack, take_nack, on_nack, finish}
use Rattle.isolation.proofs.OneBlock.Model.Directory.{on_get, take_put, on_put, on_done, on_done_refused}

abbrev pub with_flat : Block → One → One
with_flat m s = record { owner = s.owner; sharers = s.sharers; busy = s.busy; memory = s.memory; flat = m; hart = s.hart }

abbrev pub with_own : Own → Local → Local
with_own o l = record l { own = o }

-- the hart may retire an instruction
pub record Acts (l : Local) : Type 0 where
  pub free : l.wait ≡ None
  pub tx : l.own.tx ≢ Aborting

pub data Step (n : ℕ) (s : One) : One → Type 0 where
  -- a hart's own
  Loads : (h : ℕ) (a : Option Kind) → h < n → Acts (s.hart h) → enough Read (s.hart h).line ≡ true → Step n s (at_hart h (load a (s.hart h)) s)
  Stores : (h : ℕ) (p : Block → Block) (a : Option Kind) → h < n → Acts (s.hart h) → enough Write (s.hart h).line ≡ true → Step n s (with_flat (flat_after (s.hart h).own.tx p s.flat) (at_hart h (store p a (s.hart h)) s))
  Undoes : (h : ℕ) (v : Block) (rest : List Block) → h < n → (s.hart h).wait ≡ None → (s.hart h).own.tx ≡ Aborting → (s.hart h).own.images ≡ v ∷ rest → enough Write (s.hart h).line ≡ true → Step n s (at_hart h (undo v rest (s.hart h)) s)
  Asks : (h : ℕ) (k : Kind) → h < n → (s.hart h).wait ≡ None → (s.hart h).put ≡ None → Due (s.hart h).own.tx k (s.hart h).own.access (s.hart h).own.images → enough k (s.hart h).line ≡ false → Step n s (at_hart h (ask k (s.hart h)) s)
  Drops : (h : ℕ) (d : Block) (m : Marks) → h < n → (s.hart h).line ≡ Has Shared d m → Step n s (at_hart h (drop_line m (s.hart h)) s)
  Evicts : (h : ℕ) (x : LineState) (d : Block) (m : Marks) → h < n → (s.hart h).line ≡ Has x d m → x ≢ Shared → (s.hart h).put ≡ None → Step n s (at_hart h (write_back d m (s.hart h)) s)
  Begins : (h : ℕ) (st : Stamp) (a : Option Kind) → h < n → (s.hart h).wait ≡ None → (s.hart h).own.tx ≡ Outside → Step n s (at_hart h (with_own (begin st a (s.hart h).own) (s.hart h)) s)
  Commits : (h : ℕ) (a : Option Kind) → h < n → (s.hart h).wait ≡ None → (s.hart h).own.tx ≡ Running → Step n s (with_flat (lay (s.hart h).own.writes s.flat) (at_hart h (commit a (s.hart h)) s))
  Starts_abort : (h : ℕ) → h < n → (s.hart h).wait ≡ None → (s.hart h).own.tx ≡ Running → Step n s (at_hart h (start_abort (s.hart h)) s)
  Ends_abort : (h : ℕ) (a : Option Kind) → h < n → (s.hart h).wait ≡ None → (s.hart h).own.tx ≡ Aborting → (s.hart h).own.images ≡ [] → Step n s (at_hart h (end_abort a (s.hart h)) s)
  Retires : (h : ℕ) (a : Option Kind) → h < n → Acts (s.hart h) → Step n s (at_hart h (with_own (retire a (s.hart h).own) (s.hart h)) s)
  -- what a hart does at other blocks
  Spills_elsewhere : (h : ℕ) → h < n → (s.hart h).own.tx ≢ Outside → Step n s (at_hart h (spill_elsewhere (s.hart h)) s)
  Refuses_elsewhere : (h : ℕ) → h < n → (s.hart h).own.tx ≢ Outside → Step n s (at_hart h (refuse_elsewhere (s.hart h)) s)
  Refused_elsewhere : (h : ℕ) → h < n → (s.hart h).wait ≡ None → Step n s (at_hart h (refused_elsewhere (s.hart h)) s)
  Conflicts_elsewhere : (h : ℕ) → h < n → (s.hart h).wait ≡ None → (s.hart h).own.tx ≡ Running → (s.hart h).own.flag ≡ true → (s.hart h).own.noted ≡ true → Step n s (at_hart h (conflict_elsewhere (s.hart h)) s)
  -- a message comes to a hart
  Fwd_acknowledged : (h : ℕ) (f : Fwd) → h < n → (s.hart h).fwd ≡ Some f → refuses (s.hart h).line (s.hart h).own.overflow f.kind ≡ false → Step n s (at_hart h (acknowledge f.kind f.requester (s.hart h)) s)
  Fwd_refused : (h : ℕ) (f : Fwd) → h < n → (s.hart h).fwd ≡ Some f → refuses (s.hart h).line (s.hart h).own.overflow f.kind ≡ true → Step n s (at_hart h (refuse f.requester f.stamp (s.hart f.requester).own.stamp (s.hart h)) (at_hart f.requester (note (s.hart h).own.stamp (s.hart f.requester)) s))
  Put_ack_comes : (h : ℕ) → h < n → (s.hart h).put_ack ≡ true → Step n s (at_hart h (put_over (s.hart h)) s)
  Grant_comes : (r : ℕ) (g : Granted) → r < n → (s.hart r).grant ≡ Some g → Step n s (at_hart r (finish n (on_grant g (s.hart r))) s)
  Ack_comes : (h r : ℕ) (d : Option Block) → h < n → (s.hart h).ack ≡ Some (r, d) → Step n s (at_hart h (take_ack (s.hart h)) (at_hart r (finish n (on_ack h d (s.hart r))) s))
  Nack_comes : (h r : ℕ) (st : Option Stamp) → h < n → (s.hart h).nack ≡ Some (r, st) → Step n s (at_hart h (take_nack (s.hart h)) (at_hart r (finish n (on_nack h st (s.hart r))) s))
  -- a message comes to the directory
  Get_comes : (r : ℕ) (k : Kind) (st : Option Stamp) → r < n → (s.hart r).get ≡ Some (k, st) → s.busy ≡ None → Step n s (on_get n r k st s)
  Put_comes : (h : ℕ) (d : Block) (marked : Bool) → h < n → (s.hart h).puts ≡ Some (d, marked) → s.busy ≡ None → s.owner ≡ Owned h → Step n s (on_put h d marked s)
  Stale_put_comes : (h : ℕ) (d : Block) (marked : Bool) → h < n → (s.hart h).puts ≡ Some (d, marked) → s.busy ≡ None → s.owner ≢ Owned h → Step n s (at_hart h (take_put (s.hart h)) s)
  Done_comes : (r : ℕ) (g : LineState) (d : Option Block) → r < n → (s.hart r).done ≡ Some (true, d) → s.busy ≡ Some (r, g) → Step n s (on_done r g d s)
  Done_refused_comes : (r : ℕ) (g : LineState) (d : Option Block) → r < n → (s.hart r).done ≡ Some (false, d) → s.busy ≡ Some (r, g) → Step n s (on_done_refused r s)
