-- Turns of a hart that leave the messages in flight as they are, but for one that it may send.
use Rattle.std.proofs.Common.{◌≡◌, ◌≢◌, ◌<◌, ◌⊎◌, ℕ, false, Option, None, refl, sym, subst, inl, inr}
use Rattle.std.proofs.lemmas.Bool.{cases_eq}
use Rattle.flat.specs.Bytes.{put_at}
use Rattle.flat.specs.State.{FlatHart}
use Rattle.flat.specs.Reasons.{Past}
use Rattle.protocol.specs.Messages.{Message}
use Rattle.protocol.specs.Hart.{Hart, HartResult}
use Rattle.isolation.proofs.OneBlock.Model.State.{Copy, Own, Local, at_hart}
use Rattle.isolation.proofs.OneBlock.Invariant.Each.{Good}
use Rattle.isolation.proofs.Machine.World.{World, local_at, project}
use Rattle.isolation.proofs.Machine.Invariant.{HartIs, HasBytes, Inv}
use Rattle.isolation.proofs.HartMessages.OneHartMoves.{SentFits, put_same, posted, Moves}

-- by cases on whether a block is the one that a row is about
pub at_block : (P : ℕ → Type 0) (b c : ℕ) → P b → (c ≢ b → P c) → P c
at_block P b c here there = go (cases_eq c b)
  where
    go : ((c ≡ b) ⊎ (c ≡ b → ⊥)) → P c
    go (inl e) = subst P (sym e) here
    go (inr n) = there n

-- the flat state and the history as they are, with hart i's part written again
pub flat_still : (x : World) (i : ℕ) → record x.flat { hart = put_at i (x.flat.hart i) x.flat.hart } ≡ x.flat
flat_still x i = λ k. record x.flat { hart = put_same i x.flat.hart k }

-- and the history
pub past_still : (x : World) (i : ℕ) → record x.history { past = put_at i (x.history.past i) x.history.past } ≡ x.history
past_still x i = λ k. record x.history { past = put_same i x.history.past k }

-- a turn without an entry, which the flat machine doesn't see
abbrev pub silent : Hart → Option Message → HartResult
silent h sent = record { hart = h; sent = sent; entry = None; stamped = false }

-- such a turn, where the hart and each block are shown
pub silent_moves : (x : World) (i : ℕ) (h : Hart) (sent : Option Message) → Inv x → i < x.machine.setting.count → SentFits i sent x.mail → HartIs x.machine.setting h (x.flat.hart i) (x.history.past i) → ((b : ℕ) → Good x.machine.setting.count (at_hart i (local_at x.machine.setting b i h (x.flat.hart i) (x.history.past i) (posted (silent h sent) x.mail)) (project b x))) → Moves x i (silent h sent) x.machine.net x.mail (x.flat.hart i) x.flat.mem (x.history.past i)
silent_moves x i h sent v o f is g = record {
  is_hart = o;
  carried = v.carried;
  range = v.range;
  off = λ a n. refl;
  sent = f;
  carries = flat_still x i;
  reason = tt;
  told = sym (past_still x i);
  hart = is;
  bytes = subst HasBytes (sym (flat_still x i)) v.bytes;
  blocks = g;
}

-- what a turn comes to: the flat hart, memory and past beside it
pub record Made (x : World) (i : ℕ) (t : HartResult) : Type 0 where
  pub flat_hart : FlatHart
  pub mem : ℕ → ℕ
  pub past : Past
  pub moves : Moves x i t x.machine.net x.mail flat_hart mem past

-- a turn without an entry comes to that
pub made_silent : (x : World) (i : ℕ) (h : Hart) (sent : Option Message) → Inv x → i < x.machine.setting.count → SentFits i sent x.mail → HartIs x.machine.setting h (x.flat.hart i) (x.history.past i) → ((b : ℕ) → Good x.machine.setting.count (at_hart i (local_at x.machine.setting b i h (x.flat.hart i) (x.history.past i) (posted (silent h sent) x.mail)) (project b x))) → Made x i (silent h sent)
made_silent x i h sent v o f is g = record { flat_hart = x.flat.hart i; mem = x.flat.mem; past = x.history.past i; moves = silent_moves x i h sent v o f is g }

-- a hart's copy and own fields, written in another way
pub same_local : (l : Local) (x y : Copy) (o q : Own) → x ≡ y → o ≡ q → record l { line = x; own = o } ≡ record l { line = y; own = q }
same_local l x y o q e f = λ i. record l { line = e i; own = f i }
