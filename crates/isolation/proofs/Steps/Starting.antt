-- The invariant holds at the start.
use Rattle.std.proofs.Common.{◌≡◌, ℕ, Bool, true, false, Option, None, cond, nat_lt, refl, subst, sym}
use Rattle.words.specs.declared.message.Kind.{Kind}
use Rattle.flat.specs.State.{Setting, idle, has_read, has_written}
use Rattle.flat.specs.Start.{first_state, first_hart}
use Rattle.flat.specs.Causes.{next_of}
use Rattle.flat.specs.Reasons.{no_history}
use Rattle.protocol.specs.Lines.{words_at}
use Rattle.protocol.specs.Network.{no_messages}
use Rattle.protocol.specs.Start.{start}
use Rattle.isolation.proofs.OneBlock.Model.Start.{at_rest}
use Rattle.isolation.proofs.OneBlock.Model.Start as one_block
use Rattle.isolation.proofs.OneBlock.Invariant.Each.{Good}
use Rattle.isolation.proofs.OneBlock.Facts.Runs.{begins}
use Rattle.table.specs.Program.{AreBytes}
use Rattle.isolation.proofs.Machine.Sends.{Carried}
use Rattle.isolation.proofs.Machine.World.{World, writes_at, access_at, project}
use Rattle.isolation.proofs.Machine.Invariant.{TxIs, HartIs, Inv}
use Rattle.isolation.proofs.Words.BytesKept.{bytes_first}

module _ (s : Setting) (entry : ℕ) where
  -- the start, beside the first flat state
  abbrev pub first_world : World
  first_world = record { machine = start s entry; flat = first_state s entry; history = no_history; mail = λ a. None }

  no_tx : (i : ℕ) → ((first_state s entry).hart i).tx ≡ None
  no_tx i = by_count (nat_lt i s.count)
    where
      by_count : (z : Bool) → (cond z (first_hart s entry i) idle).tx ≡ None
      by_count true = refl
      by_count false = refl

  none_carried : Carried no_messages (λ a. None)
  none_carried = record {
    place = λ a. None;
    tidy = record { found = λ k m e. absurd (cc); holds = λ a k e. absurd (cc) };
    is = refl;
  }

  hart_is : (i : ℕ) → HartIs s ((start s entry).harts i) ((first_state s entry).hart i) (no_history.past i)
  hart_is i = record { regs = refl; pc = refl; output = refl; status = refl; tx = subst (TxIs None) (sym (no_tx i)) tt; due = tt; past = (refl, refl) }

  abbrev looked : ℕ → ℕ → Option Kind
  looked b i = access_at b (next_of s ((first_state s entry).hart i))

  block_is : (b : ℕ) → project b first_world ≡ one_block.start (words_at (first_state s entry).mem b) (looked b)
  block_is b = λ k. record (project b first_world) { hart = λ i. record (at_rest (looked b i)) { own = own_is i k } }
    where
      own_is : (i : ℕ) → ((project b first_world).hart i).own ≡ (at_rest (looked b i)).own
      own_is i = λ k. record (at_rest (looked b i)).own {
        in_r = has_read (no_tx i k) b;
        in_w = has_written (no_tx i k) b;
        writes = writes_at b (no_tx i k);
      }

  -- the first machine, beside the first flat state
  pub inv_start : AreBytes s.segments → Inv first_world
  inv_start bytes = record {
    same = refl;
    carried = none_carried;
    range = λ a m e. absurd (cc);
    taken = refl;
    harts = hart_is;
    bytes = bytes_first s entry bytes;
    blocks = λ b. subst (Good s.count) (sym (block_is b)) (begins s.count (words_at (first_state s entry).mem b) (looked b));
  }
