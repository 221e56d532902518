-- A word that can't be retired stops a hart outside transactions.
use Rattle.std.proofs.Common.{◌≡◌, ◌<◌, ℕ, None, Some, Err, refl, sym, ap, subst, ◌∙◌}
use Rattle.words.specs.declared.cause.Cause.{Cause}
use Rattle.words.specs.declared.cause.Status.TheVariants.{Stopped}
use Rattle.words.specs.declared.entry.Entry.TheVariants.{Trap}
use Rattle.flat.specs.Bytes.{put_at}
use Rattle.flat.specs.State.{Setting, FlatHart}
use Rattle.flat.specs.Causes.{next_of}
use Rattle.flat.specs.Steps.{CarriesSome}
use Rattle.protocol.specs.Hart.{Hart}
use Rattle.protocol.specs.Core.{trap_row}
use Rattle.isolation.proofs.OneBlock.Uses.SameStates.{good_still}
use Rattle.isolation.proofs.Machine.World.{World}
use Rattle.isolation.proofs.Machine.Invariant.{Inv}
use Rattle.isolation.proofs.Machine.Transactions.{outside, due_free}
use Rattle.isolation.proofs.Words.BytesKept.{bytes_kept}
use Rattle.isolation.proofs.Core.HartResults.{past_still, Made}
use Rattle.isolation.proofs.Core.RetireRows.{Ready}

module _ (x : World) (v : Inv x) (i : ℕ) (o : i < x.machine.setting.count) (r : Ready (x.machine.harts i)) where
  abbrev s : Setting
  s = x.machine.setting

  abbrev h : Hart
  h = x.machine.harts i

  abbrev f : FlatHart
  f = x.flat.hart i

  module _ (c : Cause) (caused : next_of s f ≡ Err c) (none : h.tx ≡ None) where
    abbrev stopped_hart : FlatHart
    stopped_hart = record f { status = Stopped c h.pc }

    carries : CarriesSome x.flat (Some (Trap i c h.pc)) (record x.flat { hart = put_at i stopped_hart x.flat.hart })
    carries = record {
      running = record { hart = subst (λ z. i < z.count) (sym v.same) o; runs = (v.harts i).status ∙ r.runs };
      outside = outside s h f (x.history.past i) (v.harts i) none;
      place = sym (v.harts i).pc;
      caused = ap (λ z. next_of z f) v.same ∙ caused;
      after = refl;
    }

    -- it stops
    pub made_trap : Made x i (trap_row i c None h)
    made_trap = record {
      flat_hart = stopped_hart;
      mem = x.flat.mem;
      past = x.history.past i;
      moves = record {
        is_hart = o;
        carried = v.carried;
        range = v.range;
        off = λ a n. refl;
        sent = tt;
        carries = carries;
        reason = tt;
        told = sym (past_still x i);
        hart = record { regs = (v.harts i).regs; pc = (v.harts i).pc; output = (v.harts i).output; status = refl; tx = (v.harts i).tx; due = due_free s h.tx stopped_hart r.acts; past = (v.harts i).past };
        bytes = bytes_kept x.flat (record x.flat { hart = put_at i stopped_hart x.flat.hart }) (Trap i c h.pc) carries v.bytes;
        blocks = λ b. good_still s.count _ i _ refl (v.blocks b);
      };
    }
