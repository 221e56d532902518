-- Words that do nothing but write a register, and calls.
use Rattle.std.proofs.Common.{◌≡◌, ◌<◌, ℕ, false, Option, Ok, refl}
use Rattle.table.specs.declared.effect.Act.TheVariants as act
use Rattle.flat.specs.State.{Setting, FlatHart, flat_view}
use Rattle.flat.specs.Causes.{next_of, done_next}
use Rattle.flat.specs.Effects.{hart_after}
use Rattle.flat.specs.Reasons.{Past}
use Rattle.protocol.specs.Hart.{Hart}
use Rattle.protocol.specs.Core.{retire_row, no_memory, word_of}
use Rattle.isolation.proofs.Machine.World.{World}
use Rattle.isolation.proofs.Machine.Invariant.{Inv}
use Rattle.isolation.proofs.Machine.Transactions.{due_free, past_refused}
use Rattle.isolation.proofs.Words.NextWord.{next_done}
use Rattle.isolation.proofs.Core.HartResults.{Made}
use Rattle.isolation.proofs.Core.RetireRows.{Ready, made_retire, effect, retires_at}

module _ (x : World) (v : Inv x) (i : ℕ) (o : i < x.machine.setting.count) (r : Ready (x.machine.harts i)) (nx : ℕ) (wr : Option (ℕ × ℕ)) where
  abbrev s : Setting
  s = x.machine.setting

  abbrev h : Hart
  h = x.machine.harts i

  abbrev f : FlatHart
  f = x.flat.hart i

  abbrev p : Past
  p = x.history.past i

  abbrev view : ℕ → ℕ
  view = flat_view x.flat i

  abbrev word : ℕ
  word = word_of s h

  -- a word without an act, or a conditional store that fails, which leaves the hart without a reservation
  pub made_nothing : (kept : Option ℕ) → done_next false s f ≡ Ok (effect nx wr act.Nothing) → Made x i (retire_row i no_memory word (effect nx wr act.Nothing) (record h { reserved = kept }))
  made_nothing kept e = made_retire x v i o (effect nx wr act.Nothing) no_memory (record h { reserved = kept }) false f.tx x.flat.mem (record p { was_refused = false }) (record {
    next = e;
    no_abort = refl;
    allowed = tt;
    same_pc = refl;
    same_regs = refl;
    same_output = refl;
    write = refl;
    entry = refl;
    stamp_is = refl;
    tx_is = refl;
    mem_is = refl;
    past_is = refl;
    has_tx = (v.harts i).tx;
    due = due_free s h.tx _ r.acts;
    has_past = past_refused h.tx h.kept_stamp p p.refused_earlier false (v.harts i).past;
    blocks = λ b. retires_at x v i o r (record (hart_after view f (effect nx wr act.Nothing)) { tx = f.tx }) b;
  }) r.runs

  -- a call
  pub made_call : next_of s f ≡ Ok (effect nx wr act.Call) → Made x i (retire_row i no_memory word (effect nx wr act.Call) h)
  made_call e = made_retire x v i o (effect nx wr act.Call) no_memory h false f.tx x.flat.mem (record p { was_refused = false }) (record {
    next = next_done s f (effect nx wr act.Call) false e;
    no_abort = refl;
    allowed = tt;
    same_pc = refl;
    same_regs = refl;
    same_output = refl;
    write = refl;
    entry = refl;
    stamp_is = refl;
    tx_is = refl;
    mem_is = refl;
    past_is = refl;
    has_tx = (v.harts i).tx;
    due = due_free s h.tx _ r.acts;
    has_past = past_refused h.tx h.kept_stamp p p.refused_earlier false (v.harts i).past;
    blocks = λ b. retires_at x v i o r (record (hart_after view f (effect nx wr act.Call)) { tx = f.tx }) b;
  }) r.runs
