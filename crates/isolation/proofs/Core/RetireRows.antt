-- A hart retires a word: what is left to show of it, whatever the word does.
use Rattle.std.proofs.Common.{◌≡◌, ◌≢◌, ◌<◌, ℕ, Bool, false, Option, None, Some, Ok, refl, sym, ap, subst, ◌∙◌}
use Rattle.std.specs.Prelude.{IsOkAnd, unwrap_or, is_some}
use Rattle.words.specs.declared.cause.Status.TheVariants.{Running}
use Rattle.words.specs.declared.entry.Entry.{Entry}
use Rattle.words.specs.declared.entry.Entry.TheVariants.{Retire}
use Rattle.table.specs.declared.effect.Effect.{Effect}
use Rattle.table.specs.declared.effect.Act.{Act}
use Rattle.words.specs.Registers.{with_reg}
use Rattle.table.specs.Effects.{resolved}
use Rattle.table.specs.Table.{decoded}
use Rattle.table.specs.Program.{word_at}
use Rattle.flat.specs.Bytes.{put_at}
use Rattle.flat.specs.State.{Setting, FlatHart, Tx as FlatTx, flat_view, IsAllowed}
use Rattle.flat.specs.Causes.{next_of, done_next}
use Rattle.flat.specs.Effects.{retire_of, hart_after, write_by, load_by, store_by, output_by, status_by, tx_by, mem_by}
use Rattle.flat.specs.Steps.{Retires, CarriesSome, is_abort, retired}
use Rattle.flat.specs.Reasons.{Past, past_retired, takes_stamp}
use Rattle.protocol.specs.Lines.{words_at}
use Rattle.protocol.specs.Hart.{Hart, flat_hart}
use Rattle.protocol.specs.Core.{retire_row, word_of}
use Rattle.protocol.specs.Machine.{stamps_after}
use Rattle.isolation.proofs.OneBlock.Model.State.{Aborting, at_hart}
use Rattle.isolation.proofs.OneBlock.Model.Core.{retire}
use Rattle.isolation.proofs.OneBlock.Model.Step.{with_flat, with_own, Acts, Retires as Retires_here}
use Rattle.isolation.proofs.OneBlock.Invariant.Each.{Good}
use Rattle.isolation.proofs.OneBlock.Facts.Runs.{goes_on}
use Rattle.isolation.proofs.Machine.World.{World, wait_at, tx_at, local_at, project, access_at}
use Rattle.isolation.proofs.Machine.Invariant.{TxIs, AbortIsDue, PastIs, Inv}
use Rattle.isolation.proofs.Words.BytesKept.{bytes_kept}
use Rattle.isolation.proofs.Words.NextWord.{fetched, done_from}
use Rattle.isolation.proofs.Words.Decoding.{past_after, stamp_by, done_past, done_stamp}
use Rattle.isolation.proofs.Core.HartResults.{Made}

-- an instruction's effect, by its act
abbrev pub effect : ℕ → Option (ℕ × ℕ) → Act → Effect
effect next write does = record { next = next; write = write; act = does }

-- a hart that may retire: it runs, waits for nothing, and isn't being aborted
pub record Ready (h : Hart) : Type 0 where
  pub runs : h.status ≡ Running
  pub free : h.request ≡ None
  pub acts : tx_at h.tx ≢ Aborting

-- so it may at each block
pub acts_at : (x : World) (i b : ℕ) → Ready (x.machine.harts i) → Acts ((project b x).hart i)
acts_at x i b r = record { free = ap (wait_at b) r.free; tx = r.acts }

-- and there an instruction retires
pub retires_at : (x : World) (v : Inv x) (i : ℕ) → i < x.machine.setting.count → Ready (x.machine.harts i) → (g : FlatHart) (b : ℕ) → Good x.machine.setting.count (at_hart i (with_own (retire (access_at b (next_of x.machine.setting g)) ((project b x).hart i).own) ((project b x).hart i)) (project b x))
retires_at x v i o r g b = goes_on x.machine.setting.count (project b x) _ (v.blocks b) (Retires_here i (access_at b (next_of x.machine.setting g)) o (acts_at x i b r))

module _ (x : World) (v : Inv x) (i : ℕ) (o : i < x.machine.setting.count) where
  abbrev s : Setting
  s = x.machine.setting

  abbrev h : Hart
  h = x.machine.harts i

  abbrev f : FlatHart
  f = x.flat.hart i

  abbrev p : Past
  p = x.history.past i

  abbrev view : ℕ → ℕ
  view = flat_view x.flat i

  abbrev word : ℕ
  word = word_of s h

  -- hart i retires e, where it read local, has become g, and takes a stamp or doesn't; and tx, mem and past are what the flat machine's
  -- transaction and memory and the entries become
  pub record Retiring (e : Effect) (local : ℕ → ℕ) (g : Hart) (stamped : Bool) (tx : Option FlatTx) (mem : ℕ → ℕ) (past : Past) : Type 0 where
    pub next : done_next (is_some (store_by local e.act)) s f ≡ Ok e
    pub no_abort : is_abort e.act ≡ false
    pub allowed : IsAllowed x.flat i e.act
    pub same_pc : g.pc ≡ h.pc
    pub same_regs : g.regs ≡ h.regs
    pub same_output : g.output ≡ h.output
    pub write : write_by local e e.act ≡ write_by view e e.act
    pub entry : retire_of local i f word e ≡ retire_of view i f word e
    pub stamp_is : stamp_by e.act p ≡ stamped
    pub tx_is : tx_by view f f.tx e.act ≡ tx
    pub mem_is : mem_by view f.tx x.flat.mem e.act ≡ mem
    pub past_is : past_after x.history.taken i e.act p ≡ past
    pub has_tx : TxIs g.tx tx
    pub due : AbortIsDue s g.tx (record (hart_after view f e) { tx = tx })
    pub has_past : PastIs g.tx g.kept_stamp past
    pub blocks : (b : ℕ) → Good s.count (with_flat (words_at mem b) (at_hart i (local_at s b i (retire_row i local word e g).hart (record (hart_after view f e) { tx = tx }) past x.mail) (project b x)))

  module _ (e : Effect) (local : ℕ → ℕ) (g : Hart) (stamped : Bool) (tx : Option FlatTx) (mem : ℕ → ℕ) (past : Past) (r : Retiring e local g stamped tx mem past) (runs : h.status ≡ Running) where
    abbrev given : Entry
    given = retire_of local i (flat_hart g) word e

    abbrev later : FlatHart
    later = record (hart_after view f e) { tx = tx }

    row : (d : Effect) × (next_of s f ≡ Ok d) × (resolved (is_some (store_by local e.act)) d ≡ e)
    row = done_from s f e (is_some (store_by local e.act)) r.next

    entry_is : given ≡ retire_of view i f word e
    entry_is = ap (λ z. Retire i z word (write_by local e e.act) (load_by local e.act) (store_by local e.act)) (r.same_pc ∙ sym (v.harts i).pc) ∙ r.entry

    word_is : word_at x.flat.setting.segments f.pc ≡ Some word
    word_is = ap (λ z. word_at z.segments f.pc) v.same ∙ fetched s f (row.0) (row.1) ∙ ap (λ z. Some (unwrap_or (word_at s.segments z) 0)) (v.harts i).pc

    after_is : record x.flat { mem = mem; hart = put_at i later x.flat.hart } ≡ retired x.flat i e
    after_is = λ k. record x.flat { mem = sym r.mem_is k; hart = put_at i (record (hart_after view f e) { tx = sym r.tx_is k }) x.flat.hart }

    carries : CarriesSome x.flat (Some given) (record x.flat { mem = mem; hart = put_at i later x.flat.hart })
    carries = subst (λ z. IsOkAnd z (λ does. Retires x.flat i word does given (record x.flat { mem = mem; hart = put_at i later x.flat.hart }))) (sym (ap (λ z. done_next (is_some (store_by local e.act)) z f) v.same ∙ r.next)) (record {
      running = record { hart = subst (λ z. i < z.count) (sym v.same) o; runs = (v.harts i).status ∙ runs };
      fetched = word_is;
      no_abort = r.no_abort;
      allowed = r.allowed;
      entry = entry_is;
      after = after_is;
    })

    word_seen : unwrap_or (word_at s.segments f.pc) 0 ≡ word
    word_seen = ap (λ z. unwrap_or (word_at s.segments z) 0) (v.harts i).pc

    stamp_told : takes_stamp (decoded word) p ≡ stamped
    stamp_told = ap (λ z. takes_stamp (decoded z) p) (sym word_seen) ∙ done_stamp s f (is_some (store_by local e.act)) e r.next p ∙ r.stamp_is

    past_told : past_retired x.history.taken i (decoded word) p ≡ past
    past_told = ap (λ z. past_retired x.history.taken i (decoded z) p) (sym word_seen) ∙ done_past s f (is_some (store_by local e.act)) e r.next x.history.taken i p ∙ r.past_is

    -- what is left to show is enough
    pub made_retire : Made x i (record (retire_row i local word e g) { stamped = stamped })
    made_retire = record {
      flat_hart = later;
      mem = mem;
      past = past;
      moves = record {
        is_hart = o;
        carried = v.carried;
        range = v.range;
        off = λ a n. refl;
        sent = tt;
        carries = carries;
        reason = tt;
        told = λ k. record { taken = stamps_after (stamp_told k) x.history.taken; past = put_at i (past_told k) x.history.past };
        hart = record {
          regs = (λ k. with_reg ((v.harts i).regs k) (sym r.write k)) ∙ ap (λ z. with_reg z (write_by local e e.act)) (sym r.same_regs);
          pc = refl;
          output = (λ k. output_by ((v.harts i).output k) ((v.harts i).regs k) e.act) ∙ (λ k. output_by (sym r.same_output k) (sym r.same_regs k) e.act);
          status = ap (λ z. status_by z e.act) ((v.harts i).regs ∙ sym r.same_regs);
          tx = r.has_tx;
          due = r.due;
          past = r.has_past;
        };
        bytes = bytes_kept x.flat (record x.flat { mem = mem; hart = put_at i later x.flat.hart }) given carries v.bytes;
        blocks = r.blocks;
      };
    }
