-- A hart whose line isn't enough asks for the block, or first evicts a line to make room.
use Rattle.std.proofs.Common.{◌≡◌, ◌<◌, ℕ, Bool, true, false, Option, None, Some, cond, refl, subst}
use Rattle.std.specs.Option.{option_map}
use Rattle.std.proofs.lemmas.Option.{same_Some}
use Rattle.words.specs.declared.message.Kind.{Kind}
use Rattle.flat.specs.State.{Setting, FlatHart}
use Rattle.flat.specs.Causes.{next_of}
use Rattle.protocol.specs.Lines.{is_enough}
use Rattle.protocol.specs.Hart.{Hart, HartResult, has_put_of, log_of}
use Rattle.protocol.specs.Requests.{ask_row}
use Rattle.protocol.specs.Evict.{evict_row}
use Rattle.protocol.specs.Core.{no_longer_fresh, ask_with_room, victim_for, fetch_row}
use Rattle.isolation.proofs.OneBlock.Model.Core.{Due}
use Rattle.isolation.proofs.Machine.World.{World, tx_at, images_of, access_at}
use Rattle.isolation.proofs.Machine.Invariant.{Inv, hart_beside}
use Rattle.isolation.proofs.Core.HartResults.{Made}
use Rattle.isolation.proofs.Core.AskRows.{made_ask}
use Rattle.isolation.proofs.Core.EvictRows.{made_evict}

module _ (x : World) (v : Inv x) (i : ℕ) (o : i < x.machine.setting.count) where
  abbrev s : Setting
  s = x.machine.setting

  abbrev h : Hart
  h = x.machine.harts i

  abbrev f : FlatHart
  f = x.flat.hart i

  -- whether a hart is fresh is nothing that the invariant looks at
  pub made_unfresh : (t : HartResult) → Made x i t → Made x i (no_longer_fresh t)
  made_unfresh t m =
      let w = m.moves in
      record {
        flat_hart = m.flat_hart;
        mem = m.mem;
        past = m.past;
        moves = record {
          is_hart = w.is_hart;
          carried = w.carried;
          range = w.range;
          off = w.off;
          sent = w.sent;
          carries = w.carries;
          reason = w.reason;
          told = w.told;
          hart = hart_beside x.machine.setting t.hart m.flat_hart m.past _ _ _ _ _ w.hart;
          bytes = w.bytes;
          blocks = w.blocks;
        };
      }

  -- it asks, or evicts a line
  pub made_fetch : (victim : ℕ → Option ℕ) (kind : Kind) (b : ℕ) (t : HartResult) → h.request ≡ None → Due (tx_at h.tx) kind (access_at b (next_of s f)) (images_of b (log_of h.tx)) → is_enough kind (h.lines b) ≡ false → fetch_row i victim kind b h ≡ Some t → Made x i t
  made_fetch victim kind b t q d l k = by_put (has_put_of b h.put) refl k
    where
      way : (a : ℕ) (r : Option HartResult) → evict_row i a h ≡ r → option_map no_longer_fresh r ≡ Some t → Made x i t
      way a None z k = absurd (cc)
      way a (Some u) z k = subst (Made x i) (same_Some (no_longer_fresh u) t k) (made_unfresh u (made_evict x v i o a u z))

      by_room : has_put_of b h.put ≡ false → (a : Option ℕ) → ask_with_room i kind b a h ≡ Some t → Made x i t
      by_room n None k = subst (Made x i) (same_Some (ask_row i kind b h) t k) (made_ask x v i o kind b q n d l)
      by_room n (Some a) k = way a (evict_row i a h) refl k

      by_put : (z : Bool) → has_put_of b h.put ≡ z → cond z None (ask_with_room i kind b (victim_for victim b (h.lines b)) h) ≡ Some t → Made x i t
      by_put true n k = absurd (cc)
      by_put false n k = by_room n (victim_for victim b (h.lines b)) k
