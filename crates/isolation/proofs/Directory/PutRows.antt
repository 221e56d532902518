-- A Put comes to the directory: it is taken and acknowledged, and the owner's content goes to memory.
use Rattle.std.proofs.Common.{◌≡◌, ◌≢◌, ◌<◌, ℕ, [], ◌∷◌, Bool, true, false, Option, None, Some, cond, eqb, refl, ap, ◌∙◌, arith}
use Rattle.std.specs.Option.{option_map}
use Rattle.std.proofs.lemmas.Bool.{eqb-true, eq-eqb}
use Rattle.words.specs.declared.entry.Entry.{Entry}
use Rattle.protocol.specs.Messages.{Block, Put, PutAck}
use Rattle.protocol.specs.Directory.{Owner, Owned, Busy, Served, is_owned_by, owner_put, put_row, unless_busy}
use Rattle.protocol.specs.Machine.{Machine, served_change, ComesAbout}
use Rattle.isolation.proofs.OneBlock.Model.State.{at_hart}
use Rattle.isolation.proofs.OneBlock.Model.Directory.{take_put, put_owner, on_put}
use Rattle.isolation.proofs.OneBlock.Model.Step.{Put_comes, Stale_put_comes}
use Rattle.isolation.proofs.OneBlock.Invariant.Each.{Good}
use Rattle.isolation.proofs.OneBlock.Facts.Runs.{goes_on}
use Rattle.isolation.proofs.OneBlock.Uses.SameStates.{good_like}
use Rattle.isolation.proofs.Machine.Slots.{slot, Mail, slot_test}
use Rattle.isolation.proofs.Machine.World.{World, as_put, as_put_ack, busy_of, project}
use Rattle.isolation.proofs.Machine.Invariant.{Inv, Next, still_next}
use Rattle.isolation.proofs.Machine.Readings.{known_at, in_range, lies}
use Rattle.isolation.proofs.Machine.EmptySlots.{put_ack_empty}
use Rattle.isolation.proofs.Directory.Serves.{block_with, answered, served_next}

-- the owner's test, and who owns after its Put
owned_is : (r : ℕ) (o : Owner) → is_owned_by r o ≡ true → o ≡ Owned r
owned_is r o e = grind (arith, eqb-true)

owned_not : (r : ℕ) (o : Owner) → is_owned_by r o ≡ false → o ≢ Owned r
owned_not r o e f = grind (arith, eq-eqb)

owner_put_is : (marked : Bool) (r : ℕ) → owner_put marked r ≡ put_owner marked r
owner_put_is marked r = grind arith

module _ (x : World) (v : Inv x) (key r b : ℕ) (content : Block) (marked : Bool) (k : x.machine.net key ≡ Some (Put r b content marked)) where
  abbrev n : ℕ
  n = x.machine.setting.count

  abbrev mail : Mail
  mail = answered (Put r b content marked) (PutAck r b ∷ []) x.mail

  put_here : ((project b x).hart r).puts ≡ Some (content, marked)
  put_here = ap as_put (lies x v (Put r b content marked) (key, k))

  put_in : r < n
  put_in = in_range x v (Put r b content marked) (key, k)

  -- the slot of the answer is empty
  free : x.mail (slot 5 b r) ≡ None
  free = put_ack_empty x v b r ((known_at x v b).free.put_ack r (content, marked) put_in put_here)

  -- the sender's Put is taken, and each other hart is as it was
  local_after : (j : ℕ) (q : Bool) → eqb j r ≡ q → (block_with b (x.machine.entries b) content mail x).hart j ≡ cond q (take_put ((project b x).hart r)) ((project b x).hart j)
  local_after j true e = let z = slot_test b j r true e in (λ i. record ((project b x).hart j) { puts = as_put (cond (z i) None (x.mail (slot 1 b j))); put_ack = as_put_ack (cond (z i) (Some (PutAck r b)) (x.mail (slot 5 b j))) }) ∙ ap (λ h. take_put ((project b x).hart h)) (eqb-true j r e)
  local_after j false e = let z = slot_test b j r false e in λ i. record ((project b x).hart j) { puts = as_put (cond (z i) None (x.mail (slot 1 b j))); put_ack = as_put_ack (cond (z i) (Some (PutAck r b)) (x.mail (slot 5 b j))) }

  -- the directory's row, by whether the sender owns the block
  abbrev owners_put : Served
  owners_put = record { entry = record (x.machine.entries b) { owner = owner_put marked r }; memory = content; sent = PutAck r b ∷ [] }

  abbrev stale_put : Served
  stale_put = record { entry = x.machine.entries b; memory = x.machine.memory b; sent = PutAck r b ∷ [] }

  owned : (x.machine.entries b).busy ≡ None → (x.machine.entries b).owner ≡ Owned r → Good n (block_with b owners_put.entry content mail x)
  owned i o =
      let s = project b x in
      good_like n (on_put r content marked s) (block_with b owners_put.entry content mail x) (owner_put_is marked r) refl (ap (option_map busy_of) i) refl refl (λ j _. local_after j (eqb j r) refl)
      (goes_on n s (on_put r content marked s) (v.blocks b) (Put_comes r content marked put_in put_here (ap (option_map busy_of) i) o))

  stale : (x.machine.entries b).busy ≡ None → (x.machine.entries b).owner ≢ Owned r → Good n (block_with b stale_put.entry stale_put.memory mail x)
  stale i o =
      let s = project b x in
      let t = at_hart r (take_put (s.hart r)) s in
      good_like n t (block_with b stale_put.entry stale_put.memory mail x) refl refl refl refl refl (λ j _. local_after j (eqb j r) refl)
      (goes_on n s t (v.blocks b) (Stale_put_comes r content marked put_in put_here (ap (option_map busy_of) i) o))

  -- a Put is taken, or held while the block is busy
  pub put_next : (e : Option Entry) (w : Machine) → ComesAbout (served_change key b (unless_busy (x.machine.entries b).busy (put_row r b content marked (x.machine.entries b) (x.machine.memory b))) x.machine) e w → Next x e w
  put_next e w c = by_busy (x.machine.entries b).busy refl c
    where
      by_owner : (q : Bool) → is_owned_by r (x.machine.entries b).owner ≡ q → (x.machine.entries b).busy ≡ None → ComesAbout (served_change key b (Some (cond q owners_put stale_put)) x.machine) e w → Next x e w
      by_owner true o i c = served_next x v key (Put r b content marked) b owners_put e w k refl (refl, put_in, tt) (free, tt) (owned i (owned_is r (x.machine.entries b).owner o)) c
      by_owner false o i c = served_next x v key (Put r b content marked) b stale_put e w k refl (refl, put_in, tt) (free, tt) (stale i (owned_not r (x.machine.entries b).owner o)) c

      by_busy : (q : Option Busy) → (x.machine.entries b).busy ≡ q → ComesAbout (served_change key b (unless_busy q (put_row r b content marked (x.machine.entries b) (x.machine.memory b))) x.machine) e w → Next x e w
      by_busy None i c = by_owner (is_owned_by r (x.machine.entries b).owner) refl i c
      by_busy (Some q) i c = still_next x v e w c
