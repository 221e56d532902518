-- A Done comes to the directory: the request that the block is busy with is over.
use Rattle.std.proofs.Common.{◌≡◌, ◌<◌, ℕ, [], Bool, true, false, Option, None, Some, cond, eqb, refl, ap, ◌∙◌, arith, sym}
use Rattle.std.specs.Option.{option_map}
use Rattle.std.proofs.lemmas.Bool.{eqb-true, eqb-false}
use Rattle.std.proofs.lemmas.Option.{none-some}
use Rattle.words.specs.declared.entry.Entry.{Entry}
use Rattle.words.specs.declared.message.LineState.{LineState}
use Rattle.protocol.specs.Messages.{Block, Done}
use Rattle.protocol.specs.Directory.{Owner, Busy, owner_done, sharer_done, memory_done, done_row, done_refused_row, done_of, unchanged}
use Rattle.protocol.specs.Machine.{Machine, served_change, ComesAbout}
use Rattle.isolation.proofs.OneBlock.Model.Directory.{take_done, owner_after, sharer_after, memory_after, on_done, on_done_refused}
use Rattle.isolation.proofs.OneBlock.Model.Step.{Done_comes, Done_refused_comes}
use Rattle.isolation.proofs.OneBlock.Invariant.Each.{Good}
use Rattle.isolation.proofs.OneBlock.Facts.Runs.{goes_on}
use Rattle.isolation.proofs.OneBlock.Uses.SameStates.{good_like}
use Rattle.isolation.proofs.Machine.Slots.{slot, Mail, slot_test}
use Rattle.isolation.proofs.Machine.World.{World, as_done, busy_of, project}
use Rattle.isolation.proofs.Machine.Invariant.{Inv, Next}
use Rattle.isolation.proofs.Machine.Readings.{known_at, in_range, lies}
use Rattle.isolation.proofs.Directory.Serves.{block_with, answered, served_next}

-- the tables of the machine are those of one block
owner_is : (r : ℕ) (g : LineState) → owner_done r g ≡ owner_after r g
owner_is r g = grind arith

sharer_is : (o : Owner) (sharers : ℕ → Bool) (r h : ℕ) (g : LineState) → sharer_done o sharers r g h ≡ sharer_after o r g h (sharers h)
sharer_is o sharers r h g = grind arith

memory_is : (o : Owner) (g : LineState) (d : Option Block) (m : Block) → memory_done o g d m ≡ memory_after g o d m
memory_is o g d m = grind arith

busy_by : (o : Option (ℕ × LineState)) (q r : ℕ) (a b : LineState) → o ≡ Some (q, a) → o ≡ Some (r, b) → q ≡ r
busy_by o q r a b e f = grind arith

module _ (x : World) (v : Inv x) (key r b : ℕ) (ok : Bool) (content : Option Block) (k : x.machine.net key ≡ Some (Done r b ok content)) where
  abbrev n : ℕ
  n = x.machine.setting.count

  abbrev mail : Mail
  mail = answered (Done r b ok content) [] x.mail

  done_here : ((project b x).hart r).done ≡ Some (ok, content)
  done_here = ap as_done (lies x v (Done r b ok content) (key, k))

  done_in : r < n
  done_in = in_range x v (Done r b ok content) (key, k)

  -- the sender's Done is taken, and each other hart is as it was
  local_after : (j : ℕ) (q : Bool) → eqb j r ≡ q → (block_with b (x.machine.entries b) (x.machine.memory b) mail x).hart j ≡ cond q (take_done ((project b x).hart r)) ((project b x).hart j)
  local_after j true e = let z = slot_test b j r true e in (λ i. record ((project b x).hart j) { done = as_done (cond (z i) None (x.mail (slot 2 b j))) }) ∙ ap (λ h. take_done ((project b x).hart h)) (eqb-true j r e)
  local_after j false e = let z = slot_test b j r false e in λ i. record ((project b x).hart j) { done = as_done (cond (z i) None (x.mail (slot 2 b j))) }

  -- the directory's row, by whether the request was granted
  granted : (g : LineState) → (project b x).busy ≡ Some (r, g) → ok ≡ true → Good n (block_with b (done_row r g content (x.machine.entries b) (x.machine.memory b)).entry (done_row r g content (x.machine.entries b) (x.machine.memory b)).memory mail x)
  granted g i o =
      let s = project b x in
      good_like n (on_done r g content s) (block_with b (done_row r g content (x.machine.entries b) (x.machine.memory b)).entry (done_row r g content (x.machine.entries b) (x.machine.memory b)).memory mail x) (owner_is r g) (λ t h. sharer_is s.owner s.sharers r h g t) refl (memory_is s.owner g content s.memory) refl (λ j _. local_after j (eqb j r) refl)
      (goes_on n s (on_done r g content s) (v.blocks b) (Done_comes r g content done_in (done_here ∙ ap (λ z. Some (z, content)) o) i))

  refused : (g : LineState) → (project b x).busy ≡ Some (r, g) → ok ≡ false → Good n (block_with b (done_refused_row (x.machine.entries b) (x.machine.memory b)).entry (x.machine.memory b) mail x)
  refused g i o =
      let s = project b x in
      good_like n (on_done_refused r s) (block_with b (done_refused_row (x.machine.entries b) (x.machine.memory b)).entry (x.machine.memory b) mail x) refl refl refl refl refl (λ j _. local_after j (eqb j r) refl)
      (goes_on n s (on_done_refused r s) (v.blocks b) (Done_refused_comes r g content done_in (done_here ∙ ap (λ z. Some (z, content)) o) i))

  -- a Done is never held
  pub done_next : (e : Option Entry) (w : Machine) → ComesAbout (served_change key b (Some (done_of (x.machine.entries b).busy r ok content (x.machine.entries b) (x.machine.memory b))) x.machine) e w → Next x e w
  done_next e w c = by_busy (x.machine.entries b).busy refl c
    where
      -- the block is busy by the sender
      asked : (g : LineState) × ((project b x).busy ≡ Some (r, g))
      asked = (known_at x v b).request.done r (ok, content) done_in done_here

      by_end : (g : LineState) → (project b x).busy ≡ Some (r, g) → (q : Bool) → ok ≡ q → ComesAbout (served_change key b (Some (cond q (done_row r g content (x.machine.entries b) (x.machine.memory b)) (done_refused_row (x.machine.entries b) (x.machine.memory b)))) x.machine) e w → Next x e w
      by_end g i true o c = served_next x v key (Done r b ok content) b (done_row r g content (x.machine.entries b) (x.machine.memory b)) e w k refl tt tt (granted g i o) c
      by_end g i false o c = served_next x v key (Done r b ok content) b (done_refused_row (x.machine.entries b) (x.machine.memory b)) e w k refl tt tt (refused g i o) c

      by_sender : (a : Busy) → (x.machine.entries b).busy ≡ Some a → (q : Bool) → eqb a.requester r ≡ q → ComesAbout (served_change key b (Some (cond q (cond ok (done_row r a.give content (x.machine.entries b) (x.machine.memory b)) (done_refused_row (x.machine.entries b) (x.machine.memory b))) (unchanged (x.machine.entries b) (x.machine.memory b)))) x.machine) e w → Next x e w
      by_sender a i true z c = by_end a.give (ap (option_map busy_of) i ∙ ap (λ q. Some (q, a.give)) (eqb-true a.requester r z)) ok refl c
      by_sender a i false z c = absurd (eqb-false a.requester r z (busy_by (project b x).busy a.requester r a.give asked.0 (ap (option_map busy_of) i) asked.1))

      by_busy : (q : Option Busy) → (x.machine.entries b).busy ≡ q → ComesAbout (served_change key b (Some (done_of q r ok content (x.machine.entries b) (x.machine.memory b))) x.machine) e w → Next x e w
      by_busy None i c = absurd (none-some (r, asked.0) (sym (ap (option_map busy_of) i) ∙ asked.1))
      by_busy (Some a) i c = by_sender a i (eqb a.requester r) refl c
