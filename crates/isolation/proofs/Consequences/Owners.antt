-- Who owns a block, as the machine has it and as the block has it.
use Rattle.std.proofs.Common.{◌≡◌, ℕ, Bool, true, false, Option, None, Some, cond, refl, sym, ap, ◌∙◌, arith}
use Rattle.std.specs.Prelude.{is_some, ◌&&◌}
use Rattle.std.specs.Option.{option_map, option_and_then}
use Rattle.std.proofs.lemmas.Bool.{eqb-true, eq-eqb}
use Rattle.words.specs.declared.message.LineState.{LineState}
use Rattle.protocol.specs.Messages.{Block, Message}
use Rattle.words.specs.LineStates.{is_owned}
use Rattle.protocol.specs.Directory.{Owner, Busy}
use Rattle.protocol.specs.Network.{LiesBelow}
use Rattle.protocol.specs.Values.{first_below, is_done_by, has_done, entry_owner, owner_with, owner_of}
use Rattle.isolation.proofs.OneBlock.Invariant.Laws.{owner_now, owner_by, owner_with as owner_in_block}
use Rattle.isolation.proofs.Machine.Slots.{slot, slot_of}
use Rattle.isolation.proofs.Machine.World.{World, as_done, busy_of, project}
use Rattle.isolation.proofs.Machine.Invariant.{Inv}
use Rattle.isolation.proofs.Consequences.Searches.{found_message, no_message}

-- whether a Done grants
abbrev is_ok : Option (Bool × Option Block) → Bool
is_ok None = false
is_ok (Some d) = d.0

abbrev if_done : ℕ → ℕ → Message → Option Message
if_done r b m = cond (is_done_by r b m) (Some m) None

-- the Done that is looked for is in r's slot
done_slot : (r b : ℕ) (m n : Message) → if_done r b m ≡ Some n → (slot_of m ≡ slot 2 b r) × (is_ok (as_done (Some m)) ≡ true)
done_slot r b m n e = grind (arith, eqb-true)

-- and another in that slot grants nothing
not_ok : (r b : ℕ) (m : Message) → slot_of m ≡ slot 2 b r → if_done r b m ≡ None → is_ok (as_done (Some m)) ≡ false
not_ok r b m at e = grind (arith, eq-eqb)

module _ (x : World) (v : Inv x) (keys : ℕ) (below : LiesBelow keys x.machine.net) where
  -- a granted request's Done is found where the block has it
  has_done_is : (r b : ℕ) → has_done keys x.machine.net r b ≡ is_ok (as_done (x.mail (slot 2 b r)))
  has_done_is r b = go (first_below keys (λ key. option_and_then (if_done r b) (x.machine.net key))) refl
    where
      none : (o : Option Message) → ((m : Message) → o ≡ Some m → (slot_of m ≡ slot 2 b r) × (if_done r b m ≡ None)) → is_ok (as_done o) ≡ false
      none None f = refl
      none (Some m) f = let p = f m refl in not_ok r b m p.0 p.1

      go : (o : Option Message) → first_below keys (λ key. option_and_then (if_done r b) (x.machine.net key)) ≡ o → is_some o ≡ is_ok (as_done (x.mail (slot 2 b r)))
      go (Some n) e =
          let m = found_message keys x.machine.net x.mail (if_done r b) v.carried n e in
          let d = done_slot r b m.0 n m.2 in
          sym (ap (λ o. is_ok (as_done o)) (sym (ap x.mail d.0) ∙ m.1) ∙ d.1)
      go None e = sym (none (x.mail (slot 2 b r)) (no_message keys x.machine.net x.mail (if_done r b) v.carried below e (slot 2 b r)))

  -- the machine's owner is the block's
  pub owner_is : (b : ℕ) → owner_of keys x.machine b ≡ owner_now (project b x)
  owner_is b = go (x.machine.entries b).busy
    where
      by_done : (r : ℕ) (g : LineState) (d : Option (Bool × Option Block)) (owner : Owner) → cond (is_owned g && is_ok d) (Some r) (entry_owner owner) ≡ owner_by r g d owner
      by_done r g d owner = grind arith

      go : (q : Option Busy) → owner_with keys x.machine.net b q (x.machine.entries b).owner ≡ owner_in_block (option_map busy_of q) (project b x).hart (x.machine.entries b).owner
      go None = refl
      go (Some q) = ap (λ d. cond (is_owned q.give && d) (Some q.requester) (entry_owner (x.machine.entries b).owner)) (has_done_is q.requester b) ∙ by_done q.requester q.give (as_done (x.mail (slot 2 b q.requester))) (x.machine.entries b).owner
