-- Values are found among the keys below which all messages lie.
use Rattle.std.proofs.Common.{ℕ, zero, suc, ◌≡◌, ◌≤◌, ◌+◌, ◌-◌, ◌/◌, ◌&&◌, cond, Option, Some, None, is_some, refl, ap, sym, ◌∙◌, arith}
use Rattle.std.specs.Option.{option_and_then, option_or}
use Rattle.protocol.specs.Messages.{Message}
use Rattle.words.specs.LineStates.{is_owned}
use Rattle.protocol.specs.Lines.{byte_in}
use Rattle.protocol.specs.Directory.{Busy, Owner}
use Rattle.protocol.specs.Network.{Network, LiesBelow}
use Rattle.protocol.specs.Machine.{Machine}
use Rattle.protocol.specs.Values.{first_below, ack_content, done_content, is_done_by, entry_owner, owner_with, in_place, all_restored, raw, peek, view}

-- nothing more is found beyond
or_none : {A : Type 0} (o p : Option A) → p ≡ None → option_or o p ≡ o
or_none None p e = e
or_none (Some x) p e = refl

more_found : {A : Type 0} (keys extra : ℕ) (f : ℕ → Option A) → ((k : ℕ) → keys ≤ k → f k ≡ None) → first_below (extra + keys) f ≡ first_below keys f
more_found keys zero f none = ap (λ n. first_below n f) none_more
  where
    none_more : 0 + keys ≡ keys
    none_more = omega arith
more_found keys (suc extra) f none = ap (λ n. first_below n f) one_more ∙ (or_none (first_below (extra + keys) f) (f (extra + keys)) (none (extra + keys) (omega arith)) ∙ more_found keys extra f none)
  where
    one_more : suc extra + keys ≡ suc (extra + keys)
    one_more = omega arith

found : {A : Type 0} (keys more : ℕ) (f : ℕ → Option A) → keys ≤ more → ((k : ℕ) → keys ≤ k → f k ≡ None) → first_below more f ≡ first_below keys f
found keys more f le none = ap (λ n. first_below n f) (sym parts) ∙ more_found keys (more - keys) f none
  where
    parts : more - keys + keys ≡ more
    parts = omega (arith, le)

-- what is read off messages
read : {A : Type 0} (keys more : ℕ) (net : Network) (f : Message → Option A) → keys ≤ more → LiesBelow keys net → first_below more (λ k. option_and_then f (net k)) ≡ first_below keys (λ k. option_and_then f (net k))
read keys more net f le lies = found keys more (λ k. option_and_then f (net k)) le (λ k at. ap (λ m. option_and_then f m) (lies k at))

same_owner : (keys more : ℕ) (net : Network) (b : ℕ) (busy : Option Busy) (owner : Owner) → keys ≤ more → LiesBelow keys net → owner_with more net b busy owner ≡ owner_with keys net b busy owner
same_owner keys more net b None owner le lies = refl
same_owner keys more net b (Some q) owner le lies = ap (λ o. cond (is_owned q.give && is_some o) (Some q.requester) (entry_owner owner)) (read keys more net (λ m. cond (is_done_by q.requester b m) (Some m) None) le lies)

pub same_in_place : (w : Machine) (keys more b : ℕ) → LiesBelow keys w.net → keys ≤ more → in_place more w b ≡ in_place keys w b
same_in_place w keys more b lies le = rw (same_owner keys more w.net b (w.entries b).busy (w.entries b).owner le lies, read keys more w.net (ack_content b) le lies, read keys more w.net (done_content b) le lies) refl

pub same_raw : (w : Machine) (keys more a : ℕ) → LiesBelow keys w.net → keys ≤ more → raw more w a ≡ raw keys w a
same_raw w keys more a lies le = ap (λ words. byte_in words a) (same_in_place w keys more (a / 32) lies le)

pub same_peek : (w : Machine) (keys more a : ℕ) → LiesBelow keys w.net → keys ≤ more → peek more w a ≡ peek keys w a
same_peek w keys more a lies le = ap (λ words. byte_in (all_restored w.setting.count w (a / 32) words) a) (same_in_place w keys more (a / 32) lies le)

pub same_view : (w : Machine) (keys more i a : ℕ) → LiesBelow keys w.net → keys ≤ more → view more w i a ≡ view keys w i a
same_view w keys more i a lies le = rw (same_raw w keys more a lies le, same_peek w keys more a lies le) refl
