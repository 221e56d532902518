-- What the directory does with a message about the block.
use Rattle.std.proofs.Common.{ℕ, zero, suc, Bool, true, false, Option, None, Some, ◌==◌, ◌&&◌, ◌||◌, not, cond}
use Rattle.words.specs.declared.stamp.Stamp.{Stamp}
use Rattle.words.specs.declared.message.Kind.{Kind}
use Rattle.words.specs.declared.message.Kind.TheVariants.{Read, Write}
use Rattle.words.specs.declared.message.LineState.{LineState}
use Rattle.words.specs.declared.message.LineState.TheVariants.{Shared, Exclusive, Modified}
use Rattle.protocol.specs.Messages.{Block, Granted}
use Rattle.protocol.specs.Directory.{Owner, Nobody, Owned, Sticky}
use Rattle.isolation.proofs.OneBlock.Model.State.{Local, One, put_at}

-- what a hart may hold by the directory's entry
pub data Rights : Type 0 where
  Owns : Rights
  Shares : Rights
  Sticks : Rights
  Nothing : Rights

abbrev pub standing : Owner → Bool → ℕ → Rights
standing (Owned o) shares h = cond (h == o) Owns Nothing
standing (Sticky o) shares h = cond (h == o) Sticks Nothing
standing Nobody shares h = cond shares Shares Nothing

-- is a hart of this standing told of a request of another that is given this
abbrev pub must_tell : LineState → Rights → Bool
must_tell Exclusive st = false
must_tell Shared Owns = true
must_tell Shared Sticks = true
must_tell Shared Shares = false
must_tell Shared Nothing = false
must_tell Modified Owns = true
must_tell Modified Sticks = true
must_tell Modified Shares = true
must_tell Modified Nothing = false

-- no hart below n but r is a sharer
abbrev pub no_other : ℕ → ℕ → (ℕ → Bool) → Bool
no_other zero r sharers = true
no_other (suc n) r sharers = no_other n r sharers && ((n == r) || not (sharers n))

abbrev pub given_for : Kind → LineState
given_for Read = Shared
given_for Write = Modified

abbrev pub give_for : Bool → Owner → ℕ → Kind → LineState
give_for alone Nobody r Read = cond alone Exclusive Shared
give_for alone Nobody r Write = Modified
give_for alone (Owned o) r k = cond (r == o) Modified (given_for k)
give_for alone (Sticky o) r k = cond (r == o) Modified (given_for k)

abbrev pub expected : LineState → ℕ → One → ℕ → Bool
expected g r s h = not (h == r) && must_tell g (standing s.owner (s.sharers h) h)

abbrev pub take_get : Granted → Local → Local
take_get g l = record l { get = None; grant = Some g }

abbrev pub tell : Bool → Kind → ℕ → Option Stamp → Local → Local
tell true k r s l = record l { fwd = Some (record { kind = k; requester = r; stamp = s }) }
tell false k r s l = l

abbrev pub give_now : ℕ → ℕ → Kind → One → LineState
give_now n r k s = give_for (no_other n r s.sharers) s.owner r k

abbrev pub granted_now : ℕ → ℕ → Kind → One → Granted
granted_now n r k s = record { give = give_now n r k s; content = s.memory; expect = expected (give_now n r k s) r s }

abbrev pub on_get : ℕ → ℕ → Kind → Option Stamp → One → One
on_get n r k st s = record {
  owner = s.owner;
  sharers = s.sharers;
  busy = Some (r, give_now n r k s);
  memory = s.memory;
  flat = s.flat;
  hart = put_at r (take_get (granted_now n r k s) (s.hart r)) (λ h. tell (expected (give_now n r k s) r s h) k r st (s.hart h));
}

-- Put by the owner
abbrev pub take_put : Local → Local
take_put l = record l { puts = None; put_ack = true }

abbrev pub put_owner : Bool → ℕ → Owner
put_owner true h = Sticky h
put_owner false h = Nobody

abbrev pub on_put : ℕ → Block → Bool → One → One
on_put h d marked s = record { owner = put_owner marked h; sharers = s.sharers; busy = None; memory = d; flat = s.flat; hart = put_at h (take_put (s.hart h)) s.hart }

-- Done
abbrev pub take_done : Local → Local
take_done l = record l { done = None }

abbrev pub owner_after : ℕ → LineState → Owner
owner_after r Shared = Nobody
owner_after r Exclusive = Owned r
owner_after r Modified = Owned r

abbrev pub sharer_after : Owner → ℕ → LineState → ℕ → Bool → Bool
sharer_after Nobody r Shared h b = (h == r) || b
sharer_after (Owned o) r Shared h b = (h == r) || (h == o)
sharer_after (Sticky o) r Shared h b = h == r
sharer_after o r Exclusive h b = false
sharer_after o r Modified h b = false

abbrev pub memory_after : LineState → Owner → Option Block → Block → Block
memory_after Exclusive o d m = m
memory_after Modified o d m = m
memory_after Shared Nobody d m = m
memory_after Shared (Sticky o) d m = m
memory_after Shared (Owned o) None m = m
memory_after Shared (Owned o) (Some x) m = x

abbrev pub on_done : ℕ → LineState → Option Block → One → One
on_done r g d s = record { owner = owner_after r g; sharers = λ h. sharer_after s.owner r g h (s.sharers h); busy = None; memory = memory_after g s.owner d s.memory; flat = s.flat; hart = put_at r (take_done (s.hart r)) s.hart }

abbrev pub on_done_refused : ℕ → One → One
on_done_refused r s = record { owner = s.owner; sharers = s.sharers; busy = None; memory = s.memory; flat = s.flat; hart = put_at r (take_done (s.hart r)) s.hart }
