-- A Get comes to the directory: it is granted, and each hart that has to answer is sent a forward.
use Rattle.std.proofs.Common.{◌≡◌, ◌<◌, ℕ, Bool, true, false, Option, None, Some, cond, eqb, ltb, refl, ap, ◌∙◌, arith}
use Rattle.std.specs.Prelude.{◌&&◌}
use Rattle.std.specs.Option.{option_map}
use Rattle.std.proofs.lemmas.Bool.{eqb-true, lt-ltb}
use Rattle.words.specs.declared.entry.Entry.{Entry}
use Rattle.words.specs.declared.message.Kind.{Kind}
use Rattle.words.specs.declared.stamp.Stamp.{Stamp}
use Rattle.protocol.specs.Messages.{Granted, Message, Get, Grant, Forward}
use Rattle.protocol.specs.Directory.{DirEntry, Busy, Served, given_now, expected_now, forwards, get_row, unless_busy}
use Rattle.protocol.specs.Directory as machine
use Rattle.protocol.specs.Machine.{Machine, served_change, ComesAbout}
use Rattle.isolation.proofs.OneBlock.Model.State.{Local}
use Rattle.isolation.proofs.OneBlock.Model.Directory.{expected, take_get, tell, give_now, granted_now, on_get}
use Rattle.isolation.proofs.OneBlock.Model.Step.{Get_comes}
use Rattle.isolation.proofs.OneBlock.Invariant.Each.{Good}
use Rattle.isolation.proofs.OneBlock.Facts.Runs.{goes_on}
use Rattle.isolation.proofs.OneBlock.Uses.SameStates.{good_like}
use Rattle.isolation.proofs.Machine.Slots.{Slot, slot, at_slot, Mail, slot_test}
use Rattle.isolation.proofs.Machine.Sends.{Fit, with_all}
use Rattle.isolation.proofs.Machine.World.{World, as_get, as_put, as_done, as_grant, as_forward, as_put_ack, as_ack, as_nack, busy_of, project}
use Rattle.isolation.proofs.Machine.Invariant.{Inv, Next, still_next}
use Rattle.isolation.proofs.Machine.Readings.{known_at, in_range, lies}
use Rattle.isolation.proofs.Machine.EmptySlots.{grant_empty, forward_empty}
use Rattle.isolation.proofs.Directory.Serves.{block_with, AreTo, served_next}
use Rattle.isolation.proofs.Directory.Forwards.{forward_seen, forward_unseen, forwards_fit, forwards_are}
use Rattle.isolation.proofs.Directory.GetTables.{not_itself, given_is, expected_is, granted_is}

below_test : (n j : ℕ) (q : Bool) → j < n → (ltb j n && q) ≡ q
below_test n j q l = ap (λ z. z && q) (lt-ltb j n l)

module _ (x : World) (v : Inv x) (key r b : ℕ) (kind : Kind) (st : Option Stamp) (k : x.machine.net key ≡ Some (Get r b kind st)) where
  abbrev n : ℕ
  n = x.machine.setting.count

  -- what r is given, and the row
  abbrev given : Granted
  given = machine.granted_now n r kind (x.machine.entries b) (x.machine.memory b)

  abbrev row : Served
  row = get_row n r b kind st (x.machine.entries b) (x.machine.memory b)

  -- the mail once the Get is taken and the Grant sent, and with the forwards
  abbrev granted_mail : Mail
  granted_mail = at_slot (slot 3 b r) (Some (Grant r b given)) (at_slot (slot 0 b r) None x.mail)

  abbrev mail : Mail
  mail = with_all (forwards n given.expect b kind r st) granted_mail

  get_here : ((project b x).hart r).get ≡ Some (kind, st)
  get_here = ap as_get (lies x v (Get r b kind st) (key, k))

  get_in : r < n
  get_in = in_range x v (Get r b kind st) (key, k)

  given_same : given ≡ granted_now n r kind (project b x)
  given_same = granted_is n r kind (project b x) given refl refl (λ h. refl)

  -- where the block isn't busy no Grant and no forward is in flight
  no_grant : (x.machine.entries b).busy ≡ None → x.mail (slot 3 b r) ≡ None
  no_grant i = grant_empty x v b r ((known_at x v b).free.idle r get_in (ap (option_map busy_of) i)).0

  no_forward : (x.machine.entries b).busy ≡ None → (h : ℕ) → h < n → x.mail (slot 4 b h) ≡ None
  no_forward i h l = forward_empty x v b h ((known_at x v b).free.idle h l (ap (option_map busy_of) i)).1

  fit : (x.machine.entries b).busy ≡ None → Fit row.sent (at_slot (slot 0 b r) None x.mail)
  fit i = (no_grant i, forwards_fit b r kind st given.expect n granted_mail (λ h l e. no_forward i h l))

  are : AreTo n b row.sent
  are = (refl, get_in, forwards_are b r kind st given.expect n n (omega arith))

  -- the mail at block b, by slot
  quiet : (a : Slot) → eqb a.sort 4 ≡ false → mail a ≡ granted_mail a
  quiet a u = forward_unseen b r kind st given.expect n granted_mail a u

  forward_mail : (j : ℕ) → j < n → mail (slot 4 b j) ≡ cond (given.expect j) (Some (Forward j b kind r st)) (x.mail (slot 4 b j))
  forward_mail j l = forward_seen b r kind st given.expect n j granted_mail ∙ ap (λ z. cond z (Some (Forward j b kind r st)) (x.mail (slot 4 b j))) (below_test n j (given.expect j) l)

  get_mail : (j : ℕ) (q : Bool) → eqb j r ≡ q → mail (slot 0 b j) ≡ cond q None (x.mail (slot 0 b j))
  get_mail j q e = quiet (slot 0 b j) refl ∙ ap (λ z. cond z None (x.mail (slot 0 b j))) (slot_test b j r q e)

  grant_mail : (j : ℕ) (q : Bool) → eqb j r ≡ q → mail (slot 3 b j) ≡ cond q (Some (Grant r b given)) (x.mail (slot 3 b j))
  grant_mail j q e = quiet (slot 3 b j) refl ∙ ap (λ z. cond z (Some (Grant r b given)) (x.mail (slot 3 b j))) (slot_test b j r q e)

  -- hart j at block b with these three
  abbrev with_mail : ℕ → Option Message → Option Message → Option Message → Local
  with_mail j get grant fwd = record ((project b x).hart j) { get = as_get get; grant = as_grant grant; fwd = as_forward fwd }

  mailed : (j : ℕ) (q : Bool) → j < n → eqb j r ≡ q → (block_with b row.entry row.memory mail x).hart j ≡ with_mail j (cond q None (x.mail (slot 0 b j))) (cond q (Some (Grant r b given)) (x.mail (slot 3 b j))) (cond (given.expect j) (Some (Forward j b kind r st)) (x.mail (slot 4 b j)))
  mailed j q l e = λ i. record ((project b x).hart j) {
    get = as_get (get_mail j q e i);
    puts = as_put (quiet (slot 1 b j) refl i);
    done = as_done (quiet (slot 2 b j) refl i);
    grant = as_grant (grant_mail j q e i);
    fwd = as_forward (forward_mail j l i);
    put_ack = as_put_ack (quiet (slot 5 b j) refl i);
    ack = as_ack (quiet (slot 6 b j) refl i);
    nack = as_nack (quiet (slot 7 b j) refl i);
  }

  told : (j : ℕ) (q : Bool) → with_mail j (x.mail (slot 0 b j)) (x.mail (slot 3 b j)) (cond q (Some (Forward j b kind r st)) (x.mail (slot 4 b j))) ≡ tell q kind r st ((project b x).hart j)
  told j true = refl
  told j false = refl

  -- the requester's Get is taken and granted, and each other hart is told as it has to answer
  local_after : (j : ℕ) (q : Bool) → j < n → eqb j r ≡ q → (block_with b row.entry row.memory mail x).hart j ≡ cond q (take_get (granted_now n r kind (project b x)) ((project b x).hart r)) (tell (expected (give_now n r kind (project b x)) r (project b x) j) kind r st ((project b x).hart j))
  local_after j true l e =
      mailed j true l e
      ∙ ap (λ z. with_mail j None (Some (Grant r b given)) (cond z (Some (Forward j b kind r st)) (x.mail (slot 4 b j)))) (not_itself (x.machine.entries b).owner (x.machine.entries b).sharers r j kind e)
      ∙ ap (λ h. take_get given ((project b x).hart h)) (eqb-true j r e)
      ∙ ap (λ g. take_get g ((project b x).hart r)) given_same
  local_after j false l e = mailed j false l e ∙ told j (given.expect j) ∙ ap (λ z. tell z kind r st ((project b x).hart j)) (expected_is n r kind (project b x) j)

  served : (x.machine.entries b).busy ≡ None → Good n (block_with b row.entry row.memory mail x)
  served i =
      let s = project b x in
      good_like n (on_get n r kind st s) (block_with b row.entry row.memory mail x) refl refl (ap (λ g. Some (r, g)) (given_is n r kind s)) refl refl (λ j l. local_after j (eqb j r) l refl)
      (goes_on n s (on_get n r kind st s) (v.blocks b) (Get_comes r kind st get_in get_here (ap (option_map busy_of) i)))

  -- a Get is granted, or held while the block is busy
  pub get_next : (e : Option Entry) (w : Machine) → ComesAbout (served_change key b (unless_busy (x.machine.entries b).busy row) x.machine) e w → Next x e w
  get_next e w c = by_busy (x.machine.entries b).busy refl c
    where
      by_busy : (q : Option Busy) → (x.machine.entries b).busy ≡ q → ComesAbout (served_change key b (unless_busy q row) x.machine) e w → Next x e w
      by_busy None i c = served_next x v key (Get r b kind st) b row e w k refl are (fit i) (served i) c
      by_busy (Some q) i c = still_next x v e w c
