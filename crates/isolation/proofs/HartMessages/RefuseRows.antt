-- A Forward comes to a hart, which refuses it: two harts and what is told of them change, at every block.
use Rattle.std.proofs.Common.{◌≡◌, ◌≢◌, ◌<◌, ℕ, Bool, true, false, Option, None, Some, cond, eqb, refl, sym, ap, subst, ◌∙◌, arith}
use Rattle.std.specs.Prelude.{◌||◌, ◌&&◌, nat_lt, IsOkAnd}
use Rattle.std.proofs.lemmas.Bool.{eqb-true, eqb-false, ne_eqb}
use Rattle.words.specs.declared.entry.Entry.{Entry}
use Rattle.words.specs.declared.stamp.Stamp.{Stamp}
use Rattle.words.specs.declared.message.Kind.{Kind}
use Rattle.words.specs.Stamps.{earlier}
use Rattle.flat.specs.Bytes.{put_at}
use Rattle.flat.specs.State.{Setting}
use Rattle.flat.specs.Causes.{next_of}
use Rattle.flat.specs.Reasons.{Past, RefusalHasReason, WantsKept}
use Rattle.flat.proofs.Maps.{put_there, put_elsewhere}
use Rattle.protocol.specs.Messages.{Message, Forward}
use Rattle.protocol.specs.Lines.{refuses}
use Rattle.protocol.specs.Hart.{Hart, HartResult, overflow_of, stamp_of}
use Rattle.protocol.specs.HartMessages.{refuse_row}
use Rattle.protocol.specs.Network.{Network, taken}
use Rattle.protocol.specs.Machine.{Machine, hart_change, ComesAbout}
use Rattle.isolation.proofs.OneBlock.Model.State.{Outside, Own, Fwd, Local, One, at_hart}
use Rattle.isolation.proofs.OneBlock.Model.State as one
use Rattle.isolation.proofs.OneBlock.Model.Core.{refuse_elsewhere, refused_elsewhere}
use Rattle.isolation.proofs.OneBlock.Model.Messages.{refuse, note, refuses as one_refuses}
use Rattle.isolation.proofs.OneBlock.Model.Step.{Fwd_refused, Refuses_elsewhere, Refused_elsewhere}
use Rattle.isolation.proofs.OneBlock.Invariant.Laws.{Known, Asked}
use Rattle.isolation.proofs.OneBlock.Invariant.Each.{Good}
use Rattle.isolation.proofs.OneBlock.Facts.Runs.{goes_on}
use Rattle.isolation.proofs.OneBlock.Uses.SameStates.{good_still, by_two}
use Rattle.isolation.proofs.Machine.Slots.{slot, Mail}
use Rattle.isolation.proofs.Machine.World.{World, as_forward, copy_of, wait_at, tx_at, own_at, local_at, project}
use Rattle.isolation.proofs.Machine.Invariant.{HartIs, Inv, Next}
use Rattle.isolation.proofs.Machine.Readings.{known_at, request_of, request_alone, lies}
use Rattle.isolation.proofs.Machine.EmptySlots.{nack_empty}
use Rattle.isolation.proofs.Machine.Tables.{refuses_same, sooner_is}
use Rattle.isolation.proofs.HartMessages.OneHartMoves.{local_mail}
use Rattle.isolation.proofs.HartMessages.Arrivals.{arrived, then_at, good_at, mail_after, Arrives, arrives_next}
use Rattle.isolation.proofs.HartMessages.Deliveries.{mail_off}
use Rattle.isolation.proofs.HartMessages.RefusalPasts.{older_is, refusal_told, told_refuser, told_requester, told_other, wants_kept}
use Rattle.isolation.proofs.HartMessages.Refusers.{refusing, hart_refusing, hart_told, own_refusing, refuser_own, refuser_here}

-- At another block

refused_flag : (l : Local) → own_refusing true true l.own ≡ (refuse_elsewhere l).own
refused_flag l = grind arith

refused_none : (l : Local) → own_refusing false false l.own ≡ l.own
refused_none l = grind arith

abbrev noting : Bool → Own → Own
noting a o = record o { noted = o.noted || a }

noted_so : (l : Local) → noting true l.own ≡ (refused_elsewhere l).own
noted_so l = grind arith

noted_none : (l : Local) → noting false l.own ≡ l.own
noted_none l = grind arith

good_refusing : (n i : ℕ) (s : One) (a : Bool) → i < n → (s.hart i).own.tx ≢ Outside → Good n s → Good n (at_hart i (record (s.hart i) { own = own_refusing a a (s.hart i).own }) s)
good_refusing n i s true o t g = subst (λ w. Good n (at_hart i (record (s.hart i) { own = w }) s)) (sym (refused_flag (s.hart i))) (goes_on n s _ g (Refuses_elsewhere i o t))
good_refusing n i s false o t g = good_still n s i _ (ap (λ w. record (s.hart i) { own = w }) (refused_none (s.hart i))) g

good_noting : (n r : ℕ) (s : One) (a : Bool) → r < n → (s.hart r).wait ≡ None → Good n s → Good n (at_hart r (record (s.hart r) { own = noting a (s.hart r).own }) s)
good_noting n r s true o t g = subst (λ w. Good n (at_hart r (record (s.hart r) { own = w }) s)) (sym (noted_so (s.hart r))) (goes_on n s _ g (Refused_elsewhere r o t))
good_noting n r s false o t g = good_still n s r _ (ap (λ w. record (s.hart r) { own = w }) (noted_none (s.hart r))) g

-- both
good_both : (n i r : ℕ) (s : One) (a c : Bool) → i < n → r < n → i ≢ r → (s.hart i).own.tx ≢ Outside → (s.hart r).wait ≡ None → Good n s → Good n (at_hart i (record (s.hart i) { own = own_refusing a a (s.hart i).own }) (at_hart r (record (s.hart r) { own = noting c (s.hart r).own }) s))
good_both n i r s a c o p d t w g = subst (λ l. Good n (at_hart i (record l { own = own_refusing a a l.own }) there)) same (good_refusing n i there a o (subst (λ l. l.own.tx ≢ Outside) (sym same) t) (good_noting n r s c p w g))
  where
    there : One
    there = at_hart r (record (s.hart r) { own = noting c (s.hart r).own }) s

    same : there.hart i ≡ s.hart i
    same = ap (λ q. cond q (record (s.hart r) { own = noting c (s.hart r).own }) (s.hart i)) (ne_eqb i r d)

module _ (x : World) (v : Inv x) (key i b : ℕ) (k : Kind) (r : ℕ) (st : Option Stamp) (there : x.machine.net key ≡ Some (Forward i b k r st)) (o : i < x.machine.setting.count) (y : refuses ((x.machine.harts i).lines b) (overflow_of (x.machine.harts i).tx) k ≡ true) where
  abbrev s : Setting
  s = x.machine.setting

  abbrev h : Hart
  h = x.machine.harts i

  abbrev past : ℕ → Past
  past = x.history.past

  abbrev mine : Option Stamp
  mine = stamp_of h.tx

  abbrev its : Option Stamp
  its = stamp_of (x.machine.harts r).tx

  abbrev told : Fwd
  told = record { kind = k; requester = r; stamp = st }

  abbrev m : Message
  m = Forward i b k r st

  abbrev turn : HartResult
  turn = refuse_row i b r st h

  abbrev mail : Mail
  mail = mail_after m turn x.mail

  abbrev after : ℕ → Past
  after = refusal_told x.history i r b

  all : Known s.count (project b x)
  all = known_at x v b

  come : ((project b x).hart i).fwd ≡ Some told
  come = ap as_forward (lies x v m (key, there))

  does : one_refuses (copy_of (h.lines b)) (overflow_of h.tx) k ≡ true
  does = refuses_same (h.lines b) (overflow_of h.tx) k ∙ y

  who : Asked s.count (project b x) i told
  who = all.askers.fwd i told o come

  inside : tx_at h.tx ≢ Outside
  inside = all.reasons.refuser i k o does

  -- the requester waits for no other block
  alone : (c : ℕ) → c ≢ b → wait_at c (x.machine.harts r).request ≡ None
  alone c d = let q = request_of b (x.machine.harts r).request who.waits.0 who.waits.1 in request_alone (x.machine.harts r).request q.0 q.1 c (λ e. d (e ∙ q.2))

  -- what is told of both
  past_i : after i ≡ record (past i) { refused_earlier = (past i).refused_earlier || earlier its mine }
  past_i = told_refuser x.history i r b who.apart ∙ ap (λ q. record (past i) { refused_earlier = (past i).refused_earlier || q }) (older_is (x.machine.harts r).tx h.tx _ _ (past r) (past i) (v.harts r).past (v.harts i).past)

  past_r : after r ≡ record (past r) { was_refused = (past r).was_refused || earlier mine its }
  past_r = told_requester x.history i r b who.apart ∙ ap (λ q. record (past r) { was_refused = (past r).was_refused || q }) (older_is h.tx (x.machine.harts r).tx _ _ (past i) (past r) (v.harts i).past (v.harts r).past)

  -- the harts at a block
  refuser_now : (c : ℕ) → then_at c i i (refusing st h) after mail x ≡ local_at s c i (refusing st h) (x.flat.hart i) (record (past i) { refused_earlier = (past i).refused_earlier || earlier its mine }) mail
  refuser_now c = ap (λ z. local_at s c i z (x.flat.hart i) (after i) mail) (put_there i (refusing st h) x.machine.harts) ∙ ap (λ z. local_at s c i (refusing st h) (x.flat.hart i) z mail) past_i

  off : (c j : ℕ) → j ≢ i → (q : ℕ) → mail (slot q c j) ≡ x.mail (slot q c j)
  off c j d q = mail_off m turn x.mail (slot q c j) (λ z. d (ap (λ a. a.hart) z)) (λ z. d (ap (λ a. a.hart) z))

  requester_now : (c : ℕ) → then_at c r i (refusing st h) after mail x ≡ record ((project c x).hart r) { own = noting (earlier mine its) ((project c x).hart r).own }
  requester_now c =
      let d : r ≢ i = λ z. who.apart (sym z) in
      ap (λ z. local_at s c r z (x.flat.hart r) (after r) mail) (put_elsewhere i r (refusing st h) x.machine.harts d)
      ∙ ap (λ z. local_at s c r (x.machine.harts r) (x.flat.hart r) z mail) past_r
      ∙ local_mail s c r (x.machine.harts r) (x.flat.hart r) (record (past r) { was_refused = (past r).was_refused || earlier mine its }) mail x.mail (off c r d)

  other_now : (c j : ℕ) → j ≢ r → j ≢ i → then_at c j i (refusing st h) after mail x ≡ (project c x).hart j
  other_now c j e d =
      ap (λ z. local_at s c j z (x.flat.hart j) (after j) mail) (put_elsewhere i j (refusing st h) x.machine.harts d)
      ∙ ap (λ z. local_at s c j (x.machine.harts j) (x.flat.hart j) z mail) (told_other x.history i r b who.apart j d e)
      ∙ local_mail s c j (x.machine.harts j) (x.flat.hart j) (past j) mail x.mail (off c j d)

  here : (net : Network) → Good s.count (project b (arrived i (refusing st h) net after mail x))
  here net = good_at b i (refusing st h) net after mail x (one.put_at i (refuse r st its ((project b x).hart i)) (one.put_at r (note mine ((project b x).hart r)) (project b x).hart))
      (by_two r i (λ j. then_at b j i (refusing st h) after mail x) (project b x).hart (note mine ((project b x).hart r)) (refuse r st its ((project b x).hart i)) who.apart
      (requester_now b ∙ ap (λ q. record ((project b x).hart r) { own = noting q ((project b x).hart r).own }) (sym (sooner_is mine its)))
      (refuser_now b ∙ refuser_here s b i k r st its h (x.flat.hart i) (past i) x.mail)
      (λ j e d. other_now b j e d))
      (goes_on s.count (project b x) _ (v.blocks b) (Fwd_refused i told o come does))

  elsewhere : (c : ℕ) → c ≢ b → (net : Network) → Good s.count (project c (arrived i (refusing st h) net after mail x))
  elsewhere c d net = good_at c i (refusing st h) net after mail x (one.put_at i (record l { own = own_refusing (earlier its mine) (earlier its mine) l.own }) (one.put_at r (record ((project c x).hart r) { own = noting (earlier mine its) ((project c x).hart r).own }) (project c x).hart))
      (by_two r i (λ j. then_at c j i (refusing st h) after mail x) (project c x).hart _ _ who.apart
      (requester_now c)
      (refuser_now c ∙ local_mail s c i (refusing st h) (x.flat.hart i) (record (past i) { refused_earlier = (past i).refused_earlier || earlier its mine }) mail x.mail at_c ∙ ap (λ q. record l { own = q }) own_is)
      (λ j e f. other_now c j e f))
      (good_both s.count i r (project c x) (earlier its mine) (earlier mine its) o who.within who.apart inside (alone c d) (v.blocks c))
    where
      l : Local
      l = (project c x).hart i

      at_c : (q : ℕ) → mail (slot q c i) ≡ x.mail (slot q c i)
      at_c q = mail_off m turn x.mail (slot q c i) (λ z. d (ap (λ a. a.block) z)) (λ z. d (ap (λ a. a.block) z))

      own_is : own_at s c (refusing st h) (x.flat.hart i) (record (past i) { refused_earlier = (past i).refused_earlier || earlier its mine }) ≡ own_refusing (earlier its mine) (earlier its mine) l.own
      own_is = refuser_own s c st h (x.flat.hart i) (past i) (earlier its mine) ∙ ap (λ q. own_refusing (earlier q mine) (earlier its mine) l.own) who.stamp

  blocks : (c : ℕ) (net : Network) → Good s.count (project c (arrived i (refusing st h) net after mail x))
  blocks c net = go (eqb c b) refl
    where
      go : (q : Bool) → eqb c b ≡ q → Good s.count (project c (arrived i (refusing st h) net after mail x))
      go true e = subst (λ z. Good s.count (project z (arrived i (refusing st h) net after mail x))) (sym (eqb-true c b e)) (here net)
      go false e = elsewhere c (eqb-false c b e) net

  harts : (j : ℕ) → HartIs s (put_at i (refusing st h) x.machine.harts j) (x.flat.hart j) (after j)
  harts j = hart_told s _ (x.flat.hart j) (past j) _ _ (go (eqb j i) refl)
    where
      go : (q : Bool) → eqb j i ≡ q → HartIs s (cond q (refusing st h) (x.machine.harts j)) (x.flat.hart j) (past j)
      go true e = subst (λ z. HartIs s (refusing st h) (x.flat.hart z) (past z)) (sym (eqb-true j i e)) (hart_refusing s st h (x.flat.hart i) (past i) (v.harts i))
      go false e = v.harts j

  reason : RefusalHasReason x.flat x.history i r b
  reason =
      let z = all.reasons.refusal i told o come does in
      record {
        refuser = subst (λ q. i < q.count) (sym v.same) o;
        requester = subst (λ q. r < q.count) (sym v.same) who.within;
        other = who.apart;
        wants = subst (λ q. IsOkAnd (next_of q (x.flat.hart r)) (λ e. WantsKept x.flat i b (nat_lt 0 (past i).depth && (past i).has_spilled) e.act)) (sym v.same)
            (wants_kept x.flat i b h.tx h.kept_stamp (past i) k (next_of s (x.flat.hart r)) z.0 inside (v.harts i).past z.2);
      }

  -- the hart refuses, and a Nack goes out
  pub refused_next : (e : Option Entry) (w : Machine) → ComesAbout (hart_change i turn (record x.machine { net = taken key x.machine.net })) e w → Next x e w
  refused_next e w c = arrives_next x key i m turn after e w v arrives c
    where
      arrives : Arrives x key i m turn after
      arrives = record {
        is_hart = o;
        there = there;
        unstamped = refl;
        sent = (refl, nack_empty x v b i (all.free.answer i told o come).1);
        carries = refl;
        reason = reason;
        told = refl;
        harts = harts;
        blocks = blocks;
      }
