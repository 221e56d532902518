-- Each message that comes to a hart keeps the invariant, with the end of the request in the same step.
use Rattle.std.proofs.Common.{◌≡◌, ◌≢◌, ◌<◌, ◌⊎◌, ℕ, zero, suc, Bool, true, false, Option, None, Some, refl, sym, ap, subst, ◌∙◌, inl, inr, arith}
use Rattle.std.proofs.lemmas.Bool.{cases_eq}
use Rattle.std.specs.Prelude.{◌||◌, ◌&&◌, not}
use Rattle.words.specs.declared.stamp.Stamp.{Stamp}
use Rattle.words.specs.declared.message.Kind.{Kind}
use Rattle.words.specs.declared.message.LineState.{LineState}
use Rattle.protocol.specs.Messages.{Block, Granted}
use Rattle.protocol.specs.Directory.{Owner, Owned}
use Rattle.isolation.proofs.OneBlock.Model.State.{sooner, Wait, Aborting, Fwd, Local, One, at_hart}
use Rattle.isolation.proofs.OneBlock.Model.Messages.{refuse, note, on_grant, take_ack, on_ack, take_nack, on_nack, sent_back, end_refused, end_granted, end_request, complete, ends_if, with_grant, with_wait, finish}
use Rattle.isolation.proofs.OneBlock.Model.Directory.{Rights, standing, must_tell}
use Rattle.isolation.proofs.OneBlock.Invariant.Roles.{Ask, Role, Aside, Told, Acking, Nacking, Answered, Refused, Asks, Ends, Fails, Ghost}
use Rattle.isolation.proofs.OneBlock.Invariant.Parts.{Ctx, Part, PartOf, Fits}
use Rattle.isolation.proofs.OneBlock.Invariant.Each.{Center, Each, ctx, Inv, Good}
use Rattle.isolation.proofs.OneBlock.Rows.ValueStaysRows.{told}
use Rattle.isolation.proofs.OneBlock.Rows.Expected.{ack_expected, nack_expected, heard_expects, refused_expects}
use Rattle.isolation.proofs.OneBlock.Rows.Answers.{asker_is, other_row, granted, grant_other, grant_self, heard, refused_by, heard_self, nack_self, standings, heard_other, nack_other}
use Rattle.isolation.proofs.OneBlock.Rows.Senders.{acking_row, nacking_row, noting, refuse_row, note_row, asks_stamp, note_other, acking, nacking, Found, told_found, ack_found, nack_found, ack_fits, nack_noted, Asking, grant_asks}
use Rattle.isolation.proofs.OneBlock.Rows.Ends.{ready, undo_sticks, sticks_apart, wait_of, waits, grants, end_ghost, end_row, end_other, end_owner, owner_stands, end_value, end_center, fail_row, fail_other, fail_center}
use Rattle.isolation.proofs.OneBlock.Steps.FromOneHart.{local_move, asker_move, asker_two, same_harts, put_twice, put_swap, put_there, put_here, Refined, refine}

pub asking : (b : Option (ℕ × LineState)) (a : Role) (r : ℕ) → Asking b a r → Refined b a r
asking None a r e = absurd e
asking (Some (q, s)) (Asks k) r e = (s, k, ap (λ x. Some (x, s)) e, refl)
asking (Some q) Aside r e = absurd e
asking (Some q) (Told x k s) r e = absurd e
asking (Some q) (Acking x k d) r e = absurd e
asking (Some q) (Nacking x s) r e = absurd e
asking (Some q) (Answered k) r e = absurd e
asking (Some q) Refused r e = absurd e
asking (Some q) (Ends g d) r e = absurd e
asking (Some q) Fails r e = absurd e

pub found_asks : (b : Option (ℕ × LineState)) (a : Role) (h r : ℕ) (st : Rights) → Found b a h r st → Asking b a r
found_asks b a h r st f = grind arith

pub found_apart : (b : Option (ℕ × LineState)) (a : Role) (h r : ℕ) (st : Rights) → Found b a h r st → h ≢ r
found_apart b a h r st f = grind arith

pub found_tells : (b : Option (ℕ × LineState)) (a : Role) (h r : ℕ) (st : Rights) (s : LineState) → Found b a h r st → b ≡ Some (r, s) → must_tell s st ≡ true
found_tells b a h r st s f e = grind arith

complete_all : (n : ℕ) (e f : ℕ → Bool) → complete n e f ≡ true → (h : ℕ) → h < n → e h ≡ true → f h ≡ true
complete_all zero e f c h b x = absurd (omega arith)
complete_all (suc n) e f c h b x = at (cases_eq h n) (λ d o. complete_all n e f d h o x)
  where
    first : (p q r : Bool) → (p && (not q || r)) ≡ true → p ≡ true
    first p q r z = grind arith

    second : (p q r : Bool) → (p && (not q || r)) ≡ true → q ≡ true → r ≡ true
    second p q r z y = grind arith

    at : ((h ≡ n) ⊎ (h ≡ n → ⊥)) → (complete n e f ≡ true → h < n → f h ≡ true) → f h ≡ true
    at (inl p) rest = subst (λ z. f z ≡ true) (sym p) (second (complete n e f) (e n) (f n) c (subst (λ z. e z ≡ true) p x))
    at (inr p) rest = rest (first (complete n e f) (e n) (f n) c) (omega arith)

nay_is : (a : Ask) (w : Wait) (b : Bool) → w ≡ wait_of a → w.refused ≡ b → a.nay ≡ b
nay_is a w b e f = sym (ap (λ x. x.refused) e) ∙ f

from_is : (a : Ask) (w : Wait) (x : Granted) (n : ℕ) → w ≡ wait_of a → x ≡ a.grant → complete n x.expect w.from ≡ true → complete n a.grant.expect a.from ≡ true
from_is a w x n e f c = subst (λ z. complete n a.grant.expect z.from ≡ true) e (subst (λ z. complete n z.expect w.from ≡ true) f c)

module _ (n : ℕ) (t : One) (r : ℕ) (s : LineState) (a : Ask) (cur : Block) (w : Option ℕ) (g : ℕ → Ghost) (v : Inv n (Some (r, s)) (Asks a) cur w t g) (o : r < n) (l : Local) (is : t.hart r ≡ l) where
  abbrev base : Ctx
  base = ctx (Some (r, s)) (Asks a) cur w t

  mine : Each base (t.sharers r) r l (g r)
  mine = subst (λ x. Each base (t.sharers r) r x (g r)) is (v.each r o)

  role_is : (g r).role ≡ Asks a
  role_is = asker_is r s (Asks a) cur (standing t.owner (t.sharers r) r) (g r).role mine.part

  stays : Good n (at_hart r l t)
  stays = local_move n t (Some (r, s)) (Asks a) cur w g r l (g r) v mine

  granted_end : (x : Wait) (y : Granted) → x ≡ wait_of a → y ≡ a.grant → a.sent ≡ false → complete n a.grant.expect a.from ≡ true → a.nay ≡ false → Good n (at_hart r (end_granted x y l) t)
  granted_end x y e f m c k =
      let own : (q : ℕ) → t.owner ≡ Owned q → a.kept ≡ Some cur = λ q z. let p = v.owner_in q z in end_owner r s a cur q (standing t.owner (t.sharers q) q) (g q).role (owner_stands t.owner q (t.sharers q) z) k (λ u. complete_all n a.grant.expect a.from c q p u) (v.each q p).part in
      let i = asker_move n t (Some (r, s)) (Asks a) (Ends s (sent_back s a.kept)) cur w g r (end_granted (wait_of a) a.grant l) (end_ghost s a l.own.overflow cur (g r)) v refl tt
      (end_center t.owner t.memory cur s a own v.center)
      (end_row base (t.sharers r) r l (g r) s a mine m v.agree (end_value t.owner t.memory cur a own v.center))
      (λ j p d. end_other base (t.sharers j) j (t.hart j) (g j) r s a (sent_back s a.kept) d k (λ u. complete_all n a.grant.expect a.from c j p u) (v.each j p)) in
      subst (λ z. Good n (at_hart r (end_granted z y l) t)) (sym e) (subst (λ z. Good n (at_hart r (end_granted (wait_of a) z l) t)) (sym f) (record { busy = Some (r, s); asker = Ends s (sent_back s a.kept); cur = cur; writer = w; ghost = _; inv = i }))

  refused_end : (x : Wait) → x ≡ wait_of a → a.sent ≡ false → complete n a.grant.expect a.from ≡ true → a.nay ≡ true → Good n (at_hart r (end_refused x l) t)
  refused_end x e m c k =
      let i = asker_move n t (Some (r, s)) (Asks a) Fails cur w g r (end_refused (wait_of a) l) (record (g r) { role = Fails }) v tt tt
      (fail_center t.owner t.memory cur a v.center)
      (fail_row base (t.sharers r) r l (g r) s a mine m)
      (λ j p d. fail_other base (t.sharers j) j (t.hart j) (g j) r s a d k (λ u. complete_all n a.grant.expect a.from c j p u) (v.each j p)) in
      subst (λ z. Good n (at_hart r (end_refused z l) t)) (sym e) (record { busy = Some (r, s); asker = Fails; cur = cur; writer = w; ghost = _; inv = i })

  -- the request ends, if all have answered
  pub finishes : Good n (at_hart r (finish n l) t)
  finishes = by_wait l.wait refl
    where
      ended : (x : Wait) (y : Granted) → l.wait ≡ Some x → x.grant ≡ Some y → complete n y.expect x.from ≡ true → (b : Bool) → x.refused ≡ b → Good n (at_hart r (end_request b x y l) t)
      ended x y e f c true k =
          let z = waits l (g r) a x mine.is role_is e in
          let q = grants a x y z f in
          refused_end x z q.1 (from_is a x y n z q.0 c) (nay_is a x true z k)
      ended x y e f c false k =
          let z = waits l (g r) a x mine.is role_is e in
          let q = grants a x y z f in
          granted_end x y z q.0 q.1 (from_is a x y n z q.0 c) (nay_is a x false z k)

      by_test : (x : Wait) (y : Granted) → l.wait ≡ Some x → x.grant ≡ Some y → (b : Bool) → complete n y.expect x.from ≡ b → Good n (at_hart r (ends_if b x y l) t)
      by_test x y e f true c = ended x y e f c x.refused refl
      by_test x y e f false c = stays

      by_grant : (x : Wait) → l.wait ≡ Some x → (y : Option Granted) → x.grant ≡ y → Good n (at_hart r (with_grant n x y l) t)
      by_grant x e None f = stays
      by_grant x e (Some y) f = by_test x y e f (complete n y.expect x.from) refl

      by_wait : (x : Option Wait) → l.wait ≡ x → Good n (at_hart r (with_wait n x l) t)
      by_wait None e = stays
      by_wait (Some x) e = by_grant x e x.grant refl

module _ (n : ℕ) (z : One) (r : ℕ) (s : LineState) (a : Ask) (cur : Block) (w : Option ℕ) (g : ℕ → Ghost) (v : Inv n (Some (r, s)) (Asks a) cur w z g) (o : r < n) where
  abbrev c : Ctx
  c = ctx (Some (r, s)) (Asks a) cur w z

  grant_now : (x : Granted) → (z.hart r).grant ≡ Some x → Good n (at_hart r (finish n (on_grant x (z.hart r))) z)
  grant_now x f =
      let l = on_grant x (z.hart r) in
      let i = asker_move n z (Some (r, s)) (Asks a) (Asks (granted a)) cur w g r l (record (g r) { role = Asks (granted a) }) v v.agree v.expects v.center
      (grant_self c (z.sharers r) r (z.hart r) (g r) s a x (v.each r o) f)
      (λ j p d. other_row c (z.sharers j) j (z.hart j) (g j) r s a (granted a) (v.each j p) (grant_other r s a cur j (standing z.owner (z.sharers j) j) (g j).role d (v.each j p).part)) in
      subst (Good n) (same_harts z _ _ (λ j. put_twice r j (finish n l) l z.hart)) (finishes n (at_hart r l z) r s (granted a) cur w _ i o l (put_here r l z.hart))

  module _ (h : ℕ) (q : h < n) (d : h ≢ r) (m : must_tell s (standing z.owner (z.sharers h) h) ≡ true) where
    ack_now : (k : Kind) (y : Option Block) → (g h).role ≡ Acking r k y → Good n (at_hart h (take_ack (z.hart h)) (at_hart r (finish n (on_ack h y (z.hart r))) z))
    ack_now k y f =
        let st = standing z.owner (z.sharers h) h in
        let e = v.each h q in
        let l = on_ack h y (z.hart r) in
        let fits = ack_fits r s a cur h st r k y d (subst (PartOf (Some (r, s)) (Asks a) cur h st) f e.part) in
        let i = asker_two n z (Some (r, s)) (Asks a) (Asks (heard h y a)) cur w g h r (take_ack (z.hart h)) l (record (g h) { role = Answered k }) (record (g r) { role = Asks (heard h y a) }) v v.agree
        (heard_expects n r s a h y (ack_expected r s a cur h st r k y d (subst (PartOf (Some (r, s)) (Asks a) cur h st) f e.part)) v.expects)
        (heard_center z.owner z.memory cur h y a fits v.center)
        (acking_row c (z.sharers h) h (z.hart h) (g h) r s a r k y d e f)
        (heard_self c (z.sharers r) r (z.hart r) (g r) s a h y (v.each r o))
        (λ j p x u. other_row c (z.sharers j) j (z.hart j) (g j) r s a (heard h y a) (v.each j p) (heard_other r s a cur j h (standing z.owner (z.sharers j) j) st (g j).role y u x m (standings z.owner (z.sharers j) (z.sharers h) j h x) (v.each j p).part)) in
        subst (Good n) (same_harts z _ _ (λ j. put_swap h r j (finish n l) l (take_ack (z.hart h)) z.hart d)) (finishes n (at_hart h (take_ack (z.hart h)) (at_hart r l z)) r s (heard h y a) cur w _ i o l (put_there h r l (take_ack (z.hart h)) z.hart d))
      where
        heard_center : (owner : Owner) (memory cur : Block) (h : ℕ) (y : Option Block) (a : Ask) → Fits y cur → Center owner memory cur (Asks a) → Center owner memory cur (Asks (heard h y a))
        heard_center owner memory cur h y a f x = grind arith

    not_aborting : (z.hart r).own.tx ≢ Aborting
    not_aborting t = sticks_apart (standing z.owner (z.sharers r) r) (standing z.owner (z.sharers h) h) s (undo_sticks _ s a cur z.flat w r (g r).keep (z.hart r).own (ready c (z.sharers r) r (z.hart r) (g r) s a (v.each r o)) (v.each r o).logs t) (standings z.owner (z.sharers r) (z.sharers h) r h (λ x. d (sym x))) m

    nack_now : (y : Option Stamp) → (g h).role ≡ Nacking r y → Good n (at_hart h (take_nack (z.hart h)) (at_hart r (finish n (on_nack h y (z.hart r))) z))
    nack_now y f =
        let st = standing z.owner (z.sharers h) h in
        let e = v.each h q in
        let l = on_nack h y (z.hart r) in
        let b = sooner y a.stamp in
        let i = asker_two n z (Some (r, s)) (Asks a) (Asks (refused_by h b a)) cur w g h r (take_nack (z.hart h)) l (record (g h) { role = Refused }) (record (g r) { role = Asks (refused_by h b a) }) v v.agree
        (refused_expects n r s a h b (nack_expected r s a cur h st r y d (subst (PartOf (Some (r, s)) (Asks a) cur h st) f e.part)) v.expects)
        v.center
        (nacking_row c (z.sharers h) h (z.hart h) (g h) r s a r y b d e f)
        (nack_self c (z.sharers r) r (z.hart r) (g r) s a h y (v.each r o) (nack_noted r s a cur h st r y d (subst (PartOf (Some (r, s)) (Asks a) cur h st) f e.part)) not_aborting)
        (λ j p x u. other_row c (z.sharers j) j (z.hart j) (g j) r s a (refused_by h b a) (v.each j p) (nack_other r s a cur j h (standing z.owner (z.sharers j) j) st (g j).role b u x m (standings z.owner (z.sharers j) (z.sharers h) j h x) (v.each j p).part)) in
        subst (Good n) (same_harts z _ _ (λ j. put_swap h r j (finish n l) l (take_nack (z.hart h)) z.hart d)) (finishes n (at_hart h (take_nack (z.hart h)) (at_hart r l z)) r s (refused_by h b a) cur w _ i o l (put_there h r l (take_nack (z.hart h)) z.hart d))

    refuse_now : (k : Kind) (x : Option Stamp) → (g h).role ≡ Told r k x → Good n (at_hart h (refuse r x (z.hart r).own.stamp (z.hart h)) (at_hart r (note (z.hart h).own.stamp (z.hart r)) z))
    refuse_now k x f =
        let e = v.each h q in
        let y = (z.hart h).own.stamp in
        let same = asks_stamp c (z.sharers r) r (z.hart r) (g r) s a (v.each r o) in
        let b = sooner y a.stamp in
        let mine : Each (ctx (Some (r, s)) (Asks (noting b a)) cur w z) (z.sharers r) r (note y (z.hart r)) (record (g r) { role = Asks (noting b a) }) = subst (λ u. Each (ctx (Some (r, s)) (Asks (noting (sooner y u) a)) cur w z) (z.sharers r) r (note y (z.hart r)) (record (g r) { role = Asks (noting (sooner y u) a) })) same (note_row c (z.sharers r) r (z.hart r) (g r) s a y (v.each r o)) in
        record {
          busy = Some (r, s);
          asker = Asks (noting b a);
          cur = cur;
          writer = w;
          ghost = _;
          inv = asker_two n z (Some (r, s)) (Asks a) (Asks (noting b a)) cur w g h r (refuse r x (z.hart r).own.stamp (z.hart h)) (note y (z.hart r)) (record (g h) { role = Nacking r y }) (record (g r) { role = Asks (noting b a) }) v v.agree v.expects v.center
              (refuse_row c (z.sharers h) h (z.hart h) (g h) r s a k x (z.hart r).own.stamp d same e f)
              mine
              (λ j p u t. other_row c (z.sharers j) j (z.hart j) (g j) r s a (noting b a) (v.each j p) (note_other r s a b cur j (standing z.owner (z.sharers j) j) (g j).role t (v.each j p).part));
        }

module _ (n : ℕ) (z : One) (b : Option (ℕ × LineState)) (a : Role) (cur : Block) (w : Option ℕ) (g : ℕ → Ghost) (v : Inv n b a cur w z g) where
  -- a Grant
  pub grants_come : (r : ℕ) (x : Granted) → r < n → (z.hart r).grant ≡ Some x → Good n (at_hart r (finish n (on_grant x (z.hart r))) z)
  grants_come r x o f =
      let e = v.each r o in
      let p = asking b a r (grant_asks (ctx b a cur w z) r (standing z.owner (z.sharers r) r) (z.hart r) (g r) x e.is e.part f) in
      grant_now n z r p.0 p.1 cur w g (refine n z b _ a _ cur w g p.2 p.3 v) o x f

  -- an Ack
  pub acks_come : (h r : ℕ) (y : Option Block) → h < n → (z.hart h).ack ≡ Some (r, y) → Good n (at_hart h (take_ack (z.hart h)) (at_hart r (finish n (on_ack h y (z.hart r))) z))
  acks_come h r y o f =
      let e = v.each h o in
      let c = ctx b a cur w z in
      let st = standing z.owner (z.sharers h) h in
      let t = acking c h st (z.hart h) (g h) r y e.is e.part f in
      let u = ack_found c h st r t.0 y v.agree (subst (Part c h st) t.1 e.part) in
      let p = asking b a r (found_asks b a h r st u) in
      ack_now n z r p.0 p.1 cur w g (refine n z b _ a _ cur w g p.2 p.3 v) (v.busy_in _ p.2) h o (found_apart b a h r st u) (found_tells b a h r st p.0 u p.2) t.0 y t.1

  -- a Nack
  pub nacks_come : (h r : ℕ) (y : Option Stamp) → h < n → (z.hart h).nack ≡ Some (r, y) → Good n (at_hart h (take_nack (z.hart h)) (at_hart r (finish n (on_nack h y (z.hart r))) z))
  nacks_come h r y o f =
      let e = v.each h o in
      let c = ctx b a cur w z in
      let st = standing z.owner (z.sharers h) h in
      let t = nacking c h st (z.hart h) (g h) r y e.is e.part f in
      let u = nack_found c h st r y v.agree (subst (Part c h st) t e.part) in
      let p = asking b a r (found_asks b a h r st u) in
      nack_now n z r p.0 p.1 cur w g (refine n z b _ a _ cur w g p.2 p.3 v) (v.busy_in _ p.2) h o (found_apart b a h r st u) (found_tells b a h r st p.0 u p.2) y t

  -- a forward that is refused
  pub refuses_come : (h : ℕ) (f : Fwd) → h < n → (z.hart h).fwd ≡ Some f → Good n (at_hart h (refuse f.requester f.stamp (z.hart f.requester).own.stamp (z.hart h)) (at_hart f.requester (note (z.hart h).own.stamp (z.hart f.requester)) z))
  refuses_come h f o x =
      let e = v.each h o in
      let c = ctx b a cur w z in
      let st = standing z.owner (z.sharers h) h in
      let t = told c (z.sharers h) h (z.hart h) (g h) f e x in
      let u = told_found c h st f.requester f.kind f.stamp v.agree (subst (Part c h st) t e.part) in
      let p = asking b a f.requester (found_asks b a h f.requester st u) in
      refuse_now n z f.requester p.0 p.1 cur w g (refine n z b _ a _ cur w g p.2 p.3 v) (v.busy_in _ p.2) h o (found_apart b a h f.requester st u) (found_tells b a h f.requester st p.0 u p.2) f.kind f.stamp t
