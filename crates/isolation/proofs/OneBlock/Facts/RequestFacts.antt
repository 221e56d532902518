-- Requests, in every state that meets the invariant: one at a time, and each message comes to a hart that expects it.
use Rattle.std.proofs.Common.{◌≡◌, ◌≢◌, ◌<◌, ℕ, Bool, true, false, Option, None, Some, refl, sym, ap, ◌∙◌, subst, arith}
use Rattle.std.proofs.lemmas.Bool.{eq-eqb}
use Rattle.words.specs.declared.stamp.Stamp.{Stamp}
use Rattle.words.specs.declared.message.Kind.{Kind}
use Rattle.words.specs.declared.message.LineState.{LineState}
use Rattle.protocol.specs.Messages.{Block, Granted}
use Rattle.protocol.specs.Directory.{Owned}
use Rattle.isolation.proofs.OneBlock.Model.State.{Wait, Fwd, Local, One}
use Rattle.isolation.proofs.OneBlock.Model.Directory.{Rights, standing}
use Rattle.isolation.proofs.OneBlock.Invariant.Roles.{Ask, Role, Acking, Nacking, Asks, Ghost, local_of, rights}
use Rattle.isolation.proofs.OneBlock.Invariant.Parts.{LineOk, is_answered, Ctx, Part, PartOf}
use Rattle.isolation.proofs.OneBlock.Invariant.Laws.{OneRequest, Expected}
use Rattle.isolation.proofs.OneBlock.Invariant.Each.{Wants, ctx, Inv}
use Rattle.isolation.proofs.OneBlock.Rows.Senders.{Found, acking, nacking, ack_found, nack_found, grant_asks}
use Rattle.isolation.proofs.OneBlock.Rows.Ends.{wait_of, waiting}
use Rattle.isolation.proofs.OneBlock.Rows.Dones.{Ended, done_ends}
use Rattle.isolation.proofs.OneBlock.Steps.KeepsMessages.{asking, found_asks, found_apart}
use Rattle.isolation.proofs.OneBlock.Facts.InPlaceFacts.{asker_role}

-- one request
fwd_busy : (c : Ctx) (h : ℕ) (st : Rights) (l : Local) (g : Ghost) (f : Fwd) → l ≡ local_of g l.own → Part c h st g.role → l.fwd ≡ Some f → (x : LineState) × (c.busy ≡ Some (f.requester, x))
fwd_busy c h st l g f e p x = grind arith

ack_busy : (c : Ctx) (h : ℕ) (st : Rights) (l : Local) (g : Ghost) (r : ℕ) (d : Option Block) → l ≡ local_of g l.own → Part c h st g.role → l.ack ≡ Some (r, d) → (x : LineState) × (c.busy ≡ Some (r, x))
ack_busy c h st l g r d e p x = grind arith

nack_busy : (c : Ctx) (h : ℕ) (st : Rights) (l : Local) (g : Ghost) (r : ℕ) (d : Option Stamp) → l ≡ local_of g l.own → Part c h st g.role → l.nack ≡ Some (r, d) → (x : LineState) × (c.busy ≡ Some (r, x))
nack_busy c h st l g r d e p x = grind arith

grant_busy : (c : Ctx) (h : ℕ) (st : Rights) (l : Local) (g : Ghost) (d : Granted) → l ≡ local_of g l.own → Part c h st g.role → l.grant ≡ Some d → (x : LineState) × (c.busy ≡ Some (h, x))
grant_busy c h st l g d e p x = grind arith

ended_at : (ok : Bool) (d : Option Block) (q : ℕ × LineState) (a : Role) (r : ℕ) → Ended ok d (Some q) a r → q.0 ≡ r
ended_at ok d q a r e = grind arith

ended_busy : (ok : Bool) (d : Option Block) (b : Option (ℕ × LineState)) (a : Role) (r : ℕ) → Ended ok d b a r → (x : LineState) × (b ≡ Some (r, x))
ended_busy ok d None a r e = absurd (not_ended ok d a r e)
  where
    not_ended : (ok : Bool) (d : Option Block) (a : Role) (r : ℕ) → Ended ok d None a r → ⊥
    not_ended ok d a r e = e
ended_busy ok d (Some (q, x)) a r e = (x, ap (λ z. Some (z, x)) (ended_at ok d (q, x) a r e))

done_busy : (c : Ctx) (h : ℕ) (st : Rights) (l : Local) (g : Ghost) (d : Bool × Option Block) → l ≡ local_of g l.own → Part c h st g.role → l.done ≡ Some d → (x : LineState) × (c.busy ≡ Some (h, x))
done_busy c h st l g d e p x = ended_busy d.0 d.1 c.busy c.asker h (done_ends c h st l g d.0 d.1 e p x)

no_put_waiting : (l : Local) (g : Ghost) (x : Wait) → l ≡ local_of g l.own → Wants g.role g.want g.keep → l.wait ≡ Some x → l.put ≡ None
no_put_waiting l g x e m f = grind arith

get_done : (c : Ctx) (h : ℕ) (st : Rights) (l : Local) (g : Ghost) (x : Kind × Option Stamp) (y : LineState) → l ≡ local_of g l.own → Part c h st g.role → Wants g.role g.want g.keep → l.get ≡ Some x → c.busy ≡ Some (h, y) → l.done ≢ None
get_done c h st l g x y e p m f b = grind arith

no_owner : (c : Ctx) (h : ℕ) (shares : Bool) (l : Local) (g : Ghost) (x : Kind × Option Stamp) → l ≡ local_of g l.own → Part c h (standing c.owner shares h) g.role → LineOk (rights g.role (standing c.owner shares h)) c.cur g.keep → Wants g.role g.want g.keep → l.get ≡ Some x → c.busy ≡ None → c.owner ≢ Owned h
no_owner c h shares l g x e p k m f b = grind (arith, eq-eqb)

module _ (n : ℕ) (s : One) (b : Option (ℕ × LineState)) (a : Role) (cur : Block) (w : Option ℕ) (g : ℕ → Ghost) (v : Inv n b a cur w s g) where
  abbrev c : Ctx
  c = ctx b a cur w s

  -- one at a time
  pub one_request : OneRequest n s
  one_request = record {
    fwd = λ h f o x. let m = v.each h o in let y = fwd_busy c h _ (s.hart h) (g h) f m.is m.part x in (y.0, v.busy_is ∙ y.1);
    ack = λ h r d o x. let m = v.each h o in let y = ack_busy c h _ (s.hart h) (g h) r d m.is m.part x in (y.0, v.busy_is ∙ y.1);
    nack = λ h r d o x. let m = v.each h o in let y = nack_busy c h _ (s.hart h) (g h) r d m.is m.part x in (y.0, v.busy_is ∙ y.1);
    grant = λ r d o x. let m = v.each r o in let y = grant_busy c r _ (s.hart r) (g r) d m.is m.part x in (y.0, v.busy_is ∙ y.1);
    done = λ r d o x. let m = v.each r o in let y = done_busy c r _ (s.hart r) (g r) d m.is m.part x in (y.0, v.busy_is ∙ y.1);
    put = λ h x o f. let m = v.each h o in no_put_waiting (s.hart h) (g h) x m.is m.want f;
    get = λ h x y o f e. let m = v.each h o in get_done c h _ (s.hart h) (g h) y x m.is m.part m.want f (sym v.busy_is ∙ e);
    owner = λ h y o f e. let m = v.each h o in no_owner c h (s.sharers h) (s.hart h) (g h) y m.is m.part m.line m.want f (sym v.busy_is ∙ e);
  }

unsent : (l : Local) (g : Ghost) (k : Ask) (x : Granted) → l ≡ local_of g l.own → g.role ≡ Asks k → l.grant ≡ Some x → (wait_of k).grant ≡ None
unsent l g k x e t f = grind arith

not_from : (r : ℕ) (x : LineState) (k : Ask) (cur : Block) (h : ℕ) (st : Rights) (role : Role) → h ≢ r → is_answered role ≡ false → PartOf (Some (r, x)) (Asks k) cur h st role → k.from h ≡ false
not_from r x k cur h st role n y p = grind arith

put_waits : (l : Local) (g : Ghost) → l ≡ local_of g l.own → l.put_ack ≡ true → (l.put ≢ None) × (l.puts ≡ None)
put_waits l g e x = grind arith

puts_put : (l : Local) (g : Ghost) (x : Block × Bool) → l ≡ local_of g l.own → l.puts ≡ Some x → l.put ≡ Some x
puts_put l g x e f = grind arith

module _ (n : ℕ) (s : One) (b : Option (ℕ × LineState)) (a : Role) (cur : Block) (w : Option ℕ) (g : ℕ → Ghost) (v : Inv n b a cur w s g) where
  by_found : (h r : ℕ) (role : Role) → h < n → (g h).role ≡ role → is_answered role ≡ false → Found b a h r (standing s.owner (s.sharers h) h) → (x : Wait) × ((s.hart r).wait ≡ Some x) × (x.from h ≡ false)
  by_found h r role o t y f =
      let p = asking b a r (found_asks b a h r _ f) in
      let q = v.busy_in _ p.2 in
      let mine : (g r).role ≡ Asks p.1 = asker_role n s b a cur w g v r p.0 p.2 ∙ p.3 in
      let part : PartOf (Some (r, p.0)) (Asks p.1) cur h (standing s.owner (s.sharers h) h) (g h).role = subst (λ z. PartOf (Some (r, p.0)) z cur h (standing s.owner (s.sharers h) h) (g h).role) p.3 (subst (λ z. PartOf z a cur h (standing s.owner (s.sharers h) h) (g h).role) p.2 (v.each h o).part) in
      (wait_of p.1, waiting (s.hart r) (g r) p.1 (v.each r q).is mine, not_from r p.0 p.1 cur h _ (g h).role (found_apart b a h r _ f) (subst (λ z. is_answered z ≡ false) (sym t) y) part)

  granted_wait : (r : ℕ) (x : Granted) → r < n → (s.hart r).grant ≡ Some x → (y : Wait) × ((s.hart r).wait ≡ Some y) × (y.grant ≡ None)
  granted_wait r x o f =
      let m = v.each r o in
      let p = asking b a r (grant_asks (ctx b a cur w s) r _ (s.hart r) (g r) x m.is m.part f) in
      let mine : (g r).role ≡ Asks p.1 = asker_role n s b a cur w g v r p.0 p.2 ∙ p.3 in
      (wait_of p.1, waiting (s.hart r) (g r) p.1 m.is mine, unsent (s.hart r) (g r) p.1 x m.is mine f)

  -- each message is expected
  pub expected_come : Expected n s
  expected_come = record {
    grant = granted_wait;
    ack = λ h r d o x. let m = v.each h o in let t = acking (ctx b a cur w s) h _ (s.hart h) (g h) r d m.is m.part x in by_found h r (Acking r t.0 d) o t.1 refl (ack_found (ctx b a cur w s) h _ r t.0 d v.agree (subst (Part (ctx b a cur w s) h (standing s.owner (s.sharers h) h)) t.1 m.part));
    nack = λ h r d o x. let m = v.each h o in let t = nacking (ctx b a cur w s) h _ (s.hart h) (g h) r d m.is m.part x in by_found h r (Nacking r d) o t refl (nack_found (ctx b a cur w s) h _ r d v.agree (subst (Part (ctx b a cur w s) h (standing s.owner (s.sharers h) h)) t m.part));
    put_ack = λ h o x. put_waits (s.hart h) (g h) (v.each h o).is x;
    puts = λ h x o f. puts_put (s.hart h) (g h) x (v.each h o).is f;
  }
