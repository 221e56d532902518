-- What a block's rows never meet, in every state that meets the invariant: an owner beside sharers, S or E for a hart that has a line, and an
-- answer of a hart that isn't expected.
use Rattle.std.proofs.Common.{◌≡◌, ◌≢◌, ◌⊎◌, ◌<◌, ℕ, Bool, true, false, Option, Some, sym, subst, ap, ◌∙◌, inl, inr, arith}
use Rattle.std.proofs.lemmas.Bool.{eqb-true}
use Rattle.words.specs.declared.stamp.Stamp.{Stamp}
use Rattle.words.specs.declared.message.Kind.{Kind}
use Rattle.words.specs.declared.message.LineState.{LineState}
use Rattle.words.specs.declared.message.LineState.TheVariants.{Modified}
use Rattle.protocol.specs.Messages.{Block, Granted}
use Rattle.protocol.specs.Directory.{Owner, Owned, Sticky}
use Rattle.isolation.proofs.OneBlock.Model.State.{Absent, Wait, Local, One}
use Rattle.isolation.proofs.OneBlock.Model.Directory.{Rights, standing}
use Rattle.isolation.proofs.OneBlock.Invariant.Roles.{Ask, Role, Acking, Nacking, Asks, Ghost, local_of, rights}
use Rattle.isolation.proofs.OneBlock.Invariant.Parts.{LineOk, OwnFits, Ctx, Part, PartOf}
use Rattle.isolation.proofs.OneBlock.Invariant.Each.{WantOk, Wants, Lone, Agree, Each, ctx, Inv, Good}
use Rattle.isolation.proofs.OneBlock.Rows.Senders.{acking, nacking, ack_found, nack_found}
use Rattle.isolation.proofs.OneBlock.Rows.Expected.{ack_expected, nack_expected}
use Rattle.isolation.proofs.OneBlock.Steps.FromOneHart.{refine}
use Rattle.isolation.proofs.OneBlock.Steps.KeepsMessages.{found_apart}

-- a grant that a hart has: in flight, or kept by its request
abbrev pub HasGrant : Local → Granted → Type 0
HasGrant l x = (l.grant ≡ Some x) ⊎ ((w : Wait) × (l.wait ≡ Some w) × (w.grant ≡ Some x))

-- An owner

lone_owner : (owner : Owner) (shares : Bool) (o : ℕ) → Lone owner shares → (owner ≡ Owned o) ⊎ (owner ≡ Sticky o) → shares ≡ false
lone_owner owner shares o l e = grind arith

-- Grants

-- the request that a grant is of
grant_asks : (l : Local) (g : Ghost) (x : Granted) → l ≡ local_of g l.own → HasGrant l x → (a : Ask) × (g.role ≡ Asks a) × (a.grant ≡ x)
grant_asks l g x e (inl f) = sent l g x e f
  where
    sent : (l : Local) (g : Ghost) (x : Granted) → l ≡ local_of g l.own → l.grant ≡ Some x → (a : Ask) × (g.role ≡ Asks a) × (a.grant ≡ x)
    sent l g x e f = grind arith
grant_asks l g x e (inr f) = kept l g x f.0 e f.1 f.2
  where
    kept : (l : Local) (g : Ghost) (x : Granted) (w : Wait) → l ≡ local_of g l.own → l.wait ≡ Some w → w.grant ≡ Some x → (a : Ask) × (g.role ≡ Asks a) × (a.grant ≡ x)
    kept l g x w e f y = grind arith

-- who asks, by its part, is whom the block is busy with, for what it is given
asks_busy : (c : Ctx) (h : ℕ) (st : Rights) (role : Role) (a : Ask) → Agree c.busy c.asker → Part c h st role → role ≡ Asks a → c.busy ≡ Some (h, a.grant.give)
asks_busy c h st role a k p t = grind (arith, eqb-true)

asker_asks : (c : Ctx) (h : ℕ) (st : Rights) (role : Role) (a : Ask) → Part c h st role → role ≡ Asks a → c.asker ≡ Asks a
asker_asks c h st role a p t = grind arith

-- it fits the hart's standing and its kind
give_fits : (c : Ctx) (h : ℕ) (st : Rights) (role : Role) (a : Ask) → Agree c.busy c.asker → Part c h st role → role ≡ Asks a → OwnFits a.grant.give st a.kind
give_fits c h st role a k p t = grind arith

-- and beside a line it is M
line_modified : (st : Rights) (cur : Block) (k : Kind) (x : LineState) (l : Local) (g : Ghost) → l ≡ local_of g l.own → LineOk st cur g.keep → WantOk k g.keep → OwnFits x st k → l.line ≢ Absent → x ≡ Modified
line_modified st cur k x l g e m w f n = grind arith

wants_ok : (a : Ask) (g : Ghost) → Wants g.role g.want g.keep → g.role ≡ Asks a → WantOk a.kind g.keep
wants_ok a g w t = grind arith

given_modified : (c : Ctx) (shares : Bool) (h : ℕ) (l : Local) (g : Ghost) (a : Ask) → Agree c.busy c.asker → Each c shares h l g → g.role ≡ Asks a → l.line ≢ Absent → a.grant.give ≡ Modified
given_modified c shares h l g a k e t n =
    let st = standing c.owner shares h in
    line_modified st c.cur a.kind a.grant.give l g e.is
    (subst (λ z. LineOk (rights z st) c.cur g.keep) t e.line)
    (wants_ok a g e.want t)
    (give_fits c h st g.role a k e.part t)
    n

-- What is never met

-- an owner leaves no sharers; a hart that has a line is given M; a grant expects only others of the harts; and
-- who answers is expected
pub record NeverMet (n : ℕ) (s : One) : Type 0 where
  pub lone : (h o : ℕ) → (s.owner ≡ Owned o) ⊎ (s.owner ≡ Sticky o) → s.sharers h ≡ false
  pub upgrade : (h : ℕ) (x : Granted) → h < n → HasGrant (s.hart h) x → (s.hart h).line ≢ Absent → x.give ≡ Modified
  pub expects : (h r : ℕ) (x : Granted) → r < n → HasGrant (s.hart r) x → x.expect h ≡ true → (h < n) × (h ≢ r)
  pub ack : (h r : ℕ) (d : Option Block) (x : Granted) → h < n → r < n → (s.hart h).ack ≡ Some (r, d) → HasGrant (s.hart r) x → x.expect h ≡ true
  pub nack : (h r : ℕ) (y : Option Stamp) (x : Granted) → h < n → r < n → (s.hart h).nack ≡ Some (r, y) → HasGrant (s.hart r) x → x.expect h ≡ true
  pub answered : (h r : ℕ) (w : Wait) (x : Granted) → r < n → (s.hart r).wait ≡ Some w → w.from h ≡ true → HasGrant (s.hart r) x → x.expect h ≡ true

answers_of : (l : Local) (g : Ghost) (a : Ask) (w : Wait) → l ≡ local_of g l.own → g.role ≡ Asks a → l.wait ≡ Some w → w.from ≡ a.from
answers_of l g a w e t f = grind arith

module _ (n : ℕ) (s : One) (g : Good n s) where
  abbrev c : Ctx
  c = ctx g.busy g.asker g.cur g.writer s

  abbrev at : ℕ → Rights
  at h = standing s.owner (s.sharers h) h

  -- the request that a hart's grant is of, as the block has it
  pub record Asking (r : ℕ) (x : Granted) : Type 0 where
    pub ask : Ask
    pub role : (g.ghost r).role ≡ Asks ask
    pub grant : ask.grant ≡ x
    pub inv : Inv n (Some (r, ask.grant.give)) (Asks ask) g.cur g.writer s g.ghost

  asking_of : (r : ℕ) (x : Granted) → r < n → HasGrant (s.hart r) x → Asking r x
  asking_of r x o f =
      let m = g.inv.each r o in
      let t = grant_asks (s.hart r) (g.ghost r) x m.is f in
      let b = asks_busy c r (at r) (g.ghost r).role t.0 g.inv.agree m.part t.1 in
      let k = asker_asks c r (at r) (g.ghost r).role t.0 m.part t.1 in
      record { ask = t.0; role = t.1; grant = t.2; inv = refine n s g.busy _ g.asker _ g.cur g.writer g.ghost b k g.inv }

  upgrade : (h : ℕ) (x : Granted) → h < n → HasGrant (s.hart h) x → (s.hart h).line ≢ Absent → x.give ≡ Modified
  upgrade h x o f e =
      let k = asking_of h x o f in
      sym (ap (λ (y : Granted). y.give) k.grant) ∙ given_modified c (s.sharers h) h (s.hart h) (g.ghost h) k.ask g.inv.agree (g.inv.each h o) k.role e

  expects : (h r : ℕ) (x : Granted) → r < n → HasGrant (s.hart r) x → x.expect h ≡ true → (h < n) × (h ≢ r)
  expects h r x o f e = let k = asking_of r x o f in k.inv.expects.0 h (ap (λ (y : Granted). y.expect h) k.grant ∙ e)

  answered : (h r : ℕ) (w : Wait) (x : Granted) → r < n → (s.hart r).wait ≡ Some w → w.from h ≡ true → HasGrant (s.hart r) x → x.expect h ≡ true
  answered h r w x o e f z =
      let k = asking_of r x o z in
      let from : w.from ≡ k.ask.from = answers_of (s.hart r) (g.ghost r) k.ask w (g.inv.each r o).is k.role e in
      ap (λ (y : Granted). y.expect h) (sym k.grant) ∙ k.inv.expects.1 h (sym (ap (λ (y : ℕ → Bool). y h) from) ∙ f)

  -- the part of a hart that answers r
  part_of : (h r : ℕ) (x : Granted) (role : Role) (o : h < n) (k : Asking r x) → (g.ghost h).role ≡ role → PartOf (Some (r, k.ask.grant.give)) (Asks k.ask) g.cur h (at h) role
  part_of h r x role o k t = subst (PartOf (Some (r, k.ask.grant.give)) (Asks k.ask) g.cur h (at h)) t (k.inv.each h o).part

  ack : (h r : ℕ) (d : Option Block) (x : Granted) → h < n → r < n → (s.hart h).ack ≡ Some (r, d) → HasGrant (s.hart r) x → x.expect h ≡ true
  ack h r d x o p e z =
      let k = asking_of r x p z in
      let m = g.inv.each h o in
      let t = acking c h (at h) (s.hart h) (g.ghost h) r d m.is m.part e in
      let apart = found_apart g.busy g.asker h r (at h) (ack_found c h (at h) r t.0 d g.inv.agree (subst (Part c h (at h)) t.1 m.part)) in
      ap (λ (y : Granted). y.expect h) (sym k.grant) ∙ ack_expected r k.ask.grant.give k.ask g.cur h (at h) r t.0 d apart (part_of h r x (Acking r t.0 d) o k t.1)

  nack : (h r : ℕ) (y : Option Stamp) (x : Granted) → h < n → r < n → (s.hart h).nack ≡ Some (r, y) → HasGrant (s.hart r) x → x.expect h ≡ true
  nack h r y x o p e z =
      let k = asking_of r x p z in
      let m = g.inv.each h o in
      let t = nacking c h (at h) (s.hart h) (g.ghost h) r y m.is m.part e in
      let apart = found_apart g.busy g.asker h r (at h) (nack_found c h (at h) r y g.inv.agree (subst (Part c h (at h)) t m.part)) in
      ap (λ (u : Granted). u.expect h) (sym k.grant) ∙ nack_expected r k.ask.grant.give k.ask g.cur h (at h) r y apart (part_of h r x (Nacking r y) o k t)

  -- all of it
  pub never_met : NeverMet n s
  never_met = record {
    lone = λ h o e. lone_owner s.owner (s.sharers h) o (g.inv.lone h) e;
    upgrade = upgrade;
    expects = expects;
    ack = ack;
    nack = nack;
    answered = answered;
  }
