-- Where the value in place is found, in every state that meets the invariant.
use Rattle.std.proofs.Common.{◌≡◌, ◌<◌, ℕ, Bool, Option, None, Some, refl, sym, ap, ◌∙◌, subst, arith}
use Rattle.std.proofs.lemmas.Bool.{eq-eqb}
use Rattle.words.specs.declared.message.LineState.{LineState}
use Rattle.words.specs.declared.message.LineState.TheVariants.{Shared, Exclusive, Modified}
use Rattle.protocol.specs.Messages.{Block}
use Rattle.protocol.specs.Directory.{Owner, Owned}
use Rattle.isolation.proofs.OneBlock.Model.State.{Local, One, value_of}
use Rattle.isolation.proofs.OneBlock.Model.Messages.{put_data}
use Rattle.isolation.proofs.OneBlock.Model.Directory.{Rights, Owns, standing}
use Rattle.isolation.proofs.OneBlock.Invariant.Roles.{Ask, Role, Aside, Told, Acking, Nacking, Answered, Refused, Asks, Ends, Fails, Ghost, local_of, rights, settled}
use Rattle.isolation.proofs.OneBlock.Invariant.Parts.{LineOk, PutOk, Fits, Ctx, Part, PartOf}
use Rattle.isolation.proofs.OneBlock.Invariant.Laws.{owned_line, sent_data, kept_data, done_data, entry_owner, given_owner, owner_by, owner_with, owner_now, owned_by, put_by, Located}
use Rattle.isolation.proofs.OneBlock.Invariant.Each.{Agree, Center, Each, ctx, Inv}
use Rattle.isolation.proofs.OneBlock.Rows.Answers.{asker_is}

line_fits : (rt : Rights) (cur : Block) (l : Local) (g : Ghost) → l ≡ local_of g l.own → LineOk rt cur g.keep → Fits (owned_line l.line) cur
line_fits rt cur l g e m = grind arith

sent_fits : (c : Ctx) (h : ℕ) (st : Rights) (l : Local) (g : Ghost) → l ≡ local_of g l.own → Part c h st g.role → Fits (sent_data l.ack) c.cur
sent_fits c h st l g e p = grind arith

kept_fits : (c : Ctx) (h : ℕ) (st : Rights) (l : Local) (g : Ghost) → l ≡ local_of g l.own → Part c h st g.role → Center c.owner c.memory c.cur c.asker → Fits (kept_data l.wait) c.cur
kept_fits c h st l g e p z = grind arith

done_fits : (c : Ctx) (h : ℕ) (st : Rights) (l : Local) (g : Ghost) → l ≡ local_of g l.own → Part c h st g.role → Center c.owner c.memory c.cur c.asker → Fits (done_data l.done) c.cur
done_fits c h st l g e p z = grind arith

-- the owner's Put, where it has no line
put_left : (cur : Block) (l : Local) (g : Ghost) (st : Rights) → l ≡ local_of g l.own → LineOk Owns cur g.keep → PutOk st cur g.keep → st ≡ Owns → owned_line l.line ≡ None → put_data l.put ≡ Some cur
put_left cur l g st e m p z x = grind arith

-- a requester that will own it, and the owner of the entry where none is, by the requester's part
abbrev pub owner_of : Option (ℕ × LineState) → Role → Owner → Option ℕ
owner_of None a owner = entry_owner owner
owner_of (Some b) (Ends g d) owner = given_owner b.0 b.1 owner
owner_of (Some b) Aside owner = entry_owner owner
owner_of (Some b) (Told q k s) owner = entry_owner owner
owner_of (Some b) (Acking q k d) owner = entry_owner owner
owner_of (Some b) (Nacking q s) owner = entry_owner owner
owner_of (Some b) (Answered k) owner = entry_owner owner
owner_of (Some b) Refused owner = entry_owner owner
owner_of (Some b) (Asks a) owner = entry_owner owner
owner_of (Some b) Fails owner = entry_owner owner

done_is : (r : ℕ) (g : LineState) (a : Role) (owner : Owner) (l : Local) (gh : Ghost) → l ≡ local_of gh l.own → gh.role ≡ a → owner_by r g l.done owner ≡ owner_of (Some (r, g)) a owner
done_is r g a owner l gh e t = grind arith

-- the owner has rights to the block, or the requester has its data
abbrev pub Has_it : Option (ℕ × LineState) → Role → Rights → Rights → Type 0
Has_it None a rt st = (rt ≡ Owns) × (st ≡ Owns)
Has_it (Some b) (Asks a) rt st = (a.kept ≡ None) → (rt ≡ Owns) × (st ≡ Owns)
Has_it (Some b) (Ends Shared d) rt st = Unit {0}
Has_it (Some b) (Ends Exclusive d) rt st = (rt ≡ Owns) × (st ≡ Owns)
Has_it (Some b) (Ends Modified d) rt st = (rt ≡ Owns) × (st ≡ Owns)
Has_it (Some b) Fails rt st = (rt ≡ Owns) × (st ≡ Owns)
Has_it (Some b) Aside rt st = ⊥
Has_it (Some b) (Told q k s) rt st = ⊥
Has_it (Some b) (Acking q k d) rt st = ⊥
Has_it (Some b) (Nacking q s) rt st = ⊥
Has_it (Some b) (Answered k) rt st = ⊥
Has_it (Some b) Refused rt st = ⊥

owner_has : (b : Option (ℕ × LineState)) (a : Role) (cur : Block) (owner : Owner) (shares : Bool) (h : ℕ) (l : Local) (g : Ghost) → l ≡ local_of g l.own → PartOf b a cur h (standing owner shares h) g.role → Agree b a → owner_of b a owner ≡ Some h → sent_data l.ack ≡ None → Has_it b a (rights g.role (standing owner shares h)) (settled a g.role (standing owner shares h))
owner_has b a cur owner shares h l g e p k o s = grind (arith, eq-eqb)

-- where nobody owns it, memory has it, unless the requester has
memory_has : (b : Option (ℕ × LineState)) (a : Role) (owner : Owner) (memory cur : Block) → Agree b a → Center owner memory cur a → owner_of b a owner ≡ None → memory ≡ cur
memory_has b a owner memory cur k z o = grind arith

-- at a Done ok for a reader the entry's owner has it no more, and the data is the Done's
read_over : (b : ℕ × LineState) (d : Option Block) (owner : Owner) (memory cur : Block) (h : ℕ) → owner_of (Some b) (Ends Shared d) owner ≡ Some h → Agree (Some b) (Ends Shared d) → Center owner memory cur (Ends Shared d) → d ≡ Some cur
read_over b d owner memory cur h o k z = grind arith

owner_below : (b : Option (ℕ × LineState)) (a : Role) (owner : Owner) (n o : ℕ) → ((x : ℕ) → owner ≡ Owned x → x < n) → ((q : ℕ × LineState) → b ≡ Some q → q.0 < n) → owner_of b a owner ≡ Some o → o < n
owner_below b a owner n o x y e = grind arith

line_by : (w : Option ℕ) (s : One) (cur : Block) → ((o : ℕ) → w ≡ Some o → Fits (owned_line (s.hart o).line) cur) → Fits (owned_by s w) cur
line_by None s cur h = tt
line_by (Some o) s cur h = h o refl

some_fits : (x : Option Block) (cur : Block) → x ≡ None → x ≡ Some cur → ⊥
some_fits x cur e f = grind arith

asks_keeps : (l : Local) (g : Ghost) (a : Ask) → l ≡ local_of g l.own → g.role ≡ Asks a → kept_data l.wait ≡ a.kept
asks_keeps l g a e t = grind arith

ends_carries : (l : Local) (g : Ghost) (s : LineState) (d : Option Block) → l ≡ local_of g l.own → g.role ≡ Ends s d → done_data l.done ≡ d
ends_carries l g s d e t = grind arith

module _ (n : ℕ) (s : One) (b : Option (ℕ × LineState)) (a : Role) (cur : Block) (w : Option ℕ) (g : ℕ → Ghost) (v : Inv n b a cur w s g) where
  -- the requester has its part
  pub asker_role : (r : ℕ) (x : LineState) → b ≡ Some (r, x) → (g r).role ≡ a
  asker_role r x e =
      let o = v.busy_in (r, x) e in
      asker_is r x a cur (standing s.owner (s.sharers r) r) (g r).role (subst (λ z. PartOf z a cur r (standing s.owner (s.sharers r) r) (g r).role) e (v.each r o).part)

  -- the owner, by the requester's part
  pub owner_is : owner_now s ≡ owner_of b a s.owner
  owner_is = ap (λ z. owner_with z s.hart s.owner) v.busy_is ∙ go b refl
    where
      go : (z : Option (ℕ × LineState)) → b ≡ z → owner_with z s.hart s.owner ≡ owner_of z a s.owner
      go None e = refl
      go (Some (r, x)) e = let o = v.busy_in (r, x) e in done_is r x a s.owner (s.hart r) (g r) (v.each r o).is (asker_role r x e)

  module _ (la : (h : ℕ) → h < n → sent_data (s.hart h).ack ≡ None) (lk : (h : ℕ) → h < n → kept_data (s.hart h).wait ≡ None) (ld : (h : ℕ) → h < n → done_data (s.hart h).done ≡ None) where
    left : (o : Option ℕ) → owner_of b a s.owner ≡ o → owned_by s o ≡ None → value_of (put_by s o) s.memory ≡ cur
    left None e x = memory_has b a s.owner s.memory cur v.agree v.center e
    left (Some h) e x =
        let o = owner_below b a s.owner n h v.owner_in v.busy_in e in
        let m = v.each h o in
        ap (λ z. value_of z s.memory) (by_part b a refl refl m (owner_has b a cur s.owner (s.sharers h) h (s.hart h) (g h) m.is m.part v.agree e (la h o)))
      where
        puts : Each (ctx b a cur w s) (s.sharers h) h (s.hart h) (g h) → (rights (g h).role (standing s.owner (s.sharers h) h) ≡ Owns) × (settled a (g h).role (standing s.owner (s.sharers h) h) ≡ Owns) → put_data (s.hart h).put ≡ Some cur
        puts m p = put_left cur (s.hart h) (g h) _ m.is (subst (λ z. LineOk z cur (g h).keep) p.0 m.line) m.put p.1 x

        by_part : (c : Option (ℕ × LineState)) (k : Role) → b ≡ c → a ≡ k → Each (ctx b a cur w s) (s.sharers h) h (s.hart h) (g h) → Has_it c k (rights (g h).role (standing s.owner (s.sharers h) h)) (settled a (g h).role (standing s.owner (s.sharers h) h)) → put_data (s.hart h).put ≡ Some cur
        by_part None k y z m p = puts m p
        by_part (Some (r, t)) (Asks q) y z m p = puts m (p (sym (asks_keeps (s.hart r) (g r) q (v.each r (v.busy_in (r, t) y)).is (asker_role r t y ∙ z)) ∙ lk r (v.busy_in (r, t) y)))
        by_part (Some (r, t)) (Ends Shared d) y z m p =
            let u = ends_carries (s.hart r) (g r) Shared d (v.each r (v.busy_in (r, t) y)).is (asker_role r t y ∙ z) in
            absurd (some_fits d cur (sym u ∙ ld r (v.busy_in (r, t) y)) (read_over (r, t) d s.owner s.memory cur h (subst (λ k. owner_of (Some (r, t)) k s.owner ≡ Some h) z (subst (λ k. owner_of k a s.owner ≡ Some h) y e)) (subst (λ k. Agree (Some (r, t)) k) z (subst (λ k. Agree k a) y v.agree)) (subst (Center s.owner s.memory cur) z v.center)))
        by_part (Some q) (Ends Exclusive d) y z m p = puts m p
        by_part (Some q) (Ends Modified d) y z m p = puts m p
        by_part (Some q) Fails y z m p = puts m p
        by_part (Some q) Aside y z m p = absurd p
        by_part (Some q) (Told c k x) y z m p = absurd p
        by_part (Some q) (Acking c k d) y z m p = absurd p
        by_part (Some q) (Nacking c x) y z m p = absurd p
        by_part (Some q) (Answered k) y z m p = absurd p
        by_part (Some q) Refused y z m p = absurd p

  owner_found : (o : ℕ) → owner_now s ≡ Some o → o < n
  owner_found o e = owner_below b a s.owner n o v.owner_in v.busy_in (sym owner_is ∙ e)

  -- where it is found
  pub located : Located n s cur
  located = record {
    owner_in = owner_found;
    line = line_by (owner_now s) s cur (λ o e. let m = v.each o (owner_found o e) in line_fits _ cur (s.hart o) (g o) m.is m.line);
    sent = λ h o. let m = v.each h o in sent_fits (ctx b a cur w s) h _ (s.hart h) (g h) m.is m.part;
    kept = λ h o. let m = v.each h o in kept_fits (ctx b a cur w s) h _ (s.hart h) (g h) m.is m.part v.center;
    done = λ h o. let m = v.each h o in done_fits (ctx b a cur w s) h _ (s.hart h) (g h) m.is m.part v.center;
    left = λ l x k d. left x k d (owner_now s) (sym owner_is) l;
  }
