-- The value in place and the flat machine, and what may retire, in every state that meets the invariant.
use Rattle.std.proofs.Common.{◌≡◌, ◌≢◌, ◌⊎◌, ◌<◌, ℕ, zero, suc, List, [], ◌∷◌, Bool, true, false, Option, None, Some, refl, sym, ap, ◌∙◌, subst, inl, inr, arith}
use Rattle.std.proofs.lemmas.Bool.{cases_eq, eq-eqb, eqb-true, false_from_ne_true}
use Rattle.words.specs.declared.message.Kind.TheVariants.{Read}
use Rattle.words.specs.declared.message.LineState.{LineState}
use Rattle.protocol.specs.Messages.{Block}
use Rattle.words.specs.declared.marks.Marks.{Marks}
use Rattle.protocol.specs.Directory.{Owner, Sticky}
use Rattle.isolation.proofs.OneBlock.Model.State.{Copy, Absent, Has, Running, Aborting, Own, One, lay}
use Rattle.isolation.proofs.OneBlock.Model.Core.{enough}
use Rattle.isolation.proofs.OneBlock.Model.Directory.{Rights, Owns, Shares, Sticks, Nothing, standing}
use Rattle.isolation.proofs.OneBlock.Invariant.Roles.{Role, Aside, Told, Acking, Nacking, Answered, Refused, Asks, Ends, Fails, Ghost, rights}
use Rattle.isolation.proofs.OneBlock.Invariant.Parts.{Ctx, Part}
use Rattle.isolation.proofs.OneBlock.Invariant.Laws.{seen, restored, rolled_back, view_by, Values, Accesses}
use Rattle.isolation.proofs.OneBlock.Invariant.Each.{is_at, oldest, IsLogged, Logs, Sound, Agree, ctx, Inv}
use Rattle.isolation.proofs.OneBlock.Rows.ValueChanges.{sole, sole_rights, nothing_unwritten, nothing_unread}
use Rattle.isolation.proofs.OneBlock.Steps.KeepsOwn.{alone}
use Rattle.isolation.proofs.OneBlock.Facts.LineFacts.{line_rights, value_shown}
use Rattle.isolation.proofs.OneBlock.Facts.SetFacts.{write_rights}

-- a sticky owner's standing leaves nothing to the others
abbrev Sticky_sole : Owner → Option (ℕ × LineState) → Role → ℕ → Type 0
Sticky_sole owner b (Ends g d) h = ⊥
Sticky_sole owner b Aside h = owner ≡ Sticky h
Sticky_sole owner b (Asks a) h = owner ≡ Sticky h
Sticky_sole owner b Fails h = owner ≡ Sticky h
Sticky_sole owner b (Told q k s) h = ⊥
Sticky_sole owner b (Acking q k d) h = ⊥
Sticky_sole owner b (Nacking q s) h = ⊥
Sticky_sole owner b (Answered k) h = ⊥
Sticky_sole owner b Refused h = ⊥

sticky_sole : (c : Ctx) (shares : Bool) (h : ℕ) (role : Role) → Agree c.busy c.asker → Part c h (standing c.owner shares h) role → rights role (standing c.owner shares h) ≡ Sticks → Sticky_sole c.owner c.busy c.asker h
sticky_sole c shares h role a p r = grind (arith, eq-eqb, eqb-true)

sticky_others : (c : Ctx) (h j : ℕ) (b : Bool) (role : Role) → Sticky_sole c.owner c.busy c.asker h → j ≢ h → Part c j (standing c.owner b j) role → rights role (standing c.owner b j) ≡ Nothing
sticky_others c h j b role s n p = grind arith

nothing_absent : (rt : Rights) → rt ≡ Nothing → (rt ≡ Owns) ⊎ (rt ≡ Shares) → ⊥
nothing_absent rt e f = grind arith

-- logs
writes_nothing : (cur mem : Block) (w : Option ℕ) (h : ℕ) (o : Own) → Logs cur mem w h o → o.in_w ≡ false → lay o.writes mem ≡ mem
writes_nothing cur mem w h o e f = grind arith

runs : (o : Own) → Sound o → o.in_w ≡ true → o.tx ≢ Aborting → o.tx ≡ Running
runs o e f n = grind arith

same_image : (xs : List Block) (v : Block) → restored xs v ≡ oldest xs v
same_image [] v = refl
same_image (x ∷ xs) v = same_image xs x

restored_any : (xs : List Block) (u v : Block) → IsLogged xs → restored xs u ≡ restored xs v
restored_any [] u v e = absurd e
restored_any (x ∷ xs) u v e = refl

is_logged : (cur mem : Block) (w : Option ℕ) (h : ℕ) (o : Own) → Logs cur mem w h o → IsLogged o.images → o.in_w ≡ true
is_logged cur mem w h o e f = grind arith

logged_or : (xs : List Block) → IsLogged xs ⊎ (xs ≡ [])
logged_or [] = inr refl
logged_or (x ∷ xs) = inl tt

module _ (n : ℕ) (s : One) (b : Option (ℕ × LineState)) (a : Role) (cur : Block) (w : Option ℕ) (g : ℕ → Ghost) (v : Inv n b a cur w s g) where
  abbrev c : Ctx
  c = ctx b a cur w s

  -- a hart that wrote leaves nothing to the others
  writer_alone : (j h : ℕ) → j < n → h < n → h ≢ j → (s.hart j).own.in_w ≡ true → rights (g h).role (standing s.owner (s.sharers h) h) ≡ Nothing
  writer_alone j h o p d x = go (write_rights _ _ _ (v.each j o).cover x)
    where
      go : (rights (g j).role (standing s.owner (s.sharers j) j) ≡ Owns) ⊎ (rights (g j).role (standing s.owner (s.sharers j) j) ≡ Sticks) → rights (g h).role (standing s.owner (s.sharers h) h) ≡ Nothing
      go (inl e) = sole_rights c j h (s.sharers h) (g h).role (sole c (s.sharers j) j (g j).role v.agree (v.each j o).part e) d (v.each h p).part
      go (inr e) = sticky_others c j h (s.sharers h) (g h).role (sticky_sole c (s.sharers j) j (g j).role v.agree (v.each j o).part e) d (v.each h p).part

  load : (h j : ℕ) → h < n → j < n → j ≢ h → enough Read (s.hart h).line ≡ true → (s.hart j).own.in_w ≡ false
  load h j o p d x = false_from_ne_true _ (λ e. let m = v.each h o in nothing_absent _ (writer_alone j h p o (λ z. d (sym z)) e) (line_rights _ cur (s.hart h) (g h) m.is m.line (present (s.hart h).line x)))
    where
      present : (x : Copy) → enough Read x ≡ true → x ≢ Absent
      present x e = grind arith

  nobody : ((h : ℕ) → h < n → (s.hart h).own.in_w ≡ false) → w ≡ None
  nobody f = go w refl
    where
      clash : (q : ℕ) (x : Bool) → w ≡ Some q → x ≡ is_at w q → x ≡ false → ⊥
      clash q x e f z = grind arith

      go : (u : Option ℕ) → w ≡ u → w ≡ None
      go None e = e
      go (Some q) e = let o = v.writer_in q e in absurd (clash q (s.hart q).own.in_w e (v.each q o).logs.writer_is (f q o))

  -- a present line shows what the flat machine sees
  cur_seen : (h : ℕ) → h < n → (s.hart h).own.tx ≢ Aborting → enough Read (s.hart h).line ≡ true → cur ≡ seen s h
  cur_seen h o t x = go (s.hart h).own.in_w refl
    where
      go : (y : Bool) → (s.hart h).own.in_w ≡ y → cur ≡ seen s h
      go true e = let m = v.each h o in m.logs.view e (runs (s.hart h).own m.sound e t)
      go false e = v.flat (nobody (λ j p. at j p (cases_eq j h))) ∙ sym (writes_nothing cur s.flat w h (s.hart h).own (v.each h o).logs e)
        where
          at : (j : ℕ) → j < n → ((j ≡ h) ⊎ (j ≡ h → ⊥)) → (s.hart j).own.in_w ≡ false
          at j p (inl z) = subst (λ k. (s.hart k).own.in_w ≡ false) (sym z) e
          at j p (inr z) = load h j o p z x

  -- what is known of an access
  pub accesses : Accesses n s
  accesses = record {
    load = load;
    store = λ h j o p d x. let m = v.each j p in let z = sole_rights c h j (s.sharers j) (g j).role (alone n s b a cur w g v h o x) d m.part in (nothing_unread _ _ _ z m.cover, nothing_unwritten _ _ _ z m.cover);
    sees = λ h x d m o t f. let e = v.each h o in value_shown _ cur (s.hart h) (g h) x d m e.is e.line f ∙ cur_seen h o t (subst (λ z. enough Read z ≡ true) (sym f) (has_read x d m));
  }
    where
      has_read : (x : LineState) (d : Block) (m : Marks) → enough Read (Has x d m) ≡ true
      has_read x d m = refl

  -- the logs rolled back
  Back : ℕ → Type 0
  Back k = (rolled_back k s cur ≡ s.flat) ⊎ ((rolled_back k s cur ≡ cur) × ((h : ℕ) → h < k → (s.hart h).own.images ≡ []))

  back : (k : ℕ) → ((h : ℕ) → h < k → h < n) → Back k
  unfolding Back
  back zero f = inr (refl, λ h o. absurd (omega arith))
  back (suc k) f = go (logged_or (s.hart k).own.images) (back k (λ h o. f h (omega arith)))
    where
      o : k < n
      o = f k (omega arith)

      here : (s.hart k).own.images ≡ [] → restored (s.hart k).own.images (rolled_back k s cur) ≡ rolled_back k s cur
      here e = ap (λ z. restored z (rolled_back k s cur)) e

      all : (s.hart k).own.images ≡ [] → ((h : ℕ) → h < k → (s.hart h).own.images ≡ []) → (h : ℕ) → h < suc k → (s.hart h).own.images ≡ []
      all e t h p = at (cases_eq h k)
        where
          at : ((h ≡ k) ⊎ (h ≡ k → ⊥)) → (s.hart h).own.images ≡ []
          at (inl z) = subst (λ j. (s.hart j).own.images ≡ []) (sym z) e
          at (inr z) = t h (omega arith)

      go : IsLogged (s.hart k).own.images ⊎ ((s.hart k).own.images ≡ []) → ((rolled_back k s cur ≡ s.flat) ⊎ ((rolled_back k s cur ≡ cur) × ((h : ℕ) → h < k → (s.hart h).own.images ≡ []))) → (restored (s.hart k).own.images (rolled_back k s cur) ≡ s.flat) ⊎ ((restored (s.hart k).own.images (rolled_back k s cur) ≡ cur) × ((h : ℕ) → h < suc k → (s.hart h).own.images ≡ []))
      go (inl e) r = inl (restored_any (s.hart k).own.images (rolled_back k s cur) cur e ∙ same_image (s.hart k).own.images cur ∙ (v.each k o).logs.image (is_logged cur s.flat w k (s.hart k).own (v.each k o).logs e))
      go (inr e) (inl r) = inl (here e ∙ r)
      go (inr e) (inr r) = inr (here e ∙ r.0, all e r.1)

  -- with no record at all the value in place is flat memory
  unlogged : ((h : ℕ) → h < n → (s.hart h).own.images ≡ []) → cur ≡ s.flat
  unlogged f = go w refl
    where
      at_it : (q : ℕ) → w ≡ Some q → is_at w q ≡ true
      at_it q e = grind arith

      go : (u : Option ℕ) → w ≡ u → cur ≡ s.flat
      go None e = v.flat e
      go (Some q) e =
          let o = v.writer_in q e in
          let l = (v.each q o).logs in
          sym (ap (λ z. oldest z cur) (f q o)) ∙ l.image (l.writer_is ∙ at_it q e)

  peeked : rolled_back n s cur ≡ s.flat
  unfolding Back
  peeked = go (back n (λ h o. o))
    where
      go : ((rolled_back n s cur ≡ s.flat) ⊎ ((rolled_back n s cur ≡ cur) × ((h : ℕ) → h < n → (s.hart h).own.images ≡ []))) → rolled_back n s cur ≡ s.flat
      go (inl e) = e
      go (inr e) = e.0 ∙ unlogged e.1

  viewed : (h : ℕ) → h < n → (s.hart h).own.tx ≢ Aborting → view_by (s.hart h).own.images cur s.flat ≡ seen s h
  viewed h o t = go (s.hart h).own.images refl
    where
      not_written : (x : Own) (y : Option ℕ) → Logs cur s.flat y h x → Sound x → x.tx ≢ Aborting → x.images ≡ [] → x.in_w ≡ false
      not_written x y l z n e = grind arith

      go : (xs : List Block) → (s.hart h).own.images ≡ xs → view_by xs cur s.flat ≡ seen s h
      go [] e = let m = v.each h o in sym (writes_nothing cur s.flat w h (s.hart h).own m.logs (not_written (s.hart h).own w m.logs m.sound t e))
      go (x ∷ xs) e = let m = v.each h o in let i = is_logged cur s.flat w h (s.hart h).own m.logs (subst IsLogged (sym e) tt) in m.logs.view i (runs (s.hart h).own m.sound i t)

  -- what is known of the value in place
  pub values : Values n s cur
  values = record {
    peeked = peeked;
    viewed = viewed;
    written = λ h o t i. let m = v.each h o in m.logs.view i (runs (s.hart h).own m.sound i t);
    unwritten = λ f. v.flat (nobody f);
  }
