-- Lines, in every state that meets the invariant.
use Rattle.std.proofs.Common.{◌≡◌, ◌≢◌, ◌⊎◌, ◌<◌, ℕ, Bool, true, Option, Some, refl, ◌∙◌, inl, inr, arith}
use Rattle.std.proofs.lemmas.Bool.{eq-eqb, eqb-true}
use Rattle.words.specs.declared.message.Kind.{Kind}
use Rattle.words.specs.declared.message.Kind.TheVariants.{Write}
use Rattle.words.specs.declared.message.LineState.{LineState}
use Rattle.protocol.specs.Messages.{Block}
use Rattle.words.specs.declared.marks.Marks.{Marks}
use Rattle.protocol.specs.Directory.{Owner, Owned, Sticky}
use Rattle.isolation.proofs.OneBlock.Model.State.{Absent, Has, Local, One}
use Rattle.isolation.proofs.OneBlock.Model.Core.{enough}
use Rattle.isolation.proofs.OneBlock.Model.Directory.{Rights, Owns, Shares, Nothing, standing}
use Rattle.isolation.proofs.OneBlock.Invariant.Roles.{Role, Aside, Told, Acking, Nacking, Answered, Refused, Asks, Ends, Fails, Ghost, local_of, let_go, rights}
use Rattle.isolation.proofs.OneBlock.Invariant.Parts.{LineOk, Ctx, Part}
use Rattle.isolation.proofs.OneBlock.Invariant.Laws.{IsGranted, Named, Lines}
use Rattle.isolation.proofs.OneBlock.Invariant.Each.{Agree, ctx, Inv}
use Rattle.isolation.proofs.OneBlock.Rows.ValueChanges.{Sole, sole_rights}
use Rattle.isolation.proofs.OneBlock.Steps.KeepsOwn.{alone}
use Rattle.isolation.proofs.OneBlock.Facts.InPlaceFacts.{owner_of, owner_is}

-- lines and rights
sole_now : (owner : Owner) (b : Option (ℕ × LineState)) (a : Role) (h : ℕ) → Agree b a → Sole owner b a h → owner_of b a owner ≡ Some h
sole_now owner b a h k s = grind arith

absent_of : (rt : Rights) (cur : Block) (l : Local) (g : Ghost) → l ≡ local_of g l.own → LineOk rt cur g.keep → rt ≡ Nothing → l.line ≡ Absent
absent_of rt cur l g e k z = grind arith

pub value_shown : (rt : Rights) (cur : Block) (l : Local) (g : Ghost) (x : LineState) (d : Block) (m : Marks) → l ≡ local_of g l.own → LineOk rt cur g.keep → l.line ≡ Has x d m → d ≡ cur
value_shown rt cur l g x d m e k f = grind arith

pub line_rights : (rt : Rights) (cur : Block) (l : Local) (g : Ghost) → l ≡ local_of g l.own → LineOk rt cur g.keep → l.line ≢ Absent → (rt ≡ Owns) ⊎ (rt ≡ Shares)
line_rights rt cur l g e k f = grind arith

-- who has rights is named
is_ends : (role : Role) → ((g : LineState) × (d : Option Block) × (role ≡ Ends g d)) ⊎ ((g : LineState) (d : Option Block) → role ≢ Ends g d)
is_ends (Ends g d) = inl (g, d, refl)
is_ends Aside = inr (λ g d e. absurd (cc))
is_ends (Told r k s) = inr (λ g d e. absurd (cc))
is_ends (Acking r k x) = inr (λ g d e. absurd (cc))
is_ends (Nacking r s) = inr (λ g d e. absurd (cc))
is_ends (Answered k) = inr (λ g d e. absurd (cc))
is_ends Refused = inr (λ g d e. absurd (cc))
is_ends (Asks a) = inr (λ g d e. absurd (cc))
is_ends Fails = inr (λ g d e. absurd (cc))

ends_granted : (c : Ctx) (h : ℕ) (st : Rights) (l : Local) (g : Ghost) (s : LineState) (d : Option Block) → l ≡ local_of g l.own → Part c h st g.role → g.role ≡ Ends s d → (c.busy ≡ Some (h, s)) × (l.done ≡ Some (true, d))
ends_granted c h st l g s d e p t = grind (arith, eq-eqb, eqb-true)

by_let_go : (k : Kind) (st : Rights) → let_go k st ≢ Nothing → st ≢ Nothing
by_let_go k st r = grind arith

not_ends : (role : Role) (st : Rights) → ((g : LineState) (d : Option Block) → role ≢ Ends g d) → rights role st ≢ Nothing → st ≢ Nothing
not_ends (Ends g d) st n r = absurd (n g d refl)
not_ends Aside st n r = r
not_ends (Told q k s) st n r = r
not_ends (Acking q k d) st n r = by_let_go k st r
not_ends (Nacking q s) st n r = r
not_ends (Answered k) st n r = by_let_go k st r
not_ends Refused st n r = r
not_ends (Asks a) st n r = r
not_ends Fails st n r = r

stands_named : (owner : Owner) (shares : Bool) (h : ℕ) → standing owner shares h ≢ Nothing → (owner ≡ Owned h) ⊎ ((owner ≡ Sticky h) ⊎ (shares ≡ true))
stands_named owner shares h e = grind (arith, eqb-true)

-- a hart that may hold something is named
pub named : (n : ℕ) (s : One) (b : Option (ℕ × LineState)) (a : Role) (cur : Block) (w : Option ℕ) (g : ℕ → Ghost) → Inv n b a cur w s g → (h : ℕ) → h < n → rights (g h).role (standing s.owner (s.sharers h) h) ≢ Nothing → Named s h
named n s b a cur w g v h o r = by_role (is_ends (g h).role)
  where
    widen : (s.owner ≡ Owned h) ⊎ ((s.owner ≡ Sticky h) ⊎ (s.sharers h ≡ true)) → Named s h
    widen (inl x) = inl x
    widen (inr (inl x)) = inr (inl x)
    widen (inr (inr x)) = inr (inr (inl x))

    by_role : ((x : LineState) × (d : Option Block) × ((g h).role ≡ Ends x d)) ⊎ ((x : LineState) (d : Option Block) → (g h).role ≢ Ends x d) → Named s h
    by_role (inl e) = let m = v.each h o in let y = ends_granted (ctx b a cur w s) h _ (s.hart h) (g h) e.0 e.1 m.is m.part e.2 in inr (inr (inr (e.0, (e.1, v.busy_is ∙ y.0, y.1))))
    by_role (inr f) = widen (stands_named s.owner (s.sharers h) h (not_ends (g h).role _ f r))

sticky_rights : (owner : Owner) (shares : Bool) (h q : ℕ) (role : Role) → owner ≡ Sticky q → ((g : LineState) (d : Option Block) → role ≢ Ends g d) → (rights role (standing owner shares h) ≡ Owns) ⊎ (rights role (standing owner shares h) ≡ Shares) → ⊥
sticky_rights owner shares h q role e n r = grind arith

some_rights : (rt : Rights) → (rt ≡ Owns) ⊎ (rt ≡ Shares) → rt ≢ Nothing
some_rights rt e = grind arith

module _ (n : ℕ) (s : One) (b : Option (ℕ × LineState)) (a : Role) (cur : Block) (w : Option ℕ) (g : ℕ → Ghost) (v : Inv n b a cur w s g) where
  abbrev c : Ctx
  c = ctx b a cur w s

  only : (h j : ℕ) → h < n → j < n → j ≢ h → enough Write (s.hart h).line ≡ true → (s.hart j).line ≡ Absent
  only h j o p d x = let m = v.each j p in absent_of _ cur (s.hart j) (g j) m.is m.line (sole_rights c h j (s.sharers j) (g j).role (alone n s b a cur w g v h o x) d m.part)

  sticky : (h q : ℕ) → h < n → s.owner ≡ Sticky q → (s.hart h).line ≢ Absent → (x : LineState) × IsGranted s h x
  sticky h q o e x = by_role (is_ends (g h).role)
    where
      by_role : ((y : LineState) × (d : Option Block) × ((g h).role ≡ Ends y d)) ⊎ ((y : LineState) (d : Option Block) → (g h).role ≢ Ends y d) → (y : LineState) × IsGranted s h y
      by_role (inl f) = let m = v.each h o in let y = ends_granted c h _ (s.hart h) (g h) f.0 f.1 m.is m.part f.2 in (f.0, (f.1, v.busy_is ∙ y.0, y.1))
      by_role (inr f) = let m = v.each h o in absurd (sticky_rights s.owner (s.sharers h) h q (g h).role e f (line_rights _ cur (s.hart h) (g h) m.is m.line x))

  -- all that is known of lines
  pub lines : Lines n s cur
  lines = record {
    only = only;
    owner = λ h o x. owner_is n s b a cur w g v ∙ sole_now s.owner b a h v.agree (alone n s b a cur w g v h o x);
    named = λ h o x. let m = v.each h o in named n s b a cur w g v h o (some_rights _ (line_rights _ cur (s.hart h) (g h) m.is m.line x));
    sticky = sticky;
    value = λ h x d m o f. let e = v.each h o in value_shown _ cur (s.hart h) (g h) x d m e.is e.line f;
  }
