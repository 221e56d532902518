-- The read and write sets, in every state that meets the invariant.
use Rattle.std.proofs.Common.{◌≡◌, ◌≢◌, ◌⊎◌, ◌<◌, ℕ, Bool, true, Option, Some, ap, ◌∙◌, inl, inr, arith}
use Rattle.std.proofs.lemmas.Bool.{cases_eq, eq-eqb, eqb-true}
use Rattle.words.specs.declared.message.LineState.{LineState}
use Rattle.protocol.specs.Messages.{Block}
use Rattle.protocol.specs.Directory.{Owner, Nobody, Owned, Sticky}
use Rattle.isolation.proofs.OneBlock.Model.State.{Copy, Own, One}
use Rattle.isolation.proofs.OneBlock.Model.Directory.{Rights, Owns, Sticks, Nothing, standing}
use Rattle.isolation.proofs.OneBlock.Invariant.Roles.{Role, Keep, Ghost, line_of, rights}
use Rattle.isolation.proofs.OneBlock.Invariant.Parts.{LineOk, PartOf}
use Rattle.isolation.proofs.OneBlock.Invariant.Laws.{owner_now, ReadMarked, WriteMarked, Sets}
use Rattle.isolation.proofs.OneBlock.Invariant.Each.{Cover, Inv}
use Rattle.isolation.proofs.OneBlock.Rows.ValueStays.{line_is}
use Rattle.isolation.proofs.OneBlock.Facts.InPlaceFacts.{owner_of, owner_is}
use Rattle.isolation.proofs.OneBlock.Facts.LineFacts.{named}

read_marked : (rt : Rights) (cur : Block) (x : Copy) (keep : Keep) (o : Own) → x ≡ line_of keep → LineOk rt cur keep → Cover rt (line_of keep) o → o.in_r ≡ true → ReadMarked x o.overflow
read_marked rt cur x keep o e l v r = grind arith

write_marked : (rt : Rights) (cur : Block) (x : Copy) (keep : Keep) (o : Own) → x ≡ line_of keep → LineOk rt cur keep → Cover rt (line_of keep) o → o.in_w ≡ true → WriteMarked x o.overflow
write_marked rt cur x keep o e l v r = grind arith

read_rights : (rt : Rights) (x : Copy) (o : Own) → Cover rt x o → o.in_r ≡ true → rt ≢ Nothing
read_rights rt x o v r = grind arith

pub write_rights : (rt : Rights) (x : Copy) (o : Own) → Cover rt x o → o.in_w ≡ true → (rt ≡ Owns) ⊎ (rt ≡ Sticks)
write_rights rt x o v r = grind arith

-- a hart that wrote is the entry's owner, or will be
wrote_owner : (b : Option (ℕ × LineState)) (a : Role) (cur : Block) (owner : Owner) (shares : Bool) (h : ℕ) (role : Role) → PartOf b a cur h (standing owner shares h) role → (rights role (standing owner shares h) ≡ Owns) ⊎ (rights role (standing owner shares h) ≡ Sticks) → owner ≢ Owned h → owner ≢ Sticky h → owner_of b a owner ≡ Some h
wrote_owner b a cur owner shares h role p r x y = grind (arith, eq-eqb, eqb-true)

owner_or : (owner : Owner) (h : ℕ) → (owner ≡ Owned h) ⊎ ((owner ≡ Sticky h) ⊎ ((owner ≢ Owned h) × (owner ≢ Sticky h)))
owner_or Nobody h = inr (inr (λ e. absurd (cc), λ e. absurd (cc)))
owner_or (Owned o) h = go (cases_eq o h)
  where
    go : ((o ≡ h) ⊎ (o ≡ h → ⊥)) → (Owned o ≡ Owned h) ⊎ ((Owned o ≡ Sticky h) ⊎ ((Owned o ≢ Owned h) × (Owned o ≢ Sticky h)))
    go (inl e) = inl (ap Owned e)
    go (inr e) = inr (inr (λ f. e (cc), λ f. absurd (cc)))
owner_or (Sticky o) h = go (cases_eq o h)
  where
    go : ((o ≡ h) ⊎ (o ≡ h → ⊥)) → (Sticky o ≡ Owned h) ⊎ ((Sticky o ≡ Sticky h) ⊎ ((Sticky o ≢ Owned h) × (Sticky o ≢ Sticky h)))
    go (inl e) = inr (inl (ap Sticky e))
    go (inr e) = inr (inr (λ f. absurd (cc), λ f. e (cc)))

module _ (n : ℕ) (s : One) (b : Option (ℕ × LineState)) (a : Role) (cur : Block) (w : Option ℕ) (g : ℕ → Ghost) (v : Inv n b a cur w s g) where
  owner_named : (h : ℕ) → (o : h < n) → (s.hart h).own.in_w ≡ true → (s.owner ≡ Owned h) ⊎ ((s.owner ≡ Sticky h) ⊎ (owner_now s ≡ Some h))
  owner_named h o x = go (owner_or s.owner h)
    where
      go : (s.owner ≡ Owned h) ⊎ ((s.owner ≡ Sticky h) ⊎ ((s.owner ≢ Owned h) × (s.owner ≢ Sticky h))) → (s.owner ≡ Owned h) ⊎ ((s.owner ≡ Sticky h) ⊎ (owner_now s ≡ Some h))
      go (inl e) = inl e
      go (inr (inl e)) = inr (inl e)
      go (inr (inr e)) = let m = v.each h o in inr (inr (owner_is n s b a cur w g v ∙ wrote_owner b a cur s.owner (s.sharers h) h (g h).role m.part (write_rights _ _ _ m.cover x) e.0 e.1))

  -- what covers both sets
  pub sets : Sets n s
  sets = record {
    reads = λ h o x. let m = v.each h o in (read_marked _ cur (s.hart h).line (g h).keep (s.hart h).own (line_is (s.hart h) (g h) m.is) m.line m.cover x, named n s b a cur w g v h o (read_rights _ _ _ m.cover x));
    stores = λ h o x. let m = v.each h o in (write_marked _ cur (s.hart h).line (g h).keep (s.hart h).own (line_is (s.hart h) (g h) m.is) m.line m.cover x, owner_named h o x);
  }
