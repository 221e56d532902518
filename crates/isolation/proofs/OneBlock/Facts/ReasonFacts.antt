-- Refusals and aborts by conflict have their reasons, in every state that meets the invariant.
use Rattle.std.proofs.Common.{◌≡◌, ◌≢◌, ◌<◌, ℕ, List, Bool, true, false, Option, Some, refl, sym, ap, ◌∙◌, subst, inl, inr, arith}
use Rattle.words.specs.declared.stamp.Stamp.{Stamp}
use Rattle.words.specs.declared.message.Kind.{Kind}
use Rattle.words.specs.declared.message.Kind.TheVariants.{Write}
use Rattle.words.specs.declared.message.LineState.{LineState}
use Rattle.protocol.specs.Messages.{Block}
use Rattle.words.specs.declared.marks.Marks.{Marks}
use Rattle.words.specs.Marks.{is_marked}
use Rattle.isolation.proofs.OneBlock.Model.State.{Copy, Has, Wait, Tx, Outside, Aborting, Own, Fwd, Local, One}
use Rattle.isolation.proofs.OneBlock.Model.Core.{Due}
use Rattle.isolation.proofs.OneBlock.Model.Messages.{refuses}
use Rattle.isolation.proofs.OneBlock.Model.Directory.{Rights, Sticks, standing, must_tell}
use Rattle.isolation.proofs.OneBlock.Invariant.Roles.{Ask, Role, Told, Asks, Ghost, local_of, line_of}
use Rattle.isolation.proofs.OneBlock.Invariant.Parts.{Goes, OwnFits, Ctx, Part, PartOf}
use Rattle.isolation.proofs.OneBlock.Invariant.Laws.{Reason, Reasons}
use Rattle.isolation.proofs.OneBlock.Invariant.Each.{Why, Cover, Sound, ctx, Inv}
use Rattle.isolation.proofs.OneBlock.Rows.ValueStays.{line_is}
use Rattle.isolation.proofs.OneBlock.Rows.ValueStaysRows.{told}
use Rattle.isolation.proofs.OneBlock.Rows.Answers.{standings}
use Rattle.isolation.proofs.OneBlock.Rows.Senders.{told_found}
use Rattle.isolation.proofs.OneBlock.Rows.Ends.{Ready, ready, undo_sticks, sticks_apart}
use Rattle.isolation.proofs.OneBlock.Steps.FromOneHart.{refine}
use Rattle.isolation.proofs.OneBlock.Steps.KeepsMessages.{asking, found_asks, found_apart, found_tells}

due_access : (t : Tx) (k : Kind) (x : Option Kind) (xs : List Block) → Due t k x xs → t ≢ Aborting → x ≡ Some k
due_access t k x xs d n = grind arith

goes_of : (r : ℕ) (x : LineState) (a : Ask) (cur : Block) (h : ℕ) (st : Rights) (q : ℕ) (k : Kind) (y : Option Stamp) → h ≢ r → PartOf (Some (r, x)) (Asks a) cur h st (Told q k y) → Goes x k
goes_of r x a cur h st q k y n p = grind arith

same_kind : (x : LineState) (st : Rights) (k j : Kind) → Goes x k → OwnFits x st j → st ≢ Sticks → j ≡ k
same_kind x st k j g f n = grind arith

reason_of : (rt : Rights) (f : Fwd) (x : Copy) (o : Own) → Cover rt x o → Sound o → refuses x o.overflow f.kind ≡ true → o.in_w ≡ false → o.spilled ≡ false → (f.kind ≡ Write) × (o.in_r ≡ true)
reason_of rt f x o v s r i j = grind arith

by_reason : (f : Fwd) (o : Own) → (o.in_w ≡ false → o.spilled ≡ false → (f.kind ≡ Write) × (o.in_r ≡ true)) → Reason f o
by_reason f o e = go o.in_w o.spilled refl refl
  where
    go : (x y : Bool) → o.in_w ≡ x → o.spilled ≡ y → Reason f o
    go true y p q = inl p
    go false true p q = inr (inr q)
    go false false p q = inr (inl (e p q))

module _ (n : ℕ) (s : One) (r : ℕ) (x : LineState) (a : Ask) (cur : Block) (w : Option ℕ) (g : ℕ → Ghost) (v : Inv n (Some (r, x)) (Asks a) cur w s g) (o : r < n) where
  abbrev mine : Rights
  mine = standing s.owner (s.sharers r) r

  ready_now : Ready mine cur x a (g r).keep (s.hart r).own
  ready_now = ready (ctx (Some (r, x)) (Asks a) cur w s) (s.sharers r) r (s.hart r) (g r) x a (v.each r o)

  module _ (h : ℕ) (p : h < n) (d : h ≢ r) (m : must_tell x (standing s.owner (s.sharers h) h) ≡ true) where
    not_sticky : mine ≢ Sticks
    not_sticky e = sticks_apart mine (standing s.owner (s.sharers h) h) x e (standings s.owner (s.sharers r) (s.sharers h) r h (λ z. d (sym z))) m

    not_aborting : (s.hart r).own.tx ≢ Aborting
    not_aborting t = not_sticky (undo_sticks mine x a cur s.flat w r (g r).keep (s.hart r).own ready_now (v.each r o).logs t)

    accesses_it : (k : Kind) (y : Option Stamp) → (g h).role ≡ Told r k y → (s.hart r).own.access ≡ Some k
    accesses_it k y t =
        let goes = goes_of r x a cur h (standing s.owner (s.sharers h) h) r k y d (subst (PartOf (Some (r, x)) (Asks a) cur h (standing s.owner (s.sharers h) h)) t (v.each h p).part) in
        due_access (s.hart r).own.tx a.kind (s.hart r).own.access (s.hart r).own.images ready_now.why.3 not_aborting ∙ ap Some (same_kind x mine k a.kind goes ready_now.fits not_sticky)

refuser_in : (rt : Rights) (x : Copy) (o : Own) (k : Kind) → Cover rt x o → Sound o → refuses x o.overflow k ≡ true → o.tx ≢ Outside
refuser_in rt x o k v s r = grind arith

marked_in : (rt : Rights) (x : Copy) (o : Own) (s : LineState) (d : Block) (m : Marks) → Cover rt x o → Sound o → x ≡ Has s d m → is_marked m ≡ true → o.tx ≢ Outside
marked_in rt x o s d m v z e a = grind arith

early_of : (l : Local) (g : Ghost) (w : Wait) → l ≡ local_of g l.own → Why g.role g.want l.own → l.wait ≡ Some w → w.early ≡ true → l.own.noted ≡ true
early_of l g w e y f t = grind arith

asks_of : (l : Local) (g : Ghost) (w : Wait) → l ≡ local_of g l.own → Why g.role g.want l.own → l.wait ≡ Some w → l.own.tx ≡ Aborting → w.refused ≡ false
asks_of l g w e y f t = grind arith

module _ (n : ℕ) (s : One) (b : Option (ℕ × LineState)) (a : Role) (cur : Block) (w : Option ℕ) (g : ℕ → Ghost) (v : Inv n b a cur w s g) where
  abbrev c : Ctx
  c = ctx b a cur w s

  told_by : (h : ℕ) (f : Fwd) → h < n → (s.hart h).fwd ≡ Some f → ((s.hart f.requester).own.access ≡ Some f.kind) × ((s.hart f.requester).own.tx ≢ Aborting)
  told_by h f o x =
      let e = v.each h o in
      let st = standing s.owner (s.sharers h) h in
      let t = told c (s.sharers h) h (s.hart h) (g h) f e x in
      let u = told_found c h st f.requester f.kind f.stamp v.agree (subst (Part c h st) t e.part) in
      let p = asking b a f.requester (found_asks b a h f.requester st u) in
      let z = refine n s b _ a _ cur w g p.2 p.3 v in
      let q = v.busy_in _ p.2 in
      let d = found_apart b a h f.requester st u in
      let m = found_tells b a h f.requester st p.0 u p.2 in
      (accesses_it n s f.requester p.0 p.1 cur w g z q h o d m f.kind f.stamp t, not_aborting n s f.requester p.0 p.1 cur w g z q h o d m)

  -- what is known of undos, refusals and aborts
  pub reasons : Reasons n s
  reasons = record {
    undo = λ h j f o p t x e z. (told_by j f p e).1 (subst (λ q. (s.hart q).own.tx ≡ Aborting) (sym z) t);
    refused = λ h x o t f. let e = v.each h o in asks_of (s.hart h) (g h) x e.is e.why f t;
    early = λ h x o f t. let e = v.each h o in early_of (s.hart h) (g h) x e.is e.why f t;
    outside = λ h o t. let z = (v.each h o).sound.outside t in (z.1, z.0, z.3, z.4);
    refuser = λ h k o y. let e = v.each h o in refuser_in _ (line_of (g h).keep) (s.hart h).own k e.cover e.sound (subst (λ q. refuses q (s.hart h).own.overflow k ≡ true) (line_is (s.hart h) (g h) e.is) y);
    marks = λ h x d m o y z. let e = v.each h o in marked_in _ (line_of (g h).keep) (s.hart h).own x d m e.cover e.sound (sym (line_is (s.hart h) (g h) e.is) ∙ y) z;
    refusal = λ h f o x y. let e = v.each h o in let z = told_by h f o x in (z.0, z.1, by_reason f (s.hart h).own (reason_of _ f (line_of (g h).keep) (s.hart h).own e.cover e.sound (subst (λ q. refuses q (s.hart h).own.overflow f.kind ≡ true) (line_is (s.hart h) (g h) e.is) y)));
    cycle = λ h o e. (v.each h o).sound.flagged e;
    conflict = λ h o e. (v.each h o).sound.clash e;
  }
