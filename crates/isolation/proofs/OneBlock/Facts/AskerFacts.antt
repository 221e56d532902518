-- What a Grant, a Forward, an Ack or a Nack tells of the requester, in every state that meets the invariant.
use Rattle.std.proofs.Common.{◌≡◌, ◌≢◌, ◌<◌, ℕ, true, Option, Some, sym, subst, ◌∙◌, arith}
use Rattle.std.proofs.lemmas.Bool.{eqb-true}
use Rattle.words.specs.declared.stamp.Stamp.{Stamp}
use Rattle.words.specs.declared.message.LineState.{LineState}
use Rattle.protocol.specs.Messages.{Block, Granted}
use Rattle.isolation.proofs.OneBlock.Model.State.{sooner, Fwd, Local, One}
use Rattle.isolation.proofs.OneBlock.Model.Directory.{Rights, standing}
use Rattle.isolation.proofs.OneBlock.Invariant.Roles.{Role, Asks, Ghost, local_of}
use Rattle.isolation.proofs.OneBlock.Invariant.Parts.{Ctx, Part, PartOf}
use Rattle.isolation.proofs.OneBlock.Invariant.Laws.{Asked, Denied, Askers}
use Rattle.isolation.proofs.OneBlock.Invariant.Each.{Agree, ctx, Inv}
use Rattle.isolation.proofs.OneBlock.Rows.ValueStaysRows.{told}
use Rattle.isolation.proofs.OneBlock.Rows.Answers.{asker_is, standings}
use Rattle.isolation.proofs.OneBlock.Rows.Senders.{asks_stamp, told_stamp, acking, nacking, told_found, ack_found, nack_found, nack_noted}
use Rattle.isolation.proofs.OneBlock.Rows.Ends.{wait_of, waiting, ready, undo_sticks, sticks_apart}
use Rattle.isolation.proofs.OneBlock.Steps.FromOneHart.{refine}
use Rattle.isolation.proofs.OneBlock.Steps.KeepsMessages.{asking, found_asks, found_apart, found_tells}

gives_noted : (c : Ctx) (h : ℕ) (st : Rights) (l : Local) (g : Ghost) (x : Granted) → l ≡ local_of g l.own → Part c h st g.role → Agree c.busy c.asker → l.grant ≡ Some x → c.busy ≡ Some (h, x.give)
gives_noted c h st l g x e p a f = grind (arith, eqb-true)

module _ (n : ℕ) (s : One) (b : Option (ℕ × LineState)) (a : Role) (cur : Block) (w : Option ℕ) (g : ℕ → Ghost) (v : Inv n b a cur w s g) where
  abbrev c : Ctx
  c = ctx b a cur w s

  abbrev at : ℕ → Rights
  at h = standing s.owner (s.sharers h) h

  asked : (h : ℕ) (f : Fwd) → h < n → (s.hart h).fwd ≡ Some f → Asked n s h f
  asked h f o x =
      let e = v.each h o in
      let t = told c (s.sharers h) h (s.hart h) (g h) f e x in
      let u = told_found c h (at h) f.requester f.kind f.stamp v.agree (subst (Part c h (at h)) t e.part) in
      let p = asking b a f.requester (found_asks b a h f.requester (at h) u) in
      let z = refine n s b _ a _ cur w g p.2 p.3 v in
      let q = v.busy_in _ p.2 in
      let d = found_apart b a h f.requester (at h) u in
      let i = z.each f.requester q in
      record {
        apart = d;
        within = q;
        stamp = told_stamp f.requester p.0 p.1 cur h (at h) f.requester f.kind f.stamp d (subst (PartOf (Some (f.requester, p.0)) (Asks p.1) cur h (at h)) t (z.each h o).part)
            ∙ sym (asks_stamp (ctx (Some (f.requester, p.0)) (Asks p.1) cur w s) (s.sharers f.requester) f.requester (s.hart f.requester) (g f.requester) p.0 p.1 i);
        waits = (wait_of p.1, waiting (s.hart f.requester) (g f.requester) p.1 i.is (asker_is f.requester p.0 (Asks p.1) cur (at f.requester) (g f.requester).role i.part));
      }

  ack_apart : (h r : ℕ) (d : Option Block) → h < n → (s.hart h).ack ≡ Some (r, d) → h ≢ r
  ack_apart h r d o x =
      let e = v.each h o in
      let t = acking c h (at h) (s.hart h) (g h) r d e.is e.part x in
      found_apart b a h r (at h) (ack_found c h (at h) r t.0 d v.agree (subst (Part c h (at h)) t.1 e.part))

  denied : (h r : ℕ) (y : Option Stamp) → h < n → (s.hart h).nack ≡ Some (r, y) → Denied s h r y
  denied h r y o x =
      let e = v.each h o in
      let t = nacking c h (at h) (s.hart h) (g h) r y e.is e.part x in
      let u = nack_found c h (at h) r y v.agree (subst (Part c h (at h)) t e.part) in
      let p = asking b a r (found_asks b a h r (at h) u) in
      let z = refine n s b _ a _ cur w g p.2 p.3 v in
      let q = v.busy_in _ p.2 in
      let d = found_apart b a h r (at h) u in
      let i = z.each r q in
      let k = ready (ctx (Some (r, p.0)) (Asks p.1) cur w s) (s.sharers r) r (s.hart r) (g r) p.0 p.1 i in
      record {
        apart = d;
        ran = λ m. sticks_apart (at r) (at h) p.0 (undo_sticks (at r) p.0 p.1 cur s.flat w r (g r).keep (s.hart r).own k i.logs m) (standings s.owner (s.sharers r) (s.sharers h) r h (λ j. d (sym j))) (found_tells b a h r (at h) p.0 u p.2);
        noted = λ m. k.why.1 ∙ nack_noted r p.0 p.1 cur h (at h) r y d (subst (PartOf (Some (r, p.0)) (Asks p.1) cur h (at h)) t (z.each h o).part) (subst (λ j. sooner y j ≡ true) k.why.0 m);
      }

  -- what each message tells
  pub askers : Askers n s
  askers = record {
    grant = λ h x o f. let m = v.each h o in v.busy_is ∙ gives_noted c h (at h) (s.hart h) (g h) x m.is m.part v.agree f;
    fwd = asked;
    ack = ack_apart;
    nack = denied;
  }
