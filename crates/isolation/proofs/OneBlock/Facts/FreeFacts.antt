-- Where a message is sent, none of its sort is out, in every state that meets the invariant.
use Rattle.std.proofs.Common.{◌≡◌, ◌≢◌, ℕ, Bool, false, Option, None, Some, sym, ◌∙◌, subst, arith}
use Rattle.words.specs.declared.message.LineState.{LineState}
use Rattle.protocol.specs.Messages.{Block, Granted}
use Rattle.isolation.proofs.OneBlock.Model.State.{Absent, Fwd, Local, One}
use Rattle.isolation.proofs.OneBlock.Model.Directory.{Rights, standing}
use Rattle.isolation.proofs.OneBlock.Invariant.Roles.{Ask, Role, Asks, Ghost, local_of}
use Rattle.isolation.proofs.OneBlock.Invariant.Parts.{Ctx, Part}
use Rattle.isolation.proofs.OneBlock.Invariant.Laws.{Free}
use Rattle.isolation.proofs.OneBlock.Invariant.Each.{ctx, Inv}
use Rattle.isolation.proofs.OneBlock.Rows.Senders.{Found, acking, nacking, ack_found, nack_found}
use Rattle.isolation.proofs.OneBlock.Steps.KeepsMessages.{asking, found_asks}
use Rattle.isolation.proofs.OneBlock.Facts.InPlaceFacts.{asker_role}

no_get : (l : Local) (g : Ghost) → l ≡ local_of g l.own → l.wait ≡ None → l.get ≡ None
no_get l g e w = grind arith

no_puts : (l : Local) (g : Ghost) → l ≡ local_of g l.own → l.line ≢ Absent → (l.puts ≡ None) × (l.put ≡ None)
no_puts l g e w = grind arith

no_answer : (l : Local) (g : Ghost) (f : Fwd) → l ≡ local_of g l.own → l.fwd ≡ Some f → (l.ack ≡ None) × (l.nack ≡ None)
no_answer l g f e w = grind arith

no_put_ack : (l : Local) (g : Ghost) (x : Block × Bool) → l ≡ local_of g l.own → l.puts ≡ Some x → l.put_ack ≡ false
no_put_ack l g x e w = grind arith

no_part : (c : Ctx) (h : ℕ) (st : Rights) (l : Local) (g : Ghost) → l ≡ local_of g l.own → Part c h st g.role → c.busy ≡ None → (l.grant ≡ None) × (l.fwd ≡ None)
no_part c h st l g e p b = grind arith

no_done : (l : Local) (g : Ghost) (x : Granted) → l ≡ local_of g l.own → l.grant ≡ Some x → l.done ≡ None
no_done l g x e w = grind arith

asks_no_done : (l : Local) (g : Ghost) (k : Ask) → l ≡ local_of g l.own → g.role ≡ Asks k → l.done ≡ None
asks_no_done l g k e t = grind arith

module _ (n : ℕ) (s : One) (b : Option (ℕ × LineState)) (a : Role) (cur : Block) (w : Option ℕ) (g : ℕ → Ghost) (v : Inv n b a cur w s g) where
  abbrev c : Ctx
  c = ctx b a cur w s

  by_found : (h r : ℕ) (st : Rights) → Found b a h r st → (s.hart r).done ≡ None
  by_found h r st f =
      let p = asking b a r (found_asks b a h r st f) in
      asks_no_done (s.hart r) (g r) p.1 (v.each r (v.busy_in _ p.2)).is (asker_role n s b a cur w g v r p.0 p.2 ∙ p.3)

  -- each place that is sent to
  pub free : Free n s
  free = record {
    get = λ h o x. no_get (s.hart h) (g h) (v.each h o).is x;
    puts = λ h o x. no_puts (s.hart h) (g h) (v.each h o).is x;
    answer = λ h f o x. no_answer (s.hart h) (g h) f (v.each h o).is x;
    put_ack = λ h x o f. no_put_ack (s.hart h) (g h) x (v.each h o).is f;
    idle = λ h o x. no_part c h (standing s.owner (s.sharers h) h) (s.hart h) (g h) (v.each h o).is (v.each h o).part (sym v.busy_is ∙ x);
    granted = λ h x o f. no_done (s.hart h) (g h) x (v.each h o).is f;
    acked = λ h r d o x. let m = v.each h o in let st = standing s.owner (s.sharers h) h in let t = acking c h st (s.hart h) (g h) r d m.is m.part x in by_found h r st (ack_found c h st r t.0 d v.agree (subst (Part c h st) t.1 m.part));
    nacked = λ h r d o x. let m = v.each h o in let st = standing s.owner (s.sharers h) h in let t = nacking c h st (s.hart h) (g h) r d m.is m.part x in by_found h r st (nack_found c h st r d v.agree (subst (Part c h st) t m.part));
  }
