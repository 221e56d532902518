-- Who acknowledged a request has given up what it may not keep, in every state that meets the invariant.
use Rattle.std.proofs.Common.{◌≡◌, ◌≢◌, ◌<◌, ℕ, true, false, Option, Some, sym, ◌∙◌, subst, arith}
use Rattle.words.specs.declared.message.Kind.{Kind}
use Rattle.words.specs.declared.message.LineState.{LineState}
use Rattle.words.specs.declared.message.LineState.TheVariants.{Shared, Exclusive, Modified}
use Rattle.protocol.specs.Messages.{Block}
use Rattle.isolation.proofs.OneBlock.Model.State.{Wait, Local, One}
use Rattle.isolation.proofs.OneBlock.Model.Directory.{Rights, Owns, Shares, Sticks, Nothing, standing}
use Rattle.isolation.proofs.OneBlock.Invariant.Roles.{Role, Aside, Told, Acking, Nacking, Answered, Refused, Asks, Ends, Fails, Ghost, local_of, line_of, rights}
use Rattle.isolation.proofs.OneBlock.Invariant.Parts.{LineOk, Ctx, Part}
use Rattle.isolation.proofs.OneBlock.Invariant.Laws.{GaveUp, Acknowledged}
use Rattle.isolation.proofs.OneBlock.Invariant.Each.{Cover, ctx, Inv}
use Rattle.isolation.proofs.OneBlock.Rows.Senders.{acking}
use Rattle.isolation.proofs.OneBlock.Rows.Dones.{Ended, done_ends}
use Rattle.isolation.proofs.OneBlock.Facts.InPlaceFacts.{asker_role}

-- what a hart may still hold beside a requester that is given this
abbrev LetGo : LineState → Rights → Type 0
LetGo Shared Nothing = Unit {0}
LetGo Shared Shares = Unit {0}
LetGo Shared Owns = ⊥
LetGo Shared Sticks = ⊥
LetGo Exclusive Nothing = Unit {0}
LetGo Exclusive Owns = ⊥
LetGo Exclusive Shares = ⊥
LetGo Exclusive Sticks = ⊥
LetGo Modified Nothing = Unit {0}
LetGo Modified Owns = ⊥
LetGo Modified Shares = ⊥
LetGo Modified Sticks = ⊥

gave_up : (rt : Rights) (cur : Block) (x : LineState) (l : Local) (g : Ghost) → l ≡ local_of g l.own → LetGo x rt → LineOk rt cur g.keep → Cover rt (line_of g.keep) l.own → GaveUp x l
gave_up rt cur x l g e z m v = grind arith

sent_lets : (c : Ctx) (h : ℕ) (st : Rights) (role : Role) (r : ℕ) (k : Kind) (d : Option Block) (x : LineState) → Part c h st role → role ≡ Acking r k d → c.busy ≡ Some (r, x) → LetGo x (rights role st)
sent_lets c h st role r k d x p t e = grind arith

-- the requester that kept an acknowledgement of h, and no refusal
abbrev AsksWith : ℕ → Role → Type 0
AsksWith h (Asks a) = (a.from h ≡ true) × (a.nay ≡ false)
AsksWith h Aside = ⊥
AsksWith h (Told r k s) = ⊥
AsksWith h (Acking r k d) = ⊥
AsksWith h (Nacking r s) = ⊥
AsksWith h (Answered k) = ⊥
AsksWith h Refused = ⊥
AsksWith h (Ends g d) = ⊥
AsksWith h Fails = ⊥

asks_with : (l : Local) (g : Ghost) (w : Wait) (h : ℕ) → l ≡ local_of g l.own → l.wait ≡ Some w → w.from h ≡ true → w.refused ≡ false → AsksWith h g.role
asks_with l g w h e x f z = grind arith

kept_lets : (c : Ctx) (h r : ℕ) (x : LineState) (st : Rights) (role : Role) → c.busy ≡ Some (r, x) → AsksWith h c.asker → h ≢ r → Part c h st role → LetGo x (rights role st)
kept_lets c h r x st role e k n p = grind arith

ended_lets : (c : Ctx) (h r : ℕ) (x : LineState) (d : Option Block) (st : Rights) (role : Role) → c.busy ≡ Some (r, x) → Ended true d c.busy c.asker r → h ≢ r → Part c h st role → LetGo x (rights role st)
ended_lets c h r x d st role e k n p = grind arith

module _ (n : ℕ) (s : One) (b : Option (ℕ × LineState)) (a : Role) (cur : Block) (w : Option ℕ) (g : ℕ → Ghost) (v : Inv n b a cur w s g) where
  abbrev c : Ctx
  c = ctx b a cur w s

  gives_up : (h : ℕ) (x : LineState) → h < n → LetGo x (rights (g h).role (standing s.owner (s.sharers h) h)) → GaveUp x (s.hart h)
  gives_up h x o z = let m = v.each h o in gave_up _ cur x (s.hart h) (g h) m.is z m.line m.cover

  -- whoever acknowledged: its Ack is in flight, or kept, or the request was granted
  pub acknowledged : Acknowledged n s
  acknowledged = record {
    sent = λ h r d x o f e. let m = v.each h o in let t = acking c h _ (s.hart h) (g h) r d m.is m.part f in gives_up h x o (sent_lets c h _ (g h).role r t.0 d x m.part t.1 (sym v.busy_is ∙ e));
    kept = λ h r x y o p q e f t z. let d = sym v.busy_is ∙ e in gives_up h x o (kept_lets c h r x _ (g h).role d (subst (AsksWith h) (asker_role n s b a cur w g v r x d) (asks_with (s.hart r) (g r) y h (v.each r p).is f t z)) q (v.each h o).part);
    ended = λ h r x d o p q e f. let m = v.each r p in let y = sym v.busy_is ∙ e in gives_up h x o (ended_lets c h r x d _ (g h).role y (done_ends c r _ (s.hart r) (g r) true d m.is m.part f) q (v.each h o).part);
  }
