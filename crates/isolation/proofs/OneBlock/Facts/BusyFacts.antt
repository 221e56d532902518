-- What the hart is at whose request a block is busy with, in every state that meets the invariant.
use Rattle.std.proofs.Common.{◌≡◌, ◌⊎◌, ◌<◌, ℕ, Bool, true, false, Option, None, Some, sym, subst, ◌∙◌, inl, inr, arith}
use Rattle.words.specs.declared.message.LineState.{LineState}
use Rattle.protocol.specs.Messages.{Block}
use Rattle.isolation.proofs.OneBlock.Model.State.{Wait, Local, One}
use Rattle.isolation.proofs.OneBlock.Invariant.Roles.{Ask, Role, Aside, Told, Acking, Nacking, Answered, Refused, Asks, Ends, Fails, Ghost, local_of}
use Rattle.isolation.proofs.OneBlock.Invariant.Each.{Agree, Wants, Good}
use Rattle.isolation.proofs.OneBlock.Rows.Ends.{wait_of, waiting}
use Rattle.isolation.proofs.OneBlock.Facts.InPlaceFacts.{asker_role}

-- it waits, and its Get has arrived; or its Done is in flight
abbrev pub IsServed : Local → Type 0
IsServed l = ((w : Wait) × (l.wait ≡ Some w) × (l.get ≡ None)) ⊎ ((d : Bool × Option Block) × (l.done ≡ Some d))

asks_no_get : (l : Local) (g : Ghost) (a : Ask) → l ≡ local_of g l.own → Wants g.role g.want g.keep → g.role ≡ Asks a → l.get ≡ None
asks_no_get l g a e w t = grind arith

ends_done : (l : Local) (g : Ghost) (x : LineState) (d : Option Block) → l ≡ local_of g l.own → g.role ≡ Ends x d → l.done ≡ Some (true, d)
ends_done l g x d e t = grind arith

fails_done : (l : Local) (g : Ghost) → l ≡ local_of g l.own → g.role ≡ Fails → l.done ≡ Some (false, None)
fails_done l g e t = grind arith

served : (b : ℕ × LineState) (a : Role) (l : Local) (g : Ghost) → Agree (Some b) a → l ≡ local_of g l.own → Wants g.role g.want g.keep → g.role ≡ a → IsServed l
served b (Asks a) l g k e w t = inl (wait_of a, waiting l g a e t, asks_no_get l g a e w t)
served b (Ends x d) l g k e w t = inr ((true, d), ends_done l g x d e t)
served b Fails l g k e w t = inr ((false, None), fails_done l g e t)
served b Aside l g k e w t = absurd k
served b (Told q j s) l g k e w t = absurd k
served b (Acking q j d) l g k e w t = absurd k
served b (Nacking q s) l g k e w t = absurd k
served b (Answered j) l g k e w t = absurd k
served b Refused l g k e w t = absurd k

-- so it is for the requester of each busy block, and that is one of the harts
pub busy_served : (n : ℕ) (s : One) → Good n s → (r : ℕ) (x : LineState) → s.busy ≡ Some (r, x) → (r < n) × IsServed (s.hart r)
busy_served n s g r x e =
    let b : g.busy ≡ Some (r, x) = sym g.inv.busy_is ∙ e in
    let o = g.inv.busy_in (r, x) b in
    let m = g.inv.each r o in
    (o, served (r, x) g.asker (s.hart r) (g.ghost r) (subst (λ z. Agree z g.asker) b g.inv.agree) m.is m.want (asker_role n s g.busy g.asker g.cur g.writer g.ghost g.inv r x b))
