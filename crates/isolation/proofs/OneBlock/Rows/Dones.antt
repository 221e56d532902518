-- A Done comes to the directory. r is the requester, who was given s.
use Rattle.std.proofs.Common.{◌≡◌, ◌≢◌, ℕ, Bool, true, false, Option, None, Some, refl, sym, subst, arith}
use Rattle.words.specs.declared.stamp.Stamp.{Stamp}
use Rattle.words.specs.declared.message.Kind.{Kind}
use Rattle.words.specs.declared.message.LineState.{LineState}
use Rattle.protocol.specs.Messages.{Block}
use Rattle.protocol.specs.Directory.{Owner}
use Rattle.isolation.proofs.OneBlock.Model.State.{Copy, Own, Local}
use Rattle.isolation.proofs.OneBlock.Model.Directory.{Rights, standing, take_done, owner_after, sharer_after, memory_after}
use Rattle.isolation.proofs.OneBlock.Invariant.Roles.{Role, Aside, Told, Acking, Nacking, Answered, Refused, Asks, Ends, Fails, Keep, Ghost, local_of, line_of, given, rights, settled}
use Rattle.isolation.proofs.OneBlock.Invariant.Parts.{LineOk, PutOk, Ctx, Part, PartOf}
use Rattle.isolation.proofs.OneBlock.Invariant.Each.{Wants, Why, Cover, Lone, Center, Each}
use Rattle.isolation.proofs.OneBlock.Rows.Answers.{busy_with, asker_is}

abbrev pub done_ctx : ℕ → LineState → Option Block → Ctx → Ctx
done_ctx r s d c = record { cur = c.cur; mem = c.mem; memory = memory_after s c.owner d c.memory; owner = owner_after r s; busy = None; asker = Aside; writer = c.writer }

abbrev pub over : Ghost → Ghost
over g = record g { role = Aside }

done_is : (l : Local) (g : Ghost) (s : LineState) (d : Option Block) → l ≡ local_of g l.own → g.role ≡ Ends s d → take_done l ≡ local_of (over g) l.own
done_is l g s d e t = grind arith

done_standing : (owner : Owner) (shares : Bool) (r : ℕ) (s : LineState) → standing (owner_after r s) (sharer_after owner r s r shares) r ≡ given s
done_standing owner shares r s = grind arith

-- an owner leaves no sharers
pub done_lone : (owner : Owner) (shares : Bool) (r h : ℕ) (s : LineState) → Lone (owner_after r s) (sharer_after owner r s h shares)
done_lone owner shares r h s = grind arith

pub done_row : (c : Ctx) (shares : Bool) (r : ℕ) (l : Local) (g : Ghost) (s : LineState) (d : Option Block) → Each (busy_with r s (Ends s d) c) shares r l g → Each (done_ctx r s d c) (sharer_after c.owner r s r shares) r (take_done l) (over g)
done_row c shares r l g s d e =
    let st = standing c.owner shares r in
    let t = asker_is r s (Ends s d) c.cur st g.role e.part in
    let z = sym (done_standing c.owner shares r s) in
    record {
      is = done_is l g s d e.is t;
      line = subst (λ q. LineOk q c.cur g.keep) z (subst (λ x. LineOk (rights x st) c.cur g.keep) t e.line);
      put = subst (λ q. PutOk q c.cur g.keep) z (subst (λ x. PutOk (settled (Ends s d) x st) c.cur g.keep) t e.put);
      part = refl;
      want = subst (λ x. Wants x g.want g.keep) t e.want;
      why = subst (λ x. Why x g.want l.own) t e.why;
      cover = subst (λ q. Cover q (line_of g.keep) l.own) z (subst (λ x. Cover (rights x st) (line_of g.keep) l.own) t e.cover);
      logs = e.logs;
      sound = e.sound;
      marked = e.marked;
    }

-- at a Done another hart has acknowledged, or has no part
abbrev pub IsOver : Role → Type 0
IsOver Aside = Unit {0}
IsOver (Answered k) = Unit {0}
IsOver Refused = Unit {0}
IsOver (Told r k s) = ⊥
IsOver (Acking r k d) = ⊥
IsOver (Nacking r s) = ⊥
IsOver (Asks a) = ⊥
IsOver (Ends g d) = ⊥
IsOver Fails = ⊥

done_over : (r : ℕ) (s : LineState) (d : Option Block) (cur : Block) (j : ℕ) (st : Rights) (role : Role) → j ≢ r → PartOf (Some (r, s)) (Ends s d) cur j st role → IsOver role
done_over r s d cur j st role n p = grind arith

over_is : (l : Local) (g : Ghost) → IsOver g.role → l ≡ local_of g l.own → l ≡ local_of (over g) l.own
over_is l g o e = grind arith

over_wants : (role : Role) (w : Option (Kind × Option Stamp)) (k : Keep) → IsOver role → Wants role w k → Wants Aside w k
over_wants role w k o e = grind arith

over_why : (role : Role) (w : Option (Kind × Option Stamp)) (q : Own) → IsOver role → Why role w q → Why Aside w q
over_why role w q o e = grind arith

done_rights : (owner : Owner) (shares : Bool) (r : ℕ) (s : LineState) (d : Option Block) (cur : Block) (j : ℕ) (role : Role) → j ≢ r → PartOf (Some (r, s)) (Ends s d) cur j (standing owner shares j) role → rights role (standing owner shares j) ≡ standing (owner_after r s) (sharer_after owner r s j shares) j
done_rights owner shares r s d cur j role n p = grind arith

done_settled : (owner : Owner) (shares : Bool) (r : ℕ) (s : LineState) (d : Option Block) (cur : Block) (j : ℕ) (role : Role) → j ≢ r → PartOf (Some (r, s)) (Ends s d) cur j (standing owner shares j) role → settled (Ends s d) role (standing owner shares j) ≡ standing (owner_after r s) (sharer_after owner r s j shares) j
done_settled owner shares r s d cur j role n p = grind arith

pub done_other : (c : Ctx) (shares : Bool) (j : ℕ) (l : Local) (g : Ghost) (r : ℕ) (s : LineState) (d : Option Block) → j ≢ r → Each (busy_with r s (Ends s d) c) shares j l g → Each (done_ctx r s d c) (sharer_after c.owner r s j shares) j l (over g)
done_other c shares j l g r s d n e =
    let o = done_over r s d c.cur j (standing c.owner shares j) g.role n e.part in
    let z = done_rights c.owner shares r s d c.cur j g.role n e.part in
    record {
      is = over_is l g o e.is;
      line = subst (λ q. LineOk q c.cur g.keep) z e.line;
      put = subst (λ q. PutOk q c.cur g.keep) (done_settled c.owner shares r s d c.cur j g.role n e.part) e.put;
      part = refl;
      want = over_wants g.role g.want g.keep o e.want;
      why = over_why g.role g.want l.own o e.why;
      cover = subst (λ q. Cover q (line_of g.keep) l.own) z e.cover;
      logs = e.logs;
      sound = e.sound;
      marked = e.marked;
    }

pub done_center : (owner : Owner) (memory cur : Block) (r : ℕ) (s : LineState) (d : Option Block) → Center owner memory cur (Ends s d) → Center (owner_after r s) (memory_after s owner d memory) cur Aside
done_center owner memory cur r s d z = grind arith

-- a Done that isn't ok
failed_is : (l : Local) (g : Ghost) → l ≡ local_of g l.own → g.role ≡ Fails → take_done l ≡ local_of (over g) l.own
failed_is l g e t = grind arith

abbrev pub after_done : Ctx → Ctx
after_done c = record c { busy = None; asker = Aside }

pub failed_row : (c : Ctx) (shares : Bool) (r : ℕ) (l : Local) (g : Ghost) (s : LineState) → Each (busy_with r s Fails c) shares r l g → Each (after_done c) shares r (take_done l) (over g)
failed_row c shares r l g s e =
    let st = standing c.owner shares r in
    let t = asker_is r s Fails c.cur st g.role e.part in
    record {
      is = failed_is l g e.is t;
      line = subst (λ x. LineOk (rights x st) c.cur g.keep) t e.line;
      put = e.put;
      part = refl;
      want = subst (λ x. Wants x g.want g.keep) t e.want;
      why = subst (λ x. Why x g.want l.own) t e.why;
      cover = subst (λ x. Cover (rights x st) (line_of g.keep) l.own) t e.cover;
      logs = e.logs;
      sound = e.sound;
      marked = e.marked;
    }

failed_over : (r : ℕ) (s : LineState) (cur : Block) (j : ℕ) (st : Rights) (role : Role) → j ≢ r → PartOf (Some (r, s)) Fails cur j st role → IsOver role
failed_over r s cur j st role n p = grind arith

-- who acknowledged a write stands as before, without its line
failed_line : (r : ℕ) (s : LineState) (cur : Block) (j : ℕ) (st : Rights) (role : Role) (keep : Keep) → j ≢ r → PartOf (Some (r, s)) Fails cur j st role → LineOk (rights role st) cur keep → LineOk st cur keep
failed_line r s cur j st role keep n p m = grind arith

failed_cover : (r : ℕ) (s : LineState) (cur : Block) (j : ℕ) (st : Rights) (role : Role) (x : Copy) (o : Own) → j ≢ r → PartOf (Some (r, s)) Fails cur j st role → Cover (rights role st) x o → Cover st x o
failed_cover r s cur j st role x o n p m = grind arith

pub failed_other : (c : Ctx) (shares : Bool) (j : ℕ) (l : Local) (g : Ghost) (r : ℕ) (s : LineState) → j ≢ r → Each (busy_with r s Fails c) shares j l g → Each (after_done c) shares j l (over g)
failed_other c shares j l g r s n e =
    let st = standing c.owner shares j in
    let o = failed_over r s c.cur j st g.role n e.part in
    record {
      is = over_is l g o e.is;
      line = failed_line r s c.cur j st g.role g.keep n e.part e.line;
      put = e.put;
      part = refl;
      want = over_wants g.role g.want g.keep o e.want;
      why = over_why g.role g.want l.own o e.why;
      cover = failed_cover r s c.cur j st g.role (line_of g.keep) l.own n e.part e.cover;
      logs = e.logs;
      sound = e.sound;
      marked = e.marked;
    }

-- what a Done tells
abbrev pub Ended : Bool → Option Block → Option (ℕ × LineState) → Role → ℕ → Type 0
Ended ok d None asker r = ⊥
Ended true d (Some b) (Ends g x) r = (b.0 ≡ r) × (g ≡ b.1) × (x ≡ d)
Ended false d (Some b) Fails r = b.0 ≡ r
Ended true d (Some b) Fails r = ⊥
Ended false d (Some b) (Ends g x) r = ⊥
Ended ok d (Some b) (Asks a) r = ⊥
Ended ok d (Some b) Aside r = ⊥
Ended ok d (Some b) (Told q k s) r = ⊥
Ended ok d (Some b) (Acking q k x) r = ⊥
Ended ok d (Some b) (Nacking q s) r = ⊥
Ended ok d (Some b) (Answered k) r = ⊥
Ended ok d (Some b) Refused r = ⊥

pub done_ends : (c : Ctx) (r : ℕ) (st : Rights) (l : Local) (g : Ghost) (ok : Bool) (d : Option Block) → l ≡ local_of g l.own → Part c r st g.role → l.done ≡ Some (ok, d) → Ended ok d c.busy c.asker r
done_ends c r st l g ok d e p f = grind arith
