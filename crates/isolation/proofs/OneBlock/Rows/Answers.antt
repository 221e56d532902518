-- Answers that come to the requester and are kept, and a refusal. r is the requester, who is given s, and a its request.
use Rattle.std.proofs.Common.{◌≡◌, ◌≢◌, ℕ, Bool, true, false, Option, Some, refl, sym, subst, arith}
use Rattle.std.specs.Prelude.{◌||◌}
use Rattle.words.specs.declared.stamp.Stamp.{Stamp}
use Rattle.words.specs.declared.message.Kind.{Kind}
use Rattle.words.specs.declared.message.LineState.{LineState}
use Rattle.protocol.specs.Messages.{Block, Granted}
use Rattle.protocol.specs.Directory.{Owner}
use Rattle.isolation.proofs.OneBlock.Model.State.{sooner, Aborting, Own, Local, put_at}
use Rattle.isolation.proofs.OneBlock.Model.Messages.{on_grant, on_ack, on_nack, first_of_two}
use Rattle.isolation.proofs.OneBlock.Model.Directory.{Rights, Owns, Shares, Sticks, Nothing, standing, must_tell}
use Rattle.isolation.proofs.OneBlock.Invariant.Roles.{Ask, Role, Acking, Nacking, Answered, Refused, Asks, Keep, Ghost, local_of, line_of, rights}
use Rattle.isolation.proofs.OneBlock.Invariant.Parts.{LineOk, Ctx, PartOf}
use Rattle.isolation.proofs.OneBlock.Invariant.Each.{Wants, Why, WhyAsk, Cover, Logs, Sound, PutMarked, Each}

abbrev pub busy_with : ℕ → LineState → Role → Ctx → Ctx
busy_with r s k c = record c { busy = Some (r, s); asker = k }

-- the requester's own part
pub asker_is : (r : ℕ) (s : LineState) (a : Role) (cur : Block) (st : Rights) (role : Role) → PartOf (Some (r, s)) a cur r st role → role ≡ a
asker_is r s a cur st role p = grind arith

-- another hart, where the request changes
pub other_row : (c : Ctx) (shares : Bool) (j : ℕ) (l : Local) (g : Ghost) (r : ℕ) (s : LineState) (a b : Ask) → Each (busy_with r s (Asks a) c) shares j l g → PartOf (Some (r, s)) (Asks b) c.cur j (standing c.owner shares j) g.role → Each (busy_with r s (Asks b) c) shares j l g
other_row c shares j l g r s a b e p = record { is = e.is; line = e.line; put = e.put; part = p; want = e.want; why = e.why; cover = e.cover; logs = e.logs; sound = e.sound; marked = e.marked }

own_part : (r : ℕ) (s : LineState) (a b : Ask) (cur : Block) (st : Rights) (role : Role) → b.kind ≡ a.kind → PartOf (Some (r, s)) (Asks a) cur r st role → PartOf (Some (r, s)) (Asks b) cur r st (Asks b)
own_part r s a b cur st role k p = grind arith

own_wants : (a b : Ask) (role : Role) (w : Option (Kind × Option Stamp)) (keep : Keep) → b.kind ≡ a.kind → role ≡ Asks a → Wants role w keep → Wants (Asks b) w keep
own_wants a b role w keep k t e = grind arith

-- the requester, where its request changes: l becomes m, by the part b
pub self_row : (c : Ctx) (shares : Bool) (r : ℕ) (l m : Local) (g : Ghost) (s : LineState) (a b : Ask) → b.kind ≡ a.kind → Each (busy_with r s (Asks a) c) shares r l g → m ≡ local_of (record g { role = Asks b }) m.own → WhyAsk b m.own → Cover (standing c.owner shares r) (line_of g.keep) m.own → Logs c.cur c.mem c.writer r m.own → Sound m.own → PutMarked g.keep m.own → Each (busy_with r s (Asks b) c) shares r m (record g { role = Asks b })
self_row c shares r l m g s a b k e i y v z o p =
    let t = asker_is r s (Asks a) c.cur (standing c.owner shares r) g.role e.part in
    record {
      is = i;
      line = subst (λ x. LineOk (rights x (standing c.owner shares r)) c.cur g.keep) t e.line;
      put = e.put;
      part = own_part r s a b c.cur (standing c.owner shares r) g.role k e.part;
      want = own_wants a b g.role g.want g.keep k t e.want;
      why = y;
      cover = v;
      logs = z;
      sound = o;
      marked = p;
    }

-- the same, where only the request changes
pub wait_row : (c : Ctx) (shares : Bool) (r : ℕ) (l m : Local) (g : Ghost) (s : LineState) (a b : Ask) → b.kind ≡ a.kind → m.own ≡ l.own → Each (busy_with r s (Asks a) c) shares r l g → m ≡ local_of (record g { role = Asks b }) m.own → (WhyAsk a l.own → WhyAsk b l.own) → Each (busy_with r s (Asks b) c) shares r m (record g { role = Asks b })
wait_row c shares r l m g s a b k q e i y =
    let st = standing c.owner shares r in
    let t = asker_is r s (Asks a) c.cur st g.role e.part in
    self_row c shares r l m g s a b k e i
    (subst (λ x. WhyAsk b x) (sym q) (y (subst (λ x. Why x g.want l.own) t e.why)))
    (subst (λ x. Cover st (line_of g.keep) x) (sym q) (subst (λ x. Cover (rights x st) (line_of g.keep) l.own) t e.cover))
    (subst (λ x. Logs c.cur c.mem c.writer r x) (sym q) e.logs)
    (subst (λ x. Sound x) (sym q) e.sound)
    (subst (λ x. PutMarked g.keep x) (sym q) e.marked)

-- a Granted comes
abbrev pub granted : Ask → Ask
granted a = record a { sent = false }

grant_is : (l : Local) (g : Ghost) (a : Ask) (x : Granted) → l ≡ local_of g l.own → g.role ≡ Asks a → l.grant ≡ Some x → on_grant x l ≡ local_of (record g { role = Asks (granted a) }) l.own
grant_is l g a x e t f = grind arith

pub grant_other : (r : ℕ) (s : LineState) (a : Ask) (cur : Block) (j : ℕ) (st : Rights) (role : Role) → j ≢ r → PartOf (Some (r, s)) (Asks a) cur j st role → PartOf (Some (r, s)) (Asks (granted a)) cur j st role
grant_other r s a cur j st role n p = grind arith

pub grant_self : (c : Ctx) (shares : Bool) (r : ℕ) (l : Local) (g : Ghost) (s : LineState) (a : Ask) (x : Granted) → Each (busy_with r s (Asks a) c) shares r l g → l.grant ≡ Some x → Each (busy_with r s (Asks (granted a)) c) shares r (on_grant x l) (record g { role = Asks (granted a) })
grant_self c shares r l g s a x e f = wait_row c shares r l (on_grant x l) g s a (granted a) refl refl e (grant_is l g a x e.is (asker_is r s (Asks a) c.cur (standing c.owner shares r) g.role e.part) f) (λ y. y)

-- an Ack comes from h
abbrev pub heard : ℕ → Option Block → Ask → Ask
heard h d a = record a { from = put_at h true a.from; kept = first_of_two d a.kept }

abbrev pub refused_by : ℕ → Bool → Ask → Ask
refused_by h early a = record a { from = put_at h true a.from; nay = true; early = a.early || early }

heard_is : (l : Local) (g : Ghost) (a : Ask) (h : ℕ) (d : Option Block) → l ≡ local_of g l.own → g.role ≡ Asks a → on_ack h d l ≡ local_of (record g { role = Asks (heard h d a) }) l.own
heard_is l g a h d e t = grind arith

refused_is : (l : Local) (g : Ghost) (a : Ask) (h : ℕ) (st : Option Stamp) → l ≡ local_of g l.own → g.role ≡ Asks a → l.own.stamp ≡ a.stamp → on_nack h st l ≡ local_of (record g { role = Asks (refused_by h (sooner st a.stamp) a) }) l.own
refused_is l g a h st e t s = grind arith

pub heard_self : (c : Ctx) (shares : Bool) (r : ℕ) (l : Local) (g : Ghost) (s : LineState) (a : Ask) (h : ℕ) (d : Option Block) → Each (busy_with r s (Asks a) c) shares r l g → Each (busy_with r s (Asks (heard h d a)) c) shares r (on_ack h d l) (record g { role = Asks (heard h d a) })
heard_self c shares r l g s a h d e = wait_row c shares r l (on_ack h d l) g s a (heard h d a) refl refl e (heard_is l g a h d e.is (asker_is r s (Asks a) c.cur (standing c.owner shares r) g.role e.part)) (λ y. y)

nack_why : (a : Ask) (o : Own) (h : ℕ) (b : Bool) → (b ≡ true → a.noted ≡ true) → o.tx ≢ Aborting → WhyAsk a o → WhyAsk (refused_by h b a) o
nack_why a o h b f t e = grind arith

pub nack_self : (c : Ctx) (shares : Bool) (r : ℕ) (l : Local) (g : Ghost) (s : LineState) (a : Ask) (h : ℕ) (st : Option Stamp) → Each (busy_with r s (Asks a) c) shares r l g → (sooner st a.stamp ≡ true → a.noted ≡ true) → l.own.tx ≢ Aborting → Each (busy_with r s (Asks (refused_by h (sooner st a.stamp) a)) c) shares r (on_nack h st l) (record g { role = Asks (refused_by h (sooner st a.stamp) a) })
nack_self c shares r l g s a h st e f n =
    let t = asker_is r s (Asks a) c.cur (standing c.owner shares r) g.role e.part in
    let y : WhyAsk a l.own = subst (λ x. Why x g.want l.own) t e.why in
    wait_row c shares r l (on_nack h st l) g s a (refused_by h (sooner st a.stamp) a) refl refl e (refused_is l g a h st e.is t y.0) (nack_why a l.own h (sooner st a.stamp) f n)

-- two harts' standings
abbrev pub Apart : Rights → Rights → Type 0
Apart Owns Nothing = Unit {0}
Apart Sticks Nothing = Unit {0}
Apart Shares Shares = Unit {0}
Apart Shares Nothing = Unit {0}
Apart Nothing st = Unit {0}
Apart Owns Owns = ⊥
Apart Owns Sticks = ⊥
Apart Owns Shares = ⊥
Apart Sticks Owns = ⊥
Apart Sticks Sticks = ⊥
Apart Sticks Shares = ⊥
Apart Shares Owns = ⊥
Apart Shares Sticks = ⊥

pub standings : (owner : Owner) (a b : Bool) (i j : ℕ) → i ≢ j → Apart (standing owner a i) (standing owner b j)
standings owner a b i j n = grind arith

pub heard_other : (r : ℕ) (s : LineState) (a : Ask) (cur : Block) (j h : ℕ) (st th : Rights) (role : Role) (d : Option Block) → j ≢ r → j ≢ h → must_tell s th ≡ true → Apart st th → PartOf (Some (r, s)) (Asks a) cur j st role → PartOf (Some (r, s)) (Asks (heard h d a)) cur j st role
heard_other r s a cur j h st th role d n m t z p = grind arith

pub nack_other : (r : ℕ) (s : LineState) (a : Ask) (cur : Block) (j h : ℕ) (st th : Rights) (role : Role) (b : Bool) → j ≢ r → j ≢ h → must_tell s th ≡ true → Apart st th → PartOf (Some (r, s)) (Asks a) cur j st role → PartOf (Some (r, s)) (Asks (refused_by h b a)) cur j st role
nack_other r s a cur j h st th role b n m t z p = grind arith

-- who sent it
pub ack_from : (r : ℕ) (s : LineState) (a : Ask) (cur : Block) (h : ℕ) (st : Rights) (k : Kind) (q : ℕ) (d : Option Block) → h ≢ r → PartOf (Some (r, s)) (Asks a) cur h st (Acking q k d) → PartOf (Some (r, s)) (Asks (heard h d a)) cur h st (Answered k)
ack_from r s a cur h st k q d n p = grind arith

pub nack_from : (r : ℕ) (s : LineState) (a : Ask) (cur : Block) (h : ℕ) (st : Rights) (q : ℕ) (x : Option Stamp) (b : Bool) → h ≢ r → PartOf (Some (r, s)) (Asks a) cur h st (Nacking q x) → PartOf (Some (r, s)) (Asks (refused_by h b a)) cur h st Refused
nack_from r s a cur h st q x b n p = grind arith
