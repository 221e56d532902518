-- A hart refuses a forward, or its Ack or Nack is taken; and what a message tells of the request.
use Rattle.std.proofs.Common.{◌≡◌, ◌≢◌, ℕ, Bool, true, false, Option, None, Some, refl, sym, subst, ◌∙◌, arith}
use Rattle.std.specs.Prelude.{◌||◌}
use Rattle.words.specs.declared.stamp.Stamp.{Stamp}
use Rattle.words.specs.declared.message.Kind.{Kind}
use Rattle.words.specs.declared.message.LineState.{LineState}
use Rattle.protocol.specs.Messages.{Block, Granted}
use Rattle.isolation.proofs.OneBlock.Model.State.{sooner, Own, Local}
use Rattle.isolation.proofs.OneBlock.Model.Messages.{refuse, note, take_ack, take_nack}
use Rattle.isolation.proofs.OneBlock.Model.Directory.{Rights, standing, must_tell}
use Rattle.isolation.proofs.OneBlock.Invariant.Roles.{Ask, Role, Aside, Told, Acking, Nacking, Answered, Refused, Asks, Ends, Fails, Keep, Ghost, local_of, line_of, rights}
use Rattle.isolation.proofs.OneBlock.Invariant.Parts.{LineOk, Fits, Ctx, Part, PartOf}
use Rattle.isolation.proofs.OneBlock.Invariant.Each.{Wants, Why, WhyAsk, WhyGet, Cover, Sound, PutMarked, Agree, Each}
use Rattle.isolation.proofs.OneBlock.Rows.Quiet.{same_sets}
use Rattle.isolation.proofs.OneBlock.Rows.Answers.{busy_with, asker_is, self_row, heard, refused_by, ack_from, nack_from}

acking_is : (l : Local) (g : Ghost) (q : ℕ) (k : Kind) (d : Option Block) → l ≡ local_of g l.own → g.role ≡ Acking q k d → take_ack l ≡ local_of (record g { role = Answered k }) l.own
acking_is l g q k d e t = grind arith

nacking_is : (l : Local) (g : Ghost) (q : ℕ) (x : Option Stamp) → l ≡ local_of g l.own → g.role ≡ Nacking q x → take_nack l ≡ local_of (record g { role = Refused }) l.own
nacking_is l g q x e t = grind arith

pub acking_row : (c : Ctx) (shares : Bool) (h : ℕ) (l : Local) (g : Ghost) (r : ℕ) (s : LineState) (a : Ask) (q : ℕ) (k : Kind) (d : Option Block) → h ≢ r → Each (busy_with r s (Asks a) c) shares h l g → g.role ≡ Acking q k d → Each (busy_with r s (Asks (heard h d a)) c) shares h (take_ack l) (record g { role = Answered k })
acking_row c shares h l g r s a q k d n e t =
    let st = standing c.owner shares h in
    record {
      is = acking_is l g q k d e.is t;
      line = subst (λ x. LineOk (rights x st) c.cur g.keep) t e.line;
      put = e.put;
      part = ack_from r s a c.cur h st k q d n (subst (PartOf (Some (r, s)) (Asks a) c.cur h st) t e.part);
      want = subst (λ x. Wants x g.want g.keep) t e.want;
      why = subst (λ x. Why x g.want l.own) t e.why;
      cover = subst (λ x. Cover (rights x st) (line_of g.keep) l.own) t e.cover;
      logs = e.logs;
      sound = e.sound;
      marked = e.marked;
    }

pub nacking_row : (c : Ctx) (shares : Bool) (h : ℕ) (l : Local) (g : Ghost) (r : ℕ) (s : LineState) (a : Ask) (q : ℕ) (y : Option Stamp) (b : Bool) → h ≢ r → Each (busy_with r s (Asks a) c) shares h l g → g.role ≡ Nacking q y → Each (busy_with r s (Asks (refused_by h b a)) c) shares h (take_nack l) (record g { role = Refused })
nacking_row c shares h l g r s a q y b n e t =
    let st = standing c.owner shares h in
    record {
      is = nacking_is l g q y e.is t;
      line = subst (λ x. LineOk (rights x st) c.cur g.keep) t e.line;
      put = e.put;
      part = nack_from r s a c.cur h st q y b n (subst (PartOf (Some (r, s)) (Asks a) c.cur h st) t e.part);
      want = subst (λ x. Wants x g.want g.keep) t e.want;
      why = subst (λ x. Why x g.want l.own) t e.why;
      cover = subst (λ x. Cover (rights x st) (line_of g.keep) l.own) t e.cover;
      logs = e.logs;
      sound = e.sound;
      marked = e.marked;
    }

-- a refusal
earlier_none : (s : Option Stamp) → sooner s None ≡ false
unfolding sooner
earlier_none None = refl
earlier_none (Some x) = refl

abbrev pub noting : Bool → Ask → Ask
noting b a = record a { noted = a.noted || b }

refuse_is : (l : Local) (g : Ghost) (q : ℕ) (k : Kind) (s st now : Option Stamp) (r : ℕ) → l ≡ local_of g l.own → g.role ≡ Told q k s → refuse r st now l ≡ local_of (record g { role = Nacking r l.own.stamp }) (refuse r st now l).own
refuse_is l g q k s st now r e t = grind arith

refuse_part : (r : ℕ) (s : LineState) (a : Ask) (cur : Block) (h : ℕ) (st : Rights) (q : ℕ) (k : Kind) (x y : Option Stamp) → h ≢ r → PartOf (Some (r, s)) (Asks a) cur h st (Told q k x) → PartOf (Some (r, s)) (Asks (noting (sooner y a.stamp) a)) cur h st (Nacking r y)
refuse_part r s a cur h st q k x y n p = grind arith

pub told_stamp : (r : ℕ) (s : LineState) (a : Ask) (cur : Block) (h : ℕ) (st : Rights) (q : ℕ) (k : Kind) (x : Option Stamp) → h ≢ r → PartOf (Some (r, s)) (Asks a) cur h st (Told q k x) → x ≡ a.stamp
told_stamp r s a cur h st q k x n p = grind arith

refuse_sound : (o : Own) (st now : Option Stamp) → st ≡ now → Sound o → Sound (record o { flag = o.flag || sooner st o.stamp; refused_earlier = o.refused_earlier || sooner now o.stamp })
refuse_sound o st now e s = grind (arith, earlier_none)

refuse_why : (w : Option (Kind × Option Stamp)) (o : Own) (x y : Bool) → WhyGet w o → WhyGet w (record o { flag = x; refused_earlier = y })
refuse_why w o x y e = grind arith

pub refuse_row : (c : Ctx) (shares : Bool) (h : ℕ) (l : Local) (g : Ghost) (r : ℕ) (s : LineState) (a : Ask) (k : Kind) (st now : Option Stamp) → h ≢ r → now ≡ a.stamp → Each (busy_with r s (Asks a) c) shares h l g → g.role ≡ Told r k st → Each (busy_with r s (Asks (noting (sooner l.own.stamp a.stamp) a)) c) shares h (refuse r st now l) (record g { role = Nacking r l.own.stamp })
refuse_row c shares h l g r s a k st now n m e t =
    let rs = standing c.owner shares h in
    let p : PartOf (Some (r, s)) (Asks a) c.cur h rs (Told r k st) = subst (PartOf (Some (r, s)) (Asks a) c.cur h rs) t e.part in
    let v : Cover rs (line_of g.keep) l.own = subst (λ x. Cover (rights x rs) (line_of g.keep) l.own) t e.cover in
    let same = told_stamp r s a c.cur h rs r k st n p ∙ sym m in
    record {
      is = refuse_is l g r k st st now r e.is t;
      line = subst (λ x. LineOk (rights x rs) c.cur g.keep) t e.line;
      put = e.put;
      part = refuse_part r s a c.cur h rs r k st l.own.stamp n p;
      want = subst (λ x. Wants x g.want g.keep) t e.want;
      why = refuse_why g.want l.own _ _ (subst (λ x. Why x g.want l.own) t e.why);
      cover = record { reads = v.reads; stores = v.stores; r_mark = v.r_mark; w_mark = v.w_mark; x_mark = v.x_mark };
      logs = record { writer_is = e.logs.writer_is; image = e.logs.image; none = e.logs.none; logged = e.logs.logged; view = e.logs.view };
      sound = refuse_sound l.own st now same e.sound;
      marked = same_sets g.keep l.own _ refl refl e.marked;
    }

-- at the requester
note_is : (l : Local) (g : Ghost) (a : Ask) (hs : Option Stamp) (b : Bool) → l ≡ local_of g l.own → g.role ≡ Asks a → note hs l ≡ local_of (record g { role = Asks (noting b a) }) (note hs l).own
note_is l g a hs b e t = grind arith

note_why : (a : Ask) (o : Own) (b : Bool) → WhyAsk a o → WhyAsk (noting b a) (record o { noted = o.noted || b })
note_why a o b e = grind arith

note_sound : (o : Own) (b : Bool) → Sound o → Sound (record o { noted = o.noted || b })
note_sound o b e = grind arith

note_marked : (keep : Keep) (o : Own) (b : Bool) → PutMarked keep o → PutMarked keep (record o { noted = o.noted || b })
note_marked keep o b e = grind arith

pub note_row : (c : Ctx) (shares : Bool) (r : ℕ) (l : Local) (g : Ghost) (s : LineState) (a : Ask) (hs : Option Stamp) → Each (busy_with r s (Asks a) c) shares r l g → Each (busy_with r s (Asks (noting (sooner hs l.own.stamp) a)) c) shares r (note hs l) (record g { role = Asks (noting (sooner hs l.own.stamp) a) })
note_row c shares r l g s a hs e =
    let st = standing c.owner shares r in
    let t = asker_is r s (Asks a) c.cur st g.role e.part in
    let b = sooner hs l.own.stamp in
    let v : Cover st (line_of g.keep) l.own = subst (λ x. Cover (rights x st) (line_of g.keep) l.own) t e.cover in
    self_row c shares r l (note hs l) g s a (noting b a) refl e (note_is l g a hs b e.is t) (note_why a l.own b (subst (λ x. Why x g.want l.own) t e.why))
    (record { reads = v.reads; stores = v.stores; r_mark = v.r_mark; w_mark = v.w_mark; x_mark = v.x_mark })
    (record { writer_is = e.logs.writer_is; image = e.logs.image; none = e.logs.none; logged = e.logs.logged; view = e.logs.view })
    (note_sound l.own b e.sound)
    (note_marked g.keep l.own b e.marked)

pub asks_stamp : (c : Ctx) (shares : Bool) (r : ℕ) (l : Local) (g : Ghost) (s : LineState) (a : Ask) → Each (busy_with r s (Asks a) c) shares r l g → l.own.stamp ≡ a.stamp
asks_stamp c shares r l g s a e = (subst (λ x. Why x g.want l.own) (asker_is r s (Asks a) c.cur (standing c.owner shares r) g.role e.part) e.why).0

pub note_other : (r : ℕ) (s : LineState) (a : Ask) (b : Bool) (cur : Block) (j : ℕ) (st : Rights) (role : Role) → j ≢ r → PartOf (Some (r, s)) (Asks a) cur j st role → PartOf (Some (r, s)) (Asks (noting b a)) cur j st role
note_other r s a b cur j st role n p = grind arith

-- what a message tells
pub acking : (c : Ctx) (h : ℕ) (st : Rights) (l : Local) (g : Ghost) (r : ℕ) (d : Option Block) → l ≡ local_of g l.own → Part c h st g.role → l.ack ≡ Some (r, d) → (k : Kind) × (g.role ≡ Acking r k d)
acking c h st l g r d e p x = grind arith

pub nacking : (c : Ctx) (h : ℕ) (st : Rights) (l : Local) (g : Ghost) (r : ℕ) (y : Option Stamp) → l ≡ local_of g l.own → Part c h st g.role → l.nack ≡ Some (r, y) → g.role ≡ Nacking r y
nacking c h st l g r y e p x = grind arith

-- whom a message of the busy request finds: asker is asking
abbrev pub Found : Option (ℕ × LineState) → Role → ℕ → ℕ → Rights → Type 0
Found None asker h r st = ⊥
Found (Some b) (Asks a) h r st = (b.0 ≡ r) × (h ≢ r) × (must_tell b.1 st ≡ true)
Found (Some b) Aside h r st = ⊥
Found (Some b) (Told q k s) h r st = ⊥
Found (Some b) (Acking q k d) h r st = ⊥
Found (Some b) (Nacking q s) h r st = ⊥
Found (Some b) (Answered k) h r st = ⊥
Found (Some b) Refused h r st = ⊥
Found (Some b) (Ends g d) h r st = ⊥
Found (Some b) Fails h r st = ⊥

pub told_found : (c : Ctx) (h : ℕ) (st : Rights) (r : ℕ) (k : Kind) (s : Option Stamp) → Agree c.busy c.asker → Part c h st (Told r k s) → Found c.busy c.asker h r st
told_found c h st r k s a p = grind arith

pub ack_found : (c : Ctx) (h : ℕ) (st : Rights) (r : ℕ) (k : Kind) (d : Option Block) → Agree c.busy c.asker → Part c h st (Acking r k d) → Found c.busy c.asker h r st
ack_found c h st r k d a p = grind arith

pub nack_found : (c : Ctx) (h : ℕ) (st : Rights) (r : ℕ) (s : Option Stamp) → Agree c.busy c.asker → Part c h st (Nacking r s) → Found c.busy c.asker h r st
nack_found c h st r s a p = grind arith

pub ack_fits : (r : ℕ) (s : LineState) (a : Ask) (cur : Block) (h : ℕ) (st : Rights) (q : ℕ) (k : Kind) (d : Option Block) → h ≢ r → PartOf (Some (r, s)) (Asks a) cur h st (Acking q k d) → Fits d cur
ack_fits r s a cur h st q k d n p = grind arith

pub nack_noted : (r : ℕ) (s : LineState) (a : Ask) (cur : Block) (h : ℕ) (st : Rights) (q : ℕ) (y : Option Stamp) → h ≢ r → PartOf (Some (r, s)) (Asks a) cur h st (Nacking q y) → sooner y a.stamp ≡ true → a.noted ≡ true
nack_noted r s a cur h st q y n p = grind arith

abbrev pub Asking : Option (ℕ × LineState) → Role → ℕ → Type 0
Asking None asker r = ⊥
Asking (Some b) (Asks a) r = b.0 ≡ r
Asking (Some b) Aside r = ⊥
Asking (Some b) (Told q k s) r = ⊥
Asking (Some b) (Acking q k d) r = ⊥
Asking (Some b) (Nacking q s) r = ⊥
Asking (Some b) (Answered k) r = ⊥
Asking (Some b) Refused r = ⊥
Asking (Some b) (Ends g d) r = ⊥
Asking (Some b) Fails r = ⊥

-- a Granted goes to who asks
pub grant_asks : (c : Ctx) (r : ℕ) (st : Rights) (l : Local) (g : Ghost) (x : Granted) → l ≡ local_of g l.own → Part c r st g.role → l.grant ≡ Some x → Asking c.busy c.asker r
grant_asks c r st l g x e p f = grind arith
