-- A Get comes to the directory, or a Put.
use Rattle.std.proofs.Common.{◌≡◌, ◌≢◌, ℕ, Bool, true, false, Option, None, Some, cond, refl, sym, ap, subst, ◌∙◌, arith}
use Rattle.std.proofs.lemmas.Bool.{eq-eqb}
use Rattle.words.specs.declared.stamp.Stamp.{Stamp}
use Rattle.words.specs.declared.message.Kind.{Kind}
use Rattle.words.specs.declared.message.LineState.{LineState}
use Rattle.protocol.specs.Messages.{Block, Granted}
use Rattle.protocol.specs.Directory.{Owner, Owned}
use Rattle.isolation.proofs.OneBlock.Model.State.{Absent, Own, Local}
use Rattle.isolation.proofs.OneBlock.Model.Directory.{Rights, Owns, Sticks, Nothing, standing, must_tell, give_for, take_get, tell, take_put, put_owner}
use Rattle.isolation.proofs.OneBlock.Invariant.Roles.{Ask, Role, Aside, Told, Asks, Keep, Putting, Put_over, Ghost, local_of, line_of, rights}
use Rattle.isolation.proofs.OneBlock.Invariant.Parts.{LineOk, PutOk, OwnFits, Ctx, PartOf}
use Rattle.isolation.proofs.OneBlock.Invariant.Each.{Wants, WantOk, Why, WhyAsk, Cover, Logs, Sound, PutMarked, Lone, Center, Each}
use Rattle.isolation.proofs.OneBlock.Rows.ValueStaysRows.{take_put_is, take_put_keep, take_put_wants}
use Rattle.isolation.proofs.OneBlock.Rows.Answers.{busy_with}
use Rattle.isolation.proofs.OneBlock.Rows.Ends.{owner_stands}

abbrev pub idle : Ctx → Ctx
idle c = record c { busy = None; asker = Aside }

-- a Get of r comes
abbrev pub taken : Kind → Granted → Option Stamp → Bool → Ask
taken k x st noted = record { kind = k; grant = x; sent = true; from = λ _. false; nay = false; kept = None; early = false; stamp = st; noted = noted }

get_is : (l : Local) (g : Ghost) (k : Kind) (st : Option Stamp) (x : Granted) (b : Bool) → l ≡ local_of g l.own → g.role ≡ Aside → l.get ≡ Some (k, st) → take_get x l ≡ local_of (record g { role = Asks (taken k x st b); want = None }) l.own
get_is l g k st x b e t f = grind arith

get_want : (l : Local) (g : Ghost) (k : Kind) (st : Option Stamp) → l ≡ local_of g l.own → l.get ≡ Some (k, st) → g.want ≡ Some (k, st)
get_want l g k st e f = sym (ap (λ x. x.get) e) ∙ f

get_fits : (owner : Owner) (shares alone : Bool) (r : ℕ) (k : Kind) (cur : Block) (keep : Keep) → LineOk (standing owner shares r) cur keep → WantOk k keep → OwnFits (give_for alone owner r k) (standing owner shares r) k
get_fits owner shares alone r k cur keep l w = grind (arith, eq-eqb)

get_part : (r : ℕ) (s : LineState) (a : Ask) (cur : Block) (st : Rights) → OwnFits s st a.kind → PartOf (Some (r, s)) (Asks a) cur r st (Asks a)
get_part r s a cur st f = grind arith

get_wants : (role : Role) (w : Option (Kind × Option Stamp)) (k : Kind) (st : Option Stamp) (keep : Keep) → role ≡ Aside → w ≡ Some (k, st) → Wants role w keep → WantOk k keep
get_wants role w k st keep t f e = grind arith

get_why : (role : Role) (w : Option (Kind × Option Stamp)) (k : Kind) (st : Option Stamp) (x : Granted) (o : Own) → role ≡ Aside → w ≡ Some (k, st) → Why role w o → WhyAsk (taken k x st o.noted) o
get_why role w k st x o t f e = grind arith

pub get_row : (c : Ctx) (shares : Bool) (r : ℕ) (l : Local) (g : Ghost) (k : Kind) (st : Option Stamp) (x : Granted) (alone : Bool) → Each (idle c) shares r l g → l.get ≡ Some (k, st) → x.give ≡ give_for alone c.owner r k → Each (busy_with r x.give (Asks (taken k x st l.own.noted)) c) shares r (take_get x l) (record g { role = Asks (taken k x st l.own.noted); want = None })
get_row c shares r l g k st x alone e f y =
    let rs = standing c.owner shares r in
    let w = get_want l g k st e.is f in
    let line : LineOk rs c.cur g.keep = subst (λ z. LineOk (rights z rs) c.cur g.keep) e.part e.line in
    let k2 = get_wants g.role g.want k st g.keep e.part w e.want in
    record {
      is = get_is l g k st x l.own.noted e.is e.part f;
      line = line;
      put = e.put;
      part = get_part r x.give (taken k x st l.own.noted) c.cur rs (subst (λ z. OwnFits z rs k) (sym y) (get_fits c.owner shares alone r k c.cur g.keep line k2));
      want = (refl, k2);
      why = get_why g.role g.want k st x l.own e.part w e.why;
      cover = subst (λ z. Cover (rights z rs) (line_of g.keep) l.own) e.part e.cover;
      logs = e.logs;
      sound = e.sound;
      marked = e.marked;
    }

abbrev pub tell_role : Bool → Kind → ℕ → Option Stamp → Role
tell_role true k r s = Told r k s
tell_role false k r s = Aside

tell_is : (l : Local) (g : Ghost) (b : Bool) (k : Kind) (r : ℕ) (s : Option Stamp) → l ≡ local_of g l.own → g.role ≡ Aside → tell b k r s l ≡ local_of (record g { role = tell_role b k r s }) (tell b k r s l).own
tell_is l g b k r s e t = grind arith

tell_own : (l : Local) (b : Bool) (k : Kind) (r : ℕ) (s : Option Stamp) → (tell b k r s l).own ≡ l.own
tell_own l b k r s = grind arith

tell_rights : (b : Bool) (k : Kind) (r : ℕ) (s : Option Stamp) (st : Rights) → rights (tell_role b k r s) st ≡ st
tell_rights b k r s st = grind arith

tell_wants : (b : Bool) (k : Kind) (r : ℕ) (s : Option Stamp) (role : Role) (w : Option (Kind × Option Stamp)) (keep : Keep) → role ≡ Aside → Wants role w keep → Wants (tell_role b k r s) w keep
tell_wants b k r s role w keep t e = grind arith

tell_why : (b : Bool) (k : Kind) (r : ℕ) (s : Option Stamp) (role : Role) (w : Option (Kind × Option Stamp)) (o : Own) → role ≡ Aside → Why role w o → Why (tell_role b k r s) w o
tell_why b k r s role w o t e = grind arith

tell_part : (owner : Owner) (shares alone : Bool) (j r : ℕ) (k : Kind) (x : Granted) (st : Option Stamp) (noted : Bool) (cur : Block) → j ≢ r → (alone ≡ true → shares ≡ false) → x.give ≡ give_for alone owner r k → x.expect j ≡ must_tell x.give (standing owner shares j) → PartOf (Some (r, x.give)) (Asks (taken k x st noted)) cur j (standing owner shares j) (tell_role (x.expect j) k r st)
tell_part owner shares alone j r k x st noted cur n f y e = grind arith

pub get_other : (c : Ctx) (shares alone : Bool) (j : ℕ) (l : Local) (g : Ghost) (r : ℕ) (k : Kind) (x : Granted) (st : Option Stamp) (noted : Bool) → j ≢ r → (alone ≡ true → shares ≡ false) → x.give ≡ give_for alone c.owner r k → x.expect j ≡ must_tell x.give (standing c.owner shares j) → Each (idle c) shares j l g → Each (busy_with r x.give (Asks (taken k x st noted)) c) shares j (tell (x.expect j) k r st l) (record g { role = tell_role (x.expect j) k r st })
get_other c shares alone j l g r k x st noted n f y z e =
    let rs = standing c.owner shares j in
    let b = x.expect j in
    let same : l.own ≡ (tell b k r st l).own = sym (tell_own l b k r st) in
    let line : LineOk rs c.cur g.keep = subst (λ q. LineOk (rights q rs) c.cur g.keep) e.part e.line in
    let cover : Cover rs (line_of g.keep) l.own = subst (λ q. Cover (rights q rs) (line_of g.keep) l.own) e.part e.cover in
    record {
      is = tell_is l g b k r st e.is e.part;
      line = subst (λ q. LineOk q c.cur g.keep) (sym (tell_rights b k r st rs)) line;
      put = e.put;
      part = tell_part c.owner shares alone j r k x st noted c.cur n f y z;
      want = tell_wants b k r st g.role g.want g.keep e.part e.want;
      why = subst (λ q. Why (tell_role b k r st) g.want q) same (tell_why b k r st g.role g.want l.own e.part e.why);
      cover = subst (λ q. Cover (rights (tell_role b k r st) rs) (line_of g.keep) q) same (subst (λ q. Cover q (line_of g.keep) l.own) (sym (tell_rights b k r st rs)) cover);
      logs = subst (λ q. Logs c.cur c.mem c.writer j q) same e.logs;
      sound = subst (λ q. Sound q) same e.sound;
      marked = subst (λ q. PutMarked g.keep q) same e.marked;
    }

pub get_center : (owner : Owner) (memory cur : Block) (k : Kind) (x : Granted) (st : Option Stamp) (b : Bool) → x.content ≡ memory → Center owner memory cur Aside → Center owner memory cur (Asks (taken k x st b))
get_center owner memory cur k x st b e z = grind arith

put_standing : (owner : Owner) (h : ℕ) (m shares : Bool) → owner ≡ Owned h → Lone owner shares → standing (put_owner m h) shares h ≡ cond m Sticks Nothing
put_standing owner h m shares o e = grind (arith, eq-eqb)

put_line_ok : (m : Bool) (cur d : Block) → LineOk (cond m Sticks Nothing) cur (Put_over d m)
put_line_ok m cur d = grind arith

put_ok : (m : Bool) (cur d : Block) → PutOk Owns cur (Putting d m) → PutOk (cond m Sticks Nothing) cur (Put_over d m)
put_ok m cur d e = grind arith

put_cover : (m : Bool) (d : Block) (o : Own) → PutMarked (Putting d m) o → Cover Owns Absent o → Cover (cond m Sticks Nothing) Absent o
put_cover m d o e v = grind arith

-- and it leaves no sharers
pub put_lone : (owner : Owner) (h : ℕ) (m shares : Bool) → owner ≡ Owned h → Lone owner shares → Lone (put_owner m h) shares
put_lone owner h m shares o e = grind arith

abbrev pub put_ctx : ℕ → Block → Bool → Ctx → Ctx
put_ctx h d m c = record c { owner = put_owner m h; memory = d; busy = None; asker = Aside }

pub put_value : (c : Ctx) (shares : Bool) (h : ℕ) (l : Local) (g : Ghost) (d : Block) (m : Bool) → Each (idle c) shares h l g → c.owner ≡ Owned h → l.puts ≡ Some (d, m) → d ≡ c.cur
put_value c shares h l g d m e o x = subst (λ z. PutOk Owns c.cur z) (take_put_keep l g d m e.is x) (subst (λ z. PutOk z c.cur g.keep) (owner_stands c.owner h shares o) e.put)

pub put_row : (c : Ctx) (shares : Bool) (h : ℕ) (l : Local) (g : Ghost) (d : Block) (m : Bool) → Each (idle c) shares h l g → c.owner ≡ Owned h → Lone c.owner shares → l.puts ≡ Some (d, m) → Each (put_ctx h d m c) shares h (take_put l) (record g { keep = Put_over d m })
put_row c shares h l g d m e o u x =
    let k = take_put_keep l g d m e.is x in
    let z = put_standing c.owner h m shares o u in
    let was = owner_stands c.owner h shares o in
    let at : rights g.role (standing (put_owner m h) shares h) ≡ cond m Sticks Nothing = ap (λ q. rights q (standing (put_owner m h) shares h)) e.part ∙ z in
    let before : rights g.role (standing c.owner shares h) ≡ Owns = ap (λ q. rights q (standing c.owner shares h)) e.part ∙ was in
    let cover : Cover Owns Absent l.own = subst (λ q. Cover Owns (line_of q) l.own) k (subst (λ q. Cover q (line_of g.keep) l.own) before e.cover) in
    record {
      is = take_put_is l g d m e.is x;
      line = subst (λ q. LineOk q c.cur (Put_over d m)) (sym at) (put_line_ok m c.cur d);
      put = subst (λ q. PutOk q c.cur (Put_over d m)) (sym z) (put_ok m c.cur d (subst (PutOk Owns c.cur) k (subst (λ q. PutOk q c.cur g.keep) was e.put)));
      part = e.part;
      want = take_put_wants g.role g.want d m (subst (Wants g.role g.want) k e.want);
      why = e.why;
      cover = subst (λ q. Cover q Absent l.own) (sym at) (put_cover m d l.own (subst (λ q. PutMarked q l.own) k e.marked) cover);
      logs = e.logs;
      sound = e.sound;
      marked = tt;
    }

put_other_standing : (owner : Owner) (h j : ℕ) (m shares : Bool) → owner ≡ Owned h → j ≢ h → Lone owner shares → standing owner shares j ≡ standing (put_owner m h) shares j
put_other_standing owner h j m shares o n e = grind arith

pub put_other : (c : Ctx) (shares : Bool) (j : ℕ) (l : Local) (g : Ghost) (h : ℕ) (d : Block) (m : Bool) → c.owner ≡ Owned h → j ≢ h → Lone c.owner shares → Each (idle c) shares j l g → Each (put_ctx h d m c) shares j l g
put_other c shares j l g h d m o n u e =
    let z = put_other_standing c.owner h j m shares o n u in
    record {
      is = e.is;
      line = subst (λ q. LineOk (rights g.role q) c.cur g.keep) z e.line;
      put = subst (λ q. PutOk q c.cur g.keep) z e.put;
      part = e.part;
      want = e.want;
      why = e.why;
      cover = subst (λ q. Cover (rights g.role q) (line_of g.keep) l.own) z e.cover;
      logs = e.logs;
      sound = e.sound;
      marked = e.marked;
    }

pub put_center : (h : ℕ) (cur d : Block) (m : Bool) → d ≡ cur → Center (put_owner m h) d cur Aside
put_center h cur d m e = grind arith
