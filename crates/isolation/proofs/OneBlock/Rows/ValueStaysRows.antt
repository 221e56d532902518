-- A load, a request, evictions, the end of a Put, and a forward that is acknowledged: each row put together.
use Rattle.std.proofs.Common.{◌≡◌, ◌≢◌, ℕ, Bool, true, false, Option, None, Some, refl, sym, ap, subst, ◌∙◌, arith}
use Rattle.words.specs.declared.stamp.Stamp.{Stamp}
use Rattle.words.specs.declared.message.Kind.{Kind}
use Rattle.words.specs.declared.message.Kind.TheVariants.{Read, Write}
use Rattle.words.specs.declared.message.LineState.{LineState}
use Rattle.words.specs.declared.message.LineState.TheVariants.{Shared}
use Rattle.protocol.specs.Messages.{Block}
use Rattle.words.specs.declared.marks.Marks.{Marks}
use Rattle.words.specs.Marks.{is_marked}
use Rattle.protocol.specs.Directory.{Owned}
use Rattle.isolation.proofs.OneBlock.Model.State.{Absent, Has, Own, Fwd, Local}
use Rattle.isolation.proofs.OneBlock.Model.Core.{enough, load, read_mark, ask, Due, drop_line, write_back}
use Rattle.isolation.proofs.OneBlock.Model.Messages.{refuses, carried, after_fwd, acknowledge, put_over}
use Rattle.isolation.proofs.OneBlock.Model.Directory.{Rights, Owns, Shares, Sticks, Nothing, standing, take_put}
use Rattle.isolation.proofs.OneBlock.Model.Step.{Acts}
use Rattle.isolation.proofs.OneBlock.Invariant.Roles.{Role, Told, Acking, Keep, Keeps, Putting, Put_over, Ghost, local_of, line_of, put_of, put_ack_of, let_go, rights, settled}
use Rattle.isolation.proofs.OneBlock.Invariant.Parts.{LineOk, PutOk, Ctx, Part}
use Rattle.isolation.proofs.OneBlock.Invariant.Each.{Wants, Why, Cover, PutMarked, Each}
use Rattle.isolation.proofs.OneBlock.Rows.Quiet.{quiet, quiet_why, quiet_wants}
use Rattle.isolation.proofs.OneBlock.Rows.ValueStays.{on_line, load_is, line_is, load_line, put_line, load_cover, load_logs, load_sound, load_marked, ask_is, ask_wants, ask_why, drop_is, keep_is, drop_ok, no_put, drop_wants, spill_why, evict_cover, spill_logs, spill_sound, evict_is, evict_ok, evict_put, evict_wants, evict_marked, over_is, over_line, over_wants}

-- a forward that is acknowledged
told_is : (c : Ctx) (h : ℕ) (st : Rights) (l : Local) (g : Ghost) (f : Fwd) → l ≡ local_of g l.own → Part c h st g.role → l.fwd ≡ Some f → g.role ≡ Told f.requester f.kind f.stamp
told_is c h st l g f e p x = grind arith

pub told : (c : Ctx) (shares : Bool) (h : ℕ) (l : Local) (g : Ghost) (f : Fwd) → Each c shares h l g → l.fwd ≡ Some f → g.role ≡ Told f.requester f.kind f.stamp
told c shares h l g f e x = told_is c h (standing c.owner shares h) l g f e.is e.part x

-- a hart that is told has something that the requester must know of
abbrev pub Tells : Kind → Rights → Type 0
Tells k Nothing = ⊥
Tells Read Shares = ⊥
Tells Write Shares = Unit {0}
Tells k Owns = Unit {0}
Tells k Sticks = Unit {0}

told_must : (c : Ctx) (h : ℕ) (st : Rights) (f : Fwd) → Part c h st (Told f.requester f.kind f.stamp) → Tells f.kind st
told_must c h st f p = grind arith

abbrev pub ack_ghost : Kind → ℕ → Ghost → Ghost
ack_ghost k r g = record { role = Acking r k (carried (line_of g.keep) (put_of g.keep)); want = g.want; keep = on_line (after_fwd k) g.keep }

ack_is : (l : Local) (g : Ghost) (k : Kind) (r : ℕ) (s : Option Stamp) → l ≡ local_of g l.own → g.role ≡ Told r k s → acknowledge k r l ≡ local_of (ack_ghost k r g) l.own
ack_is l g k r s e t = grind arith

ack_line : (st : Rights) (cur : Block) (keep : Keep) (k : Kind) (overflow : Bool) → LineOk st cur keep → Tells k st → refuses (line_of keep) overflow k ≡ false → LineOk (let_go k st) cur (on_line (after_fwd k) keep)
ack_line st cur keep k overflow e t n = grind arith

ack_settled : (asker : Role) (st : Rights) (k : Kind) (r : ℕ) (s : Option Stamp) (d : Option Block) → settled asker (Told r k s) st ≡ settled asker (Acking r k d) st
ack_settled asker st k r s d = grind arith

ack_part : (c : Ctx) (h : ℕ) (st : Rights) (keep : Keep) (k : Kind) (r : ℕ) (s : Option Stamp) → Part c h st (Told r k s) → LineOk st c.cur keep → PutOk (settled c.asker (Told r k s) st) c.cur keep → Part c h st (Acking r k (carried (line_of keep) (put_of keep)))
ack_part c h st keep k r s p l m = grind arith

ack_wants : (k : Kind) (r : ℕ) (s : Option Stamp) (d : Option Block) (w : Option (Kind × Option Stamp)) (keep : Keep) → Wants (Told r k s) w keep → Wants (Acking r k d) w (on_line (after_fwd k) keep)
ack_wants k r s d w keep e = grind arith

ack_why : (k : Kind) (r : ℕ) (s : Option Stamp) (d : Option Block) (w : Option (Kind × Option Stamp)) (o : Own) → Why (Told r k s) w o → Why (Acking r k d) w o
ack_why k r s d w o e = grind arith

ack_cover : (st : Rights) (cur : Block) (keep : Keep) (k : Kind) (o : Own) → LineOk st cur keep → Tells k st → refuses (line_of keep) o.overflow k ≡ false → Cover st (line_of keep) o → Cover (let_go k st) (line_of (on_line (after_fwd k) keep)) o
ack_cover st cur keep k o l t n e = grind arith

ack_marked : (k : Kind) (keep : Keep) (o : Own) → PutMarked keep o → PutMarked (on_line (after_fwd k) keep) o
ack_marked k keep o e = grind arith

-- a Put that the directory takes
pub take_put_is : (l : Local) (g : Ghost) (d : Block) (m : Bool) → l ≡ local_of g l.own → l.puts ≡ Some (d, m) → take_put l ≡ local_of (record g { keep = Put_over d m }) l.own
take_put_is l g d m e x = grind arith

pub take_put_keep : (l : Local) (g : Ghost) (d : Block) (m : Bool) → l ≡ local_of g l.own → l.puts ≡ Some (d, m) → g.keep ≡ Putting d m
take_put_keep l g d m e x = grind arith

over_cases : (k : Keep) → put_ack_of k ≡ true → (p : Block × Bool) × (k ≡ Put_over p.0 p.1)
over_cases (Keeps x) e = absurd (cc)
over_cases (Putting d m) e = absurd (cc)
over_cases (Put_over d m) e = ((d, m), refl)

over_keep : (l : Local) (g : Ghost) → l ≡ local_of g l.own → l.put_ack ≡ true → (p : Block × Bool) × (g.keep ≡ Put_over p.0 p.1)
over_keep l g e x = over_cases g.keep (sym (ap (λ z. z.put_ack) e) ∙ x)

stale_rights : (c : Ctx) (h : ℕ) (shares : Bool) (role : Role) (cur d : Block) (m : Bool) → c.busy ≡ None → c.owner ≢ Owned h → Part c h (standing c.owner shares h) role → LineOk (rights role (standing c.owner shares h)) cur (Putting d m) → LineOk (rights role (standing c.owner shares h)) cur (Put_over d m)
stale_rights c h shares role cur d m b n p e = grind arith

stale_put : (st : Rights) (cur d : Block) (m : Bool) → PutOk st cur (Putting d m) → PutOk st cur (Put_over d m)
stale_put st cur d m e = grind arith

pub take_put_wants : (role : Role) (w : Option (Kind × Option Stamp)) (d : Block) (m : Bool) → Wants role w (Putting d m) → Wants role w (Put_over d m)
take_put_wants role w d m e = grind arith

module _ (c : Ctx) (shares : Bool) (h : ℕ) (l : Local) (g : Ghost) (e : Each c shares h l g) where
  abbrev st : Rights
  st = standing c.owner shares h

  abbrev rt : Rights
  rt = rights g.role (standing c.owner shares h)

  pub load_row : (a : Option Kind) → Acts l → enough Read l.line ≡ true → Each c shares h (load a l) (record g { keep = on_line (read_mark l.own.tx) g.keep })
  load_row a t x =
      let q = quiet l g e.is t.free in
      let y : enough Read (line_of g.keep) ≡ true = subst (λ z. enough Read z ≡ true) (line_is l g e.is) x in
      record {
        is = load_is l g a e.is x;
        line = load_line rt c.cur l.own.tx g.keep e.line;
        put = put_line (settled c.asker g.role st) c.cur (read_mark l.own.tx) g.keep e.put;
        part = e.part;
        want = quiet_wants g _ q;
        why = quiet_why g _ q;
        cover = load_cover rt c.cur a g.keep l.own e.line y t.tx e.cover;
        logs = load_logs c.cur c.mem c.writer h a l.own e.logs;
        sound = load_sound a l.own t.tx e.sound;
        marked = load_marked l.own.tx g.keep l.own _ y;
      }

  pub ask_row : (k : Kind) → l.wait ≡ None → l.put ≡ None → Due l.own.tx k l.own.access l.own.images → enough k l.line ≡ false → Each c shares h (ask k l) (record g { want = Some (k, l.own.stamp) })
  ask_row k w p d x = record { is = ask_is l g k e.is w; line = e.line; put = e.put; part = e.part; want = ask_wants l g k _ e.is w p x; why = ask_why l g k e.is w d; cover = e.cover; logs = e.logs; sound = e.sound; marked = e.marked }

  pub drop_row : (d : Block) (m : Marks) → l.line ≡ Has Shared d m → Each c shares h (drop_line m l) (record g { keep = Keeps Absent })
  drop_row d m x =
      let k = keep_is l g Shared d m e.is x in
      let ok : LineOk rt c.cur (Keeps (Has Shared d m)) = subst (LineOk rt c.cur) k e.line in
      let cv : Cover rt (Has Shared d m) l.own = subst (λ z. Cover rt (line_of z) l.own) k e.cover in
      record {
        is = drop_is l g Shared d m e.is x;
        line = drop_ok rt c.cur d m ok;
        put = no_put (settled c.asker g.role st) c.cur Absent;
        part = e.part;
        want = drop_wants g.role g.want (Has Shared d m) (subst (Wants g.role g.want) k e.want);
        why = spill_why g.role g.want (is_marked m) l.own e.why;
        cover = evict_cover rt c.cur Shared d m l.own ok cv;
        logs = spill_logs c.cur c.mem c.writer h (is_marked m) l.own e.logs;
        sound = spill_sound rt Shared d m l.own cv e.sound;
        marked = tt;
      }

  pub evict_row : (s : LineState) (d : Block) (m : Marks) → l.line ≡ Has s d m → s ≢ Shared → Each c shares h (write_back d m l) (record g { keep = Putting d (is_marked m) })
  evict_row s d m x n =
      let k = keep_is l g s d m e.is x in
      let ok : LineOk rt c.cur (Keeps (Has s d m)) = subst (LineOk rt c.cur) k e.line in
      let cv : Cover rt (Has s d m) l.own = subst (λ z. Cover rt (line_of z) l.own) k e.cover in
      record {
        is = evict_is l g s d m e.is x;
        line = evict_ok rt c.cur s d m n ok;
        put = evict_put rt (settled c.asker g.role st) c.cur s d m n ok;
        part = e.part;
        want = evict_wants c h st g.role g.want s d m (is_marked m) n (subst (Wants g.role g.want) k e.want);
        why = spill_why g.role g.want (is_marked m) l.own e.why;
        cover = evict_cover rt c.cur s d m l.own ok cv;
        logs = spill_logs c.cur c.mem c.writer h (is_marked m) l.own e.logs;
        sound = spill_sound rt s d m l.own cv e.sound;
        marked = evict_marked rt c.cur s d m l.own ok cv;
      }

  pub over_row : l.put_ack ≡ true → Each c shares h (put_over l) (record g { keep = Keeps Absent })
  over_row x =
      let k = over_keep l g e.is x in
      record {
        is = over_is l g e.is x;
        line = over_line rt c.cur k.0.0 k.0.1 (subst (LineOk rt c.cur) k.1 e.line);
        put = no_put (settled c.asker g.role st) c.cur Absent;
        part = e.part;
        want = over_wants g.role g.want k.0.0 k.0.1 (subst (Wants g.role g.want) k.1 e.want);
        why = e.why;
        cover = subst (λ z. Cover rt (line_of z) l.own) k.1 e.cover;
        logs = e.logs;
        sound = e.sound;
        marked = tt;
      }

  pub stale_row : (d : Block) (m : Bool) → l.puts ≡ Some (d, m) → c.busy ≡ None → c.owner ≢ Owned h → Each c shares h (take_put l) (record g { keep = Put_over d m })
  stale_row d m x b n =
      let k = take_put_keep l g d m e.is x in
      record {
        is = take_put_is l g d m e.is x;
        line = stale_rights c h shares g.role c.cur d m b n e.part (subst (LineOk rt c.cur) k e.line);
        put = stale_put (settled c.asker g.role st) c.cur d m (subst (PutOk (settled c.asker g.role st) c.cur) k e.put);
        part = e.part;
        want = take_put_wants g.role g.want d m (subst (Wants g.role g.want) k e.want);
        why = e.why;
        cover = subst (λ z. Cover rt (line_of z) l.own) k e.cover;
        logs = e.logs;
        sound = e.sound;
        marked = tt;
      }

  pub ack_row : (f : Fwd) → l.fwd ≡ Some f → refuses l.line l.own.overflow f.kind ≡ false → Each c shares h (acknowledge f.kind f.requester l) (ack_ghost f.kind f.requester g)
  ack_row f x n =
      let t = told c shares h l g f e x in
      let p : Part c h st (Told f.requester f.kind f.stamp) = subst (Part c h st) t e.part in
      let must = told_must c h st f p in
      let ok : LineOk st c.cur g.keep = subst (λ z. LineOk (rights z st) c.cur g.keep) t e.line in
      let po : PutOk (settled c.asker (Told f.requester f.kind f.stamp) st) c.cur g.keep = subst (λ z. PutOk (settled c.asker z st) c.cur g.keep) t e.put in
      let cv : Cover st (line_of g.keep) l.own = subst (λ z. Cover (rights z st) (line_of g.keep) l.own) t e.cover in
      let nn : refuses (line_of g.keep) l.own.overflow f.kind ≡ false = subst (λ z. refuses z l.own.overflow f.kind ≡ false) (line_is l g e.is) n in
      let d = carried (line_of g.keep) (put_of g.keep) in
      record {
        is = ack_is l g f.kind f.requester f.stamp e.is t;
        line = ack_line st c.cur g.keep f.kind l.own.overflow ok must nn;
        put = put_line (settled c.asker (Acking f.requester f.kind d) st) c.cur (after_fwd f.kind) g.keep (subst (λ z. PutOk z c.cur g.keep) (ack_settled c.asker st f.kind f.requester f.stamp d) po);
        part = ack_part c h st g.keep f.kind f.requester f.stamp p ok po;
        want = ack_wants f.kind f.requester f.stamp d g.want g.keep (subst (λ z. Wants z g.want g.keep) t e.want);
        why = ack_why f.kind f.requester f.stamp d g.want l.own (subst (λ z. Why z g.want l.own) t e.why);
        cover = ack_cover st c.cur g.keep f.kind l.own ok must nn cv;
        logs = e.logs;
        sound = e.sound;
        marked = ack_marked f.kind g.keep l.own e.marked;
      }
