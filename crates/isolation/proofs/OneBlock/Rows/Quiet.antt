-- A hart that doesn't wait, and the rows that change a hart's own fields alone.
use Rattle.std.proofs.Common.{◌≡◌, ◌≢◌, ℕ, Bool, true, Option, None, refl, ap, arith}
use Rattle.words.specs.declared.stamp.Stamp.{Stamp}
use Rattle.words.specs.declared.message.Kind.{Kind}
use Rattle.protocol.specs.Messages.{Block}
use Rattle.isolation.proofs.OneBlock.Model.State.{Copy, Tx, Outside, Running, Aborting, Own, Local}
use Rattle.isolation.proofs.OneBlock.Model.Core.{retire, begin, start_abort, spill_elsewhere, refuse_elsewhere, refused_elsewhere, conflict_elsewhere}
use Rattle.isolation.proofs.OneBlock.Model.Directory.{Rights, standing}
use Rattle.isolation.proofs.OneBlock.Model.Step.{Acts, with_own}
use Rattle.isolation.proofs.OneBlock.Invariant.Roles.{Role, Aside, Told, Acking, Nacking, Answered, Refused, Asks, Ends, Fails, Keep, Ghost, local_of, line_of, rights}
use Rattle.isolation.proofs.OneBlock.Invariant.Parts.{Ctx}
use Rattle.isolation.proofs.OneBlock.Invariant.Each.{Wants, Why, Cover, Logs, Sound, PutMarked, Each}

abbrev pub NotAsking : Role → Type 0
NotAsking (Asks a) = ⊥
NotAsking Aside = Unit {0}
NotAsking (Told q j s) = Unit {0}
NotAsking (Acking q j d) = Unit {0}
NotAsking (Nacking q s) = Unit {0}
NotAsking (Answered j) = Unit {0}
NotAsking Refused = Unit {0}
NotAsking (Ends g d) = Unit {0}
NotAsking Fails = Unit {0}

pub record Quiet (g : Ghost) : Type 0 where
  pub want : g.want ≡ None
  pub role : NotAsking g.role

quiet_want : (l : Local) (g : Ghost) → l ≡ local_of g l.own → l.wait ≡ None → g.want ≡ None
quiet_want l g e w = grind arith

quiet_role : (l : Local) (g : Ghost) → l ≡ local_of g l.own → l.wait ≡ None → NotAsking g.role
quiet_role l g e w = grind arith

pub quiet : (l : Local) (g : Ghost) → l ≡ local_of g l.own → l.wait ≡ None → Quiet g
quiet l g e w = record { want = quiet_want l g e w; role = quiet_role l g e w }

why_by : (role : Role) (w : Option (Kind × Option Stamp)) (o : Own) → w ≡ None → NotAsking role → Why role w o
why_by role w o e n = grind arith

pub quiet_why : (g : Ghost) (o : Own) → Quiet g → Why g.role g.want o
quiet_why g o q = why_by g.role g.want o q.want q.role

wants_by : (role : Role) (w : Option (Kind × Option Stamp)) (k : Keep) → w ≡ None → NotAsking role → Wants role w k
wants_by role w k e n = grind arith

pub quiet_wants : (g : Ghost) (k : Keep) → Quiet g → Wants g.role g.want k
quiet_wants g k q = wants_by g.role g.want k q.want q.role

-- a row that changes the hart's own fields
pub own_row : (c : Ctx) (shares : Bool) (h : ℕ) (l : Local) (g : Ghost) (o : Own) → Each c shares h l g → Why g.role g.want o → Cover (rights g.role (standing c.owner shares h)) (line_of g.keep) o → Logs c.cur c.mem c.writer h o → Sound o → PutMarked g.keep o → Each c shares h (with_own o l) g
own_row c shares h l g o e w v m s p = record { is = ap (with_own o) e.is; line = e.line; put = e.put; part = e.part; want = e.want; why = w; cover = v; logs = m; sound = s; marked = p }

retire_cover : {rt : Rights} {x : Copy} {o : Own} (a : Option Kind) → Cover rt x o → Cover rt x (retire a o)
retire_cover a e = record { reads = e.reads; stores = e.stores; r_mark = e.r_mark; w_mark = e.w_mark; x_mark = e.x_mark }

retire_logs : {cur mem : Block} {writer : Option ℕ} {h : ℕ} {o : Own} (a : Option Kind) → Logs cur mem writer h o → Logs cur mem writer h (retire a o)
retire_logs a e = record { writer_is = e.writer_is; image = e.image; none = e.none; logged = e.logged; view = e.view }

retire_sound : {o : Own} (a : Option Kind) → o.tx ≢ Aborting → Sound o → Sound (retire a o)
retire_sound a n e = grind arith

-- a Put is marked by the sets alone
pub same_sets : (keep : Keep) (o q : Own) → q.in_r ≡ o.in_r → q.in_w ≡ o.in_w → PutMarked keep o → PutMarked keep q
same_sets keep o q r w e = grind arith

begin_cover : {rt : Rights} {x : Copy} {o : Own} (s : Stamp) (a : Option Kind) → o.tx ≡ Outside → Sound o → Cover rt x o → Cover rt x (begin s a o)
begin_cover s a t z e = grind arith

begin_logs : {cur mem : Block} {writer : Option ℕ} {h : ℕ} {o : Own} (s : Stamp) (a : Option Kind) → o.tx ≡ Outside → Sound o → Logs cur mem writer h o → Logs cur mem writer h (begin s a o)
begin_logs s a t z e = grind arith

begin_sound : (o : Own) (s : Stamp) (a : Option Kind) → Sound (begin s a o)
begin_sound o s a = grind arith

begin_marked : (keep : Keep) (o : Own) (s : Stamp) (a : Option Kind) → PutMarked keep (begin s a o)
begin_marked keep o s a = grind arith

abort_logs : {cur mem : Block} {writer : Option ℕ} {h : ℕ} {o : Own} (b : Bool) → Logs cur mem writer h o → Logs cur mem writer h (record o { tx = Aborting; conflict = b })
abort_logs b e = grind arith

abort_sound : {o : Own} → o.tx ≡ Running → Sound o → Sound (record o { tx = Aborting })
abort_sound t e = grind arith

spill_cover : {rt : Rights} {x : Copy} {o : Own} → Cover rt x o → Cover rt x (record o { overflow = true; spilled = true })
spill_cover e = grind arith

spill_sound : {o : Own} → o.tx ≢ Outside → Sound o → Sound (record o { overflow = true; spilled = true })
spill_sound t e = grind arith

refuse_sound : {o : Own} → o.tx ≢ Outside → Sound o → Sound (record o { flag = true; refused_earlier = true })
refuse_sound t e = grind arith

note_sound : {o : Own} → Sound o → Sound (record o { noted = true })
note_sound e = grind arith

clash_sound : {o : Own} → o.tx ≡ Running → o.flag ≡ true → o.noted ≡ true → Sound o → Sound (record o { tx = Aborting; conflict = true })
clash_sound t f n e = grind arith

why_spill : (role : Role) (w : Option (Kind × Option Stamp)) (o : Own) → Why role w o → Why role w (record o { overflow = true; spilled = true })
why_spill role w o e = grind arith

why_refuse : (role : Role) (w : Option (Kind × Option Stamp)) (o : Own) → Why role w o → Why role w (record o { flag = true; refused_earlier = true })
why_refuse role w o e = grind arith

same_cover : {rt : Rights} {x : Copy} {o : Own} (t : Tx) (b f r n : Bool) → Cover rt x o → Cover rt x (record o { tx = t; conflict = b; flag = f; refused_earlier = r; noted = n })
same_cover t b f r n e = record { reads = e.reads; stores = e.stores; r_mark = e.r_mark; w_mark = e.w_mark; x_mark = e.x_mark }

same_logs : {cur mem : Block} {writer : Option ℕ} {h : ℕ} {o : Own} (v s f r n : Bool) → Logs cur mem writer h o → Logs cur mem writer h (record o { overflow = v; spilled = s; flag = f; refused_earlier = r; noted = n })
same_logs v s f r n e = record { writer_is = e.writer_is; image = e.image; none = e.none; logged = e.logged; view = e.view }

module _ (c : Ctx) (shares : Bool) (h : ℕ) (l : Local) (g : Ghost) (e : Each c shares h l g) where
  by_quiet : (o : Own) → l.wait ≡ None → Why g.role g.want o
  by_quiet o w = quiet_why g o (quiet l g e.is w)

  pub retire_row : (a : Option Kind) → Acts l → Each c shares h (with_own (retire a l.own) l) g
  retire_row a t = own_row c shares h l g _ e (by_quiet _ t.free) (retire_cover a e.cover) (retire_logs a e.logs) (retire_sound a t.tx e.sound) (same_sets g.keep l.own _ refl refl e.marked)

  pub begin_row : (s : Stamp) (a : Option Kind) → l.wait ≡ None → l.own.tx ≡ Outside → Each c shares h (with_own (begin s a l.own) l) g
  begin_row s a w t = own_row c shares h l g _ e (by_quiet _ w) (begin_cover s a t e.sound e.cover) (begin_logs s a t e.sound e.logs) (begin_sound l.own s a) (begin_marked g.keep l.own s a)

  pub start_abort_row : l.wait ≡ None → l.own.tx ≡ Running → Each c shares h (start_abort l) g
  start_abort_row w t = own_row c shares h l g _ e (by_quiet _ w) (same_cover Aborting l.own.conflict l.own.flag l.own.refused_earlier l.own.noted e.cover) (abort_logs l.own.conflict e.logs) (abort_sound t e.sound) (same_sets g.keep l.own _ refl refl e.marked)

  pub spill_row : l.own.tx ≢ Outside → Each c shares h (spill_elsewhere l) g
  spill_row t = own_row c shares h l g _ e (why_spill g.role g.want l.own e.why) (spill_cover e.cover) (same_logs true true l.own.flag l.own.refused_earlier l.own.noted e.logs) (spill_sound t e.sound) (same_sets g.keep l.own _ refl refl e.marked)

  pub refuse_row : l.own.tx ≢ Outside → Each c shares h (refuse_elsewhere l) g
  refuse_row t = own_row c shares h l g _ e (why_refuse g.role g.want l.own e.why) (same_cover l.own.tx l.own.conflict true true l.own.noted e.cover) (same_logs l.own.overflow l.own.spilled true true l.own.noted e.logs) (refuse_sound t e.sound) (same_sets g.keep l.own _ refl refl e.marked)

  pub note_row : l.wait ≡ None → Each c shares h (refused_elsewhere l) g
  note_row w = own_row c shares h l g _ e (by_quiet _ w) (same_cover l.own.tx l.own.conflict l.own.flag l.own.refused_earlier true e.cover) (same_logs l.own.overflow l.own.spilled l.own.flag l.own.refused_earlier true e.logs) (note_sound e.sound) (same_sets g.keep l.own _ refl refl e.marked)

  pub clash_row : l.wait ≡ None → l.own.tx ≡ Running → l.own.flag ≡ true → l.own.noted ≡ true → Each c shares h (conflict_elsewhere l) g
  clash_row w t f n = own_row c shares h l g _ e (by_quiet _ w) (same_cover Aborting true l.own.flag l.own.refused_earlier l.own.noted e.cover) (abort_logs true e.logs) (clash_sound t f n e.sound) (same_sets g.keep l.own _ refl refl e.marked)
