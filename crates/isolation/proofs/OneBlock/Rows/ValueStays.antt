-- A load, a request, evictions and the end of a Put, which change nothing shared: what each keeps of the invariant.
use Rattle.std.proofs.Common.{◌≡◌, ◌≢◌, ℕ, Bool, true, false, Option, None, Some, ap, arith}
use Rattle.words.specs.declared.stamp.Stamp.{Stamp}
use Rattle.words.specs.declared.message.Kind.{Kind}
use Rattle.words.specs.declared.message.Kind.TheVariants.{Read}
use Rattle.words.specs.declared.message.LineState.{LineState}
use Rattle.words.specs.declared.message.LineState.TheVariants.{Shared}
use Rattle.protocol.specs.Messages.{Block}
use Rattle.words.specs.declared.marks.Marks.{Marks}
use Rattle.words.specs.Marks.{is_marked}
use Rattle.isolation.proofs.OneBlock.Model.State.{Copy, Absent, Has, Tx, Aborting, Own, Local}
use Rattle.isolation.proofs.OneBlock.Model.Core.{enough, retire, load, read_mark, load_own, ask, Due, drop_line, write_back, spill}
use Rattle.isolation.proofs.OneBlock.Model.Messages.{put_over}
use Rattle.isolation.proofs.OneBlock.Model.Directory.{Rights}
use Rattle.isolation.proofs.OneBlock.Invariant.Roles.{Role, Keep, Keeps, Putting, Put_over, Ghost, local_of, line_of}
use Rattle.isolation.proofs.OneBlock.Invariant.Parts.{LineOk, PutOk, Ctx}
use Rattle.isolation.proofs.OneBlock.Invariant.Each.{Wants, Why, Cover, Logs, Sound, PutMarked}

abbrev pub on_line : (Copy → Copy) → Keep → Keep
on_line f (Keeps x) = Keeps (f x)
on_line f (Putting d m) = Putting d m
on_line f (Put_over d m) = Put_over d m

-- a load
pub load_is : (l : Local) (g : Ghost) (a : Option Kind) → l ≡ local_of g l.own → enough Read l.line ≡ true → load a l ≡ local_of (record g { keep = on_line (read_mark l.own.tx) g.keep }) (load a l).own
load_is l g a e x = grind arith

pub line_is : (l : Local) (g : Ghost) → l ≡ local_of g l.own → l.line ≡ line_of g.keep
line_is l g e = ap (λ x. x.line) e

pub load_line : (rt : Rights) (cur : Block) (t : Tx) (keep : Keep) → LineOk rt cur keep → LineOk rt cur (on_line (read_mark t) keep)
load_line rt cur t keep e = grind arith

pub put_line : (rt : Rights) (cur : Block) (f : Copy → Copy) (keep : Keep) → PutOk rt cur keep → PutOk rt cur (on_line f keep)
put_line rt cur f keep e = grind arith

pub load_cover : (rt : Rights) (cur : Block) (a : Option Kind) (keep : Keep) (o : Own) → LineOk rt cur keep → enough Read (line_of keep) ≡ true → o.tx ≢ Aborting → Cover rt (line_of keep) o → Cover rt (line_of (on_line (read_mark o.tx) keep)) (retire a (load_own o.tx o))
load_cover rt cur a keep o l x t e = grind arith

pub load_logs : (cur mem : Block) (writer : Option ℕ) (h : ℕ) (a : Option Kind) (o : Own) → Logs cur mem writer h o → Logs cur mem writer h (retire a (load_own o.tx o))
load_logs cur mem writer h a o e = grind arith

pub load_sound : (a : Option Kind) (o : Own) → o.tx ≢ Aborting → Sound o → Sound (retire a (load_own o.tx o))
load_sound a o t e = grind arith

pub load_marked : (t : Tx) (keep : Keep) (o q : Own) → enough Read (line_of keep) ≡ true → PutMarked (on_line (read_mark t) keep) q
load_marked t keep o q x = grind arith

-- a request
pub ask_is : (l : Local) (g : Ghost) (k : Kind) → l ≡ local_of g l.own → l.wait ≡ None → ask k l ≡ local_of (record g { want = Some (k, l.own.stamp) }) (ask k l).own
ask_is l g k e w = grind arith

pub ask_wants : (l : Local) (g : Ghost) (k : Kind) (s : Option Stamp) → l ≡ local_of g l.own → l.wait ≡ None → l.put ≡ None → enough k l.line ≡ false → Wants g.role (Some (k, s)) g.keep
ask_wants l g k s e w p x = grind arith

pub ask_why : (l : Local) (g : Ghost) (k : Kind) → l ≡ local_of g l.own → l.wait ≡ None → Due l.own.tx k l.own.access l.own.images → Why g.role (Some (k, l.own.stamp)) l.own
ask_why l g k e w d = grind arith

-- evictions
pub drop_is : (l : Local) (g : Ghost) (s : LineState) (d : Block) (m : Marks) → l ≡ local_of g l.own → l.line ≡ Has s d m → drop_line m l ≡ local_of (record g { keep = Keeps Absent }) (drop_line m l).own
drop_is l g s d m e x = grind arith

pub keep_is : (l : Local) (g : Ghost) (s : LineState) (d : Block) (m : Marks) → l ≡ local_of g l.own → l.line ≡ Has s d m → g.keep ≡ Keeps (Has s d m)
keep_is l g s d m e x = grind arith

pub drop_ok : (rt : Rights) (cur d : Block) (m : Marks) → LineOk rt cur (Keeps (Has Shared d m)) → LineOk rt cur (Keeps Absent)
drop_ok rt cur d m e = grind arith

pub no_put : (rt : Rights) (cur : Block) (x : Copy) → PutOk rt cur (Keeps x)
no_put rt cur x = grind arith

pub drop_wants : (role : Role) (w : Option (Kind × Option Stamp)) (x : Copy) → Wants role w (Keeps x) → Wants role w (Keeps Absent)
drop_wants role w x e = grind arith

pub spill_why : (role : Role) (w : Option (Kind × Option Stamp)) (b : Bool) (o : Own) → Why role w o → Why role w (spill b o)
spill_why role w b o e = grind arith

pub evict_cover : (rt : Rights) (cur : Block) (s : LineState) (d : Block) (m : Marks) (o : Own) → LineOk rt cur (Keeps (Has s d m)) → Cover rt (Has s d m) o → Cover rt Absent (spill (is_marked m) o)
evict_cover rt cur s d m o l e = grind arith

pub spill_logs : (cur mem : Block) (writer : Option ℕ) (h : ℕ) (b : Bool) (o : Own) → Logs cur mem writer h o → Logs cur mem writer h (spill b o)
spill_logs cur mem writer h b o e = record { writer_is = e.writer_is; image = e.image; none = e.none; logged = e.logged; view = e.view }

pub spill_sound : (rt : Rights) (s : LineState) (d : Block) (m : Marks) (o : Own) → Cover rt (Has s d m) o → Sound o → Sound (spill (is_marked m) o)
spill_sound rt s d m o v e = grind arith

pub evict_is : (l : Local) (g : Ghost) (s : LineState) (d : Block) (m : Marks) → l ≡ local_of g l.own → l.line ≡ Has s d m → write_back d m l ≡ local_of (record g { keep = Putting d (is_marked m) }) (write_back d m l).own
evict_is l g s d m e x = grind arith

pub evict_ok : (rt : Rights) (cur : Block) (s : LineState) (d : Block) (m : Marks) → s ≢ Shared → LineOk rt cur (Keeps (Has s d m)) → LineOk rt cur (Putting d (is_marked m))
evict_ok rt cur s d m n e = grind arith

pub evict_put : (rt st : Rights) (cur : Block) (s : LineState) (d : Block) (m : Marks) → s ≢ Shared → LineOk rt cur (Keeps (Has s d m)) → PutOk st cur (Putting d (is_marked m))
evict_put rt st cur s d m n e = grind arith

pub evict_wants : (c : Ctx) (h : ℕ) (st : Rights) (role : Role) (w : Option (Kind × Option Stamp)) (s : LineState) (d : Block) (m : Marks) (b : Bool) → s ≢ Shared → Wants role w (Keeps (Has s d m)) → Wants role w (Putting d b)
evict_wants c h st role w s d m b n e = grind arith

pub evict_marked : (rt : Rights) (cur : Block) (s : LineState) (d : Block) (m : Marks) (o : Own) → LineOk rt cur (Keeps (Has s d m)) → Cover rt (Has s d m) o → PutMarked (Putting d (is_marked m)) (spill (is_marked m) o)
evict_marked rt cur s d m o l e = grind arith

-- the end of a Put
pub over_is : (l : Local) (g : Ghost) → l ≡ local_of g l.own → l.put_ack ≡ true → put_over l ≡ local_of (record g { keep = Keeps Absent }) l.own
over_is l g e x = grind arith

pub over_line : (rt : Rights) (cur d : Block) (m : Bool) → LineOk rt cur (Put_over d m) → LineOk rt cur (Keeps Absent)
over_line rt cur d m e = grind arith

pub over_wants : (role : Role) (w : Option (Kind × Option Stamp)) (d : Block) (m : Bool) → Wants role w (Put_over d m) → Wants role w (Keeps Absent)
over_wants role w d m e = grind arith
