-- Rows that change the value in place or flat memory: a store and an undo.
use Rattle.std.proofs.Common.{◌≡◌, ◌≢◌, ℕ, Bool, true, false, Option, None, Some, sym, ◌∙◌, arith}
use Rattle.std.proofs.lemmas.Bool.{eq-eqb}
use Rattle.words.specs.declared.message.Kind.{Kind}
use Rattle.words.specs.declared.message.Kind.TheVariants.{Write}
use Rattle.words.specs.declared.message.LineState.{LineState}
use Rattle.protocol.specs.Messages.{Block}
use Rattle.protocol.specs.Directory.{Owner, Owned}
use Rattle.isolation.proofs.OneBlock.Model.State.{Copy, Tx, Outside, Running, Aborting, Own, Local}
use Rattle.isolation.proofs.OneBlock.Model.Core.{enough, retire, stored, store_own, store, flat_after}
use Rattle.isolation.proofs.OneBlock.Model.Directory.{Rights, Owns, Nothing, standing}
use Rattle.isolation.proofs.OneBlock.Invariant.Roles.{Role, Aside, Told, Acking, Nacking, Answered, Refused, Asks, Ends, Fails, Keep, Ghost, local_of, line_of, given, rights, settled}
use Rattle.isolation.proofs.OneBlock.Invariant.Parts.{LineOk, PutOk, Ctx, Part, PartOf}
use Rattle.isolation.proofs.OneBlock.Invariant.Each.{Cover, is_at, Logs, Sound, PutMarked, Agree, Center, Each}
use Rattle.isolation.proofs.OneBlock.Rows.ValueStays.{on_line}

-- h alone has the block
abbrev pub Sole : Owner → Option (ℕ × LineState) → Role → ℕ → Type 0
Sole owner None asker h = owner ≡ Owned h
Sole owner (Some b) (Asks a) h = (owner ≡ Owned h) × (h ≢ b.0) × (a.kept ≡ None)
Sole owner (Some b) (Ends g d) h = (h ≡ b.0) × (g ≡ b.1) × (given g ≡ Owns)
Sole owner (Some b) Fails h = (owner ≡ Owned h) × (h ≢ b.0)
Sole owner (Some b) Aside h = ⊥
Sole owner (Some b) (Told q k s) h = ⊥
Sole owner (Some b) (Acking q k d) h = ⊥
Sole owner (Some b) (Nacking q s) h = ⊥
Sole owner (Some b) (Answered k) h = ⊥
Sole owner (Some b) Refused h = ⊥

pub owns : (rt : Rights) (cur : Block) (keep : Keep) → LineOk rt cur keep → enough Write (line_of keep) ≡ true → rt ≡ Owns
owns rt cur keep e x = grind arith

pub sole : (c : Ctx) (shares : Bool) (h : ℕ) (role : Role) → Agree c.busy c.asker → Part c h (standing c.owner shares h) role → rights role (standing c.owner shares h) ≡ Owns → Sole c.owner c.busy c.asker h
sole c shares h role a p r = grind arith

pub sole_rights : (c : Ctx) (h j : ℕ) (b : Bool) (role : Role) → Sole c.owner c.busy c.asker h → j ≢ h → Part c j (standing c.owner b j) role → rights role (standing c.owner b j) ≡ Nothing
sole_rights c h j b role s n p = grind arith

pub sole_settled : (c : Ctx) (h j : ℕ) (b : Bool) (role : Role) → Sole c.owner c.busy c.asker h → j ≢ h → Part c j (standing c.owner b j) role → settled c.asker role (standing c.owner b j) ≡ Nothing
sole_settled c h j b role s n p = grind arith

pub sole_part : (c : Ctx) (h j : ℕ) (b : Bool) (d : Block) (role : Role) → Sole c.owner c.busy c.asker h → j ≢ h → Part c j (standing c.owner b j) role → PartOf c.busy c.asker d j (standing c.owner b j) role
sole_part c h j b d role s n p = grind arith

pub own_part : (c : Ctx) (h : ℕ) (st : Rights) (d : Block) (role : Role) → rights role st ≡ Owns → Part c h st role → PartOf c.busy c.asker d h st role
own_part c h st d role r p = grind arith

pub sole_center : (c : Ctx) (h : ℕ) (d : Block) → Sole c.owner c.busy c.asker h → (c.busy ≡ None → c.asker ≡ Aside) → Center c.owner c.memory c.cur c.asker → Center c.owner c.memory d c.asker
sole_center c h d s a z = grind arith

pub nothing_line : (rt : Rights) (cur d : Block) (k : Keep) → rt ≡ Nothing → LineOk rt cur k → LineOk rt d k
nothing_line rt cur d k z m = grind arith

pub nothing_put : (st : Rights) (d : Block) (k : Keep) → st ≡ Nothing → PutOk st d k
nothing_put st d k z = grind arith

pub nothing_unwritten : (rt : Rights) (x : Copy) (o : Own) → rt ≡ Nothing → Cover rt x o → o.in_w ≡ false
nothing_unwritten rt x o z e = grind arith

pub nothing_unread : (rt : Rights) (x : Copy) (o : Own) → rt ≡ Nothing → Cover rt x o → o.in_r ≡ false
nothing_unread rt x o z e = grind arith

abbrev pub writer_after : Tx → ℕ → Option ℕ → Option ℕ
writer_after Outside h w = w
writer_after Aborting h w = w
writer_after Running h w = Some h

pub unwritten_logs : (cur mem d m : Block) (w v : Option ℕ) (j : ℕ) (o : Own) → o.in_w ≡ false → is_at v j ≡ false → Logs cur mem w j o → Logs d m v j o
unwritten_logs cur mem d m w v j o z f e = grind arith

pub writer_off : (t : Tx) (h j : ℕ) (w : Option ℕ) → j ≢ h → is_at w j ≡ false → is_at (writer_after t h w) j ≡ false
writer_off t h j w n e = grind arith

-- the others, where h alone has the block: nothing of them stands for its value
pub sole_others : (c : Ctx) (h j : ℕ) (b : Bool) (l : Local) (g : Ghost) (d m : Block) (t : Tx) → Sole c.owner c.busy c.asker h → j ≢ h → Each c b j l g → Each (record c { cur = d; mem = m; writer = writer_after t h c.writer }) b j l g
sole_others c h j b l g d m t s n e =
    let z = sole_rights c h j b g.role s n e.part in
    let q = sole_settled c h j b g.role s n e.part in
    let u = nothing_unwritten _ (line_of g.keep) l.own z e.cover in
    record {
      is = e.is;
      line = nothing_line _ c.cur d g.keep z e.line;
      put = nothing_put _ d g.keep q;
      part = sole_part c h j b d g.role s n e.part;
      want = e.want;
      why = e.why;
      cover = e.cover;
      logs = unwritten_logs c.cur c.mem d m c.writer (writer_after t h c.writer) j l.own u (writer_off t h j c.writer n (sym e.logs.writer_is ∙ u)) e.logs;
      sound = e.sound;
      marked = e.marked;
    }

-- the store itself
pub store_is : (l : Local) (g : Ghost) (p : Block → Block) (a : Option Kind) → l ≡ local_of g l.own → enough Write l.line ≡ true → store p a l ≡ local_of (record g { keep = on_line (stored l.own.tx p) g.keep }) (store p a l).own
store_is l g p a e x = grind arith

pub store_line : (rt : Rights) (cur : Block) (t : Tx) (p : Block → Block) (keep : Keep) → enough Write (line_of keep) ≡ true → t ≢ Aborting → LineOk rt cur keep → LineOk rt (p cur) (on_line (stored t p) keep)
store_line rt cur t p keep x n e = grind arith

pub present_put : (st : Rights) (d : Block) (f : Copy → Copy) (keep : Keep) → enough Write (line_of keep) ≡ true → PutOk st d (on_line f keep)
present_put st d f keep x = grind arith

pub present_marked : (o : Own) (f : Copy → Copy) (keep : Keep) → enough Write (line_of keep) ≡ true → PutMarked (on_line f keep) o
present_marked o f keep x = grind arith

pub store_cover : (rt : Rights) (p : Block → Block) (a : Option Kind) (keep : Keep) (o : Own) → rt ≡ Owns → enough Write (line_of keep) ≡ true → o.tx ≢ Aborting → Sound o → Cover rt (line_of keep) o → Cover rt (line_of (on_line (stored o.tx p) keep)) (retire a (store_own o.tx p (line_of keep) o))
store_cover rt p a keep o r x n s e = grind arith

pub store_sound : (p : Block → Block) (a : Option Kind) (x : Copy) (o : Own) → o.tx ≢ Aborting → Sound o → Sound (retire a (store_own o.tx p x o))
store_sound p a x o n e = grind arith

pub store_logs : (rt : Rights) (cur mem : Block) (w : Option ℕ) (h : ℕ) (p : Block → Block) (a : Option Kind) (keep : Keep) (o : Own) → LineOk rt cur keep → enough Write (line_of keep) ≡ true → o.tx ≢ Aborting → Sound o → Cover rt (line_of keep) o → (o.in_w ≡ false → cur ≡ mem) → Logs cur mem w h o → Logs (p cur) (flat_after o.tx p mem) (writer_after o.tx h w) h (retire a (store_own o.tx p (line_of keep) o))
store_logs rt cur mem w h p a keep o l x n s v f e = grind (arith, eq-eqb)
