-- A store, an undo, a commit and the end of an abort, each put together: the hart itself, and the others.
use Rattle.std.proofs.Common.{◌≡◌, ◌≢◌, ℕ, List, [], ◌∷◌, Bool, true, false, Option, None, Some, cond, eqb, sym, subst, arith}
use Rattle.std.proofs.lemmas.Bool.{eqb-true, eqb-false}
use Rattle.words.specs.declared.message.Kind.{Kind}
use Rattle.words.specs.declared.message.Kind.TheVariants.{Write}
use Rattle.protocol.specs.Messages.{Block}
use Rattle.isolation.proofs.OneBlock.Model.State.{Tx, Running, Aborting, Own, Local, lay}
use Rattle.isolation.proofs.OneBlock.Model.Core.{enough, retire, stored, store_own, store, flat_after, put_back, undo, clear_marks, leave}
use Rattle.isolation.proofs.OneBlock.Model.Directory.{Rights, Owns, standing}
use Rattle.isolation.proofs.OneBlock.Model.Step.{Acts}
use Rattle.isolation.proofs.OneBlock.Invariant.Roles.{Keep, Ghost, local_of, line_of, rights, settled}
use Rattle.isolation.proofs.OneBlock.Invariant.Parts.{LineOk, Ctx}
use Rattle.isolation.proofs.OneBlock.Invariant.Each.{Cover, Logs, Sound, PutMarked, Each}
use Rattle.isolation.proofs.OneBlock.Rows.Quiet.{quiet, quiet_why, quiet_wants}
use Rattle.isolation.proofs.OneBlock.Rows.ValueStays.{on_line, line_is, put_line}
use Rattle.isolation.proofs.OneBlock.Rows.ValueChanges.{owns, own_part, writer_after, store_is, store_line, present_put, present_marked, store_cover, store_sound, store_logs}

undo_is : (l : Local) (g : Ghost) (v : Block) (rest : List Block) → l ≡ local_of g l.own → enough Write l.line ≡ true → undo v rest l ≡ local_of (record g { keep = on_line (put_back v) g.keep }) (undo v rest l).own
undo_is l g v rest e x = grind arith

undo_line : (rt : Rights) (cur v : Block) (keep : Keep) → enough Write (line_of keep) ≡ true → LineOk rt cur keep → LineOk rt v (on_line (put_back v) keep)
undo_line rt cur v keep x e = grind arith

undo_logs : (cur mem : Block) (w : Option ℕ) (h : ℕ) (v : Block) (rest : List Block) (o : Own) → o.tx ≡ Aborting → o.images ≡ v ∷ rest → Logs cur mem w h o → Logs v mem w h (record o { images = rest })
undo_logs cur mem w h v rest o t i e = grind arith

logged_written : (cur mem : Block) (w : Option ℕ) (h : ℕ) (v : Block) (rest : List Block) (o : Own) → o.images ≡ v ∷ rest → Logs cur mem w h o → o.in_w ≡ true
logged_written cur mem w h v rest o i e = grind arith

-- an E line is of no written block
undo_cover : (rt : Rights) (v : Block) (rest : List Block) (keep : Keep) (o : Own) → enough Write (line_of keep) ≡ true → o.in_w ≡ true → Cover rt (line_of keep) o → Cover rt (line_of (on_line (put_back v) keep)) (record o { images = rest })
undo_cover rt v rest keep o x i e = grind arith

undo_sound : (rest : List Block) (o : Own) → Sound o → Sound (record o { images = rest })
undo_sound rest o e = record { outside = e.outside; spill = e.spill; flagged = e.flagged; clash = e.clash }

-- a commit
abbrev pub not_at : ℕ → Option ℕ → Option ℕ
not_at h None = None
not_at h (Some o) = cond (eqb o h) None (Some o)

leave_is : (l : Local) (g : Ghost) (o : Own) → l ≡ local_of g l.own → record l { line = clear_marks l.line; own = o } ≡ local_of (record g { keep = on_line clear_marks g.keep }) o
leave_is l g o e = grind arith

leave_line : (rt : Rights) (cur : Block) (keep : Keep) → LineOk rt cur keep → LineOk rt cur (on_line clear_marks keep)
leave_line rt cur keep e = grind arith

leave_cover : (rt : Rights) (x : Keep) (b : Bool) (a : Option Kind) (o : Own) → Cover rt (line_of (on_line clear_marks x)) (leave b a o)
leave_cover rt x b a o = grind arith

leave_logs : (cur mem m : Block) (w : Option ℕ) (h : ℕ) (b : Bool) (a : Option Kind) (o : Own) → Logs cur mem w h o → Logs cur m (not_at h w) h (leave b a o)
leave_logs cur mem m w h b a o e = grind (arith, eqb-true, eqb-false)

leave_sound : (b : Bool) (a : Option Kind) (o : Own) → Sound (leave b a o)
leave_sound b a o = grind arith

leave_marked : (keep : Keep) (b : Bool) (a : Option Kind) (o : Own) → PutMarked keep (leave b a o)
leave_marked keep b a o = grind arith

-- flat memory changes by a commit only where the hart wrote, and then no other hart did
commit_others : (cur mem : Block) (w : Option ℕ) (h j : ℕ) (o q : Own) → j ≢ h → Logs cur mem w h o → Logs cur mem w j q → Logs cur (lay o.writes mem) (not_at h w) j q
commit_others cur mem w h j o q n e f = grind (arith, eqb-true, eqb-false)

abort_others : (cur mem : Block) (w : Option ℕ) (h j : ℕ) (q : Own) → j ≢ h → Logs cur mem w j q → Logs cur mem (not_at h w) j q
abort_others cur mem w h j q n f = grind (arith, eqb-true, eqb-false)

pub commit_flat : (cur mem : Block) (w : Option ℕ) (h : ℕ) (o : Own) → o.tx ≡ Running → (w ≡ None → cur ≡ mem) → Logs cur mem w h o → not_at h w ≡ None → cur ≡ lay o.writes mem
commit_flat cur mem w h o t f e n = grind (arith, eqb-true, eqb-false)

pub abort_flat : (cur mem : Block) (w : Option ℕ) (h : ℕ) (o : Own) → o.images ≡ [] → (w ≡ None → cur ≡ mem) → Logs cur mem w h o → not_at h w ≡ None → cur ≡ mem
abort_flat cur mem w h o t f e n = grind (arith, eqb-true, eqb-false)

pub undo_flat : (cur mem v : Block) (w : Option ℕ) (h : ℕ) (rest : List Block) (o : Own) → o.images ≡ v ∷ rest → Logs cur mem w h o → w ≡ None → v ≡ mem
undo_flat cur mem v w h rest o i e n = grind arith

pub store_flat : (cur mem : Block) (w : Option ℕ) (h : ℕ) (t : Tx) (p : Block → Block) → t ≢ Aborting → (w ≡ None → cur ≡ mem) → writer_after t h w ≡ None → p cur ≡ flat_after t p mem
store_flat cur mem w h t p n f e = grind arith

module _ (c : Ctx) (shares : Bool) (h : ℕ) (l : Local) (g : Ghost) (e : Each c shares h l g) where
  abbrev st : Rights
  st = standing c.owner shares h

  abbrev rt : Rights
  rt = rights g.role (standing c.owner shares h)

  pub owns_it : enough Write l.line ≡ true → rt ≡ Owns
  owns_it x = owns rt c.cur g.keep e.line (subst (λ z. enough Write z ≡ true) (line_is l g e.is) x)

  pub store_row : (p : Block → Block) (a : Option Kind) → Acts l → enough Write l.line ≡ true → (l.own.in_w ≡ false → c.cur ≡ c.mem) → Each (record c { cur = p c.cur; mem = flat_after l.own.tx p c.mem; writer = writer_after l.own.tx h c.writer }) shares h (store p a l) (record g { keep = on_line (stored l.own.tx p) g.keep })
  store_row p a t x f =
      let q = quiet l g e.is t.free in
      let y : enough Write (line_of g.keep) ≡ true = subst (λ z. enough Write z ≡ true) (line_is l g e.is) x in
      let o = owns rt c.cur g.keep e.line y in
      record {
        is = store_is l g p a e.is x;
        line = store_line rt c.cur l.own.tx p g.keep y t.tx e.line;
        put = present_put (settled c.asker g.role st) (p c.cur) (stored l.own.tx p) g.keep y;
        part = own_part c h st (p c.cur) g.role o e.part;
        want = quiet_wants g _ q;
        why = quiet_why g _ q;
        cover = subst (λ z. Cover rt (line_of (on_line (stored l.own.tx p) g.keep)) (retire a (store_own l.own.tx p z l.own))) (sym (line_is l g e.is)) (store_cover rt p a g.keep l.own o y t.tx e.sound e.cover);
        logs = subst (λ z. Logs (p c.cur) (flat_after l.own.tx p c.mem) (writer_after l.own.tx h c.writer) h (retire a (store_own l.own.tx p z l.own))) (sym (line_is l g e.is)) (store_logs rt c.cur c.mem c.writer h p a g.keep l.own e.line y t.tx e.sound e.cover f e.logs);
        sound = store_sound p a l.line l.own t.tx e.sound;
        marked = present_marked _ (stored l.own.tx p) g.keep y;
      }

  pub undo_row : (v : Block) (rest : List Block) → l.wait ≡ None → l.own.tx ≡ Aborting → l.own.images ≡ v ∷ rest → enough Write l.line ≡ true → Each (record c { cur = v }) shares h (undo v rest l) (record g { keep = on_line (put_back v) g.keep })
  undo_row v rest w t i x =
      let q = quiet l g e.is w in
      let y : enough Write (line_of g.keep) ≡ true = subst (λ z. enough Write z ≡ true) (line_is l g e.is) x in
      let o = owns rt c.cur g.keep e.line y in
      record {
        is = undo_is l g v rest e.is x;
        line = undo_line rt c.cur v g.keep y e.line;
        put = present_put (settled c.asker g.role st) v (put_back v) g.keep y;
        part = own_part c h st v g.role o e.part;
        want = quiet_wants g _ q;
        why = quiet_why g _ q;
        cover = undo_cover rt v rest g.keep l.own y (logged_written c.cur c.mem c.writer h v rest l.own i e.logs) e.cover;
        logs = undo_logs c.cur c.mem c.writer h v rest l.own t i e.logs;
        sound = undo_sound rest l.own e.sound;
        marked = present_marked _ (put_back v) g.keep y;
      }

  -- the hart leaves its transaction, and flat memory becomes m
  pub leave_row : (m : Block) (b : Bool) (a : Option Kind) → l.wait ≡ None → Each (record c { mem = m; writer = not_at h c.writer }) shares h (record l { line = clear_marks l.line; own = leave b a l.own }) (record g { keep = on_line clear_marks g.keep })
  leave_row m b a w =
      let q = quiet l g e.is w in
      record {
        is = leave_is l g (leave b a l.own) e.is;
        line = leave_line rt c.cur g.keep e.line;
        put = put_line (settled c.asker g.role st) c.cur clear_marks g.keep e.put;
        part = e.part;
        want = quiet_wants g _ q;
        why = quiet_why g _ q;
        cover = leave_cover rt g.keep b a l.own;
        logs = leave_logs c.cur c.mem m c.writer h b a l.own e.logs;
        sound = leave_sound b a l.own;
        marked = leave_marked _ b a l.own;
      }

  pub others_row : (m : Block) (w : Option ℕ) → Logs c.cur m w h l.own → Each (record c { mem = m; writer = w }) shares h l g
  others_row m w z = record { is = e.is; line = e.line; put = e.put; part = e.part; want = e.want; why = e.why; cover = e.cover; logs = z; sound = e.sound; marked = e.marked }

  pub commit_other : (i : ℕ) (o : Own) → h ≢ i → Logs c.cur c.mem c.writer i o → Each (record c { mem = lay o.writes c.mem; writer = not_at i c.writer }) shares h l g
  commit_other i o n z = others_row _ _ (commit_others c.cur c.mem c.writer i h o l.own n z e.logs)

  pub abort_other : (i : ℕ) → h ≢ i → Each (record c { writer = not_at i c.writer }) shares h l g
  abort_other i n = others_row _ _ (abort_others c.cur c.mem c.writer i h l.own n e.logs)
