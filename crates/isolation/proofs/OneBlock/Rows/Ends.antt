-- The end of a request of r, who is given s.
use Rattle.std.proofs.Common.{◌≡◌, ◌≢◌, ℕ, Bool, true, false, Option, None, Some, cond, subst, arith}
use Rattle.std.proofs.lemmas.Bool.{eq-eqb}
use Rattle.words.specs.declared.stamp.Stamp.{Stamp}
use Rattle.words.specs.declared.message.Kind.{Kind}
use Rattle.words.specs.declared.message.LineState.{LineState}
use Rattle.protocol.specs.Messages.{Block, Granted}
use Rattle.protocol.specs.Directory.{Owner, Owned}
use Rattle.isolation.proofs.OneBlock.Model.State.{Wait, Aborting, Own, Local, value_of}
use Rattle.isolation.proofs.OneBlock.Model.Messages.{filled, sent_back, fail_own, end_refused, end_granted}
use Rattle.isolation.proofs.OneBlock.Model.Directory.{Rights, Owns, Sticks, standing, must_tell}
use Rattle.isolation.proofs.OneBlock.Invariant.Roles.{Ask, Role, Asks, Ends, Fails, Keep, Keeps, Ghost, local_of, line_of, given, rights, settled}
use Rattle.isolation.proofs.OneBlock.Invariant.Parts.{LineOk, PutOk, OwnFits, Ctx, PartOf}
use Rattle.isolation.proofs.OneBlock.Invariant.Each.{Wants, WantOk, Why, WhyAsk, Cover, Logs, Sound, PutMarked, Center, Each}
use Rattle.isolation.proofs.OneBlock.Rows.ValueStays.{no_put}
use Rattle.isolation.proofs.OneBlock.Rows.Answers.{busy_with, asker_is, Apart}

abbrev pub wait_of : Ask → Wait
wait_of a = record { kind = a.kind; grant = cond a.sent None (Some a.grant); from = a.from; refused = a.nay; content = a.kept; early = a.early }

-- who asks waits, with what it has kept of its answers
pub waiting : (l : Local) (g : Ghost) (a : Ask) → l ≡ local_of g l.own → g.role ≡ Asks a → l.wait ≡ Some (wait_of a)
waiting l g a e t = grind arith

-- and what it waits with is that
pub waits : (l : Local) (g : Ghost) (a : Ask) (w : Wait) → l ≡ local_of g l.own → g.role ≡ Asks a → l.wait ≡ Some w → w ≡ wait_of a
waits l g a w e t f = grind arith

pub grants : (a : Ask) (w : Wait) (x : Granted) → w ≡ wait_of a → w.grant ≡ Some x → (x ≡ a.grant) × (a.sent ≡ false)
grants a w x e f = grind arith

-- what the requester has before
pub record Ready (st : Rights) (cur : Block) (s : LineState) (a : Ask) (keep : Keep) (o : Own) : Type 0 where
  pub line : LineOk st cur keep
  pub want : WantOk a.kind keep
  pub fits : OwnFits s st a.kind
  pub cover : Cover st (line_of keep) o
  pub why : WhyAsk a o

fits_of : (r : ℕ) (s : LineState) (a : Ask) (cur : Block) (st : Rights) → PartOf (Some (r, s)) (Asks a) cur r st (Asks a) → OwnFits s st a.kind
fits_of r s a cur st p = grind arith

pub ready : (c : Ctx) (shares : Bool) (r : ℕ) (l : Local) (g : Ghost) (s : LineState) (a : Ask) → Each (busy_with r s (Asks a) c) shares r l g → Ready (standing c.owner shares r) c.cur s a g.keep l.own
ready c shares r l g s a e =
    let st = standing c.owner shares r in
    let t = asker_is r s (Asks a) c.cur st g.role e.part in
    record {
      line = subst (λ x. LineOk (rights x st) c.cur g.keep) t e.line;
      want = (subst (λ x. Wants x g.want g.keep) t e.want).1;
      fits = fits_of r s a c.cur st (subst (PartOf (Some (r, s)) (Asks a) c.cur r st) t e.part);
      cover = subst (λ x. Cover (rights x st) (line_of g.keep) l.own) t e.cover;
      why = subst (λ x. Why x g.want l.own) t e.why;
    }

-- granted
abbrev pub end_ghost : LineState → Ask → Bool → Block → Ghost → Ghost
end_ghost s a overflow cur g = record { role = Ends s (sent_back s a.kept); want = None; keep = Keeps (filled s overflow cur (line_of g.keep)) }

end_is : (l : Local) (g : Ghost) (s : LineState) (a : Ask) (cur : Block) → l ≡ local_of g l.own → g.role ≡ Asks a → a.sent ≡ false → g.want ≡ None → WantOk a.kind g.keep → a.grant.give ≡ s → value_of a.kept a.grant.content ≡ cur → end_granted (wait_of a) a.grant l ≡ local_of (end_ghost s a l.own.overflow cur g) l.own
end_is l g s a cur e t n w k y v = grind arith

end_line : (st : Rights) (cur : Block) (s : LineState) (k : Kind) (overflow : Bool) (keep : Keep) → LineOk st cur keep → WantOk k keep → OwnFits s st k → LineOk (given s) cur (Keeps (filled s overflow cur (line_of keep)))
end_line st cur s k overflow keep l w f = grind arith

end_part : (r : ℕ) (s : LineState) (k : Kind) (d : Option Block) (cur : Block) (st : Rights) → OwnFits s st k → PartOf (Some (r, s)) (Ends s d) cur r st (Ends s d)
end_part r s k d cur st f = grind arith

end_cover : (st : Rights) (cur : Block) (s : LineState) (k : Kind) (keep : Keep) (o : Own) → LineOk st cur keep → WantOk k keep → OwnFits s st k → Cover st (line_of keep) o → Cover (given s) (filled s o.overflow cur (line_of keep)) o
end_cover st cur s k keep o l w f v = grind arith

pub end_row : (c : Ctx) (shares : Bool) (r : ℕ) (l : Local) (g : Ghost) (s : LineState) (a : Ask) → Each (busy_with r s (Asks a) c) shares r l g → a.sent ≡ false → a.grant.give ≡ s → value_of a.kept a.grant.content ≡ c.cur → Each (busy_with r s (Ends s (sent_back s a.kept)) c) shares r (end_granted (wait_of a) a.grant l) (end_ghost s a l.own.overflow c.cur g)
end_row c shares r l g s a e n y v =
    let st = standing c.owner shares r in
    let t = asker_is r s (Asks a) c.cur st g.role e.part in
    let z = ready c shares r l g s a e in
    record {
      is = end_is l g s a c.cur e.is t n (subst (λ x. Wants x g.want g.keep) t e.want).0 z.want y v;
      line = end_line st c.cur s a.kind l.own.overflow g.keep z.line z.want z.fits;
      put = no_put _ c.cur (filled s l.own.overflow c.cur (line_of g.keep));
      part = end_part r s a.kind (sent_back s a.kept) c.cur st z.fits;
      want = tt;
      why = tt;
      cover = end_cover st c.cur s a.kind g.keep l.own z.line z.want z.fits z.cover;
      logs = e.logs;
      sound = e.sound;
      marked = tt;
    }

end_other_part : (r : ℕ) (s : LineState) (a : Ask) (d : Option Block) (cur : Block) (j : ℕ) (st : Rights) (role : Role) → j ≢ r → a.nay ≡ false → (a.grant.expect j ≡ true → a.from j ≡ true) → PartOf (Some (r, s)) (Asks a) cur j st role → PartOf (Some (r, s)) (Ends s d) cur j st role
end_other_part r s a d cur j st role n y f p = grind arith

end_other_put : (r : ℕ) (s : LineState) (a : Ask) (d : Option Block) (cur : Block) (j : ℕ) (st : Rights) (role : Role) (keep : Keep) → j ≢ r → PartOf (Some (r, s)) (Asks a) cur j st role → PutOk st cur keep → PutOk (settled (Ends s d) role st) cur keep
end_other_put r s a d cur j st role keep n p m = grind arith

pub end_other : (c : Ctx) (shares : Bool) (j : ℕ) (l : Local) (g : Ghost) (r : ℕ) (s : LineState) (a : Ask) (d : Option Block) → j ≢ r → a.nay ≡ false → (a.grant.expect j ≡ true → a.from j ≡ true) → Each (busy_with r s (Asks a) c) shares j l g → Each (busy_with r s (Ends s d) c) shares j l g
end_other c shares j l g r s a d n y f e =
    let st = standing c.owner shares j in
    record { is = e.is; line = e.line; put = end_other_put r s a d c.cur j st g.role g.keep n e.part e.put; part = end_other_part r s a d c.cur j st g.role n y f e.part; want = e.want; why = e.why; cover = e.cover; logs = e.logs; sound = e.sound; marked = e.marked }

-- of an owner the requester has the value in place
pub end_owner : (r : ℕ) (s : LineState) (a : Ask) (cur : Block) (o : ℕ) (st : Rights) (role : Role) → st ≡ Owns → a.nay ≡ false → (a.grant.expect o ≡ true → a.from o ≡ true) → PartOf (Some (r, s)) (Asks a) cur o st role → a.kept ≡ Some cur
end_owner r s a cur o st role z y f p = grind arith

pub owner_stands : (owner : Owner) (o : ℕ) (shares : Bool) → owner ≡ Owned o → standing owner shares o ≡ Owns
owner_stands owner o shares e = grind (arith, eq-eqb)

pub end_value : (owner : Owner) (memory cur : Block) (a : Ask) → ((o : ℕ) → owner ≡ Owned o → a.kept ≡ Some cur) → Center owner memory cur (Asks a) → value_of a.kept a.grant.content ≡ cur
end_value owner memory cur a o z = grind arith

pub end_center : (owner : Owner) (memory cur : Block) (s : LineState) (a : Ask) → ((o : ℕ) → owner ≡ Owned o → a.kept ≡ Some cur) → Center owner memory cur (Asks a) → Center owner memory cur (Ends s (sent_back s a.kept))
end_center owner memory cur s a o z = grind arith

-- refused
fail_is : (l : Local) (g : Ghost) (a : Ask) → l ≡ local_of g l.own → g.role ≡ Asks a → a.sent ≡ false → g.want ≡ None → end_refused (wait_of a) l ≡ local_of (record g { role = Fails }) (fail_own a.early l.own)
fail_is l g a e t n w = grind arith

fail_part : (r : ℕ) (s : LineState) (k : Kind) (cur : Block) (st : Rights) → OwnFits s st k → PartOf (Some (r, s)) Fails cur r st Fails
fail_part r s k cur st f = grind arith

fail_wants : (w : Option (Kind × Option Stamp)) (keep : Keep) → w ≡ None → Wants Fails w keep
fail_wants w keep e = grind arith

fail_why : (w : Option (Kind × Option Stamp)) (o : Own) → w ≡ None → Why Fails w o
fail_why w o e = grind arith

fail_logs : (cur mem : Block) (w : Option ℕ) (h : ℕ) (b : Bool) (o : Own) → Logs cur mem w h o → Logs cur mem w h (fail_own b o)
fail_logs cur mem w h b o e = grind arith

fail_sound : (a : Ask) (o : Own) → WhyAsk a o → Sound o → Sound (fail_own a.early o)
fail_sound a o y e = grind arith

fail_marked : (keep : Keep) (b : Bool) (o : Own) → PutMarked keep o → PutMarked keep (fail_own b o)
fail_marked keep b o e = grind arith

pub fail_row : (c : Ctx) (shares : Bool) (r : ℕ) (l : Local) (g : Ghost) (s : LineState) (a : Ask) → Each (busy_with r s (Asks a) c) shares r l g → a.sent ≡ false → Each (busy_with r s Fails c) shares r (end_refused (wait_of a) l) (record g { role = Fails })
fail_row c shares r l g s a e n =
    let st = standing c.owner shares r in
    let t = asker_is r s (Asks a) c.cur st g.role e.part in
    let z = ready c shares r l g s a e in
    let w = (subst (λ x. Wants x g.want g.keep) t e.want).0 in
    record {
      is = fail_is l g a e.is t n w;
      line = z.line;
      put = e.put;
      part = fail_part r s a.kind c.cur st z.fits;
      want = fail_wants g.want g.keep w;
      why = fail_why g.want _ w;
      cover = record { reads = z.cover.reads; stores = z.cover.stores; r_mark = z.cover.r_mark; w_mark = z.cover.w_mark; x_mark = z.cover.x_mark };
      logs = fail_logs c.cur c.mem c.writer r a.early l.own e.logs;
      sound = fail_sound a l.own z.why e.sound;
      marked = fail_marked g.keep a.early l.own e.marked;
    }

fail_other_part : (r : ℕ) (s : LineState) (a : Ask) (cur : Block) (j : ℕ) (st : Rights) (role : Role) → j ≢ r → a.nay ≡ true → (a.grant.expect j ≡ true → a.from j ≡ true) → PartOf (Some (r, s)) (Asks a) cur j st role → PartOf (Some (r, s)) Fails cur j st role
fail_other_part r s a cur j st role n y f p = grind arith

pub fail_other : (c : Ctx) (shares : Bool) (j : ℕ) (l : Local) (g : Ghost) (r : ℕ) (s : LineState) (a : Ask) → j ≢ r → a.nay ≡ true → (a.grant.expect j ≡ true → a.from j ≡ true) → Each (busy_with r s (Asks a) c) shares j l g → Each (busy_with r s Fails c) shares j l g
fail_other c shares j l g r s a n y f e = record { is = e.is; line = e.line; put = e.put; part = fail_other_part r s a c.cur j (standing c.owner shares j) g.role n y f e.part; want = e.want; why = e.why; cover = e.cover; logs = e.logs; sound = e.sound; marked = e.marked }

pub fail_center : (owner : Owner) (memory cur : Block) (a : Ask) → Center owner memory cur (Asks a) → Center owner memory cur Fails
fail_center owner memory cur a z = grind arith

-- a request of an aborting hart is a sticky owner's
pub undo_sticks : (st : Rights) (x : LineState) (a : Ask) (cur mem : Block) (w : Option ℕ) (h : ℕ) (keep : Keep) (o : Own) → Ready st cur x a keep o → Logs cur mem w h o → o.tx ≡ Aborting → st ≡ Sticks
undo_sticks st x a cur mem w h keep o y l t = grind arith

pub sticks_apart : (st th : Rights) (x : LineState) → st ≡ Sticks → Apart st th → must_tell x th ≡ true → ⊥
sticks_apart st th x e a m = grind arith
