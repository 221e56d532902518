-- A hart gives up a line: a shared one is dropped, and an E or M line is put back with a Put.
use Rattle.std.proofs.Common.{◌≡◌, ◌≢◌, ◌<◌, ℕ, Bool, true, false, Option, None, Some, cond, eqb, refl, sym, ap, subst, ◌∙◌}
use Rattle.std.specs.Prelude.{◌&&◌}
use Rattle.std.proofs.lemmas.Bool.{eq-eqb, ne_eqb}
use Rattle.std.proofs.lemmas.Option.{same_Some}
use Rattle.words.specs.declared.message.LineState.{LineState}
use Rattle.words.specs.declared.message.LineState.TheVariants.{Shared, Exclusive, Modified}
use Rattle.flat.specs.State.{Setting, FlatHart}
use Rattle.flat.specs.Reasons.{Past}
use Rattle.flat.proofs.Maps.{put_there, put_elsewhere}
use Rattle.protocol.specs.Messages.{Message, Put}
use Rattle.words.specs.Marks.{is_marked}
use Rattle.protocol.specs.Lines.{Line}
use Rattle.protocol.specs.Hart.{Hart, PutOut, HartResult}
use Rattle.protocol.specs.Evict.{without_line, spill_of, drop_row, write_back_row, write_back_row_if_none_out, evict_by, evict_line, evict_row}
use Rattle.isolation.proofs.OneBlock.Model.State.{Absent, Has, Outside, at_hart}
use Rattle.isolation.proofs.OneBlock.Model.Core.{spill, write_back}
use Rattle.isolation.proofs.OneBlock.Model.Step.{Drops, Evicts, Spills_elsewhere}
use Rattle.isolation.proofs.OneBlock.Invariant.Each.{Good}
use Rattle.isolation.proofs.OneBlock.Facts.Runs.{goes_on}
use Rattle.isolation.proofs.OneBlock.Uses.SameStates.{good_as, good_still}
use Rattle.isolation.proofs.Machine.Slots.{slot, Mail, slot_test}
use Rattle.isolation.proofs.Machine.World.{World, as_put, copy_of, put_out_at, tx_at, own_at, local_at, project}
use Rattle.isolation.proofs.Machine.Invariant.{HartIs, HasBytes, Inv}
use Rattle.isolation.proofs.Machine.Readings.{known_at, a_line}
use Rattle.isolation.proofs.Machine.EmptySlots.{put_empty}
use Rattle.isolation.proofs.HartMessages.OneHartMoves.{SentFits, posted}
use Rattle.isolation.proofs.Core.HartResults.{at_block, flat_still, Made, same_local}
use Rattle.isolation.proofs.Core.Spills.{past_spilled, spilled_tx, spilled_due, spilled_past, spilled_own, spill_true, spill_false, told_spilled, spill_carries, spill_reason}

module _ (x : World) (v : Inv x) (i : ℕ) (o : i < x.machine.setting.count) where
  abbrev s : Setting
  s = x.machine.setting

  abbrev h : Hart
  h = x.machine.harts i

  abbrev f : FlatHart
  f = x.flat.hart i

  abbrev p : Past
  p = x.history.past i

  module _ (b : ℕ) (l : Line) (e : h.lines b ≡ Some l) where
    abbrev marked : Bool
    marked = is_marked l.marks

    inside : marked ≡ true → tx_at h.tx ≢ Outside
    inside m = (known_at x v b).reasons.marks i l.state l.content l.marks o (ap copy_of e) m

    abbrev bare : Hart
    bare = without_line b l h

    own_is : (c : ℕ) → own_at s c bare f (past_spilled marked p) ≡ spill marked (own_at s c h f p)
    own_is c = spilled_own s c marked h.tx h f p inside

    -- another block sees at most that it has spilled
    spilled_off : (c : ℕ) (m : Bool) → marked ≡ m → Good s.count (at_hart i (record ((project c x).hart i) { own = spill m (own_at s c h f p) }) (project c x))
    spilled_off c true m = good_as s.count (project c x) i _ _ (ap (λ w. record ((project c x).hart i) { own = w }) (spill_true (own_at s c h f p)))
        (goes_on s.count (project c x) _ (v.blocks c) (Spills_elsewhere i o (inside m)))
    spilled_off c false m = good_still s.count (project c x) i _ (ap (λ w. record ((project c x).hart i) { own = w }) (spill_false (own_at s c h f p))) (v.blocks c)

    abbrev with_put : Option PutOut → Hart
    with_put z = record bare { put = z }

    spilled_is : (z : Option PutOut) → HartIs s (with_put z) f (past_spilled marked p)
    spilled_is z = let m = v.harts i in record {
      regs = m.regs;
      pc = m.pc;
      output = m.output;
      status = m.status;
      tx = spilled_tx marked h.tx f.tx m.tx;
      due = spilled_due s marked h.tx f m.due;
      past = spilled_past marked h.tx h.kept_stamp p m.past;
    }

    abbrev row : Option PutOut → Option Message → HartResult
    row z sent = record { hart = with_put z; sent = sent; entry = spill_of i b l; stamped = false }

    -- a row that gives up the line, where each block is shown good
    made_spilled : (z : Option PutOut) (sent : Option Message) → SentFits i sent x.mail → ((c : ℕ) → Good s.count (at_hart i (local_at s c i (with_put z) f (past_spilled marked p) (posted (row z sent) x.mail)) (project c x))) → Made x i (row z sent)
    made_spilled z sent fit g = record {
      flat_hart = f;
      mem = x.flat.mem;
      past = past_spilled marked p;
      moves = record {
        is_hart = o;
        carried = v.carried;
        range = v.range;
        off = λ a n. refl;
        sent = fit;
        carries = spill_carries x i b marked;
        reason = spill_reason x i b marked;
        told = told_spilled x.history i b marked;
        hart = spilled_is z;
        bytes = subst HasBytes (sym (flat_still x i)) v.bytes;
        blocks = g;
      };
    }

    line_here : copy_of (bare.lines b) ≡ Absent
    line_here = ap copy_of (put_there b None h.lines)

    line_off : (c : ℕ) → c ≢ b → copy_of (bare.lines c) ≡ copy_of (h.lines c)
    line_off c n = ap copy_of (put_elsewhere b c None h.lines n)

    -- a shared line
    module _ (shared : l.state ≡ Shared) where
      drop_block : (c : ℕ) → Good s.count (at_hart i (local_at s c i bare f (past_spilled marked p) x.mail) (project c x))
      drop_block c = at_block (λ c. Good s.count (at_hart i (local_at s c i bare f (past_spilled marked p) x.mail) (project c x))) b c here off
        where
          here : Good s.count (at_hart i (local_at s b i bare f (past_spilled marked p) x.mail) (project b x))
          here = good_as s.count (project b x) i _ _ (same_local ((project b x).hart i) _ _ _ _ line_here (own_is b))
              (goes_on s.count (project b x) _ (v.blocks b) (Drops i l.content l.marks o (ap copy_of e ∙ ap (λ z. Has z l.content l.marks) shared)))

          off : c ≢ b → Good s.count (at_hart i (local_at s c i bare f (past_spilled marked p) x.mail) (project c x))
          off n = good_as s.count (project c x) i _ _ (same_local ((project c x).hart i) _ _ _ _ (line_off c n) (own_is c)) (spilled_off c marked refl)

      made_drop : Made x i (drop_row i b l h)
      made_drop = made_spilled h.put None tt drop_block

    -- an E or M line, where no Put is out
    module _ (owned : l.state ≢ Shared) (q : h.put ≡ None) where
      abbrev out : PutOut
      out = record { block = b; content = l.content; marked = marked }

      abbrev given : Hart
      given = with_put (Some out)

      abbrev mail : Mail
      mail = posted (write_back_row i b l h) x.mail

      free : x.mail (slot 1 b i) ≡ None
      free = put_empty x v b i ((known_at x v b).free.puts i o (a_line (h.lines b) l e)).0

      here_is : local_at s b i given f (past_spilled marked p) mail ≡ write_back l.content l.marks ((project b x).hart i)
      here_is =
          let y = line_here in
          let w = own_is b in
          let z = eq-eqb b b refl in
          let u = slot_test b i i true (eq-eqb i i refl) in
          λ k. record ((project b x).hart i) {
            line = y k;
            put = cond (z k) (Some (l.content, marked)) None;
            puts = as_put (cond (u k) (Some (Put i b l.content marked)) (x.mail (slot 1 b i)));
            own = w k;
          }

      off_is : (c : ℕ) → c ≢ b → local_at s c i given f (past_spilled marked p) mail ≡ record ((project c x).hart i) { own = spill marked (own_at s c h f p) }
      off_is c n =
          let y = line_off c n in
          let w = own_is c in
          let z = ap (λ z. cond z (Some (l.content, marked)) None) (ne_eqb b c (λ z. n (sym z))) ∙ ap (put_out_at c) (sym q) in
          let u = ne_eqb c b n in
          λ k. record ((project c x).hart i) {
            line = y k;
            put = z k;
            puts = as_put (cond (u k && eqb i i) (Some (Put i b l.content marked)) (x.mail (slot 1 c i)));
            own = w k;
          }

      put_block : (c : ℕ) → Good s.count (at_hart i (local_at s c i given f (past_spilled marked p) mail) (project c x))
      put_block c = at_block (λ c. Good s.count (at_hart i (local_at s c i given f (past_spilled marked p) mail) (project c x))) b c here (λ n. good_as s.count (project c x) i _ _ (off_is c n) (spilled_off c marked refl))
        where
          here : Good s.count (at_hart i (local_at s b i given f (past_spilled marked p) mail) (project b x))
          here = good_as s.count (project b x) i _ _ here_is
              (goes_on s.count (project b x) _ (v.blocks b) (Evicts i l.state l.content l.marks o (ap copy_of e) owned (ap (put_out_at b) q)))

      made_put : Made x i (write_back_row i b l h)
      made_put = made_spilled (Some out) (Some (Put i b l.content marked)) (refl, free) put_block

    made_if_none_out : (t : HartResult) (z : Option PutOut) → l.state ≢ Shared → h.put ≡ z → write_back_row_if_none_out i b l z h ≡ Some t → Made x i t
    made_if_none_out t None n q k = subst (Made x i) (same_Some (write_back_row i b l h) t k) (made_put n q)
    made_if_none_out t (Some z) n q k = absurd (cc)

    made_by : (t : HartResult) (z : LineState) → l.state ≡ z → evict_by z i b l h ≡ Some t → Made x i t
    made_by t Shared a k = subst (Made x i) (same_Some (drop_row i b l h) t k) (made_drop a)
    made_by t Exclusive a k = made_if_none_out t h.put (λ n. let y : Exclusive ≡ Shared = sym a ∙ n in absurd (cc)) refl k
    made_by t Modified a k = made_if_none_out t h.put (λ n. let y : Modified ≡ Shared = sym a ∙ n in absurd (cc)) refl k

  -- an eviction, where it is enabled
  pub made_evict : (b : ℕ) (t : HartResult) → evict_row i b h ≡ Some t → Made x i t
  made_evict b t k = by_line (h.lines b) refl k
    where
      by_line : (l : Option Line) → h.lines b ≡ l → evict_line i b l h ≡ Some t → Made x i t
      by_line None e k = absurd (cc)
      by_line (Some l) e k = made_by b l e t l.state refl k
