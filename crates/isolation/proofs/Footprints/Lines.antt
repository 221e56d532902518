-- A hart still holds what is said beside its footprint when a line is lost, filled or given.
use Rattle.std.proofs.Common.{◌≡◌, ◌≢◌, ◌⊎◌, ◌==◌, ◌||◌, ◌/◌, ℕ, List, Bool, true, false, Option, None, Some, Result, Ok, Err, cond, refl, sym, ap, subst, ◌∙◌, inl, inr}
use Rattle.std.specs.Prelude.{IsOkAnd}
use Rattle.std.specs.Option.{option_map}
use Rattle.words.specs.declared.cause.Cause.{Cause}
use Rattle.words.specs.declared.cause.AbortCause.{AbortCause}
use Rattle.words.specs.declared.cause.AbortCause.TheVariants.{Asked, Conflict, LogFull, Trapped}
use Rattle.words.specs.declared.marks.Marks.{Marks}
use Rattle.words.specs.declared.message.Kind.TheVariants.{Read, Write}
use Rattle.words.specs.declared.message.LineState.{LineState}
use Rattle.words.specs.Marks.{no_marks, is_marked}
use Rattle.table.specs.declared.effect.Effect.{Effect}
use Rattle.table.specs.declared.effect.Act.{Act}
use Rattle.table.specs.declared.effect.Act.TheVariants as act
use Rattle.flat.specs.Bytes.{put_at}
use Rattle.flat.specs.Reservation.{without_block}
use Rattle.flat.proofs.Maps.{one_number, two_numbers, put_there, put_elsewhere}
use Rattle.protocol.specs.Messages.{Block}
use Rattle.protocol.specs.Lines.{Line, line_filled, line_given, line_cleared, refuses}
use Rattle.protocol.specs.Hart.{Transaction, LogRecord, Request, overflow_of}
use Rattle.protocol.specs.Evict.{tx_spilled}
use Rattle.isolation.specs.Footprints.{Footprint, with_spill}
use Rattle.isolation.specs.Reasons.{NeedsRecord}
use Rattle.isolation.proofs.Footprints.Holding.{marks_of, IsWanted, Counts, Holds}

-- Marks

-- of the lines after one was put, that one's marks are known and the others' are what they were
pub at_one : (b : ℕ) (o : Option Line) (lines : ℕ → Option Line) (c : ℕ)
    → ((c ≡ b) × (marks_of (put_at b o lines c) ≡ marks_of o)) ⊎ ((c ≢ b) × (marks_of (put_at b o lines c) ≡ marks_of (lines c)))
at_one b o lines c = by (c == b) refl
  where
    by : (z : Bool) → (c == b) ≡ z → ((c ≡ b) × (marks_of (cond z o (lines c)) ≡ marks_of o)) ⊎ ((c ≢ b) × (marks_of (cond z o (lines c)) ≡ marks_of (lines c)))
    by true e = inl (one_number c b e, refl)
    by false e = inr (two_numbers c b e, refl)

-- a line that isn't marked has no mark
pub unmarked : (k : Marks) → is_marked k ≡ false → k ≡ no_marks
unmarked k e = by k.read k.written k.overflowed e
  where
    by : (r w x : Bool) → (r || (w || x)) ≡ false → record { read = r; written = w; overflowed = x } ≡ no_marks
    by true w x e = absurd (cc)
    by false true x e = absurd (cc)
    by false false true e = absurd (cc)
    by false false false e = refl

-- a line of which the marks stay
pub same_there : (b : ℕ) (o : Option Line) (lines : ℕ → Option Line) → marks_of o ≡ marks_of (lines b) → (c : ℕ) → marks_of (put_at b o lines c) ≡ marks_of (lines c)
same_there b o lines same c = elim (at_one b o lines c) [
  | inl here ↦ here.1 ∙ same ∙ ap (λ z. marks_of (lines z)) (sym here.0)
  | inr off ↦ off.1
]

pub cleared : (o : Option Line) → marks_of (line_cleared o) ≡ no_marks
cleared None = refl
cleared (Some l) = refl

pub given_read : (o : Option Line) → marks_of (line_given Read o) ≡ marks_of o
given_read None = refl
given_read (Some l) = refl

-- only a line without a mark is given up for a write
pub given_write : (o : Option Line) (overflow : Bool) → refuses o overflow Write ≡ false → marks_of (line_given Write o) ≡ marks_of o
given_write None overflow e = refl
given_write (Some l) overflow e = sym (unmarked l.marks e)

-- a reservation that isn't taken away was there
pub reserved_before : (b c : ℕ) (r : Option ℕ) → without_block b r ≡ Some c → r ≡ Some c
reserved_before b c None e = e
reserved_before b c (Some d) e = by (d == b) e
  where
    by : (z : Bool) → cond z None (Some d) ≡ Some c → Some d ≡ Some c
    by true e = absurd (cc)
    by false e = e

-- Rows

module _ (next : Result Effect Cause) (lines : ℕ → Option Line) (reserved : Option ℕ) (request : Option Request) (p : Footprint) where
  -- all marks stay, and the reservation stays or ends
  pub as_marked : (after : ℕ → Option Line) (kept : Option ℕ) (o : Option Transaction) → ((c : ℕ) → marks_of (after c) ≡ marks_of (lines c)) → ((c : ℕ) → kept ≡ Some c → reserved ≡ Some c)
      → Holds next lines reserved request o p → Holds next after kept request o p
  as_marked after kept None same fewer v = λ c. same c ∙ v c
  as_marked after kept (Some t) same fewer v = record {
    logged = λ c. v.logged c ∙ ap (λ (k : Marks). k.written) (sym (same c));
    read = λ c e. v.read c (ap (λ (k : Marks). k.read) (sym (same c)) ∙ e);
    written = λ c e. v.written c (ap (λ (k : Marks). k.written) (sym (same c)) ∙ e);
    overflowed = λ c e. v.overflowed c (ap (λ (k : Marks). k.overflowed) (sym (same c)) ∙ e);
    reserves = λ c e. v.reserves c (fewer c e);
    requests = v.requests;
    log = v.log;
    counts = v.counts;
  }

  -- a spill changes none of its bits that matter
  pub as_spilled : (m : Bool) (o : Option Transaction) → Holds next lines reserved request o p → Holds next lines reserved request (option_map (tx_spilled m) o) p
  as_spilled m None v = v
  as_spilled m (Some t) v = record { logged = v.logged; read = v.read; written = v.written; overflowed = v.overflowed; reserves = v.reserves; requests = v.requests; log = v.log; counts = v.counts }

  module _ (b : ℕ) where
    unlogged : (c : ℕ) → p.logged c ≡ false → (with_spill b p).logged c ≡ false
    unlogged c e = by (c == b)
      where
        by : (z : Bool) → cond z false (p.logged c) ≡ false
        by true = refl
        by false = e

    still_needs : (a : Act) → NeedsRecord p a → NeedsRecord (with_spill b p) a
    still_needs (act.Memory m) n = (n.0, unlogged (m.addr / 32) n.1)
    still_needs (act.Conditional rd m) n = (n.0, unlogged (m.addr / 32) n.1)
    still_needs a n = absurd n

    still_due : (r : Result Effect Cause) → IsOkAnd r (λ e. NeedsRecord p e.act) → IsOkAnd r (λ e. NeedsRecord (with_spill b p) e.act)
    still_due (Ok e) n = still_needs e.act n
    still_due (Err c) n = absurd n

    still_counts : (a : Option AbortCause) (log : List LogRecord) → Counts next p a log → Counts next (with_spill b p) a log
    still_counts None log v = v
    still_counts (Some Asked) log v = v
    still_counts (Some Conflict) log v = v
    still_counts (Some LogFull) log v = (v.0, still_due next v.1)
    still_counts (Some (Trapped c q)) log v = v

    -- a marked line is given up with a Spill
    pub spilled : (o : Option Transaction) → Holds next lines reserved request o p → Holds next (put_at b None lines) (without_block b reserved) request o (with_spill b p)
    spilled None v = λ c. elim (at_one b None lines c) [ inl here ↦ here.1 | inr off ↦ off.1 ∙ v c ]
    spilled (Some t) v = record {
      logged = λ c. elim (at_one b None lines c) [
        | inl here ↦ ap (put_at b false p.logged) here.0 ∙ put_there b false p.logged ∙ ap (λ (k : Marks). k.written) (sym here.1)
        | inr off ↦ put_elsewhere b c false p.logged off.0 ∙ v.logged c ∙ ap (λ (k : Marks). k.written) (sym off.1)
      ];
      read = λ c e. elim (at_one b None lines c) [ inl here ↦ absurd (no_mark (λ (k : Marks). k.read) refl _ here.1 e) | inr off ↦ v.read c (ap (λ (k : Marks). k.read) (sym off.1) ∙ e) ];
      written = λ c e. elim (at_one b None lines c) [ inl here ↦ absurd (no_mark (λ (k : Marks). k.written) refl _ here.1 e) | inr off ↦ v.written c (ap (λ (k : Marks). k.written) (sym off.1) ∙ e) ];
      overflowed = λ c e. elim (at_one b None lines c) [ inl here ↦ absurd (no_mark (λ (k : Marks). k.overflowed) refl _ here.1 e) | inr off ↦ v.overflowed c (ap (λ (k : Marks). k.overflowed) (sym off.1) ∙ e) ];
      reserves = λ c e. v.reserves c (reserved_before b c reserved e);
      requests = v.requests;
      log = v.log;
      counts = still_counts t.aborting t.log v.counts;
    } where
      no_mark : (get : Marks → Bool) → get no_marks ≡ false → (k : Marks) → k ≡ no_marks → get k ≡ true → ⊥
      no_mark get none k same e = let z : true ≡ false = sym e ∙ ap get same ∙ none in absurd (cc)

    -- a line is filled
    module _ (give : LineState) (content : Block) where
      filled_outside : (x : Option Line) → marks_of x ≡ no_marks → (line_filled give false content x).marks ≡ no_marks
      filled_outside None e = refl
      filled_outside (Some l) e = e

      filled_read : (overflow : Bool) (x : Option Line) → (line_filled give overflow content x).marks.read ≡ (marks_of x).read
      filled_read overflow None = refl
      filled_read overflow (Some l) = refl

      filled_written : (overflow : Bool) (x : Option Line) → (line_filled give overflow content x).marks.written ≡ (marks_of x).written
      filled_written overflow None = refl
      filled_written overflow (Some l) = refl

      filled_overflowed : (overflow : Bool) (x : Option Line) → IsWanted next p b → ((marks_of x).overflowed ≡ true → IsWanted next p b) → (line_filled give overflow content x).marks.overflowed ≡ true → IsWanted next p b
      filled_overflowed overflow None w v e = w
      filled_overflowed overflow (Some l) w v e = v e

      pub filled : (o : Option Transaction) → ((t : Transaction) → o ≡ Some t → IsWanted next p b) → Holds next lines reserved request o p
          → Holds next (put_at b (Some (line_filled give (overflow_of o) content (lines b))) lines) reserved None o p
      filled None w v = λ c. elim (at_one b (Some (line_filled give false content (lines b))) lines c) [ inl here ↦ here.1 ∙ filled_outside (lines b) (v b) | inr off ↦ off.1 ∙ v c ]
      filled (Some t) w v = record {
        logged = λ c. v.logged c ∙ sym (elim (one c) [ inl here ↦ ap (λ (k : Marks). k.written) here.1 ∙ filled_written t.overflow (lines b) ∙ back (λ (k : Marks). k.written) c here.0 | inr off ↦ ap (λ (k : Marks). k.written) off.1 ]);
        read = λ c e. v.read c (elim (one c) [ inl here ↦ sym (back (λ (k : Marks). k.read) c here.0) ∙ sym (filled_read t.overflow (lines b)) ∙ ap (λ (k : Marks). k.read) (sym here.1) ∙ e | inr off ↦ ap (λ (k : Marks). k.read) (sym off.1) ∙ e ]);
        written = λ c e. v.written c (elim (one c) [ inl here ↦ sym (back (λ (k : Marks). k.written) c here.0) ∙ sym (filled_written t.overflow (lines b)) ∙ ap (λ (k : Marks). k.written) (sym here.1) ∙ e | inr off ↦ ap (λ (k : Marks). k.written) (sym off.1) ∙ e ]);
        overflowed = λ c e. elim (one c) [
          | inl here ↦ subst (IsWanted next p) (sym here.0) (filled_overflowed t.overflow (lines b) (w t refl) (v.overflowed b) (ap (λ (k : Marks). k.overflowed) (sym here.1) ∙ e))
          | inr off ↦ v.overflowed c (ap (λ (k : Marks). k.overflowed) (sym off.1) ∙ e)
        ];
        reserves = v.reserves;
        requests = λ q e. absurd (cc);
        log = v.log;
        counts = v.counts;
      } where
        one : (c : ℕ) → ((c ≡ b) × (marks_of (put_at b (Some (line_filled give t.overflow content (lines b))) lines c) ≡ (line_filled give t.overflow content (lines b)).marks))
            ⊎ ((c ≢ b) × (marks_of (put_at b (Some (line_filled give t.overflow content (lines b))) lines c) ≡ marks_of (lines c)))
        one c = at_one b (Some (line_filled give t.overflow content (lines b))) lines c

        back : (get : Marks → Bool) (c : ℕ) → c ≡ b → get (marks_of (lines b)) ≡ get (marks_of (lines c))
        back get c e = ap (λ z. get (marks_of (lines z))) (sym e)
