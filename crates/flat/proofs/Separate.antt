-- In each state of a run from the start the harts' transactions are apart.
use Rattle.std.proofs.Common.{◌≡◌, ◌≢◌, ◌<◌, ◌≤◌, ◌/◌, ℕ, Bool, true, false, cond, Option, Some, None, refl, sym, ap, ◌∙◌, subst, arith}
use Rattle.std.specs.Prelude.{is_some, ◌==◌, nat_lt, List, IsTrue}
use Rattle.std.specs.Option.{unwrap_or}
use Rattle.std.proofs.lemmas.Bool.Decides.{nat_tests}
use Rattle.words.specs.declared.entry.Entry.{Entry}
use Rattle.words.specs.declared.entry.Entry.TheVariants.{Retire, Abort, Trap, Refuse, Spill}
use Rattle.table.specs.declared.effect.Store.{Store}
use Rattle.table.specs.declared.effect.Act.{Act}
use Rattle.table.specs.declared.effect.Act.TheVariants as act
use Rattle.flat.specs.State.{Setting, Flat, FlatHart, Tx, flat_view, seen, idle, has_written, MayAccess, IsAllowed}
use Rattle.flat.specs.Start.{first_state, first_hart}
use Rattle.flat.specs.Effects.{tx_by}
use Rattle.flat.specs.Steps.{Carries, IsRun}
use Rattle.flat.specs.Isolation.{has_touched}
use Rattle.flat.proofs.Maps.{one_number, two_numbers, put_there}
use Rattle.flat.proofs.Next.{done_ok}
use Rattle.flat.proofs.Entries.{retired_by, aborted_by, hart_retired, hart_back, others_stay, setting_stays}
use Rattle.flat.proofs.Runs.{run_keeps}
use Rattle.flat.proofs.Apart.{IsApart, IsFree, LeavesRoom, act_apart, apart_of_none, turned, untouched}
use Rattle.flat.proofs.Covered.{IsCovered, byte_written, act_covered, covered_none}

-- only harts have transactions, these are apart, and each keeps to its blocks
pub record IsSeparate (f : Flat) : Type 0 where
  pub beyond : (i : ℕ) → f.setting.count ≤ i → (f.hart i).tx ≡ None
  pub apart : (i j : ℕ) → j ≢ i → IsApart (f.hart j).tx (f.hart i).tx
  pub covered : (i : ℕ) → IsCovered (f.hart i).tx

-- what an access waits for, at any number
free_of : (f : Flat) (i b : ℕ) (s : Option Store) → IsSeparate f → MayAccess f i b s → (j : ℕ) → j ≢ i → IsFree (f.hart j).tx b s
free_of f i b s sep may j ne = at (nat_lt j f.setting.count) refl s may where
  at : (t : Bool) → nat_lt j f.setting.count ≡ t → (s : Option Store) → MayAccess f i b s → IsFree (f.hart j).tx b s
  at true e None may = may j (grind (arith, nat_tests)) ne
  at true e (Some s) may = let n = may j (grind (arith, nat_tests)) ne in untouched (f.hart j).tx b n.0 n.1
  at false e None may = ap (λ o. has_written o b) (sep.beyond j (grind (arith, nat_tests)))
  at false e (Some s) may = ap (λ o. has_touched o b) (sep.beyond j (grind (arith, nat_tests)))

-- an act that is allowed is kept out by no other transaction
pub room_of : (f : Flat) (i : ℕ) (does : Act) → IsSeparate f → IsAllowed f i does → (j : ℕ) → j ≢ i → LeavesRoom (f.hart j).tx does
room_of f i (act.Memory m) sep may j ne = free_of f i (m.addr / 32) m.store sep may j ne
room_of f i does sep may j ne = tt

-- a hart's new transaction that is apart from all others leaves the state separate
one_new : (f g : Flat) (k : ℕ) → IsSeparate f → k < f.setting.count → g.setting ≡ f.setting → ((j : ℕ) → j ≢ k → (g.hart j).tx ≡ (f.hart j).tx)
    → ((j : ℕ) → j ≢ k → IsApart (f.hart j).tx (g.hart k).tx) → IsCovered (g.hart k).tx → IsSeparate g
one_new f g k sep lt setting others apart covered = record {
  beyond = λ i past.
      let over : f.setting.count ≤ i = subst (λ (s : Setting). s.count ≤ i) setting past in
      let ne : i ≢ k = omega arith in
      others i ne ∙ sep.beyond i over;
  apart = λ i j ne. pair i j ne (i == k) refl (j == k) refl;
  covered = λ i. kept i (i == k) refl;
} where
  with_k : (j : ℕ) → j ≢ k → IsApart (g.hart j).tx (g.hart k).tx
  with_k j ne = subst (λ o. IsApart o (g.hart k).tx) (sym (others j ne)) (apart j ne)

  pair : (i j : ℕ) → j ≢ i → (t : Bool) → (i == k) ≡ t → (u : Bool) → (j == k) ≡ u → IsApart (g.hart j).tx (g.hart i).tx
  pair i j ne true e u d = let s = one_number i k e in subst (λ n. IsApart (g.hart j).tx (g.hart n).tx) (sym s) (with_k j (λ z. ne (z ∙ sym s)))
  pair i j ne false e true d = let s = one_number j k d in turned (g.hart i).tx (g.hart j).tx (subst (λ n. IsApart (g.hart i).tx (g.hart n).tx) (sym s) (with_k i (two_numbers i k e)))
  pair i j ne false e false d = subst (λ o. IsApart o (g.hart i).tx) (sym (others j (two_numbers j k d))) (subst (λ o. IsApart (f.hart j).tx o) (sym (others i (two_numbers i k e))) (sep.apart i j ne))

  kept : (i : ℕ) → (t : Bool) → (i == k) ≡ t → IsCovered (g.hart i).tx
  kept i true e = subst (λ n. IsCovered (g.hart n).tx) (sym (one_number i k e)) covered
  kept i false e = subst IsCovered (sym (others i (two_numbers i k e))) (sep.covered i)

-- an entry leaves them apart
pub stays_separate : (f g : Flat) (e : Entry) → Carries f e g → IsSeparate f → IsSeparate g
stays_separate f g (Retire i pc w x l s) k sep =
    let r = retired_by f g i pc w x l s k in
    let tx : (g.hart i).tx ≡ tx_by (flat_view f i) (f.hart i) (f.hart i).tx r.0.act = ap (λ (h : FlatHart). h.tx) (hart_retired f g i r.0 r.2.after) in
    one_new f g i sep r.2.running.hart (setting_stays f g (Retire i pc w x l s) k)
    (λ j ne. ap (λ (h : FlatHart). h.tx) (others_stay f g (Retire i pc w x l s) k j ne))
    (λ j ne. subst (IsApart (f.hart j).tx) (sym tx) (act_apart (flat_view f i) (f.hart i) (f.hart j).tx (f.hart i).tx r.0.act (room_of f i r.0.act sep r.2.allowed j ne) (sep.apart i j ne)))
    (subst IsCovered (sym tx) (act_covered f.setting (f.hart i) (flat_view f i) (f.hart i) (f.hart i).tx r.0.act (done_ok f.setting (f.hart i) (is_some s) r.0 r.1) (sep.covered i)))
stays_separate f g (Abort i c) k sep =
    let r = aborted_by f g i c k in
    let tx : (g.hart i).tx ≡ None = ap (λ (h : FlatHart). h.tx) (hart_back f g i c r.0 r.2.after) in
    one_new f g i sep r.2.running.hart (setting_stays f g (Abort i c) k)
    (λ j ne. ap (λ (h : FlatHart). h.tx) (others_stay f g (Abort i c) k j ne))
    (λ j ne. subst (IsApart (f.hart j).tx) (sym tx) (apart_of_none (f.hart j).tx))
    (subst IsCovered (sym tx) covered_none)
stays_separate f g (Trap i c p) k sep =
    let tx : (g.hart i).tx ≡ (f.hart i).tx = ap (λ (m : Flat). (m.hart i).tx) k.after ∙ ap (λ (h : FlatHart). h.tx) (put_there i _ f.hart) in
    one_new f g i sep k.running.hart (setting_stays f g (Trap i c p) k)
    (λ j ne. ap (λ (h : FlatHart). h.tx) (others_stay f g (Trap i c p) k j ne))
    (λ j ne. subst (IsApart (f.hart j).tx) (sym tx) (sep.apart i j ne))
    (subst IsCovered (sym tx) (sep.covered i))
stays_separate f g (Refuse i j b) e sep = subst IsSeparate (sym e) sep
stays_separate f g (Spill i b) e sep = subst IsSeparate (sym e) sep

-- at the start no hart is in a transaction
first_none : (s : Setting) (entry i : ℕ) → ((first_state s entry).hart i).tx ≡ None
first_none s entry i = elim (nat_lt i s.count) as (λ (t : Bool). (cond t (first_hart s entry i) idle).tx ≡ None) [ true ↦ refl | false ↦ refl ]

-- and so all is apart
first_separate : (s : Setting) (entry : ℕ) → IsSeparate (first_state s entry)
first_separate s entry = record {
  beyond = λ i past. first_none s entry i;
  apart = λ i j ne. subst (IsApart ((first_state s entry).hart j).tx) (sym (first_none s entry i)) (apart_of_none ((first_state s entry).hart j).tx);
  covered = λ i. subst IsCovered (sym (first_none s entry i)) covered_none;
}

-- and so they are in each state of a run from the start
pub run_separate : (s : Setting) (entry : ℕ) (es : List Entry) (f : Flat) → IsRun (first_state s entry) es f → IsSeparate f
run_separate s entry es f k = run_keeps IsSeparate stays_separate (first_state s entry) f es k (first_separate s entry)

-- no two transactions share a block that one of them has written
pub none_shared : (s : Setting) (entry : ℕ) (es : List Entry) (f : Flat) (i j b : ℕ) → IsRun (first_state s entry) es f → j ≢ i → IsTrue (has_written (f.hart i).tx b) → has_touched (f.hart j).tx b ≡ false
none_shared s entry es f i j b k ne w = let sep = run_separate s entry es f k in let a = sep.apart i j ne in a.ours b w

-- a byte that was not written is seen as memory has it
unwritten_by : (tx : Option Tx) (mem : ℕ → ℕ) (a : ℕ) → byte_written tx a ≡ None → seen tx mem a ≡ mem a
unwritten_by None mem a e = refl
unwritten_by (Some t) mem a e = ap (λ v. unwrap_or v (mem a)) e

-- and what a transaction has not written it sees as memory has it
pub sees_memory : (s : Setting) (entry : ℕ) (es : List Entry) (f : Flat) (i a : ℕ) → IsRun (first_state s entry) es f → has_written (f.hart i).tx (a / 32) ≡ false → flat_view f i a ≡ f.mem a
sees_memory s entry es f i a k e = let sep = run_separate s entry es f k in unwritten_by (f.hart i).tx f.mem a (sep.covered i a e)
