-- Who holds a stamp is one of the harts, and the stamp was counted.
use Rattle.std.proofs.Common.{◌≡◌, ◌≢◌, ◌≤◌, ◌<◌, ◌+◌, ◌-◌, ◌⊎◌, inl, inr, ℕ, Bool, true, false, cond, not, min, List, [], ◌∷◌, Option, Some, None, refl, sym, subst, arith}
use Rattle.std.specs.Prelude.{◌==◌, ◌&&◌}
use Rattle.words.specs.declared.entry.Entry.{Entry}
use Rattle.words.specs.declared.entry.Entry.TheVariants.{Retire, Abort, Trap, Refuse, Spill}
use Rattle.words.specs.declared.stamp.Stamp.{Stamp}
use Rattle.table.specs.declared.instr.Instr.{Instr}
use Rattle.table.specs.declared.instr.Instr.TheVariants.{TBegin, TCommit}
use Rattle.table.specs.Table.{decoded}
use Rattle.flat.specs.Reasons.{Past, History, told, history_of, no_history, past_begun, past_retired, takes_stamp}
use Rattle.flat.proofs.Maps.{one_number, two_numbers}
use Rattle.isolation.specs.Earliest.{HoldsStamp}
use Rattle.isolation.proofs.Sparing.Fitting.{Fits, AllFit}

-- the greatest count
abbrev pub greatest : ℕ
greatest = 18446744073709551615

-- a stamp that was counted: less than so many were taken before it, up to the greatest count
abbrev pub IsCounted : ℕ → Past → Type 0
IsCounted taken p = min (p.stamp.count + 1) greatest ≤ taken

-- each hart that holds a stamp is one of so many, and its stamp was counted
pub record Holds (n : ℕ) (h : History) : Type 0 where
  pub taken : h.taken ≤ greatest
  pub harts : (k : ℕ) → HoldsStamp (h.past k) → (k < n) × IsCounted h.taken (h.past k)

-- how many stamps were taken after a retired word
abbrev pub taken_after : ℕ → Option Instr → Past → ℕ
taken_after taken x p = cond (takes_stamp x p) (min (taken + 1) greatest) taken

pub taken_grows : (taken : ℕ) (x : Option Instr) (p : Past) → taken ≤ greatest → (taken ≤ taken_after taken x p) × (taken_after taken x p ≤ greatest) × (taken_after taken x p ≤ taken + 1)
taken_grows taken x p below = by (takes_stamp x p) where
  by : (b : Bool) → (taken ≤ cond b (min (taken + 1) greatest) taken) × (cond b (min (taken + 1) greatest) taken ≤ greatest) × (cond b (min (taken + 1) greatest) taken ≤ taken + 1)
  by true = (omega arith, omega arith, omega arith)
  by false = (omega arith, below, omega arith)

-- an entry takes one stamp at most
pub taken_one : (h : History) (e : Entry) → h.taken ≤ greatest → (told h e).taken ≤ h.taken + 1
taken_one h (Retire i pc w x l s) below = (taken_grows h.taken (decoded w) (h.past i) below).2
taken_one h (Abort i c) below = omega arith
taken_one h (Trap i c p) below = omega arith
taken_one h (Refuse i j b) below = omega arith
taken_one h (Spill i b) below = omega arith

-- a word that its hart has retired leaves what held of the stamps that it held, and of a new one
pub retired_holds : (P : Stamp → Type 0) (taken i : ℕ) (x : Option Instr) (p : Past) → (HoldsStamp p → P p.stamp) → (takes_stamp x p ≡ true → P (record { count = taken; hart = i })) → HoldsStamp (past_retired taken i x p) → P (past_retired taken i x p).stamp
retired_holds P taken i None p old new holds = old holds
retired_holds P taken i (Some (TBegin o)) p old new holds = outer (p.depth == 0) refl new holds where
  kept : (a : Bool) → p.was_aborted ≡ a → (not a ≡ true → P (record { count = taken; hart = i })) → P (cond a p.stamp (record { count = taken; hart = i }))
  kept true is new = old (inr is)
  kept false is new = new refl

  outer : (b : Bool) → (p.depth == 0) ≡ b → (b && not p.was_aborted ≡ true → P (record { count = taken; hart = i })) → HoldsStamp (cond b (past_begun taken i p) (record p { depth = p.depth + 1; was_refused = false })) → P (cond b (past_begun taken i p) (record p { depth = p.depth + 1; was_refused = false })).stamp
  outer true is new holds = kept p.was_aborted refl new
  outer false is new holds = old (inl (inside p.depth is)) where
    inside : (d : ℕ) → (d == 0) ≡ false → 0 < d
    inside d is = let ne = two_numbers d 0 is in grind arith
retired_holds P taken i (Some TCommit) p old new holds = old (before holds) where
  before : HoldsStamp (record p { depth = p.depth - 1; was_refused = false }) → HoldsStamp p
  before (inl lt) = inl (omega (arith, lt))
  before (inr is) = inr is
retired_holds P taken i (Some x) p old new holds = old holds

-- what holds at one hart and at each other holds at a changed map
pub changed : (P : Past → Type 0) (k i : ℕ) (p q : Past) → (k ≡ i → P p) → (k ≢ i → P q) → P (cond (k == i) p q)
changed P k i p q here there = by (k == i) refl where
  by : (b : Bool) → (k == i) ≡ b → P (cond b p q)
  by true is = here (one_number k i is)
  by false is = there (two_numbers k i is)

-- after an entry it is so again
pub holds_next : (n : ℕ) (h : History) (e : Entry) → Fits n h e → Holds n h → Holds n (told h e)
holds_next n h (Retire i pc w x l s) fits v = record {
  taken = grows.1;
  harts = λ k. changed (λ p. HoldsStamp p → (k < n) × IsCounted (taken_after h.taken (decoded w) (h.past i)) p) k i (past_retired h.taken i (decoded w) (h.past i)) (h.past k)
      (λ same holds. (subst (λ m. m < n) (sym same) fits, counted holds))
      (λ ne holds. let old = v.harts k holds in (old.0, grown (h.past k).stamp.count old.1));
} where
  grows : (h.taken ≤ taken_after h.taken (decoded w) (h.past i)) × (taken_after h.taken (decoded w) (h.past i) ≤ greatest) × (taken_after h.taken (decoded w) (h.past i) ≤ h.taken + 1)
  grows = taken_grows h.taken (decoded w) (h.past i) v.taken

  grown : (c : ℕ) → min (c + 1) greatest ≤ h.taken → min (c + 1) greatest ≤ taken_after h.taken (decoded w) (h.past i)
  grown c lt = let more = grows.0 in omega (arith, lt, more)

  counted : HoldsStamp (past_retired h.taken i (decoded w) (h.past i)) → IsCounted (taken_after h.taken (decoded w) (h.past i)) (past_retired h.taken i (decoded w) (h.past i))
  counted = retired_holds (λ z. min (z.count + 1) greatest ≤ taken_after h.taken (decoded w) (h.past i)) h.taken i (decoded w) (h.past i)
      (λ holds. grown (h.past i).stamp.count (v.harts i holds).1)
      (λ takes. subst (λ b. min (h.taken + 1) greatest ≤ cond b (min (h.taken + 1) greatest) h.taken) (sym takes) (omega arith))
holds_next n h (Abort i c) fits v = record {
  taken = v.taken;
  harts = λ k. changed (λ p. HoldsStamp p → (k < n) × IsCounted h.taken p) k i (record (h.past i) { depth = 0; was_aborted = true }) (h.past k)
      (λ same holds. let old = v.harts i (inl fits) in (subst (λ m. m < n) (sym same) old.0, old.1))
      (λ ne. v.harts k);
}
holds_next n h (Trap i c p) fits v = v
holds_next n h (Refuse i j b) fits v = record { taken = v.taken; harts = v.harts }
holds_next n h (Spill i b) fits v = record {
  taken = v.taken;
  harts = λ k. changed (λ p. HoldsStamp p → (k < n) × IsCounted h.taken p) k i (record (h.past i) { has_spilled = true }) (h.past k)
      (λ same holds. let old = v.harts i holds in (subst (λ m. m < n) (sym same) old.0, old.1))
      (λ ne. v.harts k);
}

holds_all : (n : ℕ) (h : History) (es : List Entry) → AllFit n h es → Holds n h → Holds n (history_of h es)
holds_all n h [] fit v = v
holds_all n h (e ∷ es) fit v = holds_all n (told h e) es fit.1 (holds_next n h e fit.0 v)

-- so it is after the entries of a run
pub all_hold : (n : ℕ) (es : List Entry) → AllFit n no_history es → Holds n (history_of no_history es)
all_hold n es fit = holds_all n no_history es fit (record { taken = omega arith; harts = λ k. none })
  where
    none : {A : Type 0} → (0 < 0) ⊎ (false ≡ true) → A
    none (inl lt) = absurd (omega (arith, lt))
    none (inr e) = cc
