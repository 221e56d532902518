-- While a transaction goes on that was the earliest at its begin, it is the earliest, and refuses no earlier one.
use Rattle.std.proofs.Common.{◌≡◌, ◌≢◌, ◌≤◌, ◌<◌, ◌+◌, inl, ℕ, Bool, true, false, cond, List, [], ◌∷◌, ◌++◌, Option, Some, None, refl, sym, ap, ◌∙◌, subst, arith}
use Rattle.std.specs.Prelude.{◌==◌, ◌&&◌, ◌||◌, nat_lt}
use Rattle.std.proofs.lemmas.Bool.Decides.{nat_tests}
use Rattle.words.specs.declared.entry.Entry.{Entry}
use Rattle.words.specs.declared.entry.Entry.TheVariants.{Retire, Abort, Trap, Refuse, Spill}
use Rattle.words.specs.declared.stamp.Stamp.{Stamp}
use Rattle.words.specs.Stamps.{is_earlier}
use Rattle.table.specs.declared.instr.Instr.{Instr}
use Rattle.table.specs.declared.instr.Instr.TheVariants.{TBegin, TCommit}
use Rattle.table.specs.Table.{decoded}
use Rattle.flat.specs.Reasons.{Past, History, told, history_of, past_begun, past_retired, is_older}
use Rattle.flat.proofs.Maps.{one_number, two_numbers}
use Rattle.isolation.specs.Earliest.{HoldsStamp}
use Rattle.isolation.proofs.Sparing.Fitting.{Fits, AllFit}
use Rattle.isolation.proofs.Sparing.Holding.{taken_after, taken_grows, retired_holds, changed, Holds, holds_next}

-- hart i's transaction has refused no earlier one; stamps that are taken from now on are later; and each other that is held is
pub record Spares (h : History) (i : ℕ) : Type 0 where
  pub refused : (h.past i).refused_earlier ≡ false
  pub count : (h.past i).stamp.count < h.taken
  pub others : (k : ℕ) → k ≢ i → HoldsStamp (h.past k) → is_earlier (h.past i).stamp (h.past k).stamp ≡ true

-- Stamps

-- no stamp is earlier than itself
same_stamp : (a : Stamp) → is_earlier a a ≡ false
same_stamp a = by a.count a.hart where
  by : (c i : ℕ) → (nat_lt c c || ((c == c) && nat_lt i i)) ≡ false
  by c i = grind (arith, nat_tests)

-- the later of two isn't the earlier
other_stamp : (a b : Stamp) → is_earlier a b ≡ true → is_earlier b a ≡ false
other_stamp a b = by a.count b.count a.hart b.hart where
  by : (c d i j : ℕ) → (nat_lt c d || ((c == d) && nat_lt i j)) ≡ true → (nat_lt d c || ((d == c) && nat_lt j i)) ≡ false
  by c d i j e = grind (arith, nat_tests)

-- a smaller count is earlier
smaller_count : (a : Stamp) (count hart : ℕ) → a.count < count → is_earlier a (record { count = count; hart = hart }) ≡ true
smaller_count a count hart = by a.count count a.hart hart where
  by : (c d i j : ℕ) → c < d → (nat_lt c d || ((c == d) && nat_lt i j)) ≡ true
  by c d i j lt = grind (arith, nat_tests)

-- who holds no earlier stamp isn't older
not_older : (p q : Past) → (HoldsStamp p → is_earlier p.stamp q.stamp ≡ false) → is_older p q ≡ false
not_older p q later = by (nat_lt 0 p.depth) (nat_lt 0 q.depth) (is_earlier p.stamp q.stamp) refl later where
  by : (a b c : Bool) → nat_lt 0 p.depth ≡ a → (HoldsStamp p → c ≡ false) → (a && (b && c)) ≡ false
  by true true c inside later = later (inl (deep p.depth inside)) where
    deep : (d : ℕ) → nat_lt 0 d ≡ true → 0 < d
    deep d e = grind (arith, nat_tests)
  by true false c inside later = refl
  by false b c inside later = refl

-- One entry

-- a retired word within a transaction leaves its stamp, and whether it has refused an earlier one
record SamePast (p q : Past) : Type 0 where
  stamp : q.stamp ≡ p.stamp
  refused : q.refused_earlier ≡ p.refused_earlier

inside_same : (taken i : ℕ) (x : Option Instr) (p : Past) → 0 < p.depth → SamePast p (past_retired taken i x p)
inside_same taken i None p lt = record { stamp = refl; refused = refl }
inside_same taken i (Some (TBegin o)) p lt = by (p.depth == 0) refl where
  by : (b : Bool) → (p.depth == 0) ≡ b → SamePast p (cond b (past_begun taken i p) (record p { depth = p.depth + 1; was_refused = false }))
  by true is = let none = one_number p.depth 0 is in absurd (omega (arith, none, lt))
  by false is = record { stamp = refl; refused = refl }
inside_same taken i (Some TCommit) p lt = record { stamp = refl; refused = refl }
inside_same taken i (Some x) p lt = record { stamp = refl; refused = refl }

-- the same transaction, and the others later
spared_by : (h : History) (i taken : ℕ) (past : ℕ → Past) → Spares h i → h.taken ≤ taken → SamePast (h.past i) (past i)
    → ((k : ℕ) → k ≢ i → HoldsStamp (past k) → is_earlier (h.past i).stamp (past k).stamp ≡ true) → Spares (record { taken = taken; past = past }) i
spared_by h i taken past v more same others = record {
  refused = same.refused ∙ v.refused;
  count = subst (λ (z : Stamp). z.count < taken) (sym same.stamp) (let count = v.count in omega (arith, count, more));
  others = λ k ne holds. subst (λ z. is_earlier z (past k).stamp ≡ true) (sym same.stamp) (others k ne holds);
}

pub spared_next : (n : ℕ) (h : History) (i : ℕ) (e : Entry) → Fits n h e → Holds n h → 0 < (h.past i).depth → 0 < ((told h e).past i).depth → Spares h i → Spares (told h e) i
spared_next n h i (Retire j pc w x l s) fits holds before after v =
    let grows = taken_grows h.taken (decoded w) (h.past j) holds.taken in
    spared_by h i (taken_after h.taken (decoded w) (h.past j)) ((told h (Retire j pc w x l s)).past) v grows.0
    (changed (SamePast (h.past i)) i j (past_retired h.taken j (decoded w) (h.past j)) (h.past i)
    (λ same. subst (λ m. SamePast (h.past i) (past_retired h.taken j (decoded w) (h.past m))) same (subst (λ m. SamePast (h.past i) (past_retired h.taken m (decoded w) (h.past i))) same (inside_same h.taken i (decoded w) (h.past i) before)))
    (λ ne. record { stamp = refl; refused = refl }))
    (λ k ne. changed (λ p. HoldsStamp p → is_earlier (h.past i).stamp p.stamp ≡ true) k j (past_retired h.taken j (decoded w) (h.past j)) (h.past k)
    (λ same. retired_holds (λ z. is_earlier (h.past i).stamp z ≡ true) h.taken j (decoded w) (h.past j) (v.others j (λ e. ne (same ∙ e))) (λ takes. smaller_count (h.past i).stamp h.taken j v.count))
    (λ other. v.others k ne))
spared_next n h i (Abort j c) fits holds before after v =
    spared_by h i h.taken ((told h (Abort j c)).past) v (omega arith)
    (changed (λ p. 0 < p.depth → SamePast (h.past i) p) i j (record (h.past j) { depth = 0; was_aborted = true }) (h.past i)
    (λ same lt. absurd (omega (arith, lt)))
    (λ ne lt. record { stamp = refl; refused = refl }) after)
    (λ k ne. changed (λ p. HoldsStamp p → is_earlier (h.past i).stamp p.stamp ≡ true) k j (record (h.past j) { depth = 0; was_aborted = true }) (h.past k)
    (λ same holds. v.others j (λ e. ne (same ∙ e)) (inl fits))
    (λ other. v.others k ne))
spared_next n h i (Trap j c p) fits holds before after v = v
spared_next n h i (Refuse j r b) fits holds before after v = record {
  refused = ap (λ z. z || ((i == j) && is_older (h.past r) (h.past j))) v.refused ∙ new (i == j) refl;
  count = v.count;
  others = v.others;
} where
  older : is_older (h.past r) (h.past i) ≡ false
  older = not_older (h.past r) (h.past i) (by (r == i) refl) where
    by : (b : Bool) → (r == i) ≡ b → HoldsStamp (h.past r) → is_earlier (h.past r).stamp (h.past i).stamp ≡ false
    by true is holds = subst (λ m. is_earlier (h.past m).stamp (h.past i).stamp ≡ false) (sym (one_number r i is)) (same_stamp (h.past i).stamp)
    by false is holds = other_stamp (h.past i).stamp (h.past r).stamp (v.others r (two_numbers r i is) holds)

  new : (b : Bool) → (i == j) ≡ b → (b && is_older (h.past r) (h.past j)) ≡ false
  new true is = subst (λ m. is_older (h.past r) (h.past m) ≡ false) (one_number i j is) older
  new false is = refl
spared_next n h i (Spill j b) fits holds before after v =
    spared_by h i h.taken ((told h (Spill j b)).past) v (omega arith)
    (changed (SamePast (h.past i)) i j (record (h.past j) { has_spilled = true }) (h.past i)
    (λ same. subst (λ m. SamePast (h.past i) (record (h.past m) { has_spilled = true })) same (record { stamp = refl; refused = refl }))
    (λ ne. record { stamp = refl; refused = refl }))
    (λ k ne. changed (λ p. HoldsStamp p → is_earlier (h.past i).stamp p.stamp ≡ true) k j (record (h.past j) { has_spilled = true }) (h.past k)
    (λ same. v.others j (λ e. ne (same ∙ e)))
    (λ other. v.others k ne))

-- All entries from a begin on

pub spared_all : (n : ℕ) (h : History) (i : ℕ) (es : List Entry) → AllFit n h es → Holds n h → ((fs rest : List Entry) → es ≡ fs ++ rest → 0 < ((history_of h fs).past i).depth) → Spares h i → Spares (history_of h es) i
spared_all n h i [] fit holds inside v = v
spared_all n h i (e ∷ es) fit holds inside v =
    spared_all n (told h e) i es fit.1 (holds_next n h e fit.0 holds) (λ fs rest is. inside (e ∷ fs) rest (ap (λ z. e ∷ z) is))
    (spared_next n h i e fit.0 holds (inside [] (e ∷ es) refl) (inside (e ∷ []) es refl) v)

-- A begin

-- with it a hart enters a transaction, which has refused nothing; and nothing else changes
pub record Begun (h : History) (i : ℕ) (e : Entry) : Type 0 where
  pub refused : ((told h e).past i).refused_earlier ≡ false
  pub others : (k : ℕ) → k ≢ i → (told h e).past k ≡ h.past k

-- of retired words a begin alone leads into a transaction
begun_past : (taken i : ℕ) (x : Option Instr) (p : Past) → p.depth ≡ 0 → 0 < (past_retired taken i x p).depth → (past_retired taken i x p).refused_earlier ≡ false
begun_past taken i None p none lt = absurd (omega (arith, none, lt))
begun_past taken i (Some (TBegin o)) p none lt = by (p.depth == 0) refl where
  by : (b : Bool) → (p.depth == 0) ≡ b → (cond b (past_begun taken i p) (record p { depth = p.depth + 1; was_refused = false })).refused_earlier ≡ false
  by true is = refl
  by false is = absurd (two_numbers p.depth 0 is none)
begun_past taken i (Some TCommit) p none lt = absurd (omega (arith, none, lt))
begun_past taken i (Some x) p none lt = absurd (omega (arith, none, lt))

pub begun : (h : History) (i : ℕ) (e : Entry) → (h.past i).depth ≡ 0 → 0 < ((told h e).past i).depth → Begun h i e
begun h i (Retire j pc w x l s) none lt = by (i == j) refl lt where
  by : (b : Bool) → (i == j) ≡ b → 0 < (cond b (past_retired h.taken j (decoded w) (h.past j)) (h.past i)).depth → Begun h i (Retire j pc w x l s)
  by true is lt =
      let same = one_number i j is in
      let new = past_retired h.taken j (decoded w) (h.past j) in
      record {
        refused = changed (λ p. p.refused_earlier ≡ false) i j new (h.past i)
            (λ e. begun_past h.taken j (decoded w) (h.past j) (subst (λ m. (h.past m).depth ≡ 0) same none) lt)
            (λ ne. absurd (ne same));
        others = λ k ne. changed (λ p. p ≡ h.past k) k j new (h.past k) (λ e. absurd (ne (e ∙ sym same))) (λ other. refl);
      }
  by false is lt = absurd (omega (arith, none, lt))
begun h i (Abort j c) none lt = absurd (changed (λ p. 0 < p.depth → ⊥) i j (record (h.past j) { depth = 0; was_aborted = true }) (h.past i) (λ same lt. omega (arith, lt)) (λ ne lt. omega (arith, none, lt)) lt)
begun h i (Trap j c p) none lt = absurd (omega (arith, none, lt))
begun h i (Refuse j r b) none lt = absurd (omega (arith, none, lt))
begun h i (Spill j b) none lt = absurd (changed (λ p. 0 < p.depth → ⊥) i j (record (h.past j) { has_spilled = true }) (h.past i)
    (λ same lt. let zero : (h.past j).depth ≡ 0 = subst (λ m. (h.past m).depth ≡ 0) same none in omega (arith, zero, lt))
    (λ ne lt. omega (arith, none, lt)) lt)
