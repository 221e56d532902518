-- The state that a program begins in.
use Rattle.std.proofs.Common.{◌≡◌, ◌≢◌, ◌<◌, ◌≤◌, ◌+◌, ◌⊎◌, inl, inr, ℕ, arith, Bool, true, false, cond, Some, None, List, length, refl, sym, ap, subst, ◌∙◌, get_or-set_same, get_or-set_other}
use Rattle.std.specs.Prelude.{slice_get, slice_index, slice_set, nat_lt}
use Rattle.std.specs.Option.{option_map_or}
use Rattle.std.proofs.lemmas.Bool.Decides.{nat_tests}
use Rattle.std.proofs.lemmas.Option.{slice_get_within}
use Rattle.table.specs.Program.{image_at}
use Rattle.loader.specs.Memory.{mem_of}
use Rattle.flat.specs.State.{Setting, Flat, FlatHart, idle}
use Rattle.flat.specs.Start.{first_hart, first_state}
use Rattle.outcomes.specs.declared.hart.Hart.{Hart}
use Rattle.outcomes.specs.declared.memory.Memory.{Memory}
use Rattle.outcomes.specs.declared.reservations.Reservations.{Reservations}
use Rattle.outcomes.specs.declared.pool.Pool.{Pool}
use Rattle.outcomes.specs.declared.pool.State.{State}
use Rattle.outcomes.specs.Harts.{mem_at, hart_of}
use Rattle.outcomes.specs.Reservations.{reserved_of}
use Rattle.outcomes.specs.Pools.{flat_in, reserved_in, memory_in, IsWithin, Grows}
use Rattle.outcomes.proofs.Pooled.{length_set, inside, outside}
use Rattle.outcomes.proofs.Together.{below_or_at}

-- a hart that the pool has under a number is hart j as it begins
pub record IsFirst (size entry count : ℕ) (p : Pool) (n j : ℕ) : Type 0 where
  pub hart : Hart
  pub stands : slice_get p.harts.keys n ≡ Some hart
  pub is : (s : Setting) → s.size ≡ size → s.count ≡ count → hart_of size hart ≡ first_hart s entry j

-- the harts below i are there, memory as it begins, and no reservation
pub record AreBegun (size entry count : ℕ) (p : Pool) (x : State) (i : ℕ) : Type 0 where
  pub full : 8 ≤ length x.harts
  pub memory : Memory
  pub remembered : slice_get p.memories.keys x.memory ≡ Some memory
  pub blank : (image : List ℕ) (a : ℕ) → mem_at image memory a ≡ mem_of image a
  pub reservations : Reservations
  pub reserved : slice_get p.reservations.keys x.reserved ≡ Some reservations
  pub none : (j : ℕ) → reserved_of reservations j ≡ None
  pub harts : (j : ℕ) → j < i → IsFirst size entry count p (slice_index x.harts j) j

-- one hart more
pub begun_more : (size entry count : ℕ) (p q : Pool) (x : State) (i n : ℕ) → i < 8 → Grows p q → AreBegun size entry count p x i → IsFirst size entry count q n i
    → AreBegun size entry count q (record x { harts = slice_set x.harts i n }) (i + 1)
begun_more size entry count p q x i n few g b first = record {
  full = let e = length_set x.harts i n in let f = b.full in omega arith;
  memory = b.memory;
  remembered = g.memories x.memory b.memory b.remembered;
  blank = b.blank;
  reservations = b.reservations;
  reserved = g.reservations x.reserved b.reservations b.reserved;
  none = b.none;
  harts = λ j lt. elim (below_or_at j i lt) [
    | inl lower ↦
        let old = b.harts j lower in
        let ne : j ≢ i = λ e. omega arith in
        subst (λ m. IsFirst size entry count q m j) (sym (get_or-set_other x.harts i j n 0 ne)) (record { hart = old.hart; stands = g.harts (slice_index x.harts j) old.hart old.stands; is = old.is })
    | inr same ↦
        let l : i < length x.harts = let f = b.full in omega arith in
        let here : slice_index (slice_set x.harts i n) j ≡ n = ap (λ j. slice_index (slice_set x.harts i n) j) same ∙ get_or-set_same x.harts i n 0 l in
        subst (λ m. IsFirst size entry count q m j) (sym here) (subst (λ k. IsFirst size entry count q n k) (sym same) first)
  ];
}

-- all harts
module _ (size entry count : ℕ) (p : Pool) (x : State) (few : count ≤ 8) (b : AreBegun size entry count p x count) where
  pub begun_within : IsWithin count p x
  begun_within = record {
    full = let f = b.full in omega arith;
    harts = λ i lt. let h = b.harts i lt in slice_get_within p.harts.keys (slice_index x.harts i) h.hart h.stands;
    memory = slice_get_within p.memories.keys x.memory b.memory b.remembered;
    reserved = slice_get_within p.reservations.keys x.reserved b.reservations b.reserved;
  }

  pub begun_reserved : (i : ℕ) → reserved_in p x i ≡ None
  begun_reserved i = ap (λ o. option_map_or (λ r. reserved_of r i) o None) b.reserved ∙ b.none i

  pub begun_flat : (s : Setting) (image : List ℕ) → s.size ≡ size → length image ≡ size → s.count ≡ count → ((a : ℕ) → mem_of image a ≡ image_at s.segments a) → flat_in s image p x ≡ first_state s entry
  begun_flat s image size_is long count_is image_is =
      let M : (a : ℕ) → memory_in image p.memories.keys x.memory a ≡ image_at s.segments a = λ a. ap (λ o. option_map_or (λ m. mem_at image m a) o 0) b.remembered ∙ b.blank image a ∙ image_is a in
      let H : (i : ℕ) → (flat_in s image p x).hart i ≡ cond (nat_lt i s.count) (first_hart s entry i) idle = λ i. by i (nat_lt i s.count) refl in
      λ k. record { setting = s; mem = λ a. M a k; hart = λ i. H i k }
    where
      by : (i : ℕ) (t : Bool) → nat_lt i s.count ≡ t → (flat_in s image p x).hart i ≡ cond t (first_hart s entry i) idle
      by i true e =
          let lt : i < s.count = grind (arith, nat_tests) in
          let full : s.count ≤ length x.harts = let f = b.full in omega arith in
          let h = b.harts i (omega arith) in
          inside s image p x i full lt ∙ ap (λ o. option_map_or (hart_of (length image)) o idle) h.stands ∙ ap (λ n. hart_of n h.hart) long ∙ h.is s size_is count_is
      by i false e = let le : s.count ≤ i = grind (arith, nat_tests) in outside s image p x i le
