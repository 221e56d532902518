-- A pool that grows: states stay what they are, and what is put into a state is there.
use Rattle.std.proofs.Common.{◌≡◌, ◌≢◌, ◌<◌, ◌≤◌, ◌+◌, ℕ, zero, suc, arith, Bool, true, false, cond, Option, Some, None, List, [], ◌∷◌, length, refl, sym, ap, subst, ◌∙◌, take, get_or, get_or-set_same, get_or-set_other}
use Rattle.std.specs.Prelude.{◌==◌, nat_lt, slice_get, slice_index, slice_set}
use Rattle.std.specs.Option.{option_map_or, option_and_then}
use Rattle.std.proofs.lemmas.Bool.Decides.{nat_tests}
use Rattle.std.proofs.lemmas.Option.{slice_get_past, slice_get_within}
use Rattle.flat.specs.Bytes.{put_at}
use Rattle.flat.specs.State.{Setting, Flat, FlatHart, idle}
use Rattle.flat.specs.Attempts.{with_hart}
use Rattle.flat.proofs.Maps.{one_number, two_numbers}
use Rattle.outcomes.specs.declared.hart.Hart.{Hart}
use Rattle.outcomes.specs.declared.memory.Memory.{Memory}
use Rattle.outcomes.specs.declared.reservations.Reservations.{Reservations}
use Rattle.outcomes.specs.declared.pool.Pool.{Pool}
use Rattle.outcomes.specs.declared.pool.State.{State}
use Rattle.outcomes.specs.Harts.{hart_of, mem_at, mem_after}
use Rattle.outcomes.specs.Reservations.{reserved_of}
use Rattle.outcomes.specs.Pools.{flat_in, reserved_in, with_mem, memory_in, IsWithin, Grows}

-- below the length something stands
pub stands : {A : Type 0} (xs : List A) (n : ℕ) → n < length xs → (x : A) × (slice_get xs n ≡ Some x)
stands [] n lt = absurd (omega arith)
stands (x ∷ xs) zero lt = (x, refl)
stands (x ∷ xs) (suc n) lt = stands xs n (omega arith)

-- the first c numbers of a list, one by one
get_take : (c i : ℕ) (xs : List ℕ) → i < c → c ≤ length xs → slice_get (take c xs) i ≡ Some (slice_index xs i)
get_take zero i xs lt le = absurd (omega arith)
get_take (suc c) i [] lt le = absurd (omega arith)
get_take (suc c) zero (x ∷ xs) lt le = refl
get_take (suc c) (suc i) (x ∷ xs) lt le = get_take c i xs (omega arith) (omega arith)

past_take : (c i : ℕ) (xs : List ℕ) → c ≤ i → slice_get (take c xs) i ≡ None
past_take zero i xs le = refl
past_take (suc c) i [] le = refl
past_take (suc c) zero (x ∷ xs) le = absurd (omega arith)
past_take (suc c) (suc i) (x ∷ xs) le = past_take c i xs (omega arith)

pub length_set : (xs : List ℕ) (i v : ℕ) → length (slice_set xs i v) ≡ length xs
length_set [] i v = refl
length_set (x ∷ xs) zero v = refl
length_set (x ∷ xs) (suc i) v = ap suc (length_set xs i v)

-- a state is within a pool that has grown
pub within_still : (c : ℕ) (p q : Pool) (x : State) → IsWithin c p x → Grows p q → IsWithin c q x
within_still c p q x w g = record {
  full = w.full;
  harts = λ i lt. let h = stands p.harts.keys (slice_index x.harts i) (w.harts i lt) in slice_get_within q.harts.keys (slice_index x.harts i) h.0 (g.harts (slice_index x.harts i) h.0 h.1);
  memory = let m = stands p.memories.keys x.memory w.memory in slice_get_within q.memories.keys x.memory m.0 (g.memories x.memory m.0 m.1);
  reserved = let r = stands p.reservations.keys x.reserved w.reserved in slice_get_within q.reservations.keys x.reserved r.0 (g.reservations x.reserved r.0 r.1);
}

pub grows_on : (p q r : Pool) → Grows p q → Grows q r → Grows p r
grows_on p q r a b = record { harts = λ n h e. b.harts n h (a.harts n h e); memories = λ n m e. b.memories n m (a.memories n m e); reservations = λ n r e. b.reservations n r (a.reservations n r e) }

-- a state of a pool that has grown has the same reservations
pub reserved_still : (c : ℕ) (p q : Pool) (x : State) → IsWithin c p x → Grows p q → (i : ℕ) → reserved_in q x i ≡ reserved_in p x i
reserved_still c p q x w g i =
    let r = stands p.reservations.keys x.reserved w.reserved in
    ap (λ o. option_map_or (λ r. reserved_of r i) o None) (g.reservations x.reserved r.0 r.1 ∙ sym r.1)

module _ (s : Setting) (image : List ℕ) where
  abbrev size : ℕ
  size = length image

  -- a hart of a state
  pub inside : (p : Pool) (x : State) (i : ℕ) → s.count ≤ length x.harts → i < s.count
      → (flat_in s image p x).hart i ≡ option_map_or (hart_of size) (slice_get p.harts.keys (slice_index x.harts i)) idle
  inside p x i full lt = ap (λ o. option_map_or (hart_of size) (option_and_then (slice_get p.harts.keys) o) idle) (get_take s.count i x.harts lt full)

  pub outside : (p : Pool) (x : State) (i : ℕ) → s.count ≤ i → (flat_in s image p x).hart i ≡ idle
  outside p x i le = ap (λ o. option_map_or (hart_of size) (option_and_then (slice_get p.harts.keys) o) idle) (past_take s.count i x.harts le)

  hart_still : (p q : Pool) (x : State) → IsWithin s.count p x → Grows p q → (i : ℕ) → i < s.count
      → option_map_or (hart_of size) (slice_get q.harts.keys (slice_index x.harts i)) idle ≡ option_map_or (hart_of size) (slice_get p.harts.keys (slice_index x.harts i)) idle
  hart_still p q x w g i lt =
      let h = stands p.harts.keys (slice_index x.harts i) (w.harts i lt) in
      ap (λ o. option_map_or (hart_of size) o idle) (g.harts (slice_index x.harts i) h.0 h.1 ∙ sym h.1)

  memory_still : (p q : Pool) (x : State) → IsWithin s.count p x → Grows p q → (a : ℕ) → memory_in image q.memories.keys x.memory a ≡ memory_in image p.memories.keys x.memory a
  memory_still p q x w g a =
      let m = stands p.memories.keys x.memory w.memory in
      ap (λ o. option_map_or (λ m. mem_at image m a) o 0) (g.memories x.memory m.0 m.1 ∙ sym m.1)

  -- a state of a pool that has grown is the same flat state
  pub state_still : (p q : Pool) (x : State) → IsWithin s.count p x → Grows p q → flat_in s image q x ≡ flat_in s image p x
  state_still p q x w g =
      let H : (i : ℕ) → (flat_in s image q x).hart i ≡ (flat_in s image p x).hart i = λ i. by i (nat_lt i s.count) refl in
      λ k. record { setting = s; mem = λ a. memory_still p q x w g a k; hart = λ i. H i k }
    where
      by : (i : ℕ) (b : Bool) → nat_lt i s.count ≡ b → (flat_in s image q x).hart i ≡ (flat_in s image p x).hart i
      by i true e = let lt : i < s.count = grind (arith, nat_tests) in inside q x i w.full lt ∙ hart_still p q x w g i lt ∙ sym (inside p x i w.full lt)
      by i false e = let le : s.count ≤ i = grind (arith, nat_tests) in outside q x i le ∙ sym (outside p x i le)

  -- another hart is put into it
  module _ (p q : Pool) (x : State) (id n : ℕ) (hart : Hart) (w : IsWithin s.count p x) (g : Grows p q) (lt : id < s.count)
      (h : Hart) (there : slice_get q.harts.keys n ≡ Some h) (same : (size : ℕ) → hart_of size h ≡ hart_of size hart) where
    abbrev pub put : State
    put = record x { harts = slice_set x.harts id n }

    full : s.count ≤ length put.harts
    full = let e : length put.harts ≡ length x.harts = length_set x.harts id n in let f = w.full in omega arith

    here : (i : ℕ) → i ≡ id → slice_index put.harts i ≡ n
    here i e = let f = w.full in let l : id < length x.harts = omega arith in ap (λ i. slice_index put.harts i) e ∙ get_or-set_same x.harts id n 0 l

    elsewhere : (i : ℕ) → i ≢ id → slice_index put.harts i ≡ slice_index x.harts i
    elsewhere i ne = get_or-set_other x.harts id i n 0 ne

    pub put_within : IsWithin s.count q put
    put_within = record { full = full; harts = λ i l. by i l (i == id) refl; memory = (within_still s.count p q x w g).memory; reserved = (within_still s.count p q x w g).reserved }
      where
        by : (i : ℕ) → i < s.count → (b : Bool) → (i == id) ≡ b → slice_index put.harts i < length q.harts.keys
        by i l true e = subst (λ m. m < length q.harts.keys) (sym (here i (one_number i id e))) (slice_get_within q.harts.keys n h there)
        by i l false e = subst (λ m. m < length q.harts.keys) (sym (elsewhere i (two_numbers i id e))) ((within_still s.count p q x w g).harts i l)

    pub put_there : flat_in s image q put ≡ with_hart (flat_in s image p x) id (hart_of size hart)
    put_there =
        let H : (i : ℕ) → (flat_in s image q put).hart i ≡ put_at id (hart_of size hart) (flat_in s image p x).hart i = λ i. by i (nat_lt i s.count) (i == id) refl refl in
        λ k. record { setting = s; mem = λ a. memory_still p q x w g a k; hart = λ i. H i k }
      where
        by : (i : ℕ) (b t : Bool) → nat_lt i s.count ≡ b → (i == id) ≡ t → (flat_in s image q put).hart i ≡ cond t (hart_of size hart) ((flat_in s image p x).hart i)
        by i true true e f =
            let l : i < s.count = grind (arith, nat_tests) in
            inside q put i full l
            ∙ ap (λ m. option_map_or (hart_of size) (slice_get q.harts.keys m) idle) (here i (one_number i id f))
            ∙ ap (λ o. option_map_or (hart_of size) o idle) there ∙ same size
        by i true false e f =
            let l : i < s.count = grind (arith, nat_tests) in
            inside q put i full l
            ∙ ap (λ m. option_map_or (hart_of size) (slice_get q.harts.keys m) idle) (elsewhere i (two_numbers i id f))
            ∙ hart_still p q x w g i l ∙ sym (inside p x i w.full l)
        by i false true e f = let k = one_number i id f in let le : s.count ≤ i = grind (arith, nat_tests) in absurd (omega arith)
        by i false false e f = let le : s.count ≤ i = grind (arith, nat_tests) in outside q put i le ∙ sym (outside p x i le)

  -- another memory is put into it
  module _ (p q : Pool) (x : State) (n : ℕ) (memory : Memory) (w : IsWithin s.count p x) (g : Grows p q)
      (m : Memory) (there : slice_get q.memories.keys n ≡ Some m) (same : (image : List ℕ) (a : ℕ) → mem_at image m a ≡ mem_at image memory a) where
    abbrev pub laid : State
    laid = record x { memory = n }

    pub laid_within : IsWithin s.count q laid
    laid_within = record { full = w.full; harts = (within_still s.count p q x w g).harts; memory = slice_get_within q.memories.keys n m there; reserved = (within_still s.count p q x w g).reserved }

    pub laid_there : flat_in s image q laid ≡ with_mem (flat_in s image p x) (mem_at image memory)
    laid_there =
        let S = state_still p q x w g in
        let M : (a : ℕ) → memory_in image q.memories.keys n a ≡ mem_at image memory a = λ a. ap (λ o. option_map_or (λ m. mem_at image m a) o 0) there ∙ same image a in
        λ k. record { setting = s; mem = λ a. M a k; hart = λ i. (S k).hart i }

-- other reservations are put into a state
module _ (c : ℕ) (p q : Pool) (x : State) (n : ℕ) (reservations : Reservations) (w : IsWithin c p x) (g : Grows p q) (there : slice_get q.reservations.keys n ≡ Some reservations) where
  pub kept_within : IsWithin c q (record x { reserved = n })
  kept_within = let v = within_still c p q x w g in record { full = v.full; harts = v.harts; memory = v.memory; reserved = slice_get_within q.reservations.keys n reservations there }

  pub kept_there : (i : ℕ) → reserved_in q (record x { reserved = n }) i ≡ reserved_of reservations i
  kept_there i = ap (λ o. option_map_or (λ r. reserved_of r i) o None) there
