-- From the lists that the plain machine keeps to the flat state: what a change of one hart, and of memory, is there.
use Rattle.std.proofs.Common.{◌≡◌, ◌<◌, ◌≤◌, ℕ, length-set, true, false, cond, Option, Some, None, Result, Ok, Err, List, length, get_or, set, refl, sym, ap, subst, ◌∙◌, arith}
use Rattle.std.specs.Prelude.{OnOk, IfSome, vec_len, slice_get, ◌==◌}
use Rattle.std.specs.Option.{option_map_or}
use Rattle.std.proofs.lemmas.Option.{slice_get-get_or, slice_get_past}
use Rattle.std.proofs.lemmas.Bool.Decides.{nat_tests}
use Rattle.std.proofs.lemmas.Grind.{get_or-set_at}
use Rattle.std.proofs.lemmas.List.{get_or-set_other}
use lib.Dec.{ltb}
use borrow.Author.Tests.{ltb-true, ltb-false}
use Rattle.words.specs.declared.cause.AbortCause.{AbortCause}
use Rattle.table.specs.declared.effect.Effect.{Effect}
use Rattle.flat.specs.Bytes.{put_at}
use Rattle.flat.specs.State.{FlatHart, Tx, seen, idle}
use Rattle.flat.specs.Effects.{hart_after, mem_by}
use Rattle.flat.specs.Steps.{retired, aborted, hart_aborted}
use Rattle.reference.specs.declared.hart.Hart.{Hart}
use Rattle.reference.specs.declared.machine.Machine.{Machine}
use Rattle.loader.specs.Memory.{mem_of}
use Rattle.reference.specs.States.{hart_of, view_of}
use Rattle.reference.specs.Machines.{flat_of, setting_of}

-- an element of a list after a write
get_set : {X : Type 0} (xs : List X) (i j : ℕ) (v : X) → i < length xs → slice_get (set xs i v) j ≡ cond (j == i) (Some v) (slice_get xs j)
get_set xs i j v h = elim (ltb j (length xs)) as (λ b. ltb j (length xs) ≡ b → slice_get (set xs i v) j ≡ cond (j == i) (Some v) (slice_get xs j)) [
  | true ↦ λ e.
      let lt : j < length xs = ltb-true j (length xs) e in
      let l : length (set xs i v) ≡ length xs = length-set xs i v in
      let a : slice_get (set xs i v) j ≡ Some (get_or (set xs i v) j v) = slice_get-get_or (set xs i v) j v (omega arith) in
      let b : slice_get xs j ≡ Some (get_or xs j v) = slice_get-get_or xs j v lt in
      grind (arith, nat_tests, get_or-set_at, get_or-set_other)
  | false ↦ λ e.
      let ge : length xs ≤ j = ltb-false j (length xs) e in
      let l : length (set xs i v) ≡ length xs = length-set xs i v in
      let a : slice_get (set xs i v) j ≡ None = slice_get_past (set xs i v) j (omega arith) in
      let b : slice_get xs j ≡ None = slice_get_past xs j ge in
      grind (arith, nat_tests)
] refl

-- hart i of the flat state is the one that stands there
pub hart_at : (m : Machine) (i : ℕ) (h : Hart) → i < vec_len m.harts → h ≡ get_or m.harts.items i h → (flat_of m).hart i ≡ hart_of (vec_len m.memory) h
hart_at m i h lt is =
    let inside : i < length m.harts.items = rw (sym m.harts.ok.0) lt in
    ap (λ o. option_map_or (hart_of (vec_len m.memory)) o idle) (slice_get-get_or m.harts.items i h inside ∙ ap (λ x. Some x) (sym is))

-- and after a write of hart i
pub hart_set : (m n : Machine) (i : ℕ) (h : Hart) → i < vec_len m.harts → vec_len n.memory ≡ vec_len m.memory → n.harts.items ≡ set m.harts.items i h
    → (j : ℕ) → (flat_of n).hart j ≡ put_at i (hart_of (vec_len m.memory) h) (flat_of m).hart j
hart_set m n i h lt size is j =
    let inside : i < length m.harts.items = rw (sym m.harts.ok.0) lt in
    let F = λ (k : ℕ) (o : Option Hart). option_map_or (hart_of k) o idle in
    ap (λ k. F k (slice_get n.harts.items j)) size
    ∙ ap (λ xs. F (vec_len m.memory) (slice_get xs j)) is
    ∙ ap (F (vec_len m.memory)) (get_set m.harts.items i j h inside)
    ∙ elim (j == i) as (λ b. F (vec_len m.memory) (cond b (Some h) (slice_get m.harts.items j)) ≡ cond b (hart_of (vec_len m.memory) h) ((flat_of m).hart j)) [ true ↦ refl | false ↦ refl ]

-- a hart put where it stands already changes nothing
put_same : (f : ℕ → FlatHart) (i : ℕ) (h : FlatHart) → h ≡ f i → (j : ℕ) → put_at i h f j ≡ f j
put_same f i h e j = elim (j == i) as (λ b. (j == i) ≡ b → cond b h (f j) ≡ f j) [
  | true ↦ λ t. let k : j ≡ i = grind (arith, nat_tests) in e ∙ ap f (sym k)
  | false ↦ λ t. refl
] refl

-- memory and a hart after an effect are those of the flat state after it
pub moved : (m n : Machine) (i : ℕ) (h new : Hart) (e : Effect) (bytes more : List ℕ)
    → i < vec_len m.harts → h ≡ get_or m.harts.items i h → bytes ≡ m.memory.items
    → n.program ≡ m.program → vec_len n.memory ≡ vec_len m.memory → vec_len n.harts ≡ vec_len m.harts
    → n.memory.items ≡ more → n.harts.items ≡ set m.harts.items i new
    → hart_of (length bytes) new ≡ hart_after (view_of bytes h) (hart_of (length bytes) h) e
    → ((a : ℕ) → mem_of more a ≡ mem_by (view_of bytes h) (hart_of (length bytes) h).tx (mem_of bytes) e.act a)
    → flat_of n ≡ retired (flat_of m) i e
moved m n i h new e bytes more lt is same program size count mem harts after laid =
    let f = flat_of m in
    let items = m.memory.items in
    let at : f.hart i ≡ hart_of (vec_len m.memory) h = hart_at m i h lt is in
    let len : length items ≡ vec_len m.memory = sym m.memory.ok.0 in
    let K = λ (b : List ℕ) (x : FlatHart) (a : ℕ). mem_by (λ a. seen x.tx (mem_of b) a) x.tx (mem_of b) e.act a in
    let H = λ (b : List ℕ) (x : FlatHart). hart_after (λ a. seen x.tx (mem_of b) a) x e in
    let M : (a : ℕ) → mem_of n.memory.items a ≡ K items (f.hart i) a = λ a.
    ap (λ l. mem_of l a) mem ∙ laid a
    ∙ ap (λ b. K b (hart_of (length b) h) a) same ∙ ap (λ k. K items (hart_of k h) a) len ∙ ap (λ x. K items x a) (sym at) in
    let E : hart_of (vec_len m.memory) new ≡ H items (f.hart i) =
    ap (λ k. hart_of k new) (sym len) ∙ ap (λ b. hart_of (length b) new) (sym same) ∙ after
    ∙ ap (λ b. H b (hart_of (length b) h)) same ∙ ap (λ k. H items (hart_of k h)) len ∙ ap (H items) (sym at) in
    let J : (j : ℕ) → (flat_of n).hart j ≡ put_at i (H items (f.hart i)) f.hart j = λ j.
    hart_set m n i new lt size harts j ∙ ap (λ x. put_at i x f.hart j) E in
    λ k. record { setting = record { segments = (program k).segments; size = size k; count = count k }; mem = λ a. M a k; hart = λ j. J j k }

-- memory and a hart that are as before leave the flat state as it is
pub unmoved : (m n : Machine) (i : ℕ) (h new : Hart) (bytes more : List ℕ)
    → i < vec_len m.harts → h ≡ get_or m.harts.items i h → bytes ≡ m.memory.items
    → n.program ≡ m.program → vec_len n.memory ≡ vec_len m.memory → vec_len n.harts ≡ vec_len m.harts
    → n.memory.items ≡ more → n.harts.items ≡ set m.harts.items i new
    → hart_of (length bytes) new ≡ hart_of (length bytes) h → more ≡ bytes
    → flat_of n ≡ flat_of m
unmoved m n i h new bytes more lt is same program size count mem harts after laid =
    let f = flat_of m in
    let len : length bytes ≡ vec_len m.memory = ap length same ∙ sym m.memory.ok.0 in
    let M : (a : ℕ) → mem_of n.memory.items a ≡ f.mem a = λ a. ap (λ l. mem_of l a) (mem ∙ laid ∙ same) in
    let E : hart_of (vec_len m.memory) new ≡ f.hart i = ap (λ k. hart_of k new) (sym len) ∙ after ∙ ap (λ k. hart_of k h) len ∙ sym (hart_at m i h lt is) in
    let J : (j : ℕ) → (flat_of n).hart j ≡ f.hart j = λ j. hart_set m n i new lt size harts j ∙ put_same f.hart i (hart_of (vec_len m.memory) new) E j in
    λ k. record { setting = record { segments = (program k).segments; size = size k; count = count k }; mem = λ a. M a k; hart = λ j. J j k }

-- two facts at Ok give a third
pub on_ok_both : {T E : Type 0} (r : Result T E) (P Q R : Type 0) → OnOk r P → OnOk r Q → (P → Q → R) → OnOk r R
on_ok_both (Ok x) P Q R p q f = f p q
on_ok_both (Err e) P Q R p q f = tt

if_some : {A : Type 0} (o : Option A) (P Q : A → Type 0) → ((x : A) → P x → Q x) → IfSome o P → IfSome o Q
if_some (Some x) P Q f p = f x p
if_some None P Q f p = tt

-- a hart whose transaction was rolled back
pub rolled_back : (m n : Machine) (i : ℕ) (h new : Hart) (cause : AbortCause)
    → i < vec_len m.harts → h ≡ get_or m.harts.items i h
    → setting_of n ≡ setting_of m → vec_len n.memory ≡ vec_len m.memory → n.memory.items ≡ m.memory.items → n.harts.items ≡ set m.harts.items i new
    → ((size : ℕ) → IfSome (hart_of size h).tx (λ t. hart_of size new ≡ hart_aborted (hart_of size h) cause t))
    → IfSome ((flat_of m).hart i).tx (λ t. flat_of n ≡ aborted (flat_of m) i cause t)
rolled_back m n i h new cause lt is setting size mem harts back =
    let f = flat_of m in
    let Q = λ (x : FlatHart) (t : Tx). hart_of (vec_len m.memory) new ≡ hart_aborted x cause t in
    let P = λ (x : FlatHart). IfSome x.tx (Q x) in
    if_some (f.hart i).tx (Q (f.hart i)) (λ t. flat_of n ≡ aborted f i cause t)
    (λ t e. λ k. record { setting = setting k; mem = λ a. mem_of (mem k) a; hart = λ j. (hart_set m n i new lt size harts j ∙ ap (λ x. put_at i x f.hart j) e) k })
    (subst P (sym (hart_at m i h lt is)) (back (vec_len m.memory)))
