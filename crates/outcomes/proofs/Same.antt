-- What a test for equality says: harts that it finds equal are one hart of the flat machine, memories one memory, reservations the same, states one state.
use Rattle.std.proofs.Common.{◌≡◌, ℕ, Bool, true, false, Option, Some, None, List, refl, sym, ap, subst, ◌∙◌, true≢false}
use Rattle.std.specs.Prelude.{◌&&◌, ◌==◌, ◌/◌, ◌%◌, nat_eq, nat_lt, cond}
use Rattle.std.specs.Bool.{Decides}
use Rattle.std.specs.Option.{option_map, option_map_or, option_and_then, option_eq}
use Rattle.std.specs.Ordering.{nat_cmp}
use Rattle.std.specs.BTreeMap.{get}
use Rattle.std.proofs.Common.{rules}
use Rattle.std.specs.Cmp.{booleans_Decides}
use Rattle.std.proofs.lemmas.Bool.Decides.{Decides-eqb, Decides-and, Decides-like}
use Rattle.std.specs.Cmp.Lexicographic.{pointwise}
use Rattle.std.proofs.lemmas.Slice.Eq.{slice_eq-Decides}
use Rattle.std.proofs.lemmas.Map.Lookups.{btree_map_eq-Decides}
use Rattle.words.specs.declared.cause.Status.{Status}
use Rattle.words.specs.contracts.cause.StatusPartialEq.TheImpl as status
use Rattle.flat.specs.State.{FlatHart, Tx}
use Rattle.outcomes.specs.declared.overlay.Footprint.{Footprint}
use Rattle.outcomes.specs.declared.overlay.Overlay.{Overlay}
use Rattle.outcomes.specs.declared.hart.Transaction.{Transaction}
use Rattle.outcomes.specs.declared.hart.Hart.{Hart}
use Rattle.outcomes.specs.declared.memory.Memory.{Memory}
use Rattle.outcomes.specs.declared.reservations.Reservations.{Reservations}
use Rattle.outcomes.specs.declared.pool.State.{State}
use Rattle.outcomes.specs.contracts.overlay.FootprintPartialEq.TheImpl as footprint
use Rattle.outcomes.specs.contracts.overlay.OverlayPartialEq.TheImpl as overlay
use Rattle.outcomes.specs.contracts.hart.TransactionPartialEq.TheImpl as transaction
use Rattle.outcomes.specs.contracts.hart.HartPartialEq.TheImpl as hart
use Rattle.outcomes.specs.contracts.memory.MemoryPartialEq.TheImpl as memory
use Rattle.outcomes.specs.contracts.reservations.ReservationsPartialEq.TheImpl as reservations
use Rattle.outcomes.specs.contracts.pool.StatePartialEq.TheImpl as state
use Rattle.outcomes.specs.Overlays.{reads_in, writes_in, byte_over, byte_at, within}
use Rattle.outcomes.specs.Harts.{tx_of, hart_of}

abbrev pub footprint_eq : Footprint → Footprint → Bool
footprint_eq = (footprint.ghosts).eq

abbrev pub overlay_eq : Overlay → Overlay → Bool
overlay_eq = (overlay.ghosts).eq

abbrev pub transaction_eq : Transaction → Transaction → Bool
transaction_eq = (transaction.ghosts).eq

abbrev pub hart_eq : Hart → Hart → Bool
hart_eq = (hart.ghosts).eq

abbrev pub memory_eq : Memory → Memory → Bool
memory_eq = (memory.ghosts).eq

abbrev pub reservations_eq : Reservations → Reservations → Bool
reservations_eq = (reservations.ghosts).eq

abbrev pub state_eq : State → State → Bool
state_eq = (state.ghosts).eq

abbrev status_eq : Status → Status → Bool
status_eq = (status.ghosts).eq

left : (a b : Bool) → (a && b) ≡ true → a ≡ true
left true b e = refl
left false b e = e

right : (a b : Bool) → (a && b) ≡ true → b ≡ true
right true b e = e
right false b e = absurd (true≢false (sym e))

pub decides_option : {A : Type 0} {E : A → A → Bool} → ((a b : A) → Decides (E a b) (a ≡ b)) → (x y : Option A) → Decides (option_eq E x y) (x ≡ y)
decides_option d None None = (λ e. refl, λ e. refl)
decides_option d None (Some y) = (λ e. absurd (true≢false (sym e)), λ e. cc)
decides_option d (Some x) None = (λ e. absurd (true≢false (sym e)), λ e. cc)
decides_option d (Some x) (Some y) = (λ e. ap Some ((d x y).0 e), λ e. (d x y).1 (cc))

decides_numbers : (xs ys : List ℕ) → Decides (pointwise nat_eq xs ys) (xs ≡ ys)
decides_numbers xs ys = slice_eq-Decides Decides-eqb xs ys (pointwise nat_eq xs ys) refl

decides_bytes : (xs ys : List (Option ℕ)) → Decides (pointwise (option_eq nat_eq) xs ys) (xs ≡ ys)
decides_bytes xs ys = slice_eq-Decides (decides_option Decides-eqb) xs ys (pointwise (option_eq nat_eq) xs ys) refl

decides_status : (a b : Status) → Decides (status_eq a b) (a ≡ b)
decides_status a b = search rules

decides_footprint : (a b : Footprint) → Decides (footprint_eq a b) (a ≡ b)
decides_footprint a b =
    Decides-like _ (λ h. search rules) (λ e. search rules)
    (Decides-and _ _ (booleans_Decides a.read b.read)
    (Decides-and _ _ (booleans_Decides a.written b.written) (decides_bytes a.bytes b.bytes)))

same_overlay : (a b : Overlay) → overlay_eq a b ≡ true → a.blocks.entries ≡ b.blocks.entries
same_overlay a b e = (btree_map_eq-Decides Decides-eqb decides_footprint a.blocks b.blocks (overlay_eq a b) refl).0 e

-- what an overlay says is known by its entries
module _ (a b : Overlay) (e : a.blocks.entries ≡ b.blocks.entries) where
  same_get : (n : ℕ) → get nat_cmp a.blocks n ≡ get nat_cmp b.blocks n
  same_get n = cc

  pub same_reads : (n : ℕ) → reads_in a n ≡ reads_in b n
  same_reads n = ap (λ o. option_map_or (λ (p : Footprint). p.read) o false) (same_get n)

  pub same_writes : (n : ℕ) → writes_in a n ≡ writes_in b n
  same_writes n = ap (λ o. option_map_or (λ (p : Footprint). p.written) o false) (same_get n)

  pub same_bytes : (n : ℕ) → byte_over a n ≡ byte_over b n
  same_bytes n = ap (λ o. option_and_then (λ (p : Footprint). byte_at p.bytes (n % 32)) o) (same_get (n / 32))

same_transaction : (size : ℕ) (a b : Transaction) → transaction_eq a b ≡ true → tx_of size a ≡ tx_of size b
same_transaction size a b e =
    let O = overlay_eq a.overlay b.overlay in
    let S = a.stores == b.stores in
    let D = a.depth == b.depth in
    let P = a.abort_pc == b.abort_pc in
    let C = pointwise nat_eq a.checkpoint b.checkpoint in
    let one = right C (P && (D && (S && O))) e in
    let two = right P (D && (S && O)) one in
    let three = right D (S && O) two in
    let four = right S O three in
    let checkpoint = (decides_numbers a.checkpoint b.checkpoint).0 (left C (P && (D && (S && O))) e) in
    let abort_pc = (Decides-eqb a.abort_pc b.abort_pc).0 (left P (D && (S && O)) one) in
    let depth = (Decides-eqb a.depth b.depth).0 (left D (S && O) two) in
    let stores = (Decides-eqb a.stores b.stores).0 (left S O three) in
    let entries = same_overlay a.overlay b.overlay four in
    λ k. record {
      checkpoint = checkpoint k;
      abort_pc = abort_pc k;
      depth = depth k;
      stores = stores k;
      writes = λ n. cond (nat_lt n size) (same_bytes a.overlay b.overlay entries n k) None;
      read_set = λ n. same_reads a.overlay b.overlay entries n k;
      write_set = λ n. same_writes a.overlay b.overlay entries n k;
    }

same_inside : (size : ℕ) (a b : Option Transaction) → option_eq transaction_eq a b ≡ true → option_map (tx_of size) a ≡ option_map (tx_of size) b
same_inside size None None e = refl
same_inside size None (Some y) e = absurd (true≢false (sym e))
same_inside size (Some x) None e = absurd (true≢false (sym e))
same_inside size (Some x) (Some y) e = ap Some (same_transaction size x y e)

pub same_hart : (a b : Hart) → hart_eq a b ≡ true → (size : ℕ) → hart_of size a ≡ hart_of size b
same_hart a b e size =
    let R = pointwise nat_eq a.regs b.regs in
    let P = a.pc == b.pc in
    let O = pointwise nat_eq a.output.items b.output.items in
    let S = status_eq a.status b.status in
    let T = option_eq transaction_eq a.tx b.tx in
    let one = right R (P && (O && (S && T))) e in
    let two = right P (O && (S && T)) one in
    let three = right O (S && T) two in
    let regs = (decides_numbers a.regs b.regs).0 (left R (P && (O && (S && T))) e) in
    let pc = (Decides-eqb a.pc b.pc).0 (left P (O && (S && T)) one) in
    let output = (decides_numbers a.output.items b.output.items).0 (left O (S && T) two) in
    let status = (decides_status a.status b.status).0 (left S T three) in
    let tx = same_inside size a.tx b.tx (right S T three) in
    λ k. record { regs = regs k; pc = pc k; output = output k; status = status k; tx = tx k }

pub same_memory_by : (a b : Memory) → memory_eq a b ≡ true → a.bytes.entries ≡ b.bytes.entries
same_memory_by a b e = (btree_map_eq-Decides Decides-eqb Decides-eqb a.bytes b.bytes (memory_eq a b) refl).0 e

pub same_reservations : (a b : Reservations) → reservations_eq a b ≡ true → a ≡ b
same_reservations a b e = let blocks = (decides_bytes a.blocks b.blocks).0 e in λ k. record { blocks = blocks k }

pub decides_state : (a b : State) → Decides (state_eq a b) (a ≡ b)
decides_state a b =
    Decides-like _ (λ h. search rules) (λ e. search rules)
    (Decides-and _ _ (decides_numbers a.harts b.harts)
    (Decides-and _ _ (Decides-eqb a.memory b.memory) (Decides-eqb a.reserved b.reserved)))

pub same_state : (a b : State) → state_eq a b ≡ true → a ≡ b
same_state a b e = (decides_state a b).0 e
