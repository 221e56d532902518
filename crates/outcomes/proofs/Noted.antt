-- What a transaction is after an access was noted.
use Rattle.std.proofs.Common.{◌≡◌, ◌≤◌, ◌+◌, ◌/◌, ℕ, arith, Bool, true, false, cond, Option, Some, None, refl, ap, ◌∙◌}
use Rattle.std.specs.Prelude.{◌==◌, ◌&&◌, ◌||◌, nat_lt, is_some}
use Rattle.std.proofs.lemmas.Bool.Decides.{nat_tests}
use Rattle.table.specs.declared.effect.MemoryAct.{MemoryAct}
use Rattle.table.specs.declared.effect.Load.{Load}
use Rattle.words.specs.Bytes.{bytes_in, byte_of}
use Rattle.flat.specs.Bytes.{put_at, laid}
use Rattle.flat.specs.State.{Tx}
use Rattle.flat.specs.Effects.{tx_got, tx_put}
use Rattle.outcomes.specs.declared.hart.Transaction.{Transaction}
use Rattle.outcomes.specs.declared.overlay.Overlay.{Overlay}
use Rattle.outcomes.specs.Overlays.{reads_in, writes_in, byte_over, within, bytes_put}
use Rattle.outcomes.specs.Harts.{tx_of, stores_after}

-- a set with a block added, if there is a reason to
added : {A : Type 0} → Option A → ℕ → (ℕ → Bool) → ℕ → Bool
added None k old b = old b
added (Some x) k old b = put_at k true old b

add_by : {A : Type 0} (o : Option A) (k : ℕ) (old : ℕ → Bool) (b : ℕ) → (old b || (is_some o && (b == k))) ≡ added o k old b
unfolding added
add_by None k old b = elim (old b) as (λ x. (x || false) ≡ x) [ true ↦ refl | false ↦ refl ]
add_by (Some x) k old b = elim (b == k) as (λ y. (old b || y) ≡ cond y true (old b)) [
  | true ↦ elim (old b) as (λ x. (x || true) ≡ true) [ true ↦ refl | false ↦ refl ]
  | false ↦ elim (old b) as (λ x. (x || false) ≡ x) [ true ↦ refl | false ↦ refl ]
]

-- bytes that lie in memory are put over what is within memory
within_put : (size : ℕ) (m : MemoryAct) (v : Option ℕ) (old : ℕ → Option ℕ) (a : ℕ) → m.addr + bytes_in m.width ≤ size → within size (bytes_put m v old) a ≡ bytes_put m v (λ a. within size old a) a
within_put size m None old a h = refl
within_put size m (Some v) old a h = inside_put size m.addr (bytes_in m.width) (λ k. Some (byte_of v k)) old a h
  where
    inside_put : (size addr n : ℕ) (new old : ℕ → Option ℕ) (a : ℕ) → addr + n ≤ size → within size (laid addr n new old) a ≡ laid addr n new (λ a. within size old a) a
    inside_put size addr n new old a h = grind (arith, nat_tests)

-- the transaction after an access, field by field
by_fields : (t : Tx) (m : MemoryAct) (l : Option Load) (v : Option ℕ) → record t {
  stores = stores_after t.stores v;
  writes = λ a. bytes_put m v t.writes a;
  read_set = λ b. added l (m.addr / 32) t.read_set b;
  write_set = λ b. added v (m.addr / 32) t.write_set b;
} ≡ tx_put (tx_got t m l) m v
unfolding added
by_fields t m None None = refl
by_fields t m (Some l) None = refl
by_fields t m None (Some v) = refl
by_fields t m (Some l) (Some v) = refl

-- an overlay that has noted an access, and one store more if it stores
pub noted : (size : ℕ) (t : Transaction) (o : Overlay) (m : MemoryAct) (v : Option ℕ) (stores : ℕ)
    → ((b : ℕ) → reads_in o b ≡ (reads_in t.overlay b || (is_some m.load && (b == m.addr / 32))))
    → ((b : ℕ) → writes_in o b ≡ (writes_in t.overlay b || (is_some v && (b == m.addr / 32))))
    → ((a : ℕ) → byte_over o a ≡ bytes_put m v (byte_over t.overlay) a)
    → stores ≡ stores_after t.stores v → m.addr + bytes_in m.width ≤ size
    → tx_of size (record t { stores = stores; overlay = o }) ≡ tx_put (tx_got (tx_of size t) m m.load) m v
noted size t o m v stores reads writes bytes count fits =
    let R = λ (b : ℕ). reads b ∙ add_by m.load (m.addr / 32) (reads_in t.overlay) b in
    let W = λ (b : ℕ). writes b ∙ add_by v (m.addr / 32) (writes_in t.overlay) b in
    let B = λ (a : ℕ). ap (λ x. cond (nat_lt a size) x None) (bytes a) ∙ within_put size m v (byte_over t.overlay) a fits in
    (λ k. record (tx_of size t) { stores = count k; writes = λ a. B a k; read_set = λ b. R b k; write_set = λ b. W b k })
    ∙ by_fields (tx_of size t) m m.load v
