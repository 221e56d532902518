-- What a transaction has written, laid over the words of a block.
use Rattle.std.proofs.Common.{◌≡◌, ◌≢◌, ◌<◌, ℕ, ◌-◌, ◌+◌, ◌/◌, ◌%◌, Bool, true, false, cond, Option, Some, None, refl, sym, ap, ◌∙◌}
use Rattle.std.specs.Prelude.{◌==◌, ◌&&◌, nat_le, nat_lt}
use Rattle.std.specs.Option.{unwrap_or}
use Rattle.words.specs.Bytes.{bytes_in, byte_of}
use Rattle.table.specs.declared.effect.MemoryAct.{MemoryAct}
use Rattle.table.specs.declared.effect.Load.{Load}
use Rattle.table.specs.declared.effect.Act.TheVariants as act
use Rattle.flat.specs.Bytes.{laid}
use Rattle.flat.specs.State.{Tx as FlatTx, seen, has_written}
use Rattle.flat.specs.Effects.{tx_got, tx_put, mem_by}
use Rattle.flat.proofs.Laid.{laid_elsewhere, in_one_block}
use Rattle.flat.proofs.Maps.{put_there, put_elsewhere}
use Rattle.protocol.specs.Messages.{Block}
use Rattle.protocol.specs.Lines.{byte_in, words_at, words_put}
use Rattle.isolation.proofs.OneBlock.Model.State.{lay}
use Rattle.isolation.proofs.Machine.World.{writes_at}
use Rattle.isolation.proofs.Machine.Invariant.{IsByte, written_byte}
use Rattle.isolation.proofs.Words.Bytes.{byte_back, byte_small, words_same}

-- a transaction's bytes are bytes
abbrev pub WritesBytes : Option FlatTx → Type 0
WritesBytes tx = (a : ℕ) → IsByte (written_byte tx a)

-- and lie in blocks that it has written
abbrev pub WritesWithin : Option FlatTx → Type 0
WritesWithin tx = (a : ℕ) → has_written tx (a / 32) ≡ false → written_byte tx a ≡ None

-- a byte or what stands under it
seen_byte : (o : Option ℕ) (v : ℕ) → IsByte o → v < 256 → unwrap_or o v < 256
seen_byte None v byte small = small
seen_byte (Some w) v byte small = byte

-- what a transaction sees is bytes
pub seen_small : (tx : Option FlatTx) (mem : ℕ → ℕ) → WritesBytes tx → ((a : ℕ) → mem a < 256) → (a : ℕ) → seen tx mem a < 256
seen_small None mem bytes small a = small a
seen_small (Some t) mem bytes small a = seen_byte (t.writes a) (mem a) (bytes a) (small a)

-- a byte of a block with the writes laid over it
lay_byte : (t : FlatTx) (k : Block) (b a : ℕ) → WritesBytes (Some t) → WritesWithin (Some t) → a / 32 ≡ b → byte_in (lay (writes_at b (Some t)) k) a ≡ seen (Some t) (byte_in k) a
lay_byte t k b a bytes within at = by_set (t.write_set b) refl where
  by_set : (s : Bool) → t.write_set b ≡ s → byte_in (lay (cond s (Some (λ k. words_at (seen (Some t) (byte_in k)) b)) None) k) a ≡ seen (Some t) (byte_in k) a
  by_set true e = ap (λ c. byte_in (words_at (seen (Some t) (byte_in k)) c) a) (sym at) ∙ byte_back (seen (Some t) (byte_in k)) a (seen_small (Some t) (byte_in k) bytes (byte_small k))
  by_set false e = sym (ap (λ o. unwrap_or o (byte_in k a)) (within a (ap t.write_set at ∙ e)))

-- laid over a block of memory they make what the transaction sees of it
pub lay_is : (b : ℕ) (tx : Option FlatTx) (mem : ℕ → ℕ) → ((a : ℕ) → mem a < 256) → WritesWithin tx → lay (writes_at b tx) (words_at mem b) ≡ words_at (seen tx mem) b
lay_is b None mem small within = refl
lay_is b (Some t) mem small within = by_set (t.write_set b) refl where
  by_set : (s : Bool) → t.write_set b ≡ s → lay (cond s (Some (λ k. words_at (seen (Some t) (byte_in k)) b)) None) (words_at mem b) ≡ words_at (seen (Some t) mem) b
  by_set true e = words_same (seen (Some t) (byte_in (words_at mem b))) (seen (Some t) mem) b (λ a at.
      ap (unwrap_or (t.writes a)) (ap (λ c. byte_in (words_at mem c) a) (sym at) ∙ byte_back mem a small))
  by_set false e = words_same mem (seen (Some t) mem) b (λ a at. sym (ap (λ o. unwrap_or o (mem a)) (within a (ap t.write_set at ∙ e))))

-- a load changes no writes
pub load_lays : (c : ℕ) (t : FlatTx) (m : MemoryAct) (l : Option Load) → writes_at c (Some (tx_got t m l)) ≡ writes_at c (Some t)
load_lays c t m None = refl
load_lays c t m (Some l) = refl

-- bytes laid over written ones, over a block
seen_laid : (addr n : ℕ) (new : ℕ → ℕ) (old : ℕ → Option ℕ) (a x : ℕ) → unwrap_or (laid addr n (λ j. Some (new j)) old a) x ≡ cond (nat_le addr a && nat_lt a (addr + n)) (new (a - addr)) (unwrap_or (old a) x)
seen_laid addr n new old a x = elim (nat_le addr a && nat_lt a (addr + n)) as (λ b. unwrap_or (cond b (Some (new (a - addr))) (old a)) x ≡ cond b (new (a - addr)) (unwrap_or (old a) x)) [ true ↦ refl | false ↦ refl ]

-- a store is laid over what was written before
put_lays : (t : FlatTx) (m : MemoryAct) (v : ℕ) → WritesBytes (Some t) → WritesWithin (Some t)
    → writes_at (m.addr / 32) (Some (tx_put t m (Some v))) ≡ Some (λ k. words_put m (Some v) (lay (writes_at (m.addr / 32) (Some t)) k))
put_lays t m v bytes within =
    let b : ℕ = m.addr / 32 in
    let u : FlatTx = tx_put t m (Some v) in
    let own : (k : Block) → words_at (seen (Some u) (byte_in k)) b ≡ words_put m (Some v) (lay (writes_at b (Some t)) k) = λ k.
    words_same (seen (Some u) (byte_in k)) (laid m.addr (bytes_in m.width) (byte_of v) (byte_in (lay (writes_at b (Some t)) k))) b (λ a at.
    seen_laid m.addr (bytes_in m.width) (byte_of v) t.writes a (byte_in k a)
    ∙ ap (cond (nat_le m.addr a && nat_lt a (m.addr + bytes_in m.width)) (byte_of v (a - m.addr))) (sym (lay_byte t k b a bytes within at))) in
    ap (λ s. cond s (Some (λ k. words_at (seen (Some u) (byte_in k)) b)) None) (put_there b true t.write_set)
    ∙ (λ i. Some (λ k. own k i))

-- an access that stores does
pub store_lays : (t : FlatTx) (m : MemoryAct) (v : ℕ) → WritesBytes (Some t) → WritesWithin (Some t)
    → writes_at (m.addr / 32) (Some (tx_put (tx_got t m m.load) m (Some v))) ≡ Some (λ k. words_put m (Some v) (lay (writes_at (m.addr / 32) (Some t)) k))
store_lays t m v bytes within = by_load m.load where
  by_load : (l : Option Load) → writes_at (m.addr / 32) (Some (tx_put (tx_got t m l) m (Some v))) ≡ Some (λ k. words_put m (Some v) (lay (writes_at (m.addr / 32) (Some t)) k))
  by_load None = put_lays t m v bytes within
  by_load (Some l) = put_lays (tx_got t m (Some l)) m v bytes within

-- an aligned store changes nothing elsewhere
put_elsewhere_lays : (t : FlatTx) (m : MemoryAct) (v : Option ℕ) (c : ℕ) → m.addr % bytes_in m.width ≡ 0 → c ≢ m.addr / 32 → writes_at c (Some (tx_put t m v)) ≡ writes_at c (Some t)
put_elsewhere_lays t m None c aligned ne = refl
put_elsewhere_lays t m (Some v) c aligned ne =
    let u : FlatTx = tx_put t m (Some v) in
    let own : (k : Block) → words_at (seen (Some u) (byte_in k)) c ≡ words_at (seen (Some t) (byte_in k)) c = λ k.
    words_same (seen (Some u) (byte_in k)) (seen (Some t) (byte_in k)) c (λ a at.
    ap (λ o. unwrap_or o (byte_in k a)) (laid_elsewhere m.addr (bytes_in m.width) (λ j. Some (byte_of v j)) t.writes a (in_one_block m.addr m.width aligned) (λ e. ne (sym at ∙ e)))) in
    (λ i. cond (put_elsewhere (m.addr / 32) c true t.write_set ne i) (Some (λ k. own k i)) None)

-- an access changes nothing elsewhere
pub store_elsewhere : (t : FlatTx) (m : MemoryAct) (v : Option ℕ) (c : ℕ) → m.addr % bytes_in m.width ≡ 0 → c ≢ m.addr / 32 → writes_at c (Some (tx_put (tx_got t m m.load) m v)) ≡ writes_at c (Some t)
store_elsewhere t m v c aligned ne = put_elsewhere_lays (tx_got t m m.load) m v c aligned ne ∙ load_lays c t m m.load

-- an outermost commit lays them over memory
pub commit_lays : (view : ℕ → ℕ) (t : FlatTx) (mem : ℕ → ℕ) (c : ℕ) → t.depth ≡ 1 → ((a : ℕ) → mem a < 256) → WritesWithin (Some t)
    → words_at (mem_by view (Some t) mem act.Commit) c ≡ lay (writes_at c (Some t)) (words_at mem c)
commit_lays view t mem c one small within =
    ap (λ n. words_at (λ a. cond (n == 1) (seen (Some t) mem a) (mem a)) c) one
    ∙ sym (lay_is c (Some t) mem small within)
