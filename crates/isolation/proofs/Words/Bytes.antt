-- The words of a block and the bytes of memory.
use Rattle.std.proofs.Common.{◌≡◌, ◌≢◌, ◌<◌, ◌≤◌, ℕ, zero, suc, ◌+◌, ◌*◌, ◌/◌, ◌%◌, arith, cond, Option, Some, None, slice_index, refl, sym, ap, subst, ◌∙◌}
use Rattle.std.specs.Prelude.{is_some, ◌&&◌, nat_le, nat_lt, ◌-◌}
use Rattle.std.specs.Option.{option_map, option_and_then}
use Rattle.std.proofs.lemmas.List.FromFn.{fill_by_all, length-map-range_with_len, get_or-map-range_with_len}
use Rattle.words.specs.declared.entry.Width.{Width}
use Rattle.words.specs.declared.entry.Width.TheVariants.{Byte, Half, Word}
use Rattle.words.specs.Bytes.{bytes_in, byte_of, number_at, cut}
use Rattle.table.specs.Effects.{write_of, loaded, stored}
use Rattle.table.specs.declared.effect.Act.TheVariants as act
use Rattle.table.specs.declared.effect.Effect.{Effect}
use Rattle.table.specs.declared.effect.MemoryAct.{MemoryAct}
use Rattle.flat.specs.Bytes.{laid}
use Rattle.flat.specs.State.{FlatHart}
use Rattle.flat.specs.Effects.{mem_put, put_by, write_by, retire_of}
use Rattle.flat.proofs.Laid.{laid_elsewhere, in_one_block}
use Rattle.flat.proofs.SameView.{Agree, retire_same as agreed_retire}
use Rattle.protocol.specs.Messages.{Block}
use Rattle.protocol.specs.Lines.{byte_in, words_at, words_put}

-- Words of memory

-- a byte of an access in one block lies in that block
near : (addr n k : ℕ) → addr % 32 + n ≤ 32 → k < n → (addr + k) / 32 ≡ addr / 32
near addr n k fits lt = omega arith

-- a number depends on the bytes of its block only
number_in_block : (g h : ℕ → ℕ) (addr : ℕ) (w : Width) → addr % 32 + bytes_in w ≤ 32 → ((a : ℕ) → a / 32 ≡ addr / 32 → g a ≡ h a) → number_at g addr w ≡ number_at h addr w
number_in_block g h addr Byte fits e = e addr refl
number_in_block g h addr Half fits e = λ i. e addr refl i + 256 * e (addr + 1) (near addr 2 1 fits (omega arith)) i
number_in_block g h addr Word fits e = λ i.
    e addr refl i
    + 256 * e (addr + 1) (near addr 4 1 fits (omega arith)) i
    + 65536 * e (addr + 2) (near addr 4 2 fits (omega arith)) i
    + 16777216 * e (addr + 3) (near addr 4 3 fits (omega arith)) i

-- word k of a block
word_is : (g : ℕ → ℕ) (b k : ℕ) → k < 8 → slice_index (words_at g b) k ≡ number_at g (32 * b + 4 * k) Word
word_is g b k lt = get_or-map-range_with_len (λ k. number_at g (32 * b + 4 * k) Word) 0 8 k k 0 lt (omega arith)

-- the words of a block depend on its bytes only
pub words_same : (g h : ℕ → ℕ) (b : ℕ) → ((a : ℕ) → a / 32 ≡ b → g a ≡ h a) → words_at g b ≡ words_at h b
words_same g h b e =
    let f : ℕ → ℕ = λ k. number_at g (32 * b + 4 * k) Word in
    fill_by_all (λ k. number_at h (32 * b + 4 * k) Word) (words_at g b) 8 0 (length-map-range_with_len f 0 8) (λ k lt.
    let there : (32 * b + 4 * k) / 32 ≡ b = omega arith in
    word_is g b k lt ∙ number_in_block g h (32 * b + 4 * k) Word (omega arith) (λ a at. e a (at ∙ there)))

-- Bytes of words

-- what holds at each place of a word
each_place : (P : ℕ → Type 0) → P 0 → P 1 → P 2 → P 3 → (k : ℕ) → k < 4 → P k
each_place P at0 at1 at2 at3 zero h = at0
each_place P at0 at1 at2 at3 (suc zero) h = at1
each_place P at0 at1 at2 at3 (suc (suc zero)) h = at2
each_place P at0 at1 at2 at3 (suc (suc (suc zero))) h = at3
each_place P at0 at1 at2 at3 (suc (suc (suc (suc k)))) h = absurd (omega arith)

-- a byte of a word of four bytes
byte_of_number : (g : ℕ → ℕ) (a k : ℕ) → ((c : ℕ) → g c < 256) → k < 4 → byte_of (number_at g a Word) k ≡ g (a + k)
byte_of_number g a k small lt =
    let x = small a in
    let y = small (a + 1) in
    let z = small (a + 2) in
    let w = small (a + 3) in
    let here : a + 0 ≡ a = omega arith in
    each_place (λ k. byte_of (number_at g a Word) k ≡ g (a + k)) (rw here (omega arith)) (omega arith) (omega arith) (omega arith) k lt

-- a byte of a block is that of memory
pub byte_back : (g : ℕ → ℕ) (a : ℕ) → ((c : ℕ) → g c < 256) → byte_in (words_at g (a / 32)) a ≡ g a
byte_back g a small =
    let there : 32 * (a / 32) + 4 * (a / 4 % 8) + a % 4 ≡ a = omega arith in
    ap (λ w. byte_of w (a % 4)) (word_is g (a / 32) (a / 4 % 8) (omega arith))
    ∙ byte_of_number g (32 * (a / 32) + 4 * (a / 4 % 8)) (a % 4) small (omega arith)
    ∙ ap g there

-- a byte of any words is a byte
pub byte_small : (k : Block) (a : ℕ) → byte_in k a < 256
byte_small k a = omega arith

-- Stores

-- values laid over the same bytes
laid_same : {A : Type 0} (addr n : ℕ) (new g h : ℕ → A) (a : ℕ) → g a ≡ h a → laid addr n new g a ≡ laid addr n new h a
laid_same addr n new g h a e = ap (λ x. cond (nat_le addr a && nat_lt a (addr + n)) (new (a - addr)) x) e

-- a store into a block's words is the store into memory
pub words_stored : (g : ℕ → ℕ) (m : MemoryAct) (v : ℕ) → ((c : ℕ) → g c < 256) → words_put m (Some v) (words_at g (m.addr / 32)) ≡ words_at (mem_put g m (Some v)) (m.addr / 32)
words_stored g m v small =
    let b : ℕ = m.addr / 32 in
    words_same (mem_put (byte_in (words_at g b)) m (Some v)) (mem_put g m (Some v)) b (λ a at.
    laid_same m.addr (bytes_in m.width) (byte_of v) (byte_in (words_at g b)) g a (ap (λ c. byte_in (words_at g c) a) (sym at) ∙ byte_back g a small))

-- an aligned store changes no other block
pub words_elsewhere : (g : ℕ → ℕ) (m : MemoryAct) (v : Option ℕ) (c : ℕ) → m.addr % bytes_in m.width ≡ 0 → c ≢ m.addr / 32 → words_at (mem_put g m v) c ≡ words_at g c
words_elsewhere g m None c aligned ne = words_same (mem_put g m None) g c (λ a at. refl)
words_elsewhere g m (Some v) c aligned ne = words_same (mem_put g m (Some v)) g c (λ a at.
    laid_elsewhere m.addr (bytes_in m.width) (byte_of v) g a (in_one_block m.addr m.width aligned) (λ e. ne (sym at ∙ e)))

-- Acts

-- two memories that are one in the block of an access have one number at its place
pub number_same : (g h : ℕ → ℕ) (m : MemoryAct) → m.addr % bytes_in m.width ≡ 0 → ((a : ℕ) → a / 32 ≡ m.addr / 32 → g a ≡ h a) → number_at g m.addr m.width ≡ number_at h m.addr m.width
number_same g h m aligned e = number_in_block g h m.addr m.width (in_one_block m.addr m.width aligned) e

-- so the access stores one number
pub put_same : (g h : ℕ → ℕ) (m : MemoryAct) → m.addr % bytes_in m.width ≡ 0 → ((a : ℕ) → a / 32 ≡ m.addr / 32 → g a ≡ h a) → put_by g m ≡ put_by h m
put_same g h m aligned e = ap (λ n. option_map (λ s. cut m.width (stored s n)) m.store) (number_same g h m aligned e)

-- writes one register
pub write_same : (g h : ℕ → ℕ) (m : MemoryAct) → m.addr % bytes_in m.width ≡ 0 → ((a : ℕ) → a / 32 ≡ m.addr / 32 → g a ≡ h a) → (e : Effect) → e.act ≡ act.Memory m → write_by g e e.act ≡ write_by h e e.act
write_same g h m aligned same e is =
    ap (write_by g e) is
    ∙ ap (λ n. cond (is_some m.load) (option_and_then (λ l. write_of l.rd (loaded l.signed m.width n)) m.load) e.write) (number_same g h m aligned same)
    ∙ sym (ap (write_by h e) is)

-- and gives one entry
pub retire_same : (g h : ℕ → ℕ) (m : MemoryAct) → m.addr % bytes_in m.width ≡ 0 → ((a : ℕ) → a / 32 ≡ m.addr / 32 → g a ≡ h a)
    → (i : ℕ) (f : FlatHart) (w : ℕ) (e : Effect) → e.act ≡ act.Memory m → retire_of g i f w e ≡ retire_of h i f w e
retire_same g h m aligned same i f w e is = agreed_retire g h i f w e (subst (Agree g h) (sym is) (number_same g h m aligned same))
