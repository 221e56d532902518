-- Two transactions of which neither has written what the other has touched, and what keeps them so.
use Rattle.std.proofs.Common.{◌≡◌, ℕ, ◌-◌, ◌/◌, Bool, true, false, cond, Option, Some, None, refl, sym, ap, ◌∙◌}
use Rattle.std.specs.Prelude.{◌==◌, ◌||◌}
use Rattle.std.specs.Option.{option_map}
use Rattle.table.specs.declared.effect.MemoryAct.{MemoryAct}
use Rattle.table.specs.declared.effect.Load.{Load}
use Rattle.table.specs.declared.effect.Store.{Store}
use Rattle.table.specs.declared.effect.Act.{Act}
use Rattle.table.specs.declared.effect.Act.TheVariants as act
use Rattle.flat.specs.State.{FlatHart, Tx, has_read, has_written}
use Rattle.flat.specs.Effects.{tx_by, tx_got, tx_put, put_of}
use Rattle.flat.specs.Isolation.{has_touched}
use Rattle.flat.proofs.Maps.{one_number}

-- neither has written what the other has touched
pub record IsApart (o tx : Option Tx) : Type 0 where
  pub theirs : (b : ℕ) → has_written o b ≡ true → has_touched tx b ≡ false
  pub ours : (b : ℕ) → has_written tx b ≡ true → has_touched o b ≡ false

-- an access to the block is kept out by nothing that a transaction did
abbrev pub IsFree : Option Tx → ℕ → Option Store → Type 0
IsFree o b None = has_written o b ≡ false
IsFree o b (Some s) = has_touched o b ≡ false

-- and an act by nothing that it did
abbrev pub LeavesRoom : Option Tx → Act → Type 0
LeavesRoom o (act.Memory m) = IsFree o (m.addr / 32) m.store
LeavesRoom o does = Unit {0}

-- no test has two answers
pub not_both : (b : Bool) → b ≡ true → b ≡ false → ⊥
not_both b x y = let k : true ≡ false = sym x ∙ y in cc

-- what was not touched was neither read nor written
pub unwritten : (o : Option Tx) (b : ℕ) → has_touched o b ≡ false → has_written o b ≡ false
unwritten o b e = or_right (has_read o b) (has_written o b) e where
  or_right : (x y : Bool) → (x || y) ≡ false → y ≡ false
  or_right true y k = cc
  or_right false y k = k

-- nor read
pub unread : (o : Option Tx) (b : ℕ) → has_touched o b ≡ false → has_read o b ≡ false
unread o b e = or_left (has_read o b) (has_written o b) e where
  or_left : (x y : Bool) → (x || y) ≡ false → x ≡ false
  or_left true y k = cc
  or_left false y k = refl

-- and what was neither read nor written was not touched
pub untouched : (o : Option Tx) (b : ℕ) → has_read o b ≡ false → has_written o b ≡ false → has_touched o b ≡ false
untouched o b x y = rw (x, y) refl

-- who is in no transaction is apart from each
pub apart_of_none : (o : Option Tx) → IsApart o None
apart_of_none o = record { theirs = λ b e. refl; ours = λ b e. cc }

-- to be apart goes both ways
pub turned : (o tx : Option Tx) → IsApart o tx → IsApart tx o
turned o tx a = record { theirs = a.ours; ours = a.theirs }

-- a set with a block more has that block or what it had
with_block : (b c : ℕ) (old : Bool) → (P : Bool → Type 0) → (b ≡ c → P true) → P old → P (cond (b == c) true old)
with_block b c old P new was = elim (b == c) as (λ t. (b == c) ≡ t → P (cond t true old)) [ true ↦ λ e. new (one_number b c e) | false ↦ λ e. was ] refl

-- a load of a block that the other has not written
got_apart : (o : Option Tx) (t : Tx) (m : MemoryAct) (l : Option Load) → has_written o (m.addr / 32) ≡ false → IsApart o (Some t) → IsApart o (Some (tx_got t m l))
got_apart o t m None free a = a
got_apart o t m (Some l) free a = record {
  theirs = λ b w. untouched (Some (tx_got t m (Some l))) b
      (with_block b (m.addr / 32) (t.read_set b) (λ x. x ≡ false) (λ e. absurd (not_both (has_written o b) w (ap (has_written o) e ∙ free))) (unread (Some t) b (a.theirs b w)))
      (unwritten (Some t) b (a.theirs b w));
  ours = a.ours;
}

-- a store to a block that the other has not touched
put_apart : (o : Option Tx) (t : Tx) (m : MemoryAct) (s : Option Store) (f : Store → ℕ) → IsFree o (m.addr / 32) s → IsApart o (Some t) → IsApart o (Some (tx_put t m (option_map f s)))
put_apart o t m None f free a = a
put_apart o t m (Some s) f free a = record {
  theirs = λ b w. untouched (Some (tx_put t m (Some (f s)))) b
      (unread (Some t) b (a.theirs b w))
      (with_block b (m.addr / 32) (t.write_set b) (λ x. x ≡ false) (λ e. absurd (not_both (has_written o b) w (unwritten o b (ap (has_touched o) e ∙ free)))) (unwritten (Some t) b (a.theirs b w)));
  ours = λ b. with_block b (m.addr / 32) (t.write_set b) (λ x. x ≡ true → has_touched o b ≡ false) (λ e k. ap (has_touched o) e ∙ free) (a.ours b);
}

-- what is free has not been written
free_unwritten : (o : Option Tx) (b : ℕ) (s : Option Store) → IsFree o b s → has_written o b ≡ false
free_unwritten o b None free = free
free_unwritten o b (Some s) free = unwritten o b free

-- a commit
left_apart : (o : Option Tx) (t : Tx) (b : Bool) → IsApart o (Some t) → IsApart o (cond b None (Some (record t { depth = t.depth - 1 })))
left_apart o t true a = apart_of_none o
left_apart o t false a = record { theirs = a.theirs; ours = a.ours }

-- an act that is not kept out leaves the two apart
pub act_apart : (view : ℕ → ℕ) (h : FlatHart) (o tx : Option Tx) (does : Act) → LeavesRoom o does → IsApart o tx → IsApart o (tx_by view h tx does)
act_apart view h o (Some t) (act.Memory m) free a =
    put_apart o (tx_got t m m.load) m m.store (put_of view m) free (got_apart o t m m.load (free_unwritten o (m.addr / 32) m.store free) a)
act_apart view h o None (act.Begin p) free a = record { theirs = λ b e. refl; ours = λ b e. cc }
act_apart view h o (Some t) (act.Begin p) free a = record { theirs = a.theirs; ours = a.ours }
act_apart view h o (Some t) act.Commit free a = left_apart o t (t.depth == 1) a
act_apart view h o tx does free a = a
