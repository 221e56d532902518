-- What a transaction has a claim to after an access in it.
use Rattle.std.proofs.Common.{◌≡◌, ◌≢◌, ℕ, ◌/◌, Bool, true, false, cond, Option, Some, None, refl, ap, ◌∙◌, arith}
use Rattle.std.specs.Prelude.{◌==◌, ◌||◌, IsSome}
use Rattle.std.specs.Option.{option_map}
use Rattle.std.proofs.lemmas.Bool.Decides.{nat_tests}
use Rattle.table.specs.declared.effect.MemoryAct.{MemoryAct}
use Rattle.table.specs.declared.effect.Load.{Load}
use Rattle.table.specs.declared.effect.Store.{Store}
use Rattle.table.specs.declared.effect.Act.{Act}
use Rattle.table.specs.declared.effect.Act.TheVariants as act
use Rattle.flat.specs.State.{Flat, FlatHart, Tx, has_read, has_written, MayAccess, IsAllowed}
use Rattle.flat.specs.Effects.{tx_by, tx_got, tx_put, put_of}
use Rattle.flat.specs.Isolation.{has_touched}
use Rattle.flat.proofs.Apart.{IsApart, IsFree, LeavesRoom, not_both, unread, unwritten}
use Rattle.flat.proofs.LoadsOrStores.{IsUseful, LoadsOrStores}

-- the address lies in the block of the act's access
abbrev pub IsAt : Act → ℕ → Type 0
IsAt (act.Memory m) a = a / 32 ≡ m.addr / 32
IsAt does a = ⊥

-- a set has the block that was put into it
itself : (b : ℕ) (old : Bool) → cond (b == b) true old ≡ true
itself b old = let e : (b == b) ≡ true = grind (arith, nat_tests) in ap (λ t. cond t true old) e

-- one of two that hold, the first
or_left : (x y : Bool) → x ≡ true → (x || y) ≡ true
or_left true y e = refl
or_left false y e = cc

-- or the second
or_right : (x y : Bool) → y ≡ true → (x || y) ≡ true
or_right true y e = refl
or_right false y e = e

-- a stored block is written
put_written : (t : Tx) (m : MemoryAct) (v : ℕ) → has_written (Some (tx_put t m (Some v))) (m.addr / 32) ≡ true
put_written t m v = itself (m.addr / 32) (t.write_set (m.addr / 32))

-- a block that is loaded or stored is touched
access_touches : (t : Tx) (m : MemoryAct) (l : Option Load) (s : Option Store) (f : Store → ℕ) → LoadsOrStores l s → has_touched (Some (tx_put (tx_got t m l) m (option_map f s))) (m.addr / 32) ≡ true
access_touches t m None None f u = absurd u
access_touches t m (Some l) None f u = or_left _ (t.write_set (m.addr / 32)) (itself (m.addr / 32) (t.read_set (m.addr / 32)))
access_touches t m l (Some s) f u = or_right (has_read (Some (tx_put (tx_got t m l) m (Some (f s)))) (m.addr / 32)) _ (put_written (tx_got t m l) m (f s))

-- in a transaction, the block of an act's access is touched
pub act_touches : (view : ℕ → ℕ) (h : FlatHart) (tx : Option Tx) (does : Act) (a : ℕ) → IsUseful does → IsSome (tx_by view h tx does) → IsAt does a → has_touched (tx_by view h tx does) (a / 32) ≡ true
act_touches view h None (act.Memory m) a u k at = cc
act_touches view h (Some t) (act.Memory m) a u k at = ap (has_touched (Some (tx_put (tx_got t m m.load) m (option_map (put_of view m) m.store)))) at ∙ access_touches t m m.load m.store (put_of view m) u
act_touches view h tx does a u k at = absurd at

-- a test that does not say yes says no
unless_true : (b : Bool) → (b ≡ true → ⊥) → b ≡ false
unless_true true n = absurd (n refl)
unless_true false n = refl

-- an access after which the two are apart was free
access_room : (o : Option Tx) (t : Tx) (m : MemoryAct) (l : Option Load) (s : Option Store) (f : Store → ℕ) → LoadsOrStores l s
    → IsApart o (Some (tx_put (tx_got t m l) m (option_map f s))) → IsFree o (m.addr / 32) s
access_room o t m l None f u a = unless_true (has_written o (m.addr / 32)) (λ w. not_both _ (access_touches t m l None f u) (a.theirs (m.addr / 32) w))
access_room o t m l (Some s) f u a = a.ours (m.addr / 32) (put_written (tx_got t m l) m (f s))

-- what is apart from a transaction after its act did not keep the act out
pub act_room : (view : ℕ → ℕ) (h : FlatHart) (o tx : Option Tx) (does : Act) → IsUseful does → IsSome (tx_by view h tx does) → IsApart o (tx_by view h tx does) → LeavesRoom o does
act_room view h o None (act.Memory m) u k a = cc
act_room view h o (Some t) (act.Memory m) u k a = access_room o t m m.load m.store (put_of view m) u a
act_room view h o tx does u k a = tt

-- an access that is free of all others may be made
free_allows : (f : Flat) (i b : ℕ) (s : Option Store) → ((j : ℕ) → j ≢ i → IsFree (f.hart j).tx b s) → MayAccess f i b s
free_allows f i b None free = λ j lt ne. free j ne
free_allows f i b (Some s) free = λ j lt ne. (unread (f.hart j).tx b (free j ne), unwritten (f.hart j).tx b (free j ne))

-- and so it is allowed
pub room_allows : (f : Flat) (i : ℕ) (does : Act) → ((j : ℕ) → j ≢ i → LeavesRoom (f.hart j).tx does) → IsAllowed f i does
room_allows f i (act.Memory m) room = free_allows f i (m.addr / 32) m.store room
room_allows f i does room = tt
