-- What a transaction has touched no other hart's entry changes.
use Rattle.std.proofs.Common.{◌≡◌, ◌≢◌, ℕ, ◌+◌, ◌/◌, ◌%◌, ◌≤◌, Bool, true, false, cond, Option, Some, None, refl, ap, ◌∙◌}
use Rattle.std.specs.Prelude.{is_some, ◌==◌, List, IsTrue}
use Rattle.std.specs.Option.{option_map, unwrap_or}
use Rattle.words.specs.declared.entry.Entry.{Entry}
use Rattle.words.specs.declared.entry.Entry.TheVariants.{Retire, Abort, Trap, Refuse, Spill}
use Rattle.words.specs.Bytes.{bytes_in, byte_of}
use Rattle.table.specs.declared.effect.MemoryAct.{MemoryAct}
use Rattle.table.specs.declared.effect.Store.{Store}
use Rattle.table.specs.declared.effect.Act.{Act}
use Rattle.table.specs.declared.effect.Act.TheVariants as act
use Rattle.flat.specs.State.{Setting, Flat, FlatHart, Tx, flat_view, seen}
use Rattle.flat.specs.Causes.{act_cause}
use Rattle.flat.specs.Effects.{mem_by, mem_put, put_of}
use Rattle.flat.specs.Start.{first_state}
use Rattle.flat.specs.Steps.{Carries, IsRun, hart_of}
use Rattle.flat.specs.Isolation.{has_touched}
use Rattle.flat.proofs.Laid.{laid_elsewhere, in_one_block}
use Rattle.flat.proofs.Next.{done_ok, memory_aligned}
use Rattle.flat.proofs.Entries.{retired_by, aborted_by}
use Rattle.flat.proofs.Apart.{IsApart, IsFree, LeavesRoom, not_both}
use Rattle.flat.proofs.Covered.{IsCovered}
use Rattle.flat.proofs.Separate.{IsSeparate, room_of, run_separate}
use Rattle.flat.proofs.Alone.{view_stays}

-- a store outside transactions
put_leaves : (o : Option Tx) (mem : ℕ → ℕ) (m : MemoryAct) (s : Option Store) (f : Store → ℕ) (a : ℕ) → m.addr % 32 + bytes_in m.width ≤ 32
    → IsFree o (m.addr / 32) s → has_touched o (a / 32) ≡ true → mem_put mem m (option_map f s) a ≡ mem a
put_leaves o mem m None f a fits free e = refl
put_leaves o mem m (Some s) f a fits free e =
    laid_elsewhere m.addr (bytes_in m.width) (byte_of (f s)) mem a fits (λ k. not_both (has_touched o (a / 32)) e (ap (has_touched o) k ∙ free))

-- a commit: what was written there is not the other's, and what was not written stays
commit_leaves : (o : Option Tx) (t : Tx) (mem : ℕ → ℕ) (a : ℕ) → IsApart o (Some t) → IsCovered (Some t) → has_touched o (a / 32) ≡ true → seen (Some t) mem a ≡ mem a
commit_leaves o t mem a apart covered e = by_block (t.write_set (a / 32)) refl where
  by_block : (b : Bool) → t.write_set (a / 32) ≡ b → seen (Some t) mem a ≡ mem a
  by_block true w = absurd (not_both (has_touched o (a / 32)) e (apart.ours (a / 32) w))
  by_block false w = ap (λ v. unwrap_or v (mem a)) (covered a w)

-- of two equal numbers it does not matter which
either : (b : Bool) (x y : ℕ) → x ≡ y → cond b x y ≡ y
either true x y e = e
either false x y e = refl

-- an act that is not kept out
act_leaves : (s : Setting) (h : FlatHart) (view : ℕ → ℕ) (o tx : Option Tx) (mem : ℕ → ℕ) (does : Act) (a : ℕ) → act_cause s h does ≡ None
    → LeavesRoom o does → IsApart o tx → IsCovered tx → has_touched o (a / 32) ≡ true → mem_by view tx mem does a ≡ mem a
act_leaves s h view o None mem (act.Memory m) a n free apart covered e = put_leaves o mem m m.store (put_of view m) a (in_one_block m.addr m.width (memory_aligned s m n)) free e
act_leaves s h view o (Some t) mem act.Commit a n free apart covered e = either (t.depth == 1) (seen (Some t) mem a) (mem a) (commit_leaves o t mem a apart covered e)
act_leaves s h view o tx mem does a n free apart covered e = refl

-- an entry of another hart
pub others_leave : (f g : Flat) (e : Entry) (i a : ℕ) → IsSeparate f → Carries f e g → i ≢ hart_of e → has_touched (f.hart i).tx (a / 32) ≡ true → g.mem a ≡ f.mem a
others_leave f g (Retire j pc w x l s) i a sep k ne e =
    let r = retired_by f g j pc w x l s k in
    ap (λ (m : Flat). m.mem a) r.2.after
    ∙ act_leaves f.setting (f.hart j) (flat_view f j) (f.hart i).tx (f.hart j).tx f.mem r.0.act a (done_ok f.setting (f.hart j) (is_some s) r.0 r.1)
    (room_of f j r.0.act sep r.2.allowed i ne) (sep.apart j i ne) (sep.covered j) e
others_leave f g (Abort j c) i a sep k ne e = let r = aborted_by f g j c k in ap (λ (m : Flat). m.mem a) r.2.after
others_leave f g (Trap j c p) i a sep k ne e = ap (λ (m : Flat). m.mem a) k.after
others_leave f g (Refuse j l b) i a sep k ne e = ap (λ (m : Flat). m.mem a) k
others_leave f g (Spill j b) i a sep k ne e = ap (λ (m : Flat). m.mem a) k

-- memory and view, in each state of a run from the start
pub isolated : (s : Setting) (entry : ℕ) (es : List Entry) (f g : Flat) (e : Entry) (i a : ℕ) → IsRun (first_state s entry) es f → Carries f e g → i ≢ hart_of e
    → IsTrue (has_touched (f.hart i).tx (a / 32)) → (g.mem a ≡ f.mem a) × (flat_view g i a ≡ flat_view f i a)
isolated s entry es f g e i a run k ne touched =
    let same = others_leave f g e i a (run_separate s entry es f run) k ne touched in
    (same, view_stays f g e k i a ne same)
