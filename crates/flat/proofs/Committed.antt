-- A commit that ends a transaction gives memory what its hart saw.
use Rattle.std.proofs.Common.{◌≡◌, ℕ, ◌-◌, Bool, true, false, cond, Option, Some, None, refl, sym, ap, ◌∙◌}
use Rattle.std.specs.Prelude.{◌==◌, IsSome}
use Rattle.words.specs.declared.entry.Access.{Access}
use Rattle.words.specs.declared.entry.Entry.TheVariants.{Retire}
use Rattle.table.specs.declared.effect.Act.{Act}
use Rattle.table.specs.declared.effect.Act.TheVariants as act
use Rattle.flat.specs.State.{Flat, FlatHart, Tx, flat_view, seen}
use Rattle.flat.specs.Effects.{mem_by, tx_by}
use Rattle.flat.specs.Steps.{Carries}
use Rattle.flat.proofs.Entries.{retired_by, hart_retired}

-- a commit that leaves no transaction is the outermost
last_commit : (b : Bool) (u : Tx) (x y : ℕ) → cond b None (Some u) ≡ None → cond b x y ≡ x
last_commit true u x y e = refl
last_commit false u x y e = cc

-- an act that ends a transaction
act_commits : (view : ℕ → ℕ) (h : FlatHart) (tx : Option Tx) (mem : ℕ → ℕ) (does : Act) (a : ℕ) → IsSome tx → tx_by view h tx does ≡ None → mem_by view tx mem does a ≡ seen tx mem a
act_commits view h None mem does a k e = cc
act_commits view h (Some t) mem act.Commit a k e = last_commit (t.depth == 1) (record t { depth = t.depth - 1 }) (seen (Some t) mem a) (mem a) e
act_commits view h (Some t) mem does a k e = cc

-- an entry that does
pub entry_commits : (f g : Flat) (i pc w a : ℕ) (x : Option (ℕ × ℕ)) (l s : Option Access) → Carries f (Retire i pc w x l s) g → IsSome (f.hart i).tx → (g.hart i).tx ≡ None → g.mem a ≡ flat_view f i a
entry_commits f g i pc w a x l s k inside ends =
    let r = retired_by f g i pc w x l s k in
    let tx = ap (λ (h : FlatHart). h.tx) (sym (hart_retired f g i r.0 r.2.after)) in
    ap (λ (m : Flat). m.mem a) r.2.after ∙ act_commits (flat_view f i) (f.hart i) (f.hart i).tx f.mem r.0.act a inside (tx ∙ ends)
