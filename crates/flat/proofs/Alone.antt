-- A hart that is in a transaction after an entry of its own has left memory as it was.
use Rattle.std.proofs.Common.{◌≡◌, ◌≢◌, ℕ, ◌-◌, Bool, true, false, cond, Option, Some, None, refl, ap, ◌∙◌, subst}
use Rattle.std.specs.Prelude.{◌==◌, IsSome}
use Rattle.std.specs.Option.{unwrap_or}
use Rattle.words.specs.declared.entry.Entry.{Entry}
use Rattle.words.specs.declared.entry.Entry.TheVariants.{Retire, Abort, Trap, Refuse, Spill}
use Rattle.table.specs.declared.effect.Act.{Act}
use Rattle.table.specs.declared.effect.Act.TheVariants as act
use Rattle.flat.specs.State.{Flat, FlatHart, Tx, flat_view, seen}
use Rattle.flat.specs.Effects.{mem_by, tx_by}
use Rattle.flat.specs.Steps.{Carries, hart_of}
use Rattle.flat.proofs.Entries.{retired_by, aborted_by, hart_retired, others_stay}

-- a commit that leaves a transaction open changes nothing
no_commit : (b : Bool) (u : Tx) (x y : ℕ) → IsSome (cond b None (Some u)) → cond b x y ≡ y
no_commit true u x y k = cc
no_commit false u x y k = refl

-- an act that leaves the hart in a transaction leaves memory
pub act_leaves : (view : ℕ → ℕ) (h : FlatHart) (tx : Option Tx) (mem : ℕ → ℕ) (does : Act) (a : ℕ) → IsSome (tx_by view h tx does) → mem_by view tx mem does a ≡ mem a
act_leaves view h None mem (act.Memory m) a k = cc
act_leaves view h (Some t) mem act.Commit a k = no_commit (t.depth == 1) (record t { depth = t.depth - 1 }) (seen (Some t) mem a) (mem a) k
act_leaves view h tx mem does a k = refl

-- and so does an entry
pub entry_leaves : (f g : Flat) (e : Entry) → Carries f e g → IsSome (g.hart (hart_of e)).tx → (a : ℕ) → g.mem a ≡ f.mem a
entry_leaves f g (Retire i pc w x l s) k inside a =
    let r = retired_by f g i pc w x l s k in
    let after = hart_retired f g i r.0 r.2.after in
    ap (λ (m : Flat). m.mem a) r.2.after ∙ act_leaves (flat_view f i) (f.hart i) (f.hart i).tx f.mem r.0.act a (subst (λ (h : FlatHart). IsSome h.tx) after inside)
entry_leaves f g (Abort i c) k inside a = let r = aborted_by f g i c k in ap (λ (m : Flat). m.mem a) r.2.after
entry_leaves f g (Trap i c p) k inside a = ap (λ (m : Flat). m.mem a) k.after
entry_leaves f g (Refuse i k b) e inside a = ap (λ (m : Flat). m.mem a) e
entry_leaves f g (Spill i b) e inside a = ap (λ (m : Flat). m.mem a) e

-- what a hart sees at an address it sees over each memory that has the same byte there
pub seen_same : (tx : Option Tx) (u v : ℕ → ℕ) (a : ℕ) → u a ≡ v a → seen tx u a ≡ seen tx v a
seen_same None u v a e = e
seen_same (Some t) u v a e = ap (λ b. unwrap_or (t.writes a) b) e

-- where memory at an address is as it was, so is what each other hart sees there
pub view_stays : (f g : Flat) (e : Entry) → Carries f e g → (j a : ℕ) → j ≢ hart_of e → g.mem a ≡ f.mem a → flat_view g j a ≡ flat_view f j a
view_stays f g e k j a ne same = ap (λ (h : FlatHart). seen h.tx g.mem a) (others_stay f g e k j ne) ∙ seen_same (f.hart j).tx g.mem f.mem a same
