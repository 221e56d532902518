-- What the entries of a run can be, beside the history before them: who retires is one of the harts, and whose transaction is aborted is in one.
use Rattle.std.proofs.Common.{◌≡◌, ◌<◌, ℕ, List, [], ◌∷◌, ◌++◌, Option, Some, None, refl, sym, subst, append_assoc, arith}
use Rattle.words.specs.declared.entry.Entry.{Entry}
use Rattle.words.specs.declared.entry.Entry.TheVariants.{Retire, Abort, Trap, Refuse, Spill}
use Rattle.words.specs.declared.stamp.Stamp.{Stamp}
use Rattle.words.specs.declared.entry.Step.{Step}
use Rattle.table.specs.Program.{AreBytes}
use Rattle.flat.specs.State.{Setting, Flat, Tx as FlatTx}
use Rattle.flat.specs.Start.{first_state}
use Rattle.flat.specs.Steps.{Carries}
use Rattle.flat.specs.Reasons.{Past, History, told, history_of, no_history}
use Rattle.flat.proofs.Entries.{retired_by, aborted_by}
use Rattle.flat.proofs.Runs.{run_setting}
use Rattle.protocol.specs.Hart.{Transaction}
use Rattle.protocol.specs.Caches.{Geometry}
use Rattle.protocol.specs.Machine.{Machine, Runs}
use Rattle.protocol.specs.Start.{start}
use Rattle.protocol.proofs.Splits.{runs_at}
use Rattle.isolation.proofs.Machine.Slots.{Mail}
use Rattle.isolation.proofs.Machine.Invariant.{TxIs, PastIs, Inv}
use Rattle.isolation.proofs.Steps.StepNext.{step_next}
use Rattle.isolation.proofs.Belongs.Belonging.{world, belongs_after, inv_after}

-- an entry fits the history, of so many harts
abbrev pub Fits : ℕ → History → Entry → Type 0
Fits n h (Retire i pc w x l s) = i < n
Fits n h (Abort i c) = 0 < (h.past i).depth
Fits n h (Trap i c p) = Unit {0}
Fits n h (Refuse i j b) = Unit {0}
Fits n h (Spill i b) = Unit {0}

-- and so does each of a list, one after another
abbrev pub AllFit : ℕ → History → List Entry → Type 0
AllFit n h [] = Unit {0}
AllFit n h (e ∷ es) = Fits n h e × AllFit n (told h e) es

-- the history after one entry more
pub history_more : (h : History) (es : List Entry) (e : Entry) → history_of h (es ++ e ∷ []) ≡ told (history_of h es) e
history_more h [] e = refl
history_more h (d ∷ es) e = history_more (told h d) es e

-- the history after two lists
pub history_then : (h : History) (es fs : List Entry) → history_of h (es ++ fs) ≡ history_of (history_of h es) fs
history_then h [] fs = refl
history_then h (e ∷ es) fs = history_then (told h e) es fs

-- the second of two lists fits the history after the first
pub rest_fits : (n : ℕ) (h : History) (es fs : List Entry) → AllFit n h (es ++ fs) → AllFit n (history_of h es) fs
rest_fits n h [] fs a = a
rest_fits n h (e ∷ es) fs a = rest_fits n (told h e) es fs a.1

-- a hart that is in a transaction in the flat machine is in one by the entries
deep : (o : Option Transaction) (u : Option FlatTx) (t : FlatTx) (kept : Option Stamp) (p : Past) → u ≡ Some t → TxIs o u → PastIs o kept p → 0 < p.depth
deep None None t kept p e is past = cc
deep None (Some u) t kept p e is past = absurd is
deep (Some o) u t kept p e is past = let depth = past.depth in let inside = past.inside in omega (arith, depth, inside)

fits_by : (g : Geometry) (s : Setting) (f h : Flat) (v : Machine) (es : List Entry) (e : Entry) (mail : Mail) → f.setting ≡ s → Inv (world v f es mail) → Carries f e h → Fits s.count (history_of no_history es) e
fits_by g s f h v es (Retire i pc w x l t) mail is inv c = subst (λ (z : Setting). i < z.count) is (retired_by f h i pc w x l t c).2.running.hart
fits_by g s f h v es (Abort i c) mail is inv k =
    let a = aborted_by f h i c k in
    let hart = inv.harts i in
    deep (v.harts i).tx (f.hart i).tx a.0 (v.harts i).kept_stamp ((history_of no_history es).past i) a.1 hart.tx hart.past
fits_by g s f h v es (Trap i c p) mail is inv k = tt
fits_by g s f h v es (Refuse i j b) mail is inv k = tt
fits_by g s f h v es (Spill i b) mail is inv k = tt

module _ (g : Geometry) (s : Setting) (entry : ℕ) (bytes : AreBytes s.segments) (w : Machine) (steps : List Step) where
  -- each entry of a run fits
  fits_at : (before : List Entry) (e : Entry) (after : List Entry) → Runs g (start s entry) steps (before ++ e ∷ after) w → Fits s.count (history_of no_history before) e
  fits_at before e after r =
      let k = runs_at g (start s entry) w steps before e after r in
      let f = belongs_after g s entry k.0 before k.3 bytes k.6 in
      let inv = inv_after g s entry k.0 before f.0 k.3 bytes k.6 f.1 in
      let next = step_next g (world k.3 f.0 before inv.0) inv.1 k.1 (Some e) k.4 k.7 in
      fits_by g s f.0 next.flat k.3 before e inv.0 (run_setting (first_state s entry) f.0 before f.1) inv.1 next.carries

  -- so all of them do
  fit_after : (before es : List Entry) → Runs g (start s entry) steps (before ++ es) w → AllFit s.count (history_of no_history before) es
  fit_after before [] r = tt
  fit_after before (e ∷ es) r = (
    fits_at before e es r,
    subst (λ h. AllFit s.count h es) (history_more no_history before e)
        (fit_after (before ++ e ∷ []) es (subst (λ z. Runs g (start s entry) steps z w) (sym (append_assoc before (e ∷ []) es)) r)),
  )

  pub all_fit : (es : List Entry) → Runs g (start s entry) steps es w → AllFit s.count no_history es
  all_fit es r = fit_after [] es r
