-- The words that a lent hart has retired are choices of its core.
use Rattle.std.proofs.Common.{◌≡◌, ◌<◌, ℕ, zero, suc, Some, List, [], ◌∷◌, length, replicate, refl, sym, ap, subst, ◌∙◌, arith}
use Rattle.std.specs.Prelude.{slice_get, slice_set}
use Rattle.words.specs.declared.entry.Entry.{Entry}
use Rattle.words.specs.declared.entry.Step.TheVariants as step
use Rattle.table.specs.Program.{Segment}
use Rattle.hart.specs.Parts.{Parts}
use Rattle.protocol.specs.Machine.{Runs}
use Rattle.machine.specs.States.{Seat, State, geometry, shown, IsSound}
use Rattle.machine.specs.Lent.{hart_if, with_hart, RunsAlone}
use Rattle.machine.proofs.Returning.{is_within, seated, with, with_hart_is, retires, seat_of}
use Rattle.schedule.specs.declared.choices.Choice.TheVariants.{Core}
use Rattle.schedule.specs.Moments.{moment}
use Rattle.board.specs.Leases.{Lent, HasRun}
use Rattle.board.specs.Histories.{Leads, LeadsAlone}

there : {A : Type 0} (xs : List A) (i : ℕ) (x : A) → i < length xs → slice_get (slice_set xs i x) i ≡ Some x
there [] i x less = absurd (omega (arith, less))
there (y ∷ ys) zero x less = refl
there (y ∷ ys) (suc i) x less = let lt : i < length ys = omega (arith, less) in there ys i x lt

same_again : {A : Type 0} (xs : List A) (i : ℕ) (x : A) → slice_get xs i ≡ Some x → slice_set xs i x ≡ xs
same_again [] i x at = refl
same_again (y ∷ ys) zero x at = let same : x ≡ y = cc in ap (λ z. z ∷ ys) same
same_again (y ∷ ys) (suc i) x at = ap (λ zs. y ∷ zs) (same_again ys i x at)

twice : {A : Type 0} (xs : List A) (i : ℕ) (x y : A) → slice_set (slice_set xs i x) i y ≡ slice_set xs i y
twice [] i x y = refl
twice (z ∷ xs) zero x y = refl
twice (z ∷ xs) (suc i) x y = ap (λ zs. z ∷ zs) (twice xs i x y)

module _ (sets ways i : ℕ) where
  leads_alone : (es : List Entry) (v : State) (s : Seat) (new : Parts) → IsSound sets ways v → slice_get v.seats i ≡ Some s → RunsAlone sets v.program.segments s.hart es new
      → Leads (geometry sets ways) (replicate (length es) (Core i)) v es (seated v i (with s new))
  leads_alone [] v s new sound at is =
      let same : seated v i (with s new) ≡ v = ap (λ l. record v { seats = l }) (ap (λ h. slice_set v.seats i (with s h)) is ∙ same_again v.seats i s at) in
      ([], refl, λ after. (refl, same))
  leads_alone (e ∷ es) v s new sound at r =
      let next : Seat = with s r.0 in
      let first = retires sets ways i v s e r.0 sound at r.1 in
      let rest = leads_alone es (seated v i next) next new first.1 (there v.seats i next (is_within v.seats i s at)) r.2 in
      let same : seated (seated v i next) i (with next new) ≡ seated v i (with s new) = ap (λ l. record v { seats = l }) (twice v.seats i next (with s new)) in
      let last : Leads (geometry sets ways) (replicate (length es) (Core i)) (seated v i next) es (seated v i (with s new)) =
      subst (λ (m : State). Leads (geometry sets ways) (replicate (length es) (Core i)) (seated v i next) es m) same rest in
      (moment v (step.Core i) (Some e) (seated v i next) ∷ last.0, ap (λ (xs : List Entry). e ∷ xs) last.1, λ after. (Some (step.Core i), Some e, seated v i next, last.0, refl, first.0, last.2 i, refl))

  leads_back : (v : State) (old new : Parts) (es : List Entry) → IsSound sets ways v → hart_if v i ≡ Some old → RunsAlone sets v.program.segments old es new
      → Leads (geometry sets ways) (replicate (length es) (Core i)) v es (with_hart v i new)
  leads_back v old new es sound is r =
      let s = seat_of sets ways i v old is in
      let is_with : with_hart v i new ≡ seated v i (with s.0 new) = with_hart_is v i s.0 new s.1 in
      subst (λ (m : State). Leads (geometry sets ways) (replicate (length es) (Core i)) v es m) (sym is_with)
      (leads_alone es v s.0 new sound s.1 (subst (λ h. RunsAlone sets v.program.segments h es new) (sym s.2) r))

-- a lease's steps, with the entries that its trace tells
pub lease_leads : {T : Type 0} (sets ways : ℕ) (traces : T → List Entry → Type 0) (v w : State) (l : Lent T) → IsSound sets ways v → hart_if v l.id ≡ Some l.before
    → v.program.segments ≡ l.program.segments → HasRun sets (traces l.trace) l.program.segments l.steps l.before l.after → w ≡ with_hart v l.id l.after → (i : ℕ) (after : Parts) → i ≡ l.id → after ≡ l.after
    → ((old : Parts) (es : List Entry) → hart_if v i ≡ Some old → RunsAlone sets v.program.segments old es after → Runs (geometry sets ways) (shown sets v) (replicate (length es) (step.Core i)) es (shown sets w))
    → LeadsAlone (geometry sets ways) traces v l w
lease_leads sets ways traces v w l sound at text r is i after same here runs =
    let there : RunsAlone sets v.program.segments l.before r.entries l.after = subst (λ (ss : List Segment). RunsAlone sets ss l.before r.entries l.after) (sym text) r.run in
    let back = leads_back sets ways l.id v l.before l.after r.entries sound at there in
    let leads : Leads (geometry sets ways) (replicate (length r.entries) (Core l.id)) v r.entries w =
    subst (λ (m : State). Leads (geometry sets ways) (replicate (length r.entries) (Core l.id)) v r.entries m) (sym is) back in
    let made = runs l.before r.entries (ap (hart_if v) same ∙ at) (subst (λ (h : Parts). RunsAlone sets v.program.segments l.before r.entries h) (sym here) there) in
    (r.entries, r.traced, r.count, subst (λ (k : ℕ). Runs (geometry sets ways) (shown sets v) (replicate (length r.entries) (step.Core k)) r.entries (shown sets w)) same made, leads)
