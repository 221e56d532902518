-- A hart stops only with an entry.
use Rattle.std.proofs.Common.{◌≡◌, ◌<◌, ◌≤◌, ◌++◌, ℕ, List, length, Option, None, refl, sym, ap, subst, ◌∙◌}
use Rattle.std.specs.Prelude.{option_to_list}
use Rattle.words.specs.declared.cause.Status.TheVariants.{Running}
use Rattle.words.specs.declared.entry.Entry.{Entry}
use Rattle.flat.specs.State.{Flat}
use Rattle.flat.specs.Steps.{IsRun}
use Rattle.protocol.specs.Caches.{Geometry}
use Rattle.isolation.specs.Belongs.{Belongs, BelongsAfter}
use Rattle.isolation.specs.Reasons.{HaveReasonsAfter, LeadOn}
use Rattle.machine.specs.States.{State, Seat, shown, setting_of, hart_at}
use Rattle.machine.specs.Turns.{NoneRuns}
use Rattle.machine.specs.Watch.{IsOver}
use Rattle.machine.proofs.Reading.{same_setting, looks_same}

-- where a step gave no entry, and no hart runs, none ran before it
pub over_before : (g : Geometry) (v w : State) (f : Flat) (e : Option Entry) → Belongs g f (shown g.sets v) → LeadOn g (shown g.sets v) (option_to_list e) (shown g.sets w) → e ≡ None → IsOver g.sets w → IsOver g.sets v
over_before g v w f e before leads none over = λ k from to runs. over k from (subst (λ n. k < n) (sym count) to) (status k ∙ runs)
  where
    on : (h : Flat) × IsRun f (option_to_list e) h × HaveReasonsAfter before.entries f (option_to_list e) × BelongsAfter g (before.entries ++ option_to_list e) h (shown g.sets w)
    on = leads before.entries f (before, refl)

    same : on.0 ≡ f
    same = subst (λ o. IsRun f (option_to_list o) on.0) none on.1

    after : Belongs g f (shown g.sets w)
    after = subst (λ h. Belongs g h (shown g.sets w)) same on.3.0

    count : (setting_of w).count ≡ (setting_of v).count
    count = ap (λ s. s.count) (same_setting g f (shown g.sets w) after ∙ sym (same_setting g f (shown g.sets v) before))

    status : (k : ℕ) → ((shown g.sets w).harts k).status ≡ ((shown g.sets v).harts k).status
    status k = (looks_same g f (shown g.sets w) k after).status ∙ sym (looks_same g f (shown g.sets v) k before).status

-- Whether a hart runs

pub runs_some : (sets : ℕ) (m : State) (seats : List Seat) (n i : ℕ) → seats ≡ m.seats → n ≡ length m.seats
    → (0 ≤ i) × (i < n) × ((hart_at sets seats i).status ≡ Running) × NoneRuns (hart_at sets seats) 0 i → IsOver sets m → ⊥
runs_some sets m seats n i same count some over = over i some.0 (subst (λ k. i < k) count some.1) (ap (λ s. (hart_at sets s i).status) (sym same) ∙ some.2)

pub runs_none : (sets : ℕ) (m : State) (seats : List Seat) (n : ℕ) → seats ≡ m.seats → n ≡ length m.seats → NoneRuns (hart_at sets seats) 0 n → IsOver sets m
runs_none sets m seats n same count none = subst (λ k. NoneRuns (hart_at sets m.seats) 0 k) count (subst (λ s. NoneRuns (hart_at sets s) 0 n) same none)
