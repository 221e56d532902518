-- Turns of sessions that no command tells apart: `step` and `run` come to the same.
use Rattle.std.proofs.Common.{◌≡◌, ◌<◌, ◌≤◌, ◌⊎◌, ◌∙◌, ℕ, zero, suc, cond, Option, Some, None, inl, inr, arith, refl, sym, ap, subst}
use Rattle.std.specs.Option.{option_and_then}
use Rattle.std.proofs.lemmas.Bool.{cases_lt}
use Rattle.std.proofs.lemmas.Option.{none-some, same_Some}
use Rattle.words.specs.declared.entry.Entry.{Entry}
use Rattle.words.specs.declared.entry.Step.{Step as MachineStep}
use Rattle.protocol.specs.Caches.{Geometry}
use Rattle.protocol.specs.Machine.{Machine}
use Rattle.machine.specs.Making.{MakesStep}
use Rattle.machine.specs.States.{shown}
use Rattle.machine.specs.Turns.{IsNextTurn, NoneRuns, hart_after}
use Rattle.machine.proofs.OneTurn.{turn_once}
use Rattle.machine.proofs.Twins.{one_entry, twins_on}
use Rattle.debugger.specs.Sessions.{Session, IsIdle, Turns, Waits, StepsTo, RunsOn, RunsOut, RunsInto, LetsOn, mover, has_breakpoint, pc_if, break_at, patience}
use Rattle.debugger.specs.Twins.{AreTwinSessions}

module _ (g : Geometry) where
  -- sessions that stayed as they were
  pub both_stay : (s t u x : Session) → AreTwinSessions g s t → u ≡ s → x ≡ t → AreTwinSessions g u x
  both_stay s t u x twins same also = subst (λ (m : Session). AreTwinSessions g m x) (sym same) (subst (λ (m : Session). AreTwinSessions g s m) (sym also) twins)

  -- no hart runs in either
  pub idle_too : (s t : Session) → AreTwinSessions g s t → IsIdle g.sets s → IsIdle g.sets t
  idle_too s t twins idle = subst (λ (m : Machine). NoneRuns m.harts 0 m.setting.count) twins.machine.machine idle

  pub idle_before : (s t : Session) → AreTwinSessions g s t → IsIdle g.sets t → IsIdle g.sets s
  idle_before s t twins idle = subst (λ (m : Machine). NoneRuns m.harts 0 m.setting.count) (sym twins.machine.machine) idle

  -- One turn

  pub one_after : (s t u x : Session) (d e : Option Entry) → AreTwinSessions g s t → Turns g s d u → Turns g t e x → (d ≡ e) × AreTwinSessions g u x
  one_after s t u x d e twins (p, one, last, points) (q, other, last_too, points_too) =
      let turn : IsNextTurn (shown g.sets t.machine) t.machine.flights s.last (Some q) =
      subst (λ (n : ℕ). IsNextTurn (shown g.sets t.machine) t.machine.flights n (Some q)) (sym twins.last) other.next in
      let step : p ≡ q = same_Some p q (turn_once g s.machine t.machine s.last (Some p) (Some q) twins.machine one.next turn) in
      let made : MakesStep g t.machine p e x.machine = subst (λ (r : MachineStep). MakesStep g t.machine r e x.machine) (sym step) other.made in (
        one_entry g s.machine t.machine twins.machine p d e u.machine x.machine one.made made,
        record {
          machine = twins_on g s.machine t.machine twins.machine p d e u.machine x.machine one.made made;
          last = last ∙ ((λ k. hart_after (step k) (twins.last k)) ∙ sym last_too);
          breakpoints = points ∙ (twins.breakpoints ∙ sym points_too);
        },
      )

  -- Turns without an entry

  pub waits_once : (n : ℕ) (s t u x : Session) → AreTwinSessions g s t → Waits g n s u → Waits g n t x → AreTwinSessions g u x
  waits_once zero s t u x twins one other = both_stay s t u x twins one other
  waits_once (suc n) s t u x twins (m, one, turn) (k, other, turn_too) = (one_after m k u x None None (waits_once n s t m k twins one other) turn turn_too).1

  -- each of them has none
  waits_at : (n k : ℕ) (s u : Session) → k < n → Waits g n s u → (a : Session) × (b : Session) × Waits g k s a × Turns g a None b
  waits_at zero k s u below waits = absurd (omega (arith, below))
  waits_at (suc n) k s u below (m, before, turn) = elim (cases_lt k n) [
    | inl less ↦ waits_at n k s m less before
    | inr le ↦ let same : n ≡ k = omega (arith, below, le) in (m, u, subst (λ (j : ℕ). Waits g j s m) same before, turn)
  ]

  no_entry : (e : Entry) → ◌≡◌ {A = Option Entry} None (Some e) → ⊥
  no_entry e is = none-some e is

  -- an entry comes behind as many
  entry_late : (n m : ℕ) (s t u v x : Session) (e : Entry) → AreTwinSessions g s t → n < m → Waits g n s u → Turns g u (Some e) v → Waits g m t x → ⊥
  entry_late n m s t u v x e twins below one turn other =
      let at = waits_at m n t x below other in
      no_entry e (sym (one_after u at.0 v at.1 (Some e) None (waits_once n s t u at.0 twins one at.2) turn at.3).0)

  entry_early : (n m : ℕ) (s t u x y : Session) (e : Entry) → AreTwinSessions g s t → m < n → Waits g n s u → Waits g m t x → Turns g x (Some e) y → ⊥
  entry_early n m s t u x y e twins below one other turn =
      let at = waits_at n m s u below one in
      no_entry e (one_after at.0 x at.1 y None (Some e) (waits_once m s t at.0 x twins at.2 other) at.3 turn).0

  -- so `step` comes to one entry
  pub steps_once : (most : ℕ) (s t u x : Session) (d e : Entry) → AreTwinSessions g s t → StepsTo g most s d u → StepsTo g most t e x → (d ≡ e) × AreTwinSessions g u x
  steps_once most s t u x d e twins (n, v, few, one, turn) (m, y, few_too, other, turn_too) = elim (cases_lt n m) [
    | inl below ↦ absurd (entry_late n m s t v u y d twins below one turn other)
    | inr le ↦ elim (cases_lt m n) [
      | inl above ↦ absurd (entry_early n m s t v y x e twins above one other turn_too)
      | inr ge ↦
          let same : m ≡ n = omega (arith, le, ge) in
          let both = one_after v y u x (Some d) (Some e) (waits_once n s t v y twins one (subst (λ (j : ℕ). Waits g j t y) same other)) turn turn_too in
          (same_Some d e both.0, both.1)
    ]
  ]

  -- or to none
  pub steps_or_waits : (most : ℕ) (s t u x : Session) (e : Entry) → AreTwinSessions g s t → StepsTo g most s e u → Waits g most t x → ⊥
  steps_or_waits most s t u x e twins (n, v, few, one, turn) other = entry_late n most s t v u x e twins few one turn other

  pub waits_or_steps : (most : ℕ) (s t u x : Session) (e : Entry) → AreTwinSessions g s t → Waits g most s u → StepsTo g most t e x → ⊥
  waits_or_steps most s t u x e twins one (m, y, few, other, turn) = entry_early most m s t u y x e twins few one other turn

  -- Runs

  -- where a turn breaks a run off
  pub break_is : (u x : Session) (d e : Option Entry) → AreTwinSessions g u x → d ≡ e → break_at g.sets u d ≡ break_at g.sets x e
  break_is u x d e twins same = λ k.
      option_and_then (λ i. option_and_then (λ pc. cond (has_breakpoint (twins.breakpoints k) pc) (Some (i, pc)) None) (pc_if (twins.machine.machine k) i)) (option_and_then mover (same k))

  pub runs_once : (n : ℕ) (s t u x : Session) → AreTwinSessions g s t → RunsOn g n s u → RunsOn g n t x → AreTwinSessions g u x
  runs_once zero s t u x twins one other = both_stay s t u x twins one other
  runs_once (suc n) s t u x twins (m, d, one, runs, turn, on) (k, e, other, runs_too, turn_too, on_too) =
      (one_after m k u x d e (runs_once n s t m k twins one other) turn turn_too).1

  -- each turn of a run: a hart runs before it, and it breaks nothing off
  record RunsAt (k : ℕ) (s : Session) : Type 0 where
    before : Session
    entry : Option Entry
    behind : Session
    on : RunsOn g k s before
    runs : IsIdle g.sets before → ⊥
    turn : Turns g before entry behind
    lets : LetsOn g.sets behind entry

  runs_at : (n k : ℕ) (s u : Session) → k < n → RunsOn g n s u → RunsAt k s
  runs_at zero k s u below on = absurd (omega (arith, below))
  runs_at (suc n) k s u below (m, e, before, runs, turn, lets) = elim (cases_lt k n) [
    | inl less ↦ runs_at n k s m less before
    | inr le ↦
        let same : n ≡ k = omega (arith, below, le) in
        record { before = m; entry = e; behind = u; on = subst (λ (j : ℕ). RunsOn g j s m) same before; runs = runs; turn = turn; lets = lets }
  ]

  no_break : (i pc : ℕ) (b : Session) (e : Option Entry) → break_at g.sets b e ≡ Some (i, pc) → (IsIdle g.sets b → ⊥) → LetsOn g.sets b e → ⊥
  no_break i pc b e broke runs (inl none) = none-some (i, pc) (sym none ∙ broke)
  no_break i pc b e broke runs (inr idle) = runs idle

  -- a run that ended after n turns doesn't go on to more, in either session
  idle_late : (n m : ℕ) (s t u x : Session) → AreTwinSessions g s t → n < m → RunsOn g n s u → IsIdle g.sets u → RunsOn g m t x → ⊥
  idle_late n m s t u x twins below one idle other =
      let at = runs_at m n t x below other in
      at.runs (idle_too u at.before (runs_once n s t u at.before twins one at.on) idle)

  idle_early : (n m : ℕ) (s t u x : Session) → AreTwinSessions g s t → m < n → RunsOn g n s u → RunsOn g m t x → IsIdle g.sets x → ⊥
  idle_early n m s t u x twins below one other idle =
      let at = runs_at n m s u below one in
      at.runs (idle_before at.before x (runs_once m s t at.before x twins at.on other) idle)

  -- nor one that was broken off
  break_late : (n m : ℕ) (s t u v x : Session) (e : Option Entry) (i pc : ℕ) → AreTwinSessions g s t → n < m → RunsOn g n s u → Turns g u e v → break_at g.sets v e ≡ Some (i, pc)
      → (IsIdle g.sets v → ⊥) → RunsOn g m t x → ⊥
  break_late n m s t u v x e i pc twins below one turn broke runs other =
      let at = runs_at m n t x below other in
      let both = one_after u at.before v at.behind e at.entry (runs_once n s t u at.before twins one at.on) turn at.turn in
      no_break i pc at.behind at.entry (sym (break_is v at.behind e at.entry both.1 both.0) ∙ broke) (λ idle. runs (idle_before v at.behind both.1 idle)) at.lets

  break_early : (n m : ℕ) (s t u x y : Session) (e : Option Entry) (i pc : ℕ) → AreTwinSessions g s t → m < n → RunsOn g n s u → RunsOn g m t x → Turns g x e y → break_at g.sets y e ≡ Some (i, pc)
      → (IsIdle g.sets y → ⊥) → ⊥
  break_early n m s t u x y e i pc twins below one other turn broke runs =
      let at = runs_at n m s u below one in
      let both = one_after at.before x at.behind y at.entry e (runs_once m s t at.before x twins at.on other) at.turn turn in
      no_break i pc at.behind at.entry (break_is at.behind y at.entry e both.1 both.0 ∙ broke) (λ idle. runs (idle_too at.behind y both.1 idle)) at.lets

  -- both run out
  pub out_once : (most : ℕ) (s t u x : Session) → AreTwinSessions g s t → RunsOut g most s u → RunsOut g most t x → AreTwinSessions g u x
  out_once most s t u x twins (n, few, one, idle) (m, few_too, other, idle_too_) = elim (cases_lt n m) [
    | inl below ↦ absurd (idle_late n m s t u x twins below one idle other)
    | inr le ↦ elim (cases_lt m n) [
      | inl above ↦ absurd (idle_early n m s t u x twins above one other idle_too_)
      | inr ge ↦ let same : m ≡ n = omega (arith, le, ge) in runs_once n s t u x twins one (subst (λ (j : ℕ). RunsOn g j t x) same other)
    ]
  ]

  -- both come to a breakpoint
  pub into_once : (most : ℕ) (s t u x : Session) (i p j q : ℕ) → AreTwinSessions g s t → RunsInto g most s i p u → RunsInto g most t j q x → (◌≡◌ {A = ℕ × ℕ} (i, p) (j, q)) × AreTwinSessions g u x
  into_once most s t u x i p j q twins (n, v, d, few, one, runs, turn, broke, goes) (m, y, e, few_too, other, runs_too, turn_too, broke_too, goes_too) = elim (cases_lt n m) [
    | inl below ↦ absurd (break_late n m s t v u y d i p twins below one turn broke goes other)
    | inr le ↦ elim (cases_lt m n) [
      | inl above ↦ absurd (break_early n m s t v y x e j q twins above one other turn_too broke_too goes_too)
      | inr ge ↦
          let same : m ≡ n = omega (arith, le, ge) in
          let both = one_after v y u x d e (runs_once n s t v y twins one (subst (λ (k : ℕ). RunsOn g k t y) same other)) turn turn_too in
          let at : ℕ × ℕ = (i, p) in
          let at_too : ℕ × ℕ = (j, q) in
          let one_place : at ≡ at_too = same_Some at at_too (sym broke ∙ (break_is u x d e both.1 both.0 ∙ broke_too)) in
          (one_place, both.1)
    ]
  ]

  -- not the one and the other
  pub out_or_into : (most : ℕ) (s t u x : Session) (j q : ℕ) → AreTwinSessions g s t → RunsOut g most s u → RunsInto g most t j q x → ⊥
  out_or_into most s t u x j q twins (n, few, one, idle) (m, y, e, few_too, other, runs, turn, broke, goes) = elim (cases_lt n m) [
    | inl below ↦ idle_late n m s t u y twins below one idle other
    | inr le ↦ elim (cases_lt m n) [
      | inl above ↦ break_early n m s t u y x e j q twins above one other turn broke goes
      | inr ge ↦
          let same : m ≡ n = omega (arith, le, ge) in
          runs (idle_too u y (runs_once n s t u y twins one (subst (λ (k : ℕ). RunsOn g k t y) same other)) idle)
    ]
  ]

  pub into_or_out : (most : ℕ) (s t u x : Session) (i p : ℕ) → AreTwinSessions g s t → RunsInto g most s i p u → RunsOut g most t x → ⊥
  into_or_out most s t u x i p twins (n, v, d, few, one, runs, turn, broke, goes) (m, few_too, other, idle) = elim (cases_lt n m) [
    | inl below ↦ break_late n m s t v u x d i p twins below one turn broke goes other
    | inr le ↦ elim (cases_lt m n) [
      | inl above ↦ idle_early n m s t v x twins above one other idle
      | inr ge ↦
          let same : m ≡ n = omega (arith, le, ge) in
          runs (idle_before v x (runs_once n s t v x twins one (subst (λ (k : ℕ). RunsOn g k t x) same other)) idle)
    ]
  ]

  -- nor the limit
  pub out_or_limit : (most : ℕ) (s t u x : Session) → AreTwinSessions g s t → RunsOut g most s u → RunsOn g most t x → (IsIdle g.sets x → ⊥) → ⊥
  out_or_limit most s t u x twins (n, few, one, idle) other goes = elim (cases_lt n most) [
    | inl below ↦ idle_late n most s t u x twins below one idle other
    | inr le ↦
        let same : n ≡ most = omega (arith, few, le) in
        goes (idle_too u x (runs_once most s t u x twins (subst (λ (k : ℕ). RunsOn g k s u) same one) other) idle)
  ]

  pub limit_or_out : (most : ℕ) (s t u x : Session) → AreTwinSessions g s t → RunsOn g most s u → (IsIdle g.sets u → ⊥) → RunsOut g most t x → ⊥
  limit_or_out most s t u x twins one goes (m, few, other, idle) = elim (cases_lt m most) [
    | inl below ↦ idle_early most m s t u x twins below one other idle
    | inr le ↦
        let same : m ≡ most = omega (arith, few, le) in
        goes (idle_before u x (runs_once most s t u x twins one (subst (λ (k : ℕ). RunsOn g k t x) same other)) idle)
  ]

  pub into_or_limit : (most : ℕ) (s t u x : Session) (i p : ℕ) → AreTwinSessions g s t → RunsInto g most s i p u → RunsOn g most t x → ⊥
  into_or_limit most s t u x i p twins (n, v, d, few, one, runs, turn, broke, goes) other = break_late n most s t v u x d i p twins few one turn broke goes other

  pub limit_or_into : (most : ℕ) (s t u x : Session) (j q : ℕ) → AreTwinSessions g s t → RunsOn g most s u → RunsInto g most t j q x → ⊥
  limit_or_into most s t u x j q twins one (m, y, e, few, other, runs, turn, broke, goes) = break_early most m s t u y x e j q twins few one other turn broke goes
