-- A schedule makes one run: of twins it makes twins, moment by moment.
use Rattle.std.proofs.Common.{◌≡◌, ◌++◌, ◌∙◌, ℕ, zero, suc, Option, Some, None, List, [], ◌∷◌, inl, inr, refl, sym, ap, subst}
use Rattle.std.specs.Prelude.{option_to_list}
use Rattle.words.specs.declared.entry.Entry.{Entry}
use Rattle.words.specs.declared.entry.Step.{Step}
use Rattle.words.specs.declared.entry.Step.TheVariants as step
use Rattle.protocol.specs.Caches.{Geometry}
use Rattle.protocol.specs.Machine.{Machine}
use Rattle.network.specs.declared.net.Flight.{Flight}
use Rattle.network.specs.Flights.{flight_at}
use Rattle.machine.specs.States.{State, shown}
use Rattle.machine.specs.Turns.{hart_after}
use Rattle.machine.specs.Twins.{AreTwins}
use Rattle.machine.proofs.OneTurn.{turn_once}
use Rattle.machine.proofs.Twins.{one_entry, twins_on}
use Rattle.schedule.specs.declared.choices.Name.{Name}
use Rattle.schedule.specs.declared.choices.Choice.{Choice}
use Rattle.schedule.specs.declared.choices.Choice.TheVariants.{Core, Evict, Deliver, Turn}
use Rattle.schedule.specs.Moments.{Moment, moment, moments, arrival_of, entries_of}
use Rattle.schedule.specs.Runs.{Makes, TakesTurns, TakesChosen, FollowsThen, last_after}
use Rattle.schedule.specs.Steps.{IsArrivalOf, IsStepOf}
use Rattle.schedule.specs.Twins.{AreTwinMoments, AreTwinRuns}

-- The step that a choice is

one_arrival : (w : Machine) (n : Name) (s t : Option Step) → IsArrivalOf w n s → IsArrivalOf w n t → s ≡ t
one_arrival w n None None one other = refl
one_arrival w n None (Some (step.Core i)) one other = absurd other
one_arrival w n None (Some (step.Evict i b)) one other = absurd other
one_arrival w n None (Some (step.Deliver number)) one other = absurd (one number other.0)
one_arrival w n (Some (step.Core i)) t one other = absurd one
one_arrival w n (Some (step.Evict i b)) t one other = absurd one
one_arrival w n (Some (step.Deliver number)) None one other = absurd (other number one.0)
one_arrival w n (Some (step.Deliver number)) (Some (step.Core i)) one other = absurd other
one_arrival w n (Some (step.Deliver number)) (Some (step.Evict i b)) one other = absurd other
one_arrival w n (Some (step.Deliver number)) (Some (step.Deliver also)) one other = ap (λ k. Some (step.Deliver k)) (other.1 number one.0)

pub one_step : (g : Geometry) (v w : State) (after : ℕ) (c : Choice) (s t : Option Step) → AreTwins g v w → IsStepOf g.sets v after c s → IsStepOf g.sets w after c t → s ≡ t
one_step g v w after (Core h) s t twins one other = one ∙ sym other
one_step g v w after (Evict h b) s t twins one other = one ∙ sym other
one_step g v w after (Deliver n) s t twins one other = one_arrival (shown g.sets w) n s t (subst (λ m. IsArrivalOf m n s) twins.machine one) other
one_step g v w after Turn s t twins one other = turn_once g v w after s t twins one other

-- What a step makes

arrival_is : (g : Geometry) (v w : State) (s : Step) → AreTwins g v w → arrival_of v s ≡ arrival_of w s
arrival_is g v w (step.Core i) twins = refl
arrival_is g v w (step.Evict i b) twins = refl
arrival_is g v w (step.Deliver number) twins = ap (λ (flights : List Flight). flight_at flights number) twins.flights

module _ (g : Geometry) (v w : State) (twins : AreTwins g v w) where
  -- one step makes one moment
  twin_moment : (s : Step) (d e : Option Entry) (u x : State) → Makes g v (Some s) d u → Makes g w (Some s) e x → AreTwinMoments g (moment v s d u) (moment w s e x)
  twin_moment s d e u x one other = record {
    sent = twins.sent;
    step = refl;
    arrival = arrival_is g v w s twins;
    entry = one_entry g v w twins s d e u x one other;
    after = twins_on g v w twins s d e u x one other;
  }

  -- and no step none
  twin_made : (s : Option Step) (d e : Option Entry) (u x : State) → Makes g v s d u → Makes g w s e x → AreTwins g u x
  twin_made None d e u x (none, same) (none_too, same_too) = subst (λ (m : State). AreTwins g m x) (sym same) (subst (λ (m : State). AreTwins g v m) (sym same_too) twins)
  twin_made (Some s) d e u x one other = twins_on g v w twins s d e u x one other

  twin_more : (s : Option Step) (d e : Option Entry) (u x : State) (ms ns : List Moment) → Makes g v s d u → Makes g w s e x → AreTwinRuns g ms ns
      → AreTwinRuns g (moments v s d u ++ ms) (moments w s e x ++ ns)
  twin_more None d e u x ms ns one other rest = rest
  twin_more (Some s) d e u x ms ns one other rest = (twin_moment s d e u x one other, rest)

-- Runs

-- the moments are twins, and so are the machines at the end
abbrev Ends : Geometry → List Moment → List Moment → State → State → Type 0
Ends g ms ns u x = AreTwinRuns g ms ns × AreTwins g u x

end_here : (g : Geometry) (v w u x : State) (ms ns : List Moment) → AreTwins g v w → ms ≡ [] → u ≡ v → ns ≡ [] → x ≡ w → Ends g ms ns u x
end_here g v w u x ms ns twins none same none_too same_too = (
  subst (λ (l : List Moment). AreTwinRuns g l ns) (sym none) (subst (λ (l : List Moment). AreTwinRuns g [] l) (sym none_too) tt),
  subst (λ (m : State). AreTwins g m x) (sym same) (subst (λ (m : State). AreTwins g v m) (sym same_too) twins),
)

end_both : (g : Geometry) (ms ns ks ls : List Moment) (u x : State) → ms ≡ ks → ns ≡ ls → Ends g ks ls u x → Ends g ms ns u x
end_both g ms ns ks ls u x one other ends =
    (subst (λ (l : List Moment). AreTwinRuns g l ns) (sym one) (subst (λ (l : List Moment). AreTwinRuns g ks l) (sym other) ends.0), ends.1)

module _ (g : Geometry) where
  turns_once : (n : ℕ) (v w u x : State) (after : ℕ) (ms ns : List Moment) → AreTwins g v w → TakesTurns g n v after ms u → TakesTurns g n w after ns x → Ends g ms ns u x
  turns_once zero v w u x after ms ns twins (none, same) (none_too, same_too) = end_here g v w u x ms ns twins none same none_too same_too
  turns_once (suc n) v w u x after ms ns twins (inl (over, none, same)) (inl (over_too, none_too, same_too)) = end_here g v w u x ms ns twins none same none_too same_too
  turns_once (suc n) v w u x after ms ns twins (inl (over, none, same)) (inr (s, e, y, rest, next, made, takes, is)) = absurd (none_some (turn_once g v w after None (Some s) twins over next))
    where
      none_some : {s : Step} → ◌≡◌ {A = Option Step} None (Some s) → ⊥
      none_some e = cc
  turns_once (suc n) v w u x after ms ns twins (inr (s, e, y, rest, next, made, takes, is)) (inl (over, none, same)) = absurd (some_none (turn_once g v w after (Some s) None twins next over))
    where
      some_none : {s : Step} → ◌≡◌ {A = Option Step} (Some s) None → ⊥
      some_none e = cc
  turns_once (suc n) v w u x after ms ns twins (inr (s, e, y, rest, next, made, takes, is)) (inr (t, d, z, more, next_too, made_too, takes_too, is_too)) =
      let some : ◌≡◌ {A = Option Step} (Some t) (Some s) = sym (turn_once g v w after (Some s) (Some t) twins next next_too) in
      let steps : t ≡ s = step_is some in
      let also : Makes g w (Some s) d z = subst (λ (r : Step). Makes g w (Some r) d z) steps made_too in
      let on : TakesTurns g n z (hart_after s after) more x = subst (λ (r : Step). TakesTurns g n z (hart_after r after) more x) steps takes_too in
      let later = turns_once n y z u x (hart_after s after) rest more (twin_made g v w twins (Some s) e d y z made also) takes on in
      end_both g ms ns (moment v s e y ∷ rest) (moment w s d z ∷ more) u x is (is_too ∙ ap (λ (r : Step). moment w r d z ∷ more) steps) (twin_more g v w twins (Some s) e d y z rest more made also later.0, later.1)
    where
      step_is : ◌≡◌ {A = Option Step} (Some t) (Some s) → t ≡ s
      step_is e = cc

  chosen_once : (cs : List Choice) (n : ℕ) (v w u x : State) (after : ℕ) (ms ns : List Moment) → AreTwins g v w → TakesChosen g cs n v after ms u → TakesChosen g cs n w after ns x → Ends g ms ns u x
  chosen_once [] n v w u x after ms ns twins (none, same, over) (none_too, same_too, over_too) = end_here g v w u x ms ns twins none same none_too same_too
  chosen_once (c ∷ cs) zero v w u x after ms ns twins one other = absurd one
  chosen_once (c ∷ cs) (suc n) v w u x after ms ns twins (s, e, y, rest, chosen, made, takes, is) (t, d, z, more, chosen_too, made_too, takes_too, is_too) =
      let steps : t ≡ s = step_is (one_step g v w after c (Some s) (Some t) twins (chosen.is after) (chosen_too.is after)) in
      let also : Makes g w (Some s) d z = subst (λ (r : Step). Makes g w (Some r) d z) steps made_too in
      let on : TakesChosen g cs n z (hart_after s after) more x = subst (λ (r : Step). TakesChosen g cs n z (hart_after r after) more x) steps takes_too in
      let later = chosen_once cs n y z u x (hart_after s after) rest more (twin_made g v w twins (Some s) e d y z made also) takes on in
      end_both g ms ns (moment v s e y ∷ rest) (moment w s d z ∷ more) u x is (is_too ∙ ap (λ (r : Step). moment w r d z ∷ more) steps) (twin_more g v w twins (Some s) e d y z rest more made also later.0, later.1)
    where
      step_is : ◌≡◌ {A = Option Step} (Some s) (Some t) → t ≡ s
      step_is e = cc

  pub run_once : (r : Option (List Choice)) (cs : List Choice) (n : ℕ) (v w u x : State) (after : ℕ) (ms ns : List Moment) → AreTwins g v w → FollowsThen r g cs n v after ms u → FollowsThen r g cs n w after ns x
      → AreTwinRuns g ms ns × AreTwins g u x
  run_once None [] n v w u x after ms ns twins one other = turns_once n v w u x after ms ns twins one other
  run_once (Some chosen) [] n v w u x after ms ns twins one other = chosen_once chosen n v w u x after ms ns twins one other
  run_once r (c ∷ cs) zero v w u x after ms ns twins (none, same, nothing) (none_too, same_too, nothing_too) = end_here g v w u x ms ns twins none same none_too same_too
  run_once r (c ∷ cs) (suc n) v w u x after ms ns twins (s, e, y, rest, is_step, made, follows, is) (t, d, z, more, is_step_too, made_too, follows_too, is_too) =
      let steps : t ≡ s = sym (one_step g v w after c s t twins is_step is_step_too) in
      let also : Makes g w s d z = subst (λ (o : Option Step). Makes g w o d z) steps made_too in
      let on : FollowsThen r g cs n z (last_after s after) more x = subst (λ (o : Option Step). FollowsThen r g cs n z (last_after o after) more x) steps follows_too in
      let later = run_once r cs n y z u x (last_after s after) rest more (twin_made g v w twins s e d y z made also) follows on in
      end_both g ms ns (moments v s e y ++ rest) (moments w s d z ++ more) u x is (is_too ∙ ap (λ (o : Option Step). moments w o d z ++ more) steps) (twin_more g v w twins s e d y z rest more made also later.0, later.1)

-- twin moments gave the same entries
pub same_entries : (g : Geometry) (ms ns : List Moment) → AreTwinRuns g ms ns → entries_of ms ≡ entries_of ns
same_entries g [] [] twins = refl
same_entries g [] (n ∷ ns) twins = absurd twins
same_entries g (m ∷ ms) [] twins = absurd twins
same_entries g (m ∷ ms) (n ∷ ns) (one, rest) = λ i. option_to_list (one.entry i) ++ same_entries g ms ns rest i
