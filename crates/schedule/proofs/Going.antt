-- The steps that have been made behind a list, and how a run goes on from them.
use Rattle.std.proofs.Common.{◌≡◌, ◌≤◌, ◌+◌, ◌-◌, ◌++◌, ◌⊎◌, ℕ, zero, suc, inl, inr, List, [], ◌∷◌, length, drop, Option, Some, None, refl, sym, append_assoc, arith, subst, subst₂}
use Rattle.std.proofs.lemmas.List.{append-nil, drop_all}
use Rattle.words.specs.declared.entry.Entry.{Entry}
use Rattle.words.specs.declared.entry.Step.{Step}
use Rattle.protocol.specs.Caches.{Geometry}
use Rattle.machine.specs.States.{State, setting_of, shown}
use Rattle.machine.specs.Turns.{IsNextTurn, hart_after}
use Rattle.schedule.specs.declared.choices.Choice.{Choice}
use Rattle.schedule.specs.Begun.{GivesAll, HasMade}
use Rattle.schedule.specs.Courses.{Behind, Turns, Chance, course, forgotten, IsAtRest, IsChosen, IsNextOf, IsNoneNext, IsUnbegun}
use Rattle.schedule.specs.Moments.{Moment, moment, entries_of}
use Rattle.schedule.specs.Runs.{Makes, TookTurns, TakesTurns, TakesChosen, FollowsThen, Plays}
use Rattle.schedule.proofs.Making.{gives_more, leads}

-- k steps were made, of which the last were turns: what is made by further turns is made by all
pub record HasTurned (g : Geometry) (all : List Choice) (k : ℕ) (v w : State) (after : ℕ) (ms : List Moment) : Type 0 where
  pub goes_on : (m : ℕ) (more : List Moment) (z : State) → TakesTurns g m w after more z → FollowsThen None g all (k + m) v ((setting_of v).count - 1) (ms ++ more) z
  pub gives : GivesAll g v (entries_of ms) w

-- the same where the last were chosen
pub record HasChosen (g : Geometry) (all chosen : List Choice) (k : ℕ) (v w : State) (after : ℕ) (ms : List Moment) : Type 0 where
  pub goes_on : (cs : List Choice) (m : ℕ) (more : List Moment) (z : State) → TakesChosen g cs m w after more z
      → FollowsThen (Some (chosen ++ cs)) g all (k + m) v ((setting_of v).count - 1) (ms ++ more) z
  pub gives : GivesAll g v (entries_of ms) w

abbrev pub HasGone : Geometry → List Choice → Behind → ℕ → State → State → ℕ → List Moment → Type 0
HasGone g all Turns k v w after ms = HasTurned g all k v w after ms
HasGone g all (Chance (Some chosen)) k v w after ms = HasChosen g all chosen k v w after ms
HasGone g all (Chance None) k v w after ms = (chosen : List Choice) × HasChosen g all chosen k v w after ms

module _ (g : Geometry) (all : List Choice) where
  -- behind a list that was made, nothing more was
  module _ (k : ℕ) (v w : State) (after : ℕ) (ms : List Moment) (end : length all ≤ k) (made : HasMade g all k v w after ms) where
    behind : (r : Option (List Choice)) (m : ℕ) (more : List Moment) (z : State) → FollowsThen r g [] m w after more z → FollowsThen r g all (k + m) v ((setting_of v).count - 1) (ms ++ more) z
    behind r m more z takes = made.goes_on r m more z (subst (λ (cs : List Choice). FollowsThen r g cs m w after more z) (sym (drop_all k all end)) takes)

    none_chosen : HasChosen g all [] k v w after ms
    none_chosen = record { goes_on = λ cs m more z takes. behind (Some cs) m more z takes; gives = made.gives }

    pub gone_first : (b : Behind) → IsUnbegun b → HasGone g all b k v w after ms
    gone_first Turns unbegun = record { goes_on = λ m more z takes. behind None m more z takes; gives = made.gives }
    gone_first (Chance None) unbegun = ([], none_chosen)
    gone_first (Chance (Some chosen)) unbegun = subst (λ (cs : List Choice). HasChosen g all cs k v w after ms) (sym unbegun) none_chosen

  module _ (k : ℕ) (v u : State) (after : ℕ) (ms : List Moment) where
    -- one more turn
    turned_more : (w : State) (step : Step) (e : Option Entry) → HasTurned g all k v u after ms → IsNextTurn (shown g.sets u) u.flights after (Some step) → Makes g u (Some step) e w
        → HasTurned g all (k + 1) v w (hart_after step after) (ms ++ moment u step e w ∷ [])
    turned_more w step e before next made = record {
      goes_on = λ m more z takes.
          let count : k + suc m ≡ k + 1 + m = omega arith in
          subst (λ (n : ℕ). FollowsThen None g all n v ((setting_of v).count - 1) ((ms ++ moment u step e w ∷ []) ++ more) z) count
          (subst (λ (ns : List Moment). FollowsThen None g all (k + suc m) v ((setting_of v).count - 1) ns z) (sym (append_assoc ms (moment u step e w ∷ []) more))
          (before.goes_on (suc m) (moment u step e w ∷ more) z (inr (step, e, w, more, next, made, takes, refl))));
      gives = gives_more g v u w ms (Some step) e before.gives made;
    }

    -- one more choice of chance
    chosen_more : (w : State) (chosen : List Choice) (c : Choice) (step : Step) (e : Option Entry) → HasChosen g all chosen k v u after ms → IsChosen g u c step → Makes g u (Some step) e w
        → HasChosen g all (chosen ++ c ∷ []) (k + 1) v w (hart_after step after) (ms ++ moment u step e w ∷ [])
    chosen_more w chosen c step e before picked made = record {
      goes_on = λ cs m more z takes.
          let count : k + suc m ≡ k + 1 + m = omega arith in
          subst₂ (λ (n : ℕ) (ds : List Choice). FollowsThen (Some ds) g all n v ((setting_of v).count - 1) ((ms ++ moment u step e w ∷ []) ++ more) z) count (sym (append_assoc chosen (c ∷ []) cs))
          (subst (λ (ns : List Moment). FollowsThen (Some (chosen ++ c ∷ cs)) g all (k + suc m) v ((setting_of v).count - 1) ns z) (sym (append_assoc ms (moment u step e w ∷ []) more))
          (before.goes_on (c ∷ cs) (suc m) (moment u step e w ∷ more) z (step, e, w, more, picked, made, takes, refl)));
      gives = gives_more g v u w ms (Some step) e before.gives made;
    }

    pub gone_more : (w : State) (b c : Behind) (step : Step) (e : Option Entry) → HasGone g all b k v u after ms → IsNextOf g u after b step c → Makes g u (Some step) e w
        → HasGone g all c (k + 1) v w (hart_after step after) (ms ++ moment u step e w ∷ [])
    gone_more w Turns c step e before (next, is) made =
        subst (λ (b : Behind). HasGone g all b (k + 1) v w (hart_after step after) (ms ++ moment u step e w ∷ [])) (sym is) (turned_more w step e before next made)
    gone_more w (Chance None) c step e (chosen, before) ((choice, picked), is) made =
        subst (λ (b : Behind). HasGone g all b (k + 1) v w (hart_after step after) (ms ++ moment u step e w ∷ [])) (sym is) (chosen ++ choice ∷ [], chosen_more w chosen choice step e before picked made)
    gone_more w (Chance (Some chosen)) c step e before (choice, picked, is) made =
        subst (λ (b : Behind). HasGone g all b (k + 1) v w (hart_after step after) (ms ++ moment u step e w ∷ [])) (sym is) (chosen_more w chosen choice step e before picked made)

  -- more turns
  pub turned_on : (k : ℕ) (v u w : State) (after last : ℕ) (ms ns : List Moment) → HasTurned g all k v u after ms → TookTurns g u after ns w last → HasTurned g all (k + length ns) v w last (ms ++ ns)
  turned_on k v u w after last ms [] before (same, is) =
      let none : k ≡ k + 0 = omega arith in
      subst (λ (l : List Moment). HasTurned g all (k + 0) v w last l) (sym (append-nil ms))
      (subst (λ (n : ℕ). HasTurned g all n v w last ms) none (subst₂ (λ (m : State) (h : ℕ). HasTurned g all k v m h ms) (sym same) (sym is) before))
  turned_on k v u w after last ms (n ∷ ns) before (step, e, x, next, made, is, later) =
      let one : HasTurned g all (k + 1) v x (hart_after step after) (ms ++ n ∷ []) =
      subst (λ (m : Moment). HasTurned g all (k + 1) v x (hart_after step after) (ms ++ m ∷ [])) (sym is) (turned_more k v u after ms x step e before next made) in
      let count : k + 1 + length ns ≡ k + length (n ∷ ns) = omega arith in
      subst (λ (i : ℕ). HasTurned g all i v w last (ms ++ n ∷ ns)) count
      (subst (λ (l : List Moment). HasTurned g all (k + 1 + length ns) v w last l) (append_assoc ms (n ∷ []) ns) (turned_on (k + 1) v x w (hart_after step after) last (ms ++ n ∷ []) ns one later))

no_turns : (g : Geometry) (m : ℕ) (w : State) (after : ℕ) → IsNextTurn (shown g.sets w) w.flights after None → TakesTurns g m w after [] w
no_turns g zero w after none = (refl, refl)
no_turns g (suc m) w after none = inl (none, refl, refl)

-- The steps made so far

-- nothing more comes of a list
pub rest_idle : (g : Geometry) (cs : List Choice) (w : State) (after : ℕ) → FollowsThen None g cs 0 w after [] w
rest_idle g [] w after = (refl, refl)
rest_idle g (c ∷ cs) w after = (refl, refl, tt)

pub rest_unchosen : (g : Geometry) (cs : List Choice) (w : State) (after : ℕ) → FollowsThen (Some []) g cs 0 w after [] w
rest_unchosen g [] w after = (refl, refl, inl refl)
rest_unchosen g (c ∷ cs) w after = (refl, refl, refl)

module _ (g : Geometry) (all : List Choice) (k : ℕ) (v w : State) (after : ℕ) (ms : List Moment) where
  -- so many steps and no more
  whole : (r : Option (List Choice)) → FollowsThen r g all (k + 0) v ((setting_of v).count - 1) (ms ++ []) w → FollowsThen r g all k v ((setting_of v).count - 1) ms w
  whole r follows =
      let count : k + 0 ≡ k = omega arith in
      subst₂ (λ (n : ℕ) (ns : List Moment). FollowsThen r g all n v ((setting_of v).count - 1) ns w) count (append-nil ms) follows

  -- of a list
  pub played : (b : Behind) → IsUnbegun b → HasMade g all k v w after ms → Plays g (course all b) k v ms w
  played Turns unbegun made = (whole None (made.goes_on None 0 [] w (rest_idle g (drop k all) w after)), leads g v w (entries_of ms) made.gives)
  played (Chance None) unbegun made = (([], whole (Some []) (made.goes_on (Some []) 0 [] w (rest_unchosen g (drop k all) w after))), leads g v w (entries_of ms) made.gives)
  played (Chance (Some chosen)) unbegun made = (
    subst (λ (cs : List Choice). FollowsThen (Some cs) g all k v ((setting_of v).count - 1) ms w) (sym unbegun)
        (whole (Some []) (made.goes_on (Some []) 0 [] w (rest_unchosen g (drop k all) w after))),
    leads g v w (entries_of ms) made.gives,
  )

  -- behind it, where n steps may be made: as many were, or nothing comes next
  module _ (n : ℕ) (within : k ≤ n) where
    all_of : (r : Option (List Choice)) → FollowsThen r g all (k + (n - k)) v ((setting_of v).count - 1) (ms ++ []) w → FollowsThen r g all n v ((setting_of v).count - 1) ms w
    all_of r follows =
        let count : k + (n - k) ≡ n = omega (arith, within) in
        subst₂ (λ (i : ℕ) (ns : List Moment). FollowsThen r g all i v ((setting_of v).count - 1) ns w) count (append-nil ms) follows

    of_chosen : (chosen : List Choice) → HasChosen g all chosen k v w after ms → ((n - k ≡ 0) ⊎ IsAtRest g w) → FollowsThen (Some chosen) g all n v ((setting_of v).count - 1) ms w
    of_chosen chosen gone over =
        subst (λ (cs : List Choice). FollowsThen (Some cs) g all n v ((setting_of v).count - 1) ms w) (append-nil chosen) (all_of (Some (chosen ++ [])) (gone.goes_on [] (n - k) [] w (refl, refl, over)))

    pub gone_idle : (b : Behind) → HasGone g all b k v w after ms → IsNoneNext g w after b → Plays g (course all b) n v ms w
    gone_idle Turns gone none = (all_of None (gone.goes_on (n - k) [] w (no_turns g (n - k) w after none)), leads g v w (entries_of ms) gone.gives)
    gone_idle (Chance None) (chosen, gone) rest = ((chosen, of_chosen chosen gone (inr rest)), leads g v w (entries_of ms) gone.gives)
    gone_idle (Chance (Some chosen)) gone rest = (of_chosen chosen gone (inr rest), leads g v w (entries_of ms) gone.gives)

    pub gone_whole : (b : Behind) → n ≤ k → HasGone g all b k v w after ms → Plays g (course all b) n v ms w
    gone_whole Turns few gone =
        let none : n - k ≡ 0 = omega (arith, few) in
        (all_of None (gone.goes_on (n - k) [] w (subst (λ (m : ℕ). TakesTurns g m w after [] w) (sym none) (refl, refl))), leads g v w (entries_of ms) gone.gives)
    gone_whole (Chance None) few (chosen, gone) = let none : n - k ≡ 0 = omega (arith, few) in ((chosen, of_chosen chosen gone (inl none)), leads g v w (entries_of ms) gone.gives)
    gone_whole (Chance (Some chosen)) few gone = let none : n - k ≡ 0 = omega (arith, few) in (of_chosen chosen gone (inl none), leads g v w (entries_of ms) gone.gives)

-- the choices of chance need not be told
pub forget : (g : Geometry) (all : List Choice) (b : Behind) (n : ℕ) (v : State) (ms : List Moment) (w : State) → Plays g (course all b) n v ms w → Plays g (course all (forgotten b)) n v ms w
forget g all Turns n v ms w plays = plays
forget g all (Chance None) n v ms w plays = plays
forget g all (Chance (Some chosen)) n v ms w (follows, carry) = ((chosen, follows), carry)

pub unbegun_still : (b : Behind) → IsUnbegun b → IsUnbegun (forgotten b)
unbegun_still Turns unbegun = tt
unbegun_still (Chance None) unbegun = tt
unbegun_still (Chance (Some chosen)) unbegun = tt
