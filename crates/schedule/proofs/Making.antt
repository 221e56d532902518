-- The choices of a list that have been made, and how a run goes on from them.
use Rattle.std.proofs.Common.{◌≡◌, ◌<◌, ◌+◌, ◌-◌, ◌++◌, ℕ, suc, List, [], ◌∷◌, length, drop, get_or, Option, Some, None, refl, sym, ap, ◌∙◌, append_assoc, arith, subst, add-one, drop-cons}
use Rattle.std.specs.Prelude.{option_to_list}
use Rattle.std.proofs.lemmas.List.{append-nil}
use Rattle.std.proofs.lemmas.List.Concat.{flat_map-append}
use Rattle.words.specs.declared.entry.Entry.{Entry}
use Rattle.words.specs.declared.entry.Step.{Step}
use Rattle.protocol.specs.Caches.{Geometry}
use Rattle.protocol.proofs.Splits.{runs_then}
use Rattle.isolation.specs.Reasons.{LeadOn}
use Rattle.isolation.proofs.Leading.{run_leads_on}
use Rattle.machine.specs.States.{State, setting_of, shown}
use Rattle.machine.proofs.Made.{steps_of}
use Rattle.schedule.specs.declared.choices.Choice.{Choice}
use Rattle.schedule.specs.Begun.{GivesAll, HasMade}
use Rattle.schedule.specs.Moments.{Moment, moments, entries_of}
use Rattle.schedule.specs.Runs.{Makes, last_after, FollowsThen}
use Rattle.schedule.specs.Steps.{IsStepOf}

pub leads : (g : Geometry) (v w : State) (es : List Entry) → GivesAll g v es w → LeadOn g (shown g.sets v) es (shown g.sets w)
leads g v w es (steps, runs) = run_leads_on g (shown g.sets v) (shown g.sets w) steps es runs

pub gives_both : (g : Geometry) (v u w : State) (es fs : List Entry) → GivesAll g v es u → GivesAll g u fs w → GivesAll g v (es ++ fs) w
gives_both g v u w es fs (steps, first) (more, later) = (steps ++ more, runs_then g (shown g.sets v) (shown g.sets u) (shown g.sets w) steps more es fs first later)

gives_made : (g : Geometry) (v w : State) (step : Option Step) (e : Option Entry) → Makes g v step e w → GivesAll g v (option_to_list e) w
gives_made g v w None e (none, same) = ([], (ap option_to_list none, ap (shown g.sets) same))
gives_made g v w (Some s) e made = (s ∷ [], (shown g.sets w, e, [], steps_of g v s e w made, (refl, refl), sym (append-nil (option_to_list e))))

-- the entries of some moments and of others
pub entries_both : (ms ns : List Moment) → entries_of (ms ++ ns) ≡ entries_of ms ++ entries_of ns
entries_both ms ns = flat_map-append (λ (m : Moment). option_to_list m.entry) ms ns

-- that of a step
pub entries_one : (g : Geometry) (v w : State) (step : Option Step) (e : Option Entry) → Makes g v step e w → option_to_list e ≡ entries_of (moments v step e w)
entries_one g v w None e (none, same) = ap option_to_list none
entries_one g v w (Some step) e made = sym (append-nil (option_to_list e))

pub made_none : (g : Geometry) (all : List Choice) (v : State) → HasMade g all 0 v v ((setting_of v).count - 1) []
made_none g all v = record {
  goes_on = λ r m more z follows. let count : m ≡ 0 + m = omega arith in subst (λ (n : ℕ). FollowsThen r g all n v ((setting_of v).count - 1) more z) count follows;
  gives = ([], (refl, refl));
}

-- the entries of one more step
pub gives_more : (g : Geometry) (v u w : State) (ms : List Moment) (step : Option Step) (e : Option Entry) → GivesAll g v (entries_of ms) u → Makes g u step e w → GivesAll g v (entries_of (ms ++ moments u step e w)) w
gives_more g v u w ms step e before made =
    let all_entries : entries_of ms ++ option_to_list e ≡ entries_of (ms ++ moments u step e w) =
    ap (λ (es : List Entry). entries_of ms ++ es) (entries_one g u w step e made) ∙ sym (entries_both ms (moments u step e w)) in
    subst (λ (es : List Entry). GivesAll g v es w) all_entries (gives_both g v u w (entries_of ms) (option_to_list e) before (gives_made g u w step e made))

-- one more choice
pub made_choice : (g : Geometry) (all : List Choice) (k : ℕ) (v u w : State) (after : ℕ) (ms : List Moment) (c : Choice) (step : Option Step) (e : Option Entry) → k < length all → c ≡ get_or all k c
    → HasMade g all k v u after ms → IsStepOf g.sets u after c step → Makes g u step e w → HasMade g all (k + 1) v w (last_after step after) (ms ++ moments u step e w)
made_choice g all k v u w after ms c step e inside is before chosen made =
    let here : drop k all ≡ c ∷ drop (k + 1) all = rw (add-one, drop-cons all k c) (ap (λ d. d ∷ drop (suc k) all) (sym is)) in
    record {
      goes_on = λ r m more z follows.
          let count : k + suc m ≡ k + 1 + m = omega arith in
          subst (λ (n : ℕ). FollowsThen r g all n v ((setting_of v).count - 1) ((ms ++ moments u step e w) ++ more) z) count
          (subst (λ (ns : List Moment). FollowsThen r g all (k + suc m) v ((setting_of v).count - 1) ns z) (sym (append_assoc ms (moments u step e w) more))
          (before.goes_on r (suc m) (moments u step e w ++ more) z
          (subst (λ (cs : List Choice). FollowsThen r g cs (suc m) u after (moments u step e w ++ more) z) (sym here) (step, e, w, more, chosen, made, follows, refl))));
      gives = gives_more g v u w ms step e before.gives made;
    }
