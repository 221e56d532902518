-- A run to an end that is asked for.
use Rattle.std.proofs.Common.{◌≡◌, ◌<◌, ℕ, zero, suc, List, [], ◌∷◌, Option, Some, Result, Ok, Err, MatchResult, inr, length, sym, subst}
use Rattle.std.specs.Prelude.{slice_get}
use Rattle.std.specs.List.{Contains}
use Rattle.std.proofs.lemmas.Option.{slice_get_within}
use Rattle.words.specs.Sinks.{SinkState}
use Rattle.outcomes.specs.declared.breadth_first.Outcomes.{Outcomes}
use Rattle.outcomes.specs.declared.gathering.End.{End}
use Rattle.outcomes.specs.Ends.{AreEndsOf}
use Rattle.outcomes.proofs.Members.{at_head, in_tail}
use Rattle.command_line.specs.declared.request.Witness.{Witness}
use Rattle.requests.specs.Ends.{end_numbered, IsRunPut, IsRunUnput, IsWitnessed, IsUnwitnessed}
use Rattle.requests.specs.declared.fault.Fault.{Fault}

-- what stands at a place of a list is in it
there : (ends : List End) (k : ℕ) (e : End) → slice_get ends k ≡ Some e → Contains ends e
there [] k e is = cc
there (x ∷ xs) zero e is = let same : x ≡ e = cc in subst (Contains (x ∷ xs)) same (at_head x xs)
there (x ∷ xs) (suc k) e is = in_tail x xs e (there xs k e is)

-- an end with a number is one of the ends
numbered_there : (ends : List End) (n : ℕ) (e : End) → end_numbered ends n ≡ Some e → Contains ends e
numbered_there ends zero e is = cc
numbered_there ends (suc k) e is = there ends k e is

-- and its place is one of the search's
pub place_within : (o : Outcomes) (words : List ℕ) (ends : List End) (n : ℕ) (e : End) → AreEndsOf o words ends → end_numbered ends n ≡ Some e → e.place < length o.states.keys
place_within o words ends n e are is =
    let end = (are.reached e (numbered_there ends n e is)).end in
    slice_get_within o.states.keys e.place end.state end.stands

module _ (o : Outcomes) (ends : List End) (before after : SinkState) (asked : Option Witness) (w : Witness) (e : End) (is : asked ≡ Some w) (at : end_numbered ends w.outcome ≡ Some e) where
  -- a run to the end that is asked for was put, or it was not
  pub witnessed : (r : Result Unit Fault) → MatchResult r (λ done. IsRunPut o e.place before after) (IsRunUnput o e.place w.path before after)
      → MatchResult r (λ done. IsWitnessed o ends before after asked) (IsUnwitnessed o ends before after asked)
  witnessed (Ok done) put = subst (IsWitnessed o ends before after) (sym is) (e, at, put)
  witnessed (Err why) unput = subst (λ (a : Option Witness). IsUnwitnessed o ends before after a why) (sym is) (inr (e, at, unput))
