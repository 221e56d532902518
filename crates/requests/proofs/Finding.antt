-- What a search has found, and what is put of it.
use Rattle.std.proofs.Common.{◌≡◌, Bool, List, ℕ, inr, subst}
use Rattle.std.specs.Prelude.{Result, Ok, Err, MatchResult}
use Rattle.words.specs.Sinks.{SinkState, TookAll, TookPart}
use Rattle.outcomes.specs.declared.gathering.End.{End}
use Rattle.outcomes.specs.Ends.{AreEndsOf}
use Rattle.requests.specs.EndTexts.{ends_text}
use Rattle.outcomes.specs.declared.breadth_first.Outcomes.{Outcomes}
use Rattle.command_line.specs.declared.request.Search.{Search}
use Rattle.requests.specs.Ends.{IsSearched, AreEndsGiven, AreEndsNotGiven, AreEndsTold, AreEndsUntold}
use Rattle.requests.specs.Outputs.{Sinks}
use Rattle.requests.specs.Runs.{addresses}
use Rattle.requests.specs.declared.fault.Fault.{Fault}

-- the ends of a search, with the words that are asked for
pub ends_with : (asked : Search) (o : Outcomes) (words addrs : List ℕ) (ends : List End) → words ≡ addrs → addrs ≡ addresses asked.words.items
    → AreEndsOf o words ends → AreEndsOf o (addresses asked.words.items) ends
ends_with asked o words addrs ends same is are = subst (λ ws. AreEndsOf o ws ends) is (subst (λ ws. AreEndsOf o ws ends) same are)

-- what is put of a search that was made is what comes of the request
pub ends_given : (asked : Search) (file : List ℕ) (before after : Sinks) (o : Outcomes) (r : Result ℕ Fault) → IsSearched asked file o
    → MatchResult r (AreEndsTold asked o before after) (AreEndsUntold asked o before after) → MatchResult r (AreEndsGiven asked file before after) (AreEndsNotGiven asked file before after)
ends_given asked file before after o (Ok status) is told = (o, is, told)
ends_given asked file before after o (Err why) is untold = inr (o, is, untold)

-- the text of the ends, by other names for them and for the number of states
module _ (before after : SinkState) (given ends : List End) (told states : ℕ) (all : Bool) (same : given ≡ ends) (count : told ≡ states) where
  pub took_ends : TookAll before after (ends_text given told all) → TookAll before after (ends_text ends states all)
  took_ends took = subst (λ es. TookAll before after (ends_text es states all)) same (subst (λ n. TookAll before after (ends_text given n all)) count took)

  pub took_some_ends : TookPart before after (ends_text given told all) → TookPart before after (ends_text ends states all)
  took_some_ends took = subst (λ es. TookPart before after (ends_text es states all)) same (subst (λ n. TookPart before after (ends_text given n all)) count took)
