-- Two sessions of one request, one file and one input tell one text.
use Rattle.std.proofs.Common.{◌≡◌, ◌∙◌, ℕ, Option, Some, List, Result, Ok, Err, refl, sym, subst}
use Rattle.words.specs.Sinks.{SinkState, TookAll}
use Rattle.loader.specs.Programs.{Program}
use Rattle.protocol.specs.Caches.{Geometry}
use Rattle.machine.specs.States.{State}
use Rattle.machine.specs.Twins.{AreTwins}
use Rattle.machine.proofs.Twins.{twins_first}
use Rattle.command_line.specs.declared.request.Setup.{Setup}
use Rattle.debugger.specs.declared.fault.ConsoleFault.{ConsoleFault}
use Rattle.debugger.specs.Debugging.{IsDebugged}
use Rattle.debugger.specs.Plays.{Giving}
use Rattle.debugger.specs.Sure.{AreKnown, answers_surely}
use Rattle.debugger.proofs.OneSession.{debugged_once}
use Rattle.requests.specs.Sources.{names_in}
use Rattle.requests.specs.Starts.{IsFirstOf, IsStartOf}
use Rattle.requests.proofs.Determined.{one_in_file}
use Rattle.simulate.specs.Debugging.{IsPlayedByHand, TellsEnd}

-- the machines that they begin in are twins
starts_once : (g : Geometry) (setup : Setup) (file : List ℕ) (v w : State) → IsStartOf g setup file v → IsStartOf g setup file w → AreTwins g v w
starts_once g setup file v w one other =
    let same : other.program ≡ one.program = one_in_file setup.file.now file one.program other.program one.holds other.holds in
    let first = subst (λ (p : Program). IsFirstOf g p setup w) same other.first in
    twins_first g v w (one.first.begins ∙ sym first.begins) one.first.unused first.unused

-- with status 0 a session has come to its end
came_to_end : (end : Result Unit ConsoleFault) (asked after : SinkState) → TellsEnd end asked after 0 → (end ≡ Ok tt) × (after ≡ asked)
came_to_end (Ok tt) asked after told = (refl, told.0)
came_to_end (Err fault) asked after told = absurd (let e : 0 ≡ 3 = told.1 in cc)

pub by_hand_once : (g : Geometry) (I : Type 0) (gives : Giving I) (bytes : I → Option (List ℕ)) (setup : Setup) (file prompt lines : List ℕ) (i j k l : I)
    (told_before told_after asked_before asked_after told_earlier told_later asked_earlier asked_later : SinkState) → AreKnown gives bytes → bytes i ≡ Some lines → bytes k ≡ Some lines
    → IsPlayedByHand answers_surely g gives setup file prompt i j told_before told_after asked_before asked_after 0
    → IsPlayedByHand answers_surely g gives setup file prompt k l told_earlier told_later asked_earlier asked_later 0
    → ((text : List ℕ) × TookAll told_before told_after text × TookAll told_earlier told_later text) × ((asked : List ℕ) × TookAll asked_before asked_after asked × TookAll asked_earlier asked_later asked)
by_hand_once g I gives bytes setup file prompt lines i j k l told_before told_after asked_before asked_after told_earlier told_later asked_earlier asked_later known left left_too one other =
    let names = names_in setup.file.now file in
    let end = came_to_end one.end one.asked asked_after one.told in
    let end_too = came_to_end other.end other.asked asked_later other.told in
    let played : IsDebugged (answers_surely g names) names gives one.first prompt i j told_before told_after asked_before asked_after (Ok tt) =
    subst (λ (r : Result Unit ConsoleFault). IsDebugged (answers_surely g names) names gives one.first prompt i j told_before told_after asked_before asked_after r) end.0
    (subst (λ (s : SinkState). IsDebugged (answers_surely g names) names gives one.first prompt i j told_before told_after asked_before s one.end) (sym end.1) one.played) in
    let played_too : IsDebugged (answers_surely g names) names gives other.first prompt k l told_earlier told_later asked_earlier asked_later (Ok tt) =
    subst (λ (r : Result Unit ConsoleFault). IsDebugged (answers_surely g names) names gives other.first prompt k l told_earlier told_later asked_earlier asked_later r) end_too.0
    (subst (λ (s : SinkState). IsDebugged (answers_surely g names) names gives other.first prompt k l told_earlier told_later asked_earlier s other.end) (sym end_too.1) other.played) in
    debugged_once g names I gives bytes prompt lines one.first other.first i j k l told_before told_after told_earlier told_later asked_before asked_after asked_earlier asked_later known
    (starts_once g setup file one.first other.first one.starts other.starts) left left_too played played_too
