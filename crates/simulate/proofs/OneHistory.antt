-- One history of a run in threads makes one report.
use Rattle.std.proofs.Common.{◌≡◌, ◌++◌, ◌∙◌, ℕ, List, [], length, Option, Some, sym, ap, subst}
use Rattle.std.specs.Option.{option_map}
use Rattle.std.proofs.lemmas.Option.{same_Some}
use Rattle.std.specs.Borrow.{Bor}
use Rattle.words.specs.Sinks.{SinkState, TookAll}
use Rattle.protocol.specs.Caches.{Geometry}
use Rattle.command_line.specs.declared.request.Run.{Run}
use Rattle.command_line.specs.declared.request.Show.TheVariants.{Report}
use Rattle.schedule.specs.Courses.{Turns}
use Rattle.requests.specs.Outputs.{Texts, Sinks}
use Rattle.requests.specs.Schedules.{HasSteps}
use Rattle.simulate.specs.Given.{AreTextsOf, IsGiven}
use Rattle.simulate.specs.Threaded.{IsGivenInThreads, with_steps}
use Rattle.simulate.proofs.OneReport.{one_list, texts_once}

-- an empty file has what it took
pub whole_list : (before after : SinkState) (list history : List ℕ) → before.taken ≡ Some [] → after.taken ≡ Some history → TookAll before after list → list ≡ history
whole_list before after list history empty all took =
    let is : Some history ≡ Some list = sym all ∙ (took.whole ∙ ap (λ (taken : Option (List ℕ)). option_map (λ bytes. bytes ++ list) taken) empty) in
    sym (same_Some history list is)

pub one_count : (list : List ℕ) (n m : ℕ) → HasSteps list n → HasSteps list m → n ≡ m
one_count list n m (cs, are, count) (ds, too, other) = sym count ∙ (ap length (one_list cs ds (are.1 ∙ sym too.1)) ∙ other)

pub threaded_once : (g : Geometry) (run : Run) (path : Bor (List ℕ)) (file history : List ℕ) (before after earlier later : Sinks) (status other : ℕ)
    → before.file.taken ≡ Some [] → after.file.taken ≡ Some history → earlier.file.taken ≡ Some [] → later.file.taken ≡ Some history
    → IsGivenInThreads g run (Some path) file before after status → IsGivenInThreads g run (Some path) file earlier later other
    → (other ≡ status) × ((report : List ℕ) × TookAll before.output after.output report × TookAll earlier.output later.output report)
threaded_once g run path file history before after earlier later status other empty all empty_too all_too (reported, (list, n, counted, texts, are, turns, took, kept)) (reported_too, (list_too, m, counted_too, texts_too, are_too, turns_too, took_too, kept_too)) =
    let one : list ≡ history = whole_list before.file after.file list history empty all kept in
    let two : list_too ≡ history = whole_list earlier.file later.file list_too history empty_too all_too kept_too in
    let same : list_too ≡ list = two ∙ sym one in
    let steps : m ≡ n = one_count list m n (subst (λ (l : List ℕ). HasSteps l m) same counted_too) counted in
    let again : AreTextsOf g (with_steps run n) Turns Report file list texts_too other =
    subst (λ (k : ℕ). AreTextsOf g (with_steps run k) Turns Report file list texts_too other) steps
    (subst (λ (l : List ℕ). AreTextsOf g (with_steps run m) Turns Report file l texts_too other) same are_too) in
    let once = texts_once g (with_steps run n) Turns Report file list tt texts texts_too status other are again in
    (once.0, (texts.output, took, subst (λ (t : Texts). TookAll earlier.output later.output t.output) once.1 took_too))

-- the texts of a run in threads are those of as many steps by the history that it has written
pub threaded_texts : (g : Geometry) (run : Run) (path : Bor (List ℕ)) (file history : List ℕ) (n : ℕ) (before after : Sinks) (status : ℕ)
    → before.file.taken ≡ Some [] → after.file.taken ≡ Some history → HasSteps history n → IsGivenInThreads g run (Some path) file before after status
    → (texts : Texts) × AreTextsOf g (with_steps run n) Turns Report file history texts status × TookAll before.output after.output texts.output
threaded_texts g run path file history n before after status empty all counted (reported, (list, m, counted_too, texts, are, turns, took, kept)) =
    let same : list ≡ history = whole_list before.file after.file list history empty all kept in
    let steps : m ≡ n = one_count history m n (subst (λ (l : List ℕ). HasSteps l m) same counted_too) counted in (
      texts,
      subst (λ (k : ℕ). AreTextsOf g (with_steps run k) Turns Report file history texts status) steps
          (subst (λ (l : List ℕ). AreTextsOf g (with_steps run m) Turns Report file l texts status) same are),
      took,
    )

-- so a run by that history as a schedule, with as many steps as it has, makes the same report
pub replayed_once : (g : Geometry) (run : Run) (path : Bor (List ℕ)) (file history : List ℕ) (n : ℕ) (before after earlier later : Sinks) (status other : ℕ)
    → before.file.taken ≡ Some [] → after.file.taken ≡ Some history → HasSteps history n
    → IsGivenInThreads g run (Some path) file before after status → IsGiven g (with_steps run n) Turns Report file history earlier later other
    → (other ≡ status) × ((report : List ℕ) × TookAll before.output after.output report × TookAll earlier.output later.output report)
replayed_once g run path file history n before after earlier later status other empty all counted given (reported_too, (texts_too, are_too, took_too)) =
    let one = threaded_texts g run path file history n before after status empty all counted given in
    let once = texts_once g (with_steps run n) Turns Report file history tt one.0 texts_too status other one.1 are_too in
    (once.0, (one.0.output, one.2, subst (λ (t : Texts). TookAll earlier.output later.output t.output) once.1 took_too.output))
