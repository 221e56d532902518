-- What is told by a search that found all ends.
use Rattle.std.proofs.Common.{◌≡◌, ◌≢◌, ◌<◌, ℕ, Bool, true, false, List, refl, sym, subst, arith}
use Rattle.std.specs.List.{Contains}
use Rattle.words.specs.Sinks.{TookAll}
use Rattle.words.specs.declared.cause.Status.TheVariants.{Running}
use Rattle.words.specs.declared.entry.Entry.{Entry}
use Rattle.words.specs.declared.entry.Step.{Step}
use Rattle.flat.specs.State.{Flat}
use Rattle.flat.specs.Steps.{IsRun}
use Rattle.protocol.specs.Caches.{Geometry}
use Rattle.protocol.specs.Machine.{Machine, Runs}
use Rattle.protocol.specs.Start.{start}
use Rattle.isolation.specs.Belongs.{Belongs}
use Rattle.loader.specs.Programs.{Program}
use Rattle.render.specs.Reports.{report_of}
use Rattle.isolation.specs.Moves.{Place}
use Rattle.isolation.specs.Walks.{IsEnded, entries_of}
use Rattle.isolation.proofs.Walked.{order_walks, walk_runs}
use Rattle.outcomes.specs.Searches.{booted_place, Finds}
use Rattle.outcomes.specs.declared.gathering.End.{End}
use Rattle.outcomes.specs.Ends.{AreEndsOf, reports_of}
use Rattle.requests.specs.EndTexts.{ends_text}
use Rattle.outcomes.proofs.Told.{told, reached, lists_one}
use Rattle.command_line.specs.declared.request.Search.{Search}
use Rattle.requests.specs.Ends.{search_start, search_place, search_status, states_told, AreEndsGiven}
use Rattle.requests.specs.Runs.{addresses}
use Rattle.requests.specs.Outputs.{Sinks}
use Rattle.requests.specs.Sources.{IsProgramIn}
use Rattle.requests.proofs.Determined.{one_in_file}

-- only a search that found all ends has the status 0
all_of_zero : (all : Bool) → 0 ≡ search_status all → all ≡ true
all_of_zero true e = refl
all_of_zero false e = absurd (omega (arith, e))

pub all_told : (asked : Search) (file : List ℕ) (before after : Sinks) → AreEndsGiven asked file before after 0
    → (p : Program) × IsProgramIn asked.file.now file p × ((ends : List End) × (states : ℕ) × TookAll before.output after.output (ends_text ends states true)
    × ((g : Geometry) (steps : List Step) (es : List Entry) (w : Machine) (f : Flat) →
    Runs g (start (search_start asked p).setting p.entry) steps es w → ((i : ℕ) → i < asked.harts → (w.harts i).status ≢ Running) → Belongs g f w →
    Contains (reports_of ends) (report_of f (addresses asked.words.items))))
all_told asked file before after given =
    let o = given.0 in
    let ends = given.2.0 in
    let searched = given.1 in
    let p = searched.program in
    let all : o.is_all ≡ true = all_of_zero o.is_all given.2.2 in (
      p,
      searched.can.holds,
      (
        ends,
        states_told asked o,
        subst (λ (b : Bool). TookAll before.output after.output (ends_text ends (states_told asked o) b)) all given.2.3,
        λ g steps es w f runs stopped belongs.
            told g (search_start asked p).setting p.entry steps es w searched.can.bytes runs stopped asked.states o (addresses asked.words.items) ends searched.found all given.2.1 f belongs,
      ),
    )

pub told_reached : (asked : Search) (file : List ℕ) (before after : Sinks) (status : ℕ) → AreEndsGiven asked file before after status
    → (p : Program) × IsProgramIn asked.file.now file p × ((ends : List End) × (states : ℕ) × (all : Bool) × TookAll before.output after.output (ends_text ends states all)
    × ((report : List ℕ) → Contains (reports_of ends) report →
    (f : Flat) × (es : List Entry) × IsRun (search_start asked p) es f × IsEnded f × (report ≡ report_of f (addresses asked.words.items))))
told_reached asked file before after status given =
    let o = given.0 in
    let ends = given.2.0 in
    let searched = given.1 in
    let p = searched.program in (
      p,
      searched.can.holds,
      (
        ends,
        states_told asked o,
        o.is_all,
        given.2.3,
        λ report there.
            let e = reached (search_place asked p) asked.states o (addresses asked.words.items) ends searched.found given.2.1 report there in
            (e.1.flat, entries_of e.0, walk_runs (search_place asked p) e.1 e.0 (order_walks (search_place asked p) e.1 e.0 e.2), e.3, sym e.4),
      ),
    )

pub told_one : (asked again : Search) (file : List ℕ) (before after earlier later : Sinks) → AreEndsGiven asked file before after 0 → AreEndsGiven again file earlier later 0
    → again.file.now ≡ asked.file.now → again.harts ≡ asked.harts → again.memory ≡ asked.memory → addresses again.words.items ≡ addresses asked.words.items
    → (ends others : List End) × (n m : ℕ) × TookAll before.output after.output (ends_text ends n true) × TookAll earlier.output later.output (ends_text others m true)
    × (reports_of ends ≡ reports_of others)
told_one asked again file before after earlier later given other path harts memory words =
    let o = given.0 in
    let ends = given.2.0 in
    let s = given.1 in
    let r = other.0 in
    let others = other.2.0 in
    let t = other.1 in
    let all : o.is_all ≡ true = all_of_zero o.is_all given.2.2 in
    let whole : r.is_all ≡ true = all_of_zero r.is_all other.2.2 in
    let same : t.program ≡ s.program =
    one_in_file asked.file.now file s.program t.program s.can.holds (subst (λ (name : List ℕ). IsProgramIn name file t.program) path t.can.holds) in
    let first : search_place again t.program ≡ search_place asked s.program = λ k. booted_place (same k).segments (same k).entry (harts k) (memory k) in (
      ends,
      others,
      states_told asked o,
      states_told again r,
      subst (λ (b : Bool). TookAll before.output after.output (ends_text ends (states_told asked o) b)) all given.2.3,
      subst (λ (b : Bool). TookAll earlier.output later.output (ends_text others (states_told again r) b)) whole other.2.3,
      lists_one (search_place asked s.program) asked.states again.states o r (addresses asked.words.items) ends others s.found
          (subst (λ (p : Place). Finds p again.states r) first t.found) all whole given.2.1 (subst (λ (ws : List ℕ). AreEndsOf r ws others) words other.2.1),
    )
