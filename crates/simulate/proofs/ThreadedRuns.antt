-- A run in threads, from what its parts came to.
use Rattle.std.proofs.Common.{◌≡◌, ◌≤◌, ◌<◌, ◌⊎◌, ◌++◌, ℕ, zero, suc, ◌∷◌, All, Bool, true, false, cond, arith, List, [], Option, Some, None, Result, Ok, Err, MatchResult, inl, inr, refl, sym, subst, ap, ◌∙◌, length, append-nil}
use Rattle.std.proofs.lemmas.Bool.Decides.{nat_tests}
use Rattle.std.specs.Borrow.{Bor}
use Rattle.std.specs.Prelude.{slice_get}
use Rattle.std.specs.Option.{option_map, option_map_or}
use Rattle.std.proofs.lemmas.Option.{same_Some}
use Rattle.std.specs.Str.{IsUtf8}
use Rattle.words.specs.Limits.{most_harts}
use Rattle.words.specs.Sinks.{SinkState, TookAll, TookPart}
use Rattle.words.specs.declared.entry.Entry.{Entry}
use Rattle.table.specs.Program.{Segment}
use Rattle.loader.specs.Programs.{Program}
use Rattle.texts.proofs.Putting.{took-nothing}
use Rattle.command_line.specs.declared.request.Run.{Run}
use Rattle.command_line.specs.declared.request.Show.TheVariants.{Report}
use Rattle.command_line.specs.declared.request.Word.{Word as Asked}
use Rattle.flat.specs.Boots.{boot_fault, is_size, is_count, fits_below}
use Rattle.flat.specs.declared.boot_fault.BootFault.TheVariants as boot
use Rattle.flat.specs.State.{Setting, Flat, idle}
use Rattle.flat.specs.Steps.{IsRun}
use Rattle.flat.proofs.Runs.{run_setting}
use Rattle.isolation.specs.Belongs.{Belongs}
use Rattle.isolation.proofs.Belongs.Belonging.{inv_of}
use Rattle.isolation.specs.Reasons.{HaveReasons}
use Rattle.protocol.specs.Caches.{Geometry}
use Rattle.protocol.specs.Machine.{Machine}
use Rattle.protocol.specs.Start.{start, first_hart}
use Rattle.hart.specs.Shown.{shown_hart}
use Rattle.machine.specs.States.{Seat, State, setting_of, shown, hart_at}
use Rattle.board.specs.Histories.{first_flat, Told, IsCourse}
use Rattle.board.specs.Turns.{AreOfTurns, IsLeft, IsServedEnd}
use Rattle.schedule.specs.declared.choices.Choice.{Choice}
use Rattle.schedule.specs.Lines.{lines_of, AreSpelledBy}
use Rattle.schedule.specs.Written.{text_of, IsReadable}
use Rattle.schedule.proofs.Readable.{all_readable}
use Rattle.requests.specs.Conclusions.{IsConcluded, IsHalfConcluded, IsHalfPut}
use Rattle.schedule.specs.Courses.{Turns}
use Rattle.simulate.specs.Given.{AreTextsOf}
use Rattle.render.specs.Reports.{AllReadable, report_of}
use Rattle.requests.specs.Runs.{addresses, ComesBy}
use Rattle.requests.specs.Schedules.{AreChosenBy, HasSteps}
use Rattle.requests.specs.Outputs.{Sinks, Texts}
use Rattle.requests.specs.Sources.{IsProgramIn, IsProgramFault}
use Rattle.requests.specs.Starts.{flat_start}
use Rattle.render.specs.Statuses.{IsStatusOf}
use Rattle.simulate.specs.Threaded.{IsReady, IsUnready, IsGivenInThreads, IsNotGivenInThreads, StillRuns, history_text, with_steps}
use Rattle.requests.specs.Unreadable.{IsFirstUnreadable, IsUnreadable}
use Rattle.requests.specs.declared.fault.Fault.{Fault}
use Rattle.requests.specs.declared.fault.Fault.TheVariants.{NoMemory, Exchanged}
use Rattle.requests.proofs.Performing.{same_setting}

-- ---- the program before the first turn

-- the words that were looked for before the first turn
module _ (run : Run) (p : Program) (g : Geometry) (v m : State) (boots : boot_fault p.segments run.setup.harts run.setup.memory ≡ None) (starts : shown g.sets v ≡ start (flat_start p run.setup).setting p.entry) (same : m ≡ v)
    (words : List Asked) (as_given : words ≡ run.words.items) where
  setting : setting_of m ≡ (flat_start p run.setup).setting
  setting = ap setting_of same ∙ ap (λ (w : Machine). w.setting) starts

  pub unreadable : (fault : Fault) → IsUnreadable (setting_of m) words fault → IsUnready run p fault
  unreadable fault (inl (k, w, first, is)) = inr (inl (
    k,
    w,
    boots,
    subst (λ (ws : List Asked). IsFirstUnreadable (flat_start p run.setup).setting ws k w) as_given (subst (λ (s : Setting). IsFirstUnreadable s words k w) setting first),
    is,
  ))
  unreadable fault (inr memory) = inr (inr memory)

  pub all_ready : (addrs : List ℕ) → addrs ≡ addresses words → AllReadable (setting_of m) (addresses words) → IsReady run p addrs
  all_ready addrs found all = record {
    boots = boots;
    same = found ∙ ap addresses as_given;
    readable = subst (λ (ws : List Asked). AllReadable (flat_start p run.setup).setting (addresses ws)) as_given (subst (λ (s : Setting). AllReadable s (addresses words)) setting all);
  }

-- no more harts than a machine may have
pub few_harts : (segments : List Segment) (n size : ℕ) → boot_fault segments n size ≡ None → n ≤ most_harts
few_harts segments n size boots = few (passed (is_size size) (is_count n) (fits_below size n segments) boots)
  where
    passed : (a b c : Bool) → cond a (cond b (cond c None (Some boot.DoesNotFit)) (Some boot.BadHarts)) (Some boot.BadSize) ≡ None → b ≡ true
    passed true true c e = refl
    passed true false c e = cc
    passed false b c e = cc

    few : is_count n ≡ true → n ≤ most_harts
    few is = grind (arith, nat_tests)

-- a board that is the program's
pub end_same : (g : Geometry) (p q : Program) (n k size bytes : ℕ) (tells : Told → Type 0) (most : ℕ) (m : State) → q ≡ p → k ≡ n → bytes ≡ size → IsServedEnd g q k bytes tells most m
    → IsServedEnd g p n size tells most m
end_same g p q n k size bytes tells most m program harts memory end = rw (← program, ← harts, ← memory) end

-- one that isn't
pub not_same : {A : Type 0} (is : A → Type 0) (r : Result A Fault) → MatchResult r is (λ s. s ≡ Exchanged) → MatchResult r is (λ s. (s ≡ NoMemory) ⊎ (s ≡ Exchanged))
not_same is (Ok x) has = has
not_same is (Err s) has = inr has

-- ---- the run that was made

-- choices have led to this machine, by whole turns, and their entries are a run of the flat machine
pub record IsEndBy (g : Geometry) (p : Program) (n size most : ℕ) (choices : List Choice) (m : State) : Type 0 where
  pub entries : List Entry
  pub course : IsCourse g p n size choices entries m
  pub turns : AreOfTurns g most (IsLeft m) course.first choices m
  pub flat : Flat
  pub runs : IsRun (first_flat p n size) entries flat
  pub reasons : HaveReasons (first_flat p n size) entries
  pub belongs : Belongs g flat (shown g.sets m)

pub end_by : (g : Geometry) (p : Program) (n size : ℕ) (tells : Told → Type 0) (most turns : ℕ) (m : State) → turns ≡ most → (e : IsServedEnd g p n size tells turns m) → IsEndBy g p n size most e.choices m
end_by g p n size tells most turns m same e = record {
  entries = e.entries;
  course = e.course;
  turns = subst (λ k. AreOfTurns g k (IsLeft m) e.course.first e.choices m) same e.turns;
  flat = e.flat;
  runs = e.runs;
  reasons = e.reasons;
  belongs = e.belongs;
}

-- the same of choices that are known
pub end_known : (g : Geometry) (p : Program) (n size most turns : ℕ) (choices : List Choice) (m : State) → turns ≡ most → IsServedEnd g p n size (λ told. told.choices ≡ Some choices) turns m → IsEndBy g p n size most choices m
end_known g p n size most turns choices m same e =
    subst (λ (cs : List Choice). IsEndBy g p n size most cs m) (same_Some e.choices choices e.told) (end_by g p n size (λ told. told.choices ≡ Some choices) most turns m same e)

-- words that can be read in the first state can be read in the machine that its harts come to
readable_at_end : (g : Geometry) (p : Program) (n size most : ℕ) (choices : List Choice) (m : State) (words : List ℕ) → IsEndBy g p n size most choices m → AllReadable (first_flat p n size).setting words → AllReadable (setting_of m) words
readable_at_end g p n size most choices m words e all =
    let same : (first_flat p n size).setting ≡ setting_of m = sym (run_setting (first_flat p n size) e.flat e.entries e.runs) ∙ same_setting g e.flat m e.belongs in
    subst (λ (s : Setting). AllReadable s words) same all

seat_at : {A : Type 0} (xs : List A) (i : ℕ) → i < length xs → (x : A) × (slice_get xs i ≡ Some x)
seat_at [] i less = absurd (omega (arith, less))
seat_at (x ∷ xs) zero less = (x, refl)
seat_at (x ∷ xs) (suc i) less = let lt : i < length xs = omega (arith, less) in seat_at xs i lt

-- a hart that still runs in the flat state runs in the machine
still_left : (g : Geometry) (f : Flat) (m : State) (i : ℕ) → Belongs g f (shown g.sets m) → f.setting.count ≤ most_harts → StillRuns f i → IsLeft m i
still_left g f m i b few (inside, running) =
    let within : i < length m.seats = subst (λ (s : Setting). i < s.count) (same_setting g f m b) inside in
    let at = seat_at m.seats i within in
    let here : (hart_at g.sets m.seats i).status ≡ at.0.hart.status = ap (λ (o : Option Seat). (option_map_or (λ s. shown_hart g.sets s.output s.hart) o (first_hart idle)).status) at.1 in
    let looks : (f.hart i).status ≡ (hart_at g.sets m.seats i).status = ((inv_of g f (shown g.sets m) b).1.harts i).status in
    (omega (arith, inside, few), (at.0.hart, ap (option_map (λ (s : Seat). s.hart)) at.1, sym here ∙ (sym looks ∙ running)))

-- the harts have come to this machine, by choices which the text of the history spells
pub record IsComeTo (g : Geometry) (run : Run) (p : Program) (choices : List Choice) (m : State) (addrs : List ℕ) : Type 0 where
  pub end : IsEndBy g p run.setup.harts run.setup.memory run.steps choices m
  pub chosen : AreChosenBy (text_of choices) choices
  pub same : addrs ≡ addresses run.words.items
  pub readable : AllReadable (setting_of m) addrs

pub come_to : (g : Geometry) (run : Run) (p : Program) (choices : List Choice) (m : State) (addrs : List ℕ) → IsReady run p addrs → IsEndBy g p run.setup.harts run.setup.memory run.steps choices m
    → ((cs : List Choice) → All IsReadable cs → IsUtf8 (text_of cs)) → ((cs : List Choice) → All IsReadable cs → AreSpelledBy (lines_of (text_of cs)) cs) → IsComeTo g run p choices m addrs
come_to g run p choices m addrs ready end is_text spelled = record {
  end = end;
  chosen = (is_text choices (all_readable choices end.course.writable), spelled choices (all_readable choices end.course.writable));
  same = ready.same;
  readable = subst (λ (l : List ℕ). AllReadable (setting_of m) l) (sym ready.same) (readable_at_end g p run.setup.harts run.setup.memory run.steps choices m (addresses run.words.items) end ready.readable);
}

module _ (g : Geometry) (run : Run) (file : List ℕ) (p : Program) (holds : IsProgramIn run.setup.file.now file p) (choices : List Choice) (m : State) (addrs : List ℕ) (come : IsComeTo g run p choices m addrs) where
  abbrev list : List ℕ
  list = text_of choices

  abbrev steps : ℕ
  steps = length choices

  counted : HasSteps list steps
  counted = (choices, come.chosen, refl)

  comes : ComesBy g run.setup Turns file list steps come.end.course.moments come.end.flat
  comes =
      let course = come.end.course in record {
        program = p;
        holds = holds;
        first = course.first;
        begins = record { boots = course.boots; begins = course.starts; unused = course.unused };
        choices = choices;
        chosen = come.chosen;
        last = m;
        made = course.follows;
        run = subst (λ (es : List Entry). IsRun (flat_start p run.setup) es come.end.flat) course.given come.end.runs;
        reasons = subst (HaveReasons (flat_start p run.setup)) course.given come.end.reasons;
      }

  -- they are the harts' turns
  turned : AreOfTurns g run.steps (StillRuns come.end.flat) comes.first comes.choices comes.last
  unfolding comes
  turned =
      let e = come.end in
      let few : e.flat.setting.count ≤ most_harts = subst (λ (s : Setting). s.count ≤ most_harts) (sym (run_setting (first_flat p run.setup.harts run.setup.memory) e.flat e.entries e.runs))
      (few_harts p.segments run.setup.harts run.setup.memory e.course.boots) in
      record { turns = e.turns.turns; same = e.turns.same; taken = e.turns.taken; few = e.turns.few; all = λ i still. e.turns.all i (still_left g e.flat m i e.belongs few still) }

  module _ (words : List ℕ) (as_given : words ≡ addrs) where
    abbrev whole : Texts
    whole = record { output = report_of come.end.flat words ++ []; file = [] }

    -- the report on it
    texts : (status : ℕ) → IsStatusOf come.end.flat status → AreTextsOf g (with_steps run steps) Turns Report file list whole status
    texts status is =
        let same : words ≡ addresses run.words.items = as_given ∙ come.same in
        let setting : setting_of m ≡ come.end.flat.setting = sym (same_setting g come.end.flat m come.end.belongs) in
        let readable : AllReadable come.end.flat.setting (addresses run.words.items) =
        subst (λ (l : List ℕ). AllReadable come.end.flat.setting l) come.same (subst (λ (s : Setting). AllReadable s addrs) setting come.readable) in
        (come.end.course.moments, come.end.flat, comes, (report_of come.end.flat words, record { readable = readable; text = ap (report_of come.end.flat) same; status = is }, refl))

    module _ (history : Option (Bor (List ℕ))) (h k a b : SinkState) where
      abbrev before : Sinks
      before = record { output = a; file = h }

      abbrev after : Sinks
      after = record { output = b; file = k }

      -- all was put
      pub given : (status : ℕ) → TookAll h k (history_text history list) → IsConcluded g m words a b status → IsGivenInThreads g run history file before after status
      unfolding texts
      given status kept whole_put =
          let at = whole_put.1 come.end.flat come.end.belongs in
          (whole_put.0, (list, steps, counted, whole, texts status at.0, turned, subst (λ (l : List ℕ). TookAll a b l) (sym (append-nil (report_of come.end.flat words))) at.1, kept))

      -- a put of the report failed
      pub half_given : (fault : Fault) → TookAll h k (history_text history list) → IsHalfConcluded g m words a b fault → IsNotGivenInThreads g run history file before after fault
      unfolding texts
      half_given fault kept half =
          let at = half.1 come.end.flat come.end.belongs in
          inr (inr (half.0, (list, steps, counted, whole, at.0, texts at.0 at.1, turned, subst (λ (l : List ℕ). TookPart a b l) (sym (append-nil (report_of come.end.flat words))) at.2, kept)))

    -- nothing is kept
    pub concluded : (page a b : SinkState) (r : Result ℕ Fault) → MatchResult r (IsConcluded g m words a b) (IsHalfConcluded g m words a b)
        → MatchResult r (IsGivenInThreads g run None file (record { output = a; file = page }) (record { output = b; file = page }))
        (IsNotGivenInThreads g run None file (record { output = a; file = page }) (record { output = b; file = page }))
    concluded page a b (Ok status) put = given None page page a b status (took-nothing page) put
    concluded page a b (Err fault) half = half_given None page page a b fault (took-nothing page) half

    -- the history is
    pub concluded_kept : (path : Bor (List ℕ)) (h k a b : SinkState) (r : Result ℕ Fault) → MatchResult r (λ status. TookAll h k list × IsConcluded g m words a b status) (IsHalfPut g m words list path h k a b)
        → MatchResult r (IsGivenInThreads g run (Some path) file (record { output = a; file = h }) (record { output = b; file = k }))
        (IsNotGivenInThreads g run (Some path) file (record { output = a; file = h }) (record { output = b; file = k }))
    concluded_kept path h k a b (Ok status) (kept, put) = given (Some path) h k a b status kept put
    concluded_kept path h k a b (Err fault) (inl ((is, part), still)) = inr (inl (path, refl, is, (list, steps, counted, (come.end.course.moments, come.end.flat, comes, turned), part, still)))
    concluded_kept path h k a b (Err fault) (inr (kept, half)) = half_given (Some path) h k a b fault kept half

-- ---- the run that was not made

module _ (g : Geometry) (run : Run) (history : Option (Bor (List ℕ))) (file : List ℕ) (sinks : Sinks) where
  pub no_program : (fault : Fault) → IsProgramFault run.setup.file.now file fault → IsNotGivenInThreads g run history file sinks sinks fault
  no_program fault why = inl (inl (inl (inl why)), refl, refl)

  pub unready : (p : Program) → IsProgramIn run.setup.file.now file p → (fault : Fault) → IsUnready run p fault → IsNotGivenInThreads g run history file sinks sinks fault
  unready p holds fault (inl (b, refused, is)) = inl (inl (inl (inr (inl (b, record { program = p; holds = holds; refused = refused }, is)))), refl, refl)
  unready p holds fault (inr (inl (k, w, boots, first, is))) = inl (inl (inr (inl (k, w, record { program = p; holds = holds; boots = boots; first = first }, is))), refl, refl)
  unready p holds fault (inr (inr memory)) = inl (inr (inl memory), refl, refl)

  pub stopped : (fault : Fault) → (fault ≡ NoMemory) ⊎ (fault ≡ Exchanged) → IsNotGivenInThreads g run history file sinks sinks fault
  stopped fault why = inl (inr why, refl, refl)

-- what is concluded behind this
pub behind : (kept : Type 0) (good : ℕ → Type 0) (half lost : Fault → Type 0) (answer : Result ℕ Fault) → kept → MatchResult answer good half → MatchResult answer (λ status. kept × good status) (λ fault. lost fault ⊎ (kept × half fault))
behind kept good half lost (Ok status) took put = (took, put)
behind kept good half lost (Err fault) took put = inr (took, put)
