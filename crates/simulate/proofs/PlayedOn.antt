-- A run that goes on behind a history, of which no hart runs any more, makes the history's report.
use Rattle.std.proofs.Common.{◌≡◌, ◌≢◌, ◌≤◌, ◌-◌, ◌++◌, ◌∙◌, ℕ, is_some, zero, suc, inl, inr, List, [], ◌∷◌, length, Option, Some, None, Result, Ok, Err, IsOkAnd, IsSomeAnd, refl, sym, ap, subst, append_assoc, arith}
use Rattle.std.specs.Borrow.{Bor}
use Rattle.words.specs.Sinks.{TookAll}
use Rattle.words.specs.declared.cause.Cause.{Cause}
use Rattle.words.specs.declared.cause.Status.{Status}
use Rattle.words.specs.declared.cause.Status.TheVariants.{Running}
use Rattle.words.specs.declared.entry.Entry.{Entry}
use Rattle.words.specs.declared.entry.Entry.TheVariants.{Retire, Abort, Trap, Refuse, Spill}
use Rattle.table.specs.declared.effect.Effect.{Effect}
use Rattle.flat.specs.State.{Flat, Tx}
use Rattle.flat.specs.Causes.{done_next}
use Rattle.flat.specs.Steps.{Aborts, IsRun, IsRunning, Retires}
use Rattle.flat.proofs.Runs.{run_between}
use Rattle.isolation.specs.Reasons.{HaveReasons}
use Rattle.isolation.specs.Walks.{IsEnded}
use Rattle.protocol.specs.Caches.{Geometry}
use Rattle.machine.specs.States.{State, setting_of}
use Rattle.command_line.specs.declared.request.Print.TheVariants as print
use Rattle.command_line.specs.declared.request.Run.{Run}
use Rattle.command_line.specs.declared.request.Show.TheVariants.{Report}
use Rattle.render.specs.Statuses.{status_for, IsReported, IsStatusOf}
use Rattle.schedule.specs.declared.choices.Choice.{Choice}
use Rattle.schedule.specs.Courses.{Turns}
use Rattle.schedule.specs.Moments.{Moment, moments, entries_of}
use Rattle.schedule.specs.Runs.{FollowsThen}
use Rattle.schedule.proofs.Making.{entries_both}
use Rattle.requests.specs.Outputs.{Texts, Sinks}
use Rattle.requests.specs.Runs.{ComesBy}
use Rattle.requests.specs.Schedules.{HasSteps}
use Rattle.requests.specs.Starts.{flat_start}
use Rattle.simulate.specs.Given.{AreTextsOf, IsGiven}
use Rattle.simulate.specs.Kept.{IsGivenAndKept, IsOfHistory}
use Rattle.simulate.specs.Threaded.{IsGivenInThreads, with_steps}
use Rattle.simulate.proofs.OneHistory.{threaded_texts, whole_list}
use Rattle.simulate.proofs.OneKept.{replayed}
use Rattle.simulate.proofs.OneReport.{one_flat, one_list, texts_once}

-- A state in which no hart runs is carried nowhere else

by_next : (f h : Flat) (i w : ℕ) (e : Entry) (r : Result Effect Cause) → IsOkAnd r (λ does. Retires f i w does e h) → IsRunning f i
by_next f h i w e (Ok does) retires = retires.running
by_next f h i w e (Err c) retires = absurd retires

by_tx : (f h : Flat) (i : ℕ) (o : Option Tx) (P : Tx → Type 0) → IsSomeAnd o P → ((t : Tx) → P t → IsRunning f i) → IsRunning f i
by_tx f h i None P aborts runs = absurd aborts
by_tx f h i (Some t) P aborts runs = runs t aborts

stays_ended : (f g : Flat) (es : List Entry) → IsEnded f → IsRun f es g → g ≡ f
stays_ended f g [] ended run = run
stays_ended f g (Retire i pc w write load store ∷ es) ended (h, carries, run) =
    let r = by_next f h i w (Retire i pc w write load store) (done_next (is_some store) f.setting (f.hart i)) carries in absurd (ended i r.hart r.runs)
stays_ended f g (Abort i cause ∷ es) ended (h, carries, run) =
    let r = by_tx f h i (f.hart i).tx (λ t. Aborts f i cause t h) carries (λ t aborts. aborts.running) in absurd (ended i r.hart r.runs)
stays_ended f g (Trap i c p ∷ es) ended (h, carries, run) = absurd (ended i carries.running.hart carries.running.runs)
stays_ended f g (Refuse i j b ∷ es) ended (h, carries, run) = stays_ended f g es ended (subst (λ (k : Flat). IsRun k es g) carries run)
stays_ended f g (Spill i b ∷ es) ended (h, carries, run) = stays_ended f g es ended (subst (λ (k : Flat). IsRun k es g) carries run)

-- where a hart still ran, the status is 5
runs_is_five : (s : Status) → s ≡ Running → status_for s ≡ 5
runs_is_five s is = ap status_for is

has_ended : (f : Flat) (status : ℕ) → IsReported status → IsStatusOf f status → status ≢ 5 → IsEnded f
has_ended f status (inl none) greatest not i inside runs = let least = greatest.bound i inside in let five = runs_is_five (f.hart i).status runs in absurd (omega (arith, least, five, none))
has_ended f status (inr (inl one)) greatest not i inside runs = let least = greatest.bound i inside in let five = runs_is_five (f.hart i).status runs in absurd (omega (arith, least, five, one))
has_ended f status (inr (inr is)) greatest not i inside runs = absurd (not is)

-- A list's steps come before the turns behind it

pub record HasPart (g : Geometry) (cs : List Choice) (v w : State) (after : ℕ) (ms : List Moment) : Type 0 where
  pub first : List Moment
  pub more : List Moment
  pub here : State
  pub follows : FollowsThen None g cs (length cs) v after first here
  pub split : ms ≡ first ++ more

part_of : (g : Geometry) (cs : List Choice) (k : ℕ) (v w : State) (after : ℕ) (ms : List Moment) → length cs ≤ k → FollowsThen None g cs k v after ms w → HasPart g cs v w after ms
part_of g [] k v w after ms fits follows = record { first = []; more = ms; here = v; follows = (refl, refl); split = refl }
part_of g (c ∷ cs) zero v w after ms fits follows = absurd (omega (arith, fits))
part_of g (c ∷ cs) (suc k) v w after ms fits (step, e, u, rest, is, made, follows, whole) =
    let p = part_of g cs k u w _ rest (omega (arith, fits)) follows in record {
      first = moments v step e u ++ p.first;
      more = p.more;
      here = p.here;
      follows = (step, e, u, p.first, is, made, p.follows, refl);
      split = whole ∙ (ap (λ l. moments v step e u ++ l) p.split ∙ sym (append_assoc (moments v step e u) p.first p.more));
    }

-- and so do their reasons
first_reasons : (f : Flat) (es fs : List Entry) → HaveReasons f (es ++ fs) → HaveReasons f es
first_reasons f es fs reasons before after e g is run =
    reasons before (after ++ fs) e g (ap (λ l. l ++ fs) is ∙ append_assoc before (e ∷ after) fs) run

-- The run by a history, and turns behind it

module _ (g : Geometry) (run : Run) (file history : List ℕ) (n m : ℕ) (counted : HasSteps history n) (fits : n ≤ m) (ns : List Moment) (h : Flat)
    (comes : ComesBy g run.setup Turns file history m ns h) where
  long : length comes.choices ≡ n
  long = let cs = counted in ap length (one_list comes.choices cs.0 (comes.chosen.1 ∙ sym cs.1.1)) ∙ cs.2

  pub part : HasPart g comes.choices comes.first comes.last ((setting_of comes.first).count - 1) ns
  part = part_of g comes.choices m comes.first comes.last ((setting_of comes.first).count - 1) ns (omega (arith, long, fits)) comes.made

  abbrev pub start : Flat
  start = flat_start comes.program run.setup

  both : entries_of ns ≡ entries_of part.first ++ entries_of part.more
  both = ap entries_of part.split ∙ entries_both part.first part.more

  pub between : (k : Flat) × IsRun start (entries_of part.first) k × IsRun k (entries_of part.more) h
  between = run_between start h (entries_of part.first) (entries_of part.more) (subst (λ (es : List Entry). IsRun start es h) both comes.run)

  pub comes_first : ComesBy g run.setup Turns file history n part.first between.0
  comes_first = record {
    program = comes.program;
    holds = comes.holds;
    first = comes.first;
    begins = comes.begins;
    choices = comes.choices;
    chosen = comes.chosen;
    last = part.here;
    made = subst (λ (k : ℕ). FollowsThen None g comes.choices k comes.first ((setting_of comes.first).count - 1) part.first part.here) long part.follows;
    run = between.1;
    reasons = first_reasons start (entries_of part.first) (entries_of part.more) (subst (λ (es : List Entry). HaveReasons start es) both comes.reasons);
  }

  -- where no hart runs, it ends in the same state
  pub ends_there : IsEnded between.0 → h ≡ between.0
  ends_there ended = stays_ended between.0 h (entries_of part.more) ended between.2

-- so its report is that of as many steps as the history has
texts_on : (g : Geometry) (run : Run) (file history : List ℕ) (n m : ℕ) (earlier later : Sinks) (texts : Texts) (status other : ℕ) → HasSteps history n → n ≤ m → IsReported status → status ≢ 5
    → AreTextsOf g (with_steps run n) Turns Report file history texts status → IsGiven g (with_steps run m) Turns Report file history earlier later other
    → (other ≡ status) × TookAll earlier.output later.output texts.output
texts_on g run file history n m earlier later texts status other counted fits reported over are (reported_too, (texts_too, (ns, h, comes, (report, is_report, texts_are)), took_too)) =
    let f : Flat = are.1 in
    let first = comes_first g run file history n m counted fits ns h comes in
    let ms : List Moment = (part g run file history n m counted fits ns h comes).first in
    let there : Flat = (between g run file history n m counted fits ns h comes).0 in
    let same : f ≡ there = one_flat g run.setup Turns file history n tt are.0 ms f there are.2 first in
    let ended : IsEnded f = has_ended f status reported are.3.1.status over in
    let end : h ≡ there = ends_there g run file history n m counted fits ns h comes (subst IsEnded same ended) in
    let again : AreTextsOf g (with_steps run n) Turns Report file history texts_too other =
    (ms, h, subst (λ (k : Flat). ComesBy g run.setup Turns file history n ms k) (sym end) first, (report, is_report, texts_are)) in
    let once = texts_once g (with_steps run n) Turns Report file history tt texts texts_too status other are again in
    (once.0, subst (λ (t : Texts). TookAll earlier.output later.output t.output) once.1 took_too.output)

pub played_on : (g : Geometry) (run : Run) (path : Bor (List ℕ)) (file history : List ℕ) (n m : ℕ) (before after earlier later : Sinks) (status other : ℕ)
    → before.file.taken ≡ Some [] → after.file.taken ≡ Some history → HasSteps history n → n ≤ m → status ≢ 5
    → IsGivenInThreads g run (Some path) file before after status → IsGiven g (with_steps run m) Turns Report file history earlier later other
    → (other ≡ status) × ((report : List ℕ) × TookAll before.output after.output report × TookAll earlier.output later.output report)
played_on g run path file history n m before after earlier later status other empty all counted fits over given again =
    let one = threaded_texts g run path file history n before after status empty all counted given in
    let on = texts_on g run file history n m earlier later one.0 status other counted fits given.0 over one.1 again in
    (on.0, (one.0.output, one.2, on.1))

pub kept_on : (g : Geometry) (run : Run) (path : Bor (List ℕ)) (file list history : List ℕ) (n m : ℕ) (before after earlier later : Sinks) (status other : ℕ)
    → before.file.taken ≡ Some [] → after.file.taken ≡ Some history → HasSteps history n → n ≤ m → status ≢ 5
    → IsGivenAndKept g run print.Report path file list before after status → IsGiven g (with_steps run m) Turns Report file history earlier later other
    → (other ≡ status) × ((report : List ℕ) × TookAll before.output after.output report × TookAll earlier.output later.output report)
kept_on g run path file list history n m before after earlier later status other empty all counted fits over (reported, (texts, written, of, took, kept)) again =
    let same = whole_list before.file after.file written history empty all kept in
    let as_kept = subst (λ (l : List ℕ). IsOfHistory g run print.Report path file list before after texts status l) same of in
    let first = replayed g run print.Report path file list history n before after texts status counted as_kept in
    let on = texts_on g run file history n m earlier later texts status other counted fits reported over first again in
    (on.0, (texts.output, took, on.1))
