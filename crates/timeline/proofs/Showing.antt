-- A timeline: what comes before the events, the events, and the end.
use Rattle.std.proofs.Common.{◌≡◌, ◌+◌, ◌++◌, ℕ, List, [], Result, Ok, Err, IsErr, MatchResult, refl, sym, arith, subst, append_assoc}
use Rattle.words.specs.declared.sink.SinkFault.{SinkFault}
use Rattle.words.specs.Sinks.{SinkState, TookAll, TookPart}
use Rattle.texts.specs.Puts.{Puts}
use Rattle.texts.proofs.Putting.{puts-cut, took-both, took-then-part, took-part-longer}
use Rattle.protocol.specs.Caches.{Geometry}
use Rattle.machine.specs.States.{State, setting_of}
use Rattle.schedule.specs.Courses.{Behind, Course, course, forgotten, IsUnbegun}
use Rattle.schedule.proofs.Going.{unbegun_still}
use Rattle.schedule.specs.declared.choices.Choice.{Choice}
use Rattle.schedule.proofs.Lengths.{none_played}
use Rattle.schedule.specs.Moments.{Moment}
use Rattle.schedule.specs.Runs.{Plays}
use Rattle.schedule.specs.Observed.{IsSeen, IsHalted, joined}
use Rattle.schedule.proofs.Seeing.{holds_of_all}
use Rattle.schedule.specs.declared.halt.Halt.{Halt}
use Rattle.schedule.specs.declared.halt.Halt.TheVariants.{NoMemory, Untold}
use Rattle.timeline.specs.Events.{events_from}
use Rattle.timeline.specs.Timelines.{opening, closing, IsShown, IsCutShort}
use Rattle.timeline.specs.Notes.{PutEvents}
use Rattle.timeline.proofs.Putting.{put_none, put_both, put_part}
use Rattle.std.specs.List.{FoldsTo}

-- a put that went well
pub well_put : {a b : SinkState} {text : List ℕ} (r : Result Unit SinkFault) → r ≡ Ok tt → Puts a b text r → TookAll a b text
well_put {a} {b} {text} r well puts = let all = subst (λ (s : Result Unit SinkFault). Puts a b text s) well puts in record { whole = all.whole; clean = all.clean }

-- not all of what comes before the events was put
pub cut_opening : (g : Geometry) (choices : List Choice) (c : Behind) (n : ℕ) (v : State) (a b : SinkState) (r : Result Unit SinkFault) → IsUnbegun c → IsErr r
    → Puts a b (opening (setting_of v).count) r → IsCutShort g (course choices (forgotten c)) n v v a b Untold
cut_opening g choices c n v a b (Ok _) unbegun failed puts = absurd (cc)
cut_opening g choices c n v a b (Err e) unbegun failed puts =
    let all : Puts a b (opening (setting_of v).count ++ closing) (Err e) = puts-cut closing {s = Err e} refl puts refl in
    (0, omega arith, [], none_played g choices (forgotten c) v (unbegun_still c unbegun), record { part = all.part; fault = all.fault })

module _ {L : Type 0} (g : Geometry) (on : Course) (n : ℕ) (v w : State) (state : L → SinkState) (time : L → ℕ) (x y : L) (first : time x ≡ 0)
    (a : SinkState) (begun : TookAll a (state x) (opening (setting_of v).count)) where
  abbrev Saw : L → List Moment → L → Type 0
  Saw before ms after = PutEvents g.sets (state before) (time before) ms (state after) (time after)

  abbrev Missed : L → List Moment → L → Type 0
  Missed before ms after = TookPart (state before) (state after) (events_from g.sets (time before) ms)

  saw_both : (ms ns : List Moment) (z u : L) → Saw x ms z → Saw z ns u → Saw x (ms ++ ns) u
  saw_both ms ns z u before later = put_both g.sets (state x) (time x) (state z) (state u) (time z) (time u) ms ns before later

  seen_all : (groups : List (List Moment)) (z : L) → FoldsTo Saw x groups z → Saw x (joined groups) z
  seen_all groups z folds = holds_of_all Saw (Saw x) saw_both groups x z (put_none g.sets (state x) (time x)) folds

  -- the run was halted
  pub halted : (halt : Halt) → IsHalted Saw Missed g on n v w x y halt → IsCutShort g on n v w a (state y) halt
  halted NoMemory (m, less, (groups, plays, folds)) =
      let ms = joined groups in
      let events = subst (λ (t : ℕ). TookAll (state x) (state y) (events_from g.sets t ms)) first (seen_all groups y folds).events in
      (m, less, ms, plays, took-both a (state x) (state y) (opening (setting_of v).count) (events_from g.sets 0 ms) begun events)
  halted Untold (m, less, (groups, last, z, plays, folds, cut)) =
      let ms = joined groups ++ last in
      let part = put_part g.sets (state x) (time x) (state z) (state y) (time z) (joined groups) last (seen_all groups z folds) cut in
      let events = subst (λ (t : ℕ). TookPart (state x) (state y) (events_from g.sets t ms)) first part in
      let all = took-then-part a (state x) (state y) (opening (setting_of v).count) (events_from g.sets 0 ms ++ closing) begun (took-part-longer (state x) (state y) (events_from g.sets 0 ms) closing events) in
      (m + 1, omega (arith, less), ms, plays, all)

  -- all steps were made, and the end was put, or not all of it
  module _ (early : Course) (still : (m : ℕ) (ms : List Moment) → Plays g on m v ms w → Plays g early m v ms w) (b : SinkState) (seen : IsSeen Saw g on n v w x y) where
    events_put : TookAll a (state y) (opening (setting_of v).count ++ events_from g.sets 0 (joined seen.0))
    events_put = took-both a (state x) (state y) (opening (setting_of v).count) (events_from g.sets 0 (joined seen.0)) begun (subst (λ (t : ℕ). TookAll (state x) (state y) (events_from g.sets t (joined seen.0))) first (seen_all seen.0 y seen.2).events)

    pub given : (put : Result Unit SinkFault) (r : Result Unit Halt) → Puts (state y) b closing put → MatchResult r (λ _. put ≡ Ok tt) (λ halt. (halt ≡ Untold) × IsErr put)
        → MatchResult r (λ _. IsShown g on n v w a b) (IsCutShort g early n v w a b)
    given put (Ok _) puts well =
        let last = well_put put well puts in
        let all = took-both a (state y) b (opening (setting_of v).count ++ events_from g.sets 0 (joined seen.0)) closing events_put last in
        (joined seen.0, seen.1, subst (λ (text : List ℕ). TookAll a b text) (append_assoc (opening (setting_of v).count) (events_from g.sets 0 (joined seen.0)) closing) all)
    given put (Err halt) puts (is, failed_put) = subst (λ (h : Halt). IsCutShort g early n v w a b h) (sym is) (cut put puts failed_put)
      where
        cut : (put : Result Unit SinkFault) → Puts (state y) b closing put → IsErr put → IsCutShort g early n v w a b Untold
        cut (Ok _) puts failed_put = absurd (cc)
        cut (Err e) puts failed_put =
            let all = took-then-part a (state y) b (opening (setting_of v).count ++ events_from g.sets 0 (joined seen.0)) closing events_put (record { part = puts.part; fault = puts.fault }) in
            (n, omega arith, joined seen.0, still n (joined seen.0) seen.1, subst (λ (text : List ℕ). TookPart a b text) (append_assoc (opening (setting_of v).count) (events_from g.sets 0 (joined seen.0)) closing) all)
