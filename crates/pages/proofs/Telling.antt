-- A page: what comes before the moments, the moments, and the end.
use Rattle.std.proofs.Common.{◌≡◌, ◌+◌, ◌++◌, ℕ, List, [], ◌∷◌, Result, Ok, Err, IsErr, MatchResult, refl, sym, arith, subst, append_assoc}
use Rattle.std.specs.List.{FoldsTo}
use Rattle.std.proofs.lemmas.List.{append-nil}
use Rattle.std.proofs.lemmas.List.Concat.{flat_map-append}
use Rattle.words.specs.declared.sink.SinkFault.{SinkFault}
use Rattle.words.specs.Sinks.{SinkState, TookAll, TookPart}
use Rattle.texts.specs.Puts.{Puts}
use Rattle.texts.proofs.Putting.{puts-cut, took-nothing, took-both, took-then-part, took-part-longer}
use Rattle.disassembler.specs.Tables.{Table}
use Rattle.protocol.specs.Caches.{Geometry}
use Rattle.machine.specs.States.{State}
use Rattle.schedule.specs.Courses.{Behind, Course, course, forgotten, IsUnbegun}
use Rattle.schedule.proofs.Going.{unbegun_still}
use Rattle.schedule.specs.declared.choices.Choice.{Choice}
use Rattle.schedule.proofs.Lengths.{none_played}
use Rattle.schedule.specs.Moments.{Moment}
use Rattle.schedule.specs.Runs.{Plays}
use Rattle.schedule.specs.Observed.{IsSeen, IsHalted, joined}
use Rattle.schedule.proofs.Seeing.{holds_of_all}
use Rattle.schedule.specs.declared.halt.Halt.{Halt}
use Rattle.schedule.specs.declared.halt.Halt.TheVariants.{NoMemory, Untold}
use Rattle.pages.specs.Form.{tail}
use Rattle.pages.specs.Moments.{moment_text, moments_text}
use Rattle.pages.specs.Pages.{opening, IsPaged, IsPagedInPart}

-- a put that went well
pub well_put : {a b : SinkState} {text : List ℕ} (r : Result Unit SinkFault) → r ≡ Ok tt → Puts a b text r → TookAll a b text
well_put {a} {b} {text} r well puts = let all = subst (λ (s : Result Unit SinkFault). Puts a b text s) well puts in record { whole = all.whole; clean = all.clean }

module _ (names : Table) (sets : ℕ) (words : List ℕ) where
  abbrev text : List Moment → List ℕ
  text ms = moments_text names sets words ms

  text_both : (ms ns : List Moment) → text ms ++ text ns ≡ text (ms ++ ns)
  text_both ms ns = sym (flat_map-append (moment_text names sets words) ms ns)

  -- the moments of two lists
  told_both : (a b c : SinkState) (ms ns : List Moment) → TookAll a b (text ms) → TookAll b c (text ns) → TookAll a c (text (ms ++ ns))
  told_both a b c ms ns first later = subst (λ (t : List ℕ). TookAll a c t) (text_both ms ns) (took-both a b c (text ms) (text ns) first later)

  told_part : (a b c : SinkState) (ms ns : List Moment) → TookAll a b (text ms) → TookPart b c (text ns) → TookPart a c (text (ms ++ ns))
  told_part a b c ms ns first later = subst (λ (t : List ℕ). TookPart a c t) (text_both ms ns) (took-then-part a b c (text ms) (text ns) first later)

  -- one moment
  pub told_one : (a b : SinkState) (m : Moment) → Puts a b (moment_text names sets words m) (Ok tt) → TookAll a b (text (m ∷ []))
  told_one a b m puts = subst (λ (t : List ℕ). TookAll a b t) (sym (append-nil (moment_text names sets words m))) (record { whole = puts.whole; clean = puts.clean })

  pub untold_one : (a b : SinkState) (m : Moment) (fault : SinkFault) → Puts a b (moment_text names sets words m) (Err fault) → TookPart a b (text (m ∷ []))
  untold_one a b m fault puts = subst (λ (t : List ℕ). TookPart a b t) (sym (append-nil (moment_text names sets words m))) (record { part = puts.part; fault = puts.fault })

-- not all of what comes before the moments was put
pub cut_opening : (names : Table) (g : Geometry) (words : List ℕ) (choices : List Choice) (c : Behind) (n : ℕ) (v : State) (a b : SinkState) (r : Result Unit SinkFault) → IsUnbegun c → IsErr r
    → Puts a b (opening names g v words) r → IsPagedInPart names g words (course choices (forgotten c)) n v v a b Untold
cut_opening names g words choices c n v a b (Ok _) unbegun failed puts = absurd (cc)
cut_opening names g words choices c n v a b (Err e) unbegun failed puts =
    let all : Puts a b (opening names g v words ++ tail) (Err e) = puts-cut tail {s = Err e} refl puts refl in
    (0, omega arith, [], none_played g choices (forgotten c) v (unbegun_still c unbegun), record { part = all.part; fault = all.fault })

module _ {L : Type 0} (state : L → SinkState) (names : Table) (g : Geometry) (words : List ℕ) (on : Course) (n : ℕ) (v w : State) (x y : L)
    (a : SinkState) (begun : TookAll a (state x) (opening names g v words)) where
  abbrev Saw : L → List Moment → L → Type 0
  Saw before ms after = TookAll (state before) (state after) (text names g.sets words ms)

  abbrev Missed : L → List Moment → L → Type 0
  Missed before ms after = TookPart (state before) (state after) (text names g.sets words ms)

  abbrev first : List ℕ
  first = opening names g v words

  saw_both : (ms ns : List Moment) (z u : L) → Saw x ms z → Saw z ns u → Saw x (ms ++ ns) u
  saw_both ms ns z u before later = told_both names g.sets words (state x) (state z) (state u) ms ns before later

  seen_all : (groups : List (List Moment)) (z : L) → FoldsTo Saw x groups z → Saw x (joined groups) z
  seen_all groups z folds = holds_of_all Saw (Saw x) saw_both groups x z (took-nothing (state x)) folds

  -- the run was halted
  pub halted : (halt : Halt) → IsHalted Saw Missed g on n v w x y halt → IsPagedInPart names g words on n v w a (state y) halt
  halted NoMemory (m, less, (groups, plays, folds)) =
      let ms = joined groups in
      (m, less, ms, plays, took-both a (state x) (state y) first (text names g.sets words ms) begun (seen_all groups y folds))
  halted Untold (m, less, (groups, last, z, plays, folds, cut)) =
      let ms = joined groups ++ last in
      let part = told_part names g.sets words (state x) (state z) (state y) (joined groups) last (seen_all groups z folds) cut in
      let all = took-then-part a (state x) (state y) first (text names g.sets words ms ++ tail) begun (took-part-longer (state x) (state y) (text names g.sets words ms) tail part) in
      (m + 1, omega (arith, less), ms, plays, all)

  -- all steps were made, and the end was put, or not all of it
  module _ (early : Course) (still : (m : ℕ) (ms : List Moment) → Plays g on m v ms w → Plays g early m v ms w) (b : SinkState) (seen : IsSeen Saw g on n v w x y) where
    moments_put : TookAll a (state y) (first ++ text names g.sets words (joined seen.0))
    moments_put = took-both a (state x) (state y) first (text names g.sets words (joined seen.0)) begun (seen_all seen.0 y seen.2)

    pub given : (put : Result Unit SinkFault) (r : Result Unit Halt) → Puts (state y) b tail put → MatchResult r (λ _. put ≡ Ok tt) (λ halt. (halt ≡ Untold) × IsErr put)
        → MatchResult r (λ _. IsPaged names g words on n v w a b) (IsPagedInPart names g words early n v w a b)
    given put (Ok _) puts well =
        let last = well_put put well puts in
        let all = took-both a (state y) b (first ++ text names g.sets words (joined seen.0)) tail moments_put last in
        (joined seen.0, seen.1, subst (λ (t : List ℕ). TookAll a b t) (append_assoc first (text names g.sets words (joined seen.0)) tail) all)
    given put (Err halt) puts (is, failed_put) = subst (λ (h : Halt). IsPagedInPart names g words early n v w a b h) (sym is) (cut put puts failed_put)
      where
        cut : (put : Result Unit SinkFault) → Puts (state y) b tail put → IsErr put → IsPagedInPart names g words early n v w a b Untold
        cut (Ok _) puts failed_put = absurd (cc)
        cut (Err e) puts failed_put =
            let all = took-then-part a (state y) b (first ++ text names g.sets words (joined seen.0)) tail moments_put (record { part = puts.part; fault = puts.fault }) in
            (n, omega arith, joined seen.0, still n (joined seen.0) seen.1, subst (λ (t : List ℕ). TookPart a b t) (append_assoc first (text names g.sets words (joined seen.0)) tail) all)
