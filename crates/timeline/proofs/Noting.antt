-- The rows of moments that are noted one after another.
use Rattle.std.proofs.Common.{◌≡◌, ◌≤◌, ◌+◌, ◌++◌, ℕ, zero, suc, List, [], ◌∷◌, length, Result, Ok, Err, IsOk, OnErr, refl, sym, ap, ◌∙◌, arith, append_assoc, append-nil, length-append, Vec, vec_len, vec_capacity}
use Rattle.std.specs.List.{FoldsTo}
use Rattle.words.specs.declared.sink.SinkFault.{SinkFault}
use Rattle.words.specs.Sinks.{SinkState}
use Rattle.texts.specs.Puts.{Puts}
use Rattle.texts.proofs.Putting.{puts-same}
use Rattle.protocol.specs.Caches.{Geometry}
use Rattle.machine.specs.States.{State, setting_of}
use Rattle.schedule.specs.Courses.{Behind, Course, course, forgotten, IsUnbegun}
use Rattle.schedule.proofs.Going.{forget, unbegun_still}
use Rattle.schedule.specs.declared.choices.Choice.{Choice}
use Rattle.schedule.specs.Moments.{Moment}
use Rattle.schedule.proofs.Lengths.{none_played, steps_at_most}
use Rattle.schedule.specs.Observed.{IsSeen, IsHalted, joined}
use Rattle.schedule.proofs.Seeing.{holds_of_all}
use Rattle.timeline.specs.Notes.{NotesRows, IsFull}
use Rattle.schedule.specs.declared.halt.Halt.TheVariants.{Untold}
use Rattle.timeline.specs.declared.row.Row.{Row}
use Rattle.timeline.specs.Rows.{row_of, rows_from}
use Rattle.timeline.specs.Drawings.{drawn}
use Rattle.timeline.specs.Pictures.{IsNoted, IsCut, IsPictured, IsNotPictured}

not_ok : {T E : Type 0} (r : Result T E) {e : E} → r ≡ Err e → IsOk r → ⊥
not_ok (Ok x) failed well = absurd (cc)
not_ok (Err e) failed well = cc

-- there was no room for the rows of some steps
pub cut_first : {T E : Type 0} (g : Geometry) (choices : List Choice) (b : Behind) (n : ℕ) (v : State) (r : Result T E) {e : E} → IsUnbegun b → r ≡ Err e → (n ≡ 0 → IsOk r)
    → IsCut g (course choices (forgotten b)) n v v
cut_first g choices b zero v r unbegun failed none = absurd (not_ok r failed (none refl))
cut_first g choices b (suc n) v r unbegun failed none = (0, omega arith, [], none_played g choices (forgotten b) v (unbegun_still b unbegun))

pub on_err : {T E : Type 0} {P : Type 0} (r : Result T E) → P → OnErr r P
on_err (Ok x) fact = tt
on_err (Err e) fact = fact

rows_both : (sets number : ℕ) (ms ns : List Moment) → rows_from sets number ms ++ rows_from sets (number + length ms) ns ≡ rows_from sets number (ms ++ ns)
rows_both sets number [] ns = let none : number + 0 ≡ number = omega arith in ap (λ (k : ℕ). rows_from sets k ns) none
rows_both sets number (m ∷ ms) ns =
    let count : number + length (m ∷ ms) ≡ number + 1 + length ms = omega arith in
    ap (λ (k : ℕ). row_of sets number m ∷ (rows_from sets (number + 1) ms ++ rows_from sets k ns)) count ∙ ap (λ (rows : List Row). row_of sets number m ∷ rows) (rows_both sets (number + 1) ms ns)

module _ {Z : Type 0} (sets : ℕ) where
  pub rows_none : (x : Vec Row Z) → NotesRows sets x [] x
  rows_none x = record { rows = sym (append-nil x.items); number = omega arith; room = omega arith }

  pub rows_more : (x y z : Vec Row Z) (ms ns : List Moment) → NotesRows sets x ms y → NotesRows sets y ns z → NotesRows sets x (ms ++ ns) z
  rows_more x y z ms ns first later = record {
    rows = later.rows ∙ ap (λ (rows : List Row). rows ++ rows_from sets (vec_len y) ns) first.rows ∙ ap (λ (k : ℕ). (x.items ++ rows_from sets (vec_len x) ms) ++ rows_from sets k ns) first.number
        ∙ append_assoc x.items (rows_from sets (vec_len x) ms) (rows_from sets (vec_len x + length ms) ns) ∙ ap (λ (rows : List Row). x.items ++ rows) (rows_both sets (vec_len x) ms ns);
    number = let here = first.number in let there = later.number in let long : length (ms ++ ns) ≡ length ms + length ns = length-append ms ns in omega (arith, here, there, long);
    room = let here = first.room in let there = later.room in omega (arith, here, there);
  }

  pub full_on : (x y z : Vec Row Z) (ms ns : List Moment) → NotesRows sets x ms y → IsFull y ns z → IsFull x (ms ++ ns) z
  full_on x y z ms ns first full =
      let number = first.number in
      let room = first.room in
      let long : length (ms ++ ns) ≡ length ms + length ns = length-append ms ns in
      omega (arith, number, room, long, full)

  -- the rows of moments that were noted group by group
  pub noted_all : (groups : List (List Moment)) (x y : Vec Row Z) → FoldsTo (NotesRows sets) x groups y → NotesRows sets x (joined groups) y
  noted_all groups x y folds = holds_of_all (NotesRows sets) (NotesRows sets x) (λ ms ns z w first later. rows_more x z w ms ns first later) groups x y (rows_none x) folds

module _ {Z : Type 0} (g : Geometry) (on : Course) (n : ℕ) (v w : State) (x y : Vec Row Z) (none : x.items ≡ []) (empty : vec_len x ≡ 0) where
  pub told : IsSeen (NotesRows g.sets) g on n v w x y → IsNoted g on n v w y.items
  told (groups, plays, folds) =
      let ms = joined groups in
      let notes = noted_all g.sets groups x y folds in
      (ms, plays, notes.rows ∙ ap (λ (rows : List Row). rows ++ rows_from g.sets (vec_len x) ms) none ∙ ap (λ (k : ℕ). rows_from g.sets k ms) empty)

  -- where there is room for n rows, none is missed
  pub never_full : n ≤ vec_capacity x → IsHalted (NotesRows g.sets) IsFull g on n v w x y Untold → ⊥
  never_full enough (m, less, (groups, last, z, plays, folds, full)) =
      let few = steps_at_most g on (m + 1) v (joined groups ++ last) w plays in
      let too_many = full_on g.sets x z y (joined groups) last (noted_all g.sets groups x z folds) full in
      omega (arith, enough, less, few, too_many, empty)

module _ (g : Geometry) (on : Course) (n : ℕ) (v w : State) (rows : List Row) (a b : SinkState) where
  -- the drawing of noted rows is the picture of their steps
  pub pictured : IsNoted g on n v w rows → Puts a b (drawn (setting_of v).count rows) (Ok tt) → IsPictured g on n v w a b
  pictured (ms, plays, is) puts =
      let all = puts-same {r = Ok tt} (ap (drawn (setting_of v).count) is) puts in
      (ms, plays, record { whole = all.whole; clean = all.clean })

  pub broken : (fault : SinkFault) → IsNoted g on n v w rows → Puts a b (drawn (setting_of v).count rows) (Err fault) → IsNotPictured g on n v w a b Untold
  broken fault (ms, plays, is) puts =
      let all = puts-same {r = Err fault} (ap (drawn (setting_of v).count) is) puts in
      (ms, plays, record { part = all.part; fault = all.fault })

-- the choices of chance need not be told
pub forget_noted : (g : Geometry) (choices : List Choice) (b : Behind) (n : ℕ) (v w : State) (rows : List Row) → IsNoted g (course choices b) n v w rows → IsNoted g (course choices (forgotten b)) n v w rows
forget_noted g choices b n v w rows (ms, plays, is) = (ms, forget g choices b n v ms w plays, is)
