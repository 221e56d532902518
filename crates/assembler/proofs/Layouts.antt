-- Where both passes find no fault the source is laid out, and the labels are those of its lines.
use Rattle.std.proofs.Common.{◌≡◌, ℕ, ◌+◌, Bool, true, false, cond, not, nat_lt, bytes_eq, List, [], ◌∷◌, Option, Some, None, IfSome, Result, Ok, Err, refl, sym, ap, subst, ◌∙◌, arith, true≢false}
use Rattle.std.specs.Option.{is_some}
use Rattle.std.proofs.lemmas.Bool.Decides.{nat_tests}
use Rattle.std.proofs.lemmas.Slice.Eq.{bytes_eq-Decides}
use Rattle.statements.specs.declared.fault.AsmFault.TheVariants.{TwiceDefined, TooLarge}
use Rattle.assembler.specs.declared.fault.SourceFault.{SourceFault}
use Rattle.statements.specs.declared.place.Place.{Place}
use Rattle.assembler.specs.declared.progress.Progress.{Progress}
use Rattle.statements.specs.Cutting.{parts_of}
use Rattle.statements.specs.Places.{Labels}
use Rattle.assembler.specs.Progress.{here, start}
use Rattle.assembler.specs.Passes.{Survey, Layout, Assembled, lines, with_label, survey_line, lay_line, at_line, pass, nowhere, survey, lay, labels_after, assembled}
use Rattle.statements.specs.Lines.{checked_line}
use Rattle.assembler.specs.Layouts.{IsLaid, AreLaid, label_of, NoneHas, AreApart, IsLayoutOf}
use Rattle.assembler.proofs.Sizes.{bind_ok, checked_ok, ok_same, end_same, at_line_ok, SurveyedTo, surveyed_to, LaidTo, laid_to, line_keeps, ends_same}

abbrev pub Places : Type 0
Places = List ℕ → Option Place

some_not_none : (a : Place) (o : Option Place) → o ≡ Some a → not (is_some o) ≡ true → ⊥
some_not_none a (Some b) e h = true≢false (sym h)
some_not_none a None e h = cc

-- a label that has a place keeps it, and isn't put again

kept_at : (b : Bool) (name other : List ℕ) (at a : Place) (places : Places) → bytes_eq other name ≡ b → not (is_some (places other)) ≡ true → places name ≡ Some a
    → cond b (Some at) (places name) ≡ Some a
kept_at true name other at a places same fresh has =
    absurd (some_not_none a (places other) (ap places ((bytes_eq-Decides other name).0 same) ∙ has) fresh)
kept_at false name other at a places same fresh has = has

kept_by : (label : Option (List ℕ)) (name : List ℕ) (at a : Place) (places after : Places) → with_label label at places ≡ Ok after → places name ≡ Some a → after name ≡ Some a
kept_by None name at a places after e has = ap (λ (f : Places). f name) (sym (ok_same places after _ refl e)) ∙ has
kept_by (Some other) name at a places after e has =
    let put = checked_ok (not (is_some (places other))) TwiceDefined _ after e in
    ap (λ (f : Places). f name) (sym put.1) ∙ kept_at (bytes_eq other name) name other at a places refl put.0 has

not_again : (label : Option (List ℕ)) (name : List ℕ) (at a : Place) (places after : Places) → with_label label at places ≡ Ok after → places name ≡ Some a → label ≡ Some name → ⊥
not_again None name at a places after e has is = cc
not_again (Some other) name at a places after e has is =
    let put = checked_ok (not (is_some (places other))) TwiceDefined _ after e in
    let same : other ≡ name = cc in
    some_not_none a (places other) (ap places same ∙ has) put.0

pub put_at : (name : List ℕ) (at : Place) (places after : Places) → with_label (Some name) at places ≡ Ok after → after name ≡ Some at
put_at name at places after e =
    let put = checked_ok (not (is_some (places name))) TwiceDefined _ after e in
    ap (λ (f : Places). f name) (sym put.1) ∙ ap (λ b. cond b (Some at) (places name)) ((bytes_eq-Decides name name).1 refl)

-- the label of a line that the first pass goes over
labelled : (line : List ℕ) (s t : Survey) (a : SurveyedTo line s t) → label_of (checked_line line) ≡ (parts_of a.text).label
labelled line s t a = ap label_of a.checked

pub record Kept (name : List ℕ) (lines : List (List ℕ)) (a : Place) (t : Survey) : Type 0 where
  pub none : NoneHas name lines
  pub has : t.places name ≡ Some a

pub kept : (lines : List (List ℕ)) (n : ℕ) (name : List ℕ) (a : Place) (s t : Survey) → pass survey_line n lines s ≡ Ok t → s.places name ≡ Some a → Kept name lines a t
kept [] n name a s t e has = record { none = tt; has = ap (λ (u : Survey). u.places name) (sym (end_same s t _ refl e)) ∙ has }
kept (line ∷ lines) n name a s t e has =
    let b = bind_ok (at_line n (survey_line line s)) (pass survey_line (n + 1) lines) t e in
    let on = surveyed_to line s b.0 (at_line_ok n _ b.0 b.1) in
    let rest = kept lines (n + 1) name a b.0 t b.2 (kept_by (parts_of on.text).label name (here s.progress) a s.places b.0.places on.labelled has) in
    record {
      none = (λ is. not_again (parts_of on.text).label name (here s.progress) a s.places b.0.places on.labelled has (sym (labelled line s b.0 on) ∙ is), rest.none);
      has = rest.has;
    }

-- no two lines have one label

line_apart : (line : List ℕ) (lines : List (List ℕ)) (n : ℕ) (s m t : Survey) (a : SurveyedTo line s m) → pass survey_line n lines m ≡ Ok t → (label : Option (List ℕ)) → (parts_of a.text).label ≡ label
    → (name : List ℕ) → label ≡ Some name → NoneHas name lines
line_apart line lines n s m t a e None is name e2 = absurd (cc)
line_apart line lines n s m t a e (Some other) is name e2 =
    let same : other ≡ name = cc in
    let P : List ℕ → Type 0 = λ x. NoneHas x lines in
    subst P same (kept lines n other (here s.progress) m t e (put_at other (here s.progress) s.places m.places (rw is at a.labelled))).none

apart_by : (lines : List (List ℕ)) (n : ℕ) (s t : Survey) → pass survey_line n lines s ≡ Ok t → AreApart lines
apart_by [] n s t e = tt
apart_by (line ∷ lines) n s t e =
    let b = bind_ok (at_line n (survey_line line s)) (pass survey_line (n + 1) lines) t e in
    let on = surveyed_to line s b.0 (at_line_ok n _ b.0 b.1) in
    (λ name is. line_apart line lines (n + 1) s b.0 t on b.2 (parts_of on.text).label refl name (sym (labelled line s b.0 on) ∙ is), apart_by lines (n + 1) b.0 t b.2)

-- no label has a place that no line has

pub beside : (label : Option (List ℕ)) (name : List ℕ) (at : Place) (places after : Places) → with_label label at places ≡ Ok after → (label ≡ Some name → ⊥) → after name ≡ places name
beside None name at places after e other = ap (λ (f : Places). f name) (sym (ok_same places after _ refl e))
beside (Some label) name at places after e other =
    let put = checked_ok (not (is_some (places label))) TwiceDefined _ after e in
    ap (λ (f : Places). f name) (sym put.1) ∙ by_test (bytes_eq label name) refl
  where
    by_test : (b : Bool) → bytes_eq label name ≡ b → cond b (Some at) (places name) ≡ places name
    by_test true is = absurd (other (ap (λ l. Some l) ((bytes_eq-Decides label name).0 is)))
    by_test false is = refl

pub only_by : (lines : List (List ℕ)) (n : ℕ) (s t : Survey) → pass survey_line n lines s ≡ Ok t → (name : List ℕ) → NoneHas name lines → t.places name ≡ s.places name
only_by [] n s t e name none = ap (λ (u : Survey). u.places name) (sym (end_same s t _ refl e))
only_by (line ∷ lines) n s t e name none =
    let b = bind_ok (at_line n (survey_line line s)) (pass survey_line (n + 1) lines) t e in
    let on = surveyed_to line s b.0 (at_line_ok n _ b.0 b.1) in
    only_by lines (n + 1) b.0 t b.2 name none.1
    ∙ beside (parts_of on.text).label name (here s.progress) s.places b.0.places on.labelled (λ is. none.0 (labelled line s b.0 on ∙ is))

-- each line is laid

label_laid : (label : Option (List ℕ)) (at : Place) (places after final : Places) → with_label label at places ≡ Ok after → ((name : List ℕ) (a : Place) → after name ≡ Some a → final name ≡ Some a)
    → IfSome label (λ name. final name ≡ Some at)
label_laid None at places after final e stays = tt
label_laid (Some name) at places after final e stays = stays name at (put_at name at places after e)

line_laid : (labels : Labels) (line : List ℕ) (s m : Survey) (l k : Layout) → l.progress ≡ s.progress → SurveyedTo line s m → LaidTo labels line l k
    → ((name : List ℕ) (a : Place) → m.places name ≡ Some a → labels.places name ≡ Some a) → IsLaid labels line l k
line_laid labels line s m l k same on to stays =
    let text : on.text ≡ to.text = ok_same on.text to.text _ on.checked to.checked in
    let P : List ℕ → Type 0 = λ x. IfSome (parts_of x).label (λ name. labels.places name ≡ Some (here l.progress)) in
    let Q : Progress → Type 0 = λ p. IfSome (parts_of on.text).label (λ name. labels.places name ≡ Some (here p)) in
    record {
      text = to.text;
      short = to.checked;
      label = subst P text (subst Q (sym same) (label_laid (parts_of on.text).label (here s.progress) s.places m.places labels.places on.labelled stays));
      made = to.made;
      makes = to.is;
      next = k.progress;
      follows = to.on;
      laid = to.laid;
    }

lines_laid : (labels : Labels) (lines : List (List ℕ)) (n : ℕ) (s t : Survey) (l k : Layout) → l.progress ≡ s.progress → pass survey_line n lines s ≡ Ok t → pass (lay_line labels) n lines l ≡ Ok k
    → ((name : List ℕ) (a : Place) → t.places name ≡ Some a → labels.places name ≡ Some a) → AreLaid labels lines l k
lines_laid labels [] n s t l k same d e stays = end_same l k _ refl e
lines_laid labels (line ∷ lines) n s t l k same d e stays =
    let b = bind_ok (at_line n (survey_line line s)) (pass survey_line (n + 1) lines) t d in
    let c = bind_ok (at_line n (lay_line labels line l)) (pass (lay_line labels) (n + 1) lines) k e in
    let surveyed = at_line_ok n (survey_line line s) b.0 b.1 in
    let laid = at_line_ok n (lay_line labels line l) c.0 c.1 in
    let later : (name : List ℕ) (a : Place) → b.0.places name ≡ Some a → labels.places name ≡ Some a = λ name a has. stays name a (kept lines (n + 1) name a b.0 t b.2 has).has in (
      c.0,
      line_laid labels line s b.0 l c.0 same (surveyed_to line s b.0 surveyed) (laid_to labels line l c.0 laid) later,
      lines_laid labels lines (n + 1) b.0 t c.0 k (line_keeps labels line s b.0 l c.0 same surveyed laid) b.2 c.2 stays,
    )

unless_ok : (b : Bool) (e : SourceFault) (r : Result Layout SourceFault) (l : Layout) → cond b (Err e) r ≡ Ok l → (b ≡ false) × (r ≡ Ok l)
unless_ok true e r l is = absurd (cc)
unless_ok false e r l is = (refl, is)

layout_of : (source : List ℕ) (s : Survey) (l : Layout) → survey source ≡ Ok s → lay (labels_after s) source ≡ Ok l → nat_lt s.progress.text_size 4 ≡ false → IsLayoutOf source (labels_after s) l
unfolding survey lay
layout_of source s l surveyed laid some = record {
  laid = lines_laid (labels_after s) (lines source) 1 (record { progress = start; places = nowhere }) s (record { progress = start; text = []; data_made = [] }) l refl surveyed laid (λ name a has. has);
  apart = apart_by (lines source) 1 (record { progress = start; places = nowhere }) s surveyed;
  only = only_by (lines source) 1 (record { progress = start; places = nowhere }) s surveyed;
  size = ap (λ (p : Progress). p.text_size) (sym (ends_same (labels_after s) source s l surveyed laid));
  some_word = grind (arith, nat_tests);
}

-- what is assembled is a layout of the source
pub layout_is : (source : List ℕ) (a : Assembled) → assembled source ≡ Ok a → IsLayoutOf source a.labels a.layout
unfolding assembled
layout_is source a e =
    let s = bind_ok (survey source) _ a e in
    let l = bind_ok (cond (nat_lt s.0.progress.text_size 4) (Err (record { line = 0; fault = TooLarge })) (lay (labels_after s.0) source)) (λ l. Ok (record { labels = labels_after s.0; layout = l })) a s.2 in
    let laid = unless_ok (nat_lt s.0.progress.text_size 4) _ (lay (labels_after s.0) source) l.0 l.1 in
    let P : Assembled → Type 0 = λ b. IsLayoutOf source b.labels b.layout in
    subst P (end_same (record { labels = labels_after s.0; layout = l.0 }) a _ refl l.2) (layout_of source s.0 l.0 s.1 laid.1 laid.0)
