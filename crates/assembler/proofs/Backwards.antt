-- Where a source is laid out, both passes find that.
use Rattle.std.proofs.Common.{◌≡◌, ℕ, ◌+◌, ◌≤◌, Bool, true, false, cond, not, bytes_eq, List, [], ◌∷◌, Option, Some, None, IfSome, Result, Ok, refl, sym, ap, ap₂, subst, ◌∙◌, arith, true≢false}
use mathlib.Core.Path.{fun_ext}
use Rattle.std.specs.Option.{is_some}
use Rattle.std.specs.List.{AllByRecursion}
use Rattle.std.proofs.lemmas.Slice.Eq.{bytes_eq-Decides}
use Rattle.statements.specs.declared.fault.AsmFault.{AsmFault}
use Rattle.statements.specs.declared.fault.AsmFault.TheVariants.{TwiceDefined}
use Rattle.statements.specs.declared.place.Place.{Place}
use Rattle.assembler.specs.declared.progress.Progress.{Progress}
use Rattle.statements.specs.Cutting.{parts_of}
use Rattle.statements.specs.Operands.{◌>>=◌, checked}
use Rattle.statements.specs.Places.{Labels}
use Rattle.assembler.specs.Progress.{here, start}
use Rattle.statements.specs.Statements.{Made, statement_of}
use Rattle.assembler.specs.Passes.{Survey, Layout, lines, behind, with_label, survey_line, lay_line, at_line, pass, nowhere, survey, lay, labels_after, assembled}
use Rattle.statements.specs.Lines.{checked_line, line_of}
use Rattle.assembler.specs.Layouts.{IsLaid, AreLaid, label_of, NoneHas, AreApart, IsLayoutOf}
use Rattle.assembler.proofs.Sizes.{statement_alike, with_made_progress}
use Rattle.assembler.proofs.Earlier.{statement_makes}
use Rattle.assembler.proofs.Layouts.{Places, beside, put_at, kept, only_by}
use Rattle.assembler.proofs.Assembling.{assembled_is}

-- a label that has no place is put

label_put : (label : Option (List ℕ)) (at : Place) (places : Places) → ((name : List ℕ) → label ≡ Some name → places name ≡ None) → (after : Places) × (with_label label at places ≡ Ok after)
label_put None at places fresh = (places, refl)
label_put (Some name) at places fresh = (
  (λ other. cond (bytes_eq name other) (Some at) (places other)),
  ap (λ (o : Option Place). checked (not (is_some o)) TwiceDefined (λ (other : List ℕ). cond (bytes_eq name other) (Some at) (places other))) (fresh name refl),
)

-- a line that is laid passes in both passes

record Passed (labels : Labels) (line : List ℕ) (s : Survey) (l k : Layout) : Type 0 where
  after : Survey
  labelled : with_label (label_of (checked_line line)) (here s.progress) s.places ≡ Ok after.places
  surveyed : survey_line line s ≡ Ok after
  laid : lay_line labels line l ≡ Ok k
  progress : k.progress ≡ after.progress

lay_by : (labels : Labels) (line : List ℕ) (l k : Layout) → (is : IsLaid labels line l k) → lay_line labels line l ≡ Ok k
unfolding lay_line line_of
lay_by labels line l k is = rw (is.short, is.makes, is.follows) (ap (λ (j : Layout). Ok j) is.laid)

survey_by : (line text : List ℕ) (s : Survey) (after : Places) (m : Made) (next : Progress) → checked_line line ≡ Ok text → with_label (parts_of text).label (here s.progress) s.places ≡ Ok after
    → statement_of (here s.progress) None (parts_of text).statement ≡ Ok m → behind m s.progress ≡ Ok next → survey_line line s ≡ Ok (record { progress = next; places = after })
unfolding survey_line
survey_by line text s after m next short labelled makes follows = rw (short, labelled, makes, follows) refl

passed : (labels : Labels) (line : List ℕ) (s : Survey) (l k : Layout) → l.progress ≡ s.progress → IsLaid labels line l k → ((name : List ℕ) → label_of (checked_line line) ≡ Some name → s.places name ≡ None)
    → Passed labels line s l k
passed labels line s l k same is fresh =
    let own : label_of (checked_line line) ≡ (parts_of is.text).label = ap label_of is.short in
    let put = label_put (label_of (checked_line line)) (here s.progress) s.places fresh in
    let makes : statement_of (here s.progress) (Some labels) (parts_of is.text).statement ≡ Ok is.made = ap (λ (p : Progress). statement_of (here p) (Some labels) (parts_of is.text).statement) (sym same) ∙ is.makes in
    let early = statement_makes (here s.progress) labels (parts_of is.text).statement is.made makes in
    let alike = statement_alike (here s.progress) None (Some labels) (parts_of is.text).statement early.0 is.made early.1 makes in
    let follows : behind early.0 s.progress ≡ Ok is.next = alike s.progress ∙ ap (behind is.made) (sym same) ∙ is.follows in
    record {
      after = record { progress = is.next; places = put.0 };
      labelled = put.1;
      surveyed = survey_by line is.text s put.0 early.0 is.next is.short (ap (λ (o : Option (List ℕ)). with_label o (here s.progress) s.places) (sym own) ∙ put.1) early.1 follows;
      laid = lay_by labels line l k is;
      progress = ap (λ (j : Layout). j.progress) (sym is.laid) ∙ with_made_progress l.progress.section is.made is.next l;
    }

-- the labels of lines that have no place yet
abbrev AreFresh : Survey → List (List ℕ) → Type 0
AreFresh s lines = AllByRecursion (λ line. (name : List ℕ) → label_of (checked_line line) ≡ Some name → s.places name ≡ None) lines

still_fresh : (line : List ℕ) (lines : List (List ℕ)) (s t : Survey) (at : Place) → with_label (label_of (checked_line line)) at s.places ≡ Ok t.places
    → ((name : List ℕ) → label_of (checked_line line) ≡ Some name → NoneHas name lines) → AreFresh s lines → AreFresh t lines
still_fresh line [] s t at put apart fresh = tt
still_fresh line (other ∷ lines) s t at put apart fresh = (
  (λ name has. beside (label_of (checked_line line)) name at s.places t.places put (λ own. (apart name own).0 has) ∙ fresh.0 name has),
  still_fresh line lines s t at put (λ name own. (apart name own).1) fresh.1,
)

-- a label has the place of its line in the end

abbrev HasPlace : Labels → Survey → List ℕ → Type 0
HasPlace labels t name = t.places name ≡ labels.places name

same_label : (x y : List ℕ) (o : Option (List ℕ)) → o ≡ Some x → o ≡ Some y → x ≡ y
same_label x y o d e = cc

place_of_line : (labels : Labels) (line name : List ℕ) (lines : List (List ℕ)) (n : ℕ) (after t : Survey) (places : Places) (at : Place) (label : Option (List ℕ))
    → label_of (checked_line line) ≡ label → IfSome label (λ x. labels.places x ≡ Some at) → with_label label at places ≡ Ok after.places → pass survey_line n lines after ≡ Ok t
    → ((NoneHas name lines → HasPlace labels t name) → HasPlace labels t name) → (NoneHas name (line ∷ lines) → HasPlace labels t name) → HasPlace labels t name
place_of_line labels line name lines n after t places at None own placed put e rest none = rest (λ others. none ((λ has. cc), others))
place_of_line labels line name lines n after t places at (Some label) own placed put e rest none = by_test (bytes_eq label name) refl
  where
    by_test : (b : Bool) → bytes_eq label name ≡ b → HasPlace labels t name
    by_test true is =
        let same : label ≡ name = (bytes_eq-Decides label name).0 is in
        let P : List ℕ → Type 0 = λ x. HasPlace labels t x in
        subst P same ((kept lines n label at after t e (put_at label at places after.places put)).has ∙ sym placed)
    by_test false is =
        let differ : label ≡ name → ⊥ = λ same. true≢false (sym ((bytes_eq-Decides label name).1 same) ∙ is) in
        rest (λ others. none ((λ has. differ (same_label label name (label_of (checked_line line)) own has)), others))

-- both passes over lines that are laid

record AllPassed (labels : Labels) (lines : List (List ℕ)) (n : ℕ) (s : Survey) (l k : Layout) : Type 0 where
  end : Survey
  surveyed : pass survey_line n lines s ≡ Ok end
  laid : pass (lay_line labels) n lines l ≡ Ok k
  progress : k.progress ≡ end.progress
  places : (name : List ℕ) → (NoneHas name lines → HasPlace labels end name) → HasPlace labels end name

all_passed : (labels : Labels) (lines : List (List ℕ)) (n : ℕ) (s : Survey) (l k : Layout) → l.progress ≡ s.progress → AreLaid labels lines l k → AreApart lines → AreFresh s lines
    → AllPassed labels lines n s l k
all_passed labels [] n s l k same laid apart fresh =
    record { end = s; surveyed = refl; laid = ap (λ (j : Layout). Ok j) laid; progress = ap (λ (j : Layout). j.progress) (sym laid) ∙ same; places = λ name none. none tt }
all_passed labels (line ∷ lines) n s l k same laid apart fresh =
    let is = laid.1 in
    let a = passed labels line s l laid.0 same is fresh.0 in
    let r = all_passed labels lines (n + 1) a.after laid.0 k a.progress laid.2 apart.1 (still_fresh line lines s a.after (here s.progress) a.labelled apart.0 fresh.1) in
    let Q : Progress → Type 0 = λ p. IfSome (label_of (checked_line line)) (λ name. labels.places name ≡ Some (here p)) in
    let R : Result (List ℕ) AsmFault → Type 0 = λ x. IfSome (label_of x) (λ name. labels.places name ≡ Some (here l.progress)) in
    let placed : IfSome (label_of (checked_line line)) (λ name. labels.places name ≡ Some (here s.progress)) = subst Q same (subst R (sym is.short) is.label) in
    record {
      end = r.end;
      surveyed = ap (λ (x : Result Survey AsmFault). at_line n x >>= pass survey_line (n + 1) lines) a.surveyed ∙ r.surveyed;
      laid = ap (λ (x : Result Layout AsmFault). at_line n x >>= pass (lay_line labels) (n + 1) lines) a.laid ∙ r.laid;
      progress = r.progress;
      places = λ name. place_of_line labels line name lines (n + 1) a.after r.end s.places (here s.progress) (label_of (checked_line line)) refl placed a.labelled r.surveyed (r.places name);
    }

none_placed : (p : Progress) (lines : List (List ℕ)) → AreFresh (record { progress = p; places = nowhere }) lines
none_placed p [] = tt
none_placed p (line ∷ lines) = ((λ name has. refl), none_placed p lines)

-- what is laid out is assembled
pub assembled_back : (source : List ℕ) (labels : Labels) (l : Layout) → IsLayoutOf source labels l → assembled source ≡ Ok (record { labels = labels; layout = l })
unfolding survey lay
assembled_back source labels l is =
    let r = all_passed labels (lines source) 1 (record { progress = start; places = nowhere }) (record { progress = start; text = []; data_made = [] }) l refl is.laid is.apart (none_placed start (lines source)) in
    let places : r.end.places ≡ labels.places = fun_ext (λ name. r.places name (λ none. only_by (lines source) 1 (record { progress = start; places = nowhere }) r.end r.surveyed name none ∙ sym (is.only name none))) in
    let size : r.end.progress.text_size ≡ labels.text_size = ap (λ (p : Progress). p.text_size) (sym r.progress) ∙ sym is.size in
    let same : labels_after r.end ≡ labels = ap₂ (λ (f : Places) (n : ℕ). record { places = f; text_size = n }) places size in
    let P : Labels → Type 0 = λ x. pass (lay_line x) 1 (lines source) (record { progress = start; text = []; data_made = [] }) ≡ Ok l in
    let some : 4 ≤ r.end.progress.text_size = omega (arith, size, is.some_word) in
    assembled_is source r.end (Ok l) r.surveyed some (subst P (sym same) r.laid) ∙ ap (λ (x : Labels). Ok (record { labels = x; layout = l })) same
