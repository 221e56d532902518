-- A line makes as many bytes with the labels as without them, so the second pass ends where the first did.
use Rattle.std.proofs.Common.{◌≡◌, ℕ, ◌+◌, ◌*◌, ◌==◌, Bool, true, false, cond, List, [], ◌∷◌, ◌++◌, length, Option, Some, None, option_map, Result, Ok, Err, refl, sym, ap, ◌∙◌, arith, length-append}
use Rattle.std.specs.Option.{ok_or}
use Rattle.words.specs.declared.entry.Width.{Width}
use Rattle.words.specs.declared.entry.Width.TheVariants as width
use Rattle.words.specs.Bytes.{bytes_in}
use Rattle.table.specs.declared.instr.Instr.{Instr}
use Rattle.statements.specs.declared.fault.AsmFault.{AsmFault}
use Rattle.statements.specs.declared.fault.AsmFault.TheVariants.{TooLarge}
use Rattle.assembler.specs.declared.fault.SourceFault.{SourceFault}
use Rattle.statements.specs.declared.form.Form.{Form}
use Rattle.statements.specs.declared.form.Form.TheVariants as form
use Rattle.statements.specs.declared.form.Directive as directives
use Rattle.statements.specs.declared.form.Directive.TheVariants as directive
use Rattle.statements.specs.declared.place.Place.{Place}
use Rattle.assembler.specs.declared.progress.Progress.{Progress}
use Rattle.statements.specs.declared.place.Section.{Section}
use Rattle.statements.specs.declared.place.Section.TheVariants.{Text, Data}
use Rattle.statements.specs.Cutting.{cut_word, parts_of, trim}
use Rattle.statements.specs.Forms.{form_named}
use Rattle.statements.specs.Operands.{◌>>=◌, guarded, checked, Find, register, value}
use Rattle.statements.specs.Instructions.{two}
use Rattle.statements.specs.Places.{Labels, find}
use Rattle.assembler.specs.Progress.{here, start, grown}
use Rattle.statements.specs.Statements.{Made, in_two, la_of, datum, read_data, operands, all_found, at_multiple, data_of, obeyed, directive_of, one, by_form, by_name, statement_of}
use Rattle.statements.specs.Statements.Made.{Nothing, One, Numbers}
use Rattle.assembler.specs.Passes.{Survey, Layout, lines, behind, with_label, survey_line, lay_line, with_made, at_line, pass, nowhere, survey, lay}
use Rattle.statements.specs.Lines.{checked_line, line_of}

-- what went before a result that is no fault

pub bind_ok : {A B E : Type 0} (r : Result A E) (f : A → Result B E) (y : B) → (r >>= f) ≡ Ok y → (x : A) × (r ≡ Ok x) × (f x ≡ Ok y)
bind_ok (Ok x) f y e = (x, refl, e)
bind_ok (Err d) f y e = absurd (cc)

pub guarded_ok : {A : Type 0} (b : Bool) (d : AsmFault) (r : Result A AsmFault) (y : A) → guarded b d r ≡ Ok y → (b ≡ true) × (r ≡ Ok y)
guarded_ok true d r y e = (refl, e)
guarded_ok false d r y e = absurd (cc)

pub checked_ok : {A : Type 0} (b : Bool) (d : AsmFault) (x y : A) → checked b d x ≡ Ok y → (b ≡ true) × (x ≡ y)
checked_ok true d x y e = (refl, cc)
checked_ok false d x y e = absurd (cc)

pub ok_same : {A : Type 0} (x y : A) (r : Result A AsmFault) → r ≡ Ok x → r ≡ Ok y → x ≡ y
ok_same x y r d e = cc

-- so many bytes are made, and no section is entered
abbrev IsPlain : ℕ → Made → Type 0
IsPlain size m = (p : Progress) → behind m p ≡ ok_or (grown size p) TooLarge

-- after both the next line stands in the same place
abbrev pub AreAlike : Made → Made → Type 0
AreAlike m n = (p : Progress) → behind m p ≡ behind n p

plain_alike : (size : ℕ) (m n : Made) → IsPlain size m → IsPlain size n → AreAlike m n
plain_alike size m n a b p = a p ∙ sym (b p)

same_alike : (m n : Made) (r : Result Made AsmFault) → r ≡ Ok m → r ≡ Ok n → AreAlike m n
same_alike m n r e f p = ap (λ (k : Made). behind k p) (ok_same m n r e f)

one_plain : (r : Result Instr AsmFault) (m : Made) → one r ≡ Ok m → IsPlain 4 m
one_plain (Ok i) m e p = ap (λ (k : Made). behind k p) (sym (ok_same (One i) m _ refl e))
one_plain (Err d) m e p = absurd (cc)

la_plain : (find : Find) (text : List ℕ) (m : Made) → la_of find text ≡ Ok m → IsPlain 8 m
unfolding la_of
la_plain find text m e p =
    let a = bind_ok (two text) (λ x. register x.0 >>= λ rd. value find x.1 >>= λ v. Ok (in_two rd v)) m e in
    let b = bind_ok (register a.0.0) (λ rd. value find a.0.1 >>= λ v. Ok (in_two rd v)) m a.2 in
    let c = bind_ok (value find a.0.1) (λ v. Ok (in_two b.0 v)) m b.2 in
    ap (λ (k : Made). behind k p) (sym (ok_same (in_two b.0 c.0) m _ refl c.2))

read_length : (find : Find) (w : Width) (texts : List (List ℕ)) (vs r : List ℕ) → read_data find w vs texts ≡ Ok r → length r ≡ length vs + length texts
read_length find w [] vs r e = ap length (sym (ok_same vs r _ refl e)) ∙ omega arith
read_length find w (t ∷ ts) vs r e =
    let a = bind_ok (datum find w (trim t)) (λ v. read_data find w (vs ++ v ∷ []) ts) r e in
    read_length find w ts (vs ++ a.0 ∷ []) r a.2 ∙ omega (arith, length-append vs (a.0 ∷ []))

data_plain : (w : Width) (at : Place) (find : Find) (text : List ℕ) (m : Made) → data_of w at find text ≡ Ok m → IsPlain (bytes_in w * length (operands text)) m
unfolding data_of
data_plain w at find text m e p =
    let a = guarded_ok (all_found find (operands text)) _ (at_multiple w at (read_data find w [] (operands text))) m e in
    let b = bind_ok (read_data find w [] (operands text)) _ m a.1 in
    let c = checked_ok _ _ (Numbers w b.0) m b.2 in
    let long : length b.0 ≡ length (operands text) = read_length find w (operands text) [] b.0 b.1 ∙ omega arith in
    ap (λ (k : Made). behind k p) (sym c.1) ∙ ap (λ n. ok_or (grown (bytes_in w * n) p) TooLarge) long

obeyed_alike : (op : directives.Directive) (at : Place) (f g : Find) (text : List ℕ) (m n : Made) → obeyed op at f text ≡ Ok m → obeyed op at g text ≡ Ok n → AreAlike m n
obeyed_alike directive.Word at f g text m n d e = plain_alike _ m n (data_plain width.Word at f text m d) (data_plain width.Word at g text n e)
obeyed_alike directive.Half at f g text m n d e = plain_alike _ m n (data_plain width.Half at f text m d) (data_plain width.Half at g text n e)
obeyed_alike directive.Byte at f g text m n d e = plain_alike _ m n (data_plain width.Byte at f text m d) (data_plain width.Byte at g text n e)
obeyed_alike op at f g text m n d e = same_alike m n _ d e

directive_alike : (op : directives.Directive) (at : Place) (f g : Find) (text : List ℕ) (m n : Made) → directive_of op at f text ≡ Ok m → directive_of op at g text ≡ Ok n → AreAlike m n
unfolding directive_of
directive_alike op at f g text m n d e = obeyed_alike op at f g text m n (guarded_ok _ _ (obeyed op at f text) m d).1 (guarded_ok _ _ (obeyed op at g text) n e).1

form_alike : (op : Form) (at : Place) (f g : Option Labels) (text : List ℕ) (m n : Made) → by_form op at f text ≡ Ok m → by_form op at g text ≡ Ok n → AreAlike m n
form_alike (form.Directive op) at f g text m n d e = directive_alike op at (option_map find f) (option_map find g) text m n d e
form_alike form.Li at f g text m n d e = same_alike m n _ d e
form_alike form.La at f g text m n d e = plain_alike 8 m n (la_plain (option_map find f) text m (guarded_ok _ _ (la_of (option_map find f) text) m d).1) (la_plain (option_map find g) text n (guarded_ok _ _ (la_of (option_map find g) text) n e).1)
form_alike op at f g text m n d e = plain_alike 4 m n (one_plain _ m (guarded_ok _ _ (one _) m d).1) (one_plain _ n (guarded_ok _ _ (one _) n e).1)

name_alike : (op : Option Form) (name : List ℕ) (at : Place) (f g : Option Labels) (text : List ℕ) (m n : Made) → by_name op name at f text ≡ Ok m → by_name op name at g text ≡ Ok n → AreAlike m n
name_alike None name at f g text m n d e = absurd (cc)
name_alike (Some op) name at f g text m n d e = form_alike op at f g text m n d e

either : (b : Bool) (x r s : Result Made AsmFault) (m n : Made) → (r ≡ Ok m → s ≡ Ok n → AreAlike m n) → cond b x r ≡ Ok m → cond b x s ≡ Ok n → AreAlike m n
either true x r s m n h d e = same_alike m n x d e
either false x r s m n h d e = h d e

pub statement_alike : (at : Place) (f g : Option Labels) (text : List ℕ) (m n : Made) → statement_of at f text ≡ Ok m → statement_of at g text ≡ Ok n → AreAlike m n
unfolding statement_of
statement_alike at f g text m n d e =
    either (length text == 0) (Ok Nothing) (by_name (form_named (cut_word text).0) (cut_word text).0 at f (cut_word text).1) (by_name (form_named (cut_word text).0) (cut_word text).0 at g (cut_word text).1) m n (name_alike (form_named (cut_word text).0) (cut_word text).0 at f g (cut_word text).1 m n) d e

-- lines

pub with_made_progress : (s : Section) (m : Made) (next : Progress) (l : Layout) → (with_made s m next l).progress ≡ next
with_made_progress Text m next l = refl
with_made_progress Data m next l = refl

-- how far the pass has come behind a line
pub record LaidTo (labels : Labels) (line : List ℕ) (l k : Layout) : Type 0 where
  pub text : List ℕ
  pub made : Made
  pub checked : checked_line line ≡ Ok text
  pub is : statement_of (here l.progress) (Some labels) (parts_of text).statement ≡ Ok made
  pub on : behind made l.progress ≡ Ok k.progress
  pub laid : with_made l.progress.section made k.progress l ≡ k

pub laid_to : (labels : Labels) (line : List ℕ) (l k : Layout) → lay_line labels line l ≡ Ok k → LaidTo labels line l k
unfolding lay_line line_of
laid_to labels line l k e =
    let a = bind_ok (checked_line line >>= λ text. statement_of (here l.progress) (Some labels) (parts_of text).statement) _ k e in
    let b = bind_ok (checked_line line) _ a.0 a.1 in
    let c = bind_ok (behind a.0 l.progress) (λ next. Ok (with_made l.progress.section a.0 next l)) k a.2 in
    let whole : with_made l.progress.section a.0 c.0 l ≡ k = ok_same _ k _ refl c.2 in
    let next : c.0 ≡ k.progress = sym (with_made_progress l.progress.section a.0 c.0 l) ∙ ap (λ (j : Layout). j.progress) whole in
    record {
      text = b.0;
      made = a.0;
      checked = b.1;
      is = b.2;
      on = c.1 ∙ ap (λ (p : Progress). Ok p) next;
      laid = ap (λ (p : Progress). with_made l.progress.section a.0 p l) (sym next) ∙ whole;
    }

pub record SurveyedTo (line : List ℕ) (s t : Survey) : Type 0 where
  pub text : List ℕ
  pub made : Made
  pub checked : checked_line line ≡ Ok text
  pub labelled : with_label (parts_of text).label (here s.progress) s.places ≡ Ok t.places
  pub is : statement_of (here s.progress) None (parts_of text).statement ≡ Ok made
  pub on : behind made s.progress ≡ Ok t.progress

pub surveyed_to : (line : List ℕ) (s t : Survey) → survey_line line s ≡ Ok t → SurveyedTo line s t
unfolding survey_line
surveyed_to line s t e =
    let a = bind_ok (checked_line line) _ t e in
    let b = bind_ok (with_label (parts_of a.0).label (here s.progress) s.places) _ t a.2 in
    let c = bind_ok (statement_of (here s.progress) None (parts_of a.0).statement) _ t b.2 in
    let d = bind_ok (behind c.0 s.progress) (λ next. Ok (record { progress = next; places = b.0 })) t c.2 in
    let whole : record { progress = d.0; places = b.0 } ≡ t = ok_same _ t _ refl d.2 in
    record {
      text = a.0;
      made = c.0;
      checked = a.1;
      labelled = b.1 ∙ ap (λ (u : Survey). Ok u.places) whole;
      is = c.1;
      on = d.1 ∙ ap (λ (u : Survey). Ok u.progress) whole;
    }

same_progress : (x y : Progress) (r : Result Progress AsmFault) → r ≡ Ok x → r ≡ Ok y → x ≡ y
same_progress x y r d e = cc

pub line_keeps : (labels : Labels) (line : List ℕ) (s t : Survey) (l k : Layout) → l.progress ≡ s.progress → survey_line line s ≡ Ok t → lay_line labels line l ≡ Ok k → k.progress ≡ t.progress
line_keeps labels line s t l k same d e =
    let a = surveyed_to line s t d in
    let b = laid_to labels line l k e in
    let text : a.text ≡ b.text = ok_same a.text b.text _ a.checked b.checked in
    let made : statement_of (here s.progress) (Some labels) (parts_of a.text).statement ≡ Ok b.made = ap (λ (p : Progress). statement_of (here p) (Some labels) (parts_of a.text).statement) (sym same) ∙ ap (λ (t : List ℕ). statement_of (here l.progress) (Some labels) (parts_of t).statement) text ∙ b.is in
    let alike = statement_alike (here s.progress) None (Some labels) (parts_of a.text).statement a.made b.made a.is made in
    same_progress k.progress t.progress (behind b.made s.progress) (ap (behind b.made) (sym same) ∙ b.on) (sym (alike s.progress) ∙ a.on)

pub end_same : {A : Type 0} (x y : A) (r : Result A SourceFault) → r ≡ Ok x → r ≡ Ok y → x ≡ y
end_same x y r d e = cc

pub at_line_ok : {A : Type 0} (n : ℕ) (r : Result A AsmFault) (x : A) → at_line n r ≡ Ok x → r ≡ Ok x
at_line_ok n (Ok y) x e = ap (λ z. Ok z) (end_same y x _ refl e)
at_line_ok n (Err d) x e = absurd (cc)

pass_keeps : (labels : Labels) (lines : List (List ℕ)) (n : ℕ) (s t : Survey) (l k : Layout) → l.progress ≡ s.progress → pass survey_line n lines s ≡ Ok t → pass (lay_line labels) n lines l ≡ Ok k → k.progress ≡ t.progress
pass_keeps labels [] n s t l k same d e =
    let a : s ≡ t = end_same s t _ refl d in
    let b : l ≡ k = end_same l k _ refl e in
    ap (λ (j : Layout). j.progress) (sym b) ∙ same ∙ ap (λ (u : Survey). u.progress) a
pass_keeps labels (line ∷ lines) n s t l k same d e =
    let a = bind_ok (at_line n (survey_line line s)) (pass survey_line (n + 1) lines) t d in
    let b = bind_ok (at_line n (lay_line labels line l)) (pass (lay_line labels) (n + 1) lines) k e in
    pass_keeps labels lines (n + 1) a.0 t b.0 k (line_keeps labels line s a.0 l b.0 same (at_line_ok n _ a.0 a.1) (at_line_ok n _ b.0 b.1)) a.2 b.2

-- both passes end in the same place
pub ends_same : (labels : Labels) (source : List ℕ) (s : Survey) (l : Layout) → survey source ≡ Ok s → lay labels source ≡ Ok l → l.progress ≡ s.progress
unfolding survey lay
ends_same labels source s l d e =
    pass_keeps labels (lines source) 1 (record { progress = start; places = nowhere }) s (record { progress = start; text = []; data_made = [] }) l refl d e
