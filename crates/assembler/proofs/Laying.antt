-- A line of the second pass.
use Rattle.std.proofs.Common.{◌≡◌, ℕ, ◌+◌, ◌≤◌, Bool, true, false, cond, nat_le, List, ◌++◌, length, Some, None, Result, Ok, Err, refl, sym, ap, subst, ◌∙◌, arith, length-append}
use Rattle.std.specs.Option.{ok_or}
use Rattle.std.proofs.lemmas.Bool.Decides.{nat_tests}
use Rattle.statements.specs.declared.fault.AsmFault.{AsmFault}
use Rattle.statements.specs.declared.fault.AsmFault.TheVariants.{TooLarge}
use Rattle.statements.specs.declared.place.Place.{Place}
use Rattle.assembler.specs.declared.progress.Progress.{Progress}
use Rattle.statements.specs.declared.place.Section.{Section}
use Rattle.statements.specs.declared.place.Section.TheVariants.{Text, Data}
use Rattle.statements.specs.Operands.{◌>>=◌}
use Rattle.statements.specs.Places.{Labels}
use Rattle.assembler.specs.Progress.{here, with_more, grown}
use Rattle.statements.specs.Statements.{Made}
use Rattle.statements.specs.Statements.Made.{Nothing, Enter, One, Two, Numbers, Zeros}
use Rattle.assembler.specs.Passes.{Layout, size_of, entered, behind, with_made, lay_line}
use Rattle.statements.specs.Lines.{line_of}
use Rattle.statements.specs.Bytes.{AreBytesOf}
use Rattle.assembler.specs.Programs.{IsAppended, IsImageOf}
use Rattle.assembler.proofs.Images.{bytes_more}

-- so many bytes more in a section
abbrev pub IsGrown : Section → ℕ → Progress → Progress → Type 0
IsGrown Text size p q = (q.text_size ≡ p.text_size + size) × (q.data_size ≡ p.data_size)
IsGrown Data size p q = (q.text_size ≡ p.text_size) × (q.data_size ≡ p.data_size + size)

more_is : (s : Section) (size : ℕ) (p : Progress) → IsGrown s size p (with_more s size p)
more_is Text size p = (refl, refl)
more_is Data size p = (refl, refl)

none_is : (s t : Section) (p : Progress) → IsGrown s 0 p (entered t p)
none_is Text t p = (omega arith, refl)
none_is Data t p = (refl, omega arith)

same_ok : (x q : Progress) (r s : Result Progress AsmFault) → r ≡ Ok x → s ≡ Ok q → r ≡ s → x ≡ q
same_ok x q r s d e same = cc

by_test : (b : Bool) (size : ℕ) (p q : Progress) → ok_or (cond b (Some (with_more p.section size p)) None) TooLarge ≡ Ok q → with_more p.section size p ≡ q
by_test true size p q e = same_ok _ q _ _ refl refl e
by_test false size p q e = absurd (cc)

by_size : (size : ℕ) (p q : Progress) → ok_or (grown size p) TooLarge ≡ Ok q → IsGrown p.section size p q
by_size size p q e = let P : Progress → Type 0 = λ r. IsGrown p.section size p r in subst P (by_test _ size p q e) (more_is p.section size p)

pub grown_is : (m : Made) (p q : Progress) → behind m p ≡ Ok q → IsGrown p.section (size_of m) p q
grown_is Nothing p q e = by_size 0 p q e
grown_is (Enter s) p q e = let P : Progress → Type 0 = λ r. IsGrown p.section 0 p r in subst P (same_ok (entered s p) q _ _ refl refl e) (none_is p.section s p)
grown_is (One i) p q e = by_size 4 p q e
grown_is (Two i j) p q e = by_size 8 p q e
grown_is (Numbers w vs) p q e = by_size (size_of (Numbers w vs)) p q e
grown_is (Zeros n) p q e = by_size n p q e

-- text and data don't grow beyond their limit

with_more_fits : (s : Section) (size : ℕ) (p : Progress) → p.text_size + p.data_size + size ≤ 1048576 → (with_more s size p).text_size + (with_more s size p).data_size ≤ 1048576
with_more_fits Text size p h = omega arith
with_more_fits Data size p h = omega arith

by_fit : (b : Bool) (size : ℕ) (p q : Progress) → nat_le (p.text_size + p.data_size + size) 1048576 ≡ b → ok_or (cond b (Some (with_more p.section size p)) None) TooLarge ≡ Ok q
    → q.text_size + q.data_size ≤ 1048576
by_fit true size p q t e =
    let h : p.text_size + p.data_size + size ≤ 1048576 = grind (arith, nat_tests) in
    let P : Progress → Type 0 = λ r. r.text_size + r.data_size ≤ 1048576 in
    subst P (by_test true size p q e) (with_more_fits p.section size p h)
by_fit false size p q t e = absurd (cc)

pub fits_is : (m : Made) (p q : Progress) → behind m p ≡ Ok q → p.text_size + p.data_size ≤ 1048576 → q.text_size + q.data_size ≤ 1048576
fits_is Nothing p q e h = by_fit _ 0 p q refl e
fits_is (Enter s) p q e h = let P : Progress → Type 0 = λ r. r.text_size + r.data_size ≤ 1048576 in subst P (same_ok (entered s p) q _ _ refl refl e) h
fits_is (One i) p q e h = by_fit _ 4 p q refl e
fits_is (Two i j) p q e h = by_fit _ 8 p q refl e
fits_is (Numbers w vs) p q e h = by_fit _ (size_of (Numbers w vs)) p q refl e
fits_is (Zeros n) p q e h = by_fit _ n p q refl e

-- what a line does to a layout, by what it makes
laid_by : (labels : Labels) (line : List ℕ) (l : Layout) (m : Made) (next : Progress) → line_of (here l.progress) (Some labels) line ≡ Ok m → behind m l.progress ≡ Ok next
    → lay_line labels line l ≡ Ok (with_made l.progress.section m next l)
unfolding lay_line
laid_by labels line l m next made on =
    ap (λ (r : Result Made AsmFault). r >>= λ made. behind made l.progress >>= λ next. Ok (with_made l.progress.section made next l)) made
    ∙ ap (λ (r : Result Progress AsmFault). r >>= λ next. Ok (with_made l.progress.section m next l)) on

pub unmade : (labels : Labels) (line : List ℕ) (l : Layout) (e : AsmFault) → line_of (here l.progress) (Some labels) line ≡ Err e → lay_line labels line l ≡ Err e
unfolding lay_line
unmade labels line l e made =
    ap (λ (r : Result Made AsmFault). r >>= λ made. behind made l.progress >>= λ next. Ok (with_made l.progress.section made next l)) made

pub too_large : (labels : Labels) (line : List ℕ) (l : Layout) (m : Made) (e : AsmFault) → line_of (here l.progress) (Some labels) line ≡ Ok m → behind m l.progress ≡ Err e
    → lay_line labels line l ≡ Err e
unfolding lay_line
too_large labels line l m e made on =
    ap (λ (r : Result Made AsmFault). r >>= λ made. behind made l.progress >>= λ next. Ok (with_made l.progress.section made next l)) made
    ∙ ap (λ (r : Result Progress AsmFault). r >>= λ next. Ok (with_made l.progress.section m next l)) on

abbrev pub Laid : Labels → List ℕ → Layout → Progress → List ℕ → List ℕ → Type 0
Laid labels line l next text bytes = (k : Layout) × (lay_line labels line l ≡ Ok k) × (k.progress ≡ next) × IsImageOf k text bytes

pub text_laid : (labels : Labels) (line : List ℕ) (l : Layout) (m : Made) (next : Progress) (text bytes more : List ℕ) → l.progress.section ≡ Text
    → line_of (here l.progress) (Some labels) line ≡ Ok m → behind m l.progress ≡ Ok next → IsImageOf l text bytes → AreBytesOf m more → length more ≡ size_of m
    → Laid labels line l next (text ++ more) bytes
text_laid labels line l m next text bytes more at made on image spelled size =
    let grew : IsGrown Text (size_of m) l.progress next = rw at at (grown_is m l.progress next on) in (
      with_made Text m next l,
      laid_by labels line l m next made on ∙ ap (λ (s : Section). Ok (with_made s m next l)) at,
      refl,
      record {
        text_made = bytes_more l.text m text more image.text_made spelled;
        data_made = image.data_made;
        text_size = length-append text more ∙ omega (arith, image.text_size, size, grew.0);
        data_size = image.data_size ∙ sym grew.1;
        most = fits_is m l.progress next on image.most;
      },
    )

pub data_laid : (labels : Labels) (line : List ℕ) (l : Layout) (m : Made) (next : Progress) (text bytes more : List ℕ) → l.progress.section ≡ Data
    → line_of (here l.progress) (Some labels) line ≡ Ok m → behind m l.progress ≡ Ok next → IsImageOf l text bytes → AreBytesOf m more → length more ≡ size_of m
    → Laid labels line l next text (bytes ++ more)
data_laid labels line l m next text bytes more at made on image spelled size =
    let grew : IsGrown Data (size_of m) l.progress next = rw at at (grown_is m l.progress next on) in (
      with_made Data m next l,
      laid_by labels line l m next made on ∙ ap (λ (s : Section). Ok (with_made s m next l)) at,
      refl,
      record {
        text_made = image.text_made;
        data_made = bytes_more l.data_made m bytes more image.data_made spelled;
        text_size = image.text_size ∙ sym grew.0;
        data_size = length-append bytes more ∙ omega (arith, image.data_size, size, grew.1);
        most = fits_is m l.progress next on image.most;
      },
    )

by_section : (s : Section) (labels : Labels) (line : List ℕ) (l : Layout) (m : Made) (next : Progress) (text bytes new_text new_bytes more : List ℕ) → l.progress.section ≡ s
    → line_of (here l.progress) (Some labels) line ≡ Ok m → behind m l.progress ≡ Ok next → IsImageOf l text bytes → AreBytesOf m more → length more ≡ size_of m
    → IsAppended s more text bytes new_text new_bytes → Laid labels line l next new_text new_bytes
by_section Text labels line l m next text bytes new_text new_bytes more at made on image spelled size put =
    rw (put.0, put.1) (text_laid labels line l m next text bytes more at made on image spelled size)
by_section Data labels line l m next text bytes new_text new_bytes more at made on image spelled size put =
    rw (put.0, put.1) (data_laid labels line l m next text bytes more at made on image spelled size)

-- a line, from where the pass is
module _ (labels : Labels) (line : List ℕ) (l : Layout) (p : Progress) (at : Place) (same : l.progress ≡ p) (here_is : at ≡ here p) where
  made_here : (r : Result Made AsmFault) → line_of at (Some labels) line ≡ r → line_of (here l.progress) (Some labels) line ≡ r
  made_here r made = ap (λ (a : Place). line_of a (Some labels) line) (ap here same ∙ sym here_is) ∙ made

  on_here : (m : Made) (r : Result Progress AsmFault) → behind m p ≡ r → behind m l.progress ≡ r
  on_here m r on = ap (behind m) same ∙ on

  pub laid : (m : Made) (next : Progress) (text bytes new_text new_bytes more : List ℕ) → line_of at (Some labels) line ≡ Ok m → behind m p ≡ Ok next → IsImageOf l text bytes
      → AreBytesOf m more → length more ≡ size_of m → IsAppended p.section more text bytes new_text new_bytes → Laid labels line l next new_text new_bytes
  laid m next text bytes new_text new_bytes more made on image spelled size put =
      by_section p.section labels line l m next text bytes new_text new_bytes more (ap (λ (q : Progress). q.section) same) (made_here (Ok m) made) (on_here m (Ok next) on) image spelled size put

  pub not_made : (e : AsmFault) → line_of at (Some labels) line ≡ Err e → lay_line labels line l ≡ Err e
  not_made e made = unmade labels line l e (made_here (Err e) made)

  pub not_laid : (m : Made) (e : AsmFault) → line_of at (Some labels) line ≡ Ok m → behind m p ≡ Err e → lay_line labels line l ≡ Err e
  not_laid m e made on = too_large labels line l m e (made_here (Ok m) made) (on_here m (Err e) on)
