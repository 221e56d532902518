-- The choices of the lines so far.
use Rattle.std.proofs.Common.{◌≡◌, ◌<◌, ◌+◌, ◌++◌, ℕ, Bool, true, false, All, List, [], ◌∷◌, map, filter, take, length, get_or, Option, Some, None, Bor, refl, sym, ap, ap₂, ◌∙◌, cond, is_none, ◌&&◌}
use Rattle.std.proofs.lemmas.List.{take_more, get_or-map, length-map, map-append, append-nil}
use Rattle.std.proofs.Math.Bool.{and-false}
use Rattle.std.proofs.lemmas.List.Elements.{All-more, filter-append}
use Rattle.std.proofs.lemmas.Option.{slice_get-get_or}
use Rattle.schedule.specs.declared.choices.Choice.{Choice}
use Rattle.schedule.specs.Lines.{says, spelled, is_wrong, AreSpelledBy, IsFirstWrong}

abbrev pub NoneWrong : List (List ℕ) → Type 0
NoneWrong lines = All (λ l. is_wrong l ≡ false) lines

abbrev pub texts : List (Bor (List ℕ)) → List (List ℕ)
texts items = map (λ x. x.now) items

-- what says something and spells a choice is right, and so is what says nothing
spelled_right : (line : List ℕ) (choice : Choice) → Some choice ≡ spelled line → is_wrong line ≡ false
spelled_right line choice is = ap (λ (o : Option Choice). says line && is_none o) (sym is) ∙ and-false (says line)

silent_right : (line : List ℕ) → says line ≡ false → is_wrong line ≡ false
silent_right line silent = ap (λ (b : Bool). b && is_none (spelled line)) silent

unspelled_wrong : (line : List ℕ) → says line ≡ true → None ≡ spelled line → is_wrong line ≡ true
unspelled_wrong line said is = ap₂ (λ (b : Bool) (o : Option Choice). b && is_none o) said (sym is)

-- what is read beyond the end
abbrev nothing : Bor (List ℕ)
nothing = record { ref_ptr = (0, 0); now = [] }

-- after a line more
module _ (items : List (Bor (List ℕ))) (i : ℕ) (choices : List Choice) (inside : i < length items) (before : AreSpelledBy (take i (texts items)) choices) (right : NoneWrong (take i (texts items))) where
  within : i < length (texts items)
  within = rw (length-map items (λ (x : Bor (List ℕ)). x.now)) inside

  line_is : get_or (texts items) i nothing.now ≡ (get_or items i nothing).now
  line_is = get_or-map (λ (x : Bor (List ℕ)). x.now) items i nothing nothing.now inside

  one_more : take (i + 1) (texts items) ≡ take i (texts items) ++ (get_or items i nothing).now ∷ []
  one_more = take_more (texts items) i nothing.now within ∙ ap (λ a. take i (texts items) ++ a ∷ []) line_is

  split : (xs : List (List ℕ)) → map spelled (filter says (take i (texts items) ++ xs)) ≡ map Some choices ++ map spelled (filter says xs)
  split xs =
      ap (map spelled) (filter-append says (take i (texts items)) xs) ∙ map-append spelled (filter says (take i (texts items))) (filter says xs)
      ∙ ap (λ ys. ys ++ map spelled (filter says xs)) (sym before)

  both : (said : Bool) → says (get_or items i nothing).now ≡ said → map spelled (filter says (take (i + 1) (texts items))) ≡ map Some choices ++ map spelled (cond said ((get_or items i nothing).now ∷ []) [])
  both said is =
      ap (λ ls. map spelled (filter says ls)) one_more ∙ split ((get_or items i nothing).now ∷ [])
      ∙ ap (λ (b : Bool). map Some choices ++ map spelled (cond b ((get_or items i nothing).now ∷ []) [])) is

  right_more : is_wrong (get_or items i nothing).now ≡ false → NoneWrong (take (i + 1) (texts items))
  right_more here = All-more (λ l. is_wrong l ≡ false) (texts items) i nothing.now within right (ap is_wrong line_is ∙ here)

  pub spelled_more : (choice : Choice) → says (get_or items i nothing).now ≡ true → Some choice ≡ spelled (get_or items i nothing).now
      → AreSpelledBy (take (i + 1) (texts items)) (choices ++ choice ∷ []) × NoneWrong (take (i + 1) (texts items))
  spelled_more choice said is = (
    map-append Some choices (choice ∷ []) ∙ ap (λ (o : Option Choice). map Some choices ++ o ∷ []) is ∙ sym (both true said),
    right_more (spelled_right (get_or items i nothing).now choice is),
  )

  pub silent_more : says (get_or items i nothing).now ≡ false → AreSpelledBy (take (i + 1) (texts items)) choices × NoneWrong (take (i + 1) (texts items))
  silent_more silent = (sym (both false silent ∙ append-nil (map Some choices)), right_more (silent_right (get_or items i nothing).now silent))

  pub first_wrong : says (get_or items i nothing).now ≡ true → None ≡ spelled (get_or items i nothing).now → IsFirstWrong (texts items) (i + 1)
  first_wrong said is = record {
    index = i;
    line = get_or (texts items) i nothing.now;
    place = refl;
    stands = slice_get-get_or (texts items) i nothing.now within;
    here = ap is_wrong line_is ∙ unspelled_wrong (get_or items i nothing).now said is;
    before = right;
  }
