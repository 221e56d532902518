-- The lines of choices, one after another.
use Rattle.std.proofs.Common.{◌≡◌, ◌++◌, ◌==◌, Bool, cond, All, IsAscii, IsUtf8, List, [], ◌∷◌, map, filter, Option, codes, refl, sym, ap, ap₂, ◌∙◌, append_assoc, arith}
use Rattle.std.proofs.lemmas.List.Elements.{All-head, All-tail}
use Rattle.std.proofs.lemmas.List.Splits.{slice_split_at}
use Rattle.std.proofs.lemmas.Str.{IsUtf8-from_ascii, IsAscii-append}
use Rattle.std.proofs.lemmas.Str.Ascii.{IsAscii-nil, IsAscii-push, IsAscii-from_all}
use Rattle.schedule.specs.declared.choices.Choice.{Choice}
use Rattle.schedule.specs.Lines.{lines_of, says, spelled, AreSpelledBy}
use Rattle.schedule.specs.Written.{line_of, text_of, IsReadable}
use Rattle.schedule.proofs.LineWords.{one_line}
use Rattle.schedule.proofs.Spelled.{is_spelled, is_said, is_printed}

ascii : (cs : List Choice) → All IsReadable cs → IsAscii (text_of cs)
ascii [] h = IsAscii-nil
ascii (c ∷ cs) h =
    let line = is_printed c (All-head IsReadable c cs h) in
    IsAscii-append (line_of c ++ codes "\n") (text_of cs)
    (IsAscii-push (line_of c) 10 (IsAscii-from_all (line_of c) (λ k d lt. (line k d lt).1)) (omega arith)) (ascii cs (All-tail IsReadable c cs h))

pub is_text : (cs : List Choice) → All IsReadable cs → IsUtf8 (text_of cs)
is_text cs h = IsUtf8-from_ascii (text_of cs) (ascii cs h)

-- the first line, and the others
first_line : (c : Choice) (cs : List Choice) → IsReadable c → lines_of (text_of (c ∷ cs)) ≡ line_of c ∷ lines_of (text_of cs)
first_line c cs readable =
    ap lines_of (append_assoc (line_of c) (codes "\n") (text_of cs))
    ∙ slice_split_at (λ x. x == 10) (line_of c) 10 (text_of cs) (one_line (line_of c) (is_printed c readable)) refl

pub are_spelled : (cs : List Choice) → All IsReadable cs → AreSpelledBy (lines_of (text_of cs)) cs
are_spelled [] h = refl
are_spelled (c ∷ cs) h =
    let readable = All-head IsReadable c cs h in
    let rest = lines_of (text_of cs) in
    ap₂ (λ (o : Option Choice) (os : List (Option Choice)). o ∷ os) (sym (is_spelled c readable)) (are_spelled cs (All-tail IsReadable c cs h))
    ∙ ap (λ (b : Bool). map spelled (cond b (line_of c ∷ filter says rest) (filter says rest))) (sym (is_said c readable))
    ∙ ap (λ ls. map spelled (filter says ls)) (sym (first_line c cs readable))
