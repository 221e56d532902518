-- The reports on all flat states that belong to one machine are the same.
use Rattle.std.proofs.Common.{◌≡◌, ℕ, List, ◌∷◌, [], ◌++◌, codes, sym, ap, ◌∙◌}
use Rattle.std.specs.List.{concat, flat_map, range_with_len}
use Rattle.words.specs.declared.entry.Width.TheVariants.{Word}
use Rattle.words.specs.Bytes.{number_at}
use Rattle.flat.specs.State.{Setting, Flat}
use Rattle.texts.specs.Numerals.{hexadecimal}
use Rattle.protocol.specs.Caches.{Geometry}
use Rattle.protocol.specs.Machine.{Machine}
use Rattle.isolation.specs.Belongs.{Belongs}
use Rattle.isolation.proofs.Belongs.Belonging.{inv_of, answers_after}
use Rattle.isolation.proofs.Rooms.StepsExist.{keys_of}
use Rattle.render.specs.Reports.{line_end, output_text, status_text, report_of}

-- a report says no more than the number of harts, their outputs and statuses, and memory
pub same_told : (f h : Flat) (words : List ℕ) → f.setting.count ≡ h.setting.count → ((i : ℕ) → (f.hart i).output ≡ (h.hart i).output) → ((i : ℕ) → (f.hart i).status ≡ (h.hart i).status)
    → ((a : ℕ) → f.mem a ≡ h.mem a) → report_of f words ≡ report_of h words
same_told f h words count outputs statuses mem = λ j.
    flat_map (λ i. output_text i (outputs i j) ++ status_text i (statuses i j)) (range_with_len 0 (count j))
    ++ flat_map (λ a. concat (codes "word 0x" ∷ hexadecimal a ∷ codes " = 0x" ∷ hexadecimal (number_at (λ b. mem b j) a Word) ∷ line_end ∷ [])) words

pub same_report : (g : Geometry) (f h : Flat) (w : Machine) (words : List ℕ) → Belongs g f w → Belongs g h w → report_of f words ≡ report_of h words
same_report g f h w words b d =
    let keys = keys_of g f w b in
    let one = answers_after g f w keys.0 b keys.1 in
    let two = answers_after g h w keys.0 d keys.1 in
    same_told f h words
    (ap (λ (s : Setting). s.count) ((inv_of g f w b).1.same ∙ sym (inv_of g h w d).1.same))
    (λ i. sym (one.harts i).output ∙ (two.harts i).output)
    (λ i. sym (one.harts i).status ∙ (two.harts i).status)
    (λ a. sym (one.peek a) ∙ two.peek a)
