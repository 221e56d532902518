-- The report on a machine that has stopped, or was stopped.
use Rattle.std.specs.Prelude.{ℕ, ◌≡◌, ◌++◌, List, [], ◌∷◌, All, codes, decimal, length, true}
use Rattle.std.specs.List.{concat, flat_map, range_with_len}
use Rattle.words.specs.Causes.{cause_number, cause_name}
use Rattle.words.specs.declared.cause.Status.{Status}
use Rattle.words.specs.declared.cause.Status.TheVariants.{Running, Exited, Stopped}
use Rattle.words.specs.declared.entry.Width.TheVariants.{Word}
use Rattle.words.specs.Bytes.{number_at}
use Rattle.flat.specs.State.{Flat, Setting}
use Rattle.flat.specs.Reads.{is_readable}
use Rattle.texts.specs.Numerals.{hexadecimal}

abbrev pub line_end : List ℕ
line_end = 10 ∷ []

-- a hart's output with a line that says how long it is, or nothing where there is none
abbrev pub output_text : ℕ → List ℕ → List ℕ
output_text i [] = []
output_text i (b ∷ bs) = concat (codes "hart " ∷ decimal i ∷ codes " output " ∷ decimal (length (b ∷ bs)) ∷ codes " bytes" ∷ line_end ∷ (b ∷ bs) ∷ line_end ∷ [])

-- whether a hart runs, or how it ended
abbrev pub status_text : ℕ → Status → List ℕ
status_text i Running = concat (codes "hart " ∷ decimal i ∷ codes ": running" ∷ line_end ∷ [])
status_text i (Exited a) = concat (codes "hart " ∷ decimal i ∷ codes ": exit " ∷ decimal a ∷ line_end ∷ [])
status_text i (Stopped cause pc) = concat (codes "hart " ∷ decimal i ∷ codes ": trap " ∷ decimal (cause_number cause) ∷ codes " " ∷ cause_name cause ∷ codes " at 0x" ∷ hexadecimal pc ∷ line_end ∷ [])

-- all that the report says of hart i
abbrev pub hart_text : Flat → ℕ → List ℕ
hart_text f i = output_text i (f.hart i).output ++ status_text i (f.hart i).status

-- the word at an address
abbrev pub word_text : Flat → ℕ → List ℕ
word_text f a = concat (codes "word 0x" ∷ hexadecimal a ∷ codes " = 0x" ∷ hexadecimal (number_at f.mem a Word) ∷ line_end ∷ [])

-- what the report says of the first n harts
abbrev pub harts_text : Flat → ℕ → List ℕ
harts_text f n = flat_map (hart_text f) (range_with_len 0 n)

-- what the report says of some words
abbrev pub words_text : Flat → List ℕ → List ℕ
words_text f words = flat_map (word_text f) words

-- the report: the harts in order, and then the words
abbrev pub report_of : Flat → List ℕ → List ℕ
report_of f words = harts_text f f.setting.count ++ words_text f words

-- each of the words can be read
abbrev pub AllReadable : Setting → List ℕ → Type 0
AllReadable s words = All (λ a. is_readable s a ≡ true) words
