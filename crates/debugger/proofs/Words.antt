-- The words behind the first.
use Rattle.std.proofs.Common.{◌≡◌, ◌≤◌, ℕ, false, List, [], ◌∷◌, length, Option, Some, None, Bor, eqb, refl, arith}
use Rattle.std.specs.Option.{option_map}
use Rattle.std.proofs.lemmas.List.Splits.{length-slice_split}
use Rattle.disassembler.specs.Tables.{Table}
use Rattle.schedule.specs.Spelling.{words_of}
use Rattle.debugger.specs.declared.commands.command.Command.TheVariants as command
use Rattle.debugger.specs.Spelling.{words_in, alone, one, run_of, is_comment, spelled, command_of}

-- there is a word, be it empty
some_word : (text : List ℕ) → 1 ≤ length (words_of text)
some_word text = omega (arith, length-slice_split (λ c. eqb c 32) text)

alone_not : {A : Type 0} (words : List (List ℕ)) (meant : A) → 1 ≤ length words → None ≡ alone words meant
alone_not [] meant h = absurd (omega (arith, h))
alone_not (w ∷ ws) meant h = refl

run_number : (words : List (List ℕ)) → 1 ≤ length words → option_map command.Run (one words) ≡ run_of words
run_number [] h = absurd (omega (arith, h))
run_number (w ∷ ws) h = refl

-- where words stand behind the first
pub not_alone : {A : Type 0} (words : Option (Bor (List ℕ))) (text : Bor (List ℕ)) (meant : A) → words ≡ Some text → None ≡ alone (words_in words) meant
not_alone words text meant is = rw is (alone_not (words_of text.now) meant (some_word text.now))

pub run_told : (words : Option (Bor (List ℕ))) (text : Bor (List ℕ)) → words ≡ Some text → option_map command.Run (one (words_in words)) ≡ run_of (words_in words)
run_told words text is = rw is (run_number (words_of text.now) (some_word text.now))

-- a line of these words that is no comment
pub told : (names : Table) (line : List ℕ) (words : List (List ℕ)) → is_comment line ≡ false → words_of line ≡ words → spelled names words ≡ command_of names line
told names line words not is = rw (not, is) refl
