-- The words make a program.
use Rattle.std.proofs.Common.{◌≡◌, ℕ, ◌*◌, ◌≤◌, true, List, [], ◌∷◌, length, take, refl, arith}
use Rattle.std.specs.List.{flat_map}
use Rattle.std.specs.Int.{w32, to_le_bytes}
use Rattle.std.proofs.lemmas.Bool.Decides.{nat_tests}
use Rattle.std.proofs.lemmas.List.{length-take}
use Rattle.table.specs.Program.{holds}
use Rattle.loader.specs.Programs.{IsProgram, IsSegment}
use Rattle.reference.specs.Samples.{text_of, sample_of}

bytes_long : (words : List ℕ) → length (flat_map (to_le_bytes w32) words) ≡ 4 * length words
bytes_long [] = refl
bytes_long (word ∷ words) = omega (arith, bytes_long words)

few_words : (n : ℕ) (words : List ℕ) → length (take n words) ≤ n
few_words n words = omega (arith, length-take n words)

is_segment : (words : List ℕ) → length words ≤ 1047552 → IsSegment (text_of words)
is_segment words few = record { some_byte = omega arith; given = omega (arith, bytes_long words); end = omega arith }

first_word : (words : List ℕ) → holds (text_of words) 4096 4 ≡ true
first_word words = grind (arith, nat_tests)

pub is_program : (words : List ℕ) → IsProgram (sample_of words)
is_program words =
    let some = take 1047552 words in
    record {
      each = (is_segment some (few_words 1047552 words), tt);
      apart = (tt, tt);
      few = omega arith;
      aligned = refl;
      fetched = rw (first_word some) refl;
    }
