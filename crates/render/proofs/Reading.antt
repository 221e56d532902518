-- What a machine's reads answer where they answer.
use Rattle.std.proofs.Common.{◌≡◌, ℕ, ◌<◌, true, cond, Some, None, ap}
use Rattle.std.proofs.lemmas.Bool.{lt-ltb}
use Rattle.words.specs.declared.entry.Width.TheVariants.{Word}
use Rattle.words.specs.Bytes.{number_at}
use Rattle.flat.specs.State.{Flat, Setting}
use Rattle.flat.specs.Reads.{is_readable, word_if, shown, shown_if}

-- the word at an address that can be read
pub word_if-readable : (s : Setting) (mem : ℕ → ℕ) (a : ℕ) → is_readable s a ≡ true → word_if s mem a ≡ Some (number_at mem a Word)
word_if-readable s mem a h = ap (λ b. cond b (Some (number_at mem a Word)) None) h

-- what is shown of a hart
pub shown_if-hart : (f : Flat) (i : ℕ) → i < f.setting.count → shown_if f i ≡ Some (shown (f.hart i))
shown_if-hart f i h = ap (λ b. cond b (Some (shown (f.hart i))) None) (lt-ltb i f.setting.count h)
