-- What the page is told of words of memory.
use Rattle.std.specs.Prelude.{ℕ, ◌++◌, List, [], ◌∷◌, Option, Some, None, codes}
use Rattle.std.specs.List.{concat}
use Rattle.texts.specs.Numerals.{hexadecimal}
use Rattle.flat.specs.Reads.{word_if}
use Rattle.protocol.specs.Values.{raw, peek}
use Rattle.machine.specs.States.{State, setting_of, shown}

abbrev pub digits_item : ℕ → List ℕ
digits_item n = concat (codes "\"" ∷ hexadecimal n ∷ codes "\"," ∷ [])

-- a word that was found, or none
abbrev pub value_item : Option ℕ → List ℕ
value_item None = codes "null,"
value_item (Some v) = digits_item v

-- the word at an address in place, and with all running transactions rolled back; none where none can be read. All messages in flight have lower numbers than the next
abbrev pub raw_at : ℕ → State → ℕ → Option ℕ
raw_at sets m a = word_if (setting_of m) (raw m.sent (shown sets m)) a

abbrev pub peek_at : ℕ → State → ℕ → Option ℕ
peek_at sets m a = word_if (setting_of m) (peek m.sent (shown sets m)) a

abbrev pub word_item : ℕ → State → ℕ → List ℕ
word_item sets m a = value_item (raw_at sets m a) ++ value_item (peek_at sets m a)
