-- Digits are text.
use Rattle.std.proofs.Common.{ℕ, List, IsAscii, IsUtf8}
use Rattle.std.proofs.lemmas.Str.{IsUtf8-from_ascii}

pub ascii_text : (bs : List ℕ) → IsAscii bs → IsUtf8 bs
ascii_text bs h = IsUtf8-from_ascii bs h
