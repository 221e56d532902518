-- Memory as a map from addresses to bytes.
use Rattle.std.specs.Prelude.{ℕ, List, slice_index}

-- the byte at an address; beyond memory there are zeros
abbrev pub mem_of : List ℕ → ℕ → ℕ
mem_of bytes a = slice_index bytes a
