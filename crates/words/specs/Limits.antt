-- The sizes of a machine's parts.
use Rattle.std.specs.Prelude.{ℕ}

-- the most harts that a machine has
abbrev pub most_harts : ℕ
most_harts = 8

-- the bytes of a block, and its words
abbrev pub block_bytes : ℕ
block_bytes = 32

abbrev pub block_words : ℕ
block_words = 8

-- the bytes of a hart's undo log, and the most records that it holds
abbrev pub log_bytes : ℕ
log_bytes = 4096

abbrev pub log_records : ℕ
log_records = 113

-- the bytes of a hart's stack
abbrev pub stack_bytes : ℕ
stack_bytes = 4096
