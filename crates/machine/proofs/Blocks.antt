-- Memory as bytes and as blocks of words.
use Rattle.std.proofs.Common.{◌≡◌, ◌<◌, ◌≤◌, ◌*◌, ℕ, arith, List, length, map, replicate, inl, inr, sym, ◌∙◌}
use Rattle.std.specs.Prelude.{◌⊎◌}
use Rattle.std.specs.List.{range_with_len}
use Rattle.std.proofs.lemmas.Bool.{cases_lt}
use Rattle.std.proofs.lemmas.List.FromFn.{length-map-range_with_len, get_or-map-range_with_len}
use Rattle.words.specs.Limits.{block_bytes, block_words}
use Rattle.loader.specs.Memory.{mem_of}
use Rattle.protocol.specs.Messages.{Block}
use Rattle.protocol.specs.Lines.{words_at}
use Rattle.isolation.proofs.Words.Bytes.{words_same}
use Rattle.machine.specs.States.{words_of}
use Rattle.machine.proofs.Places.{beyond}

-- the first n blocks
abbrev pub blocks_in : List ℕ → ℕ → List Block
blocks_in bytes n = map (words_at (mem_of bytes)) (range_with_len 0 n)

-- beyond memory there are zeros
zeros_past : (bytes : List ℕ) (n b : ℕ) → length bytes ≡ block_bytes * n → n ≤ b → words_at (mem_of bytes) b ≡ replicate block_words 0
zeros_past bytes n b size le = words_same (mem_of bytes) (λ a. 0) b (λ a at. beyond bytes a 0 (omega (arith, size, at, le)))

pub words_in : (bytes : List ℕ) (n b : ℕ) → length bytes ≡ block_bytes * n → words_of (blocks_in bytes n) b ≡ words_at (mem_of bytes) b
words_in bytes n b size = at (cases_lt b n)
  where
    at : (b < n) ⊎ (n ≤ b) → words_of (blocks_in bytes n) b ≡ words_at (mem_of bytes) b
    at (inl lt) = get_or-map-range_with_len (words_at (mem_of bytes)) 0 n b b (replicate block_words 0) lt (omega arith)
    at (inr le) = beyond (blocks_in bytes n) b (replicate block_words 0) (omega (arith, length-map-range_with_len (words_at (mem_of bytes)) 0 n, le)) ∙ sym (zeros_past bytes n b size le)
