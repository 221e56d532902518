-- What holds of the headers of the segments that are loaded.
use Rattle.std.proofs.Common.{ℕ, zero, suc, ◌+◌, ◌<◌, ◌≤◌, List, [], ◌∷◌, length, map, drop, arith}
use Rattle.std.specs.Prelude.{nat_lt, ◌==◌}
use Rattle.std.specs.List.{AllByRecursion, filter}
use Rattle.std.proofs.lemmas.Bool.{and_parts, ltb-true, cond_both}
use Rattle.std.proofs.lemmas.List.{length-take}
use Rattle.loader.specs.declared.headers.SegmentHeader.{SegmentHeader}
use Rattle.loader.specs.Headers.{file_header, headers_from, is_loaded, loaded_headers, segment_header, segment_of}
use Rattle.loader.specs.Programs.{IsSegment}
use Rattle.loader.specs.Elf.{CanLoad}

-- each stands for a byte of memory at least
pub have_bytes : (hs : List SegmentHeader) → AllByRecursion (λ h. 0 < h.memory_size) (filter is_loaded hs)
have_bytes [] = tt
have_bytes (h ∷ hs) =
    cond_both (is_loaded h) (h ∷ filter is_loaded hs) (filter is_loaded hs) (AllByRecursion (λ h. 0 < h.memory_size))
    (λ e. (ltb-true _ _ (and_parts (h.kind == 1) (nat_lt 0 h.memory_size) e).1, have_bytes hs))
    (λ _. have_bytes hs)

pub loaded_have_bytes : (bytes : List ℕ) → AllByRecursion (λ h. 0 < h.memory_size) (loaded_headers bytes)
loaded_have_bytes bytes = have_bytes (headers_from bytes (file_header bytes).table_offset (file_header bytes).table_len)

-- there are no more than there are headers
pub few : (bytes : List ℕ) (at n : ℕ) → length (filter is_loaded (headers_from bytes at n)) ≤ n
few bytes at zero = omega arith
few bytes at (suc n) =
    let h = segment_header bytes at in
    let rest = filter is_loaded (headers_from bytes (at + 32) n) in
    let fewer = few bytes (at + 32) n in
    cond_both (is_loaded h) (h ∷ rest) rest (λ (hs : List SegmentHeader). length hs ≤ suc n) (λ _. omega arith) (λ _. omega arith)

-- the segments of headers that can be loaded are those of a program
pub are_segments : (bytes : List ℕ) (hs : List SegmentHeader) → AllByRecursion (CanLoad bytes) hs → AllByRecursion (λ h. 0 < h.memory_size) hs → AllByRecursion IsSegment (map (segment_of bytes) hs)
are_segments bytes [] can some = tt
are_segments bytes (h ∷ hs) can some =
    let one : IsSegment (segment_of bytes h) = record { some_byte = some.0; given = omega (arith, length-take h.file_size (drop h.offset bytes), can.0.given); end = can.0.end } in
    (one, are_segments bytes hs can.1 some.1)
