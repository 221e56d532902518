-- The file that a program is written as is that program.
use Rattle.std.proofs.Common.{◌≡◌, ℕ, ◌+◌, ◌*◌, ◌/◌, ◌%◌, ◌^◌, ◌≤◌, ◌<◌, ◌&&◌, Bool, true, false, if◌then◌else◌, List, [], ◌∷◌, ◌++◌, length, map, refl, sym, ap, subst, ◌∙◌, arith, length-append, inl, inr}
use Rattle.std.specs.Prelude.{IsSome, ◌==◌}
use Rattle.std.specs.List.{AllByRecursion, filter, flat_map}
use Rattle.std.proofs.lemmas.Bool.{cases_Bool, and_parts, or_right}
use Rattle.std.proofs.lemmas.Bool.Decides.{nat_tests}
use Rattle.table.specs.Program.{Segment, holds, word_at}
use Rattle.loader.specs.declared.headers.FileHeader.{FileHeader}
use Rattle.loader.specs.Headers.{loaded_headers, segments_of, segment_of, is_loaded, file_end, headers_from, has_sizes, table_end}
use Rattle.loader.specs.Programs.{Program, IsSegment, IsProgram}
use Rattle.loader.specs.Elf.{CanLoad, IsElfOf}
use Rattle.loader.specs.Writing.{ident_bytes, field_bytes, file_fields, table_fields, contents, elf_of}
use Rattle.loader.proofs.Room.{contents_fit}
use Rattle.loader.proofs.Written.{header_of, headers_of, header_read, table_read, contents_read, all_loaded}

-- a program's entry lies within 4 MiB
entry_fits : (ss : List Segment) (entry : ℕ) → AllByRecursion IsSegment ss → IsSome (word_at ss entry) → entry < 2 ^ 32
entry_fits [] entry each some = absurd cc
entry_fits (s ∷ ss) entry each some =
    elim (cases_Bool (s.exec && holds s entry 4)) [
      | inl here ↦ let held = (and_parts s.exec (holds s entry 4) here).1 in let end = each.0.end in grind (arith, nat_tests)
      | inr past ↦ entry_fits ss entry each.1 (rw past at some)
    ]

-- what stands in the file before the segments' headers, and before their bytes
abbrev head : Program → List ℕ
head p = ident_bytes ++ flat_map field_bytes (file_fields p.entry (length p.segments))

abbrev table : Program → List ℕ
table p = flat_map field_bytes (table_fields (52 + 32 * length p.segments) p.segments)

table_long : (offset : ℕ) (ss : List Segment) → length (flat_map field_bytes (table_fields offset ss)) ≡ 32 * length ss
table_long offset [] = refl
table_long offset (s ∷ ss) = omega (arith, table_long (offset + length s.bytes) ss)

front_long : (p : Program) → length (head p ++ table p) ≡ 52 + 32 * length p.segments
front_long p = omega (arith, table_long (52 + 32 * length p.segments) p.segments)

file_long : (p : Program) → length (elf_of p) ≡ 52 + 32 * length p.segments + length (contents p.segments)
file_long p = omega (arith, length-append (head p ++ table p) (contents p.segments), front_long p)

table_within : (p : Program) → (if length p.segments == 0 then 0 else 52 + 32 * length p.segments) ≤ length (elf_of p)
table_within p = let long = file_long p in grind (arith, nat_tests)

-- text is not written, and data is not executed
one_use : (exec : Bool) → ((if exec then 5 else 6) / 2 % 2 == 1) ≡ true → ((if exec then 5 else 6) % 2 == 1) ≡ true → ⊥
one_use true w x = absurd cc
one_use false w x = absurd cc

-- each header that is read can be loaded
can_load : (bytes : List ℕ) (offset : ℕ) (ss : List Segment) → AllByRecursion IsSegment ss → offset + length (contents ss) ≤ length bytes
    → AllByRecursion (CanLoad bytes) (headers_of offset ss)
can_load bytes offset [] each le = tt
can_load bytes offset (s ∷ ss) each le =
    let long = length-append s.bytes (contents ss) in
    let in_file : file_end (header_of offset s) ≤ length bytes = grind (arith, nat_tests) in
    let others = can_load bytes (offset + length s.bytes) ss each.1 (omega (arith, long, le)) in
    (record { in_file = in_file; given = each.0.given; end = each.0.end; one_use = one_use s.exec }, others)

-- the headers that are read, and what they stand for
headers_loaded : (p : Program) → IsProgram p → loaded_headers (elf_of p) ≡ headers_of (52 + 32 * length p.segments) p.segments
headers_loaded p sound =
    let bytes = elf_of p in
    let offset = 52 + 32 * length p.segments in
    let header = header_read p (entry_fits p.segments p.entry sound.each sound.fetched) (omega (arith, sound.few)) in
    let within : offset + length (contents p.segments) < 2 ^ 32 = omega (arith, sound.few, contents_fit p sound) in
    ap (λ (h : FileHeader). filter is_loaded (headers_from bytes h.table_offset h.table_len)) header
    ∙ ap (filter is_loaded) (table_read bytes (head p) (contents p.segments) offset p.segments sound.each within refl)
    ∙ all_loaded offset p.segments sound.each

segments_read : (p : Program) → IsProgram p → segments_of (elf_of p) ≡ p.segments
segments_read p sound =
    let bytes = elf_of p in
    ap (map (segment_of bytes)) (headers_loaded p sound)
    ∙ ap (λ n. map (segment_of bytes) (headers_of n p.segments)) (sym (front_long p))
    ∙ contents_read bytes (head p ++ table p) p.segments refl

pub round_trip : (p : Program) → IsProgram p → IsElfOf (elf_of p) p
round_trip p sound =
    let bytes = elf_of p in
    let header = header_read p (entry_fits p.segments p.entry sound.each sound.fetched) (omega (arith, sound.few)) in
    let offset = 52 + 32 * length p.segments in
    record {
      long = omega arith;
      elf32 = refl;
      machine = refl;
      kind = refl;
      plain = refl;
      sizes = ap has_sizes header ∙ or_right (length p.segments == 0) true refl;
      table = subst (λ h. table_end h ≤ length bytes) (sym header) (table_within p);
      each = subst (AllByRecursion (CanLoad bytes)) (sym (headers_loaded p sound)) (can_load bytes offset p.segments sound.each (omega (arith, file_long p)));
      entry = sym (ap (λ (h : FileHeader). h.entry) header);
      segments = sym (segments_read p sound);
      apart = sound.apart;
      aligned = sound.aligned;
      fetched = sound.fetched;
    }
