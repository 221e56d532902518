-- A file is a program if and only if no check finds a fault, and it is then one program.
use Rattle.std.proofs.Common.{◌≡◌, ℕ, ◌%◌, ◌<◌, true, false, not, List, [], ◌∷◌, ◌++◌, get_or, None, refl, sym, ap, subst, ◌∙◌, arith}
use Rattle.std.specs.Prelude.{◌==◌}
use Rattle.std.specs.List.{flat_map}
use Rattle.std.specs.Option.{is_some}
use Rattle.std.proofs.lemmas.Bool.{not-false, and_parts, and_from, eqb-true, eq-eqb}
use Rattle.std.proofs.lemmas.List.{length-map}
use Rattle.table.specs.Program.{word_at}
use Rattle.loader.specs.Headers.{file_header, loaded_headers, segment_of, segments_of}
use Rattle.words.specs.First.{first}
use Rattle.loader.specs.Checks.{file_checks, segment_checks, some_share, table_checks, can_begin, entry_checks, fault_of}
use Rattle.loader.specs.declared.fault.LoadFault.TheVariants.{SegmentOverlap}
use Rattle.loader.specs.Programs.{Program, AreApart, IsProgram}
use Rattle.loader.specs.Elf.{IsElfOf, program_of}
use Rattle.loader.proofs.Found.{first-all_false, all_false-first, first-append_none, first-append_parts}
use Rattle.loader.proofs.Table.{found_in}
use Rattle.loader.proofs.Apart.{apart_all, share_none_all}
use Rattle.loader.proofs.Loaded.{loaded_have_bytes, few, are_segments}
use Rattle.loader.proofs.Passed.{HasHeader, header_clean, header_passes, each_clean, each_passes}

-- no fault in the file's header, in the segments or in the entry
pub record IsClean (bytes : List ℕ) : Type 0 where
  pub header : first (file_checks bytes) ≡ None
  pub table : first (table_checks bytes) ≡ None
  pub entry : can_begin (file_header bytes).entry (segments_of bytes) ≡ true

-- which says no less, and no more, than that no fault is found
pub IsClean-from : (bytes : List ℕ) → fault_of bytes ≡ None → IsClean bytes
IsClean-from bytes e =
    let p = first-append_parts (file_checks bytes) (table_checks bytes ++ entry_checks bytes) e in
    let q = first-append_parts (table_checks bytes) (entry_checks bytes) p.1 in
    let t = first-all_false (entry_checks bytes) q.1 in
    record { header = p.0; table = q.0; entry = not-false (can_begin (file_header bytes).entry (segments_of bytes)) t.0 }

pub IsClean-to : (bytes : List ℕ) → IsClean bytes → fault_of bytes ≡ None
IsClean-to bytes h =
    first-append_none (file_checks bytes) (table_checks bytes ++ entry_checks bytes) h.header
    ∙ first-append_none (table_checks bytes) (entry_checks bytes) h.table
    ∙ all_false-first (entry_checks bytes) (ap not h.entry, tt)

-- the segments have no fault if and only if none has and no two share a byte
pub table_parts : (bytes : List ℕ) → first (table_checks bytes) ≡ None → (found_in bytes (loaded_headers bytes) ≡ None) × (some_share (loaded_headers bytes) ≡ false)
table_parts bytes e =
    let apart = (some_share (loaded_headers bytes), SegmentOverlap) ∷ [] in
    let p = first-append_parts (flat_map (segment_checks bytes) (loaded_headers bytes)) apart e in
    (p.0, (first-all_false apart p.1).0)

pub table_passes : (bytes : List ℕ) → found_in bytes (loaded_headers bytes) ≡ None → some_share (loaded_headers bytes) ≡ false → first (table_checks bytes) ≡ None
table_passes bytes each apart =
    let last = (some_share (loaded_headers bytes), SegmentOverlap) ∷ [] in
    first-append_none (flat_map (segment_checks bytes) (loaded_headers bytes)) last each ∙ all_false-first last (apart, tt)

-- a file without a fault is the program that its fields give
pub IsElfOf-clean : (bytes : List ℕ) → fault_of bytes ≡ None → IsElfOf bytes (program_of bytes)
IsElfOf-clean bytes e =
    let clean = IsClean-from bytes e in
    let h = header_clean bytes clean.header in
    let t = table_parts bytes clean.table in
    let entry = (file_header bytes).entry in
    let begin = and_parts (entry % 4 == 0) (is_some (word_at (segments_of bytes) entry)) clean.entry in
    record {
      long = h.long;
      elf32 = h.elf32;
      machine = h.machine;
      kind = h.kind;
      plain = h.plain;
      sizes = h.sizes;
      table = h.table;
      each = each_clean bytes (loaded_headers bytes) t.0;
      entry = refl;
      segments = refl;
      apart = apart_all bytes (loaded_headers bytes) t.1;
      aligned = eqb-true _ _ begin.0;
      fetched = begin.1;
    }

-- a file is no other program
pub IsElfOf-one : (bytes : List ℕ) (p : Program) → IsElfOf bytes p → p ≡ program_of bytes
IsElfOf-one bytes p elf = λ k. record { entry = elf.entry k; segments = elf.segments k }

-- a file that is a program has no fault
pub IsElfOf-passes : (bytes : List ℕ) (p : Program) → IsElfOf bytes p → fault_of bytes ≡ None
IsElfOf-passes bytes p elf =
    let hs = loaded_headers bytes in
    let entry = (file_header bytes).entry in
    let header : HasHeader bytes = record { long = elf.long; elf32 = elf.elf32; machine = elf.machine; kind = elf.kind; plain = elf.plain; sizes = elf.sizes; table = elf.table } in
    let apart : AreApart (segments_of bytes) = subst AreApart elf.segments elf.apart in
    let aligned : entry % 4 ≡ 0 = ap (λ n. n % 4) (sym elf.entry) ∙ elf.aligned in
    let fetched : is_some (word_at (segments_of bytes) entry) ≡ true = ap (λ (q : Program). is_some (word_at q.segments q.entry)) (sym (IsElfOf-one bytes p elf)) ∙ elf.fetched in
    let alone = share_none_all bytes hs (loaded_have_bytes bytes) apart in
    IsClean-to bytes (record {
      header = header_passes bytes header;
      table = table_passes bytes (each_passes bytes hs elf.each) alone;
      entry = and_from (entry % 4 == 0) (is_some (word_at (segments_of bytes) entry)) (eq-eqb _ _ aligned) fetched;
    })

-- the program that the fields of a file give is one, if the file is it
program_of-IsProgram : (bytes : List ℕ) → ((i : ℕ) → get_or bytes i 0 < 256) → IsElfOf bytes (program_of bytes) → IsProgram (program_of bytes)
program_of-IsProgram bytes fits elf =
    let h = file_header bytes in
    let hs = loaded_headers bytes in
    record {
      each = are_segments bytes hs elf.each (loaded_have_bytes bytes);
      apart = elf.apart;
      few = omega (arith, length-map hs (segment_of bytes), few bytes h.table_offset h.table_len, fits 44, fits 45);
      aligned = elf.aligned;
      fetched = elf.fetched;
    }

-- whatever program the bytes are is one
pub IsElfOf-IsProgram : (bytes : List ℕ) (p : Program) → ((i : ℕ) → get_or bytes i 0 < 256) → IsElfOf bytes p → IsProgram p
IsElfOf-IsProgram bytes p fits elf =
    let same = IsElfOf-one bytes p elf in
    subst IsProgram (sym same) (program_of-IsProgram bytes fits (subst (IsElfOf bytes) same elf))
