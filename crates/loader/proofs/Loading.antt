-- What is found where reading stops at a segment, at two that share a byte, or at the entry.
use Rattle.std.proofs.Common.{◌≡◌, ℕ, true, false, not, cond, List, [], ◌∷◌, ◌++◌, Some, None, refl, ap, ◌∙◌}
use Rattle.std.specs.List.{flat_map}
use Rattle.table.specs.Program.{Segment}
use Rattle.loader.specs.declared.fault.LoadFault.{LoadFault}
use Rattle.loader.specs.declared.fault.LoadFault.TheVariants.{SegmentOverlap, BadEntry}
use Rattle.loader.specs.Headers.{file_header, loaded_headers, segments_of}
use Rattle.words.specs.First.{first}
use Rattle.loader.specs.Checks.{file_checks, segment_checks, some_share, table_checks, can_begin, entry_checks, fault_of, IsFault}
use Rattle.loader.specs.Programs.{IsProgram}
use Rattle.loader.specs.Elf.{program_of}
use Rattle.loader.proofs.Found.{first-append_none, first-append_some, is_fault, IsFault-wider}
use Rattle.loader.proofs.Table.{found_in}

-- a segment's fault is the table's
pub at_segment : (bytes : List ℕ) (fault : LoadFault) → IsFault fault (found_in bytes (loaded_headers bytes)) → IsFault fault (first (table_checks bytes))
at_segment bytes fault found =
    let segments = flat_map (segment_checks bytes) (loaded_headers bytes) in
    let last = (some_share (loaded_headers bytes), SegmentOverlap) ∷ [] in
    IsFault-wider fault (first segments) (first (table_checks bytes)) (λ f e. first-append_some segments last f e) found

-- behind sound segments the fault is that two share a byte
pub at_overlap : (bytes : List ℕ) → found_in bytes (loaded_headers bytes) ≡ None → some_share (loaded_headers bytes) ≡ true → first (table_checks bytes) ≡ Some SegmentOverlap
at_overlap bytes clean share =
    let segments = flat_map (segment_checks bytes) (loaded_headers bytes) in
    let last = (some_share (loaded_headers bytes), SegmentOverlap) ∷ [] in
    first-append_none segments last clean ∙ ap (λ b. cond b (Some SegmentOverlap) None) share

-- a header's fault is the file's
pub at_header : (bytes : List ℕ) (fault : LoadFault) → first (file_checks bytes) ≡ Some fault → IsFault fault (fault_of bytes)
at_header bytes fault found = is_fault fault (fault_of bytes) (first-append_some (file_checks bytes) (table_checks bytes ++ entry_checks bytes) fault found)

-- behind a sound header the table's fault is the file's
pub at_table : (bytes : List ℕ) (fault : LoadFault) → first (file_checks bytes) ≡ None → IsFault fault (first (table_checks bytes)) → IsFault fault (fault_of bytes)
at_table bytes fault header found =
    IsFault-wider fault (first (table_checks bytes)) (fault_of bytes)
    (λ f e. first-append_none (file_checks bytes) (table_checks bytes ++ entry_checks bytes) header ∙ first-append_some (table_checks bytes) (entry_checks bytes) f e)
    found

-- behind a sound table the fault is the entry's
pub at_entry : (bytes : List ℕ) → first (file_checks bytes) ≡ None → first (table_checks bytes) ≡ None → can_begin (file_header bytes).entry (segments_of bytes) ≡ false → fault_of bytes ≡ Some BadEntry
at_entry bytes header table e =
    first-append_none (file_checks bytes) (table_checks bytes ++ entry_checks bytes) header
    ∙ first-append_none (table_checks bytes) (entry_checks bytes) table
    ∙ ap (λ b. cond (not b) (Some BadEntry) None) e

-- the entry and the segments that were made are those that the file says
pub begins : (bytes : List ℕ) (entry : ℕ) (segments : List Segment) → entry ≡ (file_header bytes).entry → segments ≡ segments_of bytes → can_begin (file_header bytes).entry (segments_of bytes) ≡ can_begin entry segments
begins bytes entry segments e s = rw (e, s) refl

pub made_program : (bytes : List ℕ) (entry : ℕ) (segments : List Segment) → entry ≡ (file_header bytes).entry → segments ≡ segments_of bytes → IsProgram (program_of bytes) → IsProgram (record { entry = entry; segments = segments })
made_program bytes entry segments e s h = rw (e, s) h
