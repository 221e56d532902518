use Rattle.std.proofs.Common.{◌≡◌, map, sym, ap, ◌∙◌, arith}
use Rattle.std.proofs.lemmas.Result.{err_from_is_err_and}
use Rattle.loader.specs.Headers.{file_header, segment_of, segments_of}
use Rattle.loader.specs.Elf.{program_of}
use Rattle.loader.proofs.Clean.{IsClean-to, IsElfOf-clean, IsElfOf-IsProgram}
use Rattle.loader.proofs.Loading.{at_header, at_table, at_entry, begins, made_program}
use Rattle.loader.proofs.elf.load.Goals as goal

pub returns-in_err-check_file-clause-fault : goal.returns-in_err-check_file-clause-fault
returns-in_err-check_file-clause-fault c =
    let p = err_from_is_err_and c.from_residual.result c.from_residual.ensures.1 in
    rw (p.1, p.2) (at_header c.args.bytes.now c.in_err-check_file.field-0.0 c.in_err-check_file.ensures)

pub returns-in_err-headers-clause-fault : goal.returns-in_err-headers-clause-fault
returns-in_err-headers-clause-fault c =
    let p = err_from_is_err_and c.from_residual-in_err-headers.result c.from_residual-in_err-headers.ensures.1 in
    rw (p.1, p.2) (at_table c.args.bytes.now c.in_err-headers.field-0.0 c.in_ok-check_file.ensures c.in_err-headers.ensures.fault)

pub returns-then-not-can_begin-clause-fault : goal.returns-then-not-can_begin-clause-fault
returns-then-not-can_begin-clause-fault c =
    let bytes = c.args.bytes.now in
    let found = c.in_ok-headers.ensures.ok in
    let made : c.in_ok-segments.segments.items ≡ segments_of bytes = c.in_ok-segments.ensures ∙ ap (map (segment_of bytes)) (c.deref.ensures.value ∙ found.0) in
    let entry : c.new-entry.result ≡ (file_header bytes).entry = c.new-entry.ensures ∙ ap (λ h. h.entry) c.read-header.ensures in
    at_entry bytes c.in_ok-check_file.ensures found.1 (begins bytes c.new-entry.result c.deref-2.result.now entry (c.deref-2.ensures.value ∙ made) ∙ sym c.if-not-can_begin.ensures)

pub new-requires : goal.new-requires
new-requires c =
    let bytes = c.args.bytes.now in
    let found = c.in_ok-headers.ensures.ok in
    let made : c.in_ok-segments.segments.items ≡ segments_of bytes = c.in_ok-segments.ensures ∙ ap (map (segment_of bytes)) (c.deref.ensures.value ∙ found.0) in
    let entry : c.new-entry.result ≡ (file_header bytes).entry = c.new-entry.ensures ∙ ap (λ h. h.entry) c.read-header.ensures in
    let begun = begins bytes c.new-entry.result c.deref-2.result.now entry (c.deref-2.ensures.value ∙ made) ∙ sym c.if-not-can_begin.ensures in
    let sound = IsClean-to bytes (record { header = c.in_ok-check_file.ensures; table = found.1; entry = begun }) in
    made_program bytes c.new-entry.result c.in_ok-segments.segments.items entry made (IsElfOf-IsProgram bytes (program_of bytes) (λ i. omega (arith, c.type_inv.bytes i)) (IsElfOf-clean bytes sound))

pub returns-clause-ok : goal.returns-clause-ok
returns-clause-ok c =
    let bytes = c.args.bytes.now in
    let found = c.in_ok-headers.ensures.ok in
    let made : c.in_ok-segments.segments.items ≡ segments_of bytes = c.in_ok-segments.ensures ∙ ap (map (segment_of bytes)) (c.deref.ensures.value ∙ found.0) in
    let entry : c.new-entry.result ≡ (file_header bytes).entry = c.new-entry.ensures ∙ ap (λ h. h.entry) c.read-header.ensures in
    let begun = begins bytes c.new-entry.result c.deref-2.result.now entry (c.deref-2.ensures.value ∙ made) ∙ sym c.if-not-can_begin.ensures in
    let sound = IsClean-to bytes (record { header = c.in_ok-check_file.ensures; table = found.1; entry = begun }) in
    (sound, c.new.ensures ∙ (λ k. record { entry = entry k; segments = made k }))
