use Rattle.std.proofs.Common.{◌≡◌, ◌<◌, List, true, false, sym, ap, ◌∙◌, subst}
use Rattle.std.specs.List.{AllByRecursion}
use Rattle.std.proofs.lemmas.Result.{err_from_is_err_and}
use Rattle.loader.specs.declared.headers.SegmentHeader.{SegmentHeader}
use Rattle.loader.specs.Headers.{loaded_headers}
use Rattle.loader.specs.Checks.{some_share}
use Rattle.loader.proofs.Table.{found_in}
use Rattle.loader.proofs.Clean.{table_passes}
use Rattle.loader.proofs.Loaded.{loaded_have_bytes}
use Rattle.loader.proofs.Loading.{at_segment, at_overlap}
use Rattle.loader.proofs.elf.checked_headers.Goals as goal

pub returns-in_err-headers-clause-fault : goal.returns-in_err-headers-clause-fault
returns-in_err-headers-clause-fault c =
    let p = err_from_is_err_and c.from_residual.result c.from_residual.ensures.1 in
    rw (p.1, p.2) (at_segment c.args.bytes.now c.in_err-headers.field-0.0 c.in_err-headers.ensures.fault)

pub some_share-requires : goal.some_share-requires
some_share-requires c =
    let seen : loaded_headers c.args.bytes.now ≡ c.deref.result.now = sym (c.deref.ensures.value ∙ c.in_ok-headers.ensures.ok.0) in
    subst (λ (hs : List SegmentHeader). AllByRecursion (λ h. 0 < h.memory_size) hs) seen (loaded_have_bytes c.args.bytes.now)

pub returns-then-share-clause-fault : goal.returns-then-share-clause-fault
returns-then-share-clause-fault c =
    let bytes = c.args.bytes.now in
    let found = c.in_ok-headers.ensures.ok in
    let share : some_share (loaded_headers bytes) ≡ true = ap some_share (sym (c.deref.ensures.value ∙ found.0)) ∙ sym c.in_ok-share.ensures ∙ c.if-share.true in
    at_overlap bytes (ap (found_in bytes) (sym found.0) ∙ found.1) share

pub returns-clause-ok : goal.returns-clause-ok
returns-clause-ok c =
    let bytes = c.args.bytes.now in
    let found = c.in_ok-headers.ensures.ok in
    let apart : some_share (loaded_headers bytes) ≡ false = ap some_share (sym (c.deref.ensures.value ∙ found.0)) ∙ sym c.in_ok-share.ensures ∙ c.if-share.false in
    (found.0, table_passes bytes (ap (found_in bytes) (sym found.0) ∙ found.1) apart)
