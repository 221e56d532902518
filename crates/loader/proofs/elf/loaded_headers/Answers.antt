use Rattle.std.proofs.Common.{◌≡◌, ◌+◌, ◌*◌, ◌∷◌, ◌++◌, [], sym, ap, ◌∙◌, append_assoc, true, false}
use Rattle.std.proofs.lemmas.Result.{err_from_is_err_and}
use Rattle.loader.specs.Headers.{loaded_headers, is_loaded, segment_header}
use Rattle.loader.proofs.Found.{is_fault}
use Rattle.loader.proofs.Table.{rest_from, found_in, rest_skips, rest_takes, clean_more, found_here}
use Rattle.loader.proofs.elf.loaded_headers.Goals as goal

pub loop-i-preserved-then-not-is_loaded : goal.loop-i-preserved-then-not-is_loaded
loop-i-preserved-then-not-is_loaded c =
    let bytes = c.args.bytes.now in
    let offset = c.args.header.now.table_offset in
    let len = c.args.header.now.table_len in
    let i = c.loop-i.i in
    let front = c.loop-i.headers.items in
    let read : c.read-segment.result ≡ segment_header bytes (offset + 32 * i) = c.read-segment.ensures ∙ ap (λ k. segment_header bytes (offset + 32 * k)) c.from.ensures in
    let passed : is_loaded (segment_header bytes (offset + 32 * i)) ≡ false = ap is_loaded (sym read) ∙ sym c.if-not-is_loaded.ensures in
    record {
      told = ap (λ rest. front ++ rest) (sym (rest_skips bytes offset len i c.loop-i-test.true passed)) ∙ c.loop-i.invariant.told;
      clean = c.loop-i.invariant.clean;
    }

pub returns-in_err-check_segment-clause-fault : goal.returns-in_err-check_segment-clause-fault
returns-in_err-check_segment-clause-fault c =
    let bytes = c.args.bytes.now in
    let offset = c.args.header.now.table_offset in
    let len = c.args.header.now.table_len in
    let i = c.loop-i.i in
    let front = c.loop-i.headers.items in
    let h = c.read-segment.result in
    let read : h ≡ segment_header bytes (offset + 32 * i) = c.read-segment.ensures ∙ ap (λ k. segment_header bytes (offset + 32 * k)) c.from.ensures in
    let kept : is_loaded (segment_header bytes (offset + 32 * i)) ≡ true = ap is_loaded (sym read) ∙ sym c.if-not-is_loaded.ensures in
    let all : front ++ h ∷ rest_from bytes offset len (i + 1) ≡ loaded_headers bytes =
    ap (λ k. front ++ k ∷ rest_from bytes offset len (i + 1)) read ∙ ap (λ rest. front ++ rest) (sym (rest_takes bytes offset len i c.loop-i-test.true kept)) ∙ c.loop-i.invariant.told in
    let p = err_from_is_err_and c.from_residual.result c.from_residual.ensures.1 in
    let fault = c.in_err-check_segment.field-0.0 in
    rw (p.1, p.2) (is_fault fault (found_in bytes (loaded_headers bytes))
    (ap (found_in bytes) (sym all) ∙ found_here bytes front h (rest_from bytes offset len (i + 1)) fault c.loop-i.invariant.clean c.in_err-check_segment.ensures))

pub loop-i-preserved : goal.loop-i-preserved
loop-i-preserved c =
    let bytes = c.args.bytes.now in
    let offset = c.args.header.now.table_offset in
    let len = c.args.header.now.table_len in
    let i = c.loop-i.i in
    let front = c.loop-i.headers.items in
    let h = c.read-segment.result in
    let read : h ≡ segment_header bytes (offset + 32 * i) = c.read-segment.ensures ∙ ap (λ k. segment_header bytes (offset + 32 * k)) c.from.ensures in
    let kept : is_loaded (segment_header bytes (offset + 32 * i)) ≡ true = ap is_loaded (sym read) ∙ sym c.if-not-is_loaded.ensures in
    let all : front ++ h ∷ rest_from bytes offset len (i + 1) ≡ loaded_headers bytes =
    ap (λ k. front ++ k ∷ rest_from bytes offset len (i + 1)) read ∙ ap (λ rest. front ++ rest) (sym (rest_takes bytes offset len i c.loop-i-test.true kept)) ∙ c.loop-i.invariant.told in
    let pushed : c.push.new.self.items ≡ front ++ h ∷ [] = c.in_ok-push.ensures.items in
    record {
      told = ap (λ items. items ++ rest_from bytes offset len (i + 1)) pushed ∙ append_assoc front (h ∷ []) (rest_from bytes offset len (i + 1)) ∙ all;
      clean = ap (found_in bytes) pushed ∙ clean_more bytes front h c.loop-i.invariant.clean c.in_ok-check_segment.ensures;
    }
