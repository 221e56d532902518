use Rattle.std.proofs.Common.{arith, length, subst, sym, take_all}
use Rattle.std.specs.Io.Buffered.{writer_contents}
use Rattle.std.specs.Io.KnownBytes.{Appends}
use Rattle.std.proofs.KnownBytes.{Appends-kept}
use Rattle.requests.proofs.Buffering.{wrote_part}
use Rattle.requests.proofs.page.Outlet.write.Goals as goal

-- all was put into the buffer, and could not be written out
pub returns-in_err-flush-clause-wrote : goal.returns-in_err-flush-clause-wrote
returns-in_err-flush-clause-wrote g c =
    let bytes = c.args.bytes.now in
    let whole : Appends (writer_contents g.W.Write.contents c.args.self.now.writer) (writer_contents g.W.Write.contents c.flush.new.self) bytes =
    Appends-kept _ _ _ bytes c.in_ok-write_all.ensures.wrote c.in_err-flush.ensures.bytes in
    wrote_part _ _ bytes c.from_residual-in_err-flush.result c.from_residual-in_err-flush.ensures.0 (length bytes, omega arith, subst (Appends _ _) (sym (take_all (length bytes) bytes (omega arith))) whole)
