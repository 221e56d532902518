use Rattle.std.specs.Io.Buffered.{writer_buffer, writer_inner}
use Rattle.requests.proofs.Buffering.{took, took_beginning}
use Rattle.requests.proofs.page.OutletSink.put.Goals as goal

pub returns-in-Ok-clause-all : goal.returns-in-Ok-clause-all
returns-in-Ok-clause-all g c =
    let old = c.args.self.now.writer in
    let new = c.write.new.self.writer in
    took (g.W.Write.contents (writer_inner old)) (g.W.Write.contents (writer_inner new)) (writer_buffer old) (writer_buffer new) c.args.bytes.now (g.met.W.Steady.steady (writer_inner old) (writer_inner new)) c.in-Ok.ensures.wrote

pub returns-in-Err-clause-part : goal.returns-in-Err-clause-part
returns-in-Err-clause-part g c =
    let old = c.args.self.now.writer in
    let new = c.write.new.self.writer in
    rw c.fail.ensures.stays.0
    (took_beginning (g.W.Write.contents (writer_inner old)) (g.W.Write.contents (writer_inner new)) (writer_buffer old) (writer_buffer new) c.args.bytes.now (g.met.W.Steady.steady (writer_inner old) (writer_inner new)) c.in-Err.ensures.wrote)
