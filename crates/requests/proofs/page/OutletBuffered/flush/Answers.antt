use Rattle.std.proofs.Common.{◌∙◌, ap, refl}
use Rattle.std.specs.Io.Buffered.{writer_buffer, writer_contents, writer_inner}
use Rattle.requests.proofs.Buffering.{stayed, took_no_more, took_none}
use Rattle.requests.proofs.page.OutletBuffered.flush.Goals as goal

pub returns-in-Ok-clause-puts : goal.returns-in-Ok-clause-puts
returns-in-Ok-clause-puts g c =
    let old = c.args.self.now.writer in
    let new = c.flush.new.self in
    let same = stayed (g.W.Write.contents (writer_inner old)) (g.W.Write.contents (writer_inner new)) (writer_buffer old) (writer_buffer new) (g.met.W.Steady.steady (writer_inner old) (writer_inner new)) c.in-Ok.ensures.bytes in
    record { whole = took_no_more (writer_contents g.W.Write.contents old) (writer_contents g.W.Write.contents new) same; clean = refl; part = tt; fault = tt }

pub returns-in-Err-clause-puts : goal.returns-in-Err-clause-puts
returns-in-Err-clause-puts g c =
    let old = c.args.self.now.writer in
    let new = c.flush.new.self in
    let same = stayed (g.W.Write.contents (writer_inner old)) (g.W.Write.contents (writer_inner new)) (writer_buffer old) (writer_buffer new) (g.met.W.Steady.steady (writer_inner old) (writer_inner new)) c.in-Err.ensures.bytes in
    record {
      whole = tt;
      clean = tt;
      part = took_none (writer_contents g.W.Write.contents old) (writer_contents g.W.Write.contents c.fail.new.self.writer) (ap (writer_contents g.W.Write.contents) c.fail.ensures.stays.0 ∙ same);
      fault = c.fail.ensures.failed;
    }
