-- A request and a Put that are out, as the rows of the protocol speak of them. There a set of harts is a test on harts.
use Rattle.std.specs.Option.{option_map}
use Rattle.words.specs.Harts.{names}
use Rattle.protocol.specs.Messages.{Granted}
use Rattle.protocol.specs.Hart.{Request, PutOut}
use Rattle.conflict.specs.declared.request.Granted.{Granted as CodedGranted}
use Rattle.conflict.specs.declared.request.Request.{Request as CodedRequest}
use Rattle.conflict.specs.declared.request.PutOut.{PutOut as CodedPutOut}

abbrev pub shown_granted : CodedGranted → Granted
shown_granted g = record { give = g.give; content = g.content; expect = names g.expect }

abbrev pub shown_request : CodedRequest → Request
shown_request r = record {
  block = r.block;
  kind = r.kind;
  grant = option_map shown_granted r.grant;
  answered = names r.answered;
  refused = r.refused;
  content = r.content;
  earlier = r.earlier;
}

abbrev pub shown_put : CodedPutOut → PutOut
shown_put p = record { block = p.block; content = p.content; marked = p.marked }
