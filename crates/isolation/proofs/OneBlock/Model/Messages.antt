-- What a hart does with a message about the block.
use Rattle.std.proofs.Common.{ℕ, zero, suc, Bool, true, false, Option, None, Some, ◌&&◌, ◌||◌, not, cond}
use Rattle.words.specs.declared.stamp.Stamp.{Stamp}
use Rattle.words.specs.declared.message.Kind.{Kind}
use Rattle.words.specs.declared.message.Kind.TheVariants.{Read, Write}
use Rattle.words.specs.declared.message.LineState.{LineState}
use Rattle.words.specs.declared.message.LineState.TheVariants.{Shared, Exclusive, Modified}
use Rattle.words.specs.declared.marks.Marks.{Marks}
use Rattle.words.specs.Marks as marks
use Rattle.protocol.specs.Messages.{Block, Granted}
use Rattle.isolation.proofs.OneBlock.Model.State.{sooner, Copy, Absent, Has, Wait, Aborting, Own, Local, put_at, fresh_marks, value_of}

-- the marks of a line
abbrev pub marks_of : Copy → Option Marks
marks_of Absent = None
marks_of (Has s d m) = Some m

-- does a forward conflict
abbrev pub refuses : Copy → Bool → Kind → Bool
refuses x overflow k = marks.refuses (marks_of x) overflow k

abbrev pub put_data : Option (Block × Bool) → Option Block
put_data None = None
put_data (Some p) = Some p.0

-- what an Ack carries
abbrev pub carried : Copy → Option (Block × Bool) → Option Block
carried Absent p = put_data p
carried (Has Shared d m) p = put_data p
carried (Has Exclusive d m) p = Some d
carried (Has Modified d m) p = Some d

abbrev pub after_fwd : Kind → Copy → Copy
after_fwd k Absent = Absent
after_fwd Read (Has s d m) = Has Shared d m
after_fwd Write (Has s d m) = Absent

abbrev pub acknowledge : Kind → ℕ → Local → Local
acknowledge k r l = record l { line = after_fwd k l.line; fwd = None; ack = Some (r, carried l.line l.put) }

-- a refusal: s is the stamp in the forward, now the requester's own
abbrev pub refuse : ℕ → Option Stamp → Option Stamp → Local → Local
refuse r s now l = record l { fwd = None; nack = Some (r, l.own.stamp); own = record l.own { flag = l.own.flag || sooner s l.own.stamp; refused_earlier = l.own.refused_earlier || sooner now l.own.stamp } }

-- at the requester: it was refused by a hart with stamp s
abbrev pub note : Option Stamp → Local → Local
note s l = record l { own = record l.own { noted = l.own.noted || sooner s l.own.stamp } }

abbrev pub put_over : Local → Local
put_over l = record l { put = None; put_ack = false }

-- a Granted, an Ack and a Nack are kept by the waiting hart
abbrev pub keep_grant : Granted → Option Wait → Option Wait
keep_grant g None = None
keep_grant g (Some w) = Some (record w { grant = Some g })

abbrev pub first_of_two : Option Block → Option Block → Option Block
first_of_two None d = d
first_of_two (Some x) d = Some x

abbrev pub keep_ack : ℕ → Option Block → Option Wait → Option Wait
keep_ack h d None = None
keep_ack h d (Some w) = Some (record w { from = put_at h true w.from; content = first_of_two d w.content })

abbrev pub keep_nack : ℕ → Bool → Option Wait → Option Wait
keep_nack h early None = None
keep_nack h early (Some w) = Some (record w { from = put_at h true w.from; refused = true; early = w.early || early })

abbrev pub on_grant : Granted → Local → Local
on_grant g l = record l { grant = None; wait = keep_grant g l.wait }

abbrev pub take_ack : Local → Local
take_ack l = record l { ack = None }

abbrev pub on_ack : ℕ → Option Block → Local → Local
on_ack h d l = record l { wait = keep_ack h d l.wait }

abbrev pub take_nack : Local → Local
take_nack l = record l { nack = None }

abbrev pub on_nack : ℕ → Option Stamp → Local → Local
on_nack h s l = record l { wait = keep_nack h (sooner s l.own.stamp) l.wait }

-- the end of a request
abbrev pub filled : LineState → Bool → Block → Copy → Copy
filled g overflow d Absent = Has g d (fresh_marks overflow)
filled Shared overflow d (Has s x m) = Has s x m
filled Exclusive overflow d (Has s x m) = Has s x m
filled Modified overflow d (Has s x m) = Has Modified x m

abbrev pub sent_back : LineState → Option Block → Option Block
sent_back Shared d = d
sent_back Exclusive d = None
sent_back Modified d = None

-- an abort by conflict starts, if the flag is set and a refuser was sooner
abbrev pub fail_own : Bool → Own → Own
fail_own early o = record o { tx = cond (o.flag && early) Aborting o.tx; conflict = o.conflict || (o.flag && early) }

abbrev pub end_refused : Wait → Local → Local
end_refused w l = record l { wait = None; done = Some (false, None); own = fail_own w.early l.own }

abbrev pub end_granted : Wait → Granted → Local → Local
end_granted w g l = record l { line = filled g.give l.own.overflow (value_of w.content g.content) l.line; wait = None; done = Some (true, sent_back g.give w.content) }

abbrev pub end_request : Bool → Wait → Granted → Local → Local
end_request true w g l = end_refused w l
end_request false w g l = end_granted w g l

-- has each hart below n that is expected answered
abbrev pub complete : ℕ → (ℕ → Bool) → (ℕ → Bool) → Bool
complete zero expect from = true
complete (suc n) expect from = complete n expect from && (not (expect n) || from n)

abbrev pub ends_if : Bool → Wait → Granted → Local → Local
ends_if true w g l = end_request w.refused w g l
ends_if false w g l = l

abbrev pub with_grant : ℕ → Wait → Option Granted → Local → Local
with_grant n w None l = l
with_grant n w (Some g) l = ends_if (complete n g.expect w.from) w g l

abbrev pub with_wait : ℕ → Option Wait → Local → Local
with_wait n None l = l
with_wait n (Some w) l = with_grant n w w.grant l

-- when the Granted is in and each expected hart has answered, the request ends
abbrev pub finish : ℕ → Local → Local
finish n l = with_wait n l.wait l
