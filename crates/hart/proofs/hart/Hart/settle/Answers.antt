use Rattle.std.proofs.Common.{◌∙◌, Some, None, true, false, ap, sym}
use Rattle.std.specs.Option.{option_map}
use Rattle.protocol.specs.Messages.{Done}
use Rattle.protocol.specs.Lines.{line_filled}
use Rattle.protocol.specs.Hart.{sends, with_line, overflow_of}
use Rattle.protocol.specs.Requests.{content_back}
use Rattle.hart.specs.Parts.{Parts}
use Rattle.conflict.specs.Requests.{shown_granted, shown_request}
use Rattle.hart.specs.Shown.{shown_hart}
use Rattle.hart.proofs.Keeping.{is_out}
use Rattle.hart.proofs.Rows.{ends-refused, ends-granted}
use Rattle.hart.proofs.Places.{none_moves}
use Rattle.hart.proofs.hart.Hart.settle.Goals as goal

pub returns-then-request-clause-row : goal.returns-then-request-clause-row
returns-then-request-clause-row g c = λ output r is.
    let q = shown_request c.in-Some.request in
    let h = shown_hart g.row.SETS output c.args.self.now in
    let out = ap (λ (p : Parts). option_map shown_request p.request) (sym c.self.view_is) ∙ ap (option_map shown_request) c.in-Some.is in
    is_out c.args.self.now.harts c.args.self.now.index q r h _ (sym out ∙ is)
    (ends-refused c.args.self.now.harts c.args.self.now.index q (shown_granted c.in-Some-grant.granted) h (ap (option_map shown_granted) c.in-Some-grant.is)
    (rw (← c.self.view_is) (sym c.have_answered.ensures ∙ c.if-not-have_answered.false)) c.if-request.true
    ∙ (λ k. sends (Done (sym c.end_refused.ensures.stays.index k) q.block false None) (sym (c.end_refused.ensures.hart output) k)))

pub returns-clause-row : goal.returns-clause-row
returns-clause-row g c = λ output r is.
    let q = shown_request c.in-Some.request in
    let h = shown_hart g.row.SETS output c.args.self.now in
    let give = c.in-Some-grant.granted.give in
    let out = ap (λ (p : Parts). option_map shown_request p.request) (sym c.self.view_is) ∙ ap (option_map shown_request) c.in-Some.is in
    is_out c.args.self.now.harts c.args.self.now.index q r h _ (sym out ∙ is)
    (ends-granted c.args.self.now.harts c.args.self.now.index q (shown_granted c.in-Some-grant.granted) h (ap (option_map shown_granted) c.in-Some-grant.is)
    (rw (← c.self.view_is) (sym c.have_answered.ensures ∙ c.if-not-have_answered.false)) c.if-request.false
    ∙ ap (λ w. sends (Done c.args.self.now.index q.block true (content_back give q.content)) (with_line q.block (Some (line_filled give (overflow_of h.tx) w (h.lines q.block))) (record h { request = None; fresh = true }))) (sym c.unwrap_or-content.ensures)
    ∙ ap (λ w. sends (Done c.args.self.now.index q.block true w) (with_line q.block (Some (line_filled give (overflow_of h.tx) c.unwrap_or-content.result (h.lines q.block))) (record h { request = None; fresh = true }))) (sym c.content_back-back.ensures)
    ∙ (λ k. sends (Done (sym c.end_granted.ensures.stays.index k) q.block true c.content_back-back.result) (sym (c.end_granted.ensures.hart output) k)))

pub returns-then-request-clause-ways : goal.returns-then-request-clause-ways
returns-then-request-clause-ways g c = none_moves g.row.SETS c.args.self.now.cache c.end_refused.new.self.cache c.end_refused.ensures.cache
