use Rattle.std.proofs.Common.{◌∙◌, ◌++◌, ◌∷◌, [], ap, sym, option_map}
use Rattle.statements.specs.Faults.{fault_number as asm_number}
use Rattle.texts.proofs.Putting.{puts-both, puts-cut, puts-nothing, puts-same}
use Rattle.requests.specs.Faults.{refused_text}
use Rattle.requests.specs.Quotes.{quotation}
use Rattle.requests.proofs.fault.put_refused.Goals as goal

pub returns-in_err-put_place : goal.returns-in_err-put_place
returns-in_err-put_place g c =
    let why = c.args.refused.now.why in
    let text = ap (λ n. refused_text why.line n c.name.result.now) c.number.ensures ∙ ap (λ name. refused_text why.line (asm_number why.fault) name) c.name.ensures in
    puts-cut (quotation (option_map (λ line. line.now) c.args.refused.now.text)) c.in_err-put_place.was (puts-same text c.put_place.ensures) c.from_residual.ensures.0

pub returns-in-Some : goal.returns-in-Some
returns-in-Some g c =
    let why = c.args.refused.now.why in
    let text = ap (λ n. refused_text why.line n c.name.result.now) c.number.ensures ∙ ap (λ name. refused_text why.line (asm_number why.fault) name) c.name.ensures in
    let quote = ap (λ shown. shown ++ 10 ∷ []) (c.as_slice.ensures.value ∙ c.quoted.ensures) ∙ ap (λ line. quotation (option_map (λ l. l.now) line)) (sym c.in-Some.is) in
    puts-both (puts-same text c.in_ok-put_place.ensures) (puts-same quote c.put_all.ensures)

pub returns-in-None : goal.returns-in-None
returns-in-None g c =
    let why = c.args.refused.now.why in
    let text = ap (λ n. refused_text why.line n c.name.result.now) c.number.ensures ∙ ap (λ name. refused_text why.line (asm_number why.fault) name) c.name.ensures in
    puts-both (puts-same text c.in_ok-put_place.ensures) (puts-same (ap (λ line. quotation (option_map (λ l. l.now) line)) (sym c.in-None.is)) (puts-nothing _))
