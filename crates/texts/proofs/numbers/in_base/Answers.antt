use Rattle.std.proofs.Common.{◌∙◌, arith, sym}
use Rattle.texts.proofs.Parsed.{parsed_plain}
use Rattle.texts.proofs.numbers.in_base.Goals as goal

pub returns : goal.returns
returns c = c.ok.ensures.value ∙ parsed_plain c.args.base c.args.digits.now c.from_str_radix.result
    (sym (c.starts_with.ensures.byte (omega arith) (omega arith) (λ w o h. h)) ∙ c.if-starts_with.false) c.from_str_radix.ensures.value
