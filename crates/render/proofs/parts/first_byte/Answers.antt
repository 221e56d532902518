use Rattle.std.proofs.Common.{◌≡◌, ◌*◌, arith, ap, ◌∙◌}
use Rattle.words.specs.Limits.{block_bytes}
use Rattle.texts.specs.Numerals.{hexadecimal}
use Rattle.render.proofs.Addresses.{hexadecimal-modulo}
use Rattle.render.proofs.parts.first_byte.Goals as goal

pub returns-clause-digits : goal.returns-clause-digits
returns-clause-digits c =
    let bytes : c.number.result * 32 ≡ block_bytes * c.args.block = omega (arith, c.number.ensures) in
    c.hexadecimal.ensures.digits ∙ hexadecimal-modulo (c.number.result * 32) ∙ ap hexadecimal bytes
