use Rattle.std.proofs.Common.{◌≡◌, ◌∷◌, arith, ap, length}
use Rattle.schedule.specs.Spelling.{words_of}
use Rattle.schedule.proofs.Words.{some_word}
use Rattle.schedule.proofs.spelling.one_word.Goals as goal

pub returns-in-Some : goal.returns-in-Some
returns-in-Some c = λ one.
    let cut : length (words_of c.args.text.now) ≡ length (c.in-Some.field-0.0.now ∷ words_of c.in-Some.field-0.1.now) = ap length c.in-Some.ensures in
    absurd (omega (arith, one, cut, some_word c.in-Some.field-0.1.now))
