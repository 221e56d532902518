use Rattle.std.proofs.Common.{◌∙◌, arith, codes, sym}
use Rattle.clap.specs.Words.{found_of}
use Rattle.clap.proofs.WalkLemmas.{raw_values-rows}
use Rattle.command_line.proofs.Values.{are_two, both_values, number_refused}
use Rattle.command_line.proofs.reading.witness_given.Goals as goal

pub bounds-values-0 : goal.bounds-values-0
bounds-values-0 c =
    let two = are_two (found_of c.args.matches.now) c.in-Some.values.now c.in-Some.ensures c.requires in
    omega (arith, two)

pub bounds-values-1 : goal.bounds-values-1
bounds-values-1 c =
    let two = are_two (found_of c.args.matches.now) c.in-Some.values.now c.in-Some.ensures c.requires in
    omega (arith, two)

pub returns-in-Some-number : goal.returns-in-Some-number
returns-in-Some-number c =
    let is = both_values (found_of c.args.matches.now) c.in-Some.values.now _ c.in-Some.ensures c.requires in
    (_, is, sym c.number.ensures ∙ c.in-Some-number.is)

pub returns-in-None-number : goal.returns-in-None-number
returns-in-None-number c =
    number_refused (found_of c.args.matches.now) c.in-Some.values.now _ c.in-Some.ensures c.requires (sym c.number.ensures ∙ c.in-None-number.is)

pub returns-in-None : goal.returns-in-None
returns-in-None c = sym (raw_values-rows (found_of c.args.matches.now) (codes "witness")) ∙ sym c.in-None.ensures
