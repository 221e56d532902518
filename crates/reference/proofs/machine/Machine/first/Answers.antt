use Rattle.std.proofs.Common.{◌≤◌, ◌-◌, ◌*◌, ℕ, arith, cond, refl, ap, ◌∙◌}
use Rattle.std.specs.Prelude.{vec_len, nat_lt}
use Rattle.flat.specs.State.{idle}
use Rattle.flat.specs.Start.{first_hart}
use Rattle.reference.specs.declared.machine.Machine.{Machine}
use Rattle.loader.proofs.Segments.{all_end_by}
use Rattle.reference.proofs.Booted.{begins}
use Rattle.reference.proofs.machine.Machine.first.Goals as goal

pub image-requires : goal.image-requires
image-requires c =
    let le : c.args.size - 8192 * c.args.harts ≤ c.args.size = omega arith in
    all_end_by _ _ c.args.program.segments le c.requires.fits

pub returns : goal.returns
returns c =
    let few : vec_len c.in_ok-harts.harts ≤ 8 = omega (arith, c.in_ok-harts.ensures.count, c.requires.count) in
    let m : Machine = record { program = c.args.program; memory = c.in_ok-memory.memory; harts = c.in_ok-harts.harts; few_harts = few } in
    begins c.args.program c.args.harts c.args.size m refl c.in_ok-memory.ensures.size c.in_ok-harts.ensures.count
    c.in_ok-memory.ensures.memory
    (λ set j size count. c.in_ok-harts.ensures.harts set j size count ∙ ap (λ (e : ℕ). cond (nat_lt j c.args.harts) (first_hart set e j) idle) c.entry.ensures.value)
