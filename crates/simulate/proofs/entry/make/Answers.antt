use Rattle.std.proofs.Common.{inl, inr, refl}
use Rattle.std.proofs.lemmas.Result.{err_from_is_err_and}
use Rattle.std.specs.Option.{option_map}
use Rattle.simulate.proofs.entry.make.Goals as goal

-- standard output could not be written behind a report
pub returns-in_err-write_out-clause-made : goal.returns-in_err-write_out-clause-made
returns-in_err-write_out-clause-made g c =
    let p = err_from_is_err_and c.from_residual-in_err-write_out.result c.from_residual-in_err-write_out.ensures.1 in
    rw (p.1, p.2) (inr (inr (
      c.in_ok-outcome.outcome.status,
      option_map (λ image. image.items) c.in_ok-outcome.outcome.image,
      record { store = c.carry.new.store; input = c.carry.new.input; output = g.O.Sink.state c.carry.new.out; error = g.E.Sink.state c.carry.new.error },
      c.in_ok-outcome.ensures,
      inl (c.in_err-write_out.ensures.written.0, c.in_err-write_out.ensures.written.1, c.in_err-write_out.ensures.written.2, refl),
    )))

-- the file that is asked for could not be made
pub returns-in_err-make_image-clause-made : goal.returns-in_err-make_image-clause-made
returns-in_err-make_image-clause-made g c =
    let p = err_from_is_err_and c.from_residual-in_err-make_image.result c.from_residual-in_err-make_image.ensures.1 in
    rw (p.1, p.2) (inr (inr (
      c.in_ok-outcome.outcome.status,
      option_map (λ image. image.items) c.in_ok-outcome.outcome.image,
      record { store = c.carry.new.store; input = c.carry.new.input; output = g.O.Sink.state c.carry.new.out; error = g.E.Sink.state c.carry.new.error },
      c.in_ok-outcome.ensures,
      inr (
        record { store = c.carry.new.store; input = c.carry.new.input; output = g.O.Sink.state c.write_out.new.out; error = g.E.Sink.state c.carry.new.error },
        (c.in_ok-write_out.ensures.written, refl),
        c.in_err-make_image.ensures,
        refl,
      ),
    )))

pub returns-clause-made : goal.returns-clause-made
returns-clause-made g c = (
  option_map (λ image. image.items) c.in_ok-outcome.outcome.image,
  record { store = c.carry.new.store; input = c.carry.new.input; output = g.O.Sink.state c.carry.new.out; error = g.E.Sink.state c.carry.new.error },
  record { store = c.carry.new.store; input = c.carry.new.input; output = g.O.Sink.state c.write_out.new.out; error = g.E.Sink.state c.carry.new.error },
  c.in_ok-outcome.ensures,
  (c.in_ok-write_out.ensures.written, refl),
  c.in_ok-make_image.ensures,
  refl,
)
