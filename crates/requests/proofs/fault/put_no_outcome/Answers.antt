use Rattle.std.proofs.Common.{◌≡◌, ◌∙◌}
use Rattle.std.specs.Fmt.{decimal}
use Rattle.requests.proofs.fault.put_no_outcome.Goals as goal

pub returns : goal.returns
returns g c =
    let same : c.as_bytes.result.now ≡ decimal c.args.number = c.as_bytes.ensures.value ∙ c.format.ensures.text in
    rw (← same) c.put_all.ensures
