use Rattle.std.proofs.Common.{◌≡◌, ◌∙◌}
use Rattle.std.specs.Fmt.{decimal}
use Rattle.requests.proofs.fault.put_unspelled.Goals as goal

pub returns : goal.returns
returns g c =
    let place : c.as_bytes.result.now ≡ decimal c.args.line = c.as_bytes.ensures.value ∙ c.format.ensures.text in
    rw (← place) c.put_all.ensures
