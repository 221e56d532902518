use Rattle.std.proofs.Common.{◌≡◌, ◌∙◌}
use Rattle.std.specs.Fmt.{decimal}
use Rattle.requests.proofs.fault.put_place.Goals as goal

pub returns : goal.returns
returns g c =
    let place : c.as_bytes.result.now ≡ decimal c.args.line = c.as_bytes.ensures.value ∙ c.format.ensures.text in
    let number : c.as_bytes-2.result.now ≡ decimal c.args.number = c.as_bytes-2.ensures.value ∙ c.format-2.ensures.text in
    rw (← place, ← number, ← c.as_bytes-3.ensures.value) c.put_all.ensures
