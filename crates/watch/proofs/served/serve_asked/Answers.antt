use Rattle.std.proofs.Common.{arith}
use Rattle.watch.proofs.Services.{refusals_within}
use Rattle.watch.proofs.served.serve_asked.Goals as goal

-- no more refuse than answer
pub note_served-requires : goal.note_served-requires
note_served-requires g c =
    let served = c.in-Some.ensures.served in
    let told = served.1.told in
    let within = refusals_within served.0 in
    omega (arith, told.number_is, told.refusals_is, within)
