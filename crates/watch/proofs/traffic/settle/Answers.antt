use Rattle.std.proofs.Common.{◌≡◌, ◌+◌, ◌-◌, ◌*◌, ℕ, ◌∙◌, ap, subst}
use Rattle.schedule.specs.declared.choices.Sort.{Sort}
use Rattle.schedule.specs.declared.choices.Sort.TheVariants.{Get, Grant, Forward, Ack, Nack, Done}
use Rattle.watch.specs.Kinds.{one_if}
use Rattle.watch.specs.Traffic.{capped, is_same, sum_in, told}
use Rattle.watch.specs.declared.figures.Sum.{Sum}
use Rattle.watch.specs.declared.figures.Sum.TheVariants.{Cores, Deliveries, Sent}
use Rattle.watch.proofs.Pending.{more, put_in_all}
use Rattle.watch.proofs.traffic.settle.Goals as goal

pub returns-clause-sums : goal.returns-clause-sums
returns-clause-sums c s =
    let sum = sum_in c.args.sums.now s in
    let noted = c.args.noted.now in
    let served = c.from-served.result in
    let once : Sum → ℕ = λ t. one_if (is_same s t) in
    let arrived : Sort → ℕ = λ t. once (Sent t) + once Deliveries in
    let cores = more sum (noted.cores * once Cores) (noted.requests * once Cores) _ _ (c.add.ensures s) (c.add-2.ensures s) in
    let gets = more sum _ (noted.requests * once (Sent Get)) _ _ cores (c.add-3.ensures s) in
    let requests = more sum _ (served * once Deliveries) _ _ gets (c.add-4.ensures s) in
    let grants = more sum _ (served * arrived Grant) _ _ requests (c.add_arrived.ensures s) in
    let forwards = more sum _ (noted.answers * arrived Forward) _ _ grants (c.add_arrived-2.ensures s) in
    let acks = more sum _ ((noted.answers - noted.refusals) * arrived Ack) _ _ forwards (c.add_arrived-3.ensures s) in
    let refusals = more sum _ (noted.refusals * arrived Nack) _ _ acks (c.add_arrived-4.ensures s) in
    let ends = more sum _ (noted.ended * arrived Done) _ _ refusals (c.add_arrived-5.ensures s) in
    let all = ends ∙ ap (λ n. capped (sum + n)) (put_in_all noted.cores noted.requests served noted.answers noted.refusals noted.ended
    (once Cores) (once (Sent Get)) (once Deliveries) (once (Sent Grant)) (once (Sent Forward)) (once (Sent Ack)) (once (Sent Nack)) (once (Sent Done)) c.requires) in
    subst (λ n. sum_in c.add_arrived-5.new.sums s ≡ capped (sum + told s (record noted { served = n }))) c.from-served.ensures all
