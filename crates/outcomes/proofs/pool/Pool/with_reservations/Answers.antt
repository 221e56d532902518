use Rattle.std.proofs.Common.{◌≡◌, ℕ, sym, subst}
use Rattle.outcomes.specs.Pools.{IsWithin}
use Rattle.outcomes.proofs.Pooled.{state_still, kept_within, kept_there}
use Rattle.outcomes.proofs.pool.Pool.with_reservations.Goals as goal

pub returns-clause-within : goal.returns-clause-within
returns-clause-within c =
    kept_within c.args.count c.args.self.now c.keep_reservations.new.self c.args.state c.in_ok-keep_reservations.field-0 c.args.reservations c.requires c.in_ok-keep_reservations.ensures.grows c.in_ok-keep_reservations.ensures.kept

pub returns-clause-flat : goal.returns-clause-flat
returns-clause-flat c s image count =
    let w = subst (λ n. IsWithin n c.args.self.now c.args.state) (sym count) c.requires in
    state_still s image c.args.self.now c.keep_reservations.new.self c.args.state w c.in_ok-keep_reservations.ensures.grows

pub returns-clause-reserved : goal.returns-clause-reserved
returns-clause-reserved c =
    kept_there c.args.count c.args.self.now c.keep_reservations.new.self c.args.state c.in_ok-keep_reservations.field-0 c.args.reservations c.requires c.in_ok-keep_reservations.ensures.grows c.in_ok-keep_reservations.ensures.kept
