use Rattle.std.proofs.Common.{true, refl, arith, subst}
use Rattle.machine.specs.States.{geometry}
use Rattle.machine.specs.Watch.{IsEnabledByRule}
use Rattle.words.specs.declared.entry.Step.TheVariants.{Evict}
use Rattle.schedule.proofs.Evicting.{evicted_line}
use Rattle.schedule.proofs.Naming.{line_within}
use Rattle.schedule.proofs.enabled.eviction_by.Goals as goal

pub returns : goal.returns
returns g c =
    let G = geometry g.row.SETS g.row.WAYS in
    let enabled : IsEnabledByRule G c.args.machine.now (Evict c.args.id c.args.block) true =
    subst (IsEnabledByRule G c.args.machine.now (Evict c.args.id c.args.block)) c.if-not-is_enabled.false c.is_enabled.ensures.rule in
    record {
      is = λ after. refl;
      within = (omega (arith, c.index-few.ensures.value, c.index-few.ensures.bound), line_within g.row.SETS g.row.WAYS c.args.machine.now c.keeps.ensures c.args.id c.args.block (evicted_line G c.args.machine.now c.args.id c.args.block enabled));
      enabled = enabled;
    }
