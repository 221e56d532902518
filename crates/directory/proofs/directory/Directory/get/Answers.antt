use Rattle.std.proofs.Common.{◌≡◌, ◌<◌, true, Some, is_some, IsSome, nat_cmp, sym, ap, refl, ◌∙◌}
use Rattle.std.specs.BTreeMap.{get_by}
use Rattle.directory.specs.declared.entry.Busy.{Busy}
use Rattle.directory.specs.Blocks.{Blocks, kept_at}
use Rattle.directory.proofs.Kept.{IsSound-put, IsSound-put_back, IsKept-busy, busy-waits, put_back}
use Rattle.directory.proofs.directory.Directory.get.Goals as goal

-- where the block is busy, what was found is put back
pub invariant_of-self : goal.invariant_of-self
invariant_of-self c = IsSound-put_back _ _ _ _ _ _ c.self.invariant (c.get_mut.follows.holds c.in-Some.kept.now).0 (sym c.in-Some.ensures.value)

pub returns-then-is_some-clause-ok : goal.returns-then-is_some-clause-ok
returns-then-is_some-clause-ok c =
    let found : kept_at c.args.self.now c.args.request.now.block ≡ Some c.in-Some.kept.now = rw (← c.self.view_is, ← c.number.ensures) (sym c.in-Some.ensures.value) in
    let busy : is_some c.in-Some.kept.now.busy ≡ true = sym c.is_some.ensures ∙ c.if-is_some.true in
    let same : (c.get_mut.follows.lender c.in-Some.kept.now).entries ≡ c.self.inside.entries.entries = put_back _ _ _ _ (c.get_mut.follows.holds c.in-Some.kept.now).0 (sym c.in-Some.ensures.value) in (
      rw found (busy-waits _ _ busy),
      ap (λ es. record { harts = c.self.inside.harts; kept = es; memory = c.self.inside.memory.items }) same ∙ c.self.view_is,
    )

-- and else it is made busy
pub invariant_of-self-in-Some : goal.invariant_of-self-in-Some
invariant_of-self-in-Some c =
    let some : IsSome (get_by (nat_cmp c.number.result) c.self.inside.entries) = rw (← c.in-Some.ensures.value) refl in
    let hart : c.args.request.now.requester < c.self.inside.harts = rw (ap (λ (d : Blocks). d.harts) c.self.view_is) c.requires.hart in
    let busy : Busy = record { requester = c.args.request.now.requester; give = c.given-give.result } in
    let kept = c.self.invariant.kept c.number.result c.in-Some.kept.now (sym c.in-Some.ensures.value) in
    IsSound-put _ _ _ _ _ _ c.self.invariant ((c.get_mut.follows.holds (record c.in-Some.kept.now { busy = Some busy })).3 some).0
    (IsKept-busy _ _ _ _ busy kept.inside kept.named hart)
