use Rattle.std.proofs.Common.{◌≡◌, ℕ, ap, subst, sym}
use Rattle.flat.specs.State.{Setting}
use Rattle.outcomes.specs.Pools.{IsWithin}
use Rattle.outcomes.proofs.breadth_first.Outcomes.standing.Goals as goal

pub standing-requires : goal.standing-requires
standing-requires c =
    subst (λ n. IsWithin n c.args.self.now.pool c.index.result.now) (sym (ap (λ (s : Setting). s.count) c.scene.ensures.setting))
    (c.requires.search.within c.args.place c.index.result.now c.index.ensures)
