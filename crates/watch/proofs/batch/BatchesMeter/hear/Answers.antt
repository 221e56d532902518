use Rattle.std.proofs.Common.{◌≡◌, ◌<◌, ◌+◌, ◌∙◌, ℕ, arith, cond, get_or, length, subst, subst₂, sym}
use Rattle.std.specs.Prelude.{◌==◌, slice_set}
use Rattle.std.proofs.lemmas.Bool.Decides.{Decides-ltb}
use Rattle.words.specs.Limits.{most_harts}
use Rattle.watch.specs.Runs.{hart_in}
use Rattle.watch.proofs.Batches.{all_fit, less_room, one_grows}
use Rattle.watch.proofs.batch.BatchesMeter.hear.Goals as goal

-- the number of the entry's hart grows, and no other
pub returns-clause-meters : goal.returns-clause-meters
returns-clause-meters c =
    let xs = c.args.self.now.bits in
    let i = c.index-place.result in
    let is : i ≡ hart_in c.args.entry.now = c.index-place.ensures.value ∙ c.hart_of.ensures in
    let lt : i < length xs = subst (λ n. i < n) (sym c.are_complete.ensures) c.index-place.ensures.bound in (
      subst (λ k. k < most_harts) is c.index-place.ensures.bound,
      λ h. subst₂ (λ (k n : ℕ). get_or (slice_set xs i (get_or xs i 0 + c.unit.result)) h 0 ≡ get_or xs h 0 + cond (k == h) n 0) is c.unit.ensures (one_grows xs i h c.unit.result lt),
    )

pub returns-clause-room : goal.returns-clause-room
returns-clause-room c =
    let xs = c.args.self.now.bits in
    let i = c.index-place.result in
    let lt : i < length xs = subst (λ n. i < n) (sym c.are_complete.ensures) c.index-place.ensures.bound in
    let some : 0 < c.unit.result = let is = c.unit.ensures in omega (arith, is) in
    less_room xs i c.unit.result lt some (c.requires i)

-- all have room behind it if and only if this one has
pub returns-clause-fits : goal.returns-clause-fits
returns-clause-fits c =
    let xs = c.args.self.now.bits in
    let i = c.index-place.result in
    let x : ℕ = get_or xs i 0 + c.unit.result in
    let tells = Decides-ltb (get_or (slice_set xs i x) i 0) 2147483648 in
    (λ room. all_fit xs i x c.requires (tells.0 room), λ fit. tells.1 (fit i))
