use Rattle.std.proofs.Common.{◌≡◌, ◌≤◌, ◌+◌, ◌∙◌, ℕ, ap, arith, length, subst, sym}
use Rattle.words.specs.Limits.{most_harts}
use Rattle.machine.specs.States.{shown}
use Rattle.watch.specs.declared.kinds.Kind.TheVariants.{Held}
use Rattle.watch.specs.Kinds.{Grows, count_at, held_behind, is_count, number_in, one_if, waits_behind}
use Rattle.watch.proofs.Requests.{held_all, no_one_held, none_held, one_held}
use Rattle.watch.proofs.cells.Counts.note_held.Goals.{then-waits_behind, else-waits_behind}
use Rattle.watch.proofs.cells.Counts.note_held.Goals as goal

pub loop-i-init : goal.loop-i-init
loop-i-init g c = λ h k. none_held (shown g.row.SETS c.args.machine.now) c.args.served c.args.block h k (count_at c.args.self.now h k)

pub loop-i-preserved : goal.loop-i-preserved
loop-i-preserved g c =
    let w = shown g.row.SETS c.args.machine.now in
    let i = c.args.served in
    let b = c.args.block in
    let n = c.loop-i.i in
    let same : c.new-id.result ≡ n = c.new-id.ensures in
    elim c.if-waits_behind.branch [
      | then-waits_behind v ↦ λ h k.
          let waits = sym (ap (waits_behind w i b) same) ∙ sym c.waits_behind.ensures ∙ v.if-waits_behind.true in
          let added = subst (λ (x : ℕ). Grows (count_at c.loop-i.self h k) (one_if (is_count h k (x, Held))) (count_at v.add.new.self h k)) same (v.add.ensures h k) in
          subst (λ counts. Grows (count_at c.args.self.now h k) (number_in h k (held_behind w i b (n + 1))) (count_at counts h k)) (sym v.self-is)
          (one_held w i b h k (count_at c.args.self.now h k) n (count_at c.loop-i.self h k) (count_at v.add.new.self h k) waits (c.loop-i.invariant h k) added)
      | else-waits_behind v ↦ λ h k.
          let waits = sym (ap (waits_behind w i b) same) ∙ sym c.waits_behind.ensures ∙ v.if-waits_behind.false in
          subst (λ counts. Grows (count_at c.args.self.now h k) (number_in h k (held_behind w i b (n + 1))) (count_at counts h k)) (sym v.self-is)
          (no_one_held w i b h k (count_at c.args.self.now h k) n (count_at c.loop-i.self h k) waits (c.loop-i.invariant h k))
    ]

-- none waits beyond the harts
pub returns : goal.returns
returns g c = λ h k.
    let v = c.args.machine.now in
    let w = shown g.row.SETS v in
    let i = c.args.served in
    let b = c.args.block in
    let count = c.harts-i-end.ensures in
    let ends : c.loop-i.i ≡ length v.seats = omega (arith, count.value, c.loop-i-test.false, c.loop-i.auto.i-end) in
    let few : length v.seats ≤ most_harts = omega (arith, count.value, count.few) in
    let all = ap (λ n. number_in h k (held_behind w i b n)) ends ∙ ap (number_in h k) (held_all g.row.SETS v i b few) in
    subst (λ n. Grows (count_at c.args.self.now h k) n (count_at c.loop-i.self h k)) all (c.loop-i.invariant h k)
