use Rattle.std.proofs.Common.{◌≡◌, ◌-◌, ◌∙◌, ℕ, ap, arith, get_or, subst, sym}
use Rattle.watch.specs.Kinds.{Grows, count_at, shares}
use Rattle.watch.specs.Runs.{batch_shares, loads_of, stores_of, words_of}
use Rattle.watch.proofs.Batches.{all_below, below, none_below, one_below}
use Rattle.watch.proofs.cells.Counts.add_batches.Goals as goal

pub loop-i-init : goal.loop-i-init
loop-i-init c = λ h k. none_below h (batch_shares h k c.args.begun (get_or c.args.batches.now.bits h 0)) (count_at c.args.self.now h k)

-- one more
pub loop-i-preserved : goal.loop-i-preserved
loop-i-preserved c = λ h k.
    let bits = c.args.batches.now.bits in
    let i = c.loop-i.i in
    let hart : c.new-hart.result ≡ i = c.new-hart.ensures in
    let number : c.of-batch.result.bits ≡ get_or bits i 0 = c.of-batch.ensures ∙ ap (λ (n : ℕ). get_or bits n 0) hart in
    let words = c.saturating_sub-words.ensures ∙ ap (λ (n : ℕ). n - c.args.begun) (c.words.ensures ∙ ap words_of number) in
    let loads = c.loads.ensures ∙ ap loads_of number in
    let stores = c.stores.ensures ∙ ap stores_of number in
    let added = subst (λ (n : ℕ). Grows (count_at c.loop-i.self h k) (shares h k n c.saturating_sub-words.result c.loads.result c.stores.result) (count_at c.add_words.new.self h k)) hart (c.add_words.ensures h k) in
    one_below h k i c.saturating_sub-words.result c.loads.result c.stores.result (batch_shares h k c.args.begun (get_or bits h 0)) (count_at c.args.self.now h k) (count_at c.loop-i.self h k) (count_at c.add_words.new.self h k)
    (λ same. (λ j. shares h k i (words j) (loads j) (stores j)) ∙ (λ j. shares h k (sym same j) (words_of (get_or bits (sym same j) 0) - c.args.begun) (loads_of (get_or bits (sym same j) 0)) (stores_of (get_or bits (sym same j) 0))))
    (c.loop-i.invariant h k) added

-- each hart has one
pub returns : goal.returns
returns c = λ h k. subst (λ (n : ℕ). Grows (count_at c.args.self.now h k) n (count_at c.loop-i.self h k)) (all_below h k c.args.begun c.args.batches.now.bits c.are_complete.ensures) (let ends : c.loop-i.i ≡ 8 = omega (arith, c.loop-i-test.false, c.loop-i.auto.i-end) in subst (λ (n : ℕ). Grows (count_at c.args.self.now h k) (below n h (batch_shares h k c.args.begun (get_or c.args.batches.now.bits h 0))) (count_at c.loop-i.self h k)) ends (c.loop-i.invariant h k))
