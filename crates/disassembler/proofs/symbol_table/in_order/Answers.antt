use Rattle.std.proofs.Common.{◌≡◌, rules, sym, subst, List}
use Rattle.std.specs.List.Sorted.{IsPermutation}
use Rattle.std.proofs.lemmas.List.Sorted.{IsNonDecreasingBy-from_sort_by_key, answers_always}
use Rattle.disassembler.specs.declared.symbol.Symbol.{Symbol}
use Rattle.disassembler.specs.Orders.{IsInOrder}
use Rattle.disassembler.proofs.Ordered.{kept_by_address}
use Rattle.disassembler.proofs.symbol_table.in_order.Goals as goal

pub returns : goal.returns
returns c =
    let ts = c.sort_by_key.new.self.items in
    let sorts : IsInOrder c.in_ok-rising.rising.items ts = record {
      moved = c.sort_by_key.ensures.permutation;
      rises = IsNonDecreasingBy-from_sort_by_key (λ (s : Symbol). s.address) ts c.in_ok-sort_by_key.ensures.sorted (λ a r q k. search rules);
      kept = kept_by_address c.in_ok-rising.rising.items ts (c.sort_by_key.ensures.stable (λ (s : Symbol). s.address) (answers_always _ _ _ (λ f a r q k. search rules)));
    } in
    subst (λ (ss : List Symbol). IsInOrder ss ts) c.in_ok-rising.ensures.items sorts
