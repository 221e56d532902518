use Rattle.std.proofs.Common.{◌≡◌, ◌+◌, ◌-◌, ◌≤◌, ℕ, nat_le, true, false, rules, sym, ap, subst, ◌∙◌, get_or, Some, arith}
use Rattle.std.specs.List.Sorted.{IsPartitionPoint}
use Rattle.std.proofs.lemmas.List.Sorted.{IsPartitionPoint-from_clause, IsPartitionedBy-leb}
use Rattle.disassembler.specs.declared.symbol.Symbol.{Symbol}
use Rattle.disassembler.proofs.Nearest.{IsAbove}
use Rattle.disassembler.proofs.Ordered.{nearest-first, nearest-last}
use Rattle.disassembler.proofs.symbol_table.nearest.Goals as goal

pub returns-then-below-eq0 : goal.returns-then-below-eq0
returns-then-below-eq0 c =
    let ss = c.args.rising.now in
    let a = c.args.address in
    let point = IsPartitionPoint-from_clause (λ (s : Symbol). nat_le s.address a) ss c.partition_point-below.result c.partition_point-below.ensures.partitioned
    (IsPartitionedBy-leb (λ (s : Symbol). s.address) ss a c.requires) (λ a r q k. search rules) in
    sym (nearest-first ss a (subst (λ n. IsPartitionPoint (λ (s : Symbol). nat_le s.address a ≡ true) (IsAbove a) ss n) c.if-below-eq0.true point))

pub returns : goal.returns
returns c =
    let ss = c.args.rising.now in
    let a = c.args.address in
    let n = c.partition_point-below.result - 1 in
    let some = c.if-below-eq0.false in
    let next : c.partition_point-below.result ≡ n + 1 = omega (arith, some) in
    let bound = c.partition_point-below.ensures.bound in
    let point = IsPartitionPoint-from_clause (λ (s : Symbol). nat_le s.address a) ss c.partition_point-below.result c.partition_point-below.ensures.partitioned
    (IsPartitionedBy-leb (λ (s : Symbol). s.address) ss a c.requires) (λ a r q k. search rules) in
    sym (nearest-last ss a n _ c.requires (subst (λ n. IsPartitionPoint (λ (s : Symbol). nat_le s.address a ≡ true) (IsAbove a) ss n) next point) (omega (arith, next, bound)))
