use Rattle.std.proofs.Common.{◌≡◌, ◌<◌, ◌%◌, ℕ, List, [], length, get_or, Option, Some, None, IsTrue, sym, ◌∙◌, ap, subst, arith}
use Rattle.std.proofs.lemmas.List.{get_or_default}
use Rattle.std.proofs.lemmas.Option.{none-some, same_Some}
use Rattle.words.specs.declared.message.LineState.TheVariants.{Modified}
use Rattle.cache.specs.declared.line.Line.{Line}
use Rattle.cache.specs.Ways.{holds}
use Rattle.cache.specs.Sets.{Sets, line_at, way_at, IsSound}
use Rattle.cache.proofs.Changes.{Stands, stands, found_way, way_fits}
use Rattle.cache.proofs.cache.Cache.line_in.Goals as goal

-- the line of a block that stands in a way, in the set and the way that are looked at
record Looked (count : ℕ) (sets : Sets) (b w : ℕ) (ways : List (Option Line)) : Type 0 where
  pub line : Line
  pub here : line_at count sets b ≡ Some line
  pub inside : w < length ways
  pub read : (o : Option Line) → get_or ways w o ≡ Some line
  pub of_block : line.block ≡ b
  pub owned : IsTrue line.marks.written → line.state ≡ Modified

looked : (count size : ℕ) (sets : Sets) (b w n : ℕ) (ways : List (Option Line)) → IsSound count size sets → length sets ≡ count → way_at count sets b ≡ Some w → n ≡ b → ways ≡ get_or sets (n % count) ways
    → Looked count sets b w ways
unfolding line_at
looked count size sets b w n ways sound long way number is =
    let found = found_way count sets b w way in
    let old : Stands count sets b w = stands count size sets b w sound long found in
    let same : ways ≡ get_or sets (b % count) [] = subst (λ m. ways ≡ get_or sets (m % count) ways) number is ∙ get_or_default sets (b % count) ways [] old.within in
    record {
      line = old.line;
      here = rw found old.here;
      inside = subst (λ (x : List (Option Line)). w < length x) (sym same) old.inside;
      read = λ o. ap (λ (x : List (Option Line)). get_or x w o) same ∙ get_or_default (get_or sets (b % count) []) w o None old.inside ∙ old.here;
      of_block = old.of_block;
      owned = (sound.lines (b % count) w old.line old.here).owned;
    }

pub offset_bounds-ways-way : goal.offset_bounds-ways-way
offset_bounds-ways-way g c =
    let way = subst (λ (sets : Sets). way_at g.row.SETS sets c.args.block ≡ Some c.args.way) (sym c.self.view_is) c.requires in
    let few = way_fits g.row.SETS g.row.WAYS c.self.inside.sets (holds c.args.block) c.args.way c.args.block c.self.invariant.0 (found_way g.row.SETS c.self.inside.sets c.args.block c.args.way way) in
    omega (arith, few)

pub listed : goal.listed
listed g c =
    let way = subst (λ (sets : Sets). way_at g.row.SETS sets c.args.block ≡ Some c.args.way) (sym c.self.view_is) c.requires in
    (looked g.row.SETS g.row.WAYS c.self.inside.sets c.args.block c.args.way c.index.result c.index-sets-index.result c.self.invariant.0 c.self.told way c.index.ensures.value c.index-sets-index.is).inside

pub bounds-ways-way : goal.bounds-ways-way
bounds-ways-way g c =
    let way = subst (λ (sets : Sets). way_at g.row.SETS sets c.args.block ≡ Some c.args.way) (sym c.self.view_is) c.requires in
    let here = looked g.row.SETS g.row.WAYS c.self.inside.sets c.args.block c.args.way c.index.result c.index-sets-index.result c.self.invariant.0 c.self.told way c.index.ensures.value c.index-sets-index.is in
    omega (arith, here.inside, c.type_inv.ways)

pub unreachable-requires : goal.unreachable-requires
unreachable-requires g c =
    let way = subst (λ (sets : Sets). way_at g.row.SETS sets c.args.block ≡ Some c.args.way) (sym c.self.view_is) c.requires in
    let here = looked g.row.SETS g.row.WAYS c.self.inside.sets c.args.block c.args.way c.index.result c.index-sets-index.result c.self.invariant.0 c.self.told way c.index.ensures.value c.index-sets-index.is in
    none-some here.line (sym c.in-None.is ∙ here.read c.index-ways-way.result)

pub returns-clause-value : goal.returns-clause-value
returns-clause-value g c =
    let way = subst (λ (sets : Sets). way_at g.row.SETS sets c.args.block ≡ Some c.args.way) (sym c.self.view_is) c.requires in
    let here = looked g.row.SETS g.row.WAYS c.self.inside.sets c.args.block c.args.way c.index.result c.index-sets-index.result c.self.invariant.0 c.self.told way c.index.ensures.value c.index-sets-index.is in
    ap (λ (sets : Sets). line_at g.row.SETS sets c.args.block) (sym c.self.view_is) ∙ here.here ∙ sym (here.read c.index-ways-way.result) ∙ c.in-Some.is

pub returns-clause-block : goal.returns-clause-block
returns-clause-block g c =
    let way = subst (λ (sets : Sets). way_at g.row.SETS sets c.args.block ≡ Some c.args.way) (sym c.self.view_is) c.requires in
    let here = looked g.row.SETS g.row.WAYS c.self.inside.sets c.args.block c.args.way c.index.result c.index-sets-index.result c.self.invariant.0 c.self.told way c.index.ensures.value c.index-sets-index.is in
    ap (λ (l : Line). l.block) (same_Some c.in-Some.line here.line (sym c.in-Some.is ∙ here.read c.index-ways-way.result)) ∙ here.of_block

pub returns-clause-owned : goal.returns-clause-owned
returns-clause-owned g c =
    let way = subst (λ (sets : Sets). way_at g.row.SETS sets c.args.block ≡ Some c.args.way) (sym c.self.view_is) c.requires in
    let here = looked g.row.SETS g.row.WAYS c.self.inside.sets c.args.block c.args.way c.index.result c.index-sets-index.result c.self.invariant.0 c.self.told way c.index.ensures.value c.index-sets-index.is in
    subst (λ (l : Line). IsTrue l.marks.written → l.state ≡ Modified) (same_Some here.line c.in-Some.line (sym (here.read c.index-ways-way.result) ∙ c.in-Some.is)) here.owned
