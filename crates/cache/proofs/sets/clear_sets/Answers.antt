use Rattle.std.proofs.Common.{◌≡◌, ◌<◌, ℕ, [], get_or, map, refl, sym, ◌∙◌, ap, arith, inl, inr}
use Rattle.std.proofs.lemmas.Bool.{cases_lt}
use Rattle.std.specs.Option.{option_map}
use Rattle.std.proofs.lemmas.List.{length-map, length-set, get_or-map, get_or-set_same, get_or-set_other}
use lib.Seq.{ext_get_or}
use Rattle.cache.specs.Line.{without_marks}
use Rattle.cache.proofs.Occupancy.{unmarked_at}
use Rattle.cache.proofs.sets.clear_sets.Goals as goal

pub loop-set-init : goal.loop-set-init
loop-set-init g c = (refl, λ s below. unmarked_at c.args.occupied.now c.args.sets.now c.requires s (c.next-set.ensures.first s (omega arith) below), λ s from. refl)

pub loop-set-preserved : goal.loop-set-preserved
loop-set-preserved g c =
    let skipped : (s : ℕ) → c.loop-set.set < s → s < c.next-set-in-loop-set.result → get_or c.args.sets.now s [] ≡ map (option_map without_marks) (get_or c.args.sets.now s []) =
    λ s above below. unmarked_at c.args.occupied.now c.args.sets.now c.requires s (c.next-set-in-loop-set.ensures.first s (omega arith) below) in (
      length-set c.loop-set.sets c.loop-set.set c.clear_ways.new.ways ∙ c.loop-set.invariant.0,
      λ s below. elim (cases_lt s c.loop-set.set) [
        | inl before ↦ get_or-set_other c.loop-set.sets c.loop-set.set s c.clear_ways.new.ways [] (λ same. absurd (omega (arith, same))) ∙ c.loop-set.invariant.1 s before
        | inr from ↦ elim (cases_lt c.loop-set.set s) [
          | inl above ↦ get_or-set_other c.loop-set.sets c.loop-set.set s c.clear_ways.new.ways [] (λ same. absurd (omega (arith, same))) ∙ c.loop-set.invariant.2 s from ∙ skipped s above below
          | inr not_above ↦
              let this : s ≡ c.loop-set.set = omega arith in
              rw this (get_or-set_same c.loop-set.sets c.loop-set.set c.clear_ways.new.ways [] c.loop-set-test.true ∙ c.clear_ways.ensures ∙ ap (map (option_map without_marks)) (c.loop-set.invariant.2 c.loop-set.set (omega arith)))
        ]
      ],
      λ s from. get_or-set_other c.loop-set.sets c.loop-set.set s c.clear_ways.new.ways [] (λ same. absurd (omega (arith, same, c.next-set-in-loop-set.ensures.from))) ∙ c.loop-set.invariant.2 s (omega (arith, c.next-set-in-loop-set.ensures.from)),
    )

pub returns : goal.returns
returns g c =
    let unmarked = map (map (option_map without_marks)) c.args.sets.now in
    ext_get_or [] c.loop-set.sets unmarked (c.loop-set.invariant.0 ∙ sym (length-map c.args.sets.now (map (option_map without_marks)))) (λ s h.
    c.loop-set.invariant.1 s (omega (arith, c.loop-set-test.false)) ∙ sym (get_or-map (map (option_map without_marks)) c.args.sets.now s [] [] (rw c.loop-set.invariant.0 at h)))
