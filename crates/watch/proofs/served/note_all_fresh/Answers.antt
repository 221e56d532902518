use Rattle.std.proofs.Common.{arith, ◌+◌, ◌∙◌, ap, sym}
use Rattle.std.specs.Prelude.{if◌then◌else◌}
use Rattle.flat.specs.Bytes.{put_at}
use Rattle.words.specs.Harts.{names, IsNext}
use Rattle.machine.specs.States.{shown}
use Rattle.watch.specs.Kinds.{Fresh}
use Rattle.watch.proofs.Freshness.{noted, noted_first, noted_more, noted_all}
use Rattle.watch.proofs.served.note_all_fresh.Goals as goal

-- the requester is noted
pub loop-id-init : goal.loop-id-init
loop-id-init g c =
    let fresh : Fresh = λ i. ((shown g.row.SETS c.args.machine.now).harts i).fresh in
    let r = c.args.service.now.requester in
    (omega arith, λ i. noted_first fresh r c.args.service.now.asked (names c.args.fresh.now) (names c.set_fresh.new.set) i (c.set_fresh.ensures i ∙ ap (λ b. put_at r b (names c.args.fresh.now) i) c.fresh.ensures))

-- one more
pub loop-id-preserved : goal.loop-id-preserved
loop-id-preserved g c =
    let fresh : Fresh = λ i. ((shown g.row.SETS c.args.machine.now).harts i).fresh in
    let so_far = c.loop-id.invariant in
    let to = c.in-Some.id in
    let next : IsNext c.args.service.now.asked c.loop-id.from to = c.in-Some.ensures.some in (
      omega (arith, c.index-from.ensures.value),
      λ i. noted_more fresh c.args.service.now.requester c.args.service.now.asked c.loop-id.from to (names c.args.fresh.now) (names c.loop-id.fresh) (names c.set_fresh-in-Some.new.set) i next (so_far.1 i)
          (c.set_fresh-in-Some.ensures i ∙ ap (λ b. put_at to b (names c.loop-id.fresh) i) c.fresh-in-Some.ensures)
          ∙ ap (λ n. if noted c.args.service.now.requester c.args.service.now.asked (n + 1) i then fresh i else names c.args.fresh.now i) (sym c.index-from.ensures.value),
    )

-- and none behind the last
pub returns : goal.returns
returns g c = λ i. noted_all (λ j. ((shown g.row.SETS c.args.machine.now).harts j).fresh) c.args.service.now.requester c.args.service.now.asked c.loop-id.from (names c.args.fresh.now) (names c.loop-id.fresh) i c.in_default.ensures.none (c.loop-id.invariant.1 i)
