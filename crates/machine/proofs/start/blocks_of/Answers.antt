use Rattle.std.proofs.Common.{◌≡◌, ◌++◌, ◌∷◌, [], arith, length, sym, ap, ◌∙◌}
use Rattle.std.proofs.lemmas.List.FromFn.{length-map-range_with_len, map-range_with_len_more}
use Rattle.loader.specs.Memory.{mem_of}
use Rattle.protocol.specs.Lines.{words_at}
use Rattle.machine.specs.States.{words_of}
use Rattle.machine.proofs.Blocks.{blocks_in, words_in}
use Rattle.machine.proofs.start.blocks_of.Goals as goal

pub loop-block-preserved : goal.loop-block-preserved
loop-block-preserved c =
    c.in_ok-push.ensures.items
    ∙ (λ i. c.loop-block.invariant i ++ c.block_at.ensures i ∷ [])
    ∙ sym (map-range_with_len_more (words_at (mem_of c.args.memory.now)) 0 c.loop-block.block c.loop-block.block (omega arith))

-- all blocks stand
done : (c : goal.After-loop-block) → c.loop-block.blocks.items ≡ blocks_in c.args.memory.now c.args.count
done c =
    let all : c.loop-block.block ≡ c.args.count = omega (arith, c.loop-block-test.false, c.loop-block.auto.block-end) in
    c.loop-block.invariant ∙ ap (blocks_in c.args.memory.now) all

pub returns-clause-count : goal.returns-clause-count
returns-clause-count c = c.loop-block.blocks.ok.0 ∙ ap length (done c) ∙ length-map-range_with_len (words_at (mem_of c.args.memory.now)) 0 c.args.count

pub returns-clause-words : goal.returns-clause-words
returns-clause-words c = λ b. ap (λ blocks. words_of blocks b) (done c) ∙ words_in c.args.memory.now c.args.count b c.requires
