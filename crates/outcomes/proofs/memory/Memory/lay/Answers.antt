use Rattle.std.proofs.Common.{◌≡◌, ◌+◌, ℕ, sym, ap, ◌∙◌}
use Rattle.words.specs.Bytes.{byte_of}
use Rattle.flat.specs.Bytes.{put_at}
use Rattle.outcomes.specs.Harts.{mem_at}
use Rattle.outcomes.proofs.Laid.{laid_more}
use Rattle.outcomes.proofs.memory.Memory.lay.Goals as goal

pub loop-k-preserved : goal.loop-k-preserved
loop-k-preserved c a =
    let image = c.args.image.now in
    let mem = mem_at image c.loop-k.self in
    c.in_ok-put.ensures a
    ∙ ap (λ v. put_at (c.args.address + c.loop-k.k) v mem a) c.byte_of_value.ensures
    ∙ laid_more c.args.address c.loop-k.k (byte_of c.args.value) (mem_at image c.args.self.now) mem a (c.loop-k.invariant a)
