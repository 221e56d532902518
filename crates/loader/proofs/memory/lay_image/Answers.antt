use Rattle.std.proofs.Common.{rules, ◌≡◌, ◌-◌, ◌+◌, cond, drop, length, subst, sym, ap, ◌∙◌}
use Rattle.std.specs.Prelude.{◌∷◌}
use Rattle.table.specs.Program.{AreBytes, image_at, holds, byte_in}
use Rattle.loader.proofs.Segments.{one_more}
use Rattle.loader.proofs.memory.lay_image.Goals as goal

-- one segment more
pub loop-k-preserved : goal.loop-k-preserved
loop-k-preserved c =
    let segments = c.args.segments.now in
    let more : drop (length segments - (c.loop-k.k + 1)) segments ≡ c.index-segments-segments.result ∷ drop (length segments - c.loop-k.k) segments = one_more segments c.loop-k.k c.index-segments-segments.result (search rules) (search rules) in (
      subst AreBytes (sym more) (c.lay_segment.ensures.bytes, c.loop-k.invariant.0),
      λ a. c.lay_segment.ensures.memory a ∙ ap (λ m. cond (holds c.index-segments-segments.result a 1) (byte_in c.index-segments-segments.result a) m) (c.loop-k.invariant.1 a) ∙ sym (ap (λ ss. image_at ss a) more),
    )
