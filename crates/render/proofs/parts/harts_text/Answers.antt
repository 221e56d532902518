use Rattle.std.proofs.Common.{length, sym, ap, ◌∙◌, arith}
use Rattle.words.specs.Harts.{names}
use Rattle.render.specs.Parts.{listed}
use Rattle.render.proofs.Members.{listed-with, listed-without}
use Rattle.render.proofs.parts.harts_text.Goals as goal
use Rattle.render.proofs.parts.harts_text.Goals.{then-contains, else-contains}

pub loop-number-init : goal.loop-number-init
unfolding listed
loop-number-init c = record { text = c.new-text.ensures; short = omega (arith, ap length c.new-text.ensures) }

pub loop-number-preserved : goal.loop-number-preserved
loop-number-preserved c =
    let named = names c.args.harts.now in
    elim c.if-contains.branch [
      | then-contains w ↦ record {
        text = rw w.text-is (w.add.ensures.text ∙ listed-with named c.loop-number.number c.new-hart.result c.loop-number.text.bytes c.new-hart.ensures (sym c.contains.ensures ∙ w.if-contains.true) c.loop-number.invariant.text);
        short = rw w.text-is (omega (arith, w.add.ensures.longer, c.loop-number.invariant.short));
      }
      | else-contains w ↦ record {
        text = rw w.text-is (listed-without named c.loop-number.number c.new-hart.result c.loop-number.text.bytes c.new-hart.ensures (sym c.contains.ensures ∙ w.if-contains.false) c.loop-number.invariant.text);
        short = rw w.text-is (omega (arith, c.loop-number.invariant.short));
      }
    ]
