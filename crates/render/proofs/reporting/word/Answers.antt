use Rattle.std.proofs.Common.{◌≡◌, Some, true, ap, sym, ◌∙◌}
use Rattle.words.specs.declared.entry.Width.TheVariants.{Word}
use Rattle.words.specs.Bytes.{number_at}
use Rattle.flat.specs.State.{Setting}
use Rattle.flat.specs.Reads.{is_readable}
use Rattle.render.proofs.Reading.{word_if-readable}
use Rattle.render.proofs.reporting.word.Goals as goal

pub unwrap-requires : goal.unwrap-requires
unwrap-requires g c = c.peek.ensures.readable ∙ c.requires

pub returns : goal.returns
returns g c = λ f belongs.
    let readable : is_readable f.setting c.args.addr ≡ true = ap (λ (s : Setting). is_readable s c.args.addr) (g.met.M.Engine.same_setting f c.args.machine.now belongs) ∙ c.requires in
    let read : c.peek.result ≡ Some (number_at f.mem c.args.addr Word) = c.peek.ensures.value f belongs ∙ word_if-readable f.setting f.mem c.args.addr readable in
    let same : Some c.unwrap.result ≡ Some (number_at f.mem c.args.addr Word) = sym c.unwrap.ensures ∙ read in
    cc
