use Rattle.std.proofs.Common.{◌≡◌, ◌∙◌, sym, subst, refl}
use Rattle.std.proofs.lemmas.List.{take_min}
use Rattle.loader.specs.Programs.{IsProgram}
use Rattle.reference.specs.Samples.{sample_of}
use Rattle.reference.proofs.Sample.{is_program}
use Rattle.reference.proofs.samples.program.Goals as goal

made : (c : goal.After-new) → record { entry = c.new.result; segments = c.push.new.self.items } ≡ sample_of c.args.text.now
made c = rw (c.in_ok-push.ensures.items, c.new-segments.ensures.items, c.in_ok-text_of.ensures, c.min.ensures, take_min 1047552 c.args.text.now, c.new.ensures) refl

pub new-requires-2 : goal.new-requires-2
new-requires-2 c = subst IsProgram (sym (made c)) (is_program c.args.text.now)

pub returns : goal.returns
returns c = c.new-2.ensures ∙ rw (c.in_ok-push.ensures.items, c.new-segments.ensures.items, c.in_ok-text_of.ensures, c.min.ensures, take_min 1047552 c.args.text.now, c.new.ensures) refl
