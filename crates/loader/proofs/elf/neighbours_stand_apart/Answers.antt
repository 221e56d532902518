use Rattle.std.proofs.Common.{rules}
use Rattle.std.specs.Prelude.{not}
use Rattle.std.proofs.lemmas.List.Sorted.{answers_always}
use Rattle.loader.specs.Headers.{share}
use Rattle.loader.proofs.elf.neighbours_stand_apart.Goals as goal

pub returns : goal.returns
returns c = c.is_sorted_by.ensures.cases (λ h k. not (share h k)) (answers_always _ _ _ (λ f a r g k. search rules))
