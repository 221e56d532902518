use Rattle.std.proofs.Common.{refl, None}
use Rattle.std.specs.Prelude.{replicate}
use Rattle.outcomes.proofs.Blanks.{byte_at-blank}
use Rattle.outcomes.proofs.reservations.Reservations.none.Goals as goal

pub returns : goal.returns
returns c i = byte_at-blank (replicate 8 None) i refl
