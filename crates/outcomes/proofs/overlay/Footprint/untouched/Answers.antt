use Rattle.std.proofs.Common.{refl, None}
use Rattle.std.specs.Prelude.{replicate}
use Rattle.outcomes.proofs.Blanks.{byte_at-blank}
use Rattle.outcomes.proofs.overlay.Footprint.untouched.Goals as goal

pub returns-clause-bytes : goal.returns-clause-bytes
returns-clause-bytes c k = byte_at-blank (replicate 32 None) k refl
