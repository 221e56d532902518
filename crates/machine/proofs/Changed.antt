-- A map that is changed at one place is the one with the new value there.
use Rattle.std.proofs.Common.{◌≡◌, ◌≢◌, ℕ, true, false, cond, refl, ap, ◌∙◌}
use Rattle.std.specs.Prelude.{◌==◌}
use Rattle.std.proofs.Math.Path.{fun_ext}
use Rattle.flat.specs.Bytes.{put_at}
use Rattle.flat.proofs.Maps.{one_number, two_numbers}

pub changed_at : {A : Type 0} (i : ℕ) (v : A) (old new : ℕ → A) → new i ≡ v → ((j : ℕ) → j ≢ i → new j ≡ old j) → new ≡ put_at i v old
changed_at i v old new here there = fun_ext (λ j. elim (j == i) as (λ b. (j == i) ≡ b → new j ≡ cond b v (old j)) [
  | true ↦ λ e. ap new (one_number j i e) ∙ here
  | false ↦ λ e. there j (two_numbers j i e)
] refl)
