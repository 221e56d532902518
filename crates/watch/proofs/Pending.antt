-- What was noted, put into the sums one number after another.
use Rattle.std.proofs.Common.{◌≡◌, ◌≤◌, ◌+◌, ◌-◌, ◌*◌, ℕ, ◌∙◌, ap, arith}
use Rattle.watch.specs.Traffic.{capped}
use Rattle.watch.proofs.Capping.{capped_more}

-- a sum to which some were added, and then more
pub more : (sum a b mid last : ℕ) → mid ≡ capped (sum + a) → last ≡ capped (mid + b) → last ≡ capped (sum + (a + b))
more sum a b mid last first second =
    let all : sum + a + b ≡ sum + (a + b) = omega arith in
    second ∙ ap (λ (n : ℕ). capped (n + b)) first ∙ capped_more (sum + a) b ∙ ap capped all

-- all that is put in is what is told: each number counts as often as its sum is the one that is looked at, here c, q, d and so on
pub put_in_all : (cores requests served answers refusals ended c q d g f a n e : ℕ) → refusals ≤ answers
    → cores * c + requests * c + requests * q + served * d + served * (g + d) + answers * (f + d) + (answers - refusals) * (a + d) + refusals * (n + d) + ended * (e + d)
    ≡ (cores + requests) * c + requests * q + (2 * served + 2 * answers + ended) * d + served * g + answers * f + (answers - refusals) * a + refusals * n + ended * e
put_in_all cores requests served answers refusals ended c q d g f a n e fewer = by_rest (answers - refusals) (omega (arith, fewer))
  where
    by_rest : (rest : ℕ) → answers ≡ rest + refusals
        → cores * c + requests * c + requests * q + served * d + served * (g + d) + answers * (f + d) + rest * (a + d) + refusals * (n + d) + ended * (e + d)
        ≡ (cores + requests) * c + requests * q + (2 * served + 2 * answers + ended) * d + served * g + answers * f + rest * a + refusals * n + ended * e
    by_rest rest is =
        let both : answers * d ≡ rest * d + refusals * d = rw is (grind arith) in
        grind (arith, both)
