-- Counts that are all 0.
use Rattle.std.proofs.Common.{◌≡◌, ℕ, List, get_or, replicate, inl, inr}
use Rattle.std.proofs.lemmas.Bool.{cases_lt}
use Rattle.std.proofs.lemmas.List.{get_or-replicate, get_or_past, length-replicate}

abbrev pub zeros : ℕ → List ℕ
zeros n = replicate n 0

pub always_zero : (n p : ℕ) → get_or (zeros n) p 0 ≡ 0
always_zero n p = elim (cases_lt p n) [ inl less ↦ get_or-replicate n p 0 0 less | inr beyond ↦ get_or_past (zeros n) p 0 (rw (length-replicate {A = ℕ} n 0) beyond) ]
