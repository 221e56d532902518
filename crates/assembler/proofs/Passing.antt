-- A pass over lines, by the first of them.
use Rattle.std.proofs.Common.{◌≡◌, ℕ, ◌+◌, ◌==◌, ◌<◌, ◌≤◌, List, [], ◌∷◌, length, Option, Some, None, IfSome, option_map, Bor, Result, Ok, Err, sym, ap, ◌∙◌, arith}
use Rattle.statements.specs.declared.fault.AsmFault.{AsmFault}
use Rattle.statements.specs.Cutting.{Cut, cut}
use Rattle.statements.specs.Operands.{◌>>=◌}
use Rattle.assembler.specs.Passes.{lines, at_line, pass}
use Rattle.statements.proofs.Cuts.{parts_cut, other_parts}

-- the lines that are left
abbrev pub left : Option (List ℕ) → List (List ℕ)
left None = []
left (Some text) = lines text

-- how many bytes are left, and one more if a line is
abbrev pub remaining : Option (List ℕ) → ℕ
remaining None = 0
remaining (Some text) = length text + 1

by_cut : (text front : List ℕ) (rest : Option (List ℕ)) → record { front = front; rest = rest } ≡ cut (λ c. c == 10) text → lines text ≡ front ∷ left rest
by_cut text front None h = parts_cut (λ c. c == 10) text ∙ ap (λ (c : Cut). c.front ∷ other_parts (λ c. c == 10) c.rest) (sym h)
by_cut text front (Some rest) h = parts_cut (λ c. c == 10) text ∙ ap (λ (c : Cut). c.front ∷ other_parts (λ c. c == 10) c.rest) (sym h)

module _ {S : Type 0} (step : List ℕ → S → Result S AsmFault) where
  pub pass_on : (n : ℕ) (text front : List ℕ) (rest : Option (List ℕ)) (s t : S) → record { front = front; rest = rest } ≡ cut (λ c. c == 10) text
      → step front s ≡ Ok t → pass step n (lines text) s ≡ pass step (n + 1) (left rest) t
  pass_on n text front rest s t h taken =
      ap (λ (ls : List (List ℕ)). pass step n ls s) (by_cut text front rest h) ∙ ap (λ (r : Result S AsmFault). at_line n r >>= pass step (n + 1) (left rest)) taken

  pub pass_fails : (n : ℕ) (text front : List ℕ) (rest : Option (List ℕ)) (s : S) (e : AsmFault) → record { front = front; rest = rest } ≡ cut (λ c. c == 10) text
      → step front s ≡ Err e → pass step n (lines text) s ≡ Err (record { line = n; fault = e })
  pass_fails n text front rest s e h taken =
      ap (λ (ls : List (List ℕ)). pass step n ls s) (by_cut text front rest h) ∙ ap (λ (r : Result S AsmFault). at_line n r >>= pass step (n + 1) (left rest)) taken

-- after a line fewer bytes are left
pub fewer : (rest : Option (Bor (List ℕ))) (n t m : ℕ) → IfSome rest (λ x. length x.now < t) → n + (t + 1) ≤ m → n + 1 + remaining (option_map (λ x. x.now) rest) ≤ m
fewer None n t m h bound = omega arith
fewer (Some x) n t m h bound = omega (arith, h)
