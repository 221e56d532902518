-- Operands behind a mnemonic are found one by one.
use Rattle.std.proofs.Common.{◌≡◌, ℕ, ◌==◌, List, ◌∷◌, ◌++◌, Ok, refl, ap, ◌∙◌}
use Rattle.statements.specs.Cutting.{Cut, trim}
use Rattle.statements.specs.Instructions.{before_comma, without_comma, first, last, two, three}
use Rattle.statements.proofs.Round.Tokens.{solid_no_comma, cut_at, cut_nowhere, IsToken, token_tight, tight_trim}
use Rattle.statements.proofs.Round.Operands.{bound}

trimmed_token : (t : List ℕ) → IsToken t → trim t ≡ t
trimmed_token t h = tight_trim t (token_tight t h)

-- an operand, at the beginning or behind a comma and a space

first_read : (t rest : List ℕ) → IsToken t → first (t ++ 44 ∷ rest) ≡ Ok (record { operand = t; others = rest })
unfolding first
first_read t rest h =
    ap (λ (k : Cut). before_comma k.front k.rest) (cut_at (λ c. c == 44) t 44 rest (solid_no_comma t h.solid) refl)
    ∙ ap (λ x. Ok (record { operand = x; others = rest })) (trimmed_token t h)

next_read : (t rest : List ℕ) → IsToken t → first (32 ∷ (t ++ 44 ∷ rest)) ≡ Ok (record { operand = t; others = rest })
unfolding first
next_read t rest h =
    ap (λ (k : Cut). before_comma k.front k.rest) (cut_at (λ c. c == 44) (32 ∷ t) 44 rest (solid_no_comma t h.solid) refl)
    ∙ ap (λ x. Ok (record { operand = x; others = rest })) (trimmed_token t h)

pub last_read : (t : List ℕ) → IsToken t → last t ≡ Ok t
unfolding last
last_read t h =
    ap (λ (k : Cut). without_comma k.front k.rest) (cut_nowhere (λ c. c == 44) t (solid_no_comma t h.solid)) ∙ ap (λ x. Ok x) (trimmed_token t h)

last_next : (t : List ℕ) → IsToken t → last (32 ∷ t) ≡ Ok t
unfolding last
last_next t h =
    ap (λ (k : Cut). without_comma k.front k.rest) (cut_nowhere (λ c. c == 44) (32 ∷ t) (solid_no_comma t h.solid)) ∙ ap (λ x. Ok x) (trimmed_token t h)

pub two_read : (a b : List ℕ) → IsToken a → IsToken b → two (a ++ 44 ∷ 32 ∷ b) ≡ Ok (a, b)
unfolding two
two_read a b ha hb =
    bound (first (a ++ 44 ∷ 32 ∷ b)) _ (record { operand = a; others = 32 ∷ b }) _ (first_read a (32 ∷ b) ha) (bound (last (32 ∷ b)) _ b _ (last_next b hb) refl)

pub three_read : (a b c : List ℕ) → IsToken a → IsToken b → IsToken c → three (a ++ 44 ∷ 32 ∷ (b ++ 44 ∷ 32 ∷ c)) ≡ Ok (record { first = a; second = b; third = c })
unfolding three
three_read a b c ha hb hc =
    bound (first (a ++ 44 ∷ 32 ∷ (b ++ 44 ∷ 32 ∷ c))) _ (record { operand = a; others = 32 ∷ (b ++ 44 ∷ 32 ∷ c) }) _ (first_read a (32 ∷ (b ++ 44 ∷ 32 ∷ c)) ha)
    (bound (first (32 ∷ (b ++ 44 ∷ 32 ∷ c))) _ (record { operand = b; others = 32 ∷ c }) _ (next_read b (32 ∷ c) hb) (bound (last (32 ∷ c)) _ c _ (last_next c hc) refl))
