-- A text of a shape tells its operands.
use Rattle.std.proofs.Common.{◌≡◌, ℕ, List, [], ◌∷◌, ◌++◌, sym, ◌∙◌, append-nil}
use Rattle.std.proofs.lemmas.List.{append_cancel_left}
use Rattle.disassembler.specs.Canonical.{one, two, three, offset, indirect, atomic}
use Rattle.disassembler.proofs.Cutting.{Lacks, cut-same, tail-same}

after : (op x y : List ℕ) → op ++ 32 ∷ x ≡ op ++ 32 ∷ y → x ≡ y
after op x y e = tail-same 32 32 x y (append_cancel_left op (32 ∷ x) (32 ∷ y) e)

ended : (x y : List ℕ) → x ++ [] ≡ y ++ [] → x ≡ y
ended x y e = sym (append-nil x) ∙ e ∙ append-nil y

-- what stands before a comma and a space, and what after them
first : (a b x y : List ℕ) → Lacks 44 a → Lacks 44 b → a ++ 44 ∷ 32 ∷ x ≡ b ++ 44 ∷ 32 ∷ y → (a ≡ b) × (x ≡ y)
first a b x y la lb e = let cut = cut-same 44 a b (32 ∷ x) (32 ∷ y) la lb e in (cut.0, tail-same 32 32 x y cut.1)

pub one-part : (op a b : List ℕ) → one op a ≡ one op b → a ≡ b
one-part op a b e = ended a b (after op _ _ e)

pub two-parts : (op a b c d : List ℕ) → Lacks 44 a → Lacks 44 c → two op a b ≡ two op c d → (a ≡ c) × (b ≡ d)
two-parts op a b c d la lc e = let cut = first a c _ _ la lc (after op _ _ e) in (cut.0, ended b d cut.1)

pub record Three (a b c d e f : List ℕ) : Type 0 where
  pub first : a ≡ d
  pub second : b ≡ e
  pub third : c ≡ f

pub three-parts : (op a b c d e f : List ℕ) → Lacks 44 a → Lacks 44 b → Lacks 44 d → Lacks 44 e
    → three op a b c ≡ three op d e f → Three a b c d e f
three-parts op a b c d e f la lb ld le same =
    let cut = first a d _ _ la ld (after op _ _ same) in
    let rest = first b e _ _ lb le cut.1 in
    record { first = cut.0; second = rest.0; third = ended c f rest.1 }

pub offset-parts : (op a n b d m e : List ℕ) → Lacks 44 a → Lacks 44 d → Lacks 40 n → Lacks 40 m → Lacks 41 b → Lacks 41 e
    → offset op a n b ≡ offset op d m e → Three a n b d m e
offset-parts op a n b d m e la ld ln lm lb le same =
    let cut = first a d _ _ la ld (after op _ _ same) in
    let rest = cut-same 40 n m _ _ ln lm cut.1 in
    let base = cut-same 41 b e [] [] lb le rest.1 in
    record { first = cut.0; second = rest.0; third = base.0 }

pub indirect-parts : (op a b c d : List ℕ) → Lacks 44 a → Lacks 44 c → Lacks 41 b → Lacks 41 d → indirect op a b ≡ indirect op c d → (a ≡ c) × (b ≡ d)
indirect-parts op a b c d la lc lb ld same =
    let cut = first a c _ _ la lc (after op _ _ same) in
    let base = cut-same 41 b d [] [] lb ld (tail-same 40 40 _ _ cut.1) in
    (cut.0, base.0)

pub atomic-parts : (op a b c d e f : List ℕ) → Lacks 44 a → Lacks 44 b → Lacks 44 d → Lacks 44 e → Lacks 41 c → Lacks 41 f
    → atomic op a b c ≡ atomic op d e f → Three a b c d e f
atomic-parts op a b c d e f la lb ld le lc lf same =
    let cut = first a d _ _ la ld (after op _ _ same) in
    let rest = first b e _ _ lb le cut.1 in
    let base = cut-same 41 c f [] [] lc lf (tail-same 40 40 _ _ rest.1) in
    record { first = cut.0; second = rest.0; third = base.0 }
