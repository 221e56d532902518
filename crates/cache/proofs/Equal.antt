-- `==` of two lines decides that they are one value.
use Rattle.std.proofs.Common.{rules, ◌≡◌, Bool, List, Option, Some, None, refl, sym, ap, Decides}
use Rattle.std.specs.Option.{option_eq}
use Rattle.std.specs.Cmp.{booleans_Decides}
use Rattle.std.specs.Cmp.Lexicographic.{pointwise, pointwise_decides}
use Rattle.std.proofs.lemmas.Option.{same_Some, none-some}
use Rattle.std.proofs.lemmas.Bool.{false≢true}
use Rattle.std.proofs.lemmas.Bool.Decides.{Decides-eqb, Decides-and, Decides-like}
use Rattle.cache.specs.declared.line.Line.{Line}
use Rattle.words.specs.declared.message.LineState.{LineState}
use Rattle.words.specs.declared.marks.Marks.{Marks}
use Rattle.words.specs.contracts.message.LineStatePartialEq.TheImpl as state
use Rattle.words.specs.contracts.marks.MarksPartialEq.TheImpl as marks
use Rattle.cache.specs.contracts.line.LinePartialEq.TheImpl as line

-- `==` of two states, of two lines' marks, and of two lines
abbrev pub state_eq : LineState → LineState → Bool
state_eq = (state.ghosts).eq

abbrev pub marks_eq : Marks → Marks → Bool
marks_eq = (marks.ghosts).eq

abbrev pub line_eq : Line → Line → Bool
line_eq = (line.ghosts).eq

pub state-decides : (a b : LineState) → Decides (state_eq a b) (a ≡ b)
state-decides a b = search rules

pub marks-decides : (a b : Marks) → Decides (marks_eq a b) (a ≡ b)
marks-decides a b =
    Decides-like _ (λ h. search rules) (λ e. search rules)
    (Decides-and _ _ (booleans_Decides a.read b.read)
    (Decides-and _ _ (booleans_Decides a.written b.written)
    (booleans_Decides a.overflowed b.overflowed)))

pub line-decides : (a b : Line) → Decides (line_eq a b) (a ≡ b)
line-decides a b =
    Decides-like _ (λ h. search rules) (λ e. search rules)
    (Decides-and _ _ (Decides-eqb a.block b.block)
    (Decides-and _ _ (pointwise_decides Decides-eqb a.content b.content)
    (Decides-and _ _ (state-decides a.state b.state)
    (marks-decides a.marks b.marks))))

-- `==` of two ways, by that of what may stand in them
pub option-decides : {A : Type 0} {E : A → A → Bool} → ((a b : A) → Decides (E a b) (a ≡ b)) → (x y : Option A) → Decides (option_eq E x y) (x ≡ y)
option-decides each None None = (λ _. refl, λ _. refl)
option-decides each None (Some b) = (λ e. absurd (false≢true e), λ e. absurd (none-some b e))
option-decides each (Some a) None = (λ e. absurd (false≢true e), λ e. absurd (none-some a (sym e)))
option-decides each (Some a) (Some b) = (λ e. ap Some ((each a b).0 e), λ e. (each a b).1 (same_Some a b e))

pub ways-decides : (a b : List (Option Line)) → Decides (pointwise (option_eq line_eq) a b) (a ≡ b)
ways-decides = pointwise_decides (option-decides line-decides)
