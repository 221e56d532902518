-- What is answered, by the passes.
use Rattle.std.proofs.Common.{◌≡◌, ◌≢◌, ◌⊎◌, inl, inr, ℕ, List, Result, Ok, Err, MatchResult, refl, ap, subst}
use Rattle.std.specs.Result.{IsErrAnd}
use Rattle.loader.specs.Programs.{Program}
use Rattle.statements.specs.declared.fault.AsmFault.{AsmFault}
use Rattle.statements.specs.declared.fault.AsmFault.TheVariants.{Unknown, Operand, Register, Range, Alignment, Label, TwiceDefined, Directive, TooLarge, NoMemory}
use Rattle.assembler.specs.declared.fault.SourceFault.{SourceFault}
use Rattle.assembler.specs.Passes.{Assembled, assembled}
use Rattle.assembler.specs.Layouts.{IsSourceOf}
use Rattle.assembler.specs.Programs.{IsProgramOf}
use Rattle.assembler.proofs.Backwards.{assembled_back}
use Rattle.assembler.proofs.Images.{same_program}

told : (f : AsmFault) → (f ≡ NoMemory) ⊎ (f ≢ NoMemory)
told NoMemory = inl refl
told Unknown = inr (λ e. cc)
told Operand = inr (λ e. cc)
told Register = inr (λ e. cc)
told Range = inr (λ e. cc)
told Alignment = inr (λ e. cc)
told Label = inr (λ e. cc)
told TwiceDefined = inr (λ e. cc)
told Directive = inr (λ e. cc)
told TooLarge = inr (λ e. cc)

one_assembled : (a b : Assembled) (r : Result Assembled SourceFault) → r ≡ Ok a → r ≡ Ok b → a ≡ b
one_assembled a b r d e = cc

clash : (a : Assembled) (e : SourceFault) (r : Result Assembled SourceFault) → r ≡ Ok a → r ≡ Err e → ⊥
clash a e r d f = cc

-- what the source says is answered, or memory ran out
pub answered : (source : List ℕ) (r : Result Program SourceFault)
    → MatchResult r (λ p. (a : Assembled) × (assembled source ≡ Ok a) × IsProgramOf a.labels a.layout p) (λ e. e.fault ≢ NoMemory → assembled source ≡ Err e)
    → (p : Program) → IsSourceOf source p → (r ≡ Ok p) ⊎ IsErrAnd r (λ e. e.fault ≡ NoMemory)
answered source (Ok q) h p is =
    let lines = assembled_back source is.labels is.layout is.laid_out in
    let P : Assembled → Type 0 = λ a. IsProgramOf a.labels a.layout q in
    let same = subst P (one_assembled h.0 (record { labels = is.labels; layout = is.layout }) (assembled source) h.1 lines) h.2 in
    inl (ap (λ (x : Program). Ok x) (same_program is.labels is.layout q p same is.program))
answered source (Err e) h p is =
    elim (told e.fault) [
      | inl memory ↦ inr memory
      | inr fatal ↦ absurd (clash _ e (assembled source) (assembled_back source is.labels is.layout is.laid_out) (h fatal))
    ]

-- two programs that a source spells are one
pub one_program : (source : List ℕ) (p q : Program) → IsSourceOf source p → IsSourceOf source q → q ≡ p
one_program source p q is other =
    let lines = assembled_back source is.labels is.layout is.laid_out in
    let same = one_assembled (record { labels = other.labels; layout = other.layout }) (record { labels = is.labels; layout = is.layout }) (assembled source)
    (assembled_back source other.labels other.layout other.laid_out) lines in
    let P : Assembled → Type 0 = λ a. IsProgramOf a.labels a.layout q in
    same_program is.labels is.layout q p (subst P same other.program) is.program
