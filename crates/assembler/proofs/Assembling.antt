-- The two passes together.
use Rattle.std.proofs.Common.{◌≡◌, ℕ, ◌≤◌, false, cond, nat_lt, List, Result, Ok, Err, ap, ◌∙◌, arith}
use Rattle.std.proofs.lemmas.Bool.Decides.{nat_tests}
use Rattle.assembler.specs.declared.fault.SourceFault.{SourceFault}
use Rattle.statements.specs.declared.fault.AsmFault.TheVariants.{TooLarge}
use Rattle.statements.specs.Operands.{◌>>=◌}
use Rattle.assembler.specs.Passes.{Survey, Layout, Assembled, labels_after, survey, lay, assembled}

laid_after : (s : Survey) (source : List ℕ) → Result Assembled SourceFault
laid_after s source =
    (cond (nat_lt s.progress.text_size 4) (Err (record { line = 0; fault = TooLarge })) (lay (labels_after s) source)) >>= λ l. Ok (record { labels = labels_after s; layout = l })

enough : (n : ℕ) → 4 ≤ n → nat_lt n 4 ≡ false
enough n h = grind (arith, nat_tests)

pub assembled_is : (source : List ℕ) (s : Survey) (r : Result Layout SourceFault) → survey source ≡ Ok s → 4 ≤ s.progress.text_size → lay (labels_after s) source ≡ r
    → assembled source ≡ (r >>= λ l. Ok (record { labels = labels_after s; layout = l }))
unfolding assembled laid_after
assembled_is source s r surveyed some laid =
    ap (λ (x : Result Survey SourceFault). x >>= λ s. laid_after s source) surveyed
    ∙ ap (λ b. (cond b (Err (record { line = 0; fault = TooLarge })) (lay (labels_after s) source)) >>= λ l. Ok (record { labels = labels_after s; layout = l })) (enough s.progress.text_size some)
    ∙ ap (λ (x : Result Layout SourceFault). x >>= λ l. Ok (record { labels = labels_after s; layout = l })) laid
