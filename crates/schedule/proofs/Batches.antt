-- Batches, of which one is added, or made longer.
use Rattle.std.proofs.Common.{◌≡◌, ◌+◌, ◌++◌, ℕ, zero, suc, List, [], ◌∷◌, length, replicate, get_or, slice_set, sym, ap, ap₂, ◌∙◌, append_assoc, append-nil, arith}
use Rattle.std.proofs.lemmas.List.{replicate-append-replicate}
use Rattle.schedule.specs.declared.choices.Choice.{Choice}
use Rattle.schedule.specs.declared.history.Batch.{Batch}
use Rattle.schedule.specs.Histories.{choices_in}

both_times : (b c : Batch) (x : Batch) (n : ℕ) → b ≡ x → c.choice ≡ b.choice → c.times ≡ b.times + n → replicate c.times c.choice ≡ replicate x.times x.choice ++ replicate n b.choice
both_times b c x n is same sum =
    ap₂ (λ (k : ℕ) (a : Choice). replicate k a) sum same ∙ sym (replicate-append-replicate b.times n b.choice)
    ∙ ap (λ (y : Batch). replicate y.times y.choice ++ replicate n b.choice) is

-- the last batch, made longer by n
pub last_longer : (bs : List Batch) (i : ℕ) (b c d : Batch) (n : ℕ) → length bs ≡ suc i → b ≡ get_or bs i d → c.choice ≡ b.choice → c.times ≡ b.times + n
    → choices_in (slice_set bs i c) ≡ choices_in bs ++ replicate n b.choice
last_longer [] i b c d n len is same sum = absurd (omega (arith, len))
last_longer (x ∷ []) zero b c d n len is same sum =
    append-nil (replicate c.times c.choice) ∙ both_times b c x n is same sum ∙ ap (λ l. l ++ replicate n b.choice) (sym (append-nil (replicate x.times x.choice)))
last_longer (x ∷ []) (suc i) b c d n len is same sum = absurd (omega (arith, len))
last_longer (x ∷ y ∷ bs) zero b c d n len is same sum = absurd (omega (arith, len))
last_longer (x ∷ y ∷ bs) (suc i) b c d n len is same sum =
    let less : length (y ∷ bs) ≡ suc i = omega (arith, len) in
    ap (λ l. replicate x.times x.choice ++ l) (last_longer (y ∷ bs) i b c d n less is same sum)
    ∙ sym (append_assoc (replicate x.times x.choice) (choices_in (y ∷ bs)) (replicate n b.choice))
