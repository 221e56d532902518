-- The lines of batches.
use Rattle.std.proofs.Common.{◌≡◌, ◌<◌, ◌+◌, ◌-◌, ◌++◌, ℕ, List, [], ◌∷◌, replicate, codes, refl, sym, ap, ◌∙◌, append-nil, arith}
use Rattle.std.specs.List.{flat_map}
use Rattle.std.proofs.lemmas.List.{replicate-append-replicate}
use Rattle.std.proofs.lemmas.List.Concat.{flat_map-append}
use Rattle.schedule.specs.declared.choices.Choice.{Choice}
use Rattle.schedule.specs.declared.history.Batch.{Batch}
use Rattle.schedule.specs.Histories.{choices_in}
use Rattle.schedule.specs.Written.{line_of, text_of}

abbrev pub lined : Choice → List ℕ
lined c = line_of c ++ codes "\n"

-- so often, and so often again
repeats : (c : Choice) (k m : ℕ) → text_of (replicate k c) ++ text_of (replicate m c) ≡ text_of (replicate (k + m) c)
repeats c k m = sym (flat_map-append lined (replicate k c) (replicate m c)) ∙ ap text_of (replicate-append-replicate k m c)

pub once_more : (c : Choice) (k : ℕ) → text_of (replicate k c) ++ lined c ≡ text_of (replicate (k + 1) c)
once_more c k = ap (λ l. text_of (replicate k c) ++ l) (sym (append-nil (lined c))) ∙ repeats c k 1

pub rest_of : (c : Choice) (k n : ℕ) → k < n → (text_of (replicate k c) ++ lined c) ++ text_of (replicate (n - (k + 1)) c) ≡ text_of (replicate n c)
rest_of c k n less =
    let count : k + 1 + (n - (k + 1)) ≡ n = omega (arith, less) in
    ap (λ l. l ++ text_of (replicate (n - (k + 1)) c)) (once_more c k) ∙ repeats c (k + 1) (n - (k + 1)) ∙ ap (λ m. text_of (replicate m c)) count

abbrev pub batch_text : Batch → List ℕ
batch_text b = text_of (replicate b.times b.choice)

-- one batch after another
pub by_batch : (bs : List Batch) → flat_map batch_text bs ≡ text_of (choices_in bs)
by_batch [] = refl
by_batch (b ∷ bs) = ap (λ l. batch_text b ++ l) (by_batch bs) ∙ sym (flat_map-append lined (replicate b.times b.choice) (choices_in bs))
