-- One more of what stands at the numbers from 0 on.
use Rattle.std.proofs.Common.{◌≡◌, ℕ, ◌+◌, List, [], ◌∷◌, ◌++◌, map, ap, sym, ◌∙◌, append-nil, arith}
use Rattle.std.proofs.lemmas.List.{map-id}
use Rattle.std.proofs.lemmas.List.FromFn.{map-range_with_len_more}
use Rattle.std.proofs.lemmas.List.Concat.{flat_map-append}
use Rattle.std.specs.List.{flat_map, range_with_len}

pub map-one_more : {A : Type 0} (f : ℕ → A) (n : ℕ) → map f (range_with_len 0 (n + 1)) ≡ map f (range_with_len 0 n) ++ f n ∷ []
map-one_more f n = map-range_with_len_more f 0 n n (omega arith)

pub flat_map-one_more : {A : Type 0} (f : ℕ → List A) (n : ℕ) → flat_map f (range_with_len 0 (n + 1)) ≡ flat_map f (range_with_len 0 n) ++ f n
flat_map-one_more f n =
    let more : range_with_len 0 (n + 1) ≡ range_with_len 0 n ++ n ∷ [] = sym (map-id (range_with_len 0 (n + 1))) ∙ map-one_more (λ (x : ℕ). x) n ∙ ap (λ l. l ++ n ∷ []) (map-id (range_with_len 0 n)) in
    ap (flat_map f) more ∙ flat_map-append f (range_with_len 0 n) (n ∷ []) ∙ ap (λ l. flat_map f (range_with_len 0 n) ++ l) (append-nil (f n))
