-- The texts of some pieces, joined.
use Rattle.std.proofs.Common.{◌≡◌, ℕ, ◌+◌, ◌<◌, ◌≤◌, ◌++◌, List, [], ◌∷◌, take, drop, length, get_or, ap, sym, ◌∙◌, append-nil, arith}
use Rattle.std.proofs.lemmas.List.{take_more, take-append-drop, map-id, take-map}
use Rattle.std.proofs.lemmas.List.FromFn.{take-map-range_with_len, map-range_with_len_more}
use Rattle.std.proofs.lemmas.List.Concat.{flat_map-append}
use Rattle.std.specs.List.{flat_map, range_with_len}

-- one more piece
pub one-more : {X : Type 0} (text : X → List ℕ) (xs : List X) (n : ℕ) (d : X) → n < length xs → flat_map text (take (n + 1) xs) ≡ flat_map text (take n xs) ++ text (get_or xs n d)
one-more text xs n d h =
    ap (flat_map text) (take_more xs n d h) ∙ flat_map-append text (take n xs) (get_or xs n d ∷ []) ∙ ap (λ l. flat_map text (take n xs) ++ l) (append-nil (text (get_or xs n d)))

-- the first pieces, and those after them
pub split-at : {X : Type 0} (text : X → List ℕ) (xs : List X) (n : ℕ) → flat_map text (take n xs) ++ flat_map text (drop n xs) ≡ flat_map text xs
split-at text xs n = sym (flat_map-append text (take n xs) (drop n xs)) ∙ ap (flat_map text) (take-append-drop n xs)

take-first : (n k : ℕ) → k ≤ n → take k (range_with_len 0 n) ≡ range_with_len 0 k
take-first n k h = sym (map-id (take k (range_with_len 0 n))) ∙ sym (take-map (λ (x : ℕ). x) k (range_with_len 0 n)) ∙ take-map-range_with_len (λ (x : ℕ). x) 0 n k h ∙ map-id (range_with_len 0 k)

-- the first numbers, and then those after them
pub first-numbers : (text : ℕ → List ℕ) (n k : ℕ) → k ≤ n → flat_map text (range_with_len 0 k) ++ flat_map text (drop k (range_with_len 0 n)) ≡ flat_map text (range_with_len 0 n)
first-numbers text n k h = ap (λ l. flat_map text l ++ flat_map text (drop k (range_with_len 0 n))) (sym (take-first n k h)) ∙ split-at text (range_with_len 0 n) k

-- one more number
pub one-more_number : (text : ℕ → List ℕ) (k : ℕ) → flat_map text (range_with_len 0 (k + 1)) ≡ flat_map text (range_with_len 0 k) ++ text k
one-more_number text k =
    let more : range_with_len 0 (k + 1) ≡ range_with_len 0 k ++ k ∷ [] = sym (map-id (range_with_len 0 (k + 1))) ∙ map-range_with_len_more (λ (x : ℕ). x) 0 k k (omega arith) ∙ ap (λ l. l ++ k ∷ []) (map-id (range_with_len 0 k)) in
    ap (flat_map text) more ∙ flat_map-append text (range_with_len 0 k) (k ∷ []) ∙ ap (λ l. flat_map text (range_with_len 0 k) ++ l) (append-nil (text k))
