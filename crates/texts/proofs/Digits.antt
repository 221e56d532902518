-- Hexadecimal digits are text.
use Rattle.std.proofs.Common.{◌≡◌, ℕ, ◌+◌, ◌<◌, Bool, true, ◌&&◌, ◌==◌, nat_lt, nat_le, cond, bit_and, slice_index, ◌++◌, zero, suc, List, [], ◌∷◌, length, get_or, codes, IsAscii, refl, sym, ap, ◌∙◌, arith, ◌/◌, ◌%◌, ◌^◌}
use Rattle.std.proofs.lemmas.Bool.Decides.{Decides-below_and, Decides-ltb, Decides-eqb}
use Rattle.std.proofs.lemmas.Str.Ascii.{IsAscii-from_reads, IsAscii-map}
use Rattle.std.specs.Char.{digit_value}
use Rattle.std.specs.List.{flat_map}
use Rattle.texts.specs.Numerals.{hex_digit, hexadecimal}

-- whether each number below n passes a test
abbrev pub each_below : ℕ → (ℕ → Bool) → Bool
each_below zero test = true
each_below (suc n) test = test n && each_below n test

-- what a test of a few numbers computes holds of each
pub passes : (n : ℕ) (test : ℕ → Bool) → each_below n test ≡ true → (k : ℕ) → k < n → test k ≡ true
passes n test h = (Decides-below_and test (λ k. test k ≡ true) (λ m. each_below m test) (λ k. (λ e. e, λ e. e)) refl (λ _. refl) n).0 h

below : (n : ℕ) (f : ℕ → ℕ) (m : ℕ) → each_below n (λ k. nat_lt (f k) m) ≡ true → (k : ℕ) → k < n → f k < m
below n f m h k less = (Decides-ltb (f k) m).0 (passes n (λ j. nat_lt (f j) m) h k less)

few_ascii : (bs : List ℕ) → each_below (length bs) (λ k. nat_lt (get_or bs k 0) 128) ≡ true → IsAscii bs
few_ascii bs h = IsAscii-from_reads bs (length bs) (omega arith) (below (length bs) (λ k. get_or bs k 0) 128 h)

digit-ascii : (d : ℕ) → hex_digit d < 128
digit-ascii = few_ascii (codes "0123456789abcdef") refl

pub hexadecimal-ascii : (n : ℕ) → IsAscii (hexadecimal n)
unfolding hexadecimal
hexadecimal-ascii n =
    let lows = 28 ∷ 24 ∷ 20 ∷ 16 ∷ 12 ∷ 8 ∷ 4 ∷ 0 ∷ [] in
    IsAscii-map (λ low. hex_digit (n / 2 ^ low % 16)) lows (λ b h. digit-ascii (n / 2 ^ b % 16)) (few_ascii lows refl)

-- what a test of a few numbers computes, where it is an equation
pub agree : (n : ℕ) (f : ℕ → ℕ) → each_below n (λ k. f k == k) ≡ true → (k : ℕ) → k < n → f k ≡ k
agree n f h k less = (Decides-eqb (f k) k).0 (passes n (λ j. f j == j) h k less)

digit-same : (d e : ℕ) → d < 16 → e < 16 → hex_digit d ≡ hex_digit e → d ≡ e
digit-same d e hd he same = sym (agree 16 (λ k. digit_value (hex_digit k)) refl d hd) ∙ ap digit_value same ∙ agree 16 (λ k. digit_value (hex_digit k)) refl e he

nibble-same : (v w k low : ℕ) → get_or (hexadecimal v) k 0 ≡ hex_digit (v / 2 ^ low % 16) → get_or (hexadecimal w) k 0 ≡ hex_digit (w / 2 ^ low % 16) → hexadecimal v ≡ hexadecimal w → v / 2 ^ low % 16 ≡ w / 2 ^ low % 16
nibble-same v w k low hv hw same = digit-same (v / 2 ^ low % 16) (w / 2 ^ low % 16) (omega arith) (omega arith) (sym hv ∙ ap (λ l. get_or l k 0) same ∙ hw)

-- two words don't share their digits
pub hexadecimal-same : (v w : ℕ) → v < 2 ^ 32 → w < 2 ^ 32 → hexadecimal v ≡ hexadecimal w → v ≡ w
unfolding hexadecimal
hexadecimal-same v w hv hw same =
    let a : v / 2 ^ 28 % 16 ≡ w / 2 ^ 28 % 16 = nibble-same v w 0 28 refl refl same in
    let b : v / 2 ^ 24 % 16 ≡ w / 2 ^ 24 % 16 = nibble-same v w 1 24 refl refl same in
    let c : v / 2 ^ 20 % 16 ≡ w / 2 ^ 20 % 16 = nibble-same v w 2 20 refl refl same in
    let d : v / 2 ^ 16 % 16 ≡ w / 2 ^ 16 % 16 = nibble-same v w 3 16 refl refl same in
    let e : v / 2 ^ 12 % 16 ≡ w / 2 ^ 12 % 16 = nibble-same v w 4 12 refl refl same in
    let f : v / 2 ^ 8 % 16 ≡ w / 2 ^ 8 % 16 = nibble-same v w 5 8 refl refl same in
    let g : v / 2 ^ 4 % 16 ≡ w / 2 ^ 4 % 16 = nibble-same v w 6 4 refl refl same in
    let h : v / 2 ^ 0 % 16 ≡ w / 2 ^ 0 % 16 = nibble-same v w 7 0 refl refl same in
    omega arith

pub hexadecimal-length : (n : ℕ) → length (hexadecimal n) ≡ 8
unfolding hexadecimal
hexadecimal-length n = refl

-- what is found at a place among the digits: a place from 128 on has none
abbrev pub found : ℕ → ℕ
found place = cond (nat_le 128 place) 0 (slice_index (codes "0123456789abcdef") (0 + place))

-- the two digits of a byte
abbrev pub pair : ℕ → List ℕ
pair byte = found (byte / 16) ∷ found (bit_and byte 15) ∷ []

found-digit : (d : ℕ) → d < 16 → found d ≡ hex_digit d
found-digit d less = (Decides-eqb (found d) (hex_digit d)).0 (passes 16 (λ k. found k == hex_digit k) refl d less)

low-bits : (byte : ℕ) → byte < 256 → bit_and byte 15 ≡ byte % 16
low-bits byte less = (Decides-eqb (bit_and byte 15) (byte % 16)).0 (passes 256 (λ k. bit_and k 15 == k % 16) refl byte less)

pair-digits : (byte : ℕ) → byte < 256 → pair byte ≡ hex_digit (byte / 16) ∷ hex_digit (byte % 16) ∷ []
pair-digits byte less =
    let high = found-digit (byte / 16) (omega arith) in
    let low = ap found (low-bits byte less) ∙ found-digit (byte % 16) (omega arith) in
    rw (high, low) refl

four : {p q r s p2 q2 r2 s2 : List ℕ} → p ≡ p2 → q ≡ q2 → r ≡ r2 → s ≡ s2 → p ++ (q ++ (r ++ (s ++ []))) ≡ p2 ++ (q2 ++ (r2 ++ (s2 ++ [])))
four e f g h = cc

-- a word's digits, by its bytes, from the last that a processor's vector has to the first
pub hexadecimal-bytes : (n : ℕ) → n < 2 ^ 32 → flat_map pair ((n + 0) / 256 / 256 / 256 % 256 ∷ (n + 0) / 256 / 256 % 256 ∷ (n + 0) / 256 % 256 ∷ (n + 0) % 256 ∷ []) ≡ hexadecimal n
unfolding hexadecimal
hexadecimal-bytes n word =
    let p = pair-digits ((n + 0) / 256 / 256 / 256 % 256) (omega arith) in
    let q = pair-digits ((n + 0) / 256 / 256 % 256) (omega arith) in
    let r = pair-digits ((n + 0) / 256 % 256) (omega arith) in
    let s = pair-digits ((n + 0) % 256) (omega arith) in
    let a : (n + 0) / 256 / 256 / 256 % 256 / 16 ≡ n / 2 ^ 28 % 16 = omega arith in
    let b : (n + 0) / 256 / 256 / 256 % 256 % 16 ≡ n / 2 ^ 24 % 16 = omega arith in
    let c : (n + 0) / 256 / 256 % 256 / 16 ≡ n / 2 ^ 20 % 16 = omega arith in
    let d : (n + 0) / 256 / 256 % 256 % 16 ≡ n / 2 ^ 16 % 16 = omega arith in
    let e : (n + 0) / 256 % 256 / 16 ≡ n / 2 ^ 12 % 16 = omega arith in
    let f : (n + 0) / 256 % 256 % 16 ≡ n / 2 ^ 8 % 16 = omega arith in
    let g : (n + 0) % 256 / 16 ≡ n / 2 ^ 4 % 16 = omega arith in
    let h : (n + 0) % 256 % 16 ≡ n / 2 ^ 0 % 16 = omega arith in
    four p q r s ∙ rw (a, b, c, d, e, f, g, h)
