-- The mask of the sets that have a line: what becomes of it when bits change.
use Rattle.std.proofs.Common.{◌≡◌, ◌≢◌, ◌<◌, ◌≤◌, ◌+◌, ◌-◌, ◌*◌, ◌/◌, ◌%◌, ◌^◌, ◌||◌, ℕ, zero, suc, Bool, true, false, List, [], ◌∷◌, cond, get_or, length, replicate, set, max, nat_eq, nat_le, bit_and, bit_or, inl, inr, refl, sym, ap, ◌∙◌, arith, get_or-set_same}
use Rattle.std.proofs.lemmas.Bool.{cases_lt, cases_eq}
use Rattle.std.proofs.lemmas.Bool.Decides.{nat_tests}
use Rattle.std.proofs.lemmas.List.{get_or-set_other}
use Rattle.std.proofs.Math.Nat.{div-le_self}
use Rattle.std.proofs.lemmas.Nat.{shr-shr}
use Rattle.std.proofs.lemmas.Nat.Bits.{bit_at-lt, bit_at-zero, bit_at-suc, bit_at_lowest, bit_at_and, bit_at_or, bit_at_above, bit_at_set_same, bit_at_set_other, bit_at_clear_same, bit_at_clear_other, bit_at-trailing_zeros, same_from_bits}
use Rattle.std.specs.Int.{w64, bit_at, trailing_zeros}
use Rattle.cache.specs.Occupied.{may_have, mask_of, IsNextSet}

abbrev pub bit : Bool → ℕ
bit b = cond b 1 0

no_bit : (b : Bool) → bit b ≡ 0 → b ≡ false
no_bit false is = refl
no_bit true is = absurd (grind (arith, nat_tests, is))

bit_small : (b : Bool) → bit b < 2
bit_small false = grind (arith, nat_tests)
bit_small true = grind (arith, nat_tests)

-- the bits of a mask are what the list says
pub mask_bit : (n : ℕ) (occupied : List Bool) (s : ℕ) → s < n → bit_at (mask_of n occupied) s ≡ bit (get_or occupied s false)
unfolding mask_of
mask_bit zero occupied s h = absurd (omega arith)
mask_bit (suc n) [] zero h = bit_at-zero 0
mask_bit (suc n) [] (suc s) h = bit_at-zero (suc s)
mask_bit (suc n) (b ∷ occupied) zero h = bit_at_lowest (bit b + 2 * mask_of n occupied) ∙ omega (arith, bit_small b)
mask_bit (suc n) (b ∷ occupied) (suc s) h =
    let half : (bit b + 2 * mask_of n occupied) / 2 ≡ mask_of n occupied = omega (arith, bit_small b) in
    bit_at-suc (bit b + 2 * mask_of n occupied) s ∙ ap (λ m. bit_at m s) half ∙ mask_bit n occupied s (omega arith)

-- and it has no others
pub mask_beyond : (n : ℕ) (occupied : List Bool) (s : ℕ) → n ≤ s → bit_at (mask_of n occupied) s ≡ 0
unfolding mask_of
mask_beyond zero occupied s h = bit_at-zero s
mask_beyond (suc n) [] s h = bit_at-zero s
mask_beyond (suc n) (b ∷ occupied) zero h = absurd (omega arith)
mask_beyond (suc n) (b ∷ occupied) (suc s) h =
    let half : (bit b + 2 * mask_of n occupied) / 2 ≡ mask_of n occupied = omega (arith, bit_small b) in
    bit_at-suc (bit b + 2 * mask_of n occupied) s ∙ ap (λ m. bit_at m s) half ∙ mask_beyond n occupied s (omega arith)

-- where no set has a line
pub mask_none : (n count : ℕ) → mask_of n (replicate count false) ≡ 0
unfolding mask_of
mask_none zero count = refl
mask_none (suc n) zero = refl
mask_none (suc n) (suc count) = omega (arith, mask_none n count)

module _ (mask : ℕ) (occupied : List Bool) (is : mask ≡ mask_of 64 occupied) where
  told : (s : ℕ) → s < 64 → bit_at mask s ≡ bit (get_or occupied s false)
  told s low = ap (λ m. bit_at m s) is ∙ mask_bit 64 occupied s low

  none_told : (s : ℕ) → 64 ≤ s → bit_at mask s ≡ 0
  none_told s beyond = ap (λ m. bit_at m s) is ∙ mask_beyond 64 occupied s beyond

  module _ (s : ℕ) (within : s < length occupied) where
    -- one set's place in the list changed
    here : (b : Bool) → get_or (set occupied s b) s false ≡ b
    here b = get_or-set_same occupied s b false within

    there : (b : Bool) (k : ℕ) → k ≢ s → get_or (set occupied s b) k false ≡ get_or occupied k false
    there b k apart = get_or-set_other occupied s k b false apart

    changed_bit : (b : Bool) (new : ℕ) → bit_at new s ≡ bit b → ((k : ℕ) → k < 64 → k ≢ s → bit_at new k ≡ bit_at mask k) → ((k : ℕ) → 64 ≤ k → bit_at new k ≡ 0) → new ≡ mask_of 64 (set occupied s b)
    changed_bit b new this others beyond =
        same_from_bits new (mask_of 64 (set occupied s b)) (λ k. elim (cases_lt k 64) [
          | inl low ↦ elim (cases_eq k s) [
            | inl same ↦ rw same (this ∙ sym (ap bit (here b)) ∙ sym (mask_bit 64 (set occupied s b) s (rw (← same) low)))
            | inr apart ↦ others k low apart ∙ told k low ∙ sym (ap bit (there b k apart)) ∙ sym (mask_bit 64 (set occupied s b) k low)
          ]
          | inr high ↦ beyond k high ∙ sym (mask_beyond 64 (set occupied s b) k high)
        ])

    pub inserted : s < 64 → bit_or mask (1 * 2 ^ s % 2 ^ 64) ≡ mask_of 64 (set occupied s true)
    inserted low = changed_bit true (bit_or mask (1 * 2 ^ s % 2 ^ 64)) (bit_at_set_same w64 mask s low) (λ k small apart. bit_at_set_other w64 mask s low k apart)
        (λ k high. bit_at_set_other w64 mask s low k (λ same. absurd (omega (arith, same))) ∙ none_told k high)

    -- a set from 64 on has no bit
    pub unsaid : 64 ≤ s → (b : Bool) → mask ≡ mask_of 64 (set occupied s b)
    unsaid high b = same_from_bits mask (mask_of 64 (set occupied s b)) (λ k. elim (cases_lt k 64) [
      | inl low ↦ told k low ∙ sym (ap bit (there b k (λ same. absurd (omega (arith, same))))) ∙ sym (mask_bit 64 (set occupied s b) k low)
      | inr beyond ↦ none_told k beyond ∙ sym (mask_beyond 64 (set occupied s b) k beyond)
    ])

    pub removed : mask < 2 ^ 64 → s < 64 → bit_and mask (2 ^ 64 - 1 - 1 * 2 ^ s % 2 ^ 64) ≡ mask_of 64 (set occupied s false)
    removed small low = changed_bit false (bit_and mask (2 ^ 64 - 1 - 1 * 2 ^ s % 2 ^ 64)) (bit_at_clear_same w64 mask s low) (λ k below apart. bit_at_clear_other w64 mask s low k below apart)
        (λ k high. omega (arith, bit_at_and mask (2 ^ 64 - 1 - 1 * 2 ^ s % 2 ^ 64) k, none_told k high))

-- which sets may have a line, by their bits

may_by : (mask s : ℕ) → may_have mask s ≡ (nat_eq (bit_at mask s) 1 || nat_le 64 s)
unfolding may_have
may_by mask s = refl

may_bit : (mask s : ℕ) → bit_at mask s ≡ 1 → may_have mask s ≡ true
may_bit mask s is = grind (arith, nat_tests, may_by mask s, is)

pub may_beyond : (mask s : ℕ) → 64 ≤ s → may_have mask s ≡ true
may_beyond mask s high = grind (arith, nat_tests, may_by mask s, high)

may_not : (mask s : ℕ) → s < 64 → bit_at mask s ≡ 0 → may_have mask s ≡ false
may_not mask s low is = grind (arith, nat_tests, may_by mask s, low, is)

not_low : (mask s : ℕ) → may_have mask s ≡ false → s < 64
not_low mask s is = grind (arith, nat_tests, may_by mask s, is)

not_bit : (mask s : ℕ) → may_have mask s ≡ false → bit_at mask s ≡ 0
not_bit mask s is = let few : bit_at mask s < 2 = bit_at-lt mask s in grind (arith, nat_tests, may_by mask s, is, few)

-- where the mask says that a set has no line, it has none
pub unoccupied : (mask : ℕ) (occupied : List Bool) → mask ≡ mask_of 64 occupied → (s : ℕ) → may_have mask s ≡ false → get_or occupied s false ≡ false
unoccupied mask occupied is s not = no_bit (get_or occupied s false) (sym (told mask occupied is s (not_low mask s not)) ∙ not_bit mask s not)

-- the sets of which either mask says so
pub union_may : (a b s : ℕ) → may_have (bit_or a b) s ≡ (may_have a s || may_have b s)
union_may a b s =
    let both : bit_at (bit_or a b) s ≡ max (bit_at a s) (bit_at b s) = bit_at_or a b s in
    let few : bit_at a s < 2 = bit_at-lt a s in
    let other_few : bit_at b s < 2 = bit_at-lt b s in
    grind (arith, nat_tests, may_by (bit_or a b) s, may_by a s, may_by b s, both, few, other_few)

-- the first set, from n on, that may have a line
module _ (mask n : ℕ) where
  from_n : (i : ℕ) → bit_at (mask / 2 ^ n) i ≡ bit_at mask (n + i)
  from_n i = ap (λ x. x % 2) (shr-shr mask n i)

  at_from_n : (k : ℕ) → n ≤ k → bit_at mask k ≡ bit_at (mask / 2 ^ n) (k - n)
  at_from_n k from = let at : n + (k - n) ≡ k = omega arith in ap (bit_at mask) (sym at) ∙ sym (from_n (k - n))

  pub next_none : n < 64 → mask / 2 ^ n ≡ 0 → IsNextSet mask n 64
  next_none low none = record {
    from = omega arith;
    may = may_beyond mask 64 (omega arith);
    first = λ k from below. may_not mask k below (at_from_n k from ∙ ap (λ m. bit_at m (k - n)) none ∙ bit_at-zero (k - n));
  }

  pub next_beyond : 64 ≤ n → IsNextSet mask n n
  next_beyond high = record {
    from = omega arith;
    may = may_beyond mask n high;
    first = λ k from below. absurd (omega arith);
  }

  module _ (small : mask < 2 ^ 64) (some : mask / 2 ^ n ≢ 0) where
    rest_small : mask / 2 ^ n < 2 ^ 64
    rest_small = omega (arith, div-le_self mask (2 ^ n))

    lowest : (trailing_zeros w64 (mask / 2 ^ n) < 64) × (bit_at (mask / 2 ^ n) (trailing_zeros w64 (mask / 2 ^ n)) ≡ 1) × ((i : ℕ) → i < trailing_zeros w64 (mask / 2 ^ n) → bit_at (mask / 2 ^ n) i ≡ 0)
    lowest = bit_at-trailing_zeros w64 (mask / 2 ^ n) (omega arith) rest_small

    next_low : n + trailing_zeros w64 (mask / 2 ^ n) < 64
    next_low = elim (cases_lt (n + trailing_zeros w64 (mask / 2 ^ n)) 64) [
      | inl low ↦ low
      | inr beyond ↦ absurd (omega (arith, bit_at_above mask 64 (n + trailing_zeros w64 (mask / 2 ^ n)) small beyond, from_n (trailing_zeros w64 (mask / 2 ^ n)), lowest.1))
    ]

    pub next_some : IsNextSet mask n (n + trailing_zeros w64 (mask / 2 ^ n))
    next_some = record {
      from = omega arith;
      may = may_bit mask _ (sym (from_n (trailing_zeros w64 (mask / 2 ^ n))) ∙ lowest.1);
      first = λ k from below. may_not mask k (omega (arith, next_low)) (at_from_n k from ∙ lowest.2 (k - n) (omega arith));
    }
