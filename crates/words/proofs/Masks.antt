-- Sets of harts as masks: what becomes of the names when bits change.
use Rattle.std.proofs.Common.{◌≡◌, ◌≢◌, ◌<◌, ◌≤◌, ◌+◌, ◌-◌, ◌*◌, ◌/◌, ◌%◌, ◌^◌, ◌&&◌, ◌↔◌, ℕ, Bool, true, false, min, nat_eq, nat_lt, bit_and, bit_or, inl, inr, refl, sym, ap, ◌∙◌, arith}
use Rattle.std.proofs.lemmas.Bool.{cases_lt}
use Rattle.std.proofs.lemmas.Bool.Decides.{nat_tests}
use Rattle.std.proofs.lemmas.Nat.{shr-shr, one_shl}
use Rattle.std.proofs.lemmas.Nat.Bits.{bit_at-lt, bit_at-zero, bit_at_and, bit_at_not, bit_at_above, bit_at_ones, bit_at_ones_above, bit_at_set_same, bit_at_set_other, bit_at_clear_same, bit_at_clear_other, bit_at-trailing_zeros, shr_and_one, same_from_bits}
use Rattle.std.specs.Int.{w8, bit_at, trailing_zeros}
use Rattle.std.specs.Prelude.{IsTrue}
use Rattle.words.specs.Harts.{names, IsNext}

-- names and bits

named : (set h : ℕ) → bit_at set h ≡ 1 → names set h ≡ true
unfolding names
named set h is = ap (λ b. nat_eq b 1) is

unnamed : (set h : ℕ) → bit_at set h ≡ 0 → names set h ≡ false
unfolding names
unnamed set h is = ap (λ b. nat_eq b 1) is

bit_named : (set h : ℕ) → names set h ≡ true → bit_at set h ≡ 1
unfolding names
bit_named set h is = grind (arith, nat_tests)

bit_unnamed : (set h : ℕ) → names set h ≡ false → bit_at set h ≡ 0
unfolding names
bit_unnamed set h is = let few : bit_at set h < 2 = bit_at-lt set h in grind (arith, nat_tests)

same_bit : (a b h : ℕ) → bit_at a h ≡ bit_at b h → names a h ≡ names b h
unfolding names
same_bit a b h is = ap (λ x. nat_eq x 1) is

bit_named_by : (set h : ℕ) → names set h ≡ nat_eq (bit_at set h) 1
unfolding names
bit_named_by set h = refl

pub names_none : (h : ℕ) → names 0 h ≡ false
names_none h = unnamed 0 h (bit_at-zero h)

-- the test of a bit
pub contains : (set h : ℕ) → nat_eq (bit_and (set / 2 ^ h) 1) 1 ≡ names set h
contains set h = ap (λ x. nat_eq x 1) (shr_and_one set h) ∙ sym (bit_named_by set h)

no_bits : (set : ℕ) → ((h : ℕ) → names set h ≡ false) → set ≡ 0
no_bits set none = same_from_bits set 0 (λ h. bit_unnamed set h (none h) ∙ sym (bit_at-zero h))

pub is_empty : (set : ℕ) → IsTrue (nat_eq set 0) ↔ ((h : ℕ) → names set h ≡ false)
is_empty set = (
  λ is. let none : set ≡ 0 = grind (arith, nat_tests) in rw none names_none,
  λ none. let zero : set ≡ 0 = no_bits set none in grind (arith, nat_tests, zero),
)

module _ (set : ℕ) (small : set < 256) where
  bit_beyond : (h : ℕ) → 8 ≤ h → bit_at set h ≡ 0
  bit_beyond h beyond = bit_at_above set 8 h small beyond

  -- no hart from 8 on is named
  pub names_beyond : (h : ℕ) → 8 ≤ h → names set h ≡ false
  names_beyond h beyond = unnamed set h (bit_beyond h beyond)

  -- a hart that is removed
  module _ (r : ℕ) (within : r < 8) where
    pub removed : names (bit_and set (255 - 1 * 2 ^ r % 256)) r ≡ false
    removed = unnamed (bit_and set (255 - 1 * 2 ^ r % 256)) r (bit_at_clear_same w8 set r within)

    pub removed_other : (h : ℕ) → h ≢ r → names (bit_and set (255 - 1 * 2 ^ r % 256)) h ≡ names set h
    removed_other h apart = same_bit (bit_and set (255 - 1 * 2 ^ r % 256)) set h (elim (cases_lt h 8) [
      | inl low ↦ bit_at_clear_other w8 set r within h low apart
      | inr beyond ↦ omega (arith, bit_at_and set (255 - 1 * 2 ^ r % 256) h, bit_beyond h beyond)
    ])

-- a hart that is inserted
module _ (set r : ℕ) (within : r < 8) where
  pub inserted : names (bit_or set (1 * 2 ^ r % 256)) r ≡ true
  inserted = named (bit_or set (1 * 2 ^ r % 256)) r (bit_at_set_same w8 set r within)

  pub inserted_other : (h : ℕ) → h ≢ r → names (bit_or set (1 * 2 ^ r % 256)) h ≡ names set h
  inserted_other h apart = same_bit (bit_or set (1 * 2 ^ r % 256)) set h (bit_at_set_other w8 set r within h apart)

-- the harts below a count
module _ (set n : ℕ) where
  pub below_count : n < 8 → (h : ℕ) → names (bit_and set (1 * 2 ^ n % 256 - 1)) h ≡ names set h && nat_lt h n
  below_count few h =
      let ones : 1 * 2 ^ n % 256 ≡ 2 ^ n = one_shl n 8 few in
      let both : bit_at (bit_and set (2 ^ n - 1)) h ≡ min (bit_at set h) (bit_at (2 ^ n - 1) h) = bit_at_and set (2 ^ n - 1) h in
      let small : bit_at set h < 2 = bit_at-lt set h in
      rw ones (elim (cases_lt h n) [
        | inl low ↦
            let one : bit_at (2 ^ n - 1) h ≡ 1 = bit_at_ones n h low in
            let same : names (bit_and set (2 ^ n - 1)) h ≡ names set h = same_bit (bit_and set (2 ^ n - 1)) set h (omega (arith, both, one, small)) in
            grind (arith, nat_tests, same)
        | inr beyond ↦
            let zero : bit_at (2 ^ n - 1) h ≡ 0 = bit_at_ones_above n h beyond in
            let none : names (bit_and set (2 ^ n - 1)) h ≡ false = unnamed (bit_and set (2 ^ n - 1)) h (omega (arith, both, zero)) in
            grind (arith, nat_tests, none)
      ])

  pub below_all : set < 256 → 8 ≤ n → (h : ℕ) → names set h ≡ names set h && nat_lt h n
  below_all small many h = elim (cases_lt h n) [
    | inl low ↦ grind (arith, nat_tests)
    | inr beyond ↦ let none : names set h ≡ false = names_beyond set small h (omega arith) in grind (arith, nat_tests, none)
  ]

-- the harts of one set that another lacks
module _ (set other : ℕ) (small : set < 256) (other_small : other < 256) where
  lacked_below : (h : ℕ) → h < 8 → bit_at (bit_and set (255 - other)) h ≡ min (bit_at set h) (1 - bit_at other h)
  lacked_below h low = bit_at_and set (255 - other) h ∙ ap (min (bit_at set h)) (bit_at_not w8 other h other_small low)

  subset_names : bit_and set (255 - other) ≡ 0 → (h : ℕ) → names set h ≡ true → names other h ≡ true
  subset_names none h in_set = elim (cases_lt h 8) [
    | inl low ↦
        let zero : bit_at (bit_and set (255 - other)) h ≡ 0 = ap (λ m. bit_at m h) none ∙ bit_at-zero h in
        named other h (omega (arith, zero, lacked_below h low, bit_named set h in_set, bit_at-lt other h))
    | inr beyond ↦ absurd (omega (arith, bit_beyond set small h beyond, bit_named set h in_set))
  ]

  lacks_none : ((h : ℕ) → names set h ≡ true → names other h ≡ true) → (h : ℕ) (t : Bool) → names set h ≡ t → bit_at (bit_and set (255 - other)) h ≡ 0
  lacks_none all h false is = omega (arith, bit_at_and set (255 - other) h, bit_unnamed set h is)
  lacks_none all h true is = elim (cases_lt h 8) [
    | inl low ↦ omega (arith, lacked_below h low, bit_named other h (all h is))
    | inr beyond ↦ omega (arith, bit_at_and set (255 - other) h, bit_beyond set small h beyond)
  ]

  pub is_subset : IsTrue (nat_eq (bit_and set (255 - other)) 0) ↔ ((h : ℕ) → names set h ≡ true → names other h ≡ true)
  is_subset = (
    λ is. subset_names (grind (arith, nat_tests)),
    λ all.
        let none : bit_and set (255 - other) ≡ 0 = same_from_bits _ 0 (λ h. lacks_none all h (names set h) refl ∙ sym (bit_at-zero h)) in
        grind (arith, nat_tests, none),
  )

-- the members from n on
module _ (set n : ℕ) (small : set < 256) where
  from_n : (i : ℕ) → bit_at (set / 2 ^ n) i ≡ bit_at set (n + i)
  from_n i = ap (λ x. x % 2) (shr-shr set n i)

  -- there is none, if no bit is left
  pub none_left : set / 2 ^ n ≡ 0 → (h : ℕ) → n ≤ h → names set h ≡ false
  none_left none h from =
      let at : n + (h - n) ≡ h = omega arith in
      unnamed set h (ap (bit_at set) (sym at) ∙ sym (from_n (h - n)) ∙ ap (λ m. bit_at m (h - n)) none ∙ bit_at-zero (h - n))

  module _ (some : set / 2 ^ n ≢ 0) where
    lowest : (trailing_zeros w8 (set / 2 ^ n) < 8) × (bit_at (set / 2 ^ n) (trailing_zeros w8 (set / 2 ^ n)) ≡ 1) × ((i : ℕ) → i < trailing_zeros w8 (set / 2 ^ n) → bit_at (set / 2 ^ n) i ≡ 0)
    lowest = bit_at-trailing_zeros w8 (set / 2 ^ n) (omega arith) (omega arith)

    pub next : IsNext set n (n + trailing_zeros w8 (set / 2 ^ n))
    next = record {
      from = omega arith;
      named = named set _ (sym (from_n (trailing_zeros w8 (set / 2 ^ n))) ∙ lowest.1);
      first = λ k from below.
          let at : n + (k - n) ≡ k = omega arith in
          unnamed set k (ap (bit_at set) (sym at) ∙ sym (from_n (k - n)) ∙ lowest.2 (k - n) (omega arith));
    }

    pub next_small : n + trailing_zeros w8 (set / 2 ^ n) < 8
    next_small = elim (cases_lt (n + trailing_zeros w8 (set / 2 ^ n)) 8) [
      | inl low ↦ low
      | inr beyond ↦ absurd (omega (arith, bit_beyond set small _ beyond, from_n (trailing_zeros w8 (set / 2 ^ n)), lowest.1))
    ]
