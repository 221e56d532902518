-- That no two of some segments share a byte doesn't depend on their order.
use Rattle.std.proofs.Common.{◌≡◌, ◌≢◌, ℕ, zero, suc, ◌+◌, ◌<◌, Bool, true, false, ◌&&◌, cond, List, [], ◌∷◌, length, get_or, refl, ap, ◌∙◌, arith, inl, inr}
use Rattle.std.specs.Prelude.{nat_lt, ◌==◌}
use Rattle.std.specs.List.{list_any, swap}
use Rattle.std.specs.List.Sorted.{IsPermutation}
use Rattle.std.proofs.lemmas.Bool.{or_parts, or_from}
use Rattle.std.proofs.lemmas.Bool.Decides.{nat_tests, eqb_tells}
use Rattle.std.proofs.lemmas.List.Edits.{Swapped, swapped_from_swap, length-swap}
use Rattle.std.proofs.lemmas.List.Sorted.{IsPermutation-keeps}
use Rattle.loader.specs.declared.headers.SegmentHeader.{SegmentHeader}
use Rattle.loader.specs.Headers.{share}
use Rattle.loader.specs.Checks.{some_share}

-- no two of them share a byte, by their places in a list
abbrev pub AreAlone : List SegmentHeader → Type 0
AreAlone hs = (i j : ℕ) (d : SegmentHeader) → i < length hs → j < length hs → i ≢ j → share (get_or hs i d) (get_or hs j d) ≡ false

-- sharing a byte goes both ways
and_swapped : (a b : Bool) → (a && b) ≡ (b && a)
and_swapped true true = refl
and_swapped true false = refl
and_swapped false true = refl
and_swapped false false = refl

pub share_swapped : (h k : SegmentHeader) → share h k ≡ share k h
share_swapped h k = and_swapped (nat_lt h.addr (k.addr + k.memory_size)) (nat_lt k.addr (h.addr + h.memory_size))

-- one shares a byte with none of some if and only if with none at a place among them
none_at : (h : SegmentHeader) (ks : List SegmentHeader) → list_any (share h) ks ≡ false → (j : ℕ) (d : SegmentHeader) → j < length ks → share h (get_or ks j d) ≡ false
none_at h [] e j d lt = absurd (omega arith)
none_at h (k ∷ ks) e zero d lt = (or_parts (share h k) (list_any (share h) ks) e).0
none_at h (k ∷ ks) e (suc j) d lt = none_at h ks (or_parts (share h k) (list_any (share h) ks) e).1 j d (omega arith)

none_from : (h : SegmentHeader) (ks : List SegmentHeader) → ((j : ℕ) (d : SegmentHeader) → j < length ks → share h (get_or ks j d) ≡ false) → list_any (share h) ks ≡ false
none_from h [] e = refl
none_from h (k ∷ ks) e =
    or_from (share h k) (list_any (share h) ks) (e 0 h (omega arith)) (none_from h ks (λ j d lt. e (suc j) d (omega arith)))

-- what the test on a list says of the places in it, and back
pub alone_from : (hs : List SegmentHeader) → some_share hs ≡ false → AreAlone hs
alone_from [] e i j d li lj ne = absurd (omega arith)
alone_from (h ∷ hs) e zero zero d li lj ne = absurd (ne refl)
alone_from (h ∷ hs) e zero (suc j) d li lj ne = none_at h hs (or_parts (list_any (share h) hs) (some_share hs) e).0 j d (omega arith)
alone_from (h ∷ hs) e (suc i) zero d li lj ne = share_swapped (get_or hs i d) h ∙ none_at h hs (or_parts (list_any (share h) hs) (some_share hs) e).0 i d (omega arith)
alone_from (h ∷ hs) e (suc i) (suc j) d li lj ne = alone_from hs (or_parts (list_any (share h) hs) (some_share hs) e).1 i j d (omega arith) (omega arith) (λ same. ne (ap suc same))

pub alone_to : (hs : List SegmentHeader) → AreAlone hs → some_share hs ≡ false
alone_to [] alone = refl
alone_to (h ∷ hs) alone =
    let first : list_any (share h) hs ≡ false = none_from h hs (λ j d lt. alone 0 (suc j) d (omega arith) (omega arith) (λ e. omega (arith, e))) in
    or_from (list_any (share h) hs) (some_share hs) first (alone_to hs (λ i j d li lj ne. alone (suc i) (suc j) d (omega arith) (omega arith) (λ e. ne (omega (arith, e)))))

-- where the element at a place stood before two were swapped
abbrev before : ℕ → ℕ → ℕ → ℕ
before a b i = cond (i == a) b (cond (i == b) a i)

before_is : (f g : ℕ → SegmentHeader) (a b : ℕ) → Swapped f g a b → (i : ℕ) → g i ≡ f (before a b i)
before_is f g a b s i =
    elim (eqb_tells i a) [
      | inl p ↦ rw (p.0) (ap g p.1 ∙ s.0)
      | inr p ↦ elim (eqb_tells i b) [ inl q ↦ rw (p.0, q.0) (ap g q.1 ∙ s.1) | inr q ↦ rw (p.0, q.0) (s.2 i p.1 q.1) ]
    ]

before_below : (a b n i : ℕ) → a < n → b < n → i < n → before a b i < n
before_below a b n i la lb li = grind (arith, nat_tests)

before_apart : (a b i j : ℕ) → i ≢ j → before a b i ≢ before a b j
before_apart a b i j ne = grind (arith, nat_tests)

-- none shares a byte with another after two are swapped, and so in any order
alone_swap : (hs : List SegmentHeader) (a b : ℕ) → a < length hs → b < length hs → AreAlone hs → AreAlone (swap hs a b)
alone_swap hs a b la lb alone i j d li lj ne =
    let len = length-swap hs a b in
    let s = swapped_from_swap hs (swap hs a b) a b d la lb refl in
    let at = before_is (λ k. get_or hs k d) (λ k. get_or (swap hs a b) k d) a b s in
    rw (at i, at j) (alone (before a b i) (before a b j) d (before_below a b (length hs) i la lb (omega arith)) (before_below a b (length hs) j la lb (omega arith)) (before_apart a b i j ne))

pub alone_permutation : (hs ks : List SegmentHeader) → IsPermutation hs ks → AreAlone hs → AreAlone ks
alone_permutation hs ks moved alone = IsPermutation-keeps hs AreAlone alone alone_swap ks moved
