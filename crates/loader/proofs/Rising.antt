-- Of segments by rising address, any two share a byte if and only if two neighbours do.
use Rattle.std.proofs.Common.{◌≡◌, ℕ, ◌+◌, ◌<◌, ◌≤◌, Bool, true, false, not, List, length, get_or, sym, ap, ◌∙◌, arith, inl, inr}
use Rattle.std.specs.List.{All, AllByRecursion, AllAdjacentBelow, IsAllAdjacentAnswer}
use Rattle.std.specs.List.Sorted.{IsPermutation, IsNonDecreasingBy}
use Rattle.std.proofs.lemmas.Bool.{cases_lt, true_from_ne_false}
use Rattle.std.proofs.lemmas.Bool.Decides.{nat_tests}
use Rattle.std.proofs.lemmas.List.Elements.{All-from_recursion}
use Rattle.std.proofs.lemmas.List.Sorted.{IsPermutation-sym, All-permutation}
use Rattle.loader.specs.declared.headers.SegmentHeader.{SegmentHeader}
use Rattle.loader.specs.Headers.{share}
use Rattle.loader.proofs.Alone.{AreAlone, share_swapped, alone_from, alone_to, alone_permutation}
use Rattle.loader.specs.Checks.{some_share}

-- of two by rising address, the first ends before the second begins if and only if they share no byte
ends_before : (h k : SegmentHeader) → h.addr ≤ k.addr → 0 < k.memory_size → true ≡ not (share h k) → h.addr + h.memory_size ≤ k.addr
ends_before h k up some apart = grind (arith, nat_tests)

not_share : (h k : SegmentHeader) → h.addr + h.memory_size ≤ k.addr → share h k ≡ false
not_share h k apart = grind (arith, nat_tests)

-- so it ends before each later one
apart_later : (ks : List SegmentHeader) → IsNonDecreasingBy (λ h. h.addr) ks → All (λ h. 0 < h.memory_size) ks → AllAdjacentBelow (λ h k. true ≡ not (share h k)) ks (length ks)
    → (i j : ℕ) (d : SegmentHeader) → i < j → j < length ks → share (get_or ks i d) (get_or ks j d) ≡ false
apart_later ks up some apart i j d before lj =
    let next : i + 1 < length ks = omega arith in
    let here = ends_before (get_or ks i d) (get_or ks (i + 1) d) (up i (i + 1) d (omega arith) next) (some (i + 1) d next) (apart i d next) in
    let later : (get_or ks (i + 1) d).addr ≤ (get_or ks j d).addr = up (i + 1) j d (omega arith) lj in
    not_share (get_or ks i d) (get_or ks j d) (omega (arith, here, later))

-- and none shares a byte with another
alone_rising : (ks : List SegmentHeader) → IsNonDecreasingBy (λ h. h.addr) ks → All (λ h. 0 < h.memory_size) ks → AllAdjacentBelow (λ h k. true ≡ not (share h k)) ks (length ks) → AreAlone ks
alone_rising ks up some apart i j d li lj ne =
    elim (cases_lt i j) [
      | inl lt ↦ apart_later ks up some apart i j d lt lj
      | inr le ↦ share_swapped (get_or ks i d) (get_or ks j d) ∙ apart_later ks up some apart j i d (omega arith) li
    ]

-- two neighbours that share a byte are two of the list
not_alone : (ks : List SegmentHeader) (k : ℕ) (d : SegmentHeader) → k + 1 < length ks → false ≡ not (share (get_or ks k d) (get_or ks (k + 1) d)) → AreAlone ks → ⊥
not_alone ks k d lt e alone =
    let apart = alone k (k + 1) d (omega arith) lt (λ same. omega (arith, same)) in
    cc (e, ap not apart)

-- what the neighbours say of all
pub neighbours_tell : (hs ks : List SegmentHeader) (r : Bool) → IsPermutation hs ks → IsNonDecreasingBy (λ h. h.addr) ks → AllByRecursion (λ h. 0 < h.memory_size) hs → IsAllAdjacentAnswer (λ h k yes. yes ≡ not (share h k)) ks r → not r ≡ some_share hs
neighbours_tell hs ks true moved up some answer =
    let some_ks = All-permutation (λ h. 0 < h.memory_size) hs ks moved (All-from_recursion (λ h. 0 < h.memory_size) hs some) in
    sym (alone_to hs (alone_permutation ks hs (IsPermutation-sym hs ks moved) (alone_rising ks up some_ks answer)))
neighbours_tell hs ks false moved up some answer =
    let d : SegmentHeader = record { kind = 0; offset = 0; addr = 0; file_size = 0; memory_size = 0; flags = 0 } in
    sym (true_from_ne_false (some_share hs) (λ e. not_alone ks answer.0 d answer.1 (answer.2 d) (alone_permutation hs ks moved (alone_from hs e))))
