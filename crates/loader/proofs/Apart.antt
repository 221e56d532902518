-- Two segments share a byte if and only if the test on their headers says so.
use Rattle.std.proofs.Common.{◌≡◌, ℕ, ◌<◌, true, false, List, [], ◌∷◌, map, refl, arith, max}
use Rattle.std.specs.List.{AllByRecursion, list_any}
use Rattle.std.proofs.lemmas.Bool.{or_parts, or_from, false_from_ne_true}
use Rattle.std.proofs.lemmas.Bool.Decides.{nat_tests}
use Rattle.loader.specs.declared.headers.SegmentHeader.{SegmentHeader}
use Rattle.loader.specs.Headers.{share, segment_of}
use Rattle.loader.specs.Checks.{some_share}
use Rattle.loader.specs.Programs.{IsApart, AreApart}

-- where the test is false no byte lies in both
apart_one : (bytes : List ℕ) (h k : SegmentHeader) → share h k ≡ false → IsApart (segment_of bytes h) (segment_of bytes k)
apart_one bytes h k e a in_h in_k = grind (arith, nat_tests)

-- so with each of some, and of all
apart_each : (bytes : List ℕ) (h : SegmentHeader) (ks : List SegmentHeader) → list_any (share h) ks ≡ false → AllByRecursion (IsApart (segment_of bytes h)) (map (segment_of bytes) ks)
apart_each bytes h [] e = tt
apart_each bytes h (k ∷ ks) e =
    let p = or_parts (share h k) (list_any (share h) ks) e in
    (apart_one bytes h k p.0, apart_each bytes h ks p.1)

pub apart_all : (bytes : List ℕ) (hs : List SegmentHeader) → some_share hs ≡ false → AreApart (map (segment_of bytes) hs)
apart_all bytes [] e = tt
apart_all bytes (h ∷ hs) e =
    let p = or_parts (list_any (share h) hs) (some_share hs) e in
    (apart_each bytes h hs p.0, apart_all bytes hs p.1)

-- where no byte lies in both, each having one, the test is false: else the greater first address would
share_none : (bytes : List ℕ) (h k : SegmentHeader) → 0 < h.memory_size → 0 < k.memory_size → IsApart (segment_of bytes h) (segment_of bytes k) → share h k ≡ false
share_none bytes h k some_h some_k apart =
    let a = max h.addr k.addr in
    let shared : share h k ≡ true → ⊥ = λ e. apart a (grind (arith, nat_tests)) (grind (arith, nat_tests)) in
    false_from_ne_true (share h k) shared

-- so with each of some, and of all
share_none_each : (bytes : List ℕ) (h : SegmentHeader) (ks : List SegmentHeader) → 0 < h.memory_size → AllByRecursion (λ k. 0 < k.memory_size) ks → AllByRecursion (IsApart (segment_of bytes h)) (map (segment_of bytes) ks) → list_any (share h) ks ≡ false
share_none_each bytes h [] some_h some apart = refl
share_none_each bytes h (k ∷ ks) some_h some apart =
    or_from (share h k) (list_any (share h) ks) (share_none bytes h k some_h some.0 apart.0) (share_none_each bytes h ks some_h some.1 apart.1)

pub share_none_all : (bytes : List ℕ) (hs : List SegmentHeader) → AllByRecursion (λ k. 0 < k.memory_size) hs → AreApart (map (segment_of bytes) hs) → some_share hs ≡ false
share_none_all bytes [] some apart = refl
share_none_all bytes (h ∷ hs) some apart =
    or_from (list_any (share h) hs) (some_share hs) (share_none_each bytes h hs some.0 some.1 apart.0) (share_none_all bytes hs some.1 apart.1)
