-- The table of segment headers, one after another.
use Rattle.std.proofs.Common.{◌≡◌, ℕ, suc, ◌+◌, ◌-◌, ◌*◌, ◌<◌, true, false, List, [], ◌∷◌, ◌++◌, Option, Some, None, refl, ap, ◌∙◌, arith}
use Rattle.std.specs.List.{filter, flat_map}
use Rattle.std.proofs.lemmas.List.{append-nil}
use Rattle.std.proofs.lemmas.Grind.{flat_map-append}
use Rattle.loader.specs.declared.fault.LoadFault.{LoadFault}
use Rattle.loader.specs.declared.headers.SegmentHeader.{SegmentHeader}
use Rattle.loader.specs.Headers.{segment_header, headers_from, is_loaded}
use Rattle.words.specs.First.{first}
use Rattle.loader.specs.Checks.{segment_checks}
use Rattle.loader.proofs.Found.{first-append_none, first-append_some}

-- the headers that are loaded from the i-th on
abbrev pub rest_from : List ℕ → ℕ → ℕ → ℕ → List SegmentHeader
rest_from bytes offset len i = filter is_loaded (headers_from bytes (offset + 32 * i) (len - i))

-- a header that isn't loaded is passed over
pub rest_skips : (bytes : List ℕ) (offset len i : ℕ) → i < len → is_loaded (segment_header bytes (offset + 32 * i)) ≡ false → rest_from bytes offset len i ≡ rest_from bytes offset len (i + 1)
rest_skips bytes offset len i lt e =
    let n : len - i ≡ suc (len - (i + 1)) = omega arith in
    let at : offset + 32 * (i + 1) ≡ (offset + 32 * i) + 32 = omega arith in
    rw (n, at, e) refl

-- one that is loaded comes first
pub rest_takes : (bytes : List ℕ) (offset len i : ℕ) → i < len → is_loaded (segment_header bytes (offset + 32 * i)) ≡ true → rest_from bytes offset len i ≡ segment_header bytes (offset + 32 * i) ∷ rest_from bytes offset len (i + 1)
rest_takes bytes offset len i lt e =
    let n : len - i ≡ suc (len - (i + 1)) = omega arith in
    let at : offset + 32 * (i + 1) ≡ (offset + 32 * i) + 32 = omega arith in
    rw (n, at, e) refl

abbrev pub found_in : List ℕ → List SegmentHeader → Option LoadFault
found_in bytes hs = first (flat_map (segment_checks bytes) hs)

-- one more header without a fault
pub clean_more : (bytes : List ℕ) (front : List SegmentHeader) (h : SegmentHeader) → found_in bytes front ≡ None → first (segment_checks bytes h) ≡ None → found_in bytes (front ++ h ∷ []) ≡ None
clean_more bytes front h before here =
    ap first (flat_map-append (segment_checks bytes) front (h ∷ []))
    ∙ first-append_none (flat_map (segment_checks bytes) front) (segment_checks bytes h ++ []) before
    ∙ ap first (append-nil (segment_checks bytes h)) ∙ here

-- the first header with a fault
pub found_here : (bytes : List ℕ) (front : List SegmentHeader) (h : SegmentHeader) (rest : List SegmentHeader) (fault : LoadFault) → found_in bytes front ≡ None → first (segment_checks bytes h) ≡ Some fault → found_in bytes (front ++ h ∷ rest) ≡ Some fault
found_here bytes front h rest fault before here =
    ap first (flat_map-append (segment_checks bytes) front (h ∷ rest))
    ∙ first-append_none (flat_map (segment_checks bytes) front) (segment_checks bytes h ++ flat_map (segment_checks bytes) rest) before
    ∙ first-append_some (segment_checks bytes h) (flat_map (segment_checks bytes) rest) fault here
