-- What the checks of the headers say where they find nothing.
use Rattle.std.proofs.Common.{◌≡◌, ℕ, ◌≤◌, Bool, true, false, not, ◌&&◌, IsTrue, List, [], ◌∷◌, length, None, refl, ap, ◌∙◌}
use Rattle.std.specs.Prelude.{nat_lt}
use Rattle.std.specs.List.{AllByRecursion, flat_map}
use Rattle.std.proofs.lemmas.Bool.{not-false, or_parts, or_from, ltb-false, le-ltb, eqb-true, eq-eqb}
use Rattle.loader.specs.declared.headers.SegmentHeader.{SegmentHeader}
use Rattle.loader.specs.Headers.{file_header, is_compressed, has_sizes, table_end, is_writable, is_executable, memory_end}
use Rattle.words.specs.First.{first}
use Rattle.loader.specs.Checks.{is_elf32, file_checks, segment_checks}
use Rattle.loader.specs.Elf.{CanLoad}
use Rattle.loader.proofs.Found.{first-all_false, all_false-first, first-append_none, first-append_parts}
use Rattle.loader.proofs.Table.{found_in}

-- what the checks of the file's header say
pub record HasHeader (bytes : List ℕ) : Type 0 where
  pub long : 52 ≤ length bytes
  pub elf32 : IsTrue (is_elf32 bytes)
  pub machine : (file_header bytes).machine ≡ 243
  pub kind : (file_header bytes).kind ≡ 2
  pub plain : is_compressed (file_header bytes) ≡ false
  pub sizes : IsTrue (has_sizes (file_header bytes))
  pub table : table_end (file_header bytes) ≤ length bytes

-- they find nothing if and only if each of these holds
pub header_clean : (bytes : List ℕ) → first (file_checks bytes) ≡ None → HasHeader bytes
header_clean bytes e =
    let t = first-all_false (file_checks bytes) e in
    record {
      long = ltb-false _ _ t.0;
      elf32 = not-false _ t.1.0;
      machine = eqb-true _ _ (not-false _ t.1.1.0);
      kind = eqb-true _ _ (not-false _ t.1.1.1.0);
      plain = t.1.1.1.1.0;
      sizes = not-false _ t.1.1.1.1.1.0;
      table = ltb-false _ _ t.1.1.1.1.1.1.0;
    }

pub header_passes : (bytes : List ℕ) → HasHeader bytes → first (file_checks bytes) ≡ None
header_passes bytes h = all_false-first (file_checks bytes) (
  le-ltb _ _ h.long,
  (
    ap not h.elf32,
    (
      ap not (eq-eqb _ _ h.machine),
      (
        ap not (eq-eqb _ _ h.kind),
        (
          h.plain,
          (
            ap not h.sizes,
            (
              le-ltb _ _ h.table,
              tt,
            ),
          ),
        ),
      ),
    ),
  ),
)

-- two tests do not hold at once
not_both : (a b : Bool) → (a && b) ≡ false → IsTrue a → IsTrue b → ⊥
not_both true b e x y = absurd cc
not_both false b e x y = absurd cc

both_false : (a b : Bool) → (IsTrue a → IsTrue b → ⊥) → (a && b) ≡ false
both_false true true h = absurd (h refl refl)
both_false true false h = refl
both_false false b h = refl

-- the checks of a segment find nothing if and only if it can be loaded
segment_clean : (bytes : List ℕ) (h : SegmentHeader) → first (segment_checks bytes h) ≡ None → CanLoad bytes h
segment_clean bytes h e =
    let t = first-all_false (segment_checks bytes h) e in
    let inside = or_parts (nat_lt h.memory_size h.file_size) (nat_lt 4194304 (memory_end h)) t.1.0 in
    record {
      in_file = ltb-false _ _ t.0;
      given = ltb-false _ _ inside.0;
      end = ltb-false _ _ inside.1;
      one_use = not_both (is_writable h) (is_executable h) t.1.1.0;
    }

segment_passes : (bytes : List ℕ) (h : SegmentHeader) → CanLoad bytes h → first (segment_checks bytes h) ≡ None
segment_passes bytes h can = all_false-first (segment_checks bytes h) (
  le-ltb _ _ can.in_file,
  (
    or_from (nat_lt h.memory_size h.file_size) (nat_lt 4194304 (memory_end h)) (le-ltb _ _ can.given) (le-ltb _ _ can.end),
    (
      both_false (is_writable h) (is_executable h) can.one_use,
      tt,
    ),
  ),
)

-- so for each of some segments
pub each_clean : (bytes : List ℕ) (hs : List SegmentHeader) → found_in bytes hs ≡ None → AllByRecursion (CanLoad bytes) hs
each_clean bytes [] e = tt
each_clean bytes (h ∷ hs) e =
    let p = first-append_parts (segment_checks bytes h) (flat_map (segment_checks bytes) hs) e in
    (segment_clean bytes h p.0, each_clean bytes hs p.1)

pub each_passes : (bytes : List ℕ) (hs : List SegmentHeader) → AllByRecursion (CanLoad bytes) hs → found_in bytes hs ≡ None
each_passes bytes [] can = refl
each_passes bytes (h ∷ hs) can = first-append_none (segment_checks bytes h) (flat_map (segment_checks bytes) hs) (segment_passes bytes h can.0) ∙ each_passes bytes hs can.1
