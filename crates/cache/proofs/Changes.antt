-- Filling, replacing and removing a block's line.
use Rattle.std.proofs.Common.{◌≡◌, ◌≢◌, ℕ, ◌<◌, ◌≤◌, ◌*◌, ◌^◌, ◌%◌, Bool, true, false, is_some, map, IsTrue, IsSome, Option, Some, None, List, [], length, get_or, set, refl, sym, ◌∙◌, ap, arith, position, get_or-set_same, length-set, subst}
use Rattle.std.proofs.lemmas.Bool.Decides.{nat_tests}
use Rattle.std.proofs.Math.Nat.{le-mul_of_pos_right, mul_comm}
use Rattle.std.proofs.lemmas.Option.{same_Some}
use Rattle.std.specs.Option.{option_map}
use Rattle.cache.specs.declared.line.Line.{Line}
use Rattle.words.specs.declared.message.LineState.TheVariants.{Modified}
use Rattle.cache.specs.Ways.{holds, is_free, has_line}
use Rattle.cache.specs.Sets.{Sets, at, line_at, way_at, with_way, CanStand, IsSound, HasRoom, with_first, SetsLine, ChangesLine}
use Rattle.cache.proofs.Found.{IsFirst, is_first, some-position, held, holds-other, free_is_none, none-holds}
use Rattle.cache.proofs.OneWay.{line_at-with_way, line_at-with_way_none, line_at-with_way_other}
use Rattle.cache.proofs.Sound.{alone-holds, IsSound-with_way}
use Rattle.cache.proofs.Occupancy.{put_in, occupied-replaced}
use lib.Seq.{map-set}

-- what a write of the way that was found gives
pub record Changed (test : Option Line → Bool) (count size : ℕ) (sets : Sets) (b w : ℕ) (x : Option Line) : Type 0 where
  pub sound : IsSound count size (with_way sets (b % count) w x)
  pub line : SetsLine test count sets (with_way sets (b % count) w x) b x

-- the line of another block is not this block's
other-line : (a : ℕ) (l : Line) → a ≢ l.block → holds a (Some l) ≡ false
other-line a l ne = holds-other a (Some l) (λ m is same. ne (sym same ∙ sym (ap (λ (n : Line). n.block) (same_Some l m is))))

-- an absent block comes into a free way
pub fill-changes : (count size : ℕ) (sets : Sets) (w : ℕ) (l : Line) → IsSound count size sets → length sets ≡ count → line_at count sets l.block ≡ None → position is_free (get_or sets (l.block % count) []) ≡ Some w → l.marks.written ≡ false → Changed is_free count size sets l.block w (Some l)
unfolding line_at with_first
fill-changes count size sets w l sound len absent found clean =
    let s : ℕ = l.block % count in
    let ways : List (Option Line) = get_or sets s [] in
    let pos : 0 < count = sound.some_set in
    let hs : s < length sets = omega arith in
    let first : IsFirst is_free ways w = is_first is_free ways w found in
    let empty : at sets s w ≡ None = free_is_none (get_or ways w None) first.passes in
    let nowhere : (v : ℕ) → holds l.block (at sets s v) ≡ false = λ (v : ℕ). none-holds l.block ways v absent in
    record {
      sound = IsSound-with_way count size sets s w (Some l) sound hs first.inside (λ m is.
          let P : Line → Type 0 = λ n. CanStand count sets s w n in
          subst P (same_Some l m is) (record {
            placed = refl;
            alone = λ v n ne there same. let h : holds l.block (Some n) ≡ false = rw there at (nowhere v) in absurd (grind (arith, nat_tests));
            owned = λ t. absurd (grind (arith, nat_tests));
          }));
      line = record {
        this = line_at-with_way count sets w l hs first.inside (λ v ne. nowhere v);
        others = λ a ne. line_at-with_way_other count sets s w a (Some l) hs (rw empty refl) (other-line a l ne);
        ways = rw found refl;
      };
    }

-- its set has a line then
pub fill-occupied : (count : ℕ) (sets : Sets) (w b : ℕ) (l : Line) → position is_free (get_or sets (b % count) []) ≡ Some w → map has_line (with_way sets (b % count) w (Some l)) ≡ set (map has_line sets) (b % count) true
fill-occupied count sets w b l found =
    let ways : List (Option Line) = get_or sets (b % count) [] in
    let first : IsFirst is_free ways w = is_first is_free ways w found in
    map-set has_line sets (b % count) (set ways w (Some l)) ∙ ap (λ (o : Bool). set (map has_line sets) (b % count) o) (put_in ways w l first.inside)

-- the line that stands in the way that holds a block
pub record Stands (count : ℕ) (sets : Sets) (b w : ℕ) : Type 0 where
  pub line : Line
  pub here : at sets (b % count) w ≡ Some line
  pub of_block : line.block ≡ b
  pub within : b % count < length sets
  pub inside : w < length (get_or sets (b % count) [])
  pub only : (v : ℕ) → v ≢ w → holds b (at sets (b % count) v) ≡ false

pub stands : (count size : ℕ) (sets : Sets) (b w : ℕ) → IsSound count size sets → length sets ≡ count → position (holds b) (get_or sets (b % count) []) ≡ Some w → Stands count sets b w
stands count size sets b w sound len found =
    let ways : List (Option Line) = get_or sets (b % count) [] in
    let pos : 0 < count = sound.some_set in
    let first : IsFirst (holds b) ways w = is_first (holds b) ways w found in
    let l : (l : Line) × (at sets (b % count) w ≡ Some l) × (l.block ≡ b) = held b (get_or ways w None) first.passes in
    record {
      line = l.0;
      here = l.1;
      of_block = l.2;
      within = omega arith;
      inside = first.inside;
      only = λ v ne. rw (l.2) at (alone-holds count size sets (b % count) w v l.0 sound l.1 ne);
    }

-- the way of a block holds it
pub found_way : (count : ℕ) (sets : Sets) (b w : ℕ) → way_at count sets b ≡ Some w → position (holds b) (get_or sets (b % count) []) ≡ Some w
unfolding way_at
found_way count sets b w is = is

-- a block with a line has a way
pub has_way : (count : ℕ) (sets : Sets) (b : ℕ) → way_at count sets b ≡ None → IsSome (line_at count sets b) → ⊥
unfolding way_at line_at
has_way count sets b none some = let no : false ≡ true = rw none at some in cc

-- the way that holds a block holds no other
stands-other : (count : ℕ) (sets : Sets) (b w a : ℕ) → Stands count sets b w → a ≢ b → holds a (at sets (b % count) w) ≡ false
stands-other count sets b w a here ne =
    holds-other a (at sets (b % count) w) (λ m is same. ne (sym same ∙ ap (λ (n : Line). n.block) (same_Some m here.line (sym is ∙ here.here)) ∙ here.of_block))

-- a line in the way that holds a block leaves which sets have a line
pub kept-occupied : (count size : ℕ) (sets : Sets) (w b : ℕ) (x : Option Line) → IsSound count size sets → length sets ≡ count → position (holds b) (get_or sets (b % count) []) ≡ Some w → is_some x ≡ true → map has_line (with_way sets (b % count) w x) ≡ map has_line sets
kept-occupied count size sets w b x sound len found some =
    let old : Stands count sets b w = stands count size sets b w sound len found in
    occupied-replaced sets (b % count) w old.line x old.inside old.here some

-- the ways of a set are few
pub few_ways : (count size : ℕ) (sets : Sets) → IsSound count size sets → size < 2 ^ 32
few_ways count size sets sound =
    let most : size ≤ size * count = le-mul_of_pos_right size sound.some_set in
    omega (arith, most, sound.fits, mul_comm count size)

-- so that their bytes can be counted
pub bytes_fit : (size : ℕ) → size < 2 ^ 32 → size * 44 < 9223372036854775808
bytes_fit size few = omega arith

-- the way that was found is one of them
pub way_fits : (count size : ℕ) (sets : Sets) (test : Option Line → Bool) (w b : ℕ) → IsSound count size sets → position test (get_or sets (b % count) []) ≡ Some w → w < 2 ^ 32
way_fits count size sets test w b sound found =
    let first : IsFirst test (get_or sets (b % count) []) w = is_first test (get_or sets (b % count) []) w found in
    let some : 0 < count = sound.some_set in
    let full : length (get_or sets (b % count) []) ≡ size = sound.full (b % count) (omega arith) in
    omega (arith, first.inside, full, few_ways count size sets sound)

-- a line comes into the way of its block's line
pub replace-changes : (count size : ℕ) (sets : Sets) (w : ℕ) (l : Line) → IsSound count size sets → length sets ≡ count → position (holds l.block) (get_or sets (l.block % count) []) ≡ Some w → (IsTrue l.marks.written → l.state ≡ Modified) → Changed (holds l.block) count size sets l.block w (Some l)
unfolding with_first
replace-changes count size sets w l sound len found owned =
    let s : ℕ = l.block % count in
    let old : Stands count sets l.block w = stands count size sets l.block w sound len found in
    record {
      sound = IsSound-with_way count size sets s w (Some l) sound old.within old.inside (λ m is.
          let P : Line → Type 0 = λ n. CanStand count sets s w n in
          subst P (same_Some l m is) (record {
            placed = refl;
            alone = λ v n ne there same. let h : holds l.block (Some n) ≡ false = rw there at (old.only v ne) in absurd (grind (arith, nat_tests));
            owned = owned;
          }));
      line = record {
        this = line_at-with_way count sets w l old.within old.inside old.only;
        others = λ a ne. line_at-with_way_other count sets s w a (Some l) old.within (stands-other count sets l.block w a old ne) (other-line a l ne);
        ways = rw found refl;
      };
    }

-- a block's line goes out of its way
pub invalidate-changes : (count size : ℕ) (sets : Sets) (w b : ℕ) → IsSound count size sets → length sets ≡ count → position (holds b) (get_or sets (b % count) []) ≡ Some w → Changed (holds b) count size sets b w None
unfolding with_first
invalidate-changes count size sets w b sound len found =
    let old : Stands count sets b w = stands count size sets b w sound len found in
    record {
      sound = IsSound-with_way count size sets (b % count) w None sound old.within old.inside (λ m is. cc);
      line = record {
        this = line_at-with_way_none count sets w b old.within old.inside old.only;
        others = λ a ne. line_at-with_way_other count sets (b % count) w a None old.within (stands-other count sets b w a old ne) refl;
        ways = rw found refl;
      };
    }

-- then there is room in its set
pub invalidate-room : (count size : ℕ) (sets : Sets) (w a b : ℕ) → IsSound count size sets → length sets ≡ count → position (holds b) (get_or sets (b % count) []) ≡ Some w → a % count ≡ b % count → HasRoom count (with_way sets (b % count) w None) a
unfolding HasRoom
invalidate-room count size sets w a b sound len found same =
    let s : ℕ = b % count in
    let ways : List (Option Line) = get_or sets s [] in
    let old : Stands count sets b w = stands count size sets b w sound len found in
    let free : is_free (get_or (set ways w None) w None) ≡ is_free None = ap is_free (get_or-set_same ways w None None old.inside) in
    rw (same, get_or-set_same sets s (set ways w None) [] old.within) (some-position is_free (set ways w None) w (rw (length-set ways w None) old.inside) free)

-- a replaced line is a changed one
pub changes-line : (count : ℕ) (old new : Sets) (b : ℕ) (f : Line → Line) (l m : Line) → Some l ≡ line_at count old b → l.block ≡ b → f l ≡ m → SetsLine (holds l.block) count old new l.block (Some m) → ChangesLine count old new b f
changes-line count old new b f l m is of_block e h =
    let k : SetsLine (holds b) count old new b (Some m) = subst (λ a. SetsLine (holds a) count old new a (Some m)) of_block h in
    subst (λ o. SetsLine (holds b) count old new b (option_map f o)) is (rw e k)

-- the line that stands in the way is changed where it stands
pub record ChangedThere (count size : ℕ) (sets : Sets) (b w : ℕ) (f : Line → Line) : Type 0 where
  pub sound : IsSound count size (with_way sets (b % count) w (option_map f (at sets (b % count) w)))
  pub line : ChangesLine count sets (with_way sets (b % count) w (option_map f (at sets (b % count) w))) b f
  pub occupied : map has_line (with_way sets (b % count) w (option_map f (at sets (b % count) w))) ≡ map has_line sets

pub changes-there : (count size : ℕ) (sets : Sets) (w b : ℕ) (f : Line → Line) → IsSound count size sets → length sets ≡ count → position (holds b) (get_or sets (b % count) []) ≡ Some w → ((l : Line) → (f l).block ≡ l.block)
    → ((l : Line) → line_at count sets b ≡ Some l → IsTrue (f l).marks.written → (f l).state ≡ Modified) → ChangedThere count size sets b w f
unfolding line_at
changes-there count size sets w b f sound len found same owned =
    let old : Stands count sets b w = stands count size sets b w sound len found in
    let l : Line = old.line in
    let of_block : (f l).block ≡ b = same l ∙ old.of_block in
    let looked : line_at count sets b ≡ Some l = rw found old.here in
    let changed : Changed (holds (f l).block) count size sets (f l).block w (Some (f l)) =
    replace-changes count size sets w (f l) sound len (subst (λ a. position (holds a) (get_or sets (a % count) []) ≡ Some w) (sym of_block) found) (owned l looked) in
    let there : Changed (holds b) count size sets b w (Some (f l)) = subst (λ a. Changed (holds a) count size sets a w (Some (f l))) of_block changed in
    let now : option_map f (at sets (b % count) w) ≡ Some (f l) = ap (option_map f) old.here in
    record {
      sound = subst (λ o. IsSound count size (with_way sets (b % count) w o)) (sym now) there.sound;
      line = subst (λ o. SetsLine (holds b) count sets (with_way sets (b % count) w o) b (option_map f (line_at count sets b))) (sym now)
          (subst (λ o. SetsLine (holds b) count sets (with_way sets (b % count) w (Some (f l))) b o) (sym (ap (option_map f) looked)) there.line);
      occupied = kept-occupied count size sets w b (option_map f (at sets (b % count) w)) sound len found (rw old.here refl);
    }
