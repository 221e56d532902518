-- Which sets have a line.
use Rattle.std.proofs.Common.{◌≡◌, ℕ, zero, suc, ◌<◌, Bool, true, false, is_some, Option, Some, None, List, [], ◌∷◌, length, get_or, set, map, replicate, refl, sym, ◌∙◌, ap, ◌↔◌, ◌||◌, inl, inr, arith}
use lib.Seq.{map-set, map-set_same, ext_get_or}
use Rattle.std.specs.List.{position_or_len}
use Rattle.std.specs.Option.{option_map}
use Rattle.std.proofs.lemmas.Bool.{cases_lt}
use Rattle.std.proofs.lemmas.Bool.Decides.{nat_tests}
use Rattle.std.proofs.lemmas.List.{get_or_past, get_or-map, get_or-set_same, length-map, length-set}
use Rattle.cache.specs.declared.line.Line.{Line}
use Rattle.cache.specs.Line.{without_marks}
use Rattle.cache.specs.Ways.{has_line}
use Rattle.cache.specs.Sets.{Sets, at, with_way, IsSound}
use Rattle.cache.specs.Occupied.{may_have, mask_of}
use Rattle.cache.proofs.Masks.{unoccupied}
use Rattle.cache.proofs.Found.{some-position, position_is_none}
use Rattle.cache.proofs.Fresh.{free_ways, fresh, get_or-free_ways}

-- no way of a set without a line has one
none_inside : (ways : List (Option Line)) (w : ℕ) → w < length ways → has_line ways ≡ false → (way : Option Line) → get_or ways w None ≡ way → get_or ways w None ≡ None
none_inside ways w inside none None is = is
none_inside ways w inside none (Some l) is = absurd (let some : has_line ways ≡ true = some-position is_some ways w inside (rw is refl) in cc)

pub none_stands : (ways : List (Option Line)) (w : ℕ) → has_line ways ≡ false → get_or ways w None ≡ None
none_stands ways w none =
    elim (cases_lt w (length ways)) [
      | inl inside ↦ none_inside ways w inside none (get_or ways w None) refl
      | inr past ↦ get_or_past ways w None past
    ]

-- two sets without a line are one, if they have as many ways
pub both_free : (ways others : List (Option Line)) → length ways ≡ length others → has_line ways ≡ false → has_line others ≡ false → ways ≡ others
both_free ways others long none other = ext_get_or None ways others long (λ w h. none_stands ways w none ∙ sym (none_stands others w other))

-- a new cache has no line
pub free_ways-none : (size : ℕ) → has_line (free_ways size) ≡ false
free_ways-none size = rw (position_is_none is_some (free_ways size) None (λ w h. rw (get_or-free_ways size w) refl)) refl

pub occupied-fresh : (count size : ℕ) → replicate count false ≡ map has_line (fresh count size)
occupied-fresh zero size = refl
occupied-fresh (suc n) size = λ i. (sym (free_ways-none size) i) ∷ (occupied-fresh n size i)

-- a set has a line once one was put into it
pub put_in : (ways : List (Option Line)) (w : ℕ) (l : Line) → w < length ways → has_line (set ways w (Some l)) ≡ true
put_in ways w l inside =
    let here : is_some (get_or (set ways w (Some l)) w None) ≡ true = rw (get_or-set_same ways w (Some l) None inside) refl in
    some-position is_some (set ways w (Some l)) w (rw (length-set ways w (Some l)) inside) here

-- a line in the place of another changes no set's having one
pub occupied-replaced : (sets : Sets) (s w : ℕ) (l : Line) (x : Option Line) → w < length (get_or sets s []) → at sets s w ≡ Some l → is_some x ≡ true → map has_line (with_way sets s w x) ≡ map has_line sets
occupied-replaced sets s w l x inside here some =
    let ways : List (Option Line) = get_or sets s [] in
    let there : is_some (get_or (set ways w x) w None) ≡ true = rw (get_or-set_same ways w x None inside) some in
    let after : has_line (set ways w x) ≡ true = some-position is_some (set ways w x) w (rw (length-set ways w x) inside) there in
    let before : has_line ways ≡ true = some-position is_some ways w inside (rw here refl) in
    map-set_same has_line sets s (set ways w x) [] (after ∙ sym before)

-- marks don't tell whether a set has a line
is_some-unmarked : (way : Option Line) → is_some (option_map without_marks way) ≡ is_some way
is_some-unmarked None = refl
is_some-unmarked (Some l) = refl

first-unmarked : (ways : List (Option Line)) → position_or_len is_some (map (option_map without_marks) ways) ≡ position_or_len is_some ways
first-unmarked [] = refl
first-unmarked (way ∷ ways) = rw (is_some-unmarked way, first-unmarked ways) refl

pub has_line-unmarked : (ways : List (Option Line)) → has_line (map (option_map without_marks) ways) ≡ has_line ways
has_line-unmarked ways = rw (first-unmarked ways, length-map) refl

pub occupied-unmarked : (sets : Sets) → map has_line (map (map (option_map without_marks)) sets) ≡ map has_line sets
occupied-unmarked [] = refl
occupied-unmarked (ways ∷ sets) = λ i. (has_line-unmarked ways i) ∷ (occupied-unmarked sets i)

-- a set without a line has no marks to take away
pub unmarked-free : (ways : List (Option Line)) → has_line ways ≡ false → map (option_map without_marks) ways ≡ ways
unmarked-free ways none = both_free (map (option_map without_marks) ways) ways (length-map ways (option_map without_marks)) (has_line-unmarked ways ∙ none) none

-- whether a set has a line, by the list that says so
pub occupied_at : (sets : Sets) (s : ℕ) → s < length sets → get_or (map has_line sets) s false ≡ has_line (get_or sets s [])
occupied_at sets s h = get_or-map has_line sets s [] false h

-- a set that may have no line, by the mask of those that have one
pub free_at : (mask : ℕ) (sets : Sets) → mask ≡ mask_of 64 (map has_line sets) → (s : ℕ) → may_have mask s ≡ false → has_line (get_or sets s []) ≡ false
free_at mask sets is s not =
    elim (cases_lt s (length sets)) [
      | inl h ↦ sym (occupied_at sets s h) ∙ unoccupied mask (map has_line sets) is s not
      | inr h ↦ ap has_line (get_or_past sets s [] h)
    ]

-- as many ways in each set of two caches
pub same_size : (count size : ℕ) (sets others : Sets) → IsSound count size sets → IsSound count size others → length sets ≡ count → length others ≡ count → (s : ℕ) → length (get_or sets s []) ≡ length (get_or others s [])
same_size count size sets others sound other long other_long s =
    elim (cases_lt s count) [
      | inl h ↦ sound.full s h ∙ sym (other.full s h)
      | inr h ↦ rw (get_or_past sets s [] (rw long h), get_or_past others s [] (rw other_long h)) refl
    ]

-- sets of two caches, of which one mask says which have a line, are alike where they have one or not
module _ (count size mask : ℕ) (sets others : Sets) (sound : IsSound count size sets) (other_sound : IsSound count size others) (long : length sets ≡ count) (other_long : length others ≡ count)
    (is : mask ≡ mask_of 64 (map has_line sets)) (other_is : mask ≡ mask_of 64 (map has_line others)) where
  alike_at : ((s : ℕ) → may_have mask s ≡ true → get_or sets s [] ≡ get_or others s []) → (s : ℕ) (may : Bool) → may_have mask s ≡ may → get_or sets s [] ≡ get_or others s []
  alike_at each s true may = each s may
  alike_at each s false may =
      both_free (get_or sets s []) (get_or others s []) (same_size count size sets others sound other_sound long other_long s) (free_at mask sets is s may) (free_at mask others other_is s may)

  -- so those that may have a line decide
  pub alike_decides : ((s : ℕ) → may_have mask s ≡ true → get_or sets s [] ≡ get_or others s []) ↔ (sets ≡ others)
  alike_decides = (λ each. ext_get_or [] sets others (long ∙ sym other_long) (λ s h. alike_at each s (may_have mask s) refl), λ e s may. ap (λ (x : Sets). get_or x s []) e)

-- a set that neither of two caches says to have a line is the same in both
pub neither : (count size mask other_mask : ℕ) (sets others : Sets) → IsSound count size sets → IsSound count size others → length sets ≡ count → length others ≡ count → mask ≡ mask_of 64 (map has_line sets) → other_mask ≡ mask_of 64 (map has_line others)
    → (s : ℕ) → (may_have mask s || may_have other_mask s) ≡ false → get_or sets s [] ≡ get_or others s []
neither count size mask other_mask sets others sound other_sound long other_long is other_is s not =
    both_free (get_or sets s []) (get_or others s []) (same_size count size sets others sound other_sound long other_long s)
    (free_at mask sets is s (grind (arith, nat_tests, not))) (free_at other_mask others other_is s (grind (arith, nat_tests, not)))

-- a set that may have no line has no marks to take away
pub unmarked_at : (mask : ℕ) (sets : Sets) → mask ≡ mask_of 64 (map has_line sets) → (s : ℕ) → may_have mask s ≡ false → get_or sets s [] ≡ map (option_map without_marks) (get_or sets s [])
unmarked_at mask sets is s not = sym (unmarked-free (get_or sets s []) (free_at mask sets is s not))

-- whether a set has a line, once it was read
pub removed-occupied : (sets : Sets) (s : ℕ) (ways read : List (Option Line)) (b : Bool) → s < length sets → read ≡ get_or (set sets s ways) s read → b ≡ has_line read → set (map has_line sets) s b ≡ map has_line (set sets s ways)
removed-occupied sets s ways read b within is line =
    let now : read ≡ ways = is ∙ get_or-set_same sets s ways read within in
    ap (set (map has_line sets) s) (line ∙ ap has_line now) ∙ sym (map-set has_line sets s ways)
