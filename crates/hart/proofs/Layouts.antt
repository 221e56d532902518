-- Where lines stand is determined by where they stood, and by the lines that there are.
use Rattle.std.proofs.Common.{◌≡◌, ◌<◌, ◌%◌, ◌∙◌, ◌⊎◌, inl, inr, ℕ, zero, suc, Bool, true, false, Option, Some, None, List, [], ◌∷◌, length, get_or, position, replicate, refl, sym, ap, subst, arith}
use Rattle.std.specs.Option.{option_map, option_and_then}
use Rattle.std.proofs.lemmas.Bool.{cases_eq, cases_lt}
use Rattle.std.proofs.lemmas.List.{get_or_past}
use Rattle.std.proofs.lemmas.Option.{same_Some, none-some}
use Rattle.cache.specs.declared.line.Line.{Line as CachedLine}
use Rattle.cache.specs.Ways.{holds, is_free, line_in}
use Rattle.cache.specs.Sets.{Sets, ways_at, at, line_at, IsSound}
use Rattle.cache.proofs.Found.{is_found, held, holds-own, position_is}
use Rattle.protocol.specs.Lines.{Line}
use Rattle.hart.specs.Places.{HasStood, ComesIn, KeepsWays, IsLaidOut, AreLaidAlike}
use Rattle.hart.specs.Shown.{shown_line, lines_of}

-- what stands somewhere stands within the ways
within : (ways : List (Option CachedLine)) (w : ℕ) (m : CachedLine) → get_or ways w None ≡ Some m → w < length ways
within ways w m here = elim (cases_lt w (length ways)) [
  | inl lt ↦ lt
  | inr past ↦ absurd (none-some m (sym (get_or_past ways w None past) ∙ here))
]

-- a way that holds a block is found, if no other holds it
found_here : (b : ℕ) (ways : List (Option CachedLine)) (w : ℕ) (m : CachedLine) → get_or ways w None ≡ Some m → m.block ≡ b → ((v : ℕ) (n : CachedLine) → get_or ways v None ≡ Some n → n.block ≡ b → v ≡ w)
    → position (holds b) ways ≡ Some w
found_here b ways w m here is alone = position_is (holds b) ways w None (within ways w m here) (ap (holds b) here ∙ subst (λ k. holds k (Some m) ≡ true) is (holds-own m)) (λ v before. fails v before (holds b (get_or ways v None)) refl)
  where
    fails : (v : ℕ) → v < w → (t : Bool) → holds b (get_or ways v None) ≡ t → holds b (get_or ways v None) ≡ false
    fails v before false e = e
    fails v before true e = let other = held b (get_or ways v None) e in let same : v ≡ w = alone v other.0 other.1 other.2 in absurd (omega (arith, before, same))

-- a block that is held is not absent
not_absent : (b : ℕ) (ways : List (Option CachedLine)) (w : ℕ) (l : CachedLine) → get_or ways w None ≡ Some l → l.block ≡ b → ((v : ℕ) (n : CachedLine) → get_or ways v None ≡ Some n → n.block ≡ b → v ≡ w)
    → position (holds b) ways ≡ None → ⊥
not_absent b ways w l here is alone none = none-some w (sym none ∙ found_here b ways w l here is alone)

module _ (count : ℕ) (old : Sets) (laid : IsLaidOut count old) where
  -- no two ways of a set had one block
  one_way : (s v w : ℕ) (l m : CachedLine) → at old s v ≡ Some l → at old s w ≡ Some m → l.block ≡ m.block → v ≡ w
  one_way s v w l m here there same = elim (cases_eq v w) [
    | inl e ↦ e
    | inr ne ↦ absurd ((laid s w m there).alone v l ne here same)
  ]

  -- of two caches that come of one, a block stands in the same way
  same_way : (s v w : ℕ) (l m : CachedLine) → HasStood old s v l ⊎ ComesIn count old s v l → HasStood old s w m ⊎ ComesIn count old s w m → l.block ≡ m.block → v ≡ w
  same_way s v w l m (inl one) (inl other) same = one_way s v w one.line other.line one.here other.here (one.block ∙ (same ∙ sym other.block))
  same_way s v w l m (inl one) (inr other) same =
      absurd (not_absent m.block (ways_at old s) v one.line one.here (one.block ∙ same) (λ u n there is. one_way s u v n one.line there one.here (is ∙ sym (one.block ∙ same))) other.absent)
  same_way s v w l m (inr one) (inl other) same =
      absurd (not_absent l.block (ways_at old s) w other.line other.here (other.block ∙ sym same) (λ u n there is. one_way s u w n other.line there other.here (is ∙ (same ∙ sym other.block))) one.absent)
  same_way s v w l m (inr one) (inr other) same = same_Some v w (sym one.free ∙ other.free)

  -- a line stands in the set of its block
  is_placed : (s w : ℕ) (m : CachedLine) → HasStood old s w m ⊎ ComesIn count old s w m → m.block % count ≡ s
  is_placed s w m (inl was) = ap (λ b. b % count) (sym was.block) ∙ (laid s w was.line was.here).placed
  is_placed s w m (inr new) = new.placed

  -- so what stands there then is laid out
  pub laid_on : (new : Sets) → KeepsWays count old new → IsLaidOut count new
  laid_on new k s w m here = record {
    placed = is_placed s w m (k.lines s w m here);
    alone = λ v n ne there same. ne (same_way s v w n m (k.lines s v n there) (k.lines s w m here) same);
  }

  -- and it is the block's line
  pub line_stands : (new : Sets) → KeepsWays count old new → (s w : ℕ) (m : CachedLine) → at new s w ≡ Some m → line_at count new m.block ≡ Some m
  unfolding line_at
  line_stands new k s w m here =
      let stands = k.lines s w m here in
      let found : position (holds m.block) (ways_at new s) ≡ Some w =
      found_here m.block (ways_at new s) w m here refl (λ v n there is. same_way s v w n m (k.lines s v n there) stands is) in
      ap (λ t. line_in m.block (ways_at new t)) (is_placed s w m stands) ∙ (ap (option_and_then (λ way. get_or (ways_at new s) way None)) found ∙ here)

  module _ (a b : Sets) (one : KeepsWays count old a) (other : KeepsWays count old b) (lines : (c : ℕ) → lines_of count a c ≡ lines_of count b c) where
    same_line : (l m : CachedLine) → shown_line l ≡ shown_line m → l.block ≡ m.block → l ≡ m
    same_line l m same block = λ i. record { block = block i; state = (same i).state; content = (same i).content; marks = (same i).marks }

    some_line : (o : Option CachedLine) (x : Line) → option_map shown_line o ≡ Some x → (l : CachedLine) × (o ≡ Some l) × (shown_line l ≡ x)
    some_line None x is = absurd (none-some x is)
    some_line (Some l) x is = (l, refl, same_Some (shown_line l) x is)

    stands_too : (s w : ℕ) (m : CachedLine) → at a s w ≡ Some m → at b s w ≡ Some m
    unfolding line_at
    stands_too s w m here =
        let stands = one.lines s w m here in
        let shown : lines_of count b m.block ≡ Some (shown_line m) = sym (lines m.block) ∙ ap (option_map shown_line) (line_stands a one s w m here) in
        let found = some_line (line_at count b m.block) (shown_line m) shown in
        let there = is_found m.block (ways_at b (m.block % count)) found.0 found.1 in
        let same : found.0 ≡ m = same_line found.0 m found.2 there.of_block in
        let set : at b s there.way ≡ Some found.0 = ap (λ t. at b t there.way) (sym (is_placed s w m stands)) ∙ there.here in
        let way : there.way ≡ w = same_way s there.way w found.0 m (other.lines s there.way found.0 set) stands there.of_block in
        subst (λ v. at b s v ≡ Some m) way (set ∙ ap (λ (l : CachedLine). Some l) same)

-- two lists of one length with the same at each place are one
pub same_places : (xs ys : List (Option CachedLine)) → length xs ≡ length ys → ((i : ℕ) → get_or xs i None ≡ get_or ys i None) → xs ≡ ys
same_places [] [] long same = refl
same_places [] (y ∷ ys) long same = absurd (omega (arith, long))
same_places (x ∷ xs) [] long same = absurd (omega (arith, long))
same_places (x ∷ xs) (y ∷ ys) long same =
    let rest : xs ≡ ys = same_places xs ys (omega (arith, long)) (λ i. same (suc i)) in
    λ k. same 0 k ∷ rest k

-- the ways of each set are determined
ways_once : (count : ℕ) (old a b : Sets) → IsLaidOut count old → KeepsWays count old a → KeepsWays count old b → ((c : ℕ) → lines_of count a c ≡ lines_of count b c) → (s : ℕ) → ways_at a s ≡ ways_at b s
ways_once count old a b laid one other lines s = same_places (ways_at a s) (ways_at b s) (one.sizes s ∙ sym (other.sizes s)) (λ w. each w (at a s w) (at b s w) refl refl)
  where
    each : (w : ℕ) (x y : Option CachedLine) → at a s w ≡ x → at b s w ≡ y → at a s w ≡ at b s w
    each w None None x y = x ∙ sym y
    each w (Some m) y x is = x ∙ sym (stands_too count old laid a b one other lines s w m x)
    each w None (Some m) x y = stands_too count old laid b a other one (λ c. sym (lines c)) s w m y ∙ sym y

-- Only the ways of the old cache count
keeps_from : (count : ℕ) (old also new : Sets) → ((s : ℕ) → ways_at also s ≡ ways_at old s) → KeepsWays count also new → KeepsWays count old new
keeps_from count old also new same k = record {
  sizes = λ s. k.sizes s ∙ ap length (same s);
  lines = λ s w m here. elim (k.lines s w m here) [
    | inl was ↦ inl (record { line = was.line; here = ap (λ ways. get_or ways w None) (sym (same s)) ∙ was.here; block = was.block })
    | inr new ↦ inr (record { placed = new.placed; absent = ap (position (holds m.block)) (sym (same s)) ∙ new.absent; free = ap (position is_free) (sym (same s)) ∙ new.free })
  ];
}

-- caches that are laid out alike are so behind a step that leaves the same lines in both
pub laid_alike_on : (count : ℕ) (v w a b : Sets) → AreLaidAlike count v w → KeepsWays count v a → KeepsWays count w b → ((c : ℕ) → lines_of count a c ≡ lines_of count b c) → AreLaidAlike count a b
laid_alike_on count v w a b alike one other lines = record {
  laid = laid_on count v alike.laid a one;
  ways = ways_once count v a b alike.laid one (keeps_from count v w b (λ s. sym (alike.ways s)) other) lines;
}

-- a cache that keeps what caches keep is laid out
pub laid_sound : (count size : ℕ) (sets : Sets) → IsSound count size sets → IsLaidOut count sets
laid_sound count size sets sound s w m here = record { placed = (sound.lines s w m here).placed; alone = (sound.lines s w m here).alone }

-- and so is an empty one
ways_free : (sets size s : ℕ) → (ways_at (replicate sets (replicate size None)) s ≡ replicate size None) ⊎ (ways_at (replicate sets (replicate size None)) s ≡ [])
ways_free zero size s = inr refl
ways_free (suc sets) size zero = inl refl
ways_free (suc sets) size (suc s) = ways_free sets size s

none_there : (size w : ℕ) → get_or {A = Option CachedLine} (replicate size None) w None ≡ None
none_there zero w = refl
none_there (suc size) zero = refl
none_there (suc size) (suc w) = none_there size w

pub laid_empty : (count sets size : ℕ) → IsLaidOut count (replicate sets (replicate size None))
laid_empty count sets size s w m here = absurd (none-some m (sym (free (ways_free sets size s)) ∙ here))
  where
    cache : Sets
    cache = replicate sets (replicate size None)

    free : (ways_at cache s ≡ replicate size None) ⊎ (ways_at cache s ≡ []) → at cache s w ≡ None
    free (inl is) = ap (λ ways. get_or ways w None) is ∙ none_there size w
    free (inr is) = ap (λ ways. get_or ways w None) is
