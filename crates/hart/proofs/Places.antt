-- Where lines stand, over what is done with a cache.
use Rattle.std.proofs.Common.{◌≡◌, ◌∙◌, ◌%◌, ◌⊎◌, inl, inr, ℕ, zero, suc, Option, Some, None, List, [], ◌∷◌, length, get_or, position, map, refl, sym, ap, subst}
use Rattle.std.specs.Prelude.{slice_set}
use Rattle.std.specs.Option.{option_map, option_and_then, option_map_or}
use Rattle.std.proofs.lemmas.Option.{same_Some, none-some}
use Rattle.cache.specs.declared.line.Line.{Line}
use Rattle.cache.specs.Line.{without_marks}
use Rattle.cache.specs.Ways.{holds, is_free, line_in}
use Rattle.cache.specs.Sets.{Sets, ways_at, at, line_at, with_way, with_first, SetsLine, ChangesLine}
use Rattle.cache.proofs.Found.{is_first, is_found, held}
use Rattle.hart.specs.Places.{HasStood, ComesIn, KeepsWays}

-- all stay
pub all_stay : (count : ℕ) (sets : Sets) → KeepsWays count sets sets
all_stay count sets = record { sizes = λ s. refl; lines = λ s w m here. inl (record { line = m; here = here; block = refl }) }

pub none_moves : (count : ℕ) (old new : Sets) → new ≡ old → KeepsWays count old new
none_moves count old new same = subst (KeepsWays count old) (sym same) (all_stay count old)

-- what stands at a place of a list in which one was set: that, or what stood there
set_gives : {A : Type 0} (xs : List A) (i j : ℕ) (y d : A) → ((j ≡ i) × (get_or (slice_set xs i y) j d ≡ y)) ⊎ (get_or (slice_set xs i y) j d ≡ get_or xs j d)
set_gives [] i j y d = inr refl
set_gives (x ∷ xs) zero zero y d = inl (refl, refl)
set_gives (x ∷ xs) zero (suc j) y d = inr refl
set_gives (x ∷ xs) (suc i) zero y d = inr refl
set_gives (x ∷ xs) (suc i) (suc j) y d = elim (set_gives xs i j y d) [ inl is ↦ inl (ap suc is.0, is.1) | inr is ↦ inr is ]

same_length : {A : Type 0} (xs : List A) (i : ℕ) (y : A) → length (slice_set xs i y) ≡ length xs
same_length [] i y = refl
same_length (x ∷ xs) zero y = refl
same_length (x ∷ xs) (suc i) y = ap suc (same_length xs i y)

-- a set with one way changed
sizes_with : (sets : Sets) (s w t : ℕ) (x : Option Line) → length (ways_at (with_way sets s w x) t) ≡ length (ways_at sets t)
sizes_with sets s w t x = elim (set_gives sets s t (slice_set (ways_at sets s) w x) []) [
  | inl is ↦ ap length is.1 ∙ (same_length (ways_at sets s) w x ∙ ap (λ k. length (ways_at sets k)) (sym is.0))
  | inr is ↦ ap length is
]

-- what stands in a way then
stands_with : (sets : Sets) (s w t v : ℕ) (x : Option Line) → ((t ≡ s) × (v ≡ w) × (at (with_way sets s w x) t v ≡ x)) ⊎ (at (with_way sets s w x) t v ≡ at sets t v)
stands_with sets s w t v x = elim (set_gives sets s t (slice_set (ways_at sets s) w x) []) [
  | inr is ↦ inr (ap (λ ways. get_or ways v None) is)
  | inl is ↦ elim (set_gives (ways_at sets s) w v x None) [
    | inl there ↦ inl (is.0, there.0, ap (λ ways. get_or ways v None) is.1 ∙ there.1)
    | inr there ↦ inr (ap (λ ways. get_or ways v None) is.1 ∙ (there ∙ ap (λ k. at sets k v) (sym is.0)))
  ]
]

-- one way is changed, to a line that stood there or came in, or to none
one_way : (count : ℕ) (sets : Sets) (s w : ℕ) (x : Option Line) → ((m : Line) → x ≡ Some m → HasStood sets s w m ⊎ ComesIn count sets s w m) → KeepsWays count sets (with_way sets s w x)
one_way count sets s w x comes = record {
  sizes = λ t. sizes_with sets s w t x;
  lines = λ t v m here. elim (stands_with sets s w t v x) [
    | inr still ↦ inl (record { line = m; here = sym still ∙ here; block = refl })
    | inl is ↦
        subst (λ k. HasStood sets k v m ⊎ ComesIn count sets k v m) (sym is.0)
        (subst (λ k. HasStood sets s k m ⊎ ComesIn count sets s k m) (sym is.1) (comes m (sym is.2 ∙ here)))
  ];
}

-- a block's line is changed where it stands, or taken out
pub line_changed : (count : ℕ) (old new : Sets) (b : ℕ) (x : Option Line) → SetsLine (holds b) count old new b x → ((m : Line) → x ≡ Some m → m.block ≡ b) → KeepsWays count old new
unfolding with_first
line_changed count old new b x set own = subst (KeepsWays count old) (sym set.ways) (by_way (position (holds b) (ways_at old (b % count))) refl)
  where
    by_way : (o : Option ℕ) → position (holds b) (ways_at old (b % count)) ≡ o → KeepsWays count old (option_map_or (λ w. with_way old (b % count) w x) o old)
    by_way None e = all_stay count old
    by_way (Some w) e =
        let was = held b (get_or (ways_at old (b % count)) w None) (is_first (holds b) (ways_at old (b % count)) w e).passes in
        one_way count old (b % count) w x (λ m is. inl (record { line = was.0; here = was.1; block = was.2 ∙ sym (own m is) }))

pub line_removed : (count : ℕ) (old new : Sets) (b : ℕ) → SetsLine (holds b) count old new b None → KeepsWays count old new
line_removed count old new b set = line_changed count old new b None set (λ m is. absurd (none-some m is))

-- another line of its block in its place
pub line_replaced : (count : ℕ) (old new : Sets) (l : Line) → SetsLine (holds l.block) count old new l.block (Some l) → KeepsWays count old new
line_replaced count old new l set = line_changed count old new l.block (Some l) set (λ m is. sym (ap (λ (k : Line). k.block) (same_Some l m is)))

-- the line of a block is one of that block
block_there : (count : ℕ) (sets : Sets) (b : ℕ) (l : Line) → line_at count sets b ≡ Some l → l.block ≡ b
unfolding line_at
block_there count sets b l here = (is_found b (ways_at sets (b % count)) l here).of_block

-- a block's line is changed, and stays one of the block
pub line_put : (count : ℕ) (old new : Sets) (b : ℕ) (f : Line → Line) → ((l : Line) → (f l).block ≡ l.block) → ChangesLine count old new b f → KeepsWays count old new
line_put count old new b f keeps set = line_changed count old new b (option_map f (line_at count old b)) set (own (line_at count old b) refl)
  where
    own : (o : Option Line) → line_at count old b ≡ o → (m : Line) → option_map f o ≡ Some m → m.block ≡ b
    own None e m is = absurd (none-some m is)
    own (Some l) e m is = sym (ap (λ (k : Line). k.block) (same_Some (f l) m is)) ∙ (keeps l ∙ block_there count old b l e)

-- a block without a line is in none of the ways
absent_from : (b : ℕ) (ways : List (Option Line)) → line_in b ways ≡ None → position (holds b) ways ≡ None
absent_from b ways none = by_place (position (holds b) ways) refl none
  where
    by_place : (o : Option ℕ) → position (holds b) ways ≡ o → option_and_then (λ w. get_or ways w None) o ≡ None → o ≡ None
    by_place None e is = refl
    by_place (Some w) e is = let was = held b (get_or ways w None) (is_first (holds b) ways w e).passes in absurd (none-some was.0 (sym is ∙ was.1))

-- a block gets a line
pub line_comes : (count : ℕ) (old new : Sets) (b : ℕ) (l : Line) → line_at count old b ≡ None → l.block ≡ b → SetsLine is_free count old new b (Some l) → KeepsWays count old new
unfolding with_first line_at
line_comes count old new b l none own set = subst (KeepsWays count old) (sym set.ways) (by_way (position is_free (ways_at old (b % count))) refl)
  where
    absent : position (holds b) (ways_at old (b % count)) ≡ None
    absent = absent_from b (ways_at old (b % count)) none

    by_way : (o : Option ℕ) → position is_free (ways_at old (b % count)) ≡ o → KeepsWays count old (option_map_or (λ w. with_way old (b % count) w (Some l)) o old)
    by_way None e = all_stay count old
    by_way (Some w) e = one_way count old (b % count) w (Some l) (λ m is.
        let block : b ≡ m.block = sym own ∙ ap (λ (k : Line). k.block) (same_Some l m is) in
        inr (record {
          placed = ap (λ n. n % count) (sym block);
          absent = subst (λ n. position (holds n) (ways_at old (b % count)) ≡ None) block absent;
          free = e;
        }))

-- marks are taken away
unmarked_line : (o : Option Line) (m : Line) → option_map without_marks o ≡ Some m → (l : Line) × (o ≡ Some l) × (l.block ≡ m.block)
unmarked_line None m is = absurd (none-some m is)
unmarked_line (Some l) m is = (l, refl, ap (λ (k : Line). k.block) (same_Some (without_marks l) m is))

get_map : {A B : Type 0} (f : A → B) (xs : List A) (i : ℕ) (d : A) → get_or (map f xs) i (f d) ≡ f (get_or xs i d)
get_map f [] i d = refl
get_map f (x ∷ xs) zero d = refl
get_map f (x ∷ xs) (suc i) d = get_map f xs i d

long : {A B : Type 0} (f : A → B) (xs : List A) → length (map f xs) ≡ length xs
long f [] = refl
long f (x ∷ xs) = ap suc (long f xs)

pub marks_cleared : (count : ℕ) (old new : Sets) → new ≡ map (map (option_map without_marks)) old → KeepsWays count old new
marks_cleared count old new is = subst (KeepsWays count old) (sym is) (record {
  sizes = λ s. ap length (ways s) ∙ long (option_map without_marks) (ways_at old s);
  lines = λ s w m here.
      let was = unmarked_line (at old s w) m (sym (ap (λ l. get_or l w None) (ways s) ∙ get_map (option_map without_marks) (ways_at old s) w None) ∙ here) in
      inl (record { line = was.0; here = was.1; block = was.2 });
})
  where
    ways : (s : ℕ) → ways_at (map (map (option_map without_marks)) old) s ≡ map (option_map without_marks) (ways_at old s)
    ways s = get_map (map (option_map without_marks)) old s []
