-- The victim that the cache names is one that the protocol allows: none where the set has room, and else a line of the full set.
use Rattle.std.proofs.Common.{◌≡◌, ◌≢◌, ◌<◌, ◌≤◌, ◌%◌, ◌∙◌, ℕ, zero, suc, Bool, true, false, List, [], ◌∷◌, Option, Some, None, is_some, IsSome, unwrap_or, length, get_or, position, refl, sym, ap, arith}
use Rattle.std.specs.Option.{option_map}
use Rattle.std.specs.List.{Contains, All, AllPairs}
use Rattle.std.proofs.lemmas.List.Elements.{All-nil, All-cons}
use Rattle.std.proofs.lemmas.List.Kept.{AllPairs-cons}
use Rattle.words.specs.LineStates.{is_owned}
use Rattle.cache.specs.declared.line.Line.{Line as CachedLine}
use Rattle.cache.specs.Line.{put_out_by}
use Rattle.cache.specs.Ways.{is_free, is_unmarked, line_in, put_out, victim_in}
use Rattle.cache.specs.Sets.{Sets, line_at, victim_at, IsSound}
use Rattle.cache.proofs.Found.{IsFirst, IsFound, is_found}
use Rattle.cache.proofs.Rooms.{found_way}
use Rattle.cache.proofs.Victims.{line_at-here, none-free, unwrap_or-inside}
use Rattle.protocol.specs.Caches as protocol
use Rattle.protocol.specs.Caches.{Geometry, StandsBeside, IsFull, MayName}
use Rattle.protocol.specs.Hart.{Hart}
use Rattle.protocol.specs.Core.{Move, Rests, Makes, Lacks}
use Rattle.protocol.specs.Machine.{MayLack}
use Rattle.hart.specs.Shown.{shown_line, lines_of}
use Rattle.hart.specs.Rows.{block_of, victim_of}

abbrev pub Ways : Type 0
Ways = List (Option CachedLine)

-- the blocks of the lines in a set
abbrev pub blocks_in : Ways → List ℕ
blocks_in [] = []
blocks_in (None ∷ ways) = blocks_in ways
blocks_in (Some l ∷ ways) = l.block ∷ blocks_in ways

-- no more than the set has ways
few : (ways : Ways) → length (blocks_in ways) ≤ length ways
few [] = omega arith
few (None ∷ ways) = let f = few ways in omega arith
few (Some l ∷ ways) = let f = few ways in omega arith

-- fewer, where a way is free
fewer : (ways : Ways) (v : ℕ) → v < length ways → get_or ways v None ≡ None → length (blocks_in ways) < length ways
fewer [] v inside none = absurd (omega (arith, inside))
fewer (None ∷ ways) v inside none = let f = few ways in omega arith
fewer (Some l ∷ ways) zero inside none = cc
fewer (Some l ∷ ways) (suc v) inside none = let f = fewer ways v (omega arith) none in omega arith

-- as many, where none is
all_held : (ways : Ways) → ((v : ℕ) → v < length ways → get_or ways v None ≡ None → ⊥) → length (blocks_in ways) ≡ length ways
all_held [] full = refl
all_held (None ∷ ways) full = absurd (full 0 (omega arith) refl)
all_held (Some l ∷ ways) full = let f = all_held ways (λ v inside none. full (suc v) (omega arith) none) in omega arith

-- the block of a line that stands in a way is among them
has_block : (ways : Ways) (v : ℕ) (l : CachedLine) → v < length ways → get_or ways v None ≡ Some l → Contains (blocks_in ways) l.block
has_block [] v l inside here = absurd (omega (arith, inside))
has_block (None ∷ ways) zero l inside here = cc
has_block (None ∷ ways) (suc v) l inside here = has_block ways v l (omega arith) here
has_block (Some m ∷ ways) zero l inside here = let same : m.block ≡ l.block = cc in (0, omega arith, same)
has_block (Some m ∷ ways) (suc v) l inside here = let k = has_block ways v l (omega arith) here in (suc k.0, omega (arith, k.1), k.2)

-- what holds of the block of each line that stands in a way holds of each of them
each_block : (P : ℕ → Type 0) (ways : Ways) → ((v : ℕ) (l : CachedLine) → v < length ways → get_or ways v None ≡ Some l → P l.block) → All P (blocks_in ways)
each_block P [] each = All-nil P
each_block P (None ∷ ways) each = each_block P ways (λ v l inside here. each (suc v) l (omega arith) here)
each_block P (Some m ∷ ways) each = All-cons P m.block (blocks_in ways) (each 0 m (omega arith) refl) (each_block P ways (λ v l inside here. each (suc v) l (omega arith) here))

-- each once, where no two ways have lines of one block
once : (ways : Ways) → ((v w : ℕ) (l m : CachedLine) → w ≢ v → get_or ways v None ≡ Some l → get_or ways w None ≡ Some m → m.block ≢ l.block)
    → AllPairs (λ c d. c ≢ d) (blocks_in ways)
once [] alone = λ i j d lt within. absurd (omega (arith, within))
once (None ∷ ways) alone = once ways (λ v w l m ne here there. alone (suc v) (suc w) l m (λ e. ne (omega arith)) here there)
once (Some k ∷ ways) alone =
    AllPairs-cons (λ c d. c ≢ d) k.block (blocks_in ways)
    (each_block (λ d. k.block ≢ d) ways (λ v l inside here e. alone 0 (suc v) k l (λ s. absurd (omega (arith, s))) refl here (sym e)))
    (once ways (λ v w l m ne here there. alone (suc v) (suc w) l m (λ e. ne (omega arith)) here there))

module _ (count size : ℕ) (sets : Sets) (sound : IsSound count size sets) (b : ℕ) where
  abbrev g : Geometry
  g = record { sets = count; ways = size }

  abbrev ways : Ways
  ways = get_or sets (b % count) []

  long : length ways ≡ size
  long = let some : 0 < count = sound.some_set in sound.full (b % count) (omega arith)

  -- a line that is found in the set has its block among the set's
  beside_has : (c : ℕ) → StandsBeside g (lines_of count sets) b c → Contains (blocks_in ways) c
  unfolding line_at
  beside_has c s = by_line (line_in c (get_or sets (c % count) [])) refl s.1
    where
      by_line : (o : Option CachedLine) → line_in c (get_or sets (c % count) []) ≡ o → IsSome (option_map shown_line o) → Contains (blocks_in ways) c
      by_line None e some = cc
      by_line (Some l) e some =
          let f : IsFound c ways l = is_found c ways l (rw (s.0) at e) in
          rw (f.of_block) at (has_block ways f.way l f.inside f.here)

  -- a line of the set is one
  stands_beside : (v : ℕ) (l : CachedLine) → v < length ways → get_or ways v None ≡ Some l → StandsBeside g (lines_of count sets) b l.block
  stands_beside v l inside here =
      let found : line_at count sets l.block ≡ Some l = line_at-here count size sets (b % count) v l sound inside here in
      ((sound.lines (b % count) v l here).placed, ap (λ o. is_some (option_map shown_line o)) found)

  has_room : (v : ℕ) → v < length ways → get_or ways v None ≡ None → protocol.HasRoom g (lines_of count sets) b
  has_room v inside none = (blocks_in ways, omega (arith, fewer ways v inside none, long), beside_has)

  is_full : ((v : ℕ) → v < length ways → get_or ways v None ≡ None → ⊥) → IsFull g (lines_of count sets) b
  is_full full = (
    blocks_in ways,
    all_held ways full ∙ long,
    once ways (λ v w l m ne here there. (sound.lines (b % count) v l here).alone w m ne there),
    each_block (StandsBeside g (lines_of count sets) b) ways stands_beside,
  )

  free_way : (w : ℕ) → IsFirst is_free ways w → get_or ways w None ≡ None
  free_way w first = by_way (get_or ways w None) refl first.passes
    where
      by_way : (o : Option CachedLine) → get_or ways w None ≡ o → is_free o ≡ true → get_or ways w None ≡ None
      by_way None e f = e
      by_way (Some l) e f = cc

  goes : (o : Option CachedLine) (v : ℕ) → v < length ways → get_or ways v None ≡ o → ((w : ℕ) → w < length ways → get_or ways w None ≡ None → ⊥) → MayName g (lines_of count sets) b (block_of (put_out o))
  goes None v inside here full = absurd (full v inside here)
  goes (Some l) v inside here full = by_state (is_owned l.state) refl
    where
      by_state : (t : Bool) → is_owned l.state ≡ t → MayName g (lines_of count sets) b (block_of (put_out_by l.state l))
      by_state true e = rw e (is_full full, stands_beside v l inside here)
      by_state false e = rw e (is_full full, stands_beside v l inside here)

  by_room : (t : Bool) → is_some (position is_free ways) ≡ t → MayName g (lines_of count sets) b (block_of (victim_in ways))
  by_room true e = let w = found_way is_free ways e in rw e (has_room w.0 w.1.inside (free_way w.0 w.1))
  by_room false e =
      let some : 0 < length ways = let s : 0 < size = sound.some_way in omega (arith, long) in
      let v : ℕ = unwrap_or (position is_unmarked ways) 0 in
      rw e (goes (get_or ways v None) v (unwrap_or-inside is_unmarked ways some) refl (λ w inside none. none-free ways w e inside none))

  pub victim-may : MayName g (lines_of count sets) b (victim_of count sets b)
  unfolding victim_at
  victim-may = by_room (is_some (position is_free ways)) refl

-- so it may be named for whatever a hart is about to do
pub may_lack : (g : Geometry) (h : Hart) (victim : ℕ → Option ℕ) (move : Move) → ((b : ℕ) → MayName g h.lines b (victim b)) → MayLack g h victim move
may_lack g h victim Rests may = tt
may_lack g h victim (Makes t) may = tt
may_lack g h victim (Lacks kind b) may = λ none. may b
