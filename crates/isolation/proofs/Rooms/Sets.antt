-- A hart's sets: each has no more lines than ways, and the one of a block that the hart waits for has room beside that block.
use Rattle.std.proofs.Common.{◌≡◌, ◌≢◌, ◌⊎◌, ◌<◌, ◌≤◌, ◌%◌, ◌&&◌, ℕ, Bool, true, false, List, [], ◌∷◌, Option, None, Some, cond, length, refl, sym, ap, ◌∙◌, subst, inl, inr, arith}
use Rattle.std.specs.Prelude.{◌==◌, is_some, IsSome}
use Rattle.std.specs.List.{Contains, AllPairs}
use Rattle.std.proofs.lemmas.Bool.{cases_eq, cases_lt, eq-eqb, and_parts}
use Rattle.std.proofs.lemmas.List.Elements.{Contains-get_or}
use Rattle.flat.specs.Bytes.{put_at}
use Rattle.flat.proofs.Maps.{one_number}
use Rattle.protocol.specs.Lines.{Line}
use Rattle.protocol.specs.Hart.{Hart, Request, with_line}
use Rattle.protocol.specs.Caches.{Geometry, StandsBeside, HasRoom, MayName}
use Rattle.isolation.specs.Facts.{SetFits}
use Rattle.isolation.proofs.Rooms.Blocks.{at_head, behind, without, each_once}

abbrev pub LinesOf : Type 0
LinesOf = ℕ → Option Line

-- the lines in the set of block b are those of at most as many blocks as it has ways
abbrev pub Covered : Geometry → LinesOf → ℕ → Type 0
Covered g lines b = (held : List ℕ) × (length held ≤ g.ways) × ((c : ℕ) → StandsBeside g lines b c → Contains held c)

-- those beside block b's own are those of fewer
abbrev pub LeavesRoom : Geometry → LinesOf → ℕ → Type 0
LeavesRoom g lines b = (held : List ℕ) × (length held < g.ways) × ((c : ℕ) → c ≢ b → StandsBeside g lines b c → Contains held c)

-- a hart's lines fit: each of its sets is covered, and that of the block it waits for leaves room beside that block
pub record Fits (g : Geometry) (h : Hart) : Type 0 where
  pub sets : (b : ℕ) → Covered g h.lines b
  pub waits : (r : Request) → h.request ≡ Some r → LeavesRoom g h.lines r.block

-- what becomes of a hart by a row that adds no line, and makes it wait for no other block
pub record Sheds (h k : Hart) : Type 0 where
  pub lines : (c : ℕ) → IsSome (k.lines c) → IsSome (h.lines c)
  pub waits : (q : Request) → k.request ≡ Some q → (r : Request) × (h.request ≡ Some r) × (r.block ≡ q.block)

-- a line that is changed or taken adds none
pub put_sheds : (b : ℕ) (l : Option Line) (lines : LinesOf) → (IsSome l → IsSome (lines b)) → (c : ℕ) → IsSome (put_at b l lines c) → IsSome (lines c)
put_sheds b l lines here c = by_place (c == b) refl
  where
    by_place : (z : Bool) → (c == b) ≡ z → IsSome (cond z l (lines c)) → IsSome (lines c)
    by_place true e k = subst (λ z. IsSome (lines z)) (sym (one_number c b e)) (here k)
    by_place false e k = k

-- a line that is there
pub is_there : (o : Option Line) (l : Line) → o ≡ Some l → IsSome o
is_there o l e = ap is_some e

module _ (g : Geometry) where
  fewer : (old new : LinesOf) → ((c : ℕ) → IsSome (new c) → IsSome (old c)) → (b : ℕ) → Covered g old b → Covered g new b
  fewer old new sub b k = (k.0, k.1, λ c s. k.2 c (s.0, sub c s.1))

  fewer_room : (old new : LinesOf) → ((c : ℕ) → IsSome (new c) → IsSome (old c)) → (b : ℕ) → LeavesRoom g old b → LeavesRoom g new b
  fewer_room old new sub b k = (k.0, k.1, λ c n s. k.2 c n (s.0, sub c s.1))

  -- so its lines still fit
  pub fits_shed : (h k : Hart) → Fits g h → Sheds h k → Fits g k
  fits_shed h k f s = record {
    sets = λ b. fewer h.lines k.lines s.lines b (f.sets b);
    waits = λ q e. let r = s.waits q e in fewer_room h.lines k.lines s.lines q.block (subst (LeavesRoom g h.lines) r.2 (f.waits r.0 r.1));
  }

  -- a set that has a line leaves room beside it
  pub room_beside : (lines : LinesOf) (b : ℕ) → Covered g lines b → IsSome (lines b) → LeavesRoom g lines b
  room_beside lines b k there =
      let w = without b k.0 (k.2 b (refl, there)) in
      (w.0, omega (arith, w.1, k.1), λ c n s. w.2 c n (k.2 c s))

  -- so does one that has room
  pub room_left : (lines : LinesOf) (b : ℕ) → HasRoom g lines b → LeavesRoom g lines b
  room_left lines b k = (k.0, k.1, λ c n s. k.2 c s)

  -- which is room for the block itself, where it has no line
  pub room_for : (lines : LinesOf) (b : ℕ) → LeavesRoom g lines b → lines b ≡ None → HasRoom g lines b
  room_for lines b k none = (k.0, k.1, λ c s. k.2 c (λ e. let f : false ≡ true = sym (ap is_some none) ∙ (ap (λ z. is_some (lines z)) (sym e) ∙ s.1) in absurd (cc)) s)

  -- a request goes out for a block, where there is room beside it
  pub fits_asked : (h k : Hart) (r : Request) → Fits g h → k.lines ≡ h.lines → k.request ≡ Some r → LeavesRoom g h.lines r.block → Fits g k
  fits_asked h k r f same asked room = record {
    sets = λ b. subst (λ z. Covered g z b) (sym same) (f.sets b);
    waits = λ q e. let t : r ≡ q = cc in subst (λ (z : Request). LeavesRoom g k.lines z.block) t (subst (λ z. LeavesRoom g z r.block) (sym same) room);
  }

  module _ (lines : LinesOf) (b : ℕ) (l : Line) (room : LeavesRoom g lines b) where
    abbrev filled : LinesOf
    filled = put_at b (Some l) lines

    off : (c : ℕ) → c ≢ b → IsSome (filled c) → IsSome (lines c)
    off c n = by_place (c == b) refl
      where
        by_place : (z : Bool) → (c == b) ≡ z → IsSome (cond z (Some l) (lines c)) → IsSome (lines c)
        by_place true e k = absurd (n (one_number c b e))
        by_place false e k = k

    -- a line is filled where there is room
    covered_filled : (d : ℕ) → Covered g lines d → Covered g filled d
    covered_filled d k = by_set (cases_eq (b % g.sets) (d % g.sets))
      where
        here : b % g.sets ≡ d % g.sets → (c : ℕ) → StandsBeside g filled d c → ((c ≡ b) ⊎ (c ≡ b → ⊥)) → Contains (b ∷ room.0) c
        here e c s (inl q) = subst (Contains (b ∷ room.0)) (sym q) (at_head b room.0)
        here e c s (inr n) = behind b c room.0 (room.2 c n (s.0 ∙ sym e, off c n s.1))

        by_set : ((b % g.sets ≡ d % g.sets) ⊎ (b % g.sets ≡ d % g.sets → ⊥)) → Covered g filled d
        by_set (inl e) = (b ∷ room.0, omega (arith, room.1), λ c s. here e c s (cases_eq c b))
        by_set (inr n) = (k.0, k.1, λ c s. k.2 c (s.0, off c (λ e. n (sym (ap (λ z. z % g.sets) e) ∙ s.0)) s.1))

  -- a request ends granted, and its line is filled
  pub fits_filled : (h : Hart) (b : ℕ) (l : Line) → Fits g h → LeavesRoom g h.lines b → Fits g (with_line b (Some l) (record h { request = None; fresh = true }))
  fits_filled h b l f room = record { sets = λ d. covered_filled h.lines b l room d (f.sets d); waits = λ r e. absurd (cc) }

  -- the blocks of a set that have lines, each once
  abbrev is_beside : LinesOf → ℕ → ℕ → Bool
  is_beside lines b c = (c % g.sets == b % g.sets) && is_some (lines c)

  beside_of : (lines : LinesOf) (b c : ℕ) → is_beside lines b c ≡ true → StandsBeside g lines b c
  beside_of lines b c e = let p = and_parts (c % g.sets == b % g.sets) (is_some (lines c)) e in (one_number (c % g.sets) (b % g.sets) p.0, p.1)

  of_beside : (lines : LinesOf) (b c : ℕ) → StandsBeside g lines b c → is_beside lines b c ≡ true
  of_beside lines b c s = ap (λ z. z && is_some (lines c)) (eq-eqb (c % g.sets) (b % g.sets) s.0) ∙ s.1

  -- so the blocks of a set that have lines can be listed
  pub set_fits : (lines : LinesOf) (b : ℕ) → Covered g lines b → SetFits g lines b
  set_fits lines b k =
      let o = each_once (is_beside lines b) k.0 in
      let short = o.short in
      let ways = k.1 in
      (o.kept, o.once, omega arith, λ c. (λ w. beside_of lines b c (o.passes c w), λ s. o.has c (k.2 c s) (of_beside lines b c s)))

  -- and one of them is a victim, or there is room
  pub victim_in : (lines : LinesOf) (b : ℕ) → 0 < g.ways → SetFits g lines b → (victim : Option ℕ) × MayName g lines b victim
  victim_in lines b ways k = by_length (cases_lt (length k.0) g.ways)
    where
      full : (held : List ℕ) → length held ≡ g.ways → AllPairs (λ c d. c ≢ d) held → ((c : ℕ) → Contains held c → StandsBeside g lines b c) → (victim : Option ℕ) × MayName g lines b victim
      full [] e once stand = absurd (omega arith)
      full (c ∷ held) e once stand = (Some c, ((c ∷ held, e, once, λ k d lt. stand _ (Contains-get_or (c ∷ held) k d lt)), stand c (at_head c held)))

      by_length : ((length k.0 < g.ways) ⊎ (g.ways ≤ length k.0)) → (victim : Option ℕ) × MayName g lines b victim
      by_length (inl lt) = (None, (k.0, lt, λ c s. (k.3 c).1 s))
      by_length (inr le) = let e : length k.0 ≡ g.ways = let s = k.2 in omega arith in full k.0 e k.1 (λ c. (k.3 c).0)
