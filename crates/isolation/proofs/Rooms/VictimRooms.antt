-- A victim makes room: once a line of a full set is evicted, the block that it was evicted for has room.
use Rattle.std.proofs.Common.{◌≡◌, ◌≢◌, ◌⊎◌, ◌<◌, ℕ, Bool, true, false, Option, None, Some, cond, nat_lt, refl, sym, ap, ◌∙◌, subst, inl, inr, arith}
use Rattle.std.specs.Prelude.{◌==◌, is_some, IsSome}
use Rattle.std.specs.Option.{option_map}
use Rattle.std.proofs.lemmas.Bool.{eq-eqb}
use Rattle.std.proofs.lemmas.Option.{same_Some}
use Rattle.words.specs.declared.entry.Entry.{Entry}
use Rattle.words.specs.declared.entry.Step.TheVariants.{Core}
use Rattle.words.specs.declared.message.Kind.{Kind}
use Rattle.words.specs.declared.message.LineState.{LineState}
use Rattle.words.specs.declared.message.LineState.TheVariants.{Shared, Exclusive, Modified}
use Rattle.flat.specs.Bytes.{put_at}
use Rattle.flat.specs.State.{Flat}
use Rattle.protocol.specs.Lines.{Line}
use Rattle.protocol.specs.Hart.{Hart, PutOut, HartResult, has_put_of}
use Rattle.protocol.specs.Evict.{drop_row, write_back_row, write_back_row_if_none_out, evict_by, evict_line, evict_row}
use Rattle.protocol.specs.Requests.{ask_row}
use Rattle.protocol.specs.Core.{Move, Lacks, core_move, no_longer_fresh, ask_with_room, victim_for, fetch_row, move_row, core_row}
use Rattle.protocol.specs.Caches.{Geometry, StandsBeside, HasRoom, MayName}
use Rattle.protocol.specs.Machine.{Machine, no_change, hart_change_if, ComesAbout, MayLack, Steps}
use Rattle.isolation.specs.Belongs.{Belongs}
use Rattle.isolation.proofs.Rooms.Blocks.{without}
use Rattle.isolation.proofs.Rooms.Sets.{LinesOf, Covered, Fits, put_sheds}
use Rattle.isolation.proofs.Rooms.MachineRooms.{all_fit}

-- an evicted line is the only one that goes
module _ (i x : ℕ) (h : Hart) where
  by_put : (l : Line) (p : Option PutOut) (t : HartResult) → write_back_row_if_none_out i x l p h ≡ Some t → t.hart.lines ≡ put_at x None h.lines
  by_put l None t k = subst (λ (z : HartResult). z.hart.lines ≡ put_at x None h.lines) (same_Some (write_back_row i x l h) t k) refl
  by_put l (Some p) t k = absurd (cc)

  by_state : (l : Line) (z : LineState) (t : HartResult) → evict_by z i x l h ≡ Some t → t.hart.lines ≡ put_at x None h.lines
  by_state l Shared t k = subst (λ (z : HartResult). z.hart.lines ≡ put_at x None h.lines) (same_Some (drop_row i x l h) t k) refl
  by_state l Exclusive t k = by_put l h.put t k
  by_state l Modified t k = by_put l h.put t k

  evicted : (l : Option Line) (t : HartResult) → evict_line i x l h ≡ Some t → t.hart.lines ≡ put_at x None h.lines
  evicted None t k = absurd (cc)
  evicted (Some l) t k = by_state l l.state t k

module _ (g : Geometry) where
  -- the set that it was in has room then
  room_after : (lines : LinesOf) (b x : ℕ) → Covered g lines b → StandsBeside g lines b x → HasRoom g (put_at x None lines) b
  room_after lines b x k beside =
      let w = without x k.0 (k.2 x beside) in
      (w.0, omega (arith, w.1, k.1), λ c s. w.2 c (other c s.1) (k.2 c (s.0, put_sheds x None lines (λ z. let f : false ≡ true = z in absurd (cc)) c s.1)))
    where
      other : (c : ℕ) → IsSome (put_at x None lines c) → c ≢ x
      other c s e = let f : false ≡ true = sym (ap (λ z. is_some (cond z None (lines c))) (eq-eqb c x e)) ∙ s in absurd (cc)

  module _ (i : ℕ) (victim : ℕ → Option ℕ) (kind : Kind) (b : ℕ) (h : Hart) (k : Covered g h.lines b) where
    by_evicted : (x : ℕ) → StandsBeside g h.lines b x → (o : Option HartResult) → evict_row i x h ≡ o → (t : HartResult) → option_map no_longer_fresh o ≡ Some t → HasRoom g t.hart.lines b
    by_evicted x beside None e t q = absurd (cc)
    by_evicted x beside (Some u) e t q =
        subst (λ (z : HartResult). HasRoom g z.hart.lines b) (same_Some (no_longer_fresh u) t q) (subst (λ z. HasRoom g z b) (sym (evicted i x h (h.lines x) u e)) (room_after h.lines b x k beside))

    by_victim : (o : Option ℕ) → MayName g h.lines b o → (t : HartResult) → ask_with_room i kind b o h ≡ Some t → HasRoom g t.hart.lines b
    by_victim None may t q = subst (λ (z : HartResult). HasRoom g z.hart.lines b) (same_Some (ask_row i kind b h) t q) may
    by_victim (Some x) may t q = by_evicted x may.1 (evict_row i x h) refl t q

    -- a hart that lacks a block leaves room for it, if it does anything
    fetched : h.lines b ≡ None → MayName g h.lines b (victim b) → (t : HartResult) → fetch_row i victim kind b h ≡ Some t → HasRoom g t.hart.lines b
    fetched none may t q = go (has_put_of b h.put) q
      where
        go : (z : Bool) → cond z None (ask_with_room i kind b (victim_for victim b (h.lines b)) h) ≡ Some t → HasRoom g t.hart.lines b
        go true y = absurd (cc)
        go false y = by_victim (victim b) may t (subst (λ z. ask_with_room i kind b (victim_for victim b z) h ≡ Some t) none y)

  module _ (v w : Machine) (i b : ℕ) (e : Option Entry) where
    still : ComesAbout (no_change v) e w → w ≡ v
    still c = c.3 ∙ ap (λ n. record v { net = n }) c.2

    after_row : (o : Option HartResult) → ((t : HartResult) → o ≡ Some t → HasRoom g t.hart.lines b) → (z : Bool) → ComesAbout (cond z (hart_change_if i o v) (no_change v)) e w → (w ≡ v) ⊎ HasRoom g (w.harts i).lines b
    after_row None room true c = inl (still c)
    after_row None room false c = inl (still c)
    after_row (Some t) room false c = inl (still c)
    after_row (Some t) room true c =
        let here : put_at i t.hart v.harts i ≡ t.hart = ap (λ z. cond z t.hart (v.harts i)) (eq-eqb i i refl) in
        inr (subst (λ (m : Machine). HasRoom g (m.harts i).lines b) (sym c.3) (subst (λ (x : Hart). HasRoom g x.lines b) (sym here) (room t refl)))

    -- so it is of a core step
    pub makes_room : (f : Flat) (kind : Kind) → Belongs g f v → core_move v.setting i v.stamps (v.harts i) ≡ Lacks kind b → (v.harts i).lines b ≡ None → Steps g v (Core i) e w → (w ≡ v) ⊎ HasRoom g (w.harts i).lines b
    makes_room f kind belongs lacks none step =
        let may = subst (λ (m : Move). MayLack g (v.harts i) step.0 m) lacks step.1 in
        after_row (core_row v.setting i v.stamps step.0 (v.harts i))
        (λ t k. fetched i step.0 kind b (v.harts i) ((all_fit g f v belongs i).sets b) none (may none) t (subst (λ (m : Move). move_row i step.0 m (v.harts i) ≡ Some t) lacks k))
        (nat_lt i v.setting.count) step.2
