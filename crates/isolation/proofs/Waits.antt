-- A hart that was refused in its transaction, and may have to abort for it: what it could do instead, and that it still can after
-- entries of the others.
use Rattle.std.proofs.Common.{◌≡◌, ◌≢◌, ◌<◌, ◌⊎◌, ℕ, Bool, true, false, Option, Some, None, List, [], ◌∷◌, ◌++◌, inl, inr, cond, refl, sym, ap, subst, ◌∙◌}
use Rattle.std.specs.Prelude.{◌==◌, IsSome, IsSomeAnd, IsOkAnd}
use Rattle.words.specs.declared.entry.Entry.{Entry}
use Rattle.words.specs.declared.entry.Entry.TheVariants.{Retire, Abort, Trap, Refuse, Spill}
use Rattle.words.specs.declared.cause.AbortCause.TheVariants.{Asked, Conflict, LogFull, Trapped}
use Rattle.flat.specs.State.{Setting, Flat, FlatHart, Tx}
use Rattle.flat.specs.Bytes.{put_at}
use Rattle.flat.specs.Causes.{next_of, depth_of}
use Rattle.flat.specs.Reservations.{Reservations, reserved_by, reserved_beside, reserved_after, StoreHasReason}
use Rattle.table.specs.Table.{decoded}
use Rattle.words.specs.declared.entry.Access.{Access}
use Rattle.flat.specs.Steps.{Carries, IsRunning, Aborts, aborted, hart_aborted, hart_of}
use Rattle.flat.specs.Attempts.{with_hart}
use Rattle.flat.proofs.Maps.{one_number, two_numbers, put_elsewhere, put_in_turn}
use Rattle.flat.proofs.Entries.{others_stay, setting_stays}
use Rattle.isolation.specs.Moves.{is_access, IsAtAccess, IsBeside, MayGiveWay, MovesBy, Place, Leads, IsReserved, depths}
use Rattle.isolation.specs.Walks.{Walks}
use Rattle.isolation.proofs.Walked.{walk_more}
use Rattle.isolation.proofs.Unseen.{other_entry, claims_none}

-- some walk leads there
abbrev pub Reaches : Place → Place → Type 0
Reaches p q = (ess : List (List Entry)) × Walks p ess q

abbrev pub place : Flat → Reservations → Place
place f r = record { flat = f; reserved = r }

-- where hart i was rolled back, and so has no reservation
abbrev pub back_at : Flat → Reservations → ℕ → Tx → Place
back_at g r i t = place (aborted g i Conflict t) (put_at i None r)

-- hart i, in transaction t, is at an access; another hart is in a transaction too, or a walk leads to where i was rolled back
pub record Waits (start : Place) (g : Flat) (r : Reservations) (i : ℕ) (t : Tx) : Type 0 where
  pub access : IsAtAccess g i
  pub way : IsBeside g i ⊎ Reaches start (back_at g r i t)

-- a hart in a transaction may be rolled back
pub rolls_back : (g : Flat) (i : ℕ) (t : Tx) → IsRunning g i → (g.hart i).tx ≡ Some t → Carries g (Abort i Conflict) (aborted g i Conflict t)
rolls_back g i t running is = subst (λ o. IsSomeAnd o (λ u. Aborts g i Conflict u (aborted g i Conflict t))) (sym is) (record { running = running; due = tt; after = refl })

-- a walk goes on by one move
pub reach_more : (p q k : Place) (es : List Entry) → Reaches p q → Leads q es k → Reaches p k
reach_more p q k es r m = (r.0 ++ es ∷ [], walk_more p q k r.0 es r.1 m)

-- beside another hart it gives way
pub gives_way : (g : Flat) (i : ℕ) (t : Tx) → IsRunning g i → (g.hart i).tx ≡ Some t → IsAtAccess g i → IsBeside g i → MayGiveWay g i
gives_way g i t running is access beside = record { running = running; inside = subst (λ o. IsSome o) (sym is) refl; access = access; beside = beside }

-- The entries of the others

-- an entry that a hart gives by itself
abbrev pub IsOwn : Entry → Type 0
IsOwn (Abort i Conflict) = ⊥
IsOwn (Refuse i j b) = ⊥
IsOwn (Spill i b) = ⊥
IsOwn e = Unit {0}

-- is a move
pub own_moves : (f g : Flat) (e : Entry) → IsOwn e → Carries f e g → MovesBy f e g
own_moves f g (Retire i pc w x l s) own k = k
own_moves f g (Abort i Asked) own k = k
own_moves f g (Abort i Conflict) own k = absurd own
own_moves f g (Abort i LogFull) own k = k
own_moves f g (Abort i (Trapped c p)) own k = k
own_moves f g (Trap i c p) own k = k
own_moves f g (Refuse i j b) own k = absurd own
own_moves f g (Spill i b) own k = absurd own

-- at an access, and so after another hart's entry
pub access_stays : (f g : Flat) (e : Entry) (i : ℕ) → Carries f e g → i ≢ hart_of e → IsAtAccess f i → IsAtAccess g i
access_stays f g e i k ne access = subst (λ n. IsOkAnd n (λ e. is_access e.act ≡ true)) (λ p. next_of (sym (setting_stays f g e k) p) (sym (others_stay f g e k i ne) p)) access

-- from where hart i was rolled back another hart's entry leads on
pub rolled_back_on : (f g : Flat) (e : Entry) (i : ℕ) → Carries f e g → i ≢ hart_of e → (t : Tx) → Carries (aborted f i Conflict t) e (aborted g i Conflict t)
rolled_back_on f g e i k ne t =
    let x = hart_aborted (f.hart i) Conflict t in
    let on : Carries (with_hart f i x) e (with_hart g i x) = other_entry f g e i x (claims_none x (f.hart i) refl) k (λ z. ne (sym z)) in
    subst (λ h. Carries (with_hart f i x) e (with_hart g i (hart_aborted h Conflict t))) (sym (others_stay f g e k i ne)) on

-- a conditional store in the entry has its reason
abbrev pub IsDue : Reservations → Entry → Type 0
IsDue r e = IsReserved r (e ∷ [])

-- to an entry of another hart it makes no difference that hart i was rolled back
module _ (f : Flat) (r : Reservations) (i : ℕ) (t : Tx) where
  depth_beside : (j : ℕ) → j ≢ i → depths (aborted f i Conflict t) j ≡ depths f j
  depth_beside j ne = ap (λ (h : FlatHart). depth_of h.tx) (put_elsewhere i j (hart_aborted (f.hart i) Conflict t) f.hart ne)

  due_back : (e : Entry) → i ≢ hart_of e → IsDue r e → IsDue (put_at i None r) e
  due_back (Retire k pc w x l s) ne due = by s due where
    by : (s : Option Access) → StoreHasReason r k w s → StoreHasReason (put_at i None r) k w s
    by None due = due
    by (Some a) due = λ c. put_elsewhere i k None r (λ z. ne (sym z)) ∙ due c
  due_back (Abort k c) ne due = due
  due_back (Trap k c p) ne due = due
  due_back (Refuse k j b) ne due = due
  due_back (Spill k b) ne due = due

  none_beside : (s : Option Access) → reserved_beside s None ≡ None
  none_beside None = refl
  none_beside (Some a) = refl

  behind_back : (e : Entry) → i ≢ hart_of e → reserved_after (depths (aborted f i Conflict t)) e (put_at i None r) ≡ put_at i None (reserved_after (depths f) e r)
  behind_back (Retire k pc w x l s) ne = λ p j. at j (j == k) refl (j == i) refl p where
    nk : k ≢ i
    nk z = ne (sym z)

    own : reserved_by (decoded w) (depths (aborted f i Conflict t) k) l (put_at i None r k) ≡ reserved_by (decoded w) (depths f k) l (r k)
    own = λ p. reserved_by (decoded w) (depth_beside k nk p) l (put_elsewhere i k None r nk p)

    at : (j : ℕ) → (a : Bool) → (j == k) ≡ a → (b : Bool) → (j == i) ≡ b
        → cond a (reserved_by (decoded w) (depths (aborted f i Conflict t) k) l (put_at i None r k)) (reserved_beside s (cond b None (r j))) ≡ cond b None (cond a (reserved_by (decoded w) (depths f k) l (r k)) (reserved_beside s (r j)))
    at j true x true y = absurd (ne (sym (one_number j i y) ∙ one_number j k x))
    at j true x false y = own
    at j false x true y = none_beside s
    at j false x false y = refl
  behind_back (Abort k c) ne = λ p j. put_in_turn k i j None None r (λ z. ne (sym z)) p
  behind_back (Trap k c q) ne = λ p j. put_in_turn k i j None None r (λ z. ne (sym z)) p
  behind_back (Refuse k j b) ne = refl
  behind_back (Spill k b) ne = refl

module _ (start : Place) (f g : Flat) (r : Reservations) (e : Entry) (own : IsOwn e) (k : Carries f e g) (due : IsDue r e) (i : ℕ) (ne : i ≢ hart_of e) (t : Tx) where
  abbrev later : Reservations
  later = reserved_after (depths f) e r

  -- from where it was rolled back the entry leads on
  rolled_on : Reaches start (back_at f r i t) → Reaches start (back_at g later i t)
  rolled_on before = reach_more start (back_at f r i t) (back_at g later i t) (e ∷ []) before (record {
    moves = own_moves (aborted f i Conflict t) (aborted g i Conflict t) e own (rolled_back_on f g e i k ne t);
    reason = due_back f r i t e ne due;
    reserved = sym (behind_back f r i t e ne);
  })

  -- where the entry's hart left its transaction, hart i gives way before it
  pub way_on : Reaches start (place f r) → IsRunning f i → (f.hart i).tx ≡ Some t → IsAtAccess f i → IsBeside f i → IsBeside g i ⊎ Reaches start (back_at g later i t)
  way_on reach running is access beside = by (beside.other == hart_of e) refl where
    lt : beside.other < g.setting.count
    lt = subst (λ (s : Setting). beside.other < s.count) (sym (setting_stays f g e k)) beside.hart

    by_tx : (o : Option Tx) → (g.hart beside.other).tx ≡ o → IsBeside g i ⊎ Reaches start (back_at g later i t)
    by_tx (Some u) some = inl (record { other = beside.other; hart = lt; apart = beside.apart; inside = subst (λ o. IsSome o) (sym some) refl })
    by_tx None none = inr (rolled_on (reach_more start (place f r) (back_at f r i t) (Abort i Conflict ∷ []) reach (record {
      moves = (gives_way f i t running is access beside, rolls_back f i t running is);
      reason = tt;
      reserved = refl;
    })))

    by : (b : Bool) → (beside.other == hart_of e) ≡ b → IsBeside g i ⊎ Reaches start (back_at g later i t)
    by true z = by_tx (g.hart beside.other).tx refl
    by false z = inl (record {
      other = beside.other;
      hart = lt;
      apart = beside.apart;
      inside = subst (λ (h : FlatHart). IsSome h.tx) (sym (others_stay f g e k beside.other (two_numbers beside.other (hart_of e) z))) beside.inside;
    })

  -- so it still waits
  pub waits_on : Reaches start (place f r) → IsRunning f i → (f.hart i).tx ≡ Some t → Waits start f r i t → Waits start g later i t
  waits_on reach running is w = record {
    access = access_stays f g e i k ne w.access;
    way = elim w.way [ inl beside ↦ way_on reach running is w.access beside | inr before ↦ inr (rolled_on before) ];
  }
