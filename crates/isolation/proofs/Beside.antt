-- Each end of a run whose entries have their reasons is the end of a walk: where a hart aborts for a conflict after the others have left their
-- transactions, it could have done so while they were in them.
use Rattle.std.proofs.Common.{append-nil, ◌≡◌, ◌≢◌, ◌⊎◌, ℕ, Bool, true, false, cond, Option, Some, None, Result, Ok, Err, List, [], ◌∷◌, ◌++◌, inl, inr, refl, sym, ap, ◌∙◌, subst, append_assoc, arith}
use Rattle.std.specs.Prelude.{is_some, ◌==◌, ◌||◌, ◌&&◌, nat_lt, IsSome, IsOkAnd}
use Rattle.std.proofs.lemmas.Bool.Decides.{nat_tests}
use Rattle.words.specs.declared.cause.Cause.{Cause}
use Rattle.words.specs.declared.cause.AbortCause.TheVariants.{Asked, Conflict, LogFull, Trapped}
use Rattle.words.specs.declared.entry.Entry.{Entry}
use Rattle.words.specs.declared.entry.Entry.TheVariants.{Retire, Abort, Trap, Refuse, Spill}
use Rattle.table.specs.declared.effect.Effect.{Effect}
use Rattle.table.specs.declared.effect.Act.{Act}
use Rattle.table.specs.declared.effect.Act.TheVariants as act
use Rattle.table.specs.Table.{decoded}
use Rattle.flat.specs.State.{Setting, Flat, FlatHart, Tx, idle}
use Rattle.flat.specs.Start.{first_state, first_hart}
use Rattle.flat.specs.Causes.{next_of, depth_of}
use Rattle.flat.specs.Steps.{Carries, IsRun, IsRunning, Aborts, hart_of}
use Rattle.flat.specs.Reasons.{Past, History, told, history_of, no_history, past_retired, is_older, WantsKept, RefusalHasReason}
use Rattle.flat.specs.Bytes.{put_at}
use Rattle.flat.specs.Reservations.{Reservations, no_reservations, reserved_after, depths_told, reservations_from, reservations_of}
use Rattle.flat.proofs.Maps.{one_number, two_numbers, put_there, put_elsewhere}
use Rattle.flat.proofs.Entries.{retired_by, aborted_by, hart_back, others_stay}
use Rattle.flat.proofs.Runs.{run_more}
use Rattle.flat.proofs.Apart.{not_both}
use Rattle.isolation.specs.Moves.{is_access, IsAtAccess, Place, first_place, depths}
use Rattle.isolation.specs.Footprints.{Footprints, footprints_of}
use Rattle.isolation.specs.Reasons.{HasReason, HaveReasons}
use Rattle.isolation.proofs.Pasts.{Agrees, none_agrees, agree_next, not_refused, retired_past, spilled}
use Rattle.isolation.proofs.Waits.{Reaches, place, Waits, IsOwn, IsDue, own_moves, reach_more, gives_way, waits_on}
use Rattle.isolation.proofs.Together.{waits_beside}

-- after entries with this history and these reservations: a walk leads here too, and who was refused in its transaction waits
pub record Follows (start : Place) (f : Flat) (h : History) (r : Reservations) : Type 0 where
  pub walk : Reaches start (place f r)
  pub agree : (i : ℕ) → Agrees f.setting i (f.hart i) (h.past i)
  pub waits : (i : ℕ) (t : Tx) → (f.hart i).tx ≡ Some t → (h.past i).was_refused ≡ true → Waits start f r i t

-- who is in a transaction runs
runs_inside : (start : Place) (f : Flat) (h : History) (r : Reservations) → Follows start f h r → (i : ℕ) → IsSome (f.hart i).tx → IsRunning f i
runs_inside start f h r v i inside = let a = (v.agree i).inside inside in record { hart = a.0; runs = a.1 }

runs_at : (start : Place) (f : Flat) (h : History) (r : Reservations) → Follows start f h r → (i : ℕ) (t : Tx) → (f.hart i).tx ≡ Some t → IsRunning f i
runs_at start f h r v i t is = runs_inside start f h r v i (subst (λ o. IsSome o) (sym is) refl)

no_some : (o : Option Tx) (t : Tx) → o ≡ None → o ≡ Some t → ⊥
no_some o t none some = let k : None ≡ Some t = sym none ∙ some in cc

-- An entry that a hart gives by itself

-- it tells nothing of the others
told_others : (h : History) (e : Entry) (j : ℕ) → IsOwn e → j ≢ hart_of e → (told h e).past j ≡ h.past j
told_others h (Retire i pc w x l s) j own ne = put_elsewhere i j (past_retired h.taken i (decoded w) (h.past i)) h.past ne
told_others h (Abort i c) j own ne = put_elsewhere i j (record (h.past i) { depth = 0; was_aborted = true }) h.past ne
told_others h (Trap i c p) j own ne = refl
told_others h (Refuse i k b) j own ne = absurd own
told_others h (Spill i b) j own ne = absurd own

-- and its own hart does not wait after it
free_after : (f g : Flat) (h : History) (e : Entry) → IsOwn e → Carries f e g → (t : Tx) → (g.hart (hart_of e)).tx ≡ Some t → ((told h e).past (hart_of e)).was_refused ≡ true → ⊥
free_after f g h (Retire i pc w x l s) own k t is refused =
    let r = retired_by f g i pc w x l s k in
    let past = put_there i (past_retired h.taken i (decoded w) (h.past i)) h.past ∙ retired_past f g i w (is_some s) r.0 (Retire i pc w x l s) h r.1 r.2 in
    not_both ((told h (Retire i pc w x l s)).past i).was_refused refused (ap (λ (p : Past). p.was_refused) past ∙ not_refused h.taken i r.0.act (h.past i))
free_after f g h (Abort i c) own k t is refused = let r = aborted_by f g i c k in no_some (g.hart i).tx t (ap (λ (y : FlatHart). y.tx) (hart_back f g i c r.0 r.2.after)) is
free_after f g h (Trap i c p) own k t is refused =
    no_some (g.hart i).tx t (ap (λ (m : Flat). (m.hart i).tx) k.after ∙ ap (λ (y : FlatHart). y.tx) (put_there i _ f.hart) ∙ k.outside) is
free_after f g h (Refuse i j b) own k t is refused = absurd own
free_after f g h (Spill i b) own k t is refused = absurd own

-- the reservations after an entry, by the flat state and by the history
later_is : (start : Place) (f : Flat) (h : History) (r : Reservations) (e : Entry) → Follows start f h r → reserved_after (depths f) e r ≡ reserved_after (depths_told h) e r
later_is start f h r e v = λ p. reserved_after (λ j. (v.agree j).depth p) e r

follows_own : (start : Place) (f g : Flat) (h : History) (r : Reservations) (e : Entry) → IsOwn e → IsDue r e → Follows start f h r → Carries f e g → Follows start g (told h e) (reserved_after (depths_told h) e r)
follows_own start f g h r e own due v k = record {
  walk = subst (λ z. Reaches start (place g z)) same (reach_more start (place f r) (place g (reserved_after (depths f) e r)) (e ∷ []) v.walk (record { moves = own_moves f g e own k; reason = due; reserved = refl }));
  agree = agree_next f g h e k v.agree;
  waits = λ j t is refused. subst (λ z. Waits start g z j t) same (by j t is refused (j == hart_of e) refl);
} where
  same : reserved_after (depths f) e r ≡ reserved_after (depths_told h) e r
  same = later_is start f h r e v

  by : (j : ℕ) (t : Tx) → (g.hart j).tx ≡ Some t → ((told h e).past j).was_refused ≡ true → (b : Bool) → (j == hart_of e) ≡ b → Waits start g (reserved_after (depths f) e r) j t
  by j t is refused true z =
      let same = one_number j (hart_of e) z in
      absurd (free_after f g h e own k t (subst (λ n. (g.hart n).tx ≡ Some t) same is) (subst (λ n. ((told h e).past n).was_refused ≡ true) same refused))
  by j t is refused false z =
      let ne = two_numbers j (hart_of e) z in
      let before : (f.hart j).tx ≡ Some t = ap (λ (y : FlatHart). y.tx) (sym (others_stay f g e k j ne)) ∙ is in
      let refused_before : (h.past j).was_refused ≡ true = ap (λ (p : Past). p.was_refused) (sym (told_others h e j own ne)) ∙ refused in
      waits_on start f g r e own k due j ne t v.walk (runs_at start f h r v j t before) before (v.waits j t before refused_before)

-- A refusal, and a spill

or_true : (a b : Bool) → (a || b) ≡ true → (a ≡ true) ⊎ (b ≡ true)
or_true true b e = inl refl
or_true false b e = inr e

and_true : (a b : Bool) → (a && b) ≡ true → (a ≡ true) × (b ≡ true)
and_true true b e = (refl, e)
and_true false b e = cc

deep_inside : (o : Option Tx) (n : ℕ) → depth_of o ≡ n → nat_lt 0 n ≡ true → IsSome o
deep_inside None n e lt = absurd (grind (arith, nat_tests))
deep_inside (Some t) n e lt = refl

-- a word that wants a block is an access
wants_access : (f : Flat) (j b : ℕ) (spilled : Bool) (r : Result Effect Cause) → IsOkAnd r (λ e. WantsKept f j b spilled e.act) → IsOkAnd r (λ e. is_access e.act ≡ true)
wants_access f j b spilled (Ok e) w = by e.act w where
  by : (a : Act) → WantsKept f j b spilled a → is_access a ≡ true
  by (act.Memory m) w = refl
  by (act.Conditional rd m) w = refl
  by a w = absurd w
wants_access f j b spilled (Err c) w = absurd w

-- a refused hart is at an access, and the refuser in a transaction, if it is older
refused_waits : (start : Place) (f : Flat) (h : History) (r : Reservations) (j i b : ℕ) → Follows start f h r → RefusalHasReason f h j i b
    → (n : ℕ) (t : Tx) → (f.hart n).tx ≡ Some t → ((told h (Refuse j i b)).past n).was_refused ≡ true → Waits start f r n t
refused_waits start f h r j i b v reason n t is refused = elim (or_true (h.past n).was_refused ((n == i) && is_older (h.past j) (h.past i)) refused) [
  | inl before ↦ v.waits n t is before
  | inr new ↦
      let both = and_true (n == i) (is_older (h.past j) (h.past i)) new in
      let same = one_number n i both.0 in
      let deep = and_true (nat_lt 0 (h.past j).depth) _ both.1 in
      record {
        access = subst (IsAtAccess f) (sym same) (wants_access f j b _ (next_of f.setting (f.hart i)) reason.wants);
        way = inl (record {
          other = j;
          hart = reason.refuser;
          apart = λ z. reason.other (z ∙ same);
          inside = deep_inside (f.hart j).tx (h.past j).depth (v.agree j).depth deep.0;
        });
      }
]

follows_refusal : (start : Place) (f g : Flat) (h : History) (r : Reservations) (j i b : ℕ) → Follows start f h r → RefusalHasReason f h j i b → Carries f (Refuse j i b) g → Follows start g (told h (Refuse j i b)) r
follows_refusal start f g h r j i b v reason k = subst (λ z. Follows start z (told h (Refuse j i b)) r) (sym k) (record {
  walk = v.walk;
  agree = agree_next f f h (Refuse j i b) refl v.agree;
  waits = refused_waits start f h r j i b v reason;
})

follows_spill : (start : Place) (f g : Flat) (h : History) (r : Reservations) (i b : ℕ) → Follows start f h r → Carries f (Spill i b) g → Follows start g (told h (Spill i b)) r
follows_spill start f g h r i b v k = subst (λ z. Follows start z (told h (Spill i b)) r) (sym k) (record {
  walk = v.walk;
  agree = agree_next f f h (Spill i b) refl v.agree;
  waits = λ n t is refused. v.waits n t is (sym (spilled (λ p. p.was_refused ≡ (h.past n).was_refused) h i b n refl refl) ∙ refused);
})

-- An abort for a conflict

follows_conflict : (start : Place) (f g : Flat) (h : History) (r : Reservations) (i : ℕ) → Follows start f h r → (h.past i).was_refused ≡ true → Carries f (Abort i Conflict) g → Follows start g (told h (Abort i Conflict)) (put_at i None r)
follows_conflict start f g h r i v refused k =
    let a = aborted_by f g i Conflict k in
    let w = v.waits i a.0 a.1 refused in record {
      walk = elim w.way [
        | inl beside ↦ reach_more start (place f r) (place g (put_at i None r)) (Abort i Conflict ∷ []) v.walk (record { moves = (gives_way f i a.0 a.2.running a.1 w.access beside, k); reason = tt; reserved = refl })
        | inr before ↦ subst (λ z. Reaches start (place z (put_at i None r))) (sym a.2.after) before
      ];
      agree = agree_next f g h (Abort i Conflict) k v.agree;
      waits = λ j u is refused_too. by a w j u is refused_too (j == i) refl;
    }
  where
    by : (a : (t : Tx) × ((f.hart i).tx ≡ Some t) × Aborts f i Conflict t g) → Waits start f r i a.0
        → (j : ℕ) (u : Tx) → (g.hart j).tx ≡ Some u → ((told h (Abort i Conflict)).past j).was_refused ≡ true → (b : Bool) → (j == i) ≡ b → Waits start g (put_at i None r) j u
    by a w j u is refused_too true z =
        let none : (g.hart j).tx ≡ None = ap (λ n. (g.hart n).tx) (one_number j i z) ∙ ap (λ (y : FlatHart). y.tx) (hart_back f g i Conflict a.0 a.2.after) in
        absurd (no_some (g.hart j).tx u none is)
    by a w j u is refused_too false z =
        let ne = two_numbers j i z in
        let before : (f.hart j).tx ≡ Some u = ap (λ (y : FlatHart). y.tx) (sym (others_stay f g (Abort i Conflict) k j ne)) ∙ is in
        let past = put_elsewhere i j (record (h.past i) { depth = 0; was_aborted = true }) h.past ne in
        let refused_before : (h.past j).was_refused ≡ true = ap (λ (p : Past). p.was_refused) (sym past) ∙ refused_too in
        waits_beside start f g r i j k ne a.0 u (runs_inside start f h r v) a.1 before v.walk w.access (v.waits j u before refused_before)

-- All entries

follows_next : (start : Place) (f g : Flat) (h : History) (r : Reservations) (u : Footprints) (e : Entry) → Follows start f h r → HasReason f h r u e → Carries f e g → Follows start g (told h e) (reserved_after (depths_told h) e r)
follows_next start f g h r u (Retire i pc w x l s) v reason k = follows_own start f g h r (Retire i pc w x l s) tt reason v k
follows_next start f g h r u (Abort i Asked) v reason k = follows_own start f g h r (Abort i Asked) tt tt v k
follows_next start f g h r u (Abort i Conflict) v reason k = follows_conflict start f g h r i v reason.1 k
follows_next start f g h r u (Abort i LogFull) v reason k = follows_own start f g h r (Abort i LogFull) tt tt v k
follows_next start f g h r u (Abort i (Trapped c p)) v reason k = follows_own start f g h r (Abort i (Trapped c p)) tt tt v k
follows_next start f g h r u (Trap i c p) v reason k = follows_own start f g h r (Trap i c p) tt tt v k
follows_next start f g h r u (Refuse j i b) v reason k = follows_refusal start f g h r j i b v reason k
follows_next start f g h r u (Spill i b) v reason k = follows_spill start f g h r i b v k

history_more : (h : History) (es : List Entry) (e : Entry) → history_of h (es ++ e ∷ []) ≡ told (history_of h es) e
history_more h [] e = refl
history_more h (d ∷ es) e = history_more (told h d) es e

reserved_more : (h : History) (r : Reservations) (es : List Entry) (e : Entry) → reservations_from h r (es ++ e ∷ []) ≡ reserved_after (depths_told (history_of h es)) e (reservations_from h r es)
reserved_more h r [] e = refl
reserved_more h r (d ∷ es) e = reserved_more (told h d) (reserved_after (depths_told h) d r) es e

follows_all : (first f g : Flat) (done rest : List Entry) → HaveReasons first (done ++ rest) → IsRun first done f → Follows (place first no_reservations) f (history_of no_history done) (reservations_of done) → IsRun f rest g
    → Reaches (place first no_reservations) (place g (reservations_of (done ++ rest)))
follows_all first f g done [] reasons run v k =
    subst (λ z. Reaches (place first no_reservations) (place z (reservations_of (done ++ [])))) (sym k)
    (subst (λ z. Reaches (place first no_reservations) (place f (reservations_of z))) (sym (append-nil done)) v.walk)
follows_all first f g done (e ∷ rest) reasons run v k =
    let next = follows_next (place first no_reservations) f k.0 (history_of no_history done) (reservations_of done) (footprints_of done) e v (reasons done rest e f refl run) k.1 in
    subst (λ z. Reaches (place first no_reservations) (place g (reservations_of z))) (append_assoc done (e ∷ []) rest)
    (follows_all first k.0 g (done ++ e ∷ []) rest
    (subst (HaveReasons first) (sym (append_assoc done (e ∷ []) rest)) reasons)
    (run_more first f k.0 done e run k.1)
    (subst (λ h. Follows (place first no_reservations) k.0 h (reservations_of (done ++ e ∷ []))) (sym (history_more no_history done e))
    (subst (Follows (place first no_reservations) k.0 (told (history_of no_history done) e)) (sym (reserved_more no_history no_reservations done e)) next)) k.2)

-- From the start

first_none : (s : Setting) (entry i : ℕ) → ((first_state s entry).hart i).tx ≡ None
first_none s entry i = elim (nat_lt i s.count) as (λ (t : Bool). (cond t (first_hart s entry i) idle).tx ≡ None) [ true ↦ refl | false ↦ refl ]

follows_first : (s : Setting) (entry : ℕ) → Follows (first_place s entry) (first_state s entry) no_history no_reservations
follows_first s entry = record {
  walk = ([], refl);
  agree = λ i. none_agrees s i ((first_state s entry).hart i) (no_history.past i) (first_none s entry i) refl;
  waits = λ i t is refused. absurd (no_some ((first_state s entry).hart i).tx t (first_none s entry i) is);
}

-- a walk has the same end, with the reservations of the entries
pub walk_there : (s : Setting) (entry : ℕ) (es : List Entry) (f : Flat) → HaveReasons (first_state s entry) es → IsRun (first_state s entry) es f → Reaches (first_place s entry) (place f (reservations_of es))
walk_there s entry es f reasons run = follows_all (first_state s entry) (first_state s entry) f [] es reasons refl (follows_first s entry) run
