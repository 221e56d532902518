-- A block that a hart has reserved by the entries is one that it has reserved, or its line was lost since; so a conditional store that fails has its reason.
use Rattle.std.proofs.Common.{append-nil, append_assoc, ◌≡◌, ◌≢◌, ◌<◌, ◌⊎◌, ◌++◌, ◌∙◌, ◌==◌, ℕ, Bool, true, false, List, [], ◌∷◌, Option, None, Some, Result, cond, nat_lt, refl, sym, ap, subst, inl, inr}
use Rattle.std.specs.Prelude.{option_to_list, IsOkAnd}
use Rattle.std.proofs.lemmas.Bool.{ltb-true}
use Rattle.std.proofs.lemmas.Option.{same_Some}
use Rattle.words.specs.declared.cause.Cause.{Cause}
use Rattle.words.specs.declared.entry.Access.{Access}
use Rattle.words.specs.declared.entry.Entry.{Entry}
use Rattle.words.specs.declared.entry.Entry.TheVariants.{Retire, Abort, Trap, Refuse, Spill}
use Rattle.words.specs.declared.entry.Step.{Step}
use Rattle.words.specs.declared.entry.Step.TheVariants.{Core, Evict, Deliver}
use Rattle.words.specs.declared.message.Kind.TheVariants.{Read, Write}
use Rattle.table.specs.declared.effect.Effect.{Effect}
use Rattle.table.specs.Program.{AreBytes}
use Rattle.table.specs.Table.{decoded}
use Rattle.flat.specs.State.{Setting, Flat}
use Rattle.flat.specs.Start.{first_state}
use Rattle.flat.specs.Causes.{next_of}
use Rattle.flat.specs.Steps.{IsRun}
use Rattle.flat.specs.Bytes.{put_at}
use Rattle.flat.specs.Reasons.{History, no_history, history_of}
use Rattle.flat.specs.Reservations.{Reservations, no_reservations, block_of, reserved_by, reserved_beside, reserved_after, depths_told, reservations_of}
use Rattle.flat.proofs.Maps.{one_number, two_numbers, put_there, put_elsewhere}
use Rattle.protocol.specs.Messages.{Message, Get, Put, Done, Grant, Forward, PutAck, Ack, Nack, receiver_of}
use Rattle.protocol.specs.Hart.{Hart, HartResult, flat_hart}
use Rattle.protocol.specs.Caches.{Geometry}
use Rattle.protocol.specs.Core.{core_row}
use Rattle.protocol.specs.Evict.{evict_row}
use Rattle.protocol.specs.HartMessages.{message_row}
use Rattle.protocol.specs.Directory.{Served, directory_row}
use Rattle.protocol.specs.Network.{taken}
use Rattle.protocol.specs.Machine.{Machine, Change, no_change, if_hart, hart_change, hart_change_if, served_change, arrival, delivery, change_of, Steps, Runs}
use Rattle.protocol.specs.Start.{start}
use Rattle.protocol.proofs.Splits.{runs_then, runs_at}
use Rattle.protocol.proofs.Settings.{setting_stays}
use Rattle.isolation.specs.FailedStores.{StoresIfReserved, NoneReserves, MayTakeLine, TakesLine, LostReserved, FailureHasReason}
use Rattle.isolation.proofs.Machine.World.{World}
use Rattle.isolation.proofs.Machine.Invariant.{Inv}
use Rattle.isolation.proofs.Machine.Transactions.{in_past, past_outside}
use Rattle.isolation.proofs.Words.NextWord.{next_is}
use Rattle.isolation.proofs.Belongs.Belonging.{world, inv_after, belongs_after}
use Rattle.isolation.proofs.Footprints.Lines.{reserved_before}
use Rattle.isolation.proofs.Reserving.{own_after}
use Rattle.isolation.proofs.Reserved.{reserved_some, more_told, all_hold}
use Rattle.isolation.proofs.Losing.{IsNoReserving, FailsWell, TellsFailure, Fades, MayTake, core_fades, evict_fades, message_fades}

-- One step

-- an entry is no LR of hart i
abbrev pub NotBy : ℕ → Option Entry → Type 0
NotBy i e = NoneReserves i (option_to_list e)

-- what hart j has reserved after a change, by the entries: it has it still, or has lost its line; or it had it by the entries before, which say so still
abbrev pub Stays : Machine → Step → Machine → Reservations → Option Entry → ℕ → ℕ → Type 0
Stays v s w r e j b = ((w.harts j).reserved ≡ Some b) ⊎ ((r j ≡ Some b) × NotBy j e × ((v.harts j).reserved ≡ Some b → ((w.harts j).reserved ≡ Some b) ⊎ (((w.harts j).lines b ≡ None) × MayTakeLine v s j b)))

-- an SC that stores nothing has its block not reserved
abbrev pub FailsIn : Machine → Option Entry → Type 0
FailsIn v None = Unit {0}
FailsIn v (Some (Retire i pc w x load None)) = (i < v.setting.count) × FailsWell (next_of v.setting (flat_hart (v.harts i))) (v.harts i)
FailsIn v (Some (Retire i pc w x load (Some s))) = Unit {0}
FailsIn v (Some (Abort i c)) = Unit {0}
FailsIn v (Some (Trap i c p)) = Unit {0}
FailsIn v (Some (Refuse j i b)) = Unit {0}
FailsIn v (Some (Spill i b)) = Unit {0}

-- an entry of its own
own_is : (h : History) (r : Reservations) (i : ℕ) (next : Result Effect Cause) (hart : Hart) (e : Option Entry) → TellsFailure next i hart e → reserved_some h e r i ≡ own_after (h.past i).depth e (r i)
own_is h r i next hart None t = refl
own_is h r i next hart (Some (Retire k pc w x l None)) t = retired h r i k pc w x l None t.0
  where
    retired : (h : History) (r : Reservations) (i k pc w : ℕ) (x : Option (ℕ × ℕ)) (l s : Option Access) → k ≡ i → reserved_after (depths_told h) (Retire k pc w x l s) r i ≡ reserved_by (decoded w) (h.past i).depth l (r i)
    retired h r i k pc w x l s same =
        subst (λ n. cond (i == n) (reserved_by (decoded w) (h.past n).depth l (r n)) (reserved_beside s (r i)) ≡ reserved_by (decoded w) (h.past i).depth l (r i)) (sym same)
        (put_there i (reserved_by (decoded w) (h.past i).depth l (r i)) (λ k. reserved_beside s (r k)))
own_is h r i next hart (Some (Retire k pc w x l (Some s))) t =
    subst (λ n. cond (i == n) (reserved_by (decoded w) (h.past n).depth l (r n)) (reserved_beside (Some s) (r i)) ≡ reserved_by (decoded w) (h.past i).depth l (r i)) (sym t)
    (put_there i (reserved_by (decoded w) (h.past i).depth l (r i)) (λ k. reserved_beside (Some s) (r k)))
own_is h r i next hart (Some (Abort k c)) t = subst (λ n. put_at n None r i ≡ None) (sym t) (put_there i None r)
own_is h r i next hart (Some (Trap k c p)) t = subst (λ n. put_at n None r i ≡ None) (sym t) (put_there i None r)
own_is h r i next hart (Some (Refuse k j b)) t = refl
own_is h r i next hart (Some (Spill k b)) t = refl

-- and one of another hart, which reserves nothing for this one
beside_before : (s : Option Access) (r : Option ℕ) (b : ℕ) → reserved_beside s r ≡ Some b → r ≡ Some b
beside_before None r b e = e
beside_before (Some s) r b e = reserved_before (block_of s) b r e

other_is : (h : History) (r : Reservations) (i j b : ℕ) (next : Result Effect Cause) (hart : Hart) (e : Option Entry) → j ≢ i → TellsFailure next i hart e → reserved_some h e r j ≡ Some b → (r j ≡ Some b) × NotBy j e
other_is h r i j b next hart None ne t k = (k, tt)
other_is h r i j b next hart (Some (Retire n pc w x l None)) ne t k =
    (sym (put_elsewhere n j (reserved_by (decoded w) (h.past n).depth l (r n)) (λ k. reserved_beside None (r k)) (λ z. ne (z ∙ t.0))) ∙ k, ((λ z. ne (sym z.0 ∙ t.0)), tt))
other_is h r i j b next hart (Some (Retire n pc w x l (Some s))) ne t k =
    (beside_before (Some s) (r j) b (sym (put_elsewhere n j (reserved_by (decoded w) (h.past n).depth l (r n)) (λ k. reserved_beside (Some s) (r k)) (λ z. ne (z ∙ t))) ∙ k), ((λ z. ne (sym z.0 ∙ t)), tt))
other_is h r i j b next hart (Some (Abort n c)) ne t k = (sym (put_elsewhere n j None r (λ z. ne (z ∙ t))) ∙ k, ((λ z. z), tt))
other_is h r i j b next hart (Some (Trap n c p)) ne t k = (sym (put_elsewhere n j None r (λ z. ne (z ∙ t))) ∙ k, ((λ z. z), tt))
other_is h r i j b next hart (Some (Refuse n m c)) ne t k = (k, ((λ z. z), tt))
other_is h r i j b next hart (Some (Spill n c)) ne t k = (k, ((λ z. z), tt))

own_not : (i : ℕ) (e : Option Entry) → IsNoReserving e → NotBy i e
own_not i None k = tt
own_not i (Some (Retire n pc w x l s)) k = ((λ z. k z.1), tt)
own_not i (Some (Abort n c)) k = ((λ z. z), tt)
own_not i (Some (Trap n c p)) k = ((λ z. z), tt)
own_not i (Some (Refuse n m c)) k = ((λ z. z), tt)
own_not i (Some (Spill n c)) k = ((λ z. z), tt)

fails_is : (v : Machine) (i : ℕ) → i < v.setting.count → (e : Option Entry) → TellsFailure (next_of v.setting (flat_hart (v.harts i))) i (v.harts i) e → FailsIn v e
fails_is v i o None t = tt
fails_is v i o (Some (Retire n pc w x l None)) t = subst (λ k. (k < v.setting.count) × FailsWell (next_of v.setting (flat_hart (v.harts k))) (v.harts k)) (sym t.0) (o, t.1)
fails_is v i o (Some (Retire n pc w x l (Some s))) t = tt
fails_is v i o (Some (Abort n c)) t = tt
fails_is v i o (Some (Trap n c p)) t = tt
fails_is v i o (Some (Refuse n m c)) t = tt
fails_is v i o (Some (Spill n c)) t = tt

-- a change after a step
pub record Goes (v : Machine) (h : History) (r : Reservations) (s : Step) (c : Change) : Type 0 where
  pub stays : (j b : ℕ) → j < v.setting.count → reserved_some h c.entry r j ≡ Some b → Stays v s c.machine r c.entry j b
  pub fails : FailsIn v c.entry

module _ (x : World) (inv : Inv x) (r : Reservations) (s : Step) where
  abbrev v : Machine
  v = x.machine

  abbrev Leads : Change → Type 0
  Leads c = Goes x.machine x.history r s c

  still : Leads (no_change v)
  still = record { stays = λ j b o e. inr (e, tt, λ k. inl k); fails = tt }

  rowed : (i : ℕ) → i < v.setting.count → (t : HartResult) → Fades (MayTakeLine v s i) v.setting i (x.history.past i).depth (v.harts i) (r i) t → (w : Machine) → w.harts ≡ v.harts → Leads (hart_change i t w)
  rowed i o t k w same = record { stays = λ j b p e. at j b e (j == i) refl; fails = fails_is v i o t.entry k.tells }
    where
      own : (b : ℕ) → reserved_some x.history t.entry r i ≡ Some b
          → (t.hart.reserved ≡ Some b) ⊎ ((r i ≡ Some b) × NotBy i t.entry × ((v.harts i).reserved ≡ Some b → (t.hart.reserved ≡ Some b) ⊎ ((t.hart.lines b ≡ None) × MayTakeLine v s i b)))
      own b e = elim (k.keeps b (sym (own_is x.history r i _ (v.harts i) t.entry k.tells) ∙ e)) [ inl now ↦ inl now | inr was ↦ inr (was.0, own_not i t.entry was.1, was.2) ]

      StaysWith : (j b : ℕ) → Hart → Type 0
      StaysWith j b hart = (hart.reserved ≡ Some b) ⊎ ((r j ≡ Some b) × NotBy j t.entry × ((v.harts j).reserved ≡ Some b → (hart.reserved ≡ Some b) ⊎ ((hart.lines b ≡ None) × MayTakeLine v s j b)))

      at : (j b : ℕ) → reserved_some x.history t.entry r j ≡ Some b → (z : Bool) → (j == i) ≡ z → StaysWith j b (cond z t.hart (w.harts j))
      at j b e true z = subst (λ n. StaysWith n b t.hart) (sym (one_number j i z)) (own b (subst (λ n. reserved_some x.history t.entry r n ≡ Some b) (one_number j i z) e))
      at j b e false z =
          let was = other_is x.history r i j b _ (v.harts i) t.entry (two_numbers j i z) k.tells e in
          inr (was.0, was.1, λ k. inl (ap (λ (f : ℕ → Hart). (f j).reserved) same ∙ k))

  if_is : (i : ℕ) (c : Change) → (i < v.setting.count → Leads c) → Leads (if_hart i v c)
  if_is i c k = by (nat_lt i v.setting.count) refl
    where
      by : (z : Bool) → nat_lt i v.setting.count ≡ z → Leads (cond z c (no_change v))
      by true e = k (ltb-true i v.setting.count e)
      by false e = still

  by_row : (i : ℕ) → i < v.setting.count → (q : Option HartResult) → ((t : HartResult) → q ≡ Some t → Fades (MayTakeLine v s i) v.setting i (x.history.past i).depth (v.harts i) (r i) t) → Leads (hart_change_if i q v)
  by_row i o None k = still
  by_row i o (Some t) k = rowed i o t (k t refl) v refl

  served : (key b : ℕ) (q : Option Served) → Leads (served_change key b q v)
  served key b None = still
  served key b (Some d) = record { stays = λ j b o e. inr (e, tt, λ k. inl k); fails = tt }

module _ (x : World) (inv : Inv x) (r : Reservations) where
  abbrev here : Machine
  here = x.machine

  -- a message that arrives may take a line only if it is the request of another that stores
  module _ (key : ℕ) where
    arrives : (i : ℕ) (m : Message) → ((o : i < here.setting.count) → Fades (MayTakeLine here (Deliver key) i) here.setting i (x.history.past i).depth (here.harts i) (r i) (message_row here.setting.count i m (here.harts i)))
        → Goes here x.history r (Deliver key) (arrival key m (Some i) here)
    arrives i m k = if_is x inv r (Deliver key) i (hart_change i (message_row here.setting.count i m (here.harts i)) (record here { net = taken key here.net }))
        (λ o. rowed x inv r (Deliver key) i o (message_row here.setting.count i m (here.harts i)) (k o) (record here { net = taken key here.net }) refl)

    abbrev fades : (i : ℕ) (m : Message) → MayTake (MayTakeLine here (Deliver key) i) m → (i < here.setting.count)
        → Fades (MayTakeLine here (Deliver key) i) here.setting i (x.history.past i).depth (here.harts i) (r i) (message_row here.setting.count i m (here.harts i))
    fades i m may o = message_fades (MayTakeLine here (Deliver key) i) here.setting i (x.history.past i).depth (here.harts i) (r i) here.setting.count m may

    by_message : (m : Message) → here.net key ≡ Some m → Goes here x.history r (Deliver key) (arrival key m (receiver_of m) here)
    by_message (Get from b kind stamp) e = served x inv r (Deliver key) key b (directory_row here.setting.count (Get from b kind stamp) (here.entries b) (here.memory b))
    by_message (Put from b content marked) e = served x inv r (Deliver key) key b (directory_row here.setting.count (Put from b content marked) (here.entries b) (here.memory b))
    by_message (Done from b ok content) e = served x inv r (Deliver key) key b (directory_row here.setting.count (Done from b ok content) (here.entries b) (here.memory b))
    by_message (Grant to b granted) e = arrives to (Grant to b granted) (fades to (Grant to b granted) tt)
    by_message (Forward to b Read requester stamp) e = arrives to (Forward to b Read requester stamp) (fades to (Forward to b Read requester stamp) tt)
    by_message (Forward to b Write requester stamp) e = arrives to (Forward to b Write requester stamp) (fades to (Forward to b Write requester stamp) (requester, stamp, e))
    by_message (PutAck to b) e = arrives to (PutAck to b) (fades to (PutAck to b) tt)
    by_message (Ack from to b content) e = arrives to (Ack from to b content) (fades to (Ack from to b content) tt)
    by_message (Nack from to b stamp) e = arrives to (Nack from to b stamp) (fades to (Nack from to b stamp) tt)

    delivered : (m : Option Message) → here.net key ≡ m → Goes here x.history r (Deliver key) (delivery key m here)
    delivered None e = still x inv r (Deliver key)
    delivered (Some m) e = by_message m e

  pub changed : (victim : ℕ → Option ℕ) (s : Step) → Goes here x.history r s (change_of victim s here)
  changed victim (Core i) = if_is x inv r (Core i) i (hart_change_if i (core_row here.setting i here.stamps victim (here.harts i)) here)
      (λ o. by_row x inv r (Core i) i o (core_row here.setting i here.stamps victim (here.harts i))
      (core_fades (MayTakeLine here (Core i) i) here.setting i (x.history.past i).depth (here.harts i) (r i) here.stamps
      (λ t e. let w = in_past here.setting (here.harts i) (x.flat.hart i) (x.history.past i) t (inv.harts i) e in (w.depth, w.inside))
      (λ e. (past_outside here.setting (here.harts i) (x.flat.hart i) (x.history.past i) (inv.harts i) e).0) (λ b. refl) victim))
  changed victim (Evict i b) = if_is x inv r (Evict i b) i (hart_change_if i (evict_row i b (here.harts i)) here)
      (λ o. by_row x inv r (Evict i b) i o (evict_row i b (here.harts i)) (evict_fades (MayTakeLine here (Evict i b) i) here.setting i (x.history.past i).depth (here.harts i) (r i) b (refl, refl)))
  changed victim (Deliver key) = delivered key (here.net key) refl

-- Runs

none_more : (i : ℕ) (es fs : List Entry) → NoneReserves i es → NoneReserves i fs → NoneReserves i (es ++ fs)
none_more i [] fs a b = b
none_more i (e ∷ es) fs a b = (a.0, none_more i es fs a.1 b)

module _ (g : Geometry) (s : Setting) (entry : ℕ) (bytes : AreBytes s.segments) where
  abbrev first : Machine
  first = start s entry

  -- what each hart has reserved by the entries it has reserved, or its line was lost
  abbrev IsKnown : List Step → List Entry → Machine → Type 0
  IsKnown steps es w = (i b : ℕ) → i < w.setting.count → reservations_of es i ≡ Some b → ((w.harts i).reserved ≡ Some b) ⊎ LostReserved g first steps es w i b

  one_step : (v w : Machine) (st : Step) (e : Option Entry) → Steps g v st e w → Runs g v (st ∷ []) (option_to_list e) w
  one_step v w st e step = (w, e, [], step, (refl, refl), sym (append-nil (option_to_list e)))

  lost_more : (steps : List Step) (es : List Entry) (v w : Machine) (st : Step) (e : Option Entry) (i b : ℕ) → Steps g v st e w → NotBy i e → LostReserved g first steps es v i b → LostReserved g first (steps ++ st ∷ []) (es ++ option_to_list e) w i b
  lost_more steps es v w st e i b step apart l = record {
    earlier = l.earlier;
    step = l.step;
    later = l.later ++ st ∷ [];
    before = l.before;
    entry = l.entry;
    after = l.after ++ option_to_list e;
    from = l.from;
    to = l.to;
    all_steps = ap (λ z. z ++ st ∷ []) l.all_steps ∙ append_assoc l.earlier (l.step ∷ l.later) (st ∷ []);
    all_entries = ap (λ z. z ++ option_to_list e) l.all_entries ∙ append_assoc (l.before ++ option_to_list l.entry) l.after (option_to_list e);
    led = l.led;
    stepped = l.stepped;
    leads = runs_then g l.to v w l.later (st ∷ []) l.after (option_to_list e) l.leads (one_step v w st e step);
    reserved = l.reserved;
    lost = l.lost;
    none_since = none_more i l.after (option_to_list e) l.none_since apart;
  }

  lost_now : (steps : List Step) (es : List Entry) (v w : Machine) (st : Step) (e : Option Entry) (i b : ℕ) → Runs g first steps es v → Steps g v st e w → reservations_of es i ≡ Some b → TakesLine v st w i b
      → LostReserved g first (steps ++ st ∷ []) (es ++ option_to_list e) w i b
  lost_now steps es v w st e i b run step reserved lost = record {
    earlier = steps;
    step = st;
    later = [];
    before = es;
    entry = e;
    after = [];
    from = v;
    to = w;
    all_steps = refl;
    all_entries = sym (append-nil (es ++ option_to_list e));
    led = run;
    stepped = step;
    leads = (refl, refl);
    reserved = reserved;
    lost = lost;
    none_since = tt;
  }

  -- one step more
  module _ (steps : List Step) (es : List Entry) (v : Machine) (run : Runs g first steps es v) (st : Step) (e : Option Entry) (w : Machine) (step : Steps g v st e w) where
    went : Goes v (history_of no_history es) (reservations_of es) st (change_of step.0 st v)
    went =
        let f = belongs_after g s entry steps es v bytes run in
        let k = inv_after g s entry steps es f.0 v bytes run f.1 in
        changed (world v f.0 es k.0) k.1 (reservations_of es) step.0 st

    stays_then : (i b : ℕ) → i < v.setting.count → reservations_of (es ++ option_to_list e) i ≡ Some b → Stays v st w (reservations_of es) e i b
    stays_then i b o k =
        subst (λ (m : Machine). Stays v st m (reservations_of es) e i b) (sym step.2.3)
        (subst (λ z. Stays v st (change_of step.0 st v).machine (reservations_of es) z i b) (sym step.2.0)
        (went.stays i b o (subst (λ z. reserved_some (history_of no_history es) z (reservations_of es) i ≡ Some b) step.2.0 (ap (λ (r : Reservations). r i) (sym (more_told no_history no_reservations es e)) ∙ k))))

    pub fails_then : FailsIn v e
    fails_then = subst (FailsIn v) (sym step.2.0) went.fails

    next_known : v.setting ≡ w.setting → IsKnown steps es v → IsKnown (steps ++ st ∷ []) (es ++ option_to_list e) w
    next_known same known i b o k = by (stays_then i b within k)
      where
        within : i < v.setting.count
        within = subst (λ (z : Setting). i < z.count) (sym same) o

        by : Stays v st w (reservations_of es) e i b → ((w.harts i).reserved ≡ Some b) ⊎ LostReserved g first (steps ++ st ∷ []) (es ++ option_to_list e) w i b
        by (inl now) = inl now
        by (inr was) = elim (known i b within was.0) [
          | inr lost ↦ inr (lost_more steps es v w st e i b step was.1 lost)
          | inl held ↦ elim (was.2 held) [
            | inl now ↦ inl now
            | inr gone ↦ inr (lost_now steps es v w st e i b run step was.0 (record { why = gone.1; had = (all_hold g s entry bytes steps es v run i within b held).1; gone = gone.0 }))
          ]
        ]

  -- all steps
  later : (steps : List Step) (past : List Entry) (v w : Machine) (ss : List Step) (es : List Entry) → Runs g first steps past v → IsKnown steps past v → Runs g v ss es w → IsKnown (steps ++ ss) (past ++ es) w
  later steps past v w [] es run known k =
      subst (λ z. IsKnown z (past ++ es) w) (sym (append-nil steps))
      (subst (λ z. IsKnown steps (past ++ z) w) (sym k.0) (subst (λ z. IsKnown steps z w) (sym (append-nil past)) (subst (λ m. IsKnown steps past m) (sym k.1) known)))
  later steps past v w (st ∷ ss) es run known k =
      let n = next_known steps past v run st k.1 k.0 k.3 (sym (setting_stays g v k.0 st k.1 k.3)) known in
      let there = runs_then g first v k.0 steps (st ∷ []) past (option_to_list k.1) run (one_step v k.0 st k.1 k.3) in
      let l = later (steps ++ st ∷ []) (past ++ option_to_list k.1) k.0 w ss k.2 there n k.4 in
      subst (λ z. IsKnown z (past ++ es) w) (append_assoc steps (st ∷ []) ss)
      (subst (λ z. IsKnown ((steps ++ st ∷ []) ++ ss) z w) (append_assoc past (option_to_list k.1) k.2 ∙ ap (λ z. past ++ z) (sym k.5)) l)

  none_known : IsKnown [] [] first
  none_known i b o e = absurd (cc)

  all_known : (steps : List Step) (es : List Entry) (w : Machine) → Runs g first steps es w → IsKnown steps es w
  all_known steps es w run = later [] [] first w steps es (refl, refl) none_known run

  -- a block is reserved by the entries, or not
  decided : (o : Option ℕ) (b : ℕ) → (o ≡ Some b) ⊎ (o ≢ Some b)
  decided None b = inr (λ e. absurd (cc))
  decided (Some c) b = by (c == b) refl
    where
      by : (z : Bool) → (c == b) ≡ z → (Some c ≡ Some b) ⊎ (Some c ≢ Some b)
      by true e = inl (ap (λ z. Some z) (one_number c b e))
      by false e = inr (λ k. two_numbers c b e (same_Some c b k))

  -- a conditional store that the next step fails has its reason
  pub failure_after : (steps : List Step) (es : List Entry) (f : Flat) (v w : Machine) (st : Step) (i pc word : ℕ) (write : Option (ℕ × ℕ)) (load : Option Access) (b : ℕ)
      → Runs g first steps es v → IsRun (first_state s entry) es f → Steps g v st (Some (Retire i pc word write load None)) w → IsOkAnd (next_of f.setting (f.hart i)) (λ e. StoresIfReserved b e.act)
      → FailureHasReason g first steps es v i b
  failure_after steps es f v w st i pc word write load b run flat step wants = by (decided (reservations_of es i) b)
    where
      fails : (i < v.setting.count) × FailsWell (next_of v.setting (flat_hart (v.harts i))) (v.harts i)
      fails = fails_then steps es v run st (Some (Retire i pc word write load None)) w step

      inv : Inv (world v f es (inv_after g s entry steps es f v bytes run flat).0)
      inv = (inv_after g s entry steps es f v bytes run flat).1

      wants_here : IsOkAnd (next_of v.setting (flat_hart (v.harts i))) (λ e. StoresIfReserved b e.act)
      wants_here = subst (λ z. IsOkAnd z (λ e. StoresIfReserved b e.act)) (ap (λ (z : Setting). next_of z (f.hart i)) inv.same ∙ next_is v.setting (v.harts i) (f.hart i) ((history_of no_history es).past i) (inv.harts i)) wants

      by : ((reservations_of es i ≡ Some b) ⊎ (reservations_of es i ≢ Some b)) → FailureHasReason g first steps es v i b
      by (inr apart) = inl apart
      by (inl reserved) = elim (all_known steps es v run i b fails.0 reserved) [ inl held ↦ absurd (fails.1 b wants_here held) | inr lost ↦ inr lost ]

  -- and so has each among the entries of a run
  pub failure_among : (steps : List Step) (before after : List Entry) (f : Flat) (w : Machine) (i pc word : ℕ) (write : Option (ℕ × ℕ)) (load : Option Access) (b : ℕ)
      → Runs g first steps (before ++ Retire i pc word write load None ∷ after) w → IsRun (first_state s entry) before f → IsOkAnd (next_of f.setting (f.hart i)) (λ e. StoresIfReserved b e.act)
      → (earlier : List Step) × (later : List Step) × (v : Machine) × (steps ≡ earlier ++ later) × Runs g first earlier before v × FailureHasReason g first earlier before v i b
  failure_among steps before after f w i pc word write load b run flat wants =
      let k = runs_at g first w steps before (Retire i pc word write load None) after run in
      (k.0, k.1 ∷ k.2, k.3, k.5, k.6, failure_after k.0 before f k.3 k.4 k.1 i pc word write load b k.6 flat k.7 wants)
