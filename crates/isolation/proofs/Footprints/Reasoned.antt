-- Each hart's marks and records are of its footprint after each step; and each Spill and each abort for a full log has its reason.
use Rattle.std.proofs.Common.{append-nil, append_assoc, ◌≡◌, ◌≢◌, ◌<◌, ◌++◌, ◌∙◌, ◌==◌, ℕ, Bool, true, false, List, [], ◌∷◌, Option, None, Some, Result, cond, nat_lt, refl, sym, ap, subst, inl, inr, arith}
use Rattle.std.specs.Prelude.{option_to_list, IsSome, IsOkAnd}
use Rattle.std.proofs.lemmas.Bool.{ltb-true}
use Rattle.words.specs.declared.cause.AbortCause.{AbortCause}
use Rattle.words.specs.declared.cause.AbortCause.TheVariants.{Asked, Conflict, LogFull, Trapped}
use Rattle.words.specs.declared.cause.Cause.{Cause}
use Rattle.words.specs.declared.entry.Entry.{Entry}
use Rattle.words.specs.declared.entry.Entry.TheVariants.{Retire, Abort, Trap, Refuse, Spill}
use Rattle.words.specs.declared.entry.Step.{Step}
use Rattle.words.specs.declared.entry.Step.TheVariants.{Core, Evict, Deliver}
use Rattle.table.specs.declared.effect.Effect.{Effect}
use Rattle.table.specs.Program.{AreBytes}
use Rattle.flat.specs.State.{Setting, Flat}
use Rattle.flat.specs.Start.{first_state}
use Rattle.flat.specs.Causes.{next_of}
use Rattle.flat.specs.Steps.{IsRun}
use Rattle.flat.specs.Bytes.{put_at}
use Rattle.flat.specs.Reasons.{History, no_history, told, history_of}
use Rattle.flat.specs.Reservations.{depths_told}
use Rattle.flat.proofs.Maps.{one_number, two_numbers, put_there, put_elsewhere}
use Rattle.protocol.specs.Messages.{Message, block_of as block_about, receiver_of}
use Rattle.protocol.specs.Hart.{Hart, Transaction, HartResult, flat_hart}
use Rattle.protocol.specs.Lines.{Line}
use Rattle.protocol.specs.Caches.{Geometry}
use Rattle.protocol.specs.Core.{core_row}
use Rattle.protocol.specs.Evict.{evict_row}
use Rattle.protocol.specs.HartMessages.{message_row}
use Rattle.protocol.specs.Directory.{Served, directory_row}
use Rattle.protocol.specs.Network.{taken}
use Rattle.protocol.specs.Machine.{Machine, Change, no_change, if_hart, hart_change, hart_change_if, served_change, arrival, delivery, change_of, Steps, Runs}
use Rattle.protocol.specs.Start.{start}
use Rattle.protocol.proofs.Splits.{runs_then, runs_at}
use Rattle.isolation.specs.Footprints.{Footprints, no_footprints, with_retired, with_spill, footprints_after, footprints_from, footprints_of}
use Rattle.isolation.specs.Reasons.{Accesses, NeedsRecord, SpillHasReason, FullLogHasReason}
use Rattle.isolation.proofs.OneBlock.Invariant.Each.{has_x}
use Rattle.isolation.proofs.OneBlock.Rows.ValueStays.{line_is}
use Rattle.isolation.proofs.Machine.World.{World, project, copy_of}
use Rattle.isolation.proofs.Machine.Invariant.{Inv}
use Rattle.isolation.proofs.Machine.Transactions.{in_past, past_outside}
use Rattle.isolation.proofs.Words.NextWord.{next_is}
use Rattle.isolation.proofs.Belongs.Belonging.{world, inv_after, belongs_after}
use Rattle.isolation.proofs.Footprints.Holding.{marks_of, MayEnd, MaySpill, HoldsOf, TellsWell, own_after, Keeps}
use Rattle.isolation.proofs.Footprints.CoreRows.{core_keeps, evict_keeps, message_keeps}

-- what is said of each hart
abbrev pub AllHold : Machine → Footprints → Type 0
AllHold w p = (i : ℕ) → i < w.setting.count → HoldsOf w.setting (w.harts i) (p i)

abbrev pub footprints_some : History → Option Entry → Footprints → Footprints
footprints_some h None p = p
footprints_some h (Some e) p = footprints_after (depths_told h) e p

-- a spill has its reason, and so has an abort for a full log
abbrev pub AbortHasReason : Flat → Footprints → ℕ → AbortCause → Type 0
AbortHasReason f p i Asked = Unit {0}
AbortHasReason f p i Conflict = Unit {0}
AbortHasReason f p i LogFull = FullLogHasReason f p i
AbortHasReason f p i (Trapped c q) = Unit {0}

abbrev pub ReasonIn : Flat → History → Footprints → Option Entry → Type 0
ReasonIn f h p None = Unit {0}
ReasonIn f h p (Some (Retire i pc w x load store)) = Unit {0}
ReasonIn f h p (Some (Abort i c)) = AbortHasReason f p i c
ReasonIn f h p (Some (Trap i c q)) = Unit {0}
ReasonIn f h p (Some (Refuse j i b)) = Unit {0}
ReasonIn f h p (Some (Spill i b)) = SpillHasReason f h p i b

-- The footprints after an entry of hart i

own_is : (h : History) (p : Footprints) (i : ℕ) (next : Result Effect Cause) (hart : Hart) (e : Option Entry) → TellsWell next i hart (p i) e → footprints_some h e p i ≡ own_after (h.past i).depth e (p i)
own_is h p i next hart None t = refl
own_is h p i next hart (Some (Retire k pc w x load store)) t =
    subst (λ n. put_at n (with_retired (h.past n).depth load store (p n)) p i ≡ with_retired (h.past i).depth load store (p i)) (sym t) (put_there i (with_retired (h.past i).depth load store (p i)) p)
own_is h p i next hart (Some (Spill k b)) t = subst (λ n. put_at n (with_spill b (p n)) p i ≡ with_spill b (p i)) (sym t.0) (put_there i (with_spill b (p i)) p)
own_is h p i next hart (Some (Abort k c)) t = refl
own_is h p i next hart (Some (Trap k c q)) t = refl
own_is h p i next hart (Some (Refuse k j b)) t = refl

other_is : (h : History) (p : Footprints) (i j : ℕ) (next : Result Effect Cause) (hart : Hart) (e : Option Entry) → j ≢ i → TellsWell next i hart (p i) e → footprints_some h e p j ≡ p j
other_is h p i j next hart None ne t = refl
other_is h p i j next hart (Some (Retire k pc w x load store)) ne t = put_elsewhere k j (with_retired (h.past k).depth load store (p k)) p (λ z. ne (z ∙ t))
other_is h p i j next hart (Some (Spill k b)) ne t = put_elsewhere k j (with_spill b (p k)) p (λ z. ne (z ∙ t.0))
other_is h p i j next hart (Some (Abort k c)) ne t = refl
other_is h p i j next hart (Some (Trap k c q)) ne t = refl
other_is h p i j next hart (Some (Refuse k m b)) ne t = refl

overflowed_copy : (o : Option Line) → (marks_of o).overflowed ≡ true → has_x (copy_of o) ≡ true
overflowed_copy None e = e
overflowed_copy (Some l) e = e

-- Reasons

module _ (x : World) (inv : Inv x) (p : Footprints) (i : ℕ) (o : i < x.machine.setting.count) where
  abbrev hart : Hart
  hart = x.machine.harts i

  abbrev next : Result Effect Cause
  next = next_of x.machine.setting (flat_hart hart)

  -- a line marked as overflowed comes after a Spill
  has_spilled : (b : ℕ) → (marks_of (hart.lines b)).overflowed ≡ true → (x.history.past i).has_spilled ≡ true
  has_spilled b e =
      let k = (inv.blocks b).inv.each i o in
      k.sound.spill (k.cover.x_mark (ap has_x (sym (line_is ((project b x).hart i) ((inv.blocks b).ghost i) k.is)) ∙ overflowed_copy (hart.lines b) e))

  -- the flat hart's word is the hart's
  next_flat : (P : Result Effect Cause → Type 0) → P next → P (next_of x.flat.setting (x.flat.hart i))
  next_flat P k = subst (λ (s : Setting). P (next_of s (x.flat.hart i))) (sym inv.same) (subst P (sym (next_is x.machine.setting hart (x.flat.hart i) (x.history.past i) (inv.harts i))) k)

  deep_in : (t : Option Transaction) → hart.tx ≡ t → IsSome t → 0 < (x.history.past i).depth
  deep_in None e some = absurd (cc)
  deep_in (Some t) e some = let d = in_past x.machine.setting hart (x.flat.hart i) (x.history.past i) t (inv.harts i) e in let depth = d.depth in let inside = d.inside in omega (arith, depth, inside)

  spill_reason : (b : ℕ) → MaySpill next hart (p i) b → SpillHasReason x.flat x.history p i b
  spill_reason b may = record {
    hart = subst (λ (s : Setting). i < s.count) (sym inv.same) o;
    inside = deep_in hart.tx refl may.0;
    marked = elim may.1 [ inl u ↦ inl u | inr w ↦ inr (has_spilled b w.0, next_flat (λ r. IsOkAnd r (λ e. Accesses b e.act)) w.1) ];
  }

  abort_reason : (c : AbortCause) → MayEnd next (p i) c → AbortHasReason x.flat p i c
  abort_reason Asked may = tt
  abort_reason Conflict may = tt
  abort_reason LogFull may = record { full = may.0; more = next_flat (λ r. IsOkAnd r (λ e. NeedsRecord (p i) e.act)) may.1 }
  abort_reason (Trapped c q) may = tt

  reason_is : (e : Option Entry) → TellsWell next i hart (p i) e → ReasonIn x.flat x.history p e
  reason_is None t = tt
  reason_is (Some (Retire k pc w y load store)) t = tt
  reason_is (Some (Spill k b)) t = subst (λ n. SpillHasReason x.flat x.history p n b) (sym t.0) (spill_reason b t.1)
  reason_is (Some (Abort k c)) t = subst (λ n. AbortHasReason x.flat p n c) (sym t.0) (abort_reason c t.1)
  reason_is (Some (Trap k c q)) t = tt
  reason_is (Some (Refuse k j b)) t = tt

-- a change after which it is so again
record Goes (f : Flat) (h : History) (p : Footprints) (c : Change) : Type 0 where
  holds : AllHold c.machine (footprints_some h c.entry p)
  reason : ReasonIn f h p c.entry

module _ (x : World) (inv : Inv x) (p : Footprints) (holds : AllHold x.machine p) where
  abbrev v : Machine
  v = x.machine

  abbrev Leads : Change → Type 0
  Leads c = Goes x.flat x.history p c

  still : Leads (no_change v)
  still = record { holds = holds; reason = tt }

  rowed : (i : ℕ) (o : i < v.setting.count) (t : HartResult) → Keeps v.setting i (x.history.past i).depth (v.harts i) (p i) t → (w : Machine) → w.harts ≡ v.harts → w.setting ≡ v.setting → Leads (hart_change i t w)
  rowed i o t k w same setting = record {
    holds = λ j q. subst (λ (s : Setting). HoldsOf s (put_at i t.hart w.harts j) (footprints_some x.history t.entry p j)) (sym setting) (at j (subst (λ (s : Setting). j < s.count) setting q) (j == i) refl);
    reason = reason_is x inv p i o t.entry k.tells;
  }
    where
      at : (j : ℕ) → j < v.setting.count → (z : Bool) → (j == i) ≡ z → HoldsOf v.setting (cond z t.hart (w.harts j)) (footprints_some x.history t.entry p j)
      at j q true e = subst (λ n. HoldsOf v.setting t.hart (footprints_some x.history t.entry p n)) (sym (one_number j i e))
          (subst (HoldsOf v.setting t.hart) (sym (own_is x.history p i _ (v.harts i) t.entry k.tells)) k.own)
      at j q false e = subst (λ (z : ℕ → Hart). HoldsOf v.setting (z j) (footprints_some x.history t.entry p j)) (sym same)
          (subst (HoldsOf v.setting (v.harts j)) (sym (other_is x.history p i j _ (v.harts i) t.entry (two_numbers j i e) k.tells)) (holds j q))

  if_is : (i : ℕ) (c : Change) → (i < v.setting.count → Leads c) → Leads (if_hart i v c)
  if_is i c k = by (nat_lt i v.setting.count) refl
    where
      by : (z : Bool) → nat_lt i v.setting.count ≡ z → Leads (cond z c (no_change v))
      by true e = k (ltb-true i v.setting.count e)
      by false e = still

  by_row : (i : ℕ) (q : Option HartResult) → i < v.setting.count → ((t : HartResult) → q ≡ Some t → Keeps v.setting i (x.history.past i).depth (v.harts i) (p i) t) → Leads (hart_change_if i q v)
  by_row i None o k = still
  by_row i (Some t) o k = rowed i o t (k t refl) v refl refl

  served : (key b : ℕ) (q : Option Served) → Leads (served_change key b q v)
  served key b None = still
  served key b (Some s) = record { holds = holds; reason = tt }

  arrived : (key : ℕ) (m : Message) (to : Option ℕ) → Leads (arrival key m to v)
  arrived key m None = served key (block_about m) (directory_row v.setting.count m (v.entries (block_about m)) (v.memory (block_about m)))
  arrived key m (Some i) = if_is i (hart_change i (message_row v.setting.count i m (v.harts i)) (record v { net = taken key v.net }))
      (λ o. rowed i o (message_row v.setting.count i m (v.harts i)) (message_keeps v.setting i (x.history.past i).depth (v.harts i) (p i) (holds i o) v.setting.count m) (record v { net = taken key v.net }) refl refl)

  delivered : (key : ℕ) (m : Option Message) → Leads (delivery key m v)
  delivered key None = still
  delivered key (Some m) = arrived key m (receiver_of m)

  changed : (victim : ℕ → Option ℕ) (s : Step) → Leads (change_of victim s v)
  changed victim (Core i) = if_is i (hart_change_if i (core_row v.setting i v.stamps victim (v.harts i)) v)
      (λ o. by_row i (core_row v.setting i v.stamps victim (v.harts i)) o
      (core_keeps v.setting i (x.history.past i).depth (v.harts i) (p i) (holds i o)
      (λ t e. let w = in_past v.setting (v.harts i) (x.flat.hart i) (x.history.past i) t (inv.harts i) e in (w.depth, w.inside))
      (λ e. (past_outside v.setting (v.harts i) (x.flat.hart i) (x.history.past i) (inv.harts i) e).0) v.stamps victim))
  changed victim (Evict i b) = if_is i (hart_change_if i (evict_row i b (v.harts i)) v)
      (λ o. by_row i (evict_row i b (v.harts i)) o (evict_keeps v.setting i (x.history.past i).depth (v.harts i) (p i) (holds i o) b))
  changed victim (Deliver key) = delivered key (v.net key)

-- Runs

more_told : (h : History) (p : Footprints) (es : List Entry) (e : Option Entry) → footprints_from h p (es ++ option_to_list e) ≡ footprints_some (history_of h es) e (footprints_from h p es)
more_told h p [] None = refl
more_told h p [] (Some e) = refl
more_told h p (d ∷ es) e = more_told (told h d) (footprints_after (depths_told h) d p) es e

module _ (g : Geometry) (s : Setting) (entry : ℕ) (bytes : AreBytes s.segments) where
  -- one step more
  next_one : (steps : List Step) (past : List Entry) (f : Flat) (v : Machine) → Runs g (start s entry) steps past v → IsRun (first_state s entry) past f → AllHold v (footprints_of past) → (st : Step) (e : Option Entry) (w : Machine) → Steps g v st e w
      → AllHold w (footprints_of (past ++ option_to_list e)) × ReasonIn f (history_of no_history past) (footprints_of past) e
  next_one steps past f v run flat holds st e w step =
      let k = inv_after g s entry steps past f v bytes run flat in
      let c = changed (world v f past k.0) k.1 (footprints_of past) holds step.0 st in (
        subst (AllHold w) (sym (more_told no_history no_footprints past e))
            (subst (λ o. AllHold w (footprints_some (history_of no_history past) o (footprints_of past))) (sym step.2.0)
            (subst (λ m. AllHold m (footprints_some (history_of no_history past) (change_of step.0 st v).entry (footprints_of past))) (sym step.2.3) c.holds)),
        subst (ReasonIn f (history_of no_history past) (footprints_of past)) (sym step.2.0) c.reason,
      )

  first_holds : AllHold (start s entry) no_footprints
  first_holds i o b = refl

  -- all steps
  later : (steps : List Step) (past : List Entry) (v w : Machine) (ss : List Step) (es : List Entry) → Runs g (start s entry) steps past v → AllHold v (footprints_of past) → Runs g v ss es w → AllHold w (footprints_of (past ++ es))
  later steps past v w [] es run holds k =
      subst (λ z. AllHold w (footprints_of (past ++ z))) (sym k.0) (subst (λ z. AllHold w (footprints_of z)) (sym (append-nil past)) (subst (λ m. AllHold m (footprints_of past)) (sym k.1) holds))
  later steps past v w (st ∷ ss) es run holds k =
      let f = belongs_after g s entry steps past v bytes run in
      let n = next_one steps past f.0 v run f.1 holds st k.1 k.0 k.3 in
      let one : Runs g v (st ∷ []) (option_to_list k.1) k.0 = (k.0, k.1, [], k.3, (refl, refl), sym (append-nil (option_to_list k.1))) in
      let there = runs_then g (start s entry) v k.0 steps (st ∷ []) past (option_to_list k.1) run one in
      let l = later (steps ++ st ∷ []) (past ++ option_to_list k.1) k.0 w ss k.2 there n.0 k.4 in
      subst (λ z. AllHold w (footprints_of z)) (append_assoc past (option_to_list k.1) k.2 ∙ ap (λ z. past ++ z) (sym k.5)) l

  all_hold : (steps : List Step) (es : List Entry) (w : Machine) → Runs g (start s entry) steps es w → AllHold w (footprints_of es)
  all_hold steps es w run = later [] [] (start s entry) w steps es (refl, refl) first_holds run

  -- the reason of what the next step gives
  reason_after : (steps : List Step) (es : List Entry) (f : Flat) (v w : Machine) (st : Step) (e : Entry) → Runs g (start s entry) steps es v → IsRun (first_state s entry) es f → Steps g v st (Some e) w
      → ReasonIn f (history_of no_history es) (footprints_of es) (Some e)
  reason_after steps es f v w st e run flat step = (next_one steps es f v run flat (all_hold steps es v run) st (Some e) w step).1

  pub spill_after : (steps : List Step) (es : List Entry) (f : Flat) (v w : Machine) (st : Step) (i b : ℕ) → Runs g (start s entry) steps es v → IsRun (first_state s entry) es f → Steps g v st (Some (Spill i b)) w
      → SpillHasReason f (history_of no_history es) (footprints_of es) i b
  spill_after steps es f v w st i b run flat step = reason_after steps es f v w st (Spill i b) run flat step

  pub full_log_after : (steps : List Step) (es : List Entry) (f : Flat) (v w : Machine) (st : Step) (i : ℕ) → Runs g (start s entry) steps es v → IsRun (first_state s entry) es f → Steps g v st (Some (Abort i LogFull)) w
      → FullLogHasReason f (footprints_of es) i
  full_log_after steps es f v w st i run flat step = reason_after steps es f v w st (Abort i LogFull) run flat step

  -- and of each among the entries of a run
  pub spill_among : (steps : List Step) (before after : List Entry) (f : Flat) (w : Machine) (i b : ℕ) → Runs g (start s entry) steps (before ++ Spill i b ∷ after) w → IsRun (first_state s entry) before f
      → SpillHasReason f (history_of no_history before) (footprints_of before) i b
  spill_among steps before after f w i b run flat =
      let k = runs_at g (start s entry) w steps before (Spill i b) after run in
      spill_after k.0 before f k.3 k.4 k.1 i b k.6 flat k.7

  pub full_log_among : (steps : List Step) (before after : List Entry) (f : Flat) (w : Machine) (i : ℕ) → Runs g (start s entry) steps (before ++ Abort i LogFull ∷ after) w → IsRun (first_state s entry) before f
      → FullLogHasReason f (footprints_of before) i
  full_log_among steps before after f w i run flat =
      let k = runs_at g (start s entry) w steps before (Abort i LogFull) after run in
      full_log_after k.0 before f k.3 k.4 k.1 i k.6 flat k.7
