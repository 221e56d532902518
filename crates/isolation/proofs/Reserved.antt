-- Each hart's reservation is one that the entries know of, after each step; and each conditional store that succeeds has its reason.
use Rattle.std.proofs.Common.{append-nil, append_assoc, ◌≡◌, ◌≢◌, ◌<◌, ◌++◌, ◌∙◌, ◌==◌, ℕ, Bool, true, false, List, [], ◌∷◌, Option, None, Some, cond, nat_lt, refl, sym, ap, subst, arith}
use Rattle.std.specs.Prelude.{option_to_list, IsSome}
use Rattle.std.proofs.lemmas.Bool.{ltb-true}
use Rattle.std.proofs.lemmas.Bool.Decides.{nat_tests}
use Rattle.words.specs.declared.entry.Access.{Access}
use Rattle.words.specs.declared.entry.Entry.{Entry}
use Rattle.words.specs.declared.entry.Entry.TheVariants.{Retire, Abort, Trap, Refuse, Spill}
use Rattle.words.specs.declared.entry.Step.{Step}
use Rattle.words.specs.declared.entry.Step.TheVariants.{Core, Evict, Deliver}
use Rattle.table.specs.Program.{AreBytes}
use Rattle.table.specs.Table.{decoded}
use Rattle.flat.specs.State.{Setting}
use Rattle.flat.specs.Bytes.{put_at}
use Rattle.flat.specs.Reasons.{History, no_history, told, history_of}
use Rattle.flat.specs.Reservation.{without_block}
use Rattle.flat.specs.Reservations.{Reservations, no_reservations, block_of, reserved_by, reserved_beside, reserved_after, depths_told, reservations_from, reservations_of, StoreHasReason}
use Rattle.flat.proofs.Maps.{one_number, two_numbers, put_there, put_elsewhere}
use Rattle.protocol.specs.Messages.{Message, block_of as block_about, receiver_of}
use Rattle.protocol.specs.Hart.{Hart, HartResult}
use Rattle.protocol.specs.Lines.{Line}
use Rattle.protocol.specs.Caches.{Geometry}
use Rattle.protocol.specs.Core.{core_row}
use Rattle.protocol.specs.Evict.{evict_row}
use Rattle.protocol.specs.HartMessages.{message_row}
use Rattle.protocol.specs.Directory.{Served, directory_row}
use Rattle.protocol.specs.Network.{taken}
use Rattle.protocol.specs.Machine.{Machine, Change, no_change, if_hart, hart_change, hart_change_if, served_change, arrival, delivery, change_of, Steps, Runs}
use Rattle.protocol.specs.Start.{start}
use Rattle.protocol.proofs.Splits.{runs_then, runs_at}
use Rattle.isolation.specs.Facts.{LinesAgree}
use Rattle.isolation.proofs.Machine.World.{World}
use Rattle.isolation.proofs.Machine.Invariant.{Inv}
use Rattle.isolation.proofs.Machine.Transactions.{in_past, past_outside}
use Rattle.isolation.proofs.Consequences.Owners.{owner_is}
use Rattle.isolation.proofs.Consequences.ValueInPlace.{in_place_is}
use Rattle.isolation.proofs.Consequences.LineLaws.{lines_agree}
use Rattle.isolation.proofs.Belongs.Belonging.{world, inv_after, belongs_after}
use Rattle.isolation.proofs.Rooms.StepsExist.{keys_of}
use Rattle.isolation.proofs.Reserving.{own_after, Holds, StoresWell, TellsWell, Keeps, core_keeps, evict_keeps, message_keeps}

-- each hart's reservation is known, and its block has a line
abbrev pub AllHold : Machine → Reservations → Type 0
AllHold w r = (i : ℕ) → i < w.setting.count → Holds (w.harts i).reserved (w.harts i).lines (r i)

abbrev pub reserved_some : History → Option Entry → Reservations → Reservations
reserved_some h None r = r
reserved_some h (Some e) r = reserved_after (depths_told h) e r

-- a conditional store that succeeds has its reason
abbrev pub ReasonIn : Reservations → Option Entry → Type 0
ReasonIn r None = Unit {0}
ReasonIn r (Some (Retire i pc w x l s)) = StoreHasReason r i w s
ReasonIn r (Some (Abort i c)) = Unit {0}
ReasonIn r (Some (Trap i c p)) = Unit {0}
ReasonIn r (Some (Refuse j i b)) = Unit {0}
ReasonIn r (Some (Spill i b)) = Unit {0}

itself : {A : Type 0} (i : ℕ) (x y : A) → cond (i == i) x y ≡ x
itself i x y = let e : (i == i) ≡ true = grind (arith, nat_tests) in ap (λ z. cond z x y) e

apart : {A : Type 0} (j i : ℕ) (x y : A) → j ≢ i → cond (j == i) x y ≡ y
apart j i x y ne = let e : (j == i) ≡ false = grind (arith, nat_tests) in ap (λ z. cond z x y) e

-- a reservation of another block stays
kept_apart : (b c : ℕ) (r : Option ℕ) → r ≡ Some c → c ≢ b → without_block b r ≡ Some c
kept_apart b c None e ne = absurd (cc)
kept_apart b c (Some d) e ne = by (d == b) refl
  where
    by : (z : Bool) → (d == b) ≡ z → cond z None (Some d) ≡ Some c
    by true k = let same : d ≡ c = cc in absurd (ne (sym same ∙ one_number d b k))
    by false k = e

-- of its own entry
own_is : (h : History) (r : Reservations) (i : ℕ) (hart : Hart) (e : Option Entry) → TellsWell i hart (r i) e → reserved_some h e r i ≡ own_after (h.past i).depth e (r i)
own_is h r i hart None t = refl
own_is h r i hart (Some (Retire k pc w x l s)) t =
    subst (λ n. cond (i == n) (reserved_by (decoded w) (h.past n).depth l (r n)) (reserved_beside s (r i)) ≡ reserved_by (decoded w) (h.past i).depth l (r i)) (sym t.0)
    (itself i (reserved_by (decoded w) (h.past i).depth l (r i)) (reserved_beside s (r i)))
own_is h r i hart (Some (Abort k c)) t = subst (λ n. put_at n None r i ≡ None) (sym t) (put_there i None r)
own_is h r i hart (Some (Trap k c p)) t = subst (λ n. put_at n None r i ≡ None) (sym t) (put_there i None r)
own_is h r i hart (Some (Refuse k j b)) t = refl
own_is h r i hart (Some (Spill k b)) t = refl

reason_is : (r : Reservations) (i : ℕ) (hart : Hart) (e : Option Entry) → TellsWell i hart (r i) e → ReasonIn r e
reason_is r i hart None t = tt
reason_is r i hart (Some (Retire k pc w x l None)) t = tt
reason_is r i hart (Some (Retire k pc w x l (Some s))) t = λ c. ap r t.0 ∙ t.1.1 c
reason_is r i hart (Some (Abort k c)) t = tt
reason_is r i hart (Some (Trap k c p)) t = tt
reason_is r i hart (Some (Refuse k j b)) t = tt
reason_is r i hart (Some (Spill k b)) t = tt

-- before another's entry a hart had reserved a block, and it still has
module _ (h : History) (r : Reservations) (v : Machine) (keys : ℕ) (agree : LinesAgree keys v) (i j : ℕ) (o : i < v.setting.count) (p : j < v.setting.count) (ne : j ≢ i)
    (c : ℕ) (known : r j ≡ Some c) (there : IsSome ((v.harts j).lines c)) where
  no_line : (line : Option Line) → IsSome line → line ≡ None → ⊥
  no_line None k e = cc
  no_line (Some l) k e = cc

  beside : (w : ℕ) (s : Option Access) → StoresWell (v.harts i) (r i) w s → reserved_beside s (r j) ≡ Some c
  beside w None t = known
  beside w (Some s) t = kept_apart (block_of s) c (r j) known
      (λ z. no_line ((v.harts j).lines c) there (ap (v.harts j).lines z ∙ agree.only i j (block_of s) t.0.0 o p ne t.0.1 t.0.2))

  other_is : (e : Option Entry) → TellsWell i (v.harts i) (r i) e → reserved_some h e r j ≡ Some c
  other_is None t = known
  other_is (Some (Retire k pc w x l s)) t =
      subst (λ n. cond (j == n) (reserved_by (decoded w) (h.past n).depth l (r n)) (reserved_beside s (r j)) ≡ Some c) (sym t.0)
      (apart j i (reserved_by (decoded w) (h.past i).depth l (r i)) (reserved_beside s (r j)) ne ∙ beside w s t.1)
  other_is (Some (Abort k x)) t = subst (λ n. put_at n None r j ≡ Some c) (sym t) (put_elsewhere i j None r ne ∙ known)
  other_is (Some (Trap k x q)) t = subst (λ n. put_at n None r j ≡ Some c) (sym t) (put_elsewhere i j None r ne ∙ known)
  other_is (Some (Refuse k x b)) t = known
  other_is (Some (Spill k b)) t = known

-- a change after which it is so again
pub record Goes (h : History) (r : Reservations) (c : Change) : Type 0 where
  pub holds : AllHold c.machine (reserved_some h c.entry r)
  pub reason : ReasonIn r c.entry

module _ (x : World) (inv : Inv x) (r : Reservations) (keys : ℕ) (agree : LinesAgree keys x.machine) (holds : AllHold x.machine r) where
  abbrev v : Machine
  v = x.machine

  abbrev h : History
  h = x.history

  still : Goes h r (no_change v)
  still = record { holds = holds; reason = tt }

  rowed : (i : ℕ) (o : i < v.setting.count) (t : HartResult) → Keeps i (h.past i).depth (v.harts i) (r i) t → (w : Machine) → w.harts ≡ v.harts → w.setting ≡ v.setting → Goes h r (hart_change i t w)
  rowed i o t k w same setting = record {
    holds = λ j p. at j (subst (λ (z : Setting). j < z.count) setting p) (j == i) refl;
    reason = reason_is r i (v.harts i) t.entry k.tells;
  }
    where
      at : (j : ℕ) → j < v.setting.count → (z : Bool) → (j == i) ≡ z → Holds (cond z t.hart (w.harts j)).reserved (cond z t.hart (w.harts j)).lines (reserved_some h t.entry r j)
      at j p true e = subst (λ n. Holds t.hart.reserved t.hart.lines (reserved_some h t.entry r n)) (sym (one_number j i e))
          (subst (Holds t.hart.reserved t.hart.lines) (sym (own_is h r i (v.harts i) t.entry k.tells)) k.own)
      at j p false e = subst (λ (z : ℕ → Hart). Holds (z j).reserved (z j).lines (reserved_some h t.entry r j)) (sym same)
          (λ c is. let was = holds j p c is in (other_is h r v keys agree i j o p (two_numbers j i e) c was.0 was.1 t.entry k.tells, was.1))

  if_is : (i : ℕ) (c : Change) → (i < v.setting.count → Goes h r c) → Goes h r (if_hart i v c)
  if_is i c k = by (nat_lt i v.setting.count) refl
    where
      by : (z : Bool) → nat_lt i v.setting.count ≡ z → Goes h r (cond z c (no_change v))
      by true e = k (ltb-true i v.setting.count e)
      by false e = still

  by_row : (i : ℕ) (q : Option HartResult) → i < v.setting.count → ((t : HartResult) → q ≡ Some t → Keeps i (h.past i).depth (v.harts i) (r i) t) → Goes h r (hart_change_if i q v)
  by_row i None o k = still
  by_row i (Some t) o k = rowed i o t (k t refl) v refl refl

  served : (key b : ℕ) (q : Option Served) → Goes h r (served_change key b q v)
  served key b None = still
  served key b (Some s) = record { holds = holds; reason = tt }

  arrived : (key : ℕ) (m : Message) (to : Option ℕ) → Goes h r (arrival key m to v)
  arrived key m None = served key (block_about m) (directory_row v.setting.count m (v.entries (block_about m)) (v.memory (block_about m)))
  arrived key m (Some i) = if_is i (hart_change i (message_row v.setting.count i m (v.harts i)) (record v { net = taken key v.net }))
      (λ o. rowed i o (message_row v.setting.count i m (v.harts i)) (message_keeps i (h.past i).depth (v.harts i) (r i) (holds i o) v.setting.count m) (record v { net = taken key v.net }) refl refl)

  delivered : (key : ℕ) (m : Option Message) → Goes h r (delivery key m v)
  delivered key None = still
  delivered key (Some m) = arrived key m (receiver_of m)

  changed : (victim : ℕ → Option ℕ) (s : Step) → Goes h r (change_of victim s v)
  changed victim (Core i) = if_is i (hart_change_if i (core_row v.setting i v.stamps victim (v.harts i)) v)
      (λ o. by_row i (core_row v.setting i v.stamps victim (v.harts i)) o
      (core_keeps i (h.past i).depth (v.harts i) (r i) (holds i o) v.setting v.stamps
      (λ t e. let w = in_past v.setting (v.harts i) (x.flat.hart i) (h.past i) t (inv.harts i) e in (w.depth, w.inside))
      (λ e. (past_outside v.setting (v.harts i) (x.flat.hart i) (h.past i) (inv.harts i) e).0) victim))
  changed victim (Evict i b) = if_is i (hart_change_if i (evict_row i b (v.harts i)) v)
      (λ o. by_row i (evict_row i b (v.harts i)) o (evict_keeps i (h.past i).depth (v.harts i) (r i) (holds i o) b))
  changed victim (Deliver key) = delivered key (v.net key)

-- Runs

pub more_told : (h : History) (r : Reservations) (es : List Entry) (e : Option Entry) → reservations_from h r (es ++ option_to_list e) ≡ reserved_some (history_of h es) e (reservations_from h r es)
more_told h r [] None = refl
more_told h r [] (Some e) = refl
more_told h r (d ∷ es) e = more_told (told h d) (reserved_after (depths_told h) d r) es e

module _ (g : Geometry) (s : Setting) (entry : ℕ) (bytes : AreBytes s.segments) where
  -- one step more
  next : (steps : List Step) (past : List Entry) (v : Machine) → Runs g (start s entry) steps past v → AllHold v (reservations_of past) → (st : Step) (e : Option Entry) (w : Machine) → Steps g v st e w
      → AllHold w (reservations_of (past ++ option_to_list e)) × ReasonIn (reservations_of past) e
  next steps past v run holds st e w step =
      let f = belongs_after g s entry steps past v bytes run in
      let k = inv_after g s entry steps past f.0 v bytes run f.1 in
      let x = world v f.0 past k.0 in
      let keys = keys_of g f.0 v f.2 in
      let agree = lines_agree x k.1 keys.0 (owner_is x k.1 keys.0 keys.1) (in_place_is x k.1 keys.0 keys.1) in
      let c = changed x k.1 (reservations_of past) keys.0 agree holds step.0 st in (
        subst (AllHold w) (sym (more_told no_history no_reservations past e))
            (subst (λ o. AllHold w (reserved_some (history_of no_history past) o (reservations_of past))) (sym step.2.0)
            (subst (λ m. AllHold m (reserved_some (history_of no_history past) (change_of step.0 st v).entry (reservations_of past))) (sym step.2.3) c.holds)),
        subst (ReasonIn (reservations_of past)) (sym step.2.0) c.reason,
      )

  first_holds : AllHold (start s entry) no_reservations
  first_holds i o b e = absurd (cc)

  -- all steps
  later : (steps : List Step) (past : List Entry) (v w : Machine) (ss : List Step) (es : List Entry) → Runs g (start s entry) steps past v → AllHold v (reservations_of past) → Runs g v ss es w
      → AllHold w (reservations_of (past ++ es))
  later steps past v w [] es run holds k =
      subst (λ z. AllHold w (reservations_of (past ++ z))) (sym k.0) (subst (λ z. AllHold w (reservations_of z)) (sym (append-nil past)) (subst (λ m. AllHold m (reservations_of past)) (sym k.1) holds))
  later steps past v w (st ∷ ss) es run holds k =
      let n = next steps past v run holds st k.1 k.0 k.3 in
      let one : Runs g v (st ∷ []) (option_to_list k.1) k.0 = (k.0, k.1, [], k.3, (refl, refl), sym (append-nil (option_to_list k.1))) in
      let there = runs_then g (start s entry) v k.0 steps (st ∷ []) past (option_to_list k.1) run one in
      let l = later (steps ++ st ∷ []) (past ++ option_to_list k.1) k.0 w ss k.2 there n.0 k.4 in
      subst (λ z. AllHold w (reservations_of z)) (append_assoc past (option_to_list k.1) k.2 ∙ ap (λ z. past ++ z) (sym k.5)) l

  pub all_hold : (steps : List Step) (es : List Entry) (w : Machine) → Runs g (start s entry) steps es w → AllHold w (reservations_of es)
  all_hold steps es w run = later [] [] (start s entry) w steps es (refl, refl) first_holds run

  -- what the next step stores has its reason
  pub store_after : (steps : List Step) (es : List Entry) (v w : Machine) (st : Step) (i pc word : ℕ) (write : Option (ℕ × ℕ)) (load store : Option Access)
      → Runs g (start s entry) steps es v → Steps g v st (Some (Retire i pc word write load store)) w → StoreHasReason (reservations_of es) i word store
  store_after steps es v w st i pc word write load store run step = (next steps es v run (all_hold steps es v run) st (Some (Retire i pc word write load store)) w step).1

  -- and so has each among the entries of a run
  pub store_among : (steps : List Step) (before after : List Entry) (w : Machine) (i pc word : ℕ) (write : Option (ℕ × ℕ)) (load store : Option Access)
      → Runs g (start s entry) steps (before ++ Retire i pc word write load store ∷ after) w → StoreHasReason (reservations_of before) i word store
  store_among steps before after w i pc word write load store run =
      let k = runs_at g (start s entry) w steps before (Retire i pc word write load store) after run in
      store_after k.0 before k.3 k.4 k.1 i pc word write load store k.6 k.7
