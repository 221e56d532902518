-- From each machine that steps lead to each step leads on: there is a victim where one is wanted, and there are free keys.
use Rattle.std.proofs.Common.{◌≡◌, ◌+◌, ◌<◌, ℕ, suc, List, [], ◌∷◌, ◌++◌, Bool, true, false, Option, None, Some, cond, nat_lt, refl, sym, subst, arith}
use Rattle.std.specs.Prelude.{◌==◌, option_to_list}
use Rattle.words.specs.declared.entry.Entry.{Entry}
use Rattle.words.specs.declared.entry.Step.{Step}
use Rattle.words.specs.declared.entry.Step.TheVariants.{Core, Evict, Deliver}
use Rattle.flat.specs.Bytes.{put_at}
use Rattle.flat.specs.State.{Flat}
use Rattle.flat.proofs.Maps.{one_number}
use Rattle.protocol.specs.Messages.{Message, block_of, receiver_of}
use Rattle.protocol.specs.Hart.{Hart, HartResult}
use Rattle.protocol.specs.Caches.{Geometry}
use Rattle.protocol.specs.Core.{Move, Rests, Makes, Lacks, core_move, core_row}
use Rattle.protocol.specs.Evict.{evict_row}
use Rattle.protocol.specs.HartMessages.{message_row}
use Rattle.protocol.specs.Directory.{Served, directory_row}
use Rattle.protocol.specs.Network.{Network, LiesBelow, taken, Sends}
use Rattle.protocol.specs.Machine.{Machine, Change, no_change, if_hart, hart_change, hart_change_if, served_change, arrival, delivery, change_of, MayLack, MayNameIn, Steps, Runs}
use Rattle.protocol.specs.Start.{start}
use Rattle.isolation.specs.Belongs.{Belongs}
use Rattle.isolation.proofs.Rooms.Sets.{Fits, set_fits, victim_in}
use Rattle.isolation.proofs.Rooms.MachineRooms.{AllFit, all_next, all_fit}

-- Keys

put_below : (keys key : ℕ) (o : Option Message) (net : Network) → LiesBelow keys net → LiesBelow (keys + suc key) (put_at key o net)
put_below keys key o net b k le = by_place (k == key) refl
  where
    by_place : (z : Bool) → (k == key) ≡ z → cond z o (net k) ≡ None
    by_place true e = let same = one_number k key e in absurd (omega arith)
    by_place false e = b k (omega arith)

taken_below : (keys key : ℕ) (net : Network) → LiesBelow keys net → LiesBelow keys (taken key net)
taken_below keys key net b k le = by_place (k == key)
  where
    by_place : (z : Bool) → cond z None (net k) ≡ None
    by_place true = refl
    by_place false = b k le

-- what is sent lies below some key
sent_below : (keys : ℕ) (old : Network) (ms : List Message) (new : Network) → LiesBelow keys old → Sends old ms new → (more : ℕ) × LiesBelow more new
sent_below keys old [] new b s = (keys, subst (LiesBelow keys) (sym s) b)
sent_below keys old (m ∷ ms) new b s = sent_below (keys + suc s.0) (put_at s.0 (Some m) old) ms new (put_below keys s.0 (Some m) old b) s.2

-- and can be sent
can_send : (keys : ℕ) (old : Network) (ms : List Message) → LiesBelow keys old → (new : Network) × Sends old ms new
can_send keys old [] b = (old, refl)
can_send keys old (m ∷ ms) b =
    let s = can_send (keys + suc keys) (put_at keys (Some m) old) ms (put_below keys keys (Some m) old b) in
    (s.0, (keys, b keys (omega arith), s.1))

-- no step puts a message elsewhere than where it is sent
module _ (v : Machine) (keys : ℕ) (b : LiesBelow keys v.net) where
  abbrev Lies : Change → Type 0
  Lies c = LiesBelow keys c.machine.net

  if_is : (i : ℕ) (c : Change) → Lies c → Lies (if_hart i v c)
  if_is i c k = by_count (nat_lt i v.setting.count)
    where
      by_count : (z : Bool) → Lies (cond z c (no_change v))
      by_count true = k
      by_count false = b

  by_row : (i : ℕ) (o : Option HartResult) → Lies (hart_change_if i o v)
  by_row i None = b
  by_row i (Some t) = b

  served : (key a : ℕ) (o : Option Served) → Lies (served_change key a o v)
  served key a None = b
  served key a (Some s) = taken_below keys key v.net b

  arrived : (key : ℕ) (m : Message) (to : Option ℕ) → Lies (arrival key m to v)
  arrived key m None = served key (block_of m) (directory_row v.setting.count m (v.entries (block_of m)) (v.memory (block_of m)))
  arrived key m (Some i) = if_is i (hart_change i (message_row v.setting.count i m (v.harts i)) (record v { net = taken key v.net })) (taken_below keys key v.net b)

  delivered : (key : ℕ) (o : Option Message) → Lies (delivery key o v)
  delivered key None = b
  delivered key (Some m) = arrived key m (receiver_of m)

  lies : (victim : ℕ → Option ℕ) (s : Step) → Lies (change_of victim s v)
  lies victim (Core i) = if_is i (hart_change_if i (core_row v.setting i v.stamps victim (v.harts i)) v) (by_row i (core_row v.setting i v.stamps victim (v.harts i)))
  lies victim (Evict i a) = if_is i (hart_change_if i (evict_row i a (v.harts i)) v) (by_row i (evict_row i a (v.harts i)))
  lies victim (Deliver key) = delivered key (v.net key)

-- after a step all messages lie below some key
next_below : (g : Geometry) (v w : Machine) (s : Step) (e : Option Entry) (keys : ℕ) → LiesBelow keys v.net → Steps g v s e w → (more : ℕ) × LiesBelow more w.net
next_below g v w s e keys b step =
    let c = change_of step.0 s v in
    let k = sent_below keys c.machine.net c.sent step.2.1 (lies v keys b step.0 s) step.2.2 in
    (k.0, subst (λ (z : Machine). LiesBelow k.0 z.net) (sym step.2.3) k.1)

later_below : (g : Geometry) (v w : Machine) (steps : List Step) (es : List Entry) (keys : ℕ) → LiesBelow keys v.net → Runs g v steps es w → (more : ℕ) × LiesBelow more w.net
later_below g v w [] es keys b r = (keys, subst (λ (z : Machine). LiesBelow keys z.net) (sym r.1) b)
later_below g v w (s ∷ ss) es keys b r = let k = next_below g v r.0 s r.1 keys b r.3 in later_below g r.0 w ss r.2 k.0 k.1 r.4

-- so they do in each machine that steps lead to
pub keys_of : (g : Geometry) (f : Flat) (w : Machine) → Belongs g f w → (keys : ℕ) × LiesBelow keys w.net
keys_of g f w b = later_below g (start b.setting b.entry) w b.steps b.entries 0 (λ key le. refl) b.run

-- Victims

module _ (g : Geometry) (ways : 0 < g.ways) where
  lacked : (h : Hart) → Fits g h → (m : Move) → (victim : ℕ → Option ℕ) × MayLack g h victim m
  lacked h f Rests = (λ b. None, tt)
  lacked h f (Makes t) = (λ b. None, tt)
  lacked h f (Lacks kind b) = let k = victim_in g h.lines b ways (set_fits g h.lines b (f.sets b)) in (λ c. k.0, λ n. k.1)

  victims : (v : Machine) → AllFit g v → (s : Step) → (victim : ℕ → Option ℕ) × MayNameIn g v s victim
  victims v f (Core i) = lacked (v.harts i) (f i) (core_move v.setting i v.stamps (v.harts i))
  victims v f (Evict i b) = (λ c. None, tt)
  victims v f (Deliver key) = (λ c. None, tt)

  -- a step leads on
  step_on : (v : Machine) (keys : ℕ) → AllFit g v → LiesBelow keys v.net → (s : Step) → (e : Option Entry) × (w : Machine) × Steps g v s e w
  step_on v keys f b s =
      let n = victims v f s in
      let c = change_of n.0 s v in
      let k = can_send keys c.machine.net c.sent (lies v keys b n.0 s) in
      (c.entry, record c.machine { net = k.0 }, (n.0, n.1, (refl, k.0, k.1, refl)))

  -- and so does each list of them
  steps_on : (v : Machine) (keys : ℕ) → AllFit g v → LiesBelow keys v.net → (steps : List Step) → (es : List Entry) × (w : Machine) × Runs g v steps es w
  steps_on v keys f b [] = ([], v, (refl, refl))
  steps_on v keys f b (s ∷ ss) =
      let n = step_on v keys f b s in
      let k = next_below g v n.1 s n.0 keys b n.2 in
      let l = steps_on n.1 k.0 (all_next g v f s n.0 n.1 n.2) k.1 ss in
      (option_to_list n.0 ++ l.0, l.1, (n.1, n.0, l.0, n.2, l.2, refl))

  pub step_exists : (f : Flat) (v : Machine) → Belongs g f v → (s : Step) → (e : Option Entry) × (w : Machine) × Steps g v s e w
  step_exists f v b s = let k = keys_of g f v b in step_on v k.0 (all_fit g f v b) k.1 s

  pub run_exists : (f : Flat) (v : Machine) → Belongs g f v → (steps : List Step) → (es : List Entry) × (w : Machine) × Runs g v steps es w
  run_exists f v b steps = let k = keys_of g f v b in steps_on v k.0 (all_fit g f v b) k.1 steps
