-- Runs played step by step: what a list of steps makes of a machine, when each message is sent under a key that is named.
use Rattle.std.proofs.Common.{ℕ, zero, suc, Bool, true, false, ◌≡◌, ◌&&◌, ◌<◌, Option, Some, None, List, [], ◌∷◌, ◌++◌, is_none, is_some, option_to_list, filter, All, AllPairs, ◌≢◌, refl, sym, arith, eqb-true}
use Rattle.words.specs.declared.entry.Entry.{Entry}
use Rattle.words.specs.declared.entry.Step.{Step}
use Rattle.words.specs.declared.entry.Step.TheVariants.{Core, Evict, Deliver}
use Rattle.flat.specs.Bytes.{put_at}
use Rattle.protocol.specs.Messages.{Message}
use Rattle.protocol.specs.Caches.{Geometry, StandsBeside, HasRoom, IsFull, MayName}
use Rattle.protocol.specs.Network.{Network, Sends}
use Rattle.protocol.specs.Machine.{Machine, Change, change_of, MayLack, MayNameIn, Steps, Runs}
use Rattle.protocol.specs.Core.{Move as CoreMove, Rests, Makes, Lacks, core_move}
use Rattle.protocol.specs.Hart.{Hart}
use Rattle.protocol.specs.Lines.{Line}
use Rattle.part_tests.specs.Programs.{machine}
use Rattle.part_tests.specs.Examples.{one_set_of, is_of_note, Leads, Reaches}

-- a step, the keys of the messages that it sends, and the block whose line is evicted, if one is
pub record Move : Type 0 where
  pub step : Step
  pub keys : List ℕ
  pub victim : Option ℕ

abbrev pub posted : List Message → List ℕ → Network → Network
posted [] ks net = net
posted (m ∷ ms) [] net = net
posted (m ∷ ms) (k ∷ ks) net = posted ms ks (put_at k (Some m) net)

-- each message has a key that is free
abbrev pub are_free : List Message → List ℕ → Network → Bool
are_free [] [] net = true
are_free [] (k ∷ ks) net = false
are_free (m ∷ ms) [] net = false
are_free (m ∷ ms) (k ∷ ks) net = is_none (net k) && are_free ms ks (put_at k (Some m) net)

-- the machine once a change's messages are sent
abbrev pub with_sent : List ℕ → Change → Machine
with_sent ks c = record c.machine { net = posted c.sent ks c.machine.net }

abbrev pub change_by : Move → Machine → Change
change_by p w = change_of (λ b. p.victim) p.step w

abbrev pub after : Move → Machine → Machine
after p w = with_sent p.keys (change_by p w)

-- a list of moves
abbrev pub last_of : Machine → List Move → Machine
last_of w [] = w
last_of w (p ∷ ps) = last_of (after p w) ps

abbrev pub entries_of : Machine → List Move → List Entry
entries_of w [] = []
entries_of w (p ∷ ps) = option_to_list (change_by p w).entry ++ entries_of (after p w) ps

abbrev pub steps_of : List Move → List Step
steps_of [] = []
steps_of (p ∷ ps) = p.step ∷ steps_of ps

-- each move's keys are free
abbrev pub are_all_free : Machine → List Move → Bool
are_all_free w [] = true
are_all_free w (p ∷ ps) = are_free (change_by p w).sent p.keys (change_by p w).machine.net && are_all_free (after p w) ps

-- what a move has to show of a hart's cache, and the rest
abbrev pub RoomFor : Geometry → Hart → Option ℕ → CoreMove → Type 0 → Type 0
RoomFor g h v Rests rest = rest
RoomFor g h v (Makes t) rest = rest
RoomFor g h v (Lacks kind b) rest = MayName g h.lines b v × rest

abbrev pub RoomIn : Geometry → Machine → Option ℕ → Step → Type 0 → Type 0
RoomIn g w v (Core i) rest = RoomFor g (w.harts i) v (core_move w.setting i w.stamps (w.harts i)) rest
RoomIn g w v (Evict i b) rest = rest
RoomIn g w v (Deliver key) rest = rest

-- each hart's cache has room for what it asks for, or the line that is evicted is one of a full set
abbrev pub HaveRoom : Geometry → Machine → List Move → Type 0
HaveRoom g w [] = Unit {0}
HaveRoom g w (p ∷ ps) = RoomIn g w p.victim p.step (HaveRoom g (after p w) ps)

room_for : (g : Geometry) (h : Hart) (v : Option ℕ) (m : CoreMove) (A : Type 0) → RoomFor g h v m A → MayLack g h (λ b. v) m × A
room_for g h v Rests A r = (tt, r)
room_for g h v (Makes t) A r = (tt, r)
room_for g h v (Lacks kind b) A r = (λ _. r.0, r.1)

room_in : (g : Geometry) (w : Machine) (v : Option ℕ) (s : Step) (A : Type 0) → RoomIn g w v s A → MayNameIn g w s (λ b. v) × A
room_in g w v (Core i) A r = room_for g (w.harts i) v (core_move w.setting i w.stamps (w.harts i)) A r
room_in g w v (Evict i b) A r = (tt, r)
room_in g w v (Deliver key) A r = (tt, r)

is_none-None : {A : Type 0} (o : Option A) → is_none o ≡ true → o ≡ None
is_none-None None e = refl
is_none-None (Some x) e = grind arith

both : (a b : Bool) → (a && b) ≡ true → (a ≡ true) × (b ≡ true)
both true true e = (refl, refl)
both true false e = grind arith
both false b e = grind arith

-- messages sent under free keys are sent
pub sent : (ms : List Message) (ks : List ℕ) (net : Network) → are_free ms ks net ≡ true → Sends net ms (posted ms ks net)
sent [] [] net e = refl
sent [] (k ∷ ks) net e = grind arith
sent (m ∷ ms) [] net e = grind arith
sent (m ∷ ms) (k ∷ ks) net e = (k, is_none-None (net k) (both (is_none (net k)) (are_free ms ks (put_at k (Some m) net)) e).0, sent ms ks (put_at k (Some m) net) (both (is_none (net k)) (are_free ms ks (put_at k (Some m) net)) e).1)

-- what is played is a run
pub played : (g : Geometry) (w : Machine) (ps : List Move) → are_all_free w ps ≡ true → HaveRoom g w ps → Runs g w (steps_of ps) (entries_of w ps) (last_of w ps)
played g w [] free room = (refl, refl)
played g w (p ∷ ps) free room = (after p w, (change_by p w).entry, entries_of (after p w) ps, stepped, played g (after p w) ps frees.1 rooms.1, refl)
  where
    frees : (are_free (change_by p w).sent p.keys (change_by p w).machine.net ≡ true) × (are_all_free (after p w) ps ≡ true)
    frees = both (are_free (change_by p w).sent p.keys (change_by p w).machine.net) (are_all_free (after p w) ps) free

    rooms : MayNameIn g w p.step (λ b. p.victim) × HaveRoom g (after p w) ps
    rooms = room_in g w p.victim p.step (HaveRoom g (after p w) ps) room

    stepped : Steps g w p.step (change_by p w).entry (after p w)
    stepped = ((λ b. p.victim), rooms.0, (refl, posted (change_by p w).sent p.keys (change_by p w).machine.net, sent (change_by p w).sent p.keys (change_by p w).machine.net frees.0, refl))

-- a cache without lines has room
pub room_empty : (ways b : ℕ) → 0 < ways → HasRoom (one_set_of ways) (λ c. None) b
room_empty ways b some = ([], some, λ c at. absurd (never at.1))
  where
    never : false ≡ true → ⊥
    never e = grind arith

-- lines of one block alone
abbrev pub OnlyOf : ℕ → (ℕ → Option Line) → Type 0
OnlyOf d lines = (c : ℕ) → is_some (lines c) ≡ true → c ≡ d

pub only_none : (d : ℕ) → OnlyOf d (λ c. None)
only_none d c e = grind arith

pub only_put : (d : ℕ) (l : Option Line) (lines : ℕ → Option Line) → OnlyOf d lines → OnlyOf d (put_at d l lines)
only_put d l lines only c e = grind (arith, eqb-true, only)

-- a cache with no more than one line has room for a second
pub room_beside : (ways d b : ℕ) (lines : ℕ → Option Line) → 1 < ways → OnlyOf d lines → HasRoom (one_set_of ways) lines b
room_beside ways d b lines some only = (d ∷ [], some, λ c at. (0, omega arith, sym (only c at.1)))

-- a cache of one line that has one is full
pub full_of : (d b : ℕ) (lines : ℕ → Option Line) → is_some (lines d) ≡ true → IsFull (one_set_of 1) lines b
full_of d b lines there = (d ∷ [], refl, apart, within)
  where
    apart : AllPairs (λ x y. x ≢ y) (d ∷ [])
    apart = grind arith

    within : All (StandsBeside (one_set_of 1) lines b) (d ∷ [])
    within zero x below = (omega arith, there)
    within (suc k) x below = absurd (omega (arith, below))

-- what the moves of an example lead to
pub led : (ways : ℕ) (v : Machine) (ps : List Move) (noted : List Entry) (P : Machine → Type 0) → are_all_free v ps ≡ true → HaveRoom (one_set_of ways) v ps → filter is_of_note (entries_of v ps) ≡ noted → P (last_of v ps) → Leads ways v (steps_of ps) noted P
led ways v ps noted P free room noted_so holds = (last_of v ps, entries_of v ps, played (one_set_of ways) v ps free room, noted_so, holds)

-- and reach from the start
pub reached : (ways count : ℕ) (text : List ℕ) (ps : List Move) (noted : List Entry) (P : Machine → Type 0) → are_all_free (machine count text) ps ≡ true → HaveRoom (one_set_of ways) (machine count text) ps → filter is_of_note (entries_of (machine count text) ps) ≡ noted → P (last_of (machine count text) ps) → Reaches ways count text (steps_of ps) noted P
reached ways count text ps noted P free room noted_so holds = led ways (machine count text) ps noted P free room noted_so holds
