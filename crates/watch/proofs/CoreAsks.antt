-- What a hart's core asks for. A step in which it asks sends a Get for the block, and gives no entry; any other leaves it without a request. So where nothing was in flight, and
-- the hart has a request out behind its core's step, just its Get was sent in it.
use Rattle.std.proofs.Common.{◌≡◌, ◌≢◌, ◌<◌, ◌+◌, ◌/◌, ◌∙◌, ℕ, Bool, true, false, cond, List, [], ◌∷◌, Option, Some, None, Result, Ok, Err, inl, inr, arith, refl, sym, ap, subst}
use Rattle.std.specs.Prelude.{◌==◌, ◌&&◌, ◌⊎◌, IfSome, IsSome, count_by, is_none, length, nat_le, nat_lt, option_to_list}
use Rattle.std.specs.Option.{option_map}
use Rattle.std.proofs.lemmas.Bool.{and_parts, ltb-true}
use Rattle.std.proofs.lemmas.Option.{none-some, same_Some}
use Rattle.words.specs.Limits.{log_records}
use Rattle.words.specs.LineStates.{is_owned}
use Rattle.words.specs.declared.stamp.Stamp.{Stamp}
use Rattle.words.specs.declared.cause.Cause.{Cause}
use Rattle.words.specs.declared.cause.AbortCause.{AbortCause}
use Rattle.words.specs.declared.cause.Status.{Status}
use Rattle.words.specs.declared.cause.Status.TheVariants.{Running, Exited, Stopped}
use Rattle.words.specs.declared.entry.Entry.{Entry}
use Rattle.words.specs.declared.entry.Step.TheVariants.{Core}
use Rattle.words.specs.declared.message.Kind.{Kind}
use Rattle.words.specs.declared.message.Kind.TheVariants.{Write}
use Rattle.words.specs.declared.message.LineState.{LineState}
use Rattle.words.specs.declared.message.LineState.TheVariants.{Shared, Exclusive, Modified}
use Rattle.table.specs.declared.effect.Effect.{Effect}
use Rattle.table.specs.declared.effect.MemoryAct.{MemoryAct}
use Rattle.table.specs.declared.effect.Act.{Act}
use Rattle.table.specs.declared.effect.Act.TheVariants as act
use Rattle.table.specs.Effects.{resolved}
use Rattle.flat.specs.Bytes.{put_at}
use Rattle.flat.specs.State.{Setting}
use Rattle.flat.specs.Reservation.{is_reserved}
use Rattle.flat.specs.Causes.{next_of}
use Rattle.flat.proofs.Maps.{put_there, put_elsewhere}
use Rattle.network.specs.declared.net.Flight.{Flight}
use Rattle.network.specs.Flights.{AreInOrder, flight_at, number_after}
use Rattle.protocol.specs.Caches.{Geometry}
use Rattle.protocol.specs.Messages.{Message, Get, shown as shown_message}
use Rattle.protocol.specs.Lines.{Line, is_enough}
use Rattle.protocol.specs.Hart.{Hart, HartResult, LogRecord, PutOut, Request, Transaction, flat_hart, has_put_of, is_running}
use Rattle.protocol.specs.Evict.{evict_row, evict_line, evict_by, write_back_row_if_none_out}
use Rattle.protocol.specs.Core.{Move, Rests, Makes, Lacks, undo_row, undo_move, abort_move, trap_row, retire_row, no_memory, begin_row, commit_row, tabort_row, kind_of, is_log_due, access_row, access_move, reserved_with, conditional_move, effect_move, word_of, instruction_move, transaction_move, tx_move, no_longer_fresh, ask_with_room, victim_for, fetch_row, move_row, core_row}
use Rattle.protocol.specs.Machine.{Machine, hart_change, hart_change_if, no_change}
use Rattle.machine.specs.Mail.{Mail, SendsOn, in_flight, mail_of}
use Rattle.machine.specs.Making.{BringsAbout, MakesStep, victims}
use Rattle.machine.specs.States.{State, hart_at, setting_of, shown}
use Rattle.schedule.specs.declared.choices.Sort.TheVariants as sort
use Rattle.watch.specs.declared.figures.Sum.{Sum}
use Rattle.watch.specs.declared.figures.Sum.TheVariants.{Sent}
use Rattle.watch.specs.Kinds.{one_if}
use Rattle.watch.specs.Runs.{IsFree}
use Rattle.watch.specs.Traffic.{is_same, sum_of_message, was_sent}
use Rattle.watch.proofs.Sending.{counted_first, late_one, nothing_in}
use Rattle.watch.proofs.Sent.{alone_is, next_is}

-- hart i asks for a block: its request is out, a Get for it is sent, and there is no entry
abbrev pub AsksFor : ℕ → HartResult → Type 0
AsksFor i t = (r : Request) × (t.hart.request ≡ Some r) × ((stamp : Option Stamp) × (t.sent ≡ Some (Get i r.block r.kind stamp))) × (t.entry ≡ None) × (t.hart.fresh ≡ false)

-- a row leaves its hart without a request
abbrev HasNone : HartResult → Type 0
HasNone t = t.hart.request ≡ None

-- and not fresh; or it does nothing, and gives no entry
abbrev pub LeavesFree : Hart → HartResult → Type 0
LeavesFree h t = (t.hart.request ≡ None) × ((t.hart.fresh ≡ false) ⊎ ((t.entry ≡ None) × (t.hart ≡ h)))

-- or the hart asks
abbrev IsFreeOrAsks : ℕ → Hart → HartResult → Type 0
IsFreeOrAsks i h t = LeavesFree h t ⊎ AsksFor i t

-- a row of hart i, which runs
abbrev IsOf : ℕ → Hart → HartResult → Type 0
IsOf i h t = (h.status ≡ Running) × IsFreeOrAsks i h t

-- what a core makes leaves it without one
abbrev MakesFree : Hart → Move → Type 0
MakesFree h Rests = Unit {0}
MakesFree h (Makes t) = LeavesFree h t
MakesFree h (Lacks kind b) = Unit {0}

-- one of two such rows is such a row
either_free : (h : Hart) (b : Bool) (x y : HartResult) → LeavesFree h x → LeavesFree h y → LeavesFree h (cond b x y)
either_free h true x y first second = first
either_free h false x y first second = second

-- a hart that passes the test runs
runs_is : (z : Status) → is_running z ≡ true → z ≡ Running
runs_is Running is = refl
runs_is (Exited n) is = absurd (cc)
runs_is (Stopped c n) is = absurd (cc)

-- and one that passes the other has no request
free_is : (o : Option Request) → is_none o ≡ true → o ≡ None
free_is None is = refl
free_is (Some r) is = absurd (cc)

-- ---- a hart without a request

module _ (i taken : ℕ) (h : Hart) (free : h.request ≡ None) where
  -- one that undoes a record still has none
  undo_free : (t : Transaction) (r : LogRecord) (rest : List LogRecord) (o : Option Line) → MakesFree h (undo_move t r rest o h)
  undo_free t r rest None = tt
  undo_free t r rest (Some l) = by (is_owned l.state)
    where
      by : (b : Bool) → MakesFree h (cond b (Makes (undo_row t r rest l h)) (Lacks Write r.block))
      by true = (free, inl refl)
      by false = tt

  -- one whose abort goes on
  abort_free : (cause : AbortCause) (t : Transaction) (log : List LogRecord) → MakesFree h (abort_move i cause t log h)
  abort_free cause t [] = (free, inl refl)
  abort_free cause t (r ∷ rest) = undo_free t r rest (h.lines r.block)

  -- one that traps
  trap_free : (c : Cause) (o : Option Transaction) → LeavesFree h (trap_row i c o h)
  trap_free c None = (free, inl refl)
  trap_free c (Some t) = (free, inl refl)

  -- one that begins a transaction
  begin_free : (w : ℕ) (e : Effect) (p : ℕ) (o : Option Transaction) → LeavesFree h (begin_row i taken w e p o h)
  begin_free w e p None = (free, inl refl)
  begin_free w e p (Some t) = (free, inl refl)

  -- one that commits
  commit_free : (w : ℕ) (e : Effect) (o : Option Transaction) → LeavesFree h (commit_row i w e o h)
  commit_free w e None = (free, inl refl)
  commit_free w e (Some t) = either_free h (t.depth == 1) _ _ (free, inl refl) (free, inl refl)

  -- one that aborts by itself
  tabort_free : (o : Option Transaction) → LeavesFree h (tabort_row o h)
  tabort_free None = (free, inr (refl, refl))
  tabort_free (Some t) = (free, inl refl)

  -- one that accesses a line that is enough
  access_row_free : (w : ℕ) (e : Effect) (m : MemoryAct) (kept : Option ℕ) (l : Line) (o : Option Transaction) → LeavesFree h (access_row i w e m kept l o h)
  access_row_free w e m kept l None = (free, inl refl)
  access_row_free w e m kept l (Some t) = either_free h (is_log_due m l && nat_le log_records (length t.log)) _ _ (free, inl refl) (free, inl refl)

  -- one that accesses memory, if its line is enough
  access_free : (w : ℕ) (e : Effect) (m : MemoryAct) (kept : Option ℕ) (o : Option Line) → MakesFree h (access_move i w e m kept o h)
  access_free w e m kept None = tt
  access_free w e m kept (Some l) = by (is_enough (kind_of m) (Some l))
    where
      by : (b : Bool) → MakesFree h (cond b (Makes (access_row i w e m kept l h.tx h)) (Lacks (kind_of m) (m.addr / 32)))
      by true = access_row_free w e m kept l h.tx
      by false = tt

  -- one that stores on a condition
  conditional_free : (w : ℕ) (e : Effect) (m : MemoryAct) → MakesFree h (conditional_move i w e m h)
  conditional_free w e m = by (is_reserved (m.addr / 32) h.reserved)
    where
      by : (b : Bool) → MakesFree h (cond b (access_move i w (resolved true e) m None (h.lines (m.addr / 32)) h) (Makes (retire_row i no_memory w (resolved false e) (record h { reserved = None }))))
      by true = access_free w (resolved true e) m None (h.lines (m.addr / 32))
      by false = (free, inl refl)

  -- one whose word has this effect
  effect_free : (w : ℕ) (e : Effect) (a : Act) → MakesFree h (effect_move i taken w e a h)
  effect_free w e act.Nothing = (free, inl refl)
  effect_free w e (act.Memory m) = access_free w e m (reserved_with m m.load h.reserved) (h.lines (m.addr / 32))
  effect_free w e (act.Conditional rd m) = conditional_free w e m
  effect_free w e (act.Begin p) = begin_free w e p h.tx
  effect_free w e act.Commit = commit_free w e h.tx
  effect_free w e act.Abort = tabort_free h.tx
  effect_free w e act.Call = (free, inl refl)
  effect_free w e act.Break = (free, inl refl)

  module _ (s : Setting) where
    -- one that retires a word, or traps
    instruction_free : (r : Result Effect Cause) → MakesFree h (instruction_move s i taken r h)
    instruction_free (Err c) = trap_free c h.tx
    instruction_free (Ok e) = effect_free (word_of s h) e e.act

    -- in a transaction
    inside_free : (t : Transaction) (o : Option AbortCause) → MakesFree h (transaction_move s i taken t o h)
    inside_free t None = instruction_free (next_of s (flat_hart h))
    inside_free t (Some cause) = abort_free cause t t.log

    -- so whatever its core makes, it has none
    move_free : (o : Option Transaction) → MakesFree h (tx_move s i taken o h)
    move_free None = instruction_free (next_of s (flat_hart h))
    move_free (Some t) = inside_free t t.aborting

  -- ---- a block that it lacks

  -- a line that goes back by a Put, or is dropped, leaves it without a request
  put_free : (b : ℕ) (l : Line) (o : Option PutOut) → IfSome (write_back_row_if_none_out i b l o h) HasNone
  put_free b l None = free
  put_free b l (Some p) = tt

  -- whatever the line's state
  state_free : (b : ℕ) (l : Line) (z : LineState) → IfSome (evict_by z i b l h) HasNone
  state_free b l Shared = free
  state_free b l Exclusive = put_free b l h.put
  state_free b l Modified = put_free b l h.put

  -- an eviction leaves it so
  evict_free : (b : ℕ) (o : Option Line) → IfSome (evict_line i b o h) HasNone
  evict_free b None = tt
  evict_free b (Some l) = state_free b l l.state

  -- and so does one that makes way for a block
  stale_free : (o : Option HartResult) → IfSome o HasNone → IfSome (option_map no_longer_fresh o) (IsFreeOrAsks i h)
  stale_free None left = tt
  stale_free (Some t) left = inl (left, inl refl)

  -- where there is room it asks
  room_asks : (kind : Kind) (b : ℕ) (o : Option ℕ) → IfSome (ask_with_room i kind b o h) (IsFreeOrAsks i h)
  room_asks kind b None = inr (_, refl, (_, refl), refl, refl)
  room_asks kind b (Some v) = stale_free (evict_row i v h) (evict_free v (h.lines v))

  module _ (victim : ℕ → Option ℕ) where
    -- unless a Put of the block is out
    fetch_asks : (kind : Kind) (b : ℕ) → IfSome (fetch_row i victim kind b h) (IsFreeOrAsks i h)
    fetch_asks kind b = by (has_put_of b h.put)
      where
        by : (z : Bool) → IfSome (cond z None (ask_with_room i kind b (victim_for victim b (h.lines b)) h)) (IsFreeOrAsks i h)
        by true = tt
        by false = room_asks kind b (victim_for victim b (h.lines b))

    -- so a row asks, or leaves it without a request
    row_asks : (m : Move) → MakesFree h m → IfSome (move_row i victim m h) (IsFreeOrAsks i h)
    row_asks Rests made = tt
    row_asks (Makes t) made = inl made
    row_asks (Lacks kind b) made = fetch_asks kind b

-- ---- a core's row

module _ (s : Setting) (i taken : ℕ) (victim : ℕ → Option ℕ) (h : Hart) where
  -- it is enabled only where the hart runs and has no request
  enabled : IfSome (core_row s i taken victim h) (IsOf i h)
  enabled = by (is_running h.status && is_none h.request) refl
    where
      both : (o : Option HartResult) → h.status ≡ Running → IfSome o (IsFreeOrAsks i h) → IfSome o (IsOf i h)
      both None runs asks = tt
      both (Some t) runs asks = (runs, asks)

      by : (b : Bool) → (is_running h.status && is_none h.request) ≡ b → IfSome (move_row i victim (cond b (tx_move s i taken h.tx h) Rests) h) (IsOf i h)
      by false is = tt
      by true is =
          let parts = and_parts (is_running h.status) (is_none h.request) is in
          let free : h.request ≡ None = free_is h.request parts.1 in
          let move = tx_move s i taken h.tx h in
          both (move_row i victim move h) (runs_is h.status parts.0) (row_asks i taken h free victim move (move_free i taken h free s h.tx))

  module _ (t : HartResult) (row : core_row s i taken victim h ≡ Some t) where
    -- it leaves the hart free, or asks
    pub core_asks : LeavesFree h t ⊎ AsksFor i t
    core_asks = (subst (λ o. IfSome o (IsOf i h)) row enabled).1

    -- and is one of a hart that runs
    pub core_runs : h.status ≡ Running
    core_runs = (subst (λ o. IfSome o (IsOf i h)) row enabled).0

-- ---- messages that are sent

-- nothing is in flight
abbrev IsQuiet : State → Type 0
IsQuiet v = v.flights ≡ []

-- a message that is sent is in flight then
sent_flies : (old new : Mail) (n next : ℕ) (m : Message) → SendsOn old n (m ∷ []) new next → (number : ℕ) × (f : Flight) × (new number ≡ Some f)
sent_flies old new n next m (number, f, lowest, is, has, (same, last)) = (number, f, ap (λ (mail : Mail). mail number) same ∙ put_there number (Some f) old)

-- so where nothing is in flight then, none was sent
quiet_sends : (old : Mail) (flights : List Flight) (n next : ℕ) (o : Option Message) → flights ≡ [] → SendsOn old n (option_to_list o) (mail_of flights) next → o ≡ None
quiet_sends old flights n next None quiet sends = refl
quiet_sends old flights n next (Some m) quiet sends =
    let flies = sent_flies old (mail_of flights) n next m sends in
    absurd (none-some flies.1 (sym (ap (λ (fs : List Flight). flight_at fs flies.0) quiet) ∙ flies.2))

-- where nothing was in flight, and one message is sent, it is all that is in flight
module _ (old : Mail) (empty : (number : ℕ) → old number ≡ None) (flights : List Flight) (order : AreInOrder flights) (n next : ℕ) (m : Message) (sends : SendsOn old n (m ∷ []) (mail_of flights) next) where
  all_now : (f : Flight) × (flights ≡ f ∷ []) × (shown_message f.message ≡ m) × (next ≡ number_after n) × ((n < number_after n) → f.number ≡ n)
  all_now = by sends
    where
      by : SendsOn old n (m ∷ []) (mail_of flights) next → (f : Flight) × (flights ≡ f ∷ []) × (shown_message f.message ≡ m) × (next ≡ number_after n) × ((n < number_after n) → f.number ≡ n)
      by (number, f, is_next, is, has, (new, last)) =
          (f, alone_is old flights f number empty order has new, is, last, λ goes_on. has ∙ next_is old n number goes_on (λ some. let no : IsSome {T = Flight} None = subst (λ (o : Option Flight). IsSome o) (empty n) some in cc) is_next)

  -- it alone counts as sent, until numbers end
  sums_now : n < next → (s : Sum) → count_by (was_sent n s) flights ≡ one_if (is_same s (sum_of_message m))
  sums_now goes_on s = by all_now
    where
      by : (f : Flight) × (flights ≡ f ∷ []) × (shown_message f.message ≡ m) × (next ≡ number_after n) × ((n < number_after n) → f.number ≡ n) → count_by (was_sent n s) flights ≡ one_if (is_same s (sum_of_message m))
      by (f, all, is, last, number) =
          let first : f.number ≡ n = number (subst (λ (k : ℕ). n < k) last goes_on) in
          let one : count_by (was_sent n s) (f ∷ []) ≡ one_if (was_sent n s f) + 0 = counted_first (was_sent n s) f [] in
          let counts : one_if (was_sent n s f) ≡ one_if (is_same s (sum_of_message m)) =
          late_one n s f (omega (arith, first)) ∙ ap (λ (x : Message). one_if (is_same s (sum_of_message x))) is in
          let same : count_by (was_sent n s) flights ≡ count_by (was_sent n s) (f ∷ []) = ap (λ (fs : List Flight). count_by (was_sent n s) fs) all in
          omega (arith, one, counts, same)

  -- one is in flight
  flying_now : length flights ≡ 1
  flying_now = ap (λ (fs : List Flight). length fs) all_now.1

  -- a message that is in flight is it
  message_now : (other : ℕ) (a : Message) → in_flight flights other ≡ Some a → a ≡ m
  message_now other a at = by all_now
    where
      shows : Option Flight → Option Message
      shows o = option_map shown_message (option_map (λ (x : Flight). x.message) o)

      by : (f : Flight) × (flights ≡ f ∷ []) × (shown_message f.message ≡ m) × (next ≡ number_after n) × ((n < number_after n) → f.number ≡ n) → a ≡ m
      by (f, all, is, last, number) = by_number (f.number == other) (sym (ap (λ (fs : List Flight). in_flight fs other) all) ∙ at)
        where
          by_number : (b : Bool) → shows (cond b (Some f) None) ≡ Some a → a ≡ m
          by_number true there = sym (same_Some (shown_message f.message) a there) ∙ is
          by_number false there = absurd (none-some a there)

-- ---- a step of a hart's core

-- it isn't enabled, and nothing changes
record Idles (sets : ℕ) (v : State) (e : Option Entry) (w : State) : Type 0 where
  entry : e ≡ None
  harts : hart_at sets w.seats ≡ hart_at sets v.seats
  sent : w.sent ≡ v.sent

-- or the row of one of the machine's harts is made
record MakesRow (sets : ℕ) (v : State) (i : ℕ) (e : Option Entry) (w : State) : Type 0 where
  result : HartResult
  within : i < length v.seats
  row : core_row (setting_of v) i v.stamps (victims sets v (Core i)) (hart_at sets v.seats i) ≡ Some result
  entry : e ≡ result.entry
  harts : hart_at sets w.seats ≡ put_at i result.hart (hart_at sets v.seats)
  left : Mail
  stays : (number : ℕ) (f : Flight) → left number ≡ Some f → mail_of v.flights number ≡ Some f
  sends : SendsOn left v.sent (option_to_list result.sent) (mail_of w.flights) w.sent

-- what a hart asked for in a step of its core: just its Get was sent, and is all that is in flight. Once numbers have come to their end they don't tell that it was sent
pub record GetIsSent (sets : ℕ) (v : State) (i : ℕ) (r : Request) (w : State) : Type 0 where
  pub sums : v.sent < w.sent → (s : Sum) → count_by (was_sent v.sent s) w.flights ≡ one_if (is_same s (Sent sort.Get))
  pub flying : length w.flights ≡ 1
  pub message : (number : ℕ) (m : Message) → in_flight w.flights number ≡ Some m → (stamp : Option Stamp) × (m ≡ Get i r.block r.kind stamp)

module _ (g : Geometry) (v w : State) (i : ℕ) (e : Option Entry) (step : MakesStep g v (Core i) e w) where
  -- the row of its core
  abbrev row_of : Option HartResult
  row_of = core_row (setting_of v) i v.stamps (victims g.sets v (Core i)) (hart_at g.sets v.seats i)

  -- the step does nothing, or makes the row
  does : Idles g.sets v e w ⊎ MakesRow g.sets v i e w
  does = by (nat_lt i (length v.seats)) refl step.made
    where
      idles : BringsAbout g.sets v (no_change (shown g.sets v)) e w → Idles g.sets v e w
      idles about = record { entry = about.entry; harts = ap (λ (m : Machine). m.harts) about.machine; sent = about.sends.1 }

      makes : i < length v.seats → (t : HartResult) → row_of ≡ Some t → BringsAbout g.sets v (hart_change i t (shown g.sets v)) e w → MakesRow g.sets v i e w
      makes within t row about = record {
        result = t;
        within = within;
        row = row;
        entry = about.entry;
        harts = ap (λ (m : Machine). m.harts) about.machine;
        left = about.left;
        stays = about.leaves.stays;
        sends = about.sends;
      }

      by_row : i < length v.seats → (o : Option HartResult) → row_of ≡ o → BringsAbout g.sets v (hart_change_if i o (shown g.sets v)) e w → Idles g.sets v e w ⊎ MakesRow g.sets v i e w
      by_row within None row about = inl (idles about)
      by_row within (Some t) row about = inr (makes within t row about)

      by : (b : Bool) → nat_lt i (length v.seats) ≡ b → BringsAbout g.sets v (cond b (hart_change_if i row_of (shown g.sets v)) (no_change (shown g.sets v))) e w
          → Idles g.sets v e w ⊎ MakesRow g.sets v i e w
      by true is about = by_row (ltb-true i (length v.seats) is) row_of refl about
      by false is about = inl (idles about)

  -- no other hart changes
  pub others_stay : (j : ℕ) → j ≢ i → hart_at g.sets w.seats j ≡ hart_at g.sets v.seats j
  others_stay j ne = by does
    where
      by : Idles g.sets v e w ⊎ MakesRow g.sets v i e w → hart_at g.sets w.seats j ≡ hart_at g.sets v.seats j
      by (inl idle) = ap (λ (harts : ℕ → Hart). harts j) idle.harts
      by (inr made) = ap (λ (harts : ℕ → Hart). harts j) made.harts ∙ put_elsewhere i j made.result.hart (hart_at g.sets v.seats) ne

  -- it is what it was, or what the row leaves
  same_hart : Idles g.sets v e w → hart_at g.sets w.seats i ≡ hart_at g.sets v.seats i
  same_hart idle = ap (λ (harts : ℕ → Hart). harts i) idle.harts

  hart_now : (made : MakesRow g.sets v i e w) → hart_at g.sets w.seats i ≡ made.result.hart
  hart_now made = ap (λ (harts : ℕ → Hart). harts i) made.harts ∙ put_there i made.result.hart (hart_at g.sets v.seats)

  -- and a row leaves it free, or asks
  asks_or_free : (made : MakesRow g.sets v i e w) → LeavesFree (hart_at g.sets v.seats i) made.result ⊎ AsksFor i made.result
  asks_or_free made = core_asks (setting_of v) i v.stamps (victims g.sets v (Core i)) (hart_at g.sets v.seats i) made.result made.row

  -- where it was free, and nothing is in flight behind the step, it is free still
  pub quiet_frees : IsQuiet w → IsFree (hart_at g.sets v.seats i) → IsFree (hart_at g.sets w.seats i)
  quiet_frees quiet free = by does
    where
      by_row : (made : MakesRow g.sets v i e w) → LeavesFree (hart_at g.sets v.seats i) made.result ⊎ AsksFor i made.result → IsFree (hart_at g.sets w.seats i)
      by_row made (inl (none, inl stale)) = subst IsFree (sym (hart_now made)) (none, stale)
      by_row made (inl (none, inr (untold, same))) = subst IsFree (sym (hart_now made ∙ same)) free
      by_row made (inr (r, is, (stamp, sent), entry, fresh)) =
          absurd (none-some _ (sym (quiet_sends made.left w.flights v.sent w.sent made.result.sent quiet made.sends) ∙ sent))

      by : Idles g.sets v e w ⊎ MakesRow g.sets v i e w → IsFree (hart_at g.sets w.seats i)
      by (inl idle) = subst IsFree (sym (same_hart idle)) free
      by (inr made) = by_row made (asks_or_free made)

  -- where it wasn't fresh, it isn't
  pub still_stale : (hart_at g.sets v.seats i).fresh ≡ false → (hart_at g.sets w.seats i).fresh ≡ false
  still_stale stale = by does
    where
      by_row : (made : MakesRow g.sets v i e w) → LeavesFree (hart_at g.sets v.seats i) made.result ⊎ AsksFor i made.result → (hart_at g.sets w.seats i).fresh ≡ false
      by_row made (inl (none, inl gone)) = ap (λ (h : Hart). h.fresh) (hart_now made) ∙ gone
      by_row made (inl (none, inr (untold, same))) = ap (λ (h : Hart). h.fresh) (hart_now made ∙ same) ∙ stale
      by_row made (inr (r, is, sent, entry, fresh)) = ap (λ (h : Hart). h.fresh) (hart_now made) ∙ fresh

      by : Idles g.sets v e w ⊎ MakesRow g.sets v i e w → (hart_at g.sets w.seats i).fresh ≡ false
      by (inl idle) = ap (λ (h : Hart). h.fresh) (same_hart idle) ∙ stale
      by (inr made) = by_row made (asks_or_free made)

  -- where nothing is in flight behind the step, no message was sent
  pub none_sent_quietly : IsQuiet w → w.sent ≡ v.sent
  none_sent_quietly quiet = by does
    where
      by : Idles g.sets v e w ⊎ MakesRow g.sets v i e w → w.sent ≡ v.sent
      by (inl idle) = idle.sent
      by (inr made) =
          let none : made.result.sent ≡ None = quiet_sends made.left w.flights v.sent w.sent made.result.sent quiet made.sends in
          (subst (λ (o : Option Message). SendsOn made.left v.sent (option_to_list o) (mail_of w.flights) w.sent) none made.sends).1

  -- where nothing was in flight, and it has a request behind the step but had none before, it has asked
  pub asked : IsQuiet v → (hart_at g.sets v.seats i).request ≡ None → (r : Request) → (hart_at g.sets w.seats i).request ≡ Some r → GetIsSent g.sets v i r w
  asked quiet free r out = by does
    where
      nothing : (made : MakesRow g.sets v i e w) (number : ℕ) → made.left number ≡ None
      nothing made number = nothing_in (made.left number) (λ f at. none-some f (sym (ap (λ (fs : List Flight). flight_at fs number) quiet) ∙ made.stays number f at))

      gets : (made : MakesRow g.sets v i e w) (stamp : Option Stamp) → made.result.sent ≡ Some (Get i r.block r.kind stamp) → GetIsSent g.sets v i r w
      gets made stamp sent =
          let get : Message = Get i r.block r.kind stamp in
          let sends : SendsOn made.left v.sent (get ∷ []) (mail_of w.flights) w.sent =
          subst (λ (o : Option Message). SendsOn made.left v.sent (option_to_list o) (mail_of w.flights) w.sent) sent made.sends in
          record {
            sums = sums_now made.left (nothing made) w.flights step.order v.sent w.sent get sends;
            flying = flying_now made.left (nothing made) w.flights step.order v.sent w.sent get sends;
            message = λ number m at. (stamp, message_now made.left (nothing made) w.flights step.order v.sent w.sent get sends number m at);
          }

      request_now : (made : MakesRow g.sets v i e w) → made.result.hart.request ≡ Some r
      request_now made = sym (ap (λ (h : Hart). h.request) (hart_now made)) ∙ out

      by_row : (made : MakesRow g.sets v i e w) → LeavesFree (hart_at g.sets v.seats i) made.result ⊎ AsksFor i made.result → GetIsSent g.sets v i r w
      by_row made (inl left) = absurd (none-some r (sym left.0 ∙ request_now made))
      by_row made (inr (q, is, (stamp, sent), entry, fresh)) =
          let same : q ≡ r = same_Some q r (sym is ∙ request_now made) in
          gets made stamp (sent ∙ ap (λ (x : Request). Some (Get i x.block x.kind stamp)) same)

      by : Idles g.sets v e w ⊎ MakesRow g.sets v i e w → GetIsSent g.sets v i r w
      by (inl idle) = absurd (none-some r (sym (ap (λ (h : Hart). h.request) (same_hart idle) ∙ free) ∙ out))
      by (inr made) = by_row made (asks_or_free made)

-- a step that gives an entry
module _ (g : Geometry) (v w : State) (i : ℕ) (e : Entry) (step : MakesStep g v (Core i) (Some e) w) where
  -- makes a row
  row_made : MakesRow g.sets v i (Some e) w
  row_made = by (does g v w i (Some e) step)
    where
      by : Idles g.sets v (Some e) w ⊎ MakesRow g.sets v i (Some e) w → MakesRow g.sets v i (Some e) w
      by (inl idle) = absurd (none-some e (sym idle.entry))
      by (inr made) = made

  -- leaves its hart free
  pub told_frees : IsFree (hart_at g.sets w.seats i)
  told_frees = by (asks_or_free g v w i (Some e) step row_made)
    where
      by : LeavesFree (hart_at g.sets v.seats i) row_made.result ⊎ AsksFor i row_made.result → IsFree (hart_at g.sets w.seats i)
      by (inl (none, inl stale)) = subst IsFree (sym (hart_now g v w i (Some e) step row_made)) (none, stale)
      by (inl (none, inr (untold, same))) = absurd (none-some e (sym (row_made.entry ∙ untold)))
      by (inr (r, is, sent, entry, fresh)) = absurd (none-some e (sym (row_made.entry ∙ entry)))

  -- is one of a hart of the machine, which runs
  pub runs : (i < length v.seats) × ((hart_at g.sets v.seats i).status ≡ Running)
  runs = (row_made.within, core_runs (setting_of v) i v.stamps (victims g.sets v (Core i)) (hart_at g.sets v.seats i) row_made.result row_made.row)
