-- A core step of a hart is a step of the machine.
use Rattle.std.proofs.Common.{◌≡◌, ◌<◌, ◌≤◌, ℕ, List, [], length, Option, Some, None, refl, sym, ap, subst, ◌∙◌}
use Rattle.std.specs.Prelude.{option_to_list, IsSome, IfSome, IfNone, false}
use Rattle.std.specs.Option.{option_map, option_map_or, option_and_then}
use Rattle.std.proofs.lemmas.Option.{slice_get_past}
use Rattle.flat.specs.State.{idle}
use Rattle.protocol.specs.Lines.{Line}
use Rattle.protocol.specs.Start.{first_hart}
use Rattle.words.specs.declared.entry.Step.TheVariants.{Core}
use Rattle.table.specs.Program.{Segment}
use Rattle.protocol.specs.Messages.{shown as shown_message}
use Rattle.protocol.specs.Hart.{Hart, HartResult, gives, stamp_of}
use Rattle.protocol.specs.Caches.{Geometry, HasRoom, MayName}
use Rattle.protocol.specs.Core.{Move, Rests, Makes, Lacks, core_move, core_row}
use Rattle.protocol.specs.Machine.{MayLack, MayNameIn, change_of, stamps_after}
use Rattle.network.specs.Flights.{AreInOrder}
use Rattle.directory.specs.Blocks.{KeepsUsed}
use Rattle.hart.specs.declared.reply.CoreStep.{CoreStep}
use Rattle.hart.specs.declared.reply.CommonStep.{CommonStep}
use Rattle.hart.specs.declared.reply.Local.TheVariants.{Retired}
use Rattle.words.specs.declared.entry.Entry.{Entry}
use Rattle.hart.specs.Locals.{FollowsAlone, RetiresPlain}
use Rattle.hart.specs.Places.{KeepsWays}
use Rattle.hart.specs.Shown.{shown_hart, shown_tx, lines_of}
use Rattle.hart.specs.Rows.{setting_of as hart_setting, victim_of, advanced}
use Rattle.machine.specs.Mail.{SendsOn, mail_of}
use Rattle.machine.specs.Making.{BringsAbout, MakesStep, AllKeepWays, AllKeepLogs, victims}
use Rattle.machine.specs.Rows.{stepped, asking}
use Rattle.machine.specs.States.{Seat, State, shown, geometry, hart_at, setting_of, IsSeated, IsSound}
use Rattle.machine.proofs.Acting.{Acts, seat_before, hart_before, rests_still}
use Rattle.machine.proofs.Made.{steps_of}
use Rattle.machine.proofs.Sending.{all_left}
use Rattle.machine.proofs.Steps.{of_none, row_does, row_rests}
use Rattle.machine.proofs.Sound.{still_sound}
use Rattle.machine.proofs.Staying.{seats_stay, others_stay, logs_stay, other_logs_stay}

-- victims that may be named for every block may be named for the one that is lacked
pub may_lack : (g : Geometry) (h : Hart) (victim : ℕ → Option ℕ) (move : Move) → ((b : ℕ) → MayName g h.lines b (victim b)) → MayLack g h victim move
may_lack g h victim Rests named = tt {0}
may_lack g h victim (Makes t) named = tt {0}
may_lack g h victim (Lacks kind b) named = λ e. named b

-- the cache's victims
abbrev pub Names : ℕ → ℕ → Seat → Type 0
Names sets ways old = (b : ℕ) → MayName (geometry sets ways) (lines_of sets old.hart.cache) b (victim_of sets old.hart.cache b)

-- what a hart's core did, as its row has it
abbrev pub MakesOf : ℕ → List Segment → ℕ → Seat → Seat → Option CoreStep → Type 0
MakesOf sets segments taken old new made =
    core_row (hart_setting segments old.hart) old.hart.index taken (victim_of sets old.hart.cache) (shown_hart sets old.output old.hart) ≡ option_map (stepped sets new) made

module _ (sets ways i : ℕ) (v w : State) (old new : Seat) (sound : IsSound sets ways v) (a : Acts i v w old new) where
  seated : IsSeated (setting_of v) i old.hart
  seated = sound.seats i old (seat_before i v w old new a)

  setting_is : hart_setting v.program.segments old.hart ≡ setting_of v
  setting_is = λ k. record { segments = v.program.segments; size = seated.size k; count = seated.harts k }

  row_of : (o : Option HartResult) → core_row (hart_setting v.program.segments old.hart) old.hart.index v.stamps (victim_of sets old.hart.cache) (shown_hart sets old.output old.hart) ≡ o
      → core_row (setting_of v) i v.stamps (victim_of sets old.hart.cache) (hart_at sets v.seats i) ≡ o
  row_of o does =
      ap (core_row (setting_of v) i v.stamps (victim_of sets old.hart.cache)) (hart_before sets i v w old new a)
      ∙ (λ k. core_row (sym setting_is k) (sym seated.index k) v.stamps (victim_of sets old.hart.cache) (shown_hart sets old.output old.hart))
      ∙ does

  named : Names sets ways old → MayNameIn (geometry sets ways) (shown sets v) (Core i) (victim_of sets old.hart.cache)
  named names = subst (λ h. MayLack (geometry sets ways) h (victim_of sets old.hart.cache) (core_move (setting_of v) i v.stamps h)) (sym (hart_before sets i v w old new a))
      (may_lack (geometry sets ways) (shown_hart sets old.output old.hart) (victim_of sets old.hart.cache) _ names)

  -- its victims are the step's
  victims_are : victim_of sets old.hart.cache ≡ victims sets v (Core i)
  victims_are = sym (ap (λ o b. option_and_then (λ (s : Seat). victim_of sets s.hart.cache b) o) (seat_before i v w old new a))

  -- so a change by them is the step's
  by_rule : (e : Option Entry) (x : State) → Names sets ways old → AllKeepWays sets v x → AllKeepLogs v x → BringsAbout sets v (change_of (victim_of sets old.hart.cache) (Core i) (shown sets v)) e x → x.directory ≡ v.directory → AreInOrder x.flights
      → MakesStep (geometry sets ways) v (Core i) e x
  by_rule e x names keep logs about same order = record {
    may = subst (MayNameIn (geometry sets ways) (shown sets v) (Core i)) victims_are (named names);
    made = subst (λ victim. BringsAbout sets v (change_of victim (Core i) (shown sets v)) e x) victims_are about;
    ways = keep;
    logs = logs;
    kept = subst KeepsUsed (sym same) sound.kept;
    order = order;
  }

  -- the core made a step, of which this came
  pub core_gives : (t : HartResult) → t.hart ≡ shown_hart sets new.output new.hart → Names sets ways old → KeepsWays sets old.hart.cache new.hart.cache
      → core_row (hart_setting v.program.segments old.hart) old.hart.index v.stamps (victim_of sets old.hart.cache) (shown_hart sets old.output old.hart) ≡ Some t
      → w.stamps ≡ stamps_after t.stamped v.stamps → SendsOn (mail_of v.flights) v.sent (option_to_list t.sent) (mail_of w.flights) w.sent → AreInOrder w.flights
      → MakesStep (geometry sets ways) v (Core i) t.entry w × IsSound sets ways w
  core_gives t hart names keeps does stamps sends order =
      let about = row_does sets i _ t v w old new (row_of (Some t) does) (record { acts = a; hart = sym hart; stamps = stamps; left = mail_of v.flights; leaves = all_left v.flights; sends = sends }) in
      let step : MakesStep (geometry sets ways) v (Core i) t.entry w = by_rule t.entry w names (others_stay sets i v w old new a keeps) (other_logs_stay i v w old new a) about a.directory order in
      (step, still_sound sets ways i v w old new (Core i) t.entry sound a order (steps_of (geometry sets ways) v (Core i) t.entry w step))

  pub core_makes : (made : CoreStep) → Names sets ways old → KeepsWays sets old.hart.cache new.hart.cache → MakesOf sets v.program.segments v.stamps old new (Some made) → w.stamps ≡ stamps_after made.stamped v.stamps
      → SendsOn (mail_of v.flights) v.sent (option_to_list (option_map shown_message made.message)) (mail_of w.flights) w.sent → AreInOrder w.flights
      → MakesStep (geometry sets ways) v (Core i) made.entry w × IsSound sets ways w
  core_makes made names keeps does stamps sends order = core_gives (stepped sets new made) refl names keeps does stamps sends order

  -- one of the common steps, in which its hart may ask for a block
  pub common_makes : (made : CommonStep) → Names sets ways old → KeepsWays sets old.hart.cache new.hart.cache
      → core_row (hart_setting v.program.segments old.hart) old.hart.index v.stamps (victim_of sets old.hart.cache) (shown_hart sets old.output old.hart) ≡ Some (advanced sets new.output new.hart made)
      → w.stamps ≡ stamps_after made.stamped v.stamps → SendsOn (mail_of v.flights) v.sent (option_to_list (option_map (asking i (stamp_of (shown_tx new.hart.tx))) made.asked)) (mail_of w.flights) w.sent → AreInOrder w.flights
      → MakesStep (geometry sets ways) v (Core i) made.entry w × IsSound sets ways w
  common_makes made names keeps does stamps sends order =
      core_gives (advanced sets new.output new.hart made) refl names keeps does stamps
      (subst (λ n. SendsOn (mail_of v.flights) v.sent (option_to_list (option_map (asking n (stamp_of (shown_tx new.hart.tx))) made.asked)) (mail_of w.flights) w.sent) (sym (a.stays.index ∙ seated.index)) sends) order

  -- or none is enabled
  pub core_rests : Names sets ways old → MakesOf sets v.program.segments v.stamps old new None → MakesStep (geometry sets ways) v (Core i) None v
  core_rests names does = by_rule None v names (seats_stay sets v v refl) (logs_stay v v refl) (row_rests sets i _ v (row_of None does) a.number) refl sound.order

  -- or the hart went on by itself
  pub advances : (r : Option Entry) → Names sets ways old → KeepsWays sets old.hart.cache new.hart.cache → IfSome r (λ e. FollowsAlone sets (hart_setting v.program.segments old.hart) old.hart new.hart (Retired e) × RetiresPlain old.hart.index e) → IfNone r (new ≡ old)
      → new.output ≡ old.output → w.flights ≡ v.flights → w.sent ≡ v.sent → w.stamps ≡ v.stamps
      → IfSome r (λ e. MakesStep (geometry sets ways) v (Core i) (Some e) w × RetiresPlain i e) × IsSound sets ways w
  advances (Some e) names keeps (does, plain) declined output flights sent stamps =
      let made : CoreStep = record { message = None; entry = Some e; stamped = false; output = None } in
      let row : MakesOf sets v.program.segments v.stamps old new (Some made) = (does old.output v.stamps (victim_of sets old.hart.cache)).row ∙ ap (λ o. Some (gives e (shown_hart sets o new.hart))) (sym output) in
      let all = core_makes made names keeps row stamps (ap mail_of flights, sent) (subst AreInOrder (sym flights) sound.order) in
      ((all.0, subst (λ n. RetiresPlain n e) seated.index plain), all.1)
  advances None names keeps does declined output flights sent stamps =
      (tt {0}, subst (IsSound sets ways) (sym (rests_still i v w old new a declined flights sent stamps)) sound)

-- Under a number that is no hart's

-- a hart without lines has room for every block
empty_room : (g : Geometry) (lines : ℕ → Option Line) (b : ℕ) → 0 < g.ways → ((c : ℕ) → lines c ≡ None) → HasRoom g lines b
empty_room g lines b some none = ([], some, λ c beside. absurd (not_there (lines c) (none c) beside.1))
  where
    not_there : (l : Option Line) → l ≡ None → IsSome l → ⊥
    not_there None e is = cc
    not_there (Some l) e is = cc

-- no core makes a step
pub core_of_none : (sets ways i : ℕ) (v : State) → IsSound sets ways v → length v.seats ≤ i → MakesStep (geometry sets ways) v (Core i) None v
core_of_none sets ways i v sound past =
    let none : hart_at sets v.seats i ≡ first_hart idle = ap (λ o. option_map_or (λ s. shown_hart sets s.output s.hart) o (first_hart idle)) (slice_get_past v.seats i past) in
    let no_victim : victims sets v (Core i) ≡ (λ b. None) = ap (λ o b. option_and_then (λ (s : Seat). victim_of sets s.hart.cache b) o) (slice_get_past v.seats i past) in
    let named : MayNameIn (geometry sets ways) (shown sets v) (Core i) (λ b. None) =
    subst (λ h. MayLack (geometry sets ways) h (λ b. None) (core_move (setting_of v) i v.stamps h)) (sym none)
    (may_lack (geometry sets ways) (first_hart idle) (λ b. None) _ (λ b. empty_room (geometry sets ways) (first_hart idle).lines b sound.some_way (λ c. refl))) in
    record { may = subst (MayNameIn (geometry sets ways) (shown sets v) (Core i)) (sym no_victim) named; made = of_none sets i v _ past; ways = seats_stay sets v v refl; logs = logs_stay v v refl; kept = sound.kept; order = sound.order }
