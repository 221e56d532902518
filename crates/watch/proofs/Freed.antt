-- Harts that are free: they wait for no block, and aren't fresh. Steps of cores leave them so while nothing is in flight behind them, and where a request is served all but its hart stay free.
use Rattle.std.proofs.Common.{◌≡◌, ◌≢◌, ◌++◌, ◌∙◌, ℕ, zero, suc, Bool, true, false, not, cond, List, [], ◌∷◌, length, Option, Some, None, inl, inr, refl, sym, ap, subst}
use Rattle.std.specs.Prelude.{◌==◌, ◌&&◌, ◌⊎◌, ⊤, nat_lt, if◌then◌else◌}
use Rattle.std.specs.Option.{option_map_or}
use Rattle.std.proofs.lemmas.Bool.{cases_eq, eq-eqb}
use Rattle.std.proofs.lemmas.Option.{none-some, same_Some}
use Rattle.words.specs.declared.stamp.Stamp.{Stamp}
use Rattle.words.specs.declared.entry.Entry.{Entry}
use Rattle.words.specs.declared.entry.Step.TheVariants.{Core}
use Rattle.words.specs.declared.message.Kind.{Kind as Want}
use Rattle.flat.proofs.Maps.{put_there}
use Rattle.directory.specs.declared.rules.Request.{Request}
use Rattle.hart.specs.declared.reply.ForwardAnswer.{ForwardAnswer}
use Rattle.hart.specs.declared.reply.ForwardAnswer.TheVariants as answer
use Rattle.hart.specs.declared.reply.Settled.{Settled}
use Rattle.hart.specs.declared.reply.Settled.TheVariants as request
use Rattle.protocol.specs.Caches.{Geometry}
use Rattle.protocol.specs.Hart.{Hart, overflow_of}
use Rattle.protocol.specs.HartMessages.{acknowledge_row, message_row, refuse_row}
use Rattle.protocol.specs.Lines.{refuses}
use Rattle.protocol.specs.Machine.{Machine, delivery, hart_change, no_change}
use Rattle.protocol.specs.Network.{taken}
use Rattle.protocol.specs.Messages.{Message, Forward, Granted, receiver_of}
use Rattle.machine.specs.Making.{MakesStep}
use Rattle.machine.specs.Serving.{Arrival, Arrives, ArriveAll, IsServed, answer_arrivals, arrivals_behind, end_arrivals, end_of, forward_arrivals, get_arrival}
use Rattle.machine.specs.States.{State, hart_at, shown}
use Rattle.machine.specs.Turns.{TakesPlain}
use Rattle.machine.specs.declared.serving.Service.{Service}
use Rattle.watch.specs.declared.kinds.Kind.TheVariants.{Held}
use Rattle.watch.specs.Kinds.{held_behind, waits_behind}
use Rattle.watch.specs.Runs.{AreFree, IsFree}
use Rattle.watch.proofs.CoreAsks.{others_stay, told_frees}

-- ---- steps of cores

module _ (g : Geometry) where
  -- a step of a hart's core that leaves it free leaves all free
  pub step_frees : (v w : State) (i : ℕ) (e : Option Entry) → MakesStep g v (Core i) e w → IsFree (hart_at g.sets w.seats i) → AreFree (shown g.sets v) → AreFree (shown g.sets w)
  step_frees v w i e step left free j = elim (cases_eq j i) [
    | inl same ↦ subst (λ k. IsFree (hart_at g.sets w.seats k)) (sym same) left
    | inr ne ↦ subst IsFree (sym (others_stay g v w i e step j ne)) (free j)
  ]

  -- and so do plain words
  pub words_free : (v w : State) (after last : ℕ) (es : List Entry) → TakesPlain g v after es w last → AreFree (shown g.sets v) → AreFree (shown g.sets w)
  words_free v w after last [] (same, is) free = subst (λ (m : State). AreFree (shown g.sets m)) (sym same) free
  words_free v w after last (e ∷ es) (i, u, quiescent, turn, plain, rest, later) free =
      words_free u w i last es later (step_frees v u i (Some e) turn.made (told_frees g v u i e turn.made) free)

-- ---- a request that is served

-- a hart that hears a forwarded request is fresh behind it if it was before
forward_keeps : (n j b : ℕ) (want : Want) (r : ℕ) (stamp : Option Stamp) (h : Hart) → (message_row n j (Forward j b want r stamp) h).hart.fresh ≡ h.fresh
forward_keeps n j b want r stamp h = by (refuses (h.lines b) (overflow_of h.tx) want)
  where
    by : (c : Bool) → (cond c (refuse_row j b r stamp h) (acknowledge_row j b want r h)).hart.fresh ≡ h.fresh
    by true = refl
    by false = refl

-- what arrives goes to no hart but this one, or is a forwarded request
abbrev IsAside : ℕ → Arrival → Type 0
IsAside r a = ((j : ℕ) → receiver_of a.message ≡ Some j → j ≡ r) ⊎ ((j b : ℕ) × (want : Want) × (q : ℕ) × (stamp : Option Stamp) × (a.message ≡ Forward j b want q stamp))

abbrev AllAside : ℕ → List Arrival → Type 0
AllAside r [] = ⊤
AllAside r (a ∷ ds) = IsAside r a × AllAside r ds

aside_both : (r : ℕ) (ds bs : List Arrival) → AllAside r ds → AllAside r bs → AllAside r (ds ++ bs)
aside_both r [] bs first later = later
aside_both r (a ∷ ds) bs (one, first) later = (one, aside_both r ds bs first later)

module _ (g : Geometry) where
  heard : (v u : State) (a : Arrival) → Arrives g v a u → (j b : ℕ) (want : Want) (q : ℕ) (stamp : Option Stamp) → a.message ≡ Forward j b want q stamp
      → (hart_at g.sets u.seats j).fresh ≡ (hart_at g.sets v.seats j).fresh
  heard v u a first j b want q stamp is =
      ap (λ (m : Machine). (m.harts j).fresh) (first.turn 0).made.made.machine
      ∙ ap (λ (o : Option Message). ((delivery first.number o (shown g.sets v)).machine.harts j).fresh) (first.here ∙ ap (λ m. Some m) is)
      ∙ by (nat_lt j (length v.seats))
    where
      by : (c : Bool) → ((cond c (hart_change j (message_row (length v.seats) j (Forward j b want q stamp) (hart_at g.sets v.seats j)) (record (shown g.sets v) { net = taken first.number (shown g.sets v).net })) (no_change (shown g.sets v))).machine.harts j).fresh ≡ (hart_at g.sets v.seats j).fresh
      by true =
          ap (λ (h : Hart). h.fresh) (put_there j (message_row (length v.seats) j (Forward j b want q stamp) (hart_at g.sets v.seats j)).hart (hart_at g.sets v.seats))
          ∙ forward_keeps (length v.seats) j b want q stamp (hart_at g.sets v.seats j)
      by false = refl

  one_keeps : (v u : State) (a : Arrival) (r : ℕ) → Arrives g v a u → IsAside r a → (j : ℕ) → j ≢ r → (hart_at g.sets u.seats j).fresh ≡ (hart_at g.sets v.seats j).fresh
  one_keeps v u a r first (inl only) j ne = ap (λ (h : Hart). h.fresh) (first.others j (λ e. ne (only j e)))
  one_keeps v u a r first (inr (i, b, want, q, stamp, is)) j ne = elim (cases_eq j i) [
    | inl same ↦ subst (λ k. (hart_at g.sets u.seats k).fresh ≡ (hart_at g.sets v.seats k).fresh) (sym same) (heard v u a first i b want q stamp is)
    | inr apart ↦ ap (λ (h : Hart). h.fresh) (first.others j (λ e. apart (sym (same_Some i j (sym (ap receiver_of is) ∙ e)))))
  ]

  all_keep : (v : State) (ds : List Arrival) (w : State) (r : ℕ) → ArriveAll g v ds w → AllAside r ds → (j : ℕ) → j ≢ r → (hart_at g.sets w.seats j).fresh ≡ (hart_at g.sets v.seats j).fresh
  all_keep v [] w r same aside j ne = ap (λ (m : State). (hart_at g.sets m.seats j).fresh) same
  all_keep v (a ∷ ds) w r (u, first, rest) (one, aside) j ne = all_keep u ds w r rest aside j ne ∙ one_keeps v u a r first one j ne

-- the messages of a request that is served
module _ (q : Request) where
  forwards_aside : (xs : List (ℕ × ForwardAnswer)) → AllAside q.requester (forward_arrivals q xs)
  forwards_aside [] = tt
  forwards_aside (x ∷ xs) = (inr (_, _, _, _, _, refl), forwards_aside xs)

  own : (j : ℕ) → Some q.requester ≡ Some j → j ≡ q.requester
  own j e = sym (same_Some q.requester j e)

  answers_aside : (xs : List (ℕ × ForwardAnswer)) (t : Settled) → AllAside q.requester (answer_arrivals q xs t)
  answers_aside [] t = tt
  answers_aside ((i, answer.Ack content) ∷ []) t = (inl own, tt)
  answers_aside ((i, answer.Nack stamp) ∷ []) t = (inl own, tt)
  answers_aside ((i, answer.Ack content) ∷ y ∷ ys) t = (inl own, answers_aside (y ∷ ys) t)
  answers_aside ((i, answer.Nack stamp) ∷ y ∷ ys) t = (inl own, answers_aside (y ∷ ys) t)

  ends_aside : (t : Settled) → AllAside q.requester (end_arrivals (end_of q t))
  ends_aside request.Waiting = tt
  ends_aside (request.Refused b) = (inl (λ j e. absurd (none-some j e)), tt)
  ends_aside (request.Granted b content) = (inl (λ j e. absurd (none-some j e)), tt)

  every_aside : (granted : Granted) (xs : List (ℕ × ForwardAnswer)) (t : Settled) → AllAside q.requester (get_arrival q granted xs ∷ arrivals_behind q granted xs t)
  every_aside granted xs t = (
    inl (λ j e. absurd (none-some j e)),
    (
      inl own,
      aside_both q.requester (forward_arrivals q xs ++ answer_arrivals q xs t) (end_arrivals (end_of q t))
          (aside_both q.requester (forward_arrivals q xs) (answer_arrivals q xs t) (forwards_aside xs) (answers_aside xs t)) (ends_aside t),
    ),
  )

-- so all but its hart stay free
pub service_frees : (g : Geometry) (v w : State) (x : Service) (xs : List (ℕ × ForwardAnswer)) (is : IsServed g v x xs w) (j : ℕ) → j ≢ is.request.requester
    → IsFree (hart_at g.sets v.seats j) → IsFree (hart_at g.sets w.seats j)
service_frees g v w x xs is j ne (none, stale) = (
  is.waits j ne ∙ none,
  all_keep g v (get_arrival is.request is.granted xs ∷ arrivals_behind is.request is.granted xs is.settled) w is.request.requester (is.mid, is.first, is.rest)
      (every_aside is.request is.granted xs is.settled) j ne ∙ stale,
)

-- where no other hart waits, none is held behind a request
module _ (w : Machine) (r b : ℕ) (none : (j : ℕ) → j ≢ r → (w.harts j).request ≡ None) where
  no_one_waits : (j : ℕ) → waits_behind w r b j ≡ false
  no_one_waits j = elim (cases_eq j r) [
    | inl e ↦ ap (λ c. not c && option_map_or (λ x. x.block == b) (w.harts j).request false) (eq-eqb j r e)
    | inr ne ↦ ap (λ o. not (j == r) && option_map_or (λ x. x.block == b) o false) (none j ne) ∙ and_false (not (j == r))
  ]
    where
      and_false : (c : Bool) → c && false ≡ false
      and_false true = refl
      and_false false = refl

  pub none_behind : (n : ℕ) → held_behind w r b n ≡ []
  unfolding held_behind
  none_behind zero = refl
  none_behind (suc n) = ap (λ l. l ++ (if waits_behind w r b n then (n, Held) ∷ [] else [])) (none_behind n) ∙ ap (λ c. if c then (n, Held) ∷ [] else []) (no_one_waits n)
