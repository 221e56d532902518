-- What a step leaves as it was.
use Rattle.std.proofs.Common.{◌≡◌, ◌≢◌, ◌<◌, ◌≤◌, ◌+◌, ◌⊎◌, inl, inr, ℕ, Bool, true, false, cond, List, [], ◌∷◌, Option, Some, None, refl, sym, ap, ◌∙◌, arith}
use Rattle.std.specs.Prelude.{nat_lt, ◌==◌, IsSome}
use Rattle.std.specs.Option.{option_map}
use Rattle.std.proofs.lemmas.Bool.{cases_lt}
use Rattle.std.proofs.lemmas.Bool.Decides.{nat_tests}
use Rattle.std.proofs.lemmas.Option.{same_Some}
use Rattle.words.specs.declared.entry.Entry.{Entry}
use Rattle.words.specs.declared.entry.Step.{Step}
use Rattle.words.specs.declared.entry.Step.TheVariants.{Core, Evict, Deliver}
use Rattle.network.specs.declared.net.Flight.{Flight}
use Rattle.network.specs.Flights.{AreNumbered, IsNextNumber, flight_at, number_after}
use Rattle.network.proofs.OneOrder.{number_is}
use Rattle.flat.proofs.Maps.{put_elsewhere}
use Rattle.protocol.specs.Caches.{Geometry}
use Rattle.protocol.specs.Core.{core_row}
use Rattle.protocol.specs.Directory.{Served, directory_row}
use Rattle.protocol.specs.Evict.{evict_row}
use Rattle.protocol.specs.Hart.{HartResult}
use Rattle.protocol.specs.HartMessages.{message_row}
use Rattle.protocol.specs.Machine.{Machine, Change, hart_change, hart_change_if, served_change, if_hart, arrival, delivery, change_of}
use Rattle.protocol.specs.Messages.{Message, block_of, receiver_of, shown as shown_message}
use Rattle.protocol.specs.Network.{taken}
use Rattle.flat.specs.Bytes.{put_at}
use Rattle.machine.specs.Mail.{Mail, SendsOn, mail_of}
use Rattle.machine.specs.Making.{change_by, victims}
use Rattle.machine.specs.States.{State, shown}
use Rattle.schedule.specs.Moments.{arrival_of}
use Rattle.schedule.specs.Runs.{Makes}
use Rattle.pages.specs.Flights.{first_told}
use Rattle.pages.specs.Moments.{actor_of}
use Rattle.pages.specs.Told.{block_told, ChangesWhatIsTold}

-- a change leaves what it does not name: every hart but one, and every entry but one
pub record Leaves (w : Machine) (actor block : Option ℕ) (c : Change) : Type 0 where
  pub harts : (i : ℕ) → actor ≢ Some i → c.machine.harts i ≡ w.harts i
  pub entries : (b : ℕ) → block ≢ Some b → c.machine.entries b ≡ w.entries b

another : {i j : ℕ} → Some i ≢ Some j → j ≢ i
another differ = λ same. differ (ap Some (sym same))

of_nothing : (w : Machine) (actor block : Option ℕ) (c : Change) → c.machine ≡ w → Leaves w actor block c
of_nothing w actor block c same = record { harts = λ i differ. ap (λ m. m.harts i) same; entries = λ b differ. ap (λ m. m.entries b) same }

of_if : (i : ℕ) (w : Machine) (block : Option ℕ) (c : Change) → Leaves w (Some i) block c → Leaves w (Some i) block (if_hart i w c)
of_if i w block c leaves = elim (nat_lt i w.setting.count) as (λ b. Leaves w (Some i) block (cond b c (record { machine = w; sent = []; entry = None }))) [
  | true ↦ leaves
  | false ↦ record { harts = λ j differ. refl; entries = λ b differ. refl }
]

of_hart : (i : ℕ) (t : HartResult) (w u : Machine) (block : Option ℕ) → u.harts ≡ w.harts → u.entries ≡ w.entries → Leaves w (Some i) block (hart_change i t u)
of_hart i t w u block harts entries = record {
  harts = λ j differ. put_elsewhere i j t.hart u.harts (another differ) ∙ ap (λ h. h j) harts;
  entries = λ b differ. ap (λ e. e b) entries;
}

of_row : (i : ℕ) (t : Option HartResult) (w : Machine) (block : Option ℕ) → Leaves w (Some i) block (hart_change_if i t w)
of_row i None w block = record { harts = λ j differ. refl; entries = λ b differ. refl }
of_row i (Some t) w block = of_hart i t w w block refl refl

of_served : (number b : ℕ) (s : Option Served) (w : Machine) → Leaves w None (Some b) (served_change number b s w)
of_served number b None w = record { harts = λ j differ. refl; entries = λ c differ. refl }
of_served number b (Some s) w = record { harts = λ j differ. refl; entries = λ c differ. put_elsewhere b c s.entry w.entries (another differ) }

of_arrival : (number : ℕ) (m : Message) (to : Option ℕ) (w : Machine) → Leaves w to (Some (block_of m)) (arrival number m to w)
of_arrival number m None w = of_served number (block_of m) (directory_row w.setting.count m (w.entries (block_of m)) (w.memory (block_of m))) w
of_arrival number m (Some i) w = of_if i w (Some (block_of m)) (hart_change i (message_row w.setting.count i m (w.harts i)) (record w { net = taken number w.net }))
    (of_hart i (message_row w.setting.count i m (w.harts i)) w (record w { net = taken number w.net }) (Some (block_of m)) refl refl)

of_delivery : (number : ℕ) (f : Option Flight) (w : Machine) → Leaves w (actor_of (Deliver number) f) (block_told f) (delivery number (option_map shown_message (option_map (λ x. x.message) f)) w)
of_delivery number None w = record { harts = λ j differ. refl; entries = λ c differ. refl }
of_delivery number (Some f) w = of_arrival number (shown_message f.message) (receiver_of (shown_message f.message)) w

of_step : (sets : ℕ) (v : State) (victim : ℕ → Option ℕ) (step : Step) → Leaves (shown sets v) (actor_of step (arrival_of v step)) (block_told (arrival_of v step)) (change_of victim step (shown sets v))
of_step sets v victim (Core i) =
    let w = shown sets v in
    of_if i w None (hart_change_if i (core_row w.setting i w.stamps victim (w.harts i)) w) (of_row i (core_row w.setting i w.stamps victim (w.harts i)) w None)
of_step sets v victim (Evict i b) =
    let w = shown sets v in
    of_if i w None (hart_change_if i (evict_row i b (w.harts i)) w) (of_row i (evict_row i b (w.harts i)) w None)
of_step sets v victim (Deliver number) = of_delivery number (flight_at v.flights number) (shown sets v)

-- where numbers have come to their end, they stay there
at_end : (ms : List Message) (old new : Mail) (n next : ℕ) → 18446744073709551615 ≤ n → SendsOn old (number_after n) ms new next → next ≡ 18446744073709551615
at_end [] old new n next end (same, is) = let last : number_after n ≡ 18446744073709551615 = grind arith in is ∙ last
at_end (m ∷ ms) old new n next end (at, g, free, told, number, rest) =
    let last : 18446744073709551615 ≤ number_after n = grind arith in
    at_end ms (put_at at (Some g) old) new (number_after n) next last rest

-- before, a message gets the next number, if those in flight have lower ones
is_next : (old : Mail) (n at : ℕ) → n < 18446744073709551615 → ((number : ℕ) (f : Flight) → old number ≡ Some f → number < n) → IsNextNumber old n at → at ≡ n
is_next old n at within below next =
    let after : number_after n ≡ n + 1 = grind arith in
    let low = next.below in
    elim (cases_lt at n) [
      | inl less ↦ absurd (taken (old n) refl (next.greatest n less (omega (arith, after))))
      | inr more ↦ omega (arith, after, low, more)
    ]
  where
    taken : (o : Option Flight) → old n ≡ o → IsSome o → ⊥
    taken None is some = cc
    taken (Some f) is some = let less : n < n = below n f is in omega (arith, less)

-- a message in flight after sends was in flight before, or has a number from the first on, if numbers haven't come to their end
sent_later : (ms : List Message) (old new : Mail) (n next : ℕ) → ((number : ℕ) (f : Flight) → old number ≡ Some f → number < n) → SendsOn old n ms new next
    → (number : ℕ) (f : Flight) → new number ≡ Some f → (old number ≡ Some f) ⊎ ((n ≤ f.number) ⊎ (next ≡ 18446744073709551615))
sent_later [] old new n next below (same, is) number f here = inl (ap (λ (mail : Mail). mail number) (sym same) ∙ here)
sent_later (m ∷ ms) old new n next below (at, g, free, told, has, rest) number f here = elim (cases_lt n 18446744073709551615) [
  | inl within ↦
      let after : number_after n ≡ n + 1 = grind arith in
      let first : at ≡ n = is_next old n at within below free in
      or_earlier after first (sent_later ms (put_at at (Some g) old) new (number_after n) next (λ other h is. still other h after first (other == at) refl is) rest number f here)
  | inr end ↦ inr (inr (at_end ms (put_at at (Some g) old) new n next end rest))
]
  where
    still : (other : ℕ) (h : Flight) → number_after n ≡ n + 1 → at ≡ n → (b : Bool) → (other == at) ≡ b → cond b (Some g) (old other) ≡ Some h → other < number_after n
    still other h after first true same is = grind (arith, nat_tests)
    still other h after first false same is = let less : other < n = below other h is in omega (arith, after, less)

    by : (b : Bool) → at ≡ n → cond b (Some g) (old number) ≡ Some f → (old number ≡ Some f) ⊎ ((n ≤ f.number) ⊎ (next ≡ 18446744073709551615))
    by true first is = let same : g.number ≡ f.number = ap (λ (x : Flight). x.number) (same_Some g f is) in inr (inl (omega (arith, same, has, first)))
    by false first is = inl is

    or_earlier : {k : ℕ} → k ≡ n + 1 → at ≡ n → (put_at at (Some g) old number ≡ Some f) ⊎ ((k ≤ f.number) ⊎ (next ≡ 18446744073709551615))
        → (old number ≡ Some f) ⊎ ((n ≤ f.number) ⊎ (next ≡ 18446744073709551615))
    or_earlier after first (inl is) = by (number == at) first is
    or_earlier after first (inr (inl more)) = inr (inl (omega (arith, after, more)))
    or_earlier after first (inr (inr end)) = inr (inr end)

-- its text is told
told_anyhow : (before after number : ℕ) → (before ≤ number) ⊎ (after ≡ 18446744073709551615) → first_told before after ≤ number
told_anyhow before after number (inl low) = elim (after == 18446744073709551615) as (λ b. cond b 0 before ≤ number) [
  | true ↦ omega arith
  | false ↦ low
]
told_anyhow before after number (inr end) = let yes : (after == 18446744073709551615) ≡ true = grind (arith, nat_tests) in rw yes (omega arith)

pub changes_what_is_told : (g : Geometry) (v w : State) (step : Step) (e : Option Entry) → AreNumbered v.flights v.sent → Makes g v (Some step) e w → ChangesWhatIsTold g.sets v step w
changes_what_is_told g v w step e numbered made =
    let leaves = of_step g.sets v (victims g.sets v step) step in
    let about = made.made in
    record {
      harts = λ i differ. ap (λ (m : Machine). m.harts i) about.machine ∙ leaves.harts i differ;
      entries = λ b differ. ap (λ (m : Machine). m.entries b) about.machine ∙ leaves.entries b differ;
      flights = λ number f here. of_left number f (sent_later (change_by g.sets v step).sent about.left (mail_of w.flights) v.sent w.sent below about.sends number f here);
      ways = made.ways;
    }
  where
    below : (number : ℕ) (f : Flight) → made.made.left number ≡ Some f → number < v.sent
    below number f at =
        let was : flight_at v.flights number ≡ Some f = made.made.leaves.stays number f at in
        let is : f.number ≡ number = number_is v.flights number f was in
        let low : f.number < v.sent = numbered number f was in
        omega (arith, is, low)

    of_left : (number : ℕ) (f : Flight) → (made.made.left number ≡ Some f) ⊎ ((v.sent ≤ f.number) ⊎ (w.sent ≡ 18446744073709551615))
        → (flight_at v.flights number ≡ Some f) ⊎ (first_told v.sent w.sent ≤ f.number)
    of_left number f (inl at) = inl (made.made.leaves.stays number f at)
    of_left number f (inr told) = inr (told_anyhow v.sent w.sent f.number told)
