-- Flights that are counted, in the order of sending.
use Rattle.std.proofs.Common.{◌≡◌, ◌≤◌, ◌<◌, ◌+◌, ◌*◌, ℕ, Bool, true, false, List, [], ◌∷◌, length, Option, Some, None, cond, inl, inr, refl, sym, ap, subst, ◌∙◌, arith}
use Rattle.std.specs.Prelude.{◌&&◌, count_by}
use Rattle.std.proofs.lemmas.Bool.{cases_eq, cases_lt, le-leb, lt-leb}
use Rattle.std.proofs.lemmas.List.Sums.{sum_by-cons}
use Rattle.std.proofs.lemmas.Option.{none-some, same_Some}
use Rattle.network.specs.declared.net.Flight.{Flight}
use Rattle.network.specs.Flights.{AreInOrder, IsNewest, first_from, flight_at}
use Rattle.network.proofs.OneOrder.{at_first, at_others, from_is, none_from, number_is}
use Rattle.protocol.specs.Messages.{shown}
use Rattle.watch.specs.Kinds.{one_if}
use Rattle.watch.specs.declared.figures.Sum.{Sum}
use Rattle.watch.specs.declared.traffic.Traffic.{Traffic}
use Rattle.watch.specs.Traffic.{capped, is_same, sum_at, sum_of_message, was_sent}
use Rattle.watch.proofs.Capping.{capped_low, capped_more}

as_one : (b : Bool) → cond b 1 0 ≡ one_if b
as_one true = refl
as_one false = refl

pub counted_first : {T : Type 0} (p : T → Bool) (x : T) (xs : List T) → count_by p (x ∷ xs) ≡ one_if (p x) + count_by p xs
counted_first {T} p x xs = sum_by-cons (λ (y : T). cond (p y) 1 0) x xs ∙ ap (λ (n : ℕ). n + count_by p xs) (as_one (p x))

-- nothing is in flight where none is
pub empty_is : {T : Type 0} (xs : List T) → length xs ≡ 0 → xs ≡ []
empty_is [] none = refl
empty_is (x ∷ xs) none = absurd (omega (arith, none))

-- what holds of the numbers of all messages holds of those of all but the first
pub of_rest : (Q : ℕ → Type 0) (f : Flight) (fs : List Flight) → ((number : ℕ) (g : Flight) → flight_at (f ∷ fs) number ≡ Some g → Q g.number)
    → (number : ℕ) (g : Flight) → flight_at fs number ≡ Some g → Q g.number
of_rest Q f fs all number g at = elim (cases_eq f.number number) [
  | inl e ↦ subst Q (e ∙ sym (number_is fs number g at)) (all f.number f (at_first f fs f.number refl))
  | inr ne ↦ all number g (at_others f fs number ne ∙ at)
]

pub of_first : (Q : ℕ → Type 0) (f : Flight) (fs : List Flight) → ((number : ℕ) (g : Flight) → flight_at (f ∷ fs) number ≡ Some g → Q g.number) → Q f.number
of_first Q f fs all = all f.number f (at_first f fs f.number refl)

-- a message counts by its sort, where it was sent late enough, and else not at all
pub late_one : (before : ℕ) (s : Sum) (f : Flight) → before ≤ f.number → one_if (was_sent before s f) ≡ one_if (is_same s (sum_of_message (shown f.message)))
late_one before s f late = ap (λ (b : Bool). one_if (b && is_same s (sum_of_message (shown f.message)))) (le-leb before f.number late)

early_one : (before : ℕ) (s : Sum) (f : Flight) → f.number < before → one_if (was_sent before s f) ≡ 0
early_one before s f early = ap (λ (b : Bool). one_if (b && is_same s (sum_of_message (shown f.message)))) (lt-leb before f.number early)

-- where all numbers are below none was sent then
pub none_sent : (before : ℕ) (s : Sum) (flights : List Flight) → ((number : ℕ) (f : Flight) → flight_at flights number ≡ Some f → f.number < before) → count_by (was_sent before s) flights ≡ 0
none_sent before s [] below = refl
none_sent before s (f ∷ fs) below =
    let first : count_by (was_sent before s) (f ∷ fs) ≡ one_if (was_sent before s f) + count_by (was_sent before s) fs = counted_first (was_sent before s) f fs in
    let here : one_if (was_sent before s f) ≡ 0 = early_one before s f (of_first (λ n. n < before) f fs below) in
    let rest : count_by (was_sent before s) fs ≡ 0 = none_sent before s fs (of_rest (λ n. n < before) f fs below) in
    omega (arith, first, here, rest)

-- where all are above, it makes no difference which of two numbers is meant
late_alike : (one other : ℕ) (s : Sum) (flights : List Flight) → ((number : ℕ) (f : Flight) → flight_at flights number ≡ Some f → one ≤ f.number)
    → ((number : ℕ) (f : Flight) → flight_at flights number ≡ Some f → other ≤ f.number) → count_by (was_sent one s) flights ≡ count_by (was_sent other s) flights
late_alike one other s [] above above_too = refl
late_alike one other s (f ∷ fs) above above_too =
    let first : count_by (was_sent one s) (f ∷ fs) ≡ one_if (was_sent one s f) + count_by (was_sent one s) fs = counted_first (was_sent one s) f fs in
    let first_too : count_by (was_sent other s) (f ∷ fs) ≡ one_if (was_sent other s f) + count_by (was_sent other s) fs = counted_first (was_sent other s) f fs in
    let here : one_if (was_sent one s f) ≡ one_if (was_sent other s f) =
    late_one one s f (of_first (λ n. one ≤ n) f fs above) ∙ sym (late_one other s f (of_first (λ n. other ≤ n) f fs above_too)) in
    let rest : count_by (was_sent one s) fs ≡ count_by (was_sent other s) fs = late_alike one other s fs (of_rest (λ n. one ≤ n) f fs above) (of_rest (λ n. other ≤ n) f fs above_too) in
    omega (arith, first, first_too, here, rest)

-- the first from a number on
here_first : (number : ℕ) (g : Flight) (gs : List Flight) → number ≤ g.number → first_from number (g ∷ gs) ≡ Some g
here_first number g gs low = λ k. cond (le-leb number g.number low k) (Some g) (first_from number gs)

later_first : (number : ℕ) (g : Flight) (gs : List Flight) → g.number < number → first_from number (g ∷ gs) ≡ first_from number gs
later_first number g gs high = λ k. cond (lt-leb number g.number high k) (Some g) (first_from number gs)

-- of the messages from a number on the next one counts, and those after it
pub next_counted : (number : ℕ) (s : Sum) (flights : List Flight) (f : Flight) → AreInOrder flights → first_from number flights ≡ Some f
    → count_by (was_sent number s) flights ≡ one_if (is_same s (sum_of_message (shown f.message))) + count_by (was_sent (f.number + 1) s) flights
next_counted number s [] f order is = absurd (none-some f is)
next_counted number s (g ∷ gs) f order is = elim (cases_lt g.number number) [
  | inl high ↦
      let next : first_from number gs ≡ Some f = sym (later_first number g gs high) ∙ is in
      let up : number ≤ f.number = (from_is number gs f next).0 in
      let first : count_by (was_sent number s) (g ∷ gs) ≡ one_if (was_sent number s g) + count_by (was_sent number s) gs = counted_first (was_sent number s) g gs in
      let last : count_by (was_sent (f.number + 1) s) (g ∷ gs) ≡ one_if (was_sent (f.number + 1) s g) + count_by (was_sent (f.number + 1) s) gs = counted_first (was_sent (f.number + 1) s) g gs in
      let none : one_if (was_sent number s g) ≡ 0 = early_one number s g high in
      let none_too : one_if (was_sent (f.number + 1) s g) ≡ 0 = early_one (f.number + 1) s g (omega (arith, high, up)) in
      let rest : count_by (was_sent number s) gs ≡ one_if (is_same s (sum_of_message (shown f.message))) + count_by (was_sent (f.number + 1) s) gs = next_counted number s gs f order.1 next in
      omega (arith, first, last, none, none_too, rest)
  | inr low ↦
      let same : g ≡ f = same_Some g f (sym (here_first number g gs low) ∙ is) in
      subst (λ (h : Flight). count_by (was_sent number s) (g ∷ gs) ≡ one_if (is_same s (sum_of_message (shown h.message))) + count_by (was_sent (h.number + 1) s) (g ∷ gs)) same (itself low)
]
  where
    itself : number ≤ g.number → count_by (was_sent number s) (g ∷ gs) ≡ one_if (is_same s (sum_of_message (shown g.message))) + count_by (was_sent (g.number + 1) s) (g ∷ gs)
    itself low =
        let first : count_by (was_sent number s) (g ∷ gs) ≡ one_if (was_sent number s g) + count_by (was_sent number s) gs = counted_first (was_sent number s) g gs in
        let last : count_by (was_sent (g.number + 1) s) (g ∷ gs) ≡ one_if (was_sent (g.number + 1) s g) + count_by (was_sent (g.number + 1) s) gs = counted_first (was_sent (g.number + 1) s) g gs in
        let one : one_if (was_sent number s g) ≡ one_if (is_same s (sum_of_message (shown g.message))) = late_one number s g low in
        let none : one_if (was_sent (g.number + 1) s g) ≡ 0 = early_one (g.number + 1) s g (omega arith) in
        let rest : count_by (was_sent number s) gs ≡ count_by (was_sent (g.number + 1) s) gs = late_alike number (g.number + 1) s gs
        (λ k h at. let above : g.number < h.number = order.0 k h at in omega (arith, above, low)) (λ k h at. let above : g.number < h.number = order.0 k h at in omega (arith, above)) in
        omega (arith, first, last, one, none, rest)

-- and where there is no next one, none counts
pub no_next : (number : ℕ) (s : Sum) (flights : List Flight) → first_from number flights ≡ None → count_by (was_sent number s) flights ≡ 0
no_next number s flights is = none_sent number s flights (λ k f at. elim (cases_lt f.number number) [
  | inl below ↦ below
  | inr up ↦ absurd (none-some f (sym (none_from number flights is k (let e : f.number ≡ k = number_is flights k f at in omega (arith, e, up))) ∙ at))
])

-- so where one message was sent, it is all that is counted
pub newest_counted : (sent next : ℕ) (s : Sum) (flights : List Flight) (number : ℕ) → AreInOrder flights → next ≡ sent + 1 → IsNewest flights next number → (f : Flight) → flight_at flights number ≡ Some f
    → count_by (was_sent sent s) flights ≡ one_if (is_same s (sum_of_message (shown f.message)))
newest_counted sent next s flights number order one newest f at = by (first_from sent flights) refl
  where
    is_sent : number ≡ sent
    is_sent = let last = newest.last in omega (arith, one, last)

    by : (o : Option Flight) → first_from sent flights ≡ o → count_by (was_sent sent s) flights ≡ one_if (is_same s (sum_of_message (shown f.message)))
    by None is = absurd (none-some f (sym (none_from sent flights is number (omega (arith, is_sent))) ∙ at))
    by (Some g) is = elim (cases_eq g.number number) [
      | inl e ↦
          let from = from_is sent flights g is in
          let same : g ≡ f = same_Some g f (sym from.1 ∙ ap (flight_at flights) e ∙ at) in
          let all : count_by (was_sent sent s) flights ≡ one_if (is_same s (sum_of_message (shown g.message))) + count_by (was_sent (g.number + 1) s) flights = next_counted sent s flights g order is in
          let none : count_by (was_sent (g.number + 1) s) flights ≡ 0 = none_sent (g.number + 1) s flights (λ k h there. elim (cases_eq k number) [
            | inl here ↦ let has : h.number ≡ k = number_is flights k h there in omega (arith, has, here, e)
            | inr ne ↦ let has : h.number ≡ k = number_is flights k h there in let low : k < number = newest.others k h ne there in omega (arith, has, low, e)
          ]) in
          let this : one_if (is_same s (sum_of_message (shown g.message))) ≡ one_if (is_same s (sum_of_message (shown f.message))) = ap (λ (h : Flight). one_if (is_same s (sum_of_message (shown h.message)))) same in
          omega (arith, all, none, this)
      | inr ne ↦
          let from = from_is sent flights g is in
          let low : g.number < number = newest.others g.number g ne from.1 in
          absurd (omega (arith, low, from.0, is_sent))
    ]

-- the messages from a number on are counted one by one: those that are left are to be added to what there is
abbrev pub LeadsTo : ℕ → ℕ → ℕ → ℕ → Type 0
LeadsTo now left old all = capped (now + left) ≡ capped (old + all)

pub counted_on : (now new one left rest old all : ℕ) → LeadsTo now left old all → left ≡ one + rest → new ≡ capped (now + 1 * one) → LeadsTo new rest old all
counted_on now new one left rest old all before parts is =
    let sum : now + 1 * one + rest ≡ now + left = omega (arith, parts) in
    ap (λ (n : ℕ). capped (n + rest)) is ∙ capped_more (now + 1 * one) rest ∙ ap capped sum ∙ before

pub counted_out : (t : Traffic) (s : Sum) (left old all : ℕ) → LeadsTo (sum_at t s) left old all → left ≡ 0 → sum_at t s ≡ capped (old + all)
counted_out t s left old all before none =
    let sum : sum_at t s ≡ sum_at t s + left = omega (arith, none) in
    sym (capped_low (sum_at t s) (omega arith)) ∙ ap capped sum ∙ before

-- what stands beside the sums
pub rest_of : (first mid last : Traffic) → mid ≡ record first { sums = mid.sums } → last ≡ record mid { sums = last.sums } → last ≡ record first { sums = last.sums }
rest_of first mid last before after = after ∙ ap (λ (t : Traffic). record t { sums = last.sums }) before

pub nothing_in : {T : Type 0} (o : Option T) → ((x : T) → o ≡ Some x → ⊥) → o ≡ None
nothing_in None none = refl
nothing_in (Some x) none = absurd (none x refl)
