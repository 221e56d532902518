-- Messages that are sent stand after those in flight, with the next numbers.
use Rattle.std.proofs.Common.{◌≡◌, ◌≢◌, ◌<◌, ◌≤◌, ◌+◌, ◌++◌, ◌∙◌, ◌⊎◌, ℕ, suc, Bool, true, false, cond, List, [], ◌∷◌, length, Option, Some, None, inl, inr, refl, sym, ap, arith, subst, append_assoc}
use Rattle.std.specs.Prelude.{◌==◌, IsSome, ⊤}
use Rattle.std.proofs.lemmas.Bool.{cases_eq, cases_lt}
use Rattle.std.proofs.lemmas.Bool.Decides.{nat_tests}
use Rattle.std.proofs.lemmas.List.{append-nil}
use Rattle.std.proofs.lemmas.Option.{none-some}
use Rattle.std.proofs.Math.Path.{fun_ext}
use Rattle.flat.specs.Bytes.{put_at}
use Rattle.flat.proofs.Maps.{put_there, put_elsewhere}
use Rattle.network.specs.declared.net.Flight.{Flight}
use Rattle.network.specs.Flights.{AreInOrder, IsNextNumber, flight_at, number_after}
use Rattle.network.proofs.OneOrder.{at_first, at_others, none_behind, number_is, one_order}
use Rattle.protocol.specs.Messages.{Message, shown as shown_message}
use Rattle.machine.specs.Mail.{Mail, SendsOn, mail_of}
use Rattle.watch.proofs.Sending.{of_first, of_rest}

-- all in flight have numbers below one
abbrev pub IsBelow : ℕ → Mail → Type 0
IsBelow n mail = (number : ℕ) (f : Flight) → mail number ≡ Some f → f.number < n

-- ---- one less

-- those in flight without the one that has this number
abbrev pub left_of : ℕ → List Flight → List Flight
left_of number [] = []
left_of number (f ∷ fs) = cond (f.number == number) fs (f ∷ left_of number fs)

left_yes : (number : ℕ) (f : Flight) (fs : List Flight) → f.number ≡ number → left_of number (f ∷ fs) ≡ fs
left_yes number f fs e = let yes : (f.number == number) ≡ true = grind (arith, nat_tests) in λ k. cond (yes k) fs (f ∷ left_of number fs)

left_no : (number : ℕ) (f : Flight) (fs : List Flight) → f.number ≢ number → left_of number (f ∷ fs) ≡ f ∷ left_of number fs
left_no number f fs ne = let no : (f.number == number) ≡ false = grind (arith, nat_tests) in λ k. cond (no k) fs (f ∷ left_of number fs)

-- what is there but for one number
put_same : (number j : ℕ) (o : Option Flight) (one other : Mail) → one j ≡ other j → put_at number o one j ≡ put_at number o other j
put_same number j o one other same = λ k. cond (j == number) o (same k)

left_at : (number : ℕ) (fs : List Flight) → AreInOrder fs → (j : ℕ) → flight_at (left_of number fs) j ≡ put_at number None (flight_at fs) j
left_at number [] order j = elim (cases_eq j number) [
  | inl e ↦ sym (ap (put_at number None (flight_at [])) e ∙ put_there number None (flight_at []))
  | inr ne ↦ sym (put_elsewhere number j None (flight_at []) ne)
]
left_at number (f ∷ fs) order j = elim (cases_eq f.number number) [
  | inl e ↦ ap (λ (l : List Flight). flight_at l j) (left_yes number f fs e) ∙ by_here e
  | inr ne ↦ ap (λ (l : List Flight). flight_at l j) (left_no number f fs ne) ∙ by_later ne (left_at number fs order.1 j)
]
  where
    by_here : f.number ≡ number → flight_at fs j ≡ put_at number None (flight_at (f ∷ fs)) j
    by_here e = elim (cases_eq j number) [
      | inl same ↦ none_behind f fs order j (omega (arith, same, e)) ∙ sym (ap (put_at number None (flight_at (f ∷ fs))) same ∙ put_there number None (flight_at (f ∷ fs)))
      | inr other ↦ sym (at_others f fs j (λ is. other (sym is ∙ e))) ∙ sym (put_elsewhere number j None (flight_at (f ∷ fs)) other)
    ]

    by_later : f.number ≢ number → flight_at (left_of number fs) j ≡ put_at number None (flight_at fs) j → flight_at (f ∷ left_of number fs) j ≡ put_at number None (flight_at (f ∷ fs)) j
    by_later ne rest = elim (cases_eq f.number j) [
      | inl same ↦ at_first f (left_of number fs) j same ∙ sym (at_first f fs j same) ∙ sym (put_elsewhere number j None (flight_at (f ∷ fs)) (λ is. ne (same ∙ is)))
      | inr other ↦ at_others f (left_of number fs) j other ∙ rest ∙ sym (put_same number j None (flight_at (f ∷ fs)) (flight_at fs) (at_others f fs j other))
    ]

pub left_is : (number : ℕ) (fs : List Flight) → AreInOrder fs → mail_of (left_of number fs) ≡ put_at number None (mail_of fs)
left_is number fs order = fun_ext (left_at number fs order)

-- they were there before
from_left : (number j : ℕ) (f : Flight) (mail : Mail) → put_at number None mail j ≡ Some f → mail j ≡ Some f
from_left number j f mail at = by (j == number) at
  where
    by : (b : Bool) → cond b None (mail j) ≡ Some f → mail j ≡ Some f
    by true there = absurd (none-some f there)
    by false there = there

pub left_in_order : (number : ℕ) (fs : List Flight) → AreInOrder fs → AreInOrder (left_of number fs)
left_in_order number [] order = order
left_in_order number (f ∷ fs) order = elim (cases_eq f.number number) [
  | inl e ↦ subst AreInOrder (sym (left_yes number f fs e)) order.1
  | inr ne ↦ subst AreInOrder (sym (left_no number f fs ne)) (
    (λ j g at. order.0 j g (from_left number j g (flight_at fs) (sym (left_at number fs order.1 j) ∙ at))),
    left_in_order number fs order.1,
  )
]

pub left_below : (n number : ℕ) (fs : List Flight) → AreInOrder fs → IsBelow n (mail_of fs) → IsBelow n (mail_of (left_of number fs))
left_below n number fs order below j f at = below j f (from_left number j f (flight_at fs) (sym (left_at number fs order j) ∙ at))

pub one_left : (number : ℕ) (fs : List Flight) (f : Flight) → flight_at fs number ≡ Some f → length (left_of number fs) + 1 ≡ length fs
one_left number [] f at = absurd (none-some f at)
one_left number (g ∷ gs) f at = elim (cases_eq g.number number) [
  | inl e ↦ let same : length (left_of number (g ∷ gs)) ≡ length gs = ap (λ (l : List Flight). length l) (left_yes number g gs e) in omega (arith, same)
  | inr ne ↦
      let same : length (left_of number (g ∷ gs)) ≡ length (g ∷ left_of number gs) = ap (λ (l : List Flight). length l) (left_no number g gs ne) in
      let rest : length (left_of number gs) + 1 ≡ length gs = one_left number gs f (sym (at_others g gs number ne) ∙ at) in
      omega (arith, same, rest)
]

-- ---- one more

-- it stands after those with lower numbers
after_at : (fs : List Flight) (f : Flight) → IsBelow f.number (mail_of fs) → (j : ℕ) → flight_at (fs ++ f ∷ []) j ≡ put_at f.number (Some f) (flight_at fs) j
after_at [] f below j = elim (cases_eq j f.number) [
  | inl e ↦ at_first f [] j (sym e) ∙ sym (ap (put_at f.number (Some f) (flight_at [])) e ∙ put_there f.number (Some f) (flight_at []))
  | inr ne ↦ at_others f [] j (λ e. ne (sym e)) ∙ sym (put_elsewhere f.number j (Some f) (flight_at []) ne)
]
after_at (g ∷ gs) f below j = elim (cases_eq g.number j) [
  | inl same ↦
      let low : g.number < f.number = of_first (λ n. n < f.number) g gs below in
      at_first g (gs ++ f ∷ []) j same ∙ sym (at_first g gs j same) ∙ sym (put_elsewhere f.number j (Some f) (flight_at (g ∷ gs)) (λ e. omega (arith, low, same, e)))
  | inr other ↦
      at_others g (gs ++ f ∷ []) j other ∙ after_at gs f (of_rest (λ n. n < f.number) g gs below) j
      ∙ sym (put_same f.number j (Some f) (flight_at (g ∷ gs)) (flight_at gs) (at_others g gs j other))
]

after_in_order : (fs : List Flight) (f : Flight) → AreInOrder fs → IsBelow f.number (mail_of fs) → AreInOrder (fs ++ f ∷ [])
after_in_order [] f order below = ((λ j g at. absurd (none-some g at)), tt)
after_in_order (g ∷ gs) f order below = ((λ j h at. by j h at (cases_eq j f.number)), after_in_order gs f order.1 rest)
  where
    rest : IsBelow f.number (mail_of gs)
    rest = of_rest (λ n. n < f.number) g gs below

    by : (j : ℕ) (h : Flight) → flight_at (gs ++ f ∷ []) j ≡ Some h → (j ≡ f.number) ⊎ (j ≢ f.number) → g.number < h.number
    by j h at (inl e) =
        let last : h.number ≡ j = number_is (gs ++ f ∷ []) j h at in
        let low : g.number < f.number = of_first (λ n. n < f.number) g gs below in
        omega (arith, last, low, e)
    by j h at (inr ne) = order.0 j h (sym (put_elsewhere f.number j (Some f) (flight_at gs) ne) ∙ (sym (after_at gs f rest j) ∙ at))

after_below : (fs : List Flight) (f : Flight) (n : ℕ) → IsBelow f.number (mail_of fs) → n ≡ f.number + 1 → IsBelow n (mail_of (fs ++ f ∷ []))
after_below fs f n below next j h at = by (cases_eq j f.number)
  where
    by : (j ≡ f.number) ⊎ (j ≢ f.number) → h.number < n
    by (inl e) = let last : h.number ≡ j = number_is (fs ++ f ∷ []) j h at in omega (arith, last, e, next)
    by (inr ne) = let low : h.number < f.number = below j h (sym (put_elsewhere f.number j (Some f) (flight_at fs) ne) ∙ (sym (after_at fs f below j) ∙ at)) in omega (arith, low, next)

-- ---- the next number

some_is : {A : Type 0} (o : Option A) → IsSome o → (x : A) × (o ≡ Some x)
some_is None some = absurd (cc)
some_is (Some x) some = (x, refl)

-- until numbers end it is how many were sent before
pub next_is : (mail : Mail) (n number : ℕ) → n < number_after n → (IsSome (mail n) → ⊥) → IsNextNumber mail n number → number ≡ n
next_is mail n number goes_on free next = elim (cases_lt number n) [
  | inl low ↦ absurd (free (next.greatest n low goes_on))
  | inr high ↦ let below = next.below in omega (arith, below, high)
]

-- ---- some more

-- flights of these messages, with the next numbers
abbrev pub AreSent : ℕ → List Message → List Flight → Type 0
AreSent n [] [] = ⊤
AreSent n [] (f ∷ fs) = ⊥
AreSent n (m ∷ ms) [] = ⊥
AreSent n (m ∷ ms) (f ∷ fs) = (shown_message f.message ≡ m) × (f.number ≡ n) × AreSent (n + 1) ms fs

-- they stand after those that were in flight
pub record StandsAfter (fs : List Flight) (n : ℕ) (ms : List Message) (gs : List Flight) (next : ℕ) : Type 0 where
  pub sent : List Flight
  pub are : AreSent n ms sent
  pub all : gs ≡ fs ++ sent
  pub last : next ≡ n + length ms
  pub below : IsBelow next (mail_of gs)

pub sent_after : (ms : List Message) (fs gs : List Flight) (n next : ℕ) → AreInOrder fs → AreInOrder gs → IsBelow n (mail_of fs) → n + length ms ≤ 18446744073709551615 → SendsOn (mail_of fs) n ms (mail_of gs) next
    → StandsAfter fs n ms gs next
sent_after [] fs gs n next order order_too below few (same, is) =
    let one : gs ≡ fs = one_order gs fs order_too order (λ j. ap (λ (mail : Mail). mail j) same) in
    record {
      sent = [];
      are = tt;
      all = one ∙ sym (append-nil fs);
      last = omega (arith, is);
      below = λ j f at. let low : f.number < n = below j f (sym (ap (λ (mail : Mail). mail j) same) ∙ at) in omega (arith, low, is);
    }
sent_after (m ∷ ms) fs gs n next order order_too below few (number, f, is_next, is, has, rest) =
    let one_more : number_after n ≡ n + 1 = omega (arith, few) in
    let it : number ≡ n = next_is (mail_of fs) n number (omega (arith, one_more)) (λ some. let found = some_is (flight_at fs n) some in let low : found.0.number < n = below n found.0 found.1 in let same : found.0.number ≡ n = number_is fs n found.0 found.1 in omega (arith, low, same)) is_next in
    let first : f.number ≡ n = has ∙ it in
    let under : IsBelow f.number (mail_of fs) = subst (λ (k : ℕ). IsBelow k (mail_of fs)) (sym first) below in
    let more : List Flight = fs ++ f ∷ [] in
    let there : mail_of more ≡ put_at number (Some f) (mail_of fs) = fun_ext (after_at fs f under) ∙ ap (λ (k : ℕ). put_at k (Some f) (mail_of fs)) has in
    let on : SendsOn (mail_of more) (n + 1) ms (mail_of gs) next =
    subst (λ (k : ℕ). SendsOn (mail_of more) k ms (mail_of gs) next) one_more (subst (λ (mail : Mail). SendsOn mail (number_after n) ms (mail_of gs) next) (sym there) rest) in
    let later : StandsAfter more (n + 1) ms gs next =
    sent_after ms more gs (n + 1) next (after_in_order fs f order under) order_too (after_below fs f (n + 1) under (omega (arith, first))) (omega (arith, few)) on in
    let ended = later.last in
    record {
      sent = f ∷ later.sent;
      are = (is, first, later.are);
      all = later.all ∙ append_assoc fs (f ∷ []) later.sent;
      last = omega (arith, ended);
      below = later.below;
    }

-- how many they are
pub as_many_sent : (n : ℕ) (ms : List Message) (fs : List Flight) → AreSent n ms fs → length fs ≡ length ms
as_many_sent n [] [] are = refl
as_many_sent n [] (f ∷ fs) are = absurd are
as_many_sent n (m ∷ ms) [] are = absurd are
as_many_sent n (m ∷ ms) (f ∷ fs) (is, first, are) = ap suc (as_many_sent (n + 1) ms fs are)

-- ---- one where there was none

-- it is all that is in flight
pub alone_is : (old : Mail) (fs : List Flight) (f : Flight) (number : ℕ) → ((k : ℕ) → old k ≡ None) → AreInOrder fs → f.number ≡ number → mail_of fs ≡ put_at number (Some f) old → fs ≡ f ∷ []
alone_is old fs f number empty order is now = one_order fs (f ∷ []) order ((λ j g at. absurd (none-some g at)), tt) (λ j. ap (λ (mail : Mail). mail j) now ∙ by j (cases_eq j number))
  where
    by : (j : ℕ) → (j ≡ number) ⊎ (j ≢ number) → put_at number (Some f) old j ≡ flight_at (f ∷ []) j
    by j (inl e) = ap (put_at number (Some f) old) e ∙ put_there number (Some f) old ∙ sym (at_first f [] j (is ∙ sym e))
    by j (inr ne) = put_elsewhere number j (Some f) old ne ∙ empty j ∙ sym (at_others f [] j (λ e. ne (sym e ∙ is)))
