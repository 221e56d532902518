-- Messages sent one after another, each with the next number.
use Rattle.std.proofs.Common.{◌≡◌, ◌≢◌, ◌∙◌, ℕ, Bool, true, false, cond, Option, Some, None, List, [], ◌∷◌, ◌++◌, refl, ap, subst}
use Rattle.std.specs.Prelude.{◌==◌}
use Rattle.std.specs.Option.{option_map}
use Rattle.std.proofs.Math.Path.{fun_ext}
use Rattle.flat.specs.Bytes.{put_at}
use Rattle.network.specs.declared.net.Flight.{Flight}
use Rattle.network.specs.Flights.{flight_at, number_after, IsNextNumber}
use Rattle.protocol.specs.Messages.{Message, shown}
use Rattle.protocol.specs.Network.{Sends, taken}
use Rattle.machine.specs.Mail.{Mail, SendsOn, IsLeft, in_flight, mail_of, without_numbers}
use Rattle.machine.proofs.Changed.{changed_at}

-- a flight with the next number
pub record IsSent (old : Mail) (new : List Flight) (n number : ℕ) (f : Flight) : Type 0 where
  pub next : IsNextNumber old n number
  pub sent : flight_at new number ≡ Some f
  pub others : (other : ℕ) → other ≢ number → flight_at new other ≡ old other

-- a message with that number
pub sends_one : (old : Mail) (new : List Flight) (number : ℕ) (f : Flight) (n next : ℕ) → IsSent old new n number f → f.number ≡ number → next ≡ number_after n
    → SendsOn old n (shown f.message ∷ []) (mail_of new) next
sends_one old new number f n next s is after = (number, f, s.next, refl, is, (changed_at number (Some f) old (mail_of new) s.sent s.others, after))

-- messages, and then others
pub sends_on : (ms others : List Message) (old mid new : Mail) (l m n : ℕ) → SendsOn old l ms mid m → SendsOn mid m others new n → SendsOn old l (ms ++ others) new n
sends_on [] others old mid new l m n (same, is) then = subst (λ k. SendsOn old k others new n) is (subst (λ mail. SendsOn mail m others new n) same then)
sends_on (x ∷ ms) others old mid new l m n (number, f, free, is, has, first) then =
    (number, f, free, is, has, sends_on ms others (put_at number (Some f) old) mid new (number_after l) m n first then)

-- of a mail that is changed at a number the messages are changed there
pub without_at : (number : ℕ) (o : Option Flight) (mail : Mail) → without_numbers (put_at number o mail) ≡ put_at number (option_map shown (option_map (λ (f : Flight). f.message) o)) (without_numbers mail)
without_at number o mail = fun_ext (λ j. by (j == number) j)
  where
    message : Option Flight → Option Message
    message x = option_map shown (option_map (λ (f : Flight). f.message) x)

    by : (b : Bool) (j : ℕ) → message (cond b o (mail j)) ≡ cond b (message o) (message (mail j))
    by true j = refl
    by false j = refl

-- messages that are numbered are messages
pub sends_of : (ms : List Message) (old new : Mail) (n next : ℕ) → SendsOn old n ms new next → Sends (without_numbers old) ms (without_numbers new)
sends_of [] old new n next (same, is) = ap without_numbers same
sends_of (x ∷ ms) old new n next (number, f, free, is, has, rest) =
    let later : Sends (without_numbers (put_at number (Some f) old)) ms (without_numbers new) = sends_of ms (put_at number (Some f) old) new (number_after n) next rest in (
      number,
      ap (λ o. option_map shown (option_map (λ (g : Flight). g.message) o)) free.free,
      subst (λ net. Sends net ms (without_numbers new)) (without_at number (Some f) old ∙ ap (λ m. put_at number (Some m) (without_numbers old)) is) later,
    )

-- all are left
pub all_left : (flights : List Flight) → IsLeft (mail_of flights) (in_flight flights) (mail_of flights)
all_left flights = record { stays = λ number f at. at; messages = refl }

-- all but one
pub left_without : (number : ℕ) (flights : List Flight) → IsLeft (mail_of flights) (taken number (in_flight flights)) (put_at number None (mail_of flights))
left_without number flights = record { stays = λ j f at. was (j == number) j f at; messages = without_at number None (mail_of flights) }
  where
    was : (b : Bool) (j : ℕ) (f : Flight) → cond b None (mail_of flights j) ≡ Some f → mail_of flights j ≡ Some f
    was true j f at = absurd (cc)
    was false j f at = at
