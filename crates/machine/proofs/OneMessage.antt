-- A message that is read as another is that message.
use Rattle.std.proofs.Common.{◌≡◌, ◌<◌, ◌∙◌, ℕ, Bool, arith, refl, sym, ap}
use Rattle.std.proofs.lemmas.Bool.Decides.{nat_tests}
use Rattle.std.proofs.lemmas.Nat.Bits.{bit_at-lt, same_from_bits}
use Rattle.std.specs.Int.{bit_at}
use Rattle.words.specs.Harts.{names}
use Rattle.words.specs.declared.message.Message.{Message as Coded}
use Rattle.words.specs.declared.message.Message.TheVariants as coded
use Rattle.network.specs.declared.net.Flight.{Flight}
use Rattle.protocol.specs.Messages.{Message, Get, Put, Done, Grant, Forward, PutAck, Ack, Nack, shown}

one_bit : (a b h : ℕ) → names a h ≡ names b h → bit_at a h ≡ bit_at b h
unfolding names
one_bit a b h same =
    let few : bit_at a h < 2 = bit_at-lt a h in
    let also : bit_at b h < 2 = bit_at-lt b h in
    grind (arith, nat_tests)

one_set : (a b : ℕ) → names a ≡ names b → a ≡ b
one_set a b same = same_from_bits a b (λ h. one_bit a b h (λ i. same i h))

-- the harts that a message asks, as a mask and as a test
abbrev asked_in : Coded → ℕ
asked_in (coded.Grant to block give content expect) = expect
asked_in other = 0

abbrev told_in : Message → ℕ → Bool
told_in (Grant to block granted) = granted.expect
told_in other = names 0

told_is : (m : Coded) → told_in (shown m) ≡ names (asked_in m)
told_is (coded.Get from block kind stamp) = refl
told_is (coded.Put from block content marked) = refl
told_is (coded.Done from block ok content) = refl
told_is (coded.Grant to block give content expect) = refl
told_is (coded.Forward to block kind requester stamp) = refl
told_is (coded.PutAck to block) = refl
told_is (coded.Ack from to block content) = refl
told_is (coded.Nack from to block stamp) = refl

-- the program's message, with this mask
abbrev coded_of : ℕ → Message → Coded
coded_of expect (Get from block kind stamp) = coded.Get from block kind stamp
coded_of expect (Put from block content marked) = coded.Put from block content marked
coded_of expect (Done from block ok content) = coded.Done from block ok content
coded_of expect (Grant to block granted) = coded.Grant to block granted.give granted.content expect
coded_of expect (Forward to block kind requester stamp) = coded.Forward to block kind requester stamp
coded_of expect (PutAck to block) = coded.PutAck to block
coded_of expect (Ack from to block content) = coded.Ack from to block content
coded_of expect (Nack from to block stamp) = coded.Nack from to block stamp

coded_is : (m : Coded) → coded_of (asked_in m) (shown m) ≡ m
coded_is (coded.Get from block kind stamp) = refl
coded_is (coded.Put from block content marked) = refl
coded_is (coded.Done from block ok content) = refl
coded_is (coded.Grant to block give content expect) = refl
coded_is (coded.Forward to block kind requester stamp) = refl
coded_is (coded.PutAck to block) = refl
coded_is (coded.Ack from to block content) = refl
coded_is (coded.Nack from to block stamp) = refl

one_message : (m n : Coded) → shown m ≡ shown n → m ≡ n
one_message m n same =
    let asked : asked_in m ≡ asked_in n = one_set (asked_in m) (asked_in n) (sym (told_is m) ∙ (ap told_in same ∙ told_is n)) in
    sym (coded_is m) ∙ ((λ i. coded_of (asked i) (same i)) ∙ coded_is n)

pub one_flight : (f h : Flight) → f.number ≡ h.number → shown f.message ≡ shown h.message → f ≡ h
one_flight f h number told =
    let message : f.message ≡ h.message = one_message f.message h.message told in
    λ i. record { message = message i; number = number i }
