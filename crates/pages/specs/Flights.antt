-- What the page is told of the messages in flight.
use Rattle.std.specs.Prelude.{ℕ, ◌==◌, cond, nat_le, List, [], ◌∷◌, codes, decimal}
use Rattle.std.specs.List.{concat}
use Rattle.network.specs.declared.net.Flight.{Flight}
use Rattle.render.specs.Messages.{message_text}

abbrev pub number_item : ℕ → List ℕ
number_item n = concat (decimal n ∷ codes "," ∷ [])

-- a message that was just sent: its number, and its text
abbrev pub new_flight : Flight → List ℕ
new_flight f = concat (codes "[" ∷ decimal f.number ∷ codes ",\"" ∷ message_text f.message ∷ codes "\"]," ∷ [])

-- one in flight: any with a lower number than this stands by its number alone
abbrev pub flight_item : ℕ → Flight → List ℕ
flight_item from f = cond (nat_le from f.number) (new_flight f) (number_item f.number)

-- the lowest number with which a text is told after a step, where so many messages had been sent before it and so many after it. That of the first that was sent; but once numbers have come to
-- their end, at the greatest u64, lower ones are given anew, so all are told with their texts
abbrev pub first_told : ℕ → ℕ → ℕ
first_told before after = cond (after == 18446744073709551615) 0 before
