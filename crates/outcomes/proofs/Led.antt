-- Where a move leads, with the reservations.
use Rattle.std.proofs.Common.{◌≡◌, ℕ, List, sym, subst, ◌∙◌}
use Rattle.words.specs.declared.entry.Entry.{Entry}
use Rattle.flat.specs.State.{Flat}
use Rattle.isolation.specs.Moves.{Place, MovesInOrder, LeadsInOrder, IsReserved, reserved_behind}

-- a place is known by its flat state and its reservations
pub one_place : (p q : Place) → p.flat ≡ q.flat → ((i : ℕ) → p.reserved i ≡ q.reserved i) → p ≡ q
one_place p q flat reserved = λ k. record { flat = flat k; reserved = λ i. reserved i k }

-- to the flat state after it, with the reservations behind it
pub leads : (p q : Place) (es : List Entry) (g : Flat) → MovesInOrder p.flat es g → q.flat ≡ g → IsReserved p.reserved es
    → ((i : ℕ) → q.reserved i ≡ reserved_behind p.flat p.reserved es i) → LeadsInOrder p es q
leads p q es g m is reason behind = record { moves = subst (λ f. MovesInOrder p.flat es f) (sym is) m; reason = reason; reserved = λ k i. behind i k }
