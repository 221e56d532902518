-- What the seats hold, hart by hart.
use Rattle.std.proofs.Common.{◌≡◌, ◌<◌, ℕ, List, Option, length, get_or, sym, ap, ◌∙◌}
use Rattle.std.specs.Option.{option_map}
use Rattle.protocol.specs.Messages.{Block}
use Rattle.protocol.specs.Values.{kept_content}
use Rattle.conflict.specs.Requests.{shown_request}
use Rattle.machine.specs.States.{Seat, hart_at}
use Rattle.machine.proofs.Reading.{seat_at}

-- what a hart's request for a block has kept
abbrev pub kept_by : ℕ → ℕ → List Seat → ℕ → Option Block
kept_by sets block seats i = kept_content block (hart_at sets seats i).request

pub kept_here : (sets block : ℕ) (seats : List Seat) (i : ℕ) (s t : Seat) (r : Option Block) → i < length seats → s ≡ t → t ≡ get_or seats i t → r ≡ kept_content block (option_map shown_request s.hart.request) → kept_by sets block seats i ≡ r
kept_here sets block seats i s t r lt same at is =
    ap (λ h. kept_content block h.request) (sym (seat_at sets seats i t lt at))
    ∙ ap (λ (s : Seat). kept_content block (option_map shown_request s.hart.request)) (sym same)
    ∙ sym is
