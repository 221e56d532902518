-- The messages in flight: a map from keys. Any may arrive next, so no order of a network is assumed.
use Rattle.std.specs.Prelude.{ℕ, ◌≡◌, ◌≤◌, Option, Some, None, List, [], ◌∷◌}
use Rattle.flat.specs.Bytes.{put_at}
use Rattle.protocol.specs.Messages.{Message}

abbrev pub Network : Type 0
Network = ℕ → Option Message

abbrev pub no_messages : Network
no_messages key = None

-- no message has a key beyond the first so many
abbrev pub LiesBelow : ℕ → Network → Type 0
LiesBelow keys net = (key : ℕ) → keys ≤ key → net key ≡ None

-- without the message under a key
abbrev pub taken : ℕ → Network → Network
taken key net = put_at key None net

-- each message in turn is sent under a key that is free, whichever
abbrev pub Sends : Network → List Message → Network → Type 0
Sends old [] new = new ≡ old
Sends old (m ∷ ms) new = (key : ℕ) × (old key ≡ None) × Sends (put_at key (Some m) old) ms new
