-- Answers that are kept with the request that is out.
use Rattle.std.specs.Prelude.{ℕ, ◌≡◌, ◌≢◌, Option, Some}
use Rattle.protocol.specs.Hart.{Request}
use Rattle.conflict.specs.declared.request.Request.{Request as CodedRequest}
use Rattle.conflict.specs.Requests.{shown_request}

-- the request that is out is for block b, and keeps an answer
abbrev pub Keeps : (Request → Request) → ℕ → Option CodedRequest → Option CodedRequest → Type 0
Keeps keep b before after =
    (r s : CodedRequest) × (before ≡ Some r) × (r.block ≡ b) × (after ≡ Some s) × (shown_request s ≡ keep (shown_request r))

-- none is out for block b
abbrev pub AwaitsNone : ℕ → Option CodedRequest → Type 0
AwaitsNone b before = (r : CodedRequest) → before ≡ Some r → r.block ≢ b
