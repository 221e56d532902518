-- Answers that are kept with the request that is out, where it stands.
use Rattle.std.proofs.Common.{◌≡◌, ◌∙◌, ℕ, List, Option, Some, None, refl, sym, ap, subst}
use Rattle.std.specs.Prelude.{unwrap_or}
use Rattle.std.specs.Option.{option_map}
use Rattle.protocol.specs.Messages.{Granted}
use Rattle.protocol.specs.Hart.{Hart, HartResult, Request}
use Rattle.protocol.specs.Requests.{granted_so_far, answer_row}
use Rattle.conflict.specs.Answers.{Keeps}
use Rattle.hart.specs.Parts.{Parts}
use Rattle.conflict.specs.Requests.{shown_request}
use Rattle.hart.specs.Shown.{shown_hart}
use Rattle.conflict.specs.declared.request.Request.{Request as CodedRequest}
use Rattle.hart.proofs.Rows.{answered}

-- how a request goes on doesn't depend on what the hart had as its request
whatever_is_out : (n i : ℕ) (r : Request) (g : Option Granted) (h : Hart) (out : Option Request) → granted_so_far n i r g (record h { request = out }) ≡ granted_so_far n i r g h
whatever_is_out n i r None h out = refl
whatever_is_out n i r (Some g) h out = refl

-- an answer is kept, and then the request goes on
pub kept : (sets : ℕ) (output : List ℕ) (b : ℕ) (keep : Request → Request) (here now : Parts) (mid : Option CodedRequest) (end : HartResult) → here ≡ now → Keeps keep b here.request mid
    → ((r : Request) → option_map shown_request mid ≡ Some r → granted_so_far here.harts here.index r r.grant (record (shown_hart sets output here) { request = option_map shown_request mid }) ≡ end)
    → answer_row now.harts now.index b keep (shown_hart sets output now).request (shown_hart sets output now) ≡ end
kept sets output b keep here now mid end same keeps goes_on =
    let h = shown_hart sets output here in
    let q = shown_request keeps.1 in
    subst (λ (p : Parts). answer_row p.harts p.index b keep (shown_hart sets output p).request (shown_hart sets output p) ≡ end) same
    (answered here.harts here.index b keep (shown_request keeps.0) q h (ap (option_map shown_request) keeps.2) keeps.3 keeps.5
    ∙ sym (whatever_is_out here.harts here.index q q.grant h (option_map shown_request mid))
    ∙ goes_on q (ap (option_map shown_request) keeps.4))

-- the request that ends, or waits on, is the one that is out
pub is_out : (n i : ℕ) (q r : Request) (h : Hart) (end : HartResult) → Some q ≡ Some r → granted_so_far n i q q.grant h ≡ end → granted_so_far n i r r.grant h ≡ end
is_out n i q r h end same goes_on = subst (λ (o : Option Request). granted_so_far n i (unwrap_or o q) (unwrap_or o q).grant h ≡ end) same goes_on
