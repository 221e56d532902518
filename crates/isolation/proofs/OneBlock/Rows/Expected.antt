-- Each answer is of a hart that the grant expects. r is the requester, who is given x, and a its request.
use Rattle.std.proofs.Common.{◌≡◌, ◌≢◌, ℕ, Bool, true, false, Option, Some, cond, eqb, refl, sym, subst, arith}
use Rattle.std.proofs.lemmas.Bool.{eqb-true}
use Rattle.words.specs.declared.stamp.Stamp.{Stamp}
use Rattle.words.specs.declared.message.Kind.{Kind}
use Rattle.words.specs.declared.message.LineState.{LineState}
use Rattle.protocol.specs.Messages.{Block}
use Rattle.isolation.proofs.OneBlock.Model.State.{put_at}
use Rattle.isolation.proofs.OneBlock.Model.Directory.{Rights}
use Rattle.isolation.proofs.OneBlock.Invariant.Roles.{Ask, Acking, Nacking, Asks}
use Rattle.isolation.proofs.OneBlock.Invariant.Parts.{PartOf}
use Rattle.isolation.proofs.OneBlock.Invariant.Each.{Expects}
use Rattle.isolation.proofs.OneBlock.Rows.Answers.{heard, refused_by}

-- who acknowledges is expected
pub ack_expected : (r : ℕ) (x : LineState) (a : Ask) (cur : Block) (h : ℕ) (st : Rights) (q : ℕ) (k : Kind) (d : Option Block) → h ≢ r → PartOf (Some (r, x)) (Asks a) cur h st (Acking q k d) → a.grant.expect h ≡ true
ack_expected r x a cur h st q k d n p = grind arith

-- and so is who refuses
pub nack_expected : (r : ℕ) (x : LineState) (a : Ask) (cur : Block) (h : ℕ) (st : Rights) (q : ℕ) (y : Option Stamp) → h ≢ r → PartOf (Some (r, x)) (Asks a) cur h st (Nacking q y) → a.grant.expect h ≡ true
nack_expected r x a cur h st q y n p = grind arith

one_more : (h : ℕ) (from expect : ℕ → Bool) → expect h ≡ true → ((j : ℕ) → from j ≡ true → expect j ≡ true) → (j : ℕ) → put_at h true from j ≡ true → expect j ≡ true
one_more h from expect here before j e = go (eqb j h) refl e
  where
    go : (t : Bool) → eqb j h ≡ t → cond t true (from j) ≡ true → expect j ≡ true
    go true z f = subst (λ i. expect i ≡ true) (sym (eqb-true j h z)) here
    go false z f = before j f

-- an Ack that is kept
pub heard_expects : (n r : ℕ) (x : LineState) (a : Ask) (h : ℕ) (d : Option Block) → a.grant.expect h ≡ true → Expects n (Some (r, x)) (Asks a) → Expects n (Some (r, x)) (Asks (heard h d a))
heard_expects n r x a h d e v = (v.0, one_more h a.from a.grant.expect e v.1)

-- and a Nack
pub refused_expects : (n r : ℕ) (x : LineState) (a : Ask) (h : ℕ) (b : Bool) → a.grant.expect h ≡ true → Expects n (Some (r, x)) (Asks a) → Expects n (Some (r, x)) (Asks (refused_by h b a))
refused_expects n r x a h b e v = (v.0, one_more h a.from a.grant.expect e v.1)
