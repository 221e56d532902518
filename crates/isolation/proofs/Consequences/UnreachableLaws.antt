-- What the rows of requests, entries and instructions never meet.
use Rattle.std.proofs.Common.{◌≡◌, ◌≢◌, ◌⊎◌, ◌<◌, ℕ, false, Option, None, Some, refl, ap, ◌∙◌, inl, inr}
use Rattle.std.specs.Prelude.{IsSome}
use Rattle.std.specs.Option.{option_map}
use Rattle.std.proofs.lemmas.Bool.{false_from_ne_true}
use Rattle.words.specs.declared.message.Kind.{Kind}
use Rattle.words.specs.declared.stamp.Stamp.{Stamp}
use Rattle.table.specs.declared.effect.Effect.{Effect}
use Rattle.table.specs.declared.effect.Act.TheVariants as act
use Rattle.protocol.specs.Messages.{Block, Granted, Grant, Ack, Nack}
use Rattle.protocol.specs.Lines.{refuses}
use Rattle.protocol.specs.Hart.{Transaction, overflow_of, flat_hart, flat_tx}
use Rattle.protocol.specs.Machine.{Machine}
use Rattle.isolation.proofs.OneBlock.Facts.UnreachableFacts.{HasGrant as LocalHasGrant, NeverMet, never_met}
use Rattle.isolation.specs.Facts.{IsInFlight, HasGrant, DoesNext, RulesOutUnreachable}
use Rattle.isolation.proofs.Machine.World.{World, as_grant, as_ack, as_nack, wait_of, tx_at, project}
use Rattle.isolation.proofs.Machine.Invariant.{Inv}
use Rattle.isolation.proofs.Machine.Readings.{request_at, a_line, lies, in_range, known_at}
use Rattle.isolation.proofs.Machine.Tables.{refuses_same}
use Rattle.isolation.proofs.Words.NextWord.{commit_inside, abort_inside, no_break}
use Rattle.isolation.proofs.Consequences.RequestLaws.{one_request}

-- Instructions

is_inside : (t : Option Transaction) → option_map flat_tx t ≢ None → IsSome t
is_inside None n = absurd (n refl)
is_inside (Some t) n = refl

-- whatever ends a transaction stands in one
ends_inside : (w : Machine) (i : ℕ) (e : Effect) → DoesNext w i e → (e.act ≡ act.Commit) ⊎ (e.act ≡ act.Abort) → IsSome (w.harts i).tx
ends_inside w i e ok (inl z) = is_inside (w.harts i).tx (commit_inside w.setting (flat_hart (w.harts i)) e ok z)
ends_inside w i e ok (inr z) = is_inside (w.harts i).tx (abort_inside w.setting (flat_hart (w.harts i)) e ok z)

module _ (x : World) (v : Inv x) where
  -- Grants and answers

  at : (b : ℕ) → NeverMet x.machine.setting.count (project b x)
  at b = never_met x.machine.setting.count (project b x) (v.blocks b)

  grant_at : (i b : ℕ) (g : Granted) → HasGrant x.machine i b g → LocalHasGrant ((project b x).hart i) g
  grant_at i b g (inl e) = inl (ap as_grant (lies x v (Grant i b g) e))
  grant_at i b g (inr e) = inr (wait_of e.0, request_at b (x.machine.harts i).request e.0 e.1 e.2, e.3)

  -- a request that is answered is that of a hart that there is
  ack_in : (j i b : ℕ) (content : Option Block) → IsInFlight x.machine (Ack j i b content) → i < x.machine.setting.count
  ack_in j i b content e = let q = ((one_request x v).ack j i b content e).1 in ((one_request x v).busy b i q.0 q.1).0

  nack_in : (j i b : ℕ) (stamp : Option Stamp) → IsInFlight x.machine (Nack j i b stamp) → i < x.machine.setting.count
  nack_in j i b stamp e = let q = ((one_request x v).nack j i b stamp e).1 in ((one_request x v).busy b i q.0 q.1).0

  -- Refusals

  outside : (i b : ℕ) (kind : Kind) → i < x.machine.setting.count → (x.machine.harts i).tx ≡ None → refuses ((x.machine.harts i).lines b) (overflow_of (x.machine.harts i).tx) kind ≡ false
  outside i b kind o e = false_from_ne_true _ (λ z. (known_at x v b).reasons.refuser i kind o (refuses_same ((x.machine.harts i).lines b) (overflow_of (x.machine.harts i).tx) kind ∙ z) (ap tx_at e))

  -- all that never occurs
  pub unreachable : RulesOutUnreachable x.machine
  unreachable = record {
    lone = λ b h o e. (at b).lone h o e;
    upgrade = λ i b g l o z e. (at b).upgrade i g o (grant_at i b g z) (a_line ((x.machine.harts i).lines b) l e);
    outside = outside;
    ack = λ j i b content g e z. let m = Ack j i b content in (at b).ack j i content g (in_range x v m e) (ack_in j i b content e) (ap as_ack (lies x v m e)) (grant_at i b g z);
    nack = λ j i b stamp g e z. let m = Nack j i b stamp in (at b).nack j i stamp g (in_range x v m e) (nack_in j i b stamp e) (ap as_nack (lies x v m e)) (grant_at i b g z);
    answered = λ j i r g o e f z. (at r.block).answered j i (wait_of r) g o (request_at r.block (x.machine.harts i).request r e refl) f (grant_at i r.block g z);
    expects = λ j i b g o z. (at b).expects j i g o (grant_at i b g z);
    break = λ i e ok. no_break x.machine.setting (flat_hart (x.machine.harts i)) e ok;
    ends = λ i e ok z. ends_inside x.machine i e ok z;
  }
