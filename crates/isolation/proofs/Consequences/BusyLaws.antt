-- A busy block's requester waits for it, or has ended its request; and what the rows of requests, entries and instructions never meet.
use Rattle.std.proofs.Common.{◌≡◌, ◌≢◌, ◌⊎◌, ◌<◌, ℕ, sym, ap, ◌∙◌, inl, inr}
use Rattle.std.specs.Option.{option_map}
use Rattle.std.proofs.lemmas.Option.{none-some, same_Some}
use Rattle.words.specs.declared.message.LineState.{LineState}
use Rattle.protocol.specs.Messages.{Get}
use Rattle.protocol.specs.Hart.{Request}
use Rattle.isolation.proofs.OneBlock.Facts.BusyFacts.{IsServed, busy_served}
use Rattle.isolation.specs.Facts.{IsBusyWith, WaitsFor, IsAsking, IsEnding}
use Rattle.isolation.proofs.Machine.World.{World, as_get, busy_of, project}
use Rattle.isolation.proofs.Machine.Invariant.{Inv}
use Rattle.isolation.proofs.Machine.Readings.{request_of, lies, done_sent}

module _ (x : World) (v : Inv x) where
  served : (b r : ℕ) → IsServed ((project b x).hart r) → (WaitsFor x.machine r b × (IsAsking x.machine r b → ⊥)) ⊎ IsEnding x.machine r b
  served b r (inl e) =
      let q = request_of b (x.machine.harts r).request e.0 e.1 in
      inl ((q.0, q.1, q.2), λ a. none-some _ (sym e.2 ∙ ap as_get (lies x v (Get r b a.0 a.1) a.2)))
  served b r (inr e) = inr (e.0.0, e.0.1, done_sent x v r b e.0.0 e.0.1 e.1)

  -- the requester of a busy block
  pub busy_requester : (b r : ℕ) (give : LineState) → IsBusyWith x.machine b r give → (r < x.machine.setting.count) × ((WaitsFor x.machine r b × (IsAsking x.machine r b → ⊥)) ⊎ IsEnding x.machine r b)
  busy_requester b r give e =
      let k = busy_served x.machine.setting.count (project b x) (v.blocks b) r give (ap (option_map busy_of) e) in
      (k.0, served b r k.1)

  waits_once : (r b c : ℕ) → WaitsFor x.machine r b → WaitsFor x.machine r c → c ≡ b
  waits_once r b c w z = sym z.2 ∙ ap (λ (q : Request). q.block) (same_Some z.0 w.0 (sym z.1 ∙ w.1)) ∙ w.2

  -- a hart that waits for a block has ended its request for each other block that is busy with it
  pub busy_elsewhere : (r b c : ℕ) (give : LineState) → WaitsFor x.machine r b → c ≢ b → IsBusyWith x.machine c r give → IsEnding x.machine r c
  busy_elsewhere r b c give w n e = go (busy_requester c r give e).1
    where
      go : ((WaitsFor x.machine r c × (IsAsking x.machine r c → ⊥)) ⊎ IsEnding x.machine r c) → IsEnding x.machine r c
      go (inl z) = absurd (n (waits_once r b c w z.0))
      go (inr z) = z
