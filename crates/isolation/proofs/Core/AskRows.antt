-- A hart sends a request: a Get goes out.
use Rattle.std.proofs.Common.{◌≡◌, ◌≢◌, ◌<◌, ℕ, true, false, Option, None, Some, cond, eqb, refl, sym, ap, ◌∙◌}
use Rattle.std.specs.Prelude.{◌&&◌}
use Rattle.std.proofs.lemmas.Bool.{eq-eqb, ne_eqb}
use Rattle.words.specs.declared.message.Kind.{Kind}
use Rattle.flat.specs.State.{Setting, FlatHart}
use Rattle.flat.specs.Causes.{next_of}
use Rattle.flat.specs.Reasons.{Past}
use Rattle.protocol.specs.Messages.{Get}
use Rattle.protocol.specs.Lines.{is_enough}
use Rattle.protocol.specs.Hart.{Hart, PutOut, has_put_of, stamp_of, log_of}
use Rattle.protocol.specs.Requests.{ask_row}
use Rattle.isolation.proofs.OneBlock.Model.State.{at_hart}
use Rattle.isolation.proofs.OneBlock.Model.Core.{fresh, ask, Due}
use Rattle.isolation.proofs.OneBlock.Model.Step.{Asks}
use Rattle.isolation.proofs.OneBlock.Invariant.Each.{Good}
use Rattle.isolation.proofs.OneBlock.Facts.Runs.{goes_on}
use Rattle.isolation.proofs.OneBlock.Uses.SameStates.{good_as, good_still}
use Rattle.isolation.proofs.Machine.Slots.{slot, Mail, slot_test}
use Rattle.isolation.proofs.Machine.World.{World, as_get, wait_at, put_out_at, tx_at, images_of, access_at, local_at, project}
use Rattle.isolation.proofs.Machine.Invariant.{HartIs, Inv, hart_beside}
use Rattle.isolation.proofs.Machine.Readings.{known_at}
use Rattle.isolation.proofs.Machine.EmptySlots.{get_empty}
use Rattle.isolation.proofs.Machine.Tables.{enough_same}
use Rattle.isolation.proofs.HartMessages.OneHartMoves.{posted}
use Rattle.isolation.proofs.Core.HartResults.{at_block, Made, made_silent}

-- no Put of the block is out
no_put_of : (b : ℕ) (o : Option PutOut) → has_put_of b o ≡ false → put_out_at b o ≡ None
no_put_of b None e = refl
no_put_of b (Some q) e = ap (λ z. cond z (Some (q.content, q.marked)) None) e

module _ (x : World) (v : Inv x) (i : ℕ) (o : i < x.machine.setting.count) where
  abbrev s : Setting
  s = x.machine.setting

  abbrev h : Hart
  h = x.machine.harts i

  abbrev f : FlatHart
  f = x.flat.hart i

  abbrev p : Past
  p = x.history.past i

  module _ (kind : Kind) (b : ℕ) (q : h.request ≡ None) where
    abbrev asked : Hart
    asked = (ask_row i kind b h).hart

    abbrev mail : Mail
    mail = posted (ask_row i kind b h) x.mail

    -- its Get has its place free
    free : x.mail (slot 0 b i) ≡ None
    free = get_empty x v b i ((known_at x v b).free.get i o (ap (wait_at b) q))

    ask_is : HartIs s asked f p
    ask_is = hart_beside s h f p _ _ _ _ _ (v.harts i)

    -- at the block it waits, and its Get is in flight
    asked_here : local_at s b i asked f p mail ≡ ask kind ((project b x).hart i)
    asked_here =
        let z = slot_test b i i true (eq-eqb i i refl) in
        let w = eq-eqb b b refl in
        λ k. record ((project b x).hart i) {
          wait = cond (w k) (Some (fresh kind)) None;
          get = as_get (cond (z k) (Some (Get i b kind (stamp_of h.tx))) (x.mail (slot 0 b i)));
        }

    -- at another nothing changes
    asked_off : (c : ℕ) → c ≢ b → local_at s c i asked f p mail ≡ (project c x).hart i
    asked_off c n =
        let z = ne_eqb c b n in
        let w = ap (λ z. cond z (Some (fresh kind)) None) (ne_eqb b c (λ e. n (sym e))) ∙ ap (wait_at c) (sym q) in
        λ k. record ((project c x).hart i) {
          wait = w k;
          get = as_get (cond (z k && eqb i i) (Some (Get i b kind (stamp_of h.tx))) (x.mail (slot 0 c i)));
        }

    module _ (n : has_put_of b h.put ≡ false) (d : Due (tx_at h.tx) kind (access_at b (next_of s f)) (images_of b (log_of h.tx))) (l : is_enough kind (h.lines b) ≡ false) where
      ask_block : (c : ℕ) → Good s.count (at_hart i (local_at s c i asked f p mail) (project c x))
      ask_block c = at_block (λ c. Good s.count (at_hart i (local_at s c i asked f p mail) (project c x))) b c here (λ n. good_still s.count (project c x) i _ (asked_off c n) (v.blocks c))
        where
          here : Good s.count (at_hart i (local_at s b i asked f p mail) (project b x))
          here = good_as s.count (project b x) i _ _ asked_here
              (goes_on s.count (project b x) _ (v.blocks b) (Asks i kind o (ap (wait_at b) q) (no_put_of b h.put n) d (enough_same kind (h.lines b) ∙ l)))

      -- the request is out, and its Get is in flight
      pub made_ask : Made x i (ask_row i kind b h)
      made_ask = made_silent x i asked (Some (Get i b kind (stamp_of h.tx))) v o (refl, free) ask_is ask_block
