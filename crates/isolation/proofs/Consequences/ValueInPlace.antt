-- The value in place, as the machine finds it, is the block's.
use Rattle.std.proofs.Common.{◌≡◌, ◌<◌, ℕ, Option, None, Some, refl, sym, ap, subst, ◌∙◌, arith}
use Rattle.std.specs.Option.{option_and_then, option_or, unwrap_or}
use Rattle.std.proofs.lemmas.Bool.{eqb-true, eq-eqb}
use Rattle.protocol.specs.Messages.{Block, Message}
use Rattle.protocol.specs.Lines.{Line, owned_content}
use Rattle.protocol.specs.Hart.{Request, PutOut, put_content}
use Rattle.protocol.specs.Network.{LiesBelow}
use Rattle.protocol.specs.Values.{first_below, ack_content, done_content, kept_content, owner_of, in_place}
use Rattle.isolation.proofs.OneBlock.Model.State.{value_of}
use Rattle.isolation.proofs.OneBlock.Model.Messages.{put_data}
use Rattle.isolation.proofs.OneBlock.Invariant.Parts.{Fits}
use Rattle.isolation.proofs.OneBlock.Invariant.Laws.{owner_now, owned_line, sent_data, kept_data, done_data, owned_by, put_by}
use Rattle.isolation.proofs.Machine.Slots.{slot, slot_of}
use Rattle.isolation.proofs.Machine.World.{World, as_ack, as_done, copy_of, wait_at, put_out_at, project}
use Rattle.isolation.proofs.Machine.Invariant.{Inv}
use Rattle.isolation.proofs.Machine.Readings.{known_at}
use Rattle.isolation.proofs.Consequences.Searches.{found_at, none_at, found_message, no_message}
use Rattle.isolation.proofs.Consequences.Owners.{owner_is}

-- the first that there is fits if each does, and memory where there is none
first_fits : (l s k d p : Option Block) (m cur : Block) → Fits l cur → Fits s cur → Fits k cur → Fits d cur → (l ≡ None → s ≡ None → k ≡ None → d ≡ None → value_of p m ≡ cur)
    → unwrap_or (option_or l (option_or s (option_or k (option_or d p)))) m ≡ cur
first_fits (Some l) s k d p m cur a b c e f = a
first_fits None (Some s) k d p m cur a b c e f = b
first_fits None None (Some k) d p m cur a b c e f = c
first_fits None None None (Some d) p m cur a b c e f = e
first_fits None None None None None m cur a b c e f = f refl refl refl refl
first_fits None None None None (Some p) m cur a b c e f = f refl refl refl refl

-- an Ack of the block is in its hart's slot, and so is a Done
ack_slot : (b : ℕ) (m : Message) (d : Block) → ack_content b m ≡ Some d → (slot_of m ≡ slot 6 b (slot_of m).hart) × (sent_data (as_ack (Some m)) ≡ Some d)
ack_slot b m d e = grind (arith, eqb-true)

ack_there : (b h : ℕ) (m : Message) → slot_of m ≡ slot 6 b h → sent_data (as_ack (Some m)) ≡ ack_content b m
ack_there b h m at = grind (arith, eq-eqb)

done_slot : (b : ℕ) (m : Message) (d : Block) → done_content b m ≡ Some d → (slot_of m ≡ slot 2 b (slot_of m).hart) × (done_data (as_done (Some m)) ≡ Some d)
done_slot b m d e = grind (arith, eqb-true)

done_there : (b h : ℕ) (m : Message) → slot_of m ≡ slot 2 b h → done_data (as_done (Some m)) ≡ done_content b m
done_there b h m at = grind (arith, eq-eqb)

-- what a hart has itself
line_there : (l : Option Line) → owned_content l ≡ owned_line (copy_of l)
line_there l = grind arith

kept_there : (b : ℕ) (r : Option Request) → kept_content b r ≡ kept_data (wait_at b r)
kept_there b r = grind arith

put_there : (b : ℕ) (p : Option PutOut) → put_content b p ≡ put_data (put_out_at b p)
put_there b p = grind arith

-- the same of whoever owns the block
owned_there : (x : World) (b : ℕ) (o : Option ℕ) → option_and_then (λ i. owned_content ((x.machine.harts i).lines b)) o ≡ owned_by (project b x) o
owned_there x b None = refl
owned_there x b (Some i) = line_there ((x.machine.harts i).lines b)

owner_put_there : (x : World) (b : ℕ) (o : Option ℕ) → option_and_then (λ i. put_content b (x.machine.harts i).put) o ≡ put_by (project b x) o
owner_put_there x b None = refl
owner_put_there x b (Some i) = put_there b (x.machine.harts i).put

-- what is found fits
some_fits : (o : Option Block) (cur : Block) → ((d : Block) → o ≡ Some d → d ≡ cur) → Fits o cur
some_fits None cur f = tt
some_fits (Some d) cur f = f d refl

fits_some : (o : Option Block) (d cur : Block) → o ≡ Some d → Fits o cur → d ≡ cur
fits_some o d cur e f = subst (λ z. Fits z cur) e f

module _ (x : World) (v : Inv x) (keys : ℕ) (below : LiesBelow keys x.machine.net) (b : ℕ) where
  -- of messages
  module _ (s : ℕ) (f : Message → Option Block) (g : Option Message → Option Block) (none : g None ≡ None) where
    sent_fits : ((m : Message) (d : Block) → f m ≡ Some d → (slot_of m ≡ slot s b (slot_of m).hart) × (g (Some m) ≡ Some d)) → (cur : Block)
        → ((h : ℕ) → h < x.machine.setting.count → Fits (g (x.mail (slot s b h))) cur) → Fits (first_below keys (λ key. option_and_then f (x.machine.net key))) cur
    sent_fits at cur each = some_fits (first_below keys (λ key. option_and_then f (x.machine.net key))) cur (λ d e.
        let m = found_message keys x.machine.net x.mail f v.carried d e in
        let p = at m.0 d m.2 in
        let h : ℕ = (slot_of m.0).hart in
        fits_some (g (x.mail (slot s b h))) d cur (ap g (sym (ap x.mail p.0) ∙ m.1) ∙ p.1) (each h (v.range (slot_of m.0) m.0 m.1)))

    none_sent : ((h : ℕ) (m : Message) → slot_of m ≡ slot s b h → g (Some m) ≡ f m) → first_below keys (λ key. option_and_then f (x.machine.net key)) ≡ None → (h : ℕ) → g (x.mail (slot s b h)) ≡ None
    none_sent at e h = go (x.mail (slot s b h)) (no_message keys x.machine.net x.mail f v.carried below e (slot s b h))
      where
        go : (o : Option Message) → ((m : Message) → o ≡ Some m → (slot_of m ≡ slot s b h) × (f m ≡ None)) → g o ≡ None
        go None q = none
        go (Some m) q = let p = q m refl in at h m p.0 ∙ p.1

  -- of requests
  kept_at : (h : ℕ) → kept_content b (x.machine.harts h).request ≡ kept_data ((project b x).hart h).wait
  kept_at h = kept_there b (x.machine.harts h).request

  kept_fits : (cur : Block) → ((h : ℕ) → h < x.machine.setting.count → Fits (kept_data ((project b x).hart h).wait) cur) → Fits (first_below x.machine.setting.count (λ i. kept_content b (x.machine.harts i).request)) cur
  kept_fits cur each = some_fits (first_below x.machine.setting.count (λ i. kept_content b (x.machine.harts i).request)) cur (λ d e.
      let r = found_at x.machine.setting.count (λ i. kept_content b (x.machine.harts i).request) d e in
      fits_some (kept_data ((project b x).hart r.0).wait) d cur (sym (kept_at r.0) ∙ r.2) (each r.0 r.1))

  none_kept : first_below x.machine.setting.count (λ i. kept_content b (x.machine.harts i).request) ≡ None → (h : ℕ) → h < x.machine.setting.count → kept_data ((project b x).hart h).wait ≡ None
  none_kept e h o = sym (kept_at h) ∙ none_at x.machine.setting.count (λ i. kept_content b (x.machine.harts i).request) e h o

  -- the machine's value in place is the block's
  pub in_place_is : in_place keys x.machine b ≡ (known_at x v b).cur
  in_place_is =
      let cur = (known_at x v b).cur in
      let at = (known_at x v b).located in
      let owner = owner_of keys x.machine b in
      let is = owner_is x v keys below b in
      let line : option_and_then (λ i. owned_content ((x.machine.harts i).lines b)) owner ≡ owned_by (project b x) (owner_now (project b x)) = owned_there x b owner ∙ ap (owned_by (project b x)) is in
      let put : option_and_then (λ i. put_content b (x.machine.harts i).put) owner ≡ put_by (project b x) (owner_now (project b x)) = owner_put_there x b owner ∙ ap (put_by (project b x)) is in
      first_fits
      (option_and_then (λ i. owned_content ((x.machine.harts i).lines b)) owner)
      (first_below keys (λ key. option_and_then (ack_content b) (x.machine.net key)))
      (first_below x.machine.setting.count (λ i. kept_content b (x.machine.harts i).request))
      (first_below keys (λ key. option_and_then (done_content b) (x.machine.net key)))
      (option_and_then (λ i. put_content b (x.machine.harts i).put) owner)
      (x.machine.memory b)
      cur
      (subst (λ z. Fits z cur) (sym line) at.line)
      (sent_fits 6 (ack_content b) (λ o. sent_data (as_ack o)) refl (ack_slot b) cur at.sent)
      (kept_fits cur at.kept)
      (sent_fits 2 (done_content b) (λ o. done_data (as_done o)) refl (done_slot b) cur at.done)
      (λ l s k d.
      ap (λ z. value_of z (x.machine.memory b)) put
      ∙ at.left
      (sym line ∙ l)
      (λ h o. none_sent 6 (ack_content b) (λ o. sent_data (as_ack o)) refl (ack_there b) s h)
      (none_kept k)
      (λ h o. none_sent 2 (done_content b) (λ o. done_data (as_done o)) refl (done_there b) d h))
