-- A PutAck comes to a hart: its Put is over.
use Rattle.std.proofs.Common.{◌≡◌, ◌≢◌, ◌<◌, ℕ, true, Option, None, Some, refl, ap, subst, arith}
use Rattle.std.proofs.lemmas.Bool.{eqb-true, eqb-false, cond-true}
use Rattle.words.specs.declared.entry.Entry.{Entry}
use Rattle.flat.specs.State.{Setting, FlatHart}
use Rattle.flat.specs.Reasons.{Past}
use Rattle.protocol.specs.Messages.{PutAck}
use Rattle.protocol.specs.Hart.{Hart, PutOut, HartResult, quiet, has_put_of}
use Rattle.protocol.specs.HartMessages.{put_ack_row}
use Rattle.protocol.specs.Network.{taken}
use Rattle.protocol.specs.Machine.{Machine, hart_change, ComesAbout}
use Rattle.isolation.proofs.OneBlock.Model.Messages.{put_over}
use Rattle.isolation.proofs.OneBlock.Model.Step.{Put_ack_comes}
use Rattle.isolation.proofs.OneBlock.Facts.Runs.{goes_on}
use Rattle.isolation.proofs.OneBlock.Uses.SameStates.{good_still}
use Rattle.isolation.proofs.Machine.Slots.{slot, at_slot, Mail, at_here}
use Rattle.isolation.proofs.Machine.World.{World, as_put_ack, put_out_at, local_at, project}
use Rattle.isolation.proofs.Machine.Invariant.{Inv, Next, hart_beside}
use Rattle.isolation.proofs.Machine.Readings.{known_at, lies}
use Rattle.isolation.proofs.HartMessages.Deliveries.{Delivers, here_one, delivers_next}

is_there : (b : ℕ) (o : Option PutOut) → put_out_at b o ≢ None → has_put_of b o ≡ true
is_there b o n = grind arith

not_there : (b c : ℕ) (o : Option PutOut) → c ≢ b → has_put_of b o ≡ true → None ≡ put_out_at c o
not_there b c o n e = grind (arith, eqb-true, eqb-false)

over_here : (s : Setting) (b i : ℕ) (h : Hart) (f : FlatHart) (p : Past) (mail : Mail) → local_at s b i (record h { put = None }) f p (at_slot (slot 5 b i) None mail) ≡ put_over (local_at s b i h f p mail)
over_here s b i h f p mail = λ k. record (put_over (local_at s b i h f p mail)) { put_ack = ap as_put_ack (at_here (slot 5 b i) None mail) k }

over_there : (s : Setting) (c i : ℕ) (h : Hart) (f : FlatHart) (p : Past) (mail : Mail) → None ≡ put_out_at c h.put → local_at s c i (record h { put = None }) f p mail ≡ local_at s c i h f p mail
over_there s c i h f p mail e = λ k. record (local_at s c i h f p mail) { put = e k }

module _ (x : World) (v : Inv x) (key i b : ℕ) (there : x.machine.net key ≡ Some (PutAck i b)) (o : i < x.machine.setting.count) where
  abbrev n : ℕ
  n = x.machine.setting.count

  abbrev h : Hart
  h = x.machine.harts i

  abbrev turn : HartResult
  turn = quiet (record h { put = None })

  come : ((project b x).hart i).put_ack ≡ true
  come = ap as_put_ack (lies x v (PutAck i b) (key, there))

  has : has_put_of b h.put ≡ true
  has = is_there b h.put ((known_at x v b).expected.put_ack i o come).0

  delivers : Delivers x key i b (PutAck i b) turn
  delivers = record {
    is_hart = o;
    there = there;
    unstamped = refl;
    silent = refl;
    about = refl;
    sent_about = tt;
    sent = tt;
    hart = hart_beside x.machine.setting h (x.flat.hart i) (x.history.past i) _ _ _ _ _ (v.harts i);
    here = λ net. here_one x i (PutAck i b) turn b (put_over ((project b x).hart i)) net refl tt (over_here x.machine.setting b i h (x.flat.hart i) (x.history.past i) x.mail) (goes_on n (project b x) _ (v.blocks b) (Put_ack_comes i o come));
    elsewhere = λ c d. good_still n (project c x) i _ (over_there x.machine.setting c i h (x.flat.hart i) (x.history.past i) x.mail (not_there b c h.put d has)) (v.blocks c);
  }

  -- the Put is over
  pub put_ack_next : (e : Option Entry) (w : Machine) → ComesAbout (hart_change i (put_ack_row b h) (record x.machine { net = taken key x.machine.net })) e w → Next x e w
  put_ack_next e w c = delivers_next x key i b (PutAck i b) turn e w v delivers (subst (λ t. ComesAbout (hart_change i t (record x.machine { net = taken key x.machine.net })) e w) (cond-true (has_put_of b h.put) turn (quiet h) has) c)
