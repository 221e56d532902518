-- An answer comes to a hart whose request waits for it: what is left to show, for each of the three.
use Rattle.std.proofs.Common.{◌≡◌, ◌≢◌, ◌<◌, ℕ, Bool, true, false, Option, None, Some, cond, refl, sym, ap, subst, ◌∙◌, arith}
use Rattle.std.specs.Prelude.{◌&&◌}
use Rattle.std.proofs.lemmas.Bool.{eq-eqb}
use Rattle.flat.specs.State.{Setting, FlatHart}
use Rattle.flat.specs.Reasons.{Past}
use Rattle.flat.proofs.Maps.{put_elsewhere}
use Rattle.protocol.specs.Messages.{Granted, Message}
use Rattle.protocol.specs.Hart.{Hart, Transaction, Request, HartResult, quiet}
use Rattle.protocol.specs.Requests.{line_granted, granted_row, refused_row, granted_so_far, answer_row}
use Rattle.protocol.specs.Network.{Network}
use Rattle.isolation.proofs.OneBlock.Model.State.{Running, Aborting, Local, One, at_hart}
use Rattle.isolation.proofs.OneBlock.Model.Core.{conflict_elsewhere}
use Rattle.isolation.proofs.OneBlock.Model.Messages.{fail_own}
use Rattle.isolation.proofs.OneBlock.Model.Step.{Conflicts_elsewhere}
use Rattle.isolation.proofs.OneBlock.Invariant.Each.{Good}
use Rattle.isolation.proofs.OneBlock.Facts.Runs.{goes_on}
use Rattle.isolation.proofs.OneBlock.Uses.SameStates.{good_still}
use Rattle.isolation.proofs.Machine.Slots.{slot, slot_of, at_slot, Mail}
use Rattle.isolation.proofs.Machine.World.{World, copy_of, wait_at, tx_at, cycle_of, own_at, local_at, project}
use Rattle.isolation.proofs.Machine.Invariant.{HartIs, Inv, hart_beside}
use Rattle.isolation.proofs.Machine.Readings.{request_alone}
use Rattle.isolation.proofs.HartMessages.OneHartMoves.{SentFits}
use Rattle.isolation.proofs.HartMessages.Arrivals.{arrived, mail_after}
use Rattle.isolation.proofs.HartMessages.Deliveries.{SentAt, Delivers}
use Rattle.isolation.proofs.HartMessages.RequestEnds.{giving, own_giving, hart_giving, ways}

-- what else a hart's transaction is, that may abort for a conflict
runs : (t : Option Transaction) (e : Bool) → (cycle_of t && e) ≡ true → tx_at t ≢ Aborting → tx_at t ≡ Running
runs t e q n = grind arith

cycles : (t : Option Transaction) (e : Bool) → (cycle_of t && e) ≡ true → cycle_of t ≡ true
cycles t e q = grind arith

is_early : (t : Option Transaction) (e : Bool) → (cycle_of t && e) ≡ true → e ≡ true
is_early t e q = grind arith

stays : (e : Bool) (l : Local) → (l.own.flag && e) ≡ false → fail_own e l.own ≡ l.own
stays e l q = grind arith

gives : (e : Bool) (l : Local) → (l.own.flag && e) ≡ true → fail_own e l.own ≡ (conflict_elsewhere l).own
gives e l q = grind arith

-- at another block
module _ (s : Setting) (n i : ℕ) (h : Hart) (f : FlatHart) (p : Past) (mail : Mail) (c : ℕ) (z : One) (o : i < n) (good : Good n z) (is : local_at s c i h f p mail ≡ z.hart i) (free : wait_at c h.request ≡ None) where
  abbrev GoodWith : Hart → Type 0
  GoodWith k = Good n (at_hart i (local_at s c i k f p mail) z)

  waits_there : (r : Request) → c ≢ r.block → GoodWith (record h { request = Some r })
  waits_there r d = good_still n z i _ ((λ k. record (local_at s c i h f p mail) { wait = (request_alone (Some r) r refl c d ∙ sym free) k }) ∙ is) good

  granted_there : (r : Request) (g : Granted) → c ≢ r.block → GoodWith (granted_row i r g h).hart
  granted_there r g d = good_still n z i _ ((λ k. record (local_at s c i h f p mail) { line = ap copy_of (put_elsewhere r.block c (Some (line_granted r g h)) h.lines d) k; wait = sym free k }) ∙ is) good

  refused_there : (e : Bool) → tx_at h.tx ≢ Aborting → (e ≡ true → p.was_refused ≡ true) → GoodWith (giving e h)
  refused_there e ran noted = go (cycle_of h.tx && e) refl
    where
      now : local_at s c i (giving e h) f p mail ≡ record (local_at s c i h f p mail) { own = fail_own e (own_at s c h f p) }
      now = λ k. record (local_at s c i h f p mail) { wait = sym free k; own = own_giving s c e h f p k }

      go : (q : Bool) → (cycle_of h.tx && e) ≡ q → GoodWith (giving e h)
      go false y = good_still n z i _ (now ∙ ap (λ w. record (local_at s c i h f p mail) { own = w }) (stays e (local_at s c i h f p mail) y) ∙ is) good
      go true y = subst (λ w. Good n (at_hart i w z)) (sym (now ∙ ap (λ w. record (local_at s c i h f p mail) { own = w }) (gives e (local_at s c i h f p mail) y) ∙ ap conflict_elsewhere is))
          (goes_on n z _ good (Conflicts_elsewhere i o (sym (ap (λ l. l.wait) is) ∙ free) (sym (ap (λ l. l.own.tx) is) ∙ runs h.tx e y ran) (sym (ap (λ l. l.own.flag) is) ∙ cycles h.tx e y) (sym (ap (λ l. l.own.noted) is) ∙ noted (is_early h.tx e y))))

-- message m comes to hart i, whose request is r once it has kept the answer
pub record Answers (x : World) (key i : ℕ) (m : Message) (r : Request) : Type 0 where
  pub is_hart : i < x.machine.setting.count
  pub there : x.machine.net key ≡ Some m
  pub about : (slot_of m).block ≡ r.block
  pub alone : (c : ℕ) → c ≢ r.block → wait_at c (x.machine.harts i).request ≡ None
  pub empty : at_slot (slot_of m) None x.mail (slot 2 r.block i) ≡ None
  pub ran : r.refused ≡ true → tx_at (x.machine.harts i).tx ≢ Aborting
  pub noted : r.earlier ≡ true → (x.history.past i).was_refused ≡ true

-- what its turn sends has its place free
pub answer_sent : (x : World) (key i : ℕ) (m : Message) (r : Request) → Answers x key i m r → SentFits i (granted_so_far x.machine.setting.count i r r.grant (x.machine.harts i)).sent (at_slot (slot_of m) None x.mail)
answer_sent x key i m r a = ways (λ t. SentFits i t.sent (at_slot (slot_of m) None x.mail)) x.machine.setting.count i r r.grant (x.machine.harts i) tt (λ _. (refl, a.empty)) (λ _. (refl, a.empty))

-- where its block is shown good, the answer can be taken
pub answers_deliver : (x : World) → Inv x → (key i : ℕ) (m : Message) (r : Request) → Answers x key i m r → ((net : Network) → Good x.machine.setting.count (project r.block (arrived i (granted_so_far x.machine.setting.count i r r.grant (x.machine.harts i)).hart net x.history.past (mail_after m (granted_so_far x.machine.setting.count i r r.grant (x.machine.harts i)) x.mail) x))) → Delivers x key i r.block m (granted_so_far x.machine.setting.count i r r.grant (x.machine.harts i))
answers_deliver x v key i m r a here = record {
  is_hart = a.is_hart;
  there = a.there;
  unstamped = by (λ t. t.stamped ≡ false) refl (λ _. refl) (λ _. refl);
  silent = by (λ t. t.entry ≡ None) refl (λ _. refl) (λ _. refl);
  about = a.about;
  sent_about = by (λ t. SentAt r.block t.sent) tt (λ _. refl) (λ _. refl);
  sent = answer_sent x key i m r a;
  hart = by (λ t. HartIs s t.hart (x.flat.hart i) (x.history.past i)) same (λ _. hart_giving s r.earlier h (x.flat.hart i) (x.history.past i) (v.harts i)) (λ g. filled g);
  here = here;
  elsewhere = λ c d. by (λ t. Good n (at_hart i (local_at s c i t.hart (x.flat.hart i) (x.history.past i) x.mail) (project c x)))
      (waits_there s n i h (x.flat.hart i) (x.history.past i) x.mail c (project c x) a.is_hart (v.blocks c) refl (a.alone c d) r d)
      (λ e. refused_there s n i h (x.flat.hart i) (x.history.past i) x.mail c (project c x) a.is_hart (v.blocks c) refl (a.alone c d) r.earlier (a.ran e) a.noted)
      (λ g. granted_there s n i h (x.flat.hart i) (x.history.past i) x.mail c (project c x) a.is_hart (v.blocks c) refl (a.alone c d) r g d);
}
  where
    n : ℕ
    n = x.machine.setting.count

    s : Setting
    s = x.machine.setting

    h : Hart
    h = x.machine.harts i

    by : (P : HartResult → Type 0) → P (quiet (record h { request = Some r })) → (r.refused ≡ true → P (refused_row i r h)) → ((g : Granted) → P (granted_row i r g h)) → P (granted_so_far n i r r.grant h)
    by P p q w = ways P n i r r.grant h p q w

    same : HartIs s (record h { request = Some r }) (x.flat.hart i) (x.history.past i)
    same = hart_beside s h (x.flat.hart i) (x.history.past i) _ _ _ _ _ (v.harts i)

    filled : (g : Granted) → HartIs s (granted_row i r g h).hart (x.flat.hart i) (x.history.past i)
    filled g = hart_beside s h (x.flat.hart i) (x.history.past i) _ _ _ _ _ (v.harts i)

-- where the request waits, its row is the one that keeps the answer

pub answer_kept : (n i : ℕ) (keep : Request → Request) (o : Option Request) (r : Request) (h : Hart) → o ≡ Some r → answer_row n i r.block keep o h ≡ granted_so_far n i (keep r) (keep r).grant h
answer_kept n i keep o r h e = ap (λ z. answer_row n i r.block keep z h) e ∙ ap (λ q. cond q (granted_so_far n i (keep r) (keep r).grant h) (quiet h)) (eq-eqb r.block r.block refl)
