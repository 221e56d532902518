-- The directory takes a message: what both machines are at each block then, and what is left to show.
use Rattle.std.proofs.Common.{◌≡◌, ◌≢◌, ◌<◌, ℕ, List, [], ◌∷◌, Bool, true, false, Option, None, Some, cond, eqb, refl, sym, ap, subst, subst₂, ◌∙◌}
use Rattle.std.specs.Option.{option_map}
use Rattle.std.proofs.lemmas.Bool.{eqb-true, eqb-false}
use Rattle.words.specs.declared.entry.Entry.{Entry}
use Rattle.flat.specs.Bytes.{put_at}
use Rattle.protocol.specs.Messages.{Block, Message}
use Rattle.protocol.specs.Lines.{words_at}
use Rattle.protocol.specs.Directory.{DirEntry, Served}
use Rattle.protocol.specs.Network.{taken}
use Rattle.protocol.specs.Machine.{Machine, served_change, ComesAbout}
use Rattle.isolation.proofs.OneBlock.Model.State.{One}
use Rattle.isolation.proofs.OneBlock.Invariant.Each.{Good}
use Rattle.isolation.proofs.Machine.Slots.{Slot, slot, slot_of, at_slot, at_else, Mail}
use Rattle.isolation.proofs.Machine.Sends.{Fit, with_all, take_carried, send_carried}
use Rattle.isolation.proofs.Machine.World.{World, busy_of, local_at, project}
use Rattle.isolation.proofs.Machine.Invariant.{Inv, Next}
use Rattle.isolation.proofs.HartMessages.OneHartMoves.{local_mail, InRange, put_range, take_range}

-- block b with this entry, these words in memory and this mail
abbrev pub block_with : ℕ → DirEntry → Block → Mail → World → One
block_with b e memory mail x = record {
  owner = e.owner;
  sharers = e.sharers;
  busy = option_map busy_of e.busy;
  memory = memory;
  flat = words_at x.flat.mem b;
  hart = λ j. local_at x.machine.setting b j (x.machine.harts j) (x.flat.hart j) (x.history.past j) mail;
}

-- the mail without a message, and with those that are sent then
abbrev pub answered : Message → List Message → Mail → Mail
answered m sent mail = with_all sent (at_slot (slot_of m) None mail)

-- messages about block b, to harts below n
abbrev pub AreTo : ℕ → ℕ → List Message → Type 0
AreTo n b [] = Unit {0}
AreTo n b (m ∷ ms) = ((slot_of m).block ≡ b) × ((slot_of m).hart < n) × AreTo n b ms

-- such messages change no slot of another block
pub sent_elsewhere : (n b : ℕ) (ms : List Message) (mail : Mail) → AreTo n b ms → (a : Slot) → a.block ≢ b → with_all ms mail a ≡ mail a
sent_elsewhere n b [] mail t a d = refl
sent_elsewhere n b (m ∷ ms) mail t a d = sent_elsewhere n b ms (at_slot (slot_of m) (Some m) mail) t.2 a d ∙ at_else a (slot_of m) (Some m) mail (λ z. d (ap (λ c. c.block) z ∙ t.0))

-- and all mail is of harts below n once they are sent
pub all_range : (n b : ℕ) (ms : List Message) (mail : Mail) → AreTo n b ms → InRange n mail → InRange n (with_all ms mail)
all_range n b [] mail t r = r
all_range n b (m ∷ ms) mail t r = all_range n b ms (at_slot (slot_of m) (Some m) mail) t.2 (put_range n m mail t.1 r)

-- at another block nothing has changed
other_block : (x : World) (mail : Mail) (c : ℕ) → ((a : Slot) → a.block ≡ c → mail a ≡ x.mail a) → project c x ≡ block_with c (x.machine.entries c) (x.machine.memory c) mail x
other_block x mail c off = λ i. record (project c x) { hart = λ j. sym (local_mail x.machine.setting c j (x.machine.harts j) (x.flat.hart j) (x.history.past j) mail x.mail (λ k. off (slot k c j) refl)) i }

-- a message about block b is served: at block b it has to be shown good
pub served_next : (x : World) → Inv x → (key : ℕ) (m : Message) (b : ℕ) (s : Served) (e : Option Entry) (w : Machine) → x.machine.net key ≡ Some m → (slot_of m).block ≡ b
    → AreTo x.machine.setting.count b s.sent → Fit s.sent (at_slot (slot_of m) None x.mail) → Good x.machine.setting.count (block_with b s.entry s.memory (answered m s.sent x.mail) x) → ComesAbout (served_change key b (Some s) x.machine) e w → Next x e w
served_next x v key m b s e w k at to fit good c = subst₂ (λ e w. Next x e w) (sym c.0) (sym c.3) next
  where
    n : ℕ
    n = x.machine.setting.count

    mail : Mail
    mail = answered m s.sent x.mail

    off : (a : Slot) → a.block ≢ b → mail a ≡ x.mail a
    off a d = sent_elsewhere n b s.sent (at_slot (slot_of m) None x.mail) to a d ∙ at_else a (slot_of m) None x.mail (λ z. d (ap (λ c. c.block) z ∙ at))

    here : (c : ℕ) (q : Bool) → eqb c b ≡ q → Good n (block_with c (cond q s.entry (x.machine.entries c)) (cond q s.memory (x.machine.memory c)) mail x)
    here c true z = subst (λ d. Good n (block_with d s.entry s.memory mail x)) (sym (eqb-true c b z)) good
    here c false z = subst (Good n) (other_block x mail c (λ a y. off a (λ u. eqb-false c b z (sym y ∙ u)))) (v.blocks c)

    next : Next x None (record x.machine { entries = put_at b s.entry x.machine.entries; memory = put_at b s.memory x.machine.memory; net = c.1 })
    next = record {
      flat = x.flat;
      mail = mail;
      carries = refl;
      reason = tt;
      inv = record {
        same = v.same;
        carried = send_carried s.sent (taken key x.machine.net) c.1 (at_slot (slot_of m) None x.mail) (take_carried x.machine.net x.mail key m v.carried k) c.2 fit;
        range = all_range n b s.sent (at_slot (slot_of m) None x.mail) to (take_range n (slot_of m) x.mail v.range);
        taken = v.taken;
        harts = v.harts;
        bytes = v.bytes;
        blocks = λ c. here c (eqb c b) refl;
      };
    }
