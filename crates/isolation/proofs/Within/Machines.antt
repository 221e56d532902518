-- Each step leaves a machine within memory, and so do all steps from the start.
use Rattle.std.proofs.Common.{◌≡◌, ℕ, Bool, true, false, List, [], ◌∷◌, Option, None, Some, cond, nat_lt, refl, sym, subst}
use Rattle.std.specs.Prelude.{◌==◌, All, IfSome, option_to_list}
use Rattle.std.specs.Option.{ForSome}
use Rattle.std.proofs.lemmas.List.Elements.{All-nil, All-cons, All-head, All-tail}
use Rattle.words.specs.declared.entry.Entry.{Entry}
use Rattle.words.specs.declared.entry.Step.{Step}
use Rattle.words.specs.declared.entry.Step.TheVariants.{Core, Evict, Deliver}
use Rattle.flat.specs.Bytes.{put_at}
use Rattle.flat.specs.State.{Setting}
use Rattle.protocol.specs.Messages.{Message, block_of, receiver_of}
use Rattle.protocol.specs.Hart.{Hart, HartResult}
use Rattle.protocol.specs.Caches.{Geometry}
use Rattle.protocol.specs.Core.{core_row}
use Rattle.protocol.specs.Evict.{evict_row}
use Rattle.protocol.specs.HartMessages.{message_row}
use Rattle.protocol.specs.Directory.{Served}
use Rattle.protocol.specs.Network.{Network, taken, Sends}
use Rattle.protocol.specs.Machine.{Machine, Change, no_change, if_hart, hart_change, hart_change_if, served_change, arrival, delivery, change_of, Steps, Runs}
use Rattle.protocol.specs.Start.{start}
use Rattle.protocol.proofs.Settings.{setting_stays}
use Rattle.isolation.specs.Memory.{HartIsWithin, IsWithinMemory}
use Rattle.isolation.proofs.Within.Harts.{RecordLies, MessageLies, ResultIsWithin, for_some}
use Rattle.isolation.proofs.Within.CoreRows.{RowIsWithin, core_within, evict_within}
use Rattle.isolation.proofs.Within.MessageRows.{message_within}
use Rattle.isolation.proofs.Within.DirectoryRows.{ServedIsWithin, directory_within}

-- all messages in flight are about blocks in memory
abbrev NetIsWithin : Setting → Network → Type 0
NetIsWithin s net = (key : ℕ) → ForSome (net key) (MessageLies s)

-- a change leaves harts and messages in flight within memory, and what it sends is so too
record ChangeIsWithin (s : Setting) (c : Change) : Type 0 where
  harts : (i : ℕ) → HartIsWithin s (c.machine.harts i)
  messages : NetIsWithin s c.machine.net
  sent : All (MessageLies s) c.sent

module _ (s : Setting) where
  -- a message is put under a key, or none
  message_put : (key : ℕ) (o : Option Message) (net : Network) → IfSome o (MessageLies s) → NetIsWithin s net
      → NetIsWithin s (put_at key o net)
  message_put key o net lies k j = by_key (j == key)
    where
      by_key : (z : Bool) → ForSome (cond z o (net j)) (MessageLies s)
      by_key true = for_some (MessageLies s) o lies
      by_key false = k j

  all_sent : (old : Network) (ms : List Message) (new : Network) → NetIsWithin s old → All (MessageLies s) ms
      → Sends old ms new → NetIsWithin s new
  all_sent old [] new k lie sends = subst (NetIsWithin s) (sym sends) k
  all_sent old (m ∷ ms) new k lie sends =
      all_sent (put_at sends.0 (Some m) old) ms new
      (message_put sends.0 (Some m) old (All-head (MessageLies s) m ms lie) k) (All-tail (MessageLies s) m ms lie) sends.2

  one_sent : (o : Option Message) → IfSome o (MessageLies s) → All (MessageLies s) (option_to_list o)
  one_sent None lies = All-nil (MessageLies s)
  one_sent (Some m) lies = All-cons (MessageLies s) m [] lies (All-nil (MessageLies s))

  hart_put : (i : ℕ) (h : Hart) (harts : ℕ → Hart) → HartIsWithin s h → ((j : ℕ) → HartIsWithin s (harts j)) → (j : ℕ)
      → HartIsWithin s (put_at i h harts j)
  hart_put i h harts k others j = by_place (j == i)
    where
      by_place : (z : Bool) → HartIsWithin s (cond z h (harts j))
      by_place true = k
      by_place false = others j

-- a step
module _ (v : Machine) (f : IsWithinMemory v) where
  abbrev s : Setting
  s = v.setting

  nothing : ChangeIsWithin s (no_change v)
  nothing = record { harts = f.harts; messages = f.messages; sent = All-nil (MessageLies s) }

  if_is : (i : ℕ) (c : Change) → ChangeIsWithin s c → ChangeIsWithin s (if_hart i v c)
  if_is i c k = by_count (nat_lt i s.count)
    where
      by_count : (z : Bool) → ChangeIsWithin s (cond z c (no_change v))
      by_count true = k
      by_count false = nothing

  at_hart : (i : ℕ) (t : HartResult) (net : Network) → ResultIsWithin s t → NetIsWithin s net
      → ChangeIsWithin s (hart_change i t (record v { net = net }))
  at_hart i t net k lie = record { harts = hart_put s i t.hart v.harts k.hart f.harts; messages = lie; sent = one_sent s t.sent k.sent }

  by_row : (i : ℕ) (o : Option HartResult) → RowIsWithin s o → ChangeIsWithin s (hart_change_if i o v)
  by_row i None k = nothing
  by_row i (Some t) k = at_hart i t v.net k f.messages

  without : (key : ℕ) → NetIsWithin s (taken key v.net)
  without key = message_put s key None v.net tt f.messages

  served : (key b : ℕ) (o : Option Served) → IfSome o (ServedIsWithin s) → ChangeIsWithin s (served_change key b o v)
  served key b None k = nothing
  served key b (Some t) k = record { harts = f.harts; messages = without key; sent = k }

  arrived : (key : ℕ) (m : Message) → MessageLies s m → (to : Option ℕ) → ChangeIsWithin s (arrival key m to v)
  arrived key m lies None = served key (block_of m) _ (directory_within s s.count m (v.entries (block_of m)) (v.memory (block_of m)) lies)
  arrived key m lies (Some i) =
      let k = message_within s s.count i (v.harts i) (f.harts i) m lies in
      if_is i _ (at_hart i (message_row s.count i m (v.harts i)) (taken key v.net) k (without key))

  delivered : (key : ℕ) (o : Option Message) → v.net key ≡ o → ChangeIsWithin s (delivery key o v)
  delivered key None there = nothing
  delivered key (Some m) there = arrived key m (f.messages key m there) (receiver_of m)

  changed : (victim : ℕ → Option ℕ) (step : Step) → ChangeIsWithin s (change_of victim step v)
  changed victim (Core i) =
      if_is i _ (by_row i (core_row s i v.stamps victim (v.harts i)) (core_within s i (v.harts i) (f.harts i) victim v.stamps))
  changed victim (Evict i b) = if_is i _ (by_row i (evict_row i b (v.harts i)) (evict_within s i (v.harts i) (f.harts i) b))
  changed victim (Deliver key) = delivered key (v.net key) refl

pub step_within : (g : Geometry) (v w : Machine) (s : Step) (e : Option Entry) → IsWithinMemory v → Steps g v s e w
    → IsWithinMemory w
step_within g v w s e f step =
    let c = change_of step.0 s v in
    let k = changed v f step.0 s in
    let net = all_sent v.setting c.machine.net c.sent step.2.1 k.messages k.sent step.2.2 in
    let after : (P : Machine → Type 0) → P (record c.machine { net = step.2.1 }) → P w = λ P. subst P (sym step.2.3) in
    let stays = sym (setting_stays g v w s e step) in
    record {
      harts = subst (λ z. (i : ℕ) → HartIsWithin z (w.harts i)) stays (after (λ z. (i : ℕ) → HartIsWithin v.setting (z.harts i)) k.harts);
      messages = subst (λ z. NetIsWithin z w.net) stays (after (λ z. NetIsWithin v.setting z.net) net);
    }

-- the start
pub start_within : (s : Setting) (entry : ℕ) → IsWithinMemory (start s entry)
start_within s entry = record {
  harts = λ i. record {
    lines = λ b k. absurd (cc);
    records = All-nil (RecordLies s);
    request = λ r e. absurd (cc);
    put = λ p e. absurd (cc);
  };
  messages = λ key m e. absurd (cc);
}

steps_within : (g : Geometry) (v w : Machine) (steps : List Step) (es : List Entry) → IsWithinMemory v → Runs g v steps es w
    → IsWithinMemory w
steps_within g v w [] es f runs = subst IsWithinMemory (sym runs.1) f
steps_within g v w (s ∷ ss) es f runs = steps_within g runs.0 w ss runs.2 (step_within g v runs.0 s runs.1 f runs.3) runs.4

-- all steps from it
pub run_within : (g : Geometry) (s : Setting) (entry : ℕ) (steps : List Step) (es : List Entry) (w : Machine)
    → Runs g (start s entry) steps es w → IsWithinMemory w
run_within g s entry steps es w runs = steps_within g (start s entry) w steps es (start_within s entry) runs
