-- No step changes the text, the size of memory or the number of harts.
use Rattle.std.proofs.Common.{ℕ, Bool, true, false, ◌≡◌, nat_lt, Option, Some, None, refl, ap, cond, ◌∙◌}
use Rattle.words.specs.declared.entry.Entry.{Entry}
use Rattle.words.specs.declared.entry.Step.{Step}
use Rattle.words.specs.declared.entry.Step.TheVariants.{Core, Evict, Deliver}
use Rattle.protocol.specs.Messages.{Message, block_of, receiver_of}
use Rattle.protocol.specs.Hart.{HartResult}
use Rattle.protocol.specs.Caches.{Geometry}
use Rattle.protocol.specs.Core.{core_row}
use Rattle.protocol.specs.Evict.{evict_row}
use Rattle.protocol.specs.HartMessages.{message_row}
use Rattle.protocol.specs.Directory.{Served, directory_row}
use Rattle.protocol.specs.Network.{taken}
use Rattle.protocol.specs.Machine.{Machine, Change, hart_change, hart_change_if, served_change, no_change, arrival, delivery, change_of, Steps}

-- a change of this machine that keeps what never changes
abbrev Keeps : Machine → Change → Type 0
Keeps w c = c.machine.setting ≡ w.setting

chosen : (w : Machine) (b : Bool) (c d : Change) → Keeps w c → Keeps w d → Keeps w (cond b c d)
chosen w true c d kc kd = kc
chosen w false c d kc kd = kd

by_hart : (i : ℕ) (t : Option HartResult) (w : Machine) → Keeps w (hart_change_if i t w)
by_hart i None w = refl
by_hart i (Some t) w = refl

by_directory : (key b : ℕ) (s : Option Served) (w : Machine) → Keeps w (served_change key b s w)
by_directory key b None w = refl
by_directory key b (Some s) w = refl

by_arrival : (key : ℕ) (m : Message) (to : Option ℕ) (w : Machine) → Keeps w (arrival key m to w)
by_arrival key m None w = by_directory key (block_of m) (directory_row w.setting.count m (w.entries (block_of m)) (w.memory (block_of m))) w
by_arrival key m (Some i) w = chosen w (nat_lt i w.setting.count) (hart_change i (message_row w.setting.count i m (w.harts i)) (record w { net = taken key w.net })) (no_change w) refl refl

by_delivery : (key : ℕ) (m : Option Message) (w : Machine) → Keeps w (delivery key m w)
by_delivery key None w = refl
by_delivery key (Some m) w = by_arrival key m (receiver_of m) w

by_step : (victim : ℕ → Option ℕ) (s : Step) (w : Machine) → Keeps w (change_of victim s w)
by_step victim (Core i) w = chosen w (nat_lt i w.setting.count) (hart_change_if i (core_row w.setting i w.stamps victim (w.harts i)) w) (no_change w) (by_hart i (core_row w.setting i w.stamps victim (w.harts i)) w) refl
by_step victim (Evict i b) w = chosen w (nat_lt i w.setting.count) (hart_change_if i (evict_row i b (w.harts i)) w) (no_change w) (by_hart i (evict_row i b (w.harts i)) w) refl
by_step victim (Deliver key) w = by_delivery key (w.net key) w

-- a step leads to a machine of the same text, size and number of harts
pub setting_stays : (g : Geometry) (v w : Machine) (s : Step) (e : Option Entry) → Steps g v s e w → w.setting ≡ v.setting
setting_stays g v w s e step = ap (λ m. m.setting) step.2.3 ∙ by_step step.0 s v
