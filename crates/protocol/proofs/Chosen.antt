-- Which row a step of the machine makes.
use Rattle.std.proofs.Common.{ℕ, true, ◌≡◌, nat_lt, cond, Option, Some, None, subst}
use Rattle.words.specs.declared.entry.Entry.{Entry}
use Rattle.words.specs.declared.entry.Step.TheVariants.{Core, Evict, Deliver}
use Rattle.protocol.specs.Messages.{Message, block_of, receiver_of}
use Rattle.protocol.specs.Caches.{Geometry}
use Rattle.protocol.specs.Core.{core_row}
use Rattle.protocol.specs.Evict.{evict_row}
use Rattle.protocol.specs.HartMessages.{message_row}
use Rattle.protocol.specs.Directory.{directory_row}
use Rattle.protocol.specs.Network.{taken}
use Rattle.protocol.specs.Machine.{Machine, Change, no_change, hart_change, hart_change_if, served_change, arrival, delivery, ComesAbout, Steps}

-- a change at a hart
at_hart : (i : ℕ) (v w : Machine) (c : Change) (e : Option Entry) → nat_lt i v.setting.count ≡ true → ComesAbout (cond (nat_lt i v.setting.count) c (no_change v)) e w → ComesAbout c e w
at_hart i v w c e is_hart comes = subst (λ b. ComesAbout (cond b c (no_change v)) e w) is_hart comes

-- the core row of the hart
pub core_step : (g : Geometry) (v w : Machine) (i : ℕ) (e : Option Entry) → nat_lt i v.setting.count ≡ true → Steps g v (Core i) e w → (victim : ℕ → Option ℕ) × ComesAbout (hart_change_if i (core_row v.setting i v.stamps victim (v.harts i)) v) e w
core_step g v w i e is_hart step = (step.0, at_hart i v w (hart_change_if i (core_row v.setting i v.stamps step.0 (v.harts i)) v) e is_hart step.2)

-- the evict row of the hart
pub evict_step : (g : Geometry) (v w : Machine) (i b : ℕ) (e : Option Entry) → nat_lt i v.setting.count ≡ true → Steps g v (Evict i b) e w → ComesAbout (hart_change_if i (evict_row i b (v.harts i)) v) e w
evict_step g v w i b e is_hart step = at_hart i v w (hart_change_if i (evict_row i b (v.harts i)) v) e is_hart step.2

-- the arrival of the message under the key
pub arrival_step : (g : Geometry) (v w : Machine) (key : ℕ) (m : Message) (e : Option Entry) → v.net key ≡ Some m → Steps g v (Deliver key) e w → ComesAbout (arrival key m (receiver_of m) v) e w
arrival_step g v w key m e there step = subst (λ o. ComesAbout (delivery key o v) e w) there step.2

-- the message row of the hart that a message goes to
pub message_step : (g : Geometry) (v w : Machine) (key i : ℕ) (m : Message) (e : Option Entry) → v.net key ≡ Some m → receiver_of m ≡ Some i → nat_lt i v.setting.count ≡ true → Steps g v (Deliver key) e w → ComesAbout (hart_change i (message_row v.setting.count i m (v.harts i)) (record v { net = taken key v.net })) e w
message_step g v w key i m e there goes is_hart step = at_hart i v w (hart_change i (message_row v.setting.count i m (v.harts i)) (record v { net = taken key v.net })) e is_hart (subst (λ to. ComesAbout (arrival key m to v) e w) goes (arrival_step g v w key m e there step))

-- the directory's row of a message to it
pub directory_step : (g : Geometry) (v w : Machine) (key : ℕ) (m : Message) (e : Option Entry) → v.net key ≡ Some m → receiver_of m ≡ None → Steps g v (Deliver key) e w → ComesAbout (served_change key (block_of m) (directory_row v.setting.count m (v.entries (block_of m)) (v.memory (block_of m))) v) e w
directory_step g v w key m e there goes step = subst (λ to. ComesAbout (arrival key m to v) e w) goes (arrival_step g v w key m e there step)
