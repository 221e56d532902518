-- Each step leaves every hart room for its lines, and so does each list of steps from the start.
use Rattle.std.proofs.Common.{◌≡◌, ℕ, List, [], ◌∷◌, Bool, true, false, Option, None, Some, cond, nat_lt, refl, sym, ap, subst, arith}
use Rattle.std.specs.Prelude.{◌==◌}
use Rattle.words.specs.declared.entry.Entry.{Entry}
use Rattle.words.specs.declared.entry.Step.{Step}
use Rattle.words.specs.declared.entry.Step.TheVariants.{Core, Evict, Deliver}
use Rattle.flat.specs.State.{Setting, Flat}
use Rattle.protocol.specs.Messages.{Message, block_of, receiver_of}
use Rattle.protocol.specs.Hart.{Hart, HartResult}
use Rattle.protocol.specs.Caches.{Geometry}
use Rattle.protocol.specs.Core.{core_row}
use Rattle.protocol.specs.Evict.{evict_row}
use Rattle.protocol.specs.HartMessages.{message_row}
use Rattle.protocol.specs.Directory.{Served, directory_row}
use Rattle.protocol.specs.Network.{taken}
use Rattle.protocol.specs.Machine.{Machine, Change, no_change, if_hart, hart_change, hart_change_if, served_change, arrival, delivery, change_of, MayNameIn, Steps, Runs}
use Rattle.protocol.specs.Start.{start}
use Rattle.isolation.specs.Belongs.{Belongs}
use Rattle.isolation.specs.Facts.{LinesFit}
use Rattle.isolation.proofs.Rooms.Sets.{LeavesRoom, Fits, room_for, set_fits}
use Rattle.isolation.proofs.Rooms.CoreRooms.{core_fits, evict_fits}
use Rattle.isolation.proofs.Rooms.MessageRooms.{message_fits}

module _ (g : Geometry) where
  abbrev pub AllFit : Machine → Type 0
  AllFit w = (i : ℕ) → Fits g (w.harts i)

  all_start : (s : Setting) (entry : ℕ) → AllFit (start s entry)
  all_start s entry i = record { sets = λ b. ([], omega arith, λ c k. let e : false ≡ true = k.1 in absurd (cc)); waits = λ r e. absurd (cc) }

  module _ (v : Machine) (f : AllFit v) where
    at_hart : (i : ℕ) (t : HartResult) (w : Machine) → w.harts ≡ v.harts → Fits g t.hart → AllFit (hart_change i t w).machine
    at_hart i t w same k j = by_place (j == i)
      where
        by_place : (z : Bool) → Fits g (cond z t.hart (w.harts j))
        by_place true = k
        by_place false = subst (λ (z : ℕ → Hart). Fits g (z j)) (sym same) (f j)

    if_is : (i : ℕ) (c : Change) → AllFit c.machine → AllFit (if_hart i v c).machine
    if_is i c k = by_count (nat_lt i v.setting.count)
      where
        by_count : (z : Bool) → AllFit (cond z c (no_change v)).machine
        by_count true = k
        by_count false = f

    by_row : (i : ℕ) (o : Option HartResult) → ((t : HartResult) → o ≡ Some t → Fits g t.hart) → AllFit (hart_change_if i o v).machine
    by_row i None k = f
    by_row i (Some t) k = at_hart i t v refl (k t refl)

    served : (key b : ℕ) (o : Option Served) → AllFit (served_change key b o v).machine
    served key b None = f
    served key b (Some s) = f

    arrived : (key : ℕ) (m : Message) (to : Option ℕ) → AllFit (arrival key m to v).machine
    arrived key m None = served key (block_of m) (directory_row v.setting.count m (v.entries (block_of m)) (v.memory (block_of m)))
    arrived key m (Some i) = if_is i (hart_change i (message_row v.setting.count i m (v.harts i)) (record v { net = taken key v.net })) (at_hart i (message_row v.setting.count i m (v.harts i)) (record v { net = taken key v.net }) refl (message_fits g i (v.harts i) (f i) v.setting.count m))

    delivered : (key : ℕ) (o : Option Message) → AllFit (delivery key o v).machine
    delivered key None = f
    delivered key (Some m) = arrived key m (receiver_of m)

    all_changed : (victim : ℕ → Option ℕ) (s : Step) → MayNameIn g v s victim → AllFit (change_of victim s v).machine
    all_changed victim (Core i) may = if_is i (hart_change_if i (core_row v.setting i v.stamps victim (v.harts i)) v) (by_row i (core_row v.setting i v.stamps victim (v.harts i)) (core_fits g i victim (v.harts i) (f i) v.setting v.stamps may))
    all_changed victim (Evict i b) may = if_is i (hart_change_if i (evict_row i b (v.harts i)) v) (by_row i (evict_row i b (v.harts i)) (evict_fits g i victim (v.harts i) (f i) b))
    all_changed victim (Deliver key) may = delivered key (v.net key)

    -- a step
    pub all_next : (s : Step) (e : Option Entry) (w : Machine) → Steps g v s e w → AllFit w
    all_next s e w step = subst (λ (z : ℕ → Hart). (i : ℕ) → Fits g (z i)) (sym (ap (λ (m : Machine). m.harts) step.2.3)) (all_changed step.0 s step.1)

  -- steps
  all_later : (v w : Machine) (steps : List Step) (es : List Entry) → AllFit v → Runs g v steps es w → AllFit w
  all_later v w [] es f r = subst AllFit (sym r.1) f
  all_later v w (s ∷ ss) es f r = all_later r.0 w ss r.2 (all_next v f s r.1 r.0 r.3) r.4

  -- so it is of each machine to which a flat state belongs
  pub all_fit : (f : Flat) (w : Machine) → Belongs g f w → AllFit w
  all_fit f w b = all_later (start b.setting b.entry) w b.steps b.entries (all_start b.setting b.entry) b.run

  pub lines_fit_of : (f : Flat) (w : Machine) → Belongs g f w → LinesFit g w
  lines_fit_of f w b =
      let k = all_fit f w b in
      record {
        sets = λ i b. set_fits g (w.harts i).lines b ((k i).sets b);
        awaited = λ i b waits none. room_for g (w.harts i).lines b (subst (LeavesRoom g (w.harts i).lines) waits.2 ((k i).waits waits.0 waits.1)) none;
      }
