-- Each step keeps the invariant, and so does each list of steps.
use Rattle.std.proofs.Common.{◌≡◌, ◌<◌, ℕ, List, [], ◌∷◌, ◌++◌, Bool, true, false, Option, None, Some, cond, nat_lt, refl, sym, subst}
use Rattle.std.specs.Prelude.{option_to_list}
use Rattle.std.proofs.lemmas.Bool.{ltb-true}
use Rattle.words.specs.declared.entry.Entry.{Entry}
use Rattle.words.specs.declared.entry.Step.{Step}
use Rattle.words.specs.declared.entry.Step.TheVariants.{Core, Evict, Deliver}
use Rattle.flat.specs.State.{Flat}
use Rattle.flat.specs.Steps.{CarriesSome, IsRun}
use Rattle.flat.specs.Reasons.{History, history_of}
use Rattle.protocol.specs.Messages.{Message, receiver_of}
use Rattle.protocol.specs.Caches.{Geometry}
use Rattle.protocol.specs.Core.{core_row}
use Rattle.protocol.specs.Evict.{evict_row}
use Rattle.protocol.specs.HartMessages.{message_row}
use Rattle.protocol.specs.Network.{taken}
use Rattle.protocol.specs.Machine.{Machine, Change, no_change, if_hart, hart_change, hart_change_if, arrival, delivery, ComesAbout, Steps, Runs}
use Rattle.isolation.proofs.Machine.Slots.{Mail}
use Rattle.isolation.proofs.Machine.World.{World}
use Rattle.isolation.proofs.Machine.Invariant.{Inv, told_some, Next, still_next}
use Rattle.isolation.proofs.HartMessages.MessageRows.{message_next}
use Rattle.isolation.proofs.Directory.DirectoryRows.{directory_next}
use Rattle.isolation.proofs.Core.ResultNext.{evict_next}
use Rattle.isolation.proofs.Core.CoreRows.{core_next}

-- where a number is a hart's the row is made, and elsewhere nothing happens
if_hart_next : (x : World) (v : Inv x) (i : ℕ) (c : Change) (e : Option Entry) (w : Machine) → (i < x.machine.setting.count → ComesAbout c e w → Next x e w) → ComesAbout (if_hart i x.machine c) e w → Next x e w
if_hart_next x v i c e w next comes = by_count (nat_lt i x.machine.setting.count) refl comes
  where
    by_count : (z : Bool) → nat_lt i x.machine.setting.count ≡ z → ComesAbout (cond z c (no_change x.machine)) e w → Next x e w
    by_count true k comes = next (ltb-true i x.machine.setting.count k) comes
    by_count false k comes = still_next x v e w comes

delivered : (x : World) (v : Inv x) (key : ℕ) (e : Option Entry) (w : Machine) (o : Option Message) → x.machine.net key ≡ o → ComesAbout (delivery key o x.machine) e w → Next x e w
delivered x v key e w None k comes = still_next x v e w comes
delivered x v key e w (Some m) k comes = by_receiver (receiver_of m) refl comes
  where
    by_receiver : (to : Option ℕ) → receiver_of m ≡ to → ComesAbout (arrival key m to x.machine) e w → Next x e w
    by_receiver None r comes = directory_next x v key m e w k r comes
    by_receiver (Some i) r comes = if_hart_next x v i (hart_change i (message_row x.machine.setting.count i m (x.machine.harts i)) (record x.machine { net = taken key x.machine.net })) e w (λ o c. message_next x v key i m e w k r o c) comes

-- each step
pub step_next : (g : Geometry) (x : World) (v : Inv x) (s : Step) (e : Option Entry) (w : Machine) → Steps g x.machine s e w → Next x e w
step_next g x v (Core i) e w step = if_hart_next x v i (hart_change_if i (core_row x.machine.setting i x.machine.stamps step.0 (x.machine.harts i)) x.machine) e w (λ o c. core_next x v i o step.0 e w c) step.2
step_next g x v (Evict i b) e w step = if_hart_next x v i (hart_change_if i (evict_row i b (x.machine.harts i)) x.machine) e w (λ o c. evict_next x v i o b e w c) step.2
step_next g x v (Deliver key) e w step = delivered x v key e w (x.machine.net key) refl step.2

-- what a list of steps leads to
pub record Later (x : World) (es : List Entry) (w : Machine) : Type 0 where
  pub flat : Flat
  pub mail : Mail
  pub run : IsRun x.flat es flat
  pub inv : Inv (record { machine = w; flat = flat; history = history_of x.history es; mail = mail })

-- an entry before a run
pub one_more : (f g h : Flat) (e : Option Entry) (es : List Entry) → CarriesSome f e g → IsRun g es h → IsRun f (option_to_list e ++ es) h
one_more f g h None es c r = subst (λ z. IsRun z es h) c r
one_more f g h (Some e) es c r = (g, c, r)

one_told : (h : History) (e : Option Entry) (es : List Entry) → history_of (told_some h e) es ≡ history_of h (option_to_list e ++ es)
one_told h None es = refl
one_told h (Some e) es = refl

-- each list of steps
pub runs_later : (g : Geometry) (x : World) (v : Inv x) (steps : List Step) (es : List Entry) (w : Machine) → Runs g x.machine steps es w → Later x es w
runs_later g x v [] es w r = record {
  flat = x.flat;
  mail = x.mail;
  run = subst (λ z. IsRun x.flat z x.flat) (sym r.0) refl;
  inv = subst (λ z. Inv (record { machine = w; flat = x.flat; history = history_of x.history z; mail = x.mail })) (sym r.0) (subst (λ z. Inv (record { machine = z; flat = x.flat; history = x.history; mail = x.mail })) (sym r.1) v);
}
runs_later g x v (s ∷ ss) es w r =
    let n = step_next g x v s r.1 r.0 r.3 in
    let l = runs_later g (record { machine = r.0; flat = n.flat; history = told_some x.history r.1; mail = n.mail }) n.inv ss r.2 w r.4 in
    record {
      flat = l.flat;
      mail = l.mail;
      run = subst (λ z. IsRun x.flat z l.flat) (sym r.5) (one_more x.flat n.flat l.flat r.1 r.2 n.carries l.run);
      inv = subst (λ z. Inv (record { machine = w; flat = l.flat; history = history_of x.history z; mail = l.mail })) (sym r.5) (subst (λ z. Inv (record { machine = w; flat = l.flat; history = z; mail = l.mail })) (one_told x.history r.1 r.2) l.inv);
    }
