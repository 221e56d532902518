-- What is known of an access before it: it is allowed, and its line has what the hart sees in the flat machine.
use Rattle.std.proofs.Common.{◌≡◌, ◌<◌, ◌/◌, ◌%◌, ℕ, Bool, true, Option, None, Some, Ok, cond, refl, sym, ap, subst, ◌∙◌}
use Rattle.std.specs.Prelude.{is_some}
use Rattle.std.specs.Option.{option_map}
use Rattle.words.specs.declared.message.Kind.TheVariants.{Read, Write}
use Rattle.table.specs.declared.effect.Act.TheVariants as act
use Rattle.table.specs.declared.effect.Store.{Store}
use Rattle.table.specs.declared.effect.MemoryAct.{MemoryAct}
use Rattle.words.specs.Bytes.{bytes_in}
use Rattle.flat.specs.State.{FlatHart, flat_view, MayAccess}
use Rattle.flat.specs.Causes.{done_next}
use Rattle.flat.specs.Effects.{access, put_by, put_of, store_by}
use Rattle.protocol.specs.Messages.{Block}
use Rattle.protocol.specs.Lines.{Line, is_enough, byte_in, words_at, words_put, state_put, marks_used, line_used}
use Rattle.protocol.specs.Core.{kind_of}
use Rattle.isolation.proofs.OneBlock.Model.State.{Has}
use Rattle.isolation.proofs.OneBlock.Model.Core.{enough}
use Rattle.isolation.proofs.OneBlock.Uses.AccessSteps.{Suffices}
use Rattle.isolation.proofs.Machine.World.{World, copy_of}
use Rattle.isolation.proofs.Machine.Invariant.{Inv}
use Rattle.isolation.proofs.Machine.Readings.{known_at}
use Rattle.isolation.proofs.Machine.Tables.{enough_same}
use Rattle.isolation.proofs.Words.Bytes.{byte_back, put_same}
use Rattle.isolation.proofs.Words.Laying.{seen_small, lay_is}
use Rattle.isolation.proofs.Words.NextWord.{aligned_done}
use Rattle.isolation.proofs.Core.RetireRows.{Ready, effect}

-- hart i may retire an access, whose line is enough for it
pub record Access (x : World) (i : ℕ) : Type 0 where
  pub inv : Inv x
  pub is_hart : i < x.machine.setting.count
  pub ready : Ready (x.machine.harts i)
  pub does : MemoryAct
  pub next : ℕ
  pub write : Option (ℕ × ℕ)
  pub is_done : done_next (is_some does.store) x.machine.setting (x.flat.hart i) ≡ Ok (effect next write (act.Memory does))
  pub line : Line
  pub has : (x.machine.harts i).lines (does.addr / 32) ≡ Some line
  pub enough : is_enough (kind_of does) (Some line) ≡ true

-- the number that is stored, and what that makes of the block
abbrev pub number : (ℕ → ℕ) → MemoryAct → Store → ℕ
number view m q = put_of view m q

abbrev pub changes : (ℕ → ℕ) → MemoryAct → Option Store → Option (Block → Block)
changes view m z = option_map (λ q d. words_put m (Some (number view m q)) d) z

module _ (x : World) (i : ℕ) (a : Access x i) where
  abbrev f : FlatHart
  f = x.flat.hart i

  abbrev view : ℕ → ℕ
  view = flat_view x.flat i

  abbrev m : MemoryAct
  m = a.does

  abbrev b : ℕ
  b = m.addr / 32

  abbrev l : Line
  l = a.line

  -- it is aligned
  pub aligned : m.addr % bytes_in m.width ≡ 0
  aligned = aligned_done x.machine.setting f (effect a.next a.write (act.Memory m)) (is_some m.store) m a.is_done refl

  -- its line has what the hart sees in the flat machine
  sees : l.content ≡ words_at view b
  sees = (known_at x a.inv b).accesses.sees i l.state l.content l.marks a.is_hart a.ready.acts (ap copy_of a.has) ∙ lay_is b f.tx x.flat.mem a.inv.bytes.mem (a.inv.bytes.within i)

  -- so each byte of the line is what the hart sees
  pub same_bytes : (c : ℕ) → c / 32 ≡ b → byte_in l.content c ≡ view c
  same_bytes c e = ap (λ k. byte_in k c) (sees ∙ ap (λ d. words_at view d) (sym e)) ∙ byte_back view c (seen_small f.tx x.flat.mem (a.inv.bytes.writes i) a.inv.bytes.mem)

  -- a line that is enough for a store
  enough_write : (q : Store) → m.store ≡ Some q → enough Write (copy_of (Some l)) ≡ true
  enough_write q e = enough_same Write (Some l) ∙ subst (λ z. is_enough (cond (is_some z) Write Read) (Some l) ≡ true) e a.enough

  -- no other hart's transaction is in its way
  pub allowed : MayAccess x.flat i b m.store
  allowed = by_store m.store refl
    where
      by_store : (z : Option Store) → m.store ≡ z → MayAccess x.flat i b z
      by_store None e = λ j lt n. (known_at x a.inv b).accesses.load i j a.is_hart (subst (λ y. j < y.count) a.inv.same lt) n (subst (λ y. enough Read (copy_of y) ≡ true) (sym a.has) refl)
      by_store (Some q) e = λ j lt n. (known_at x a.inv b).accesses.store i j a.is_hart (subst (λ y. j < y.count) a.inv.same lt) n (subst (λ y. enough Write (copy_of y) ≡ true) (sym a.has) (enough_write q e))

  -- its line is enough for the block's row
  pub suffices : Suffices (is_some m.load) (changes view m m.store) (Has l.state l.content l.marks)
  suffices = by_store m.store refl
    where
      by_store : (z : Option Store) → m.store ≡ z → Suffices (is_some m.load) (changes view m z) (Has l.state l.content l.marks)
      by_store None e = refl
      by_store (Some q) e = enough_write q e

  -- the line after it, with the flat machine's number
  pub line_is : (in_tx : Bool) → line_used in_tx m l ≡ record { state = state_put m.store l.state; content = words_put m (put_by view m) l.content; marks = cond in_tx (marks_used m l.marks) l.marks }
  line_is in_tx = ap (λ y. record { state = state_put m.store l.state; content = words_put m y l.content; marks = cond in_tx (marks_used m l.marks) l.marks }) (put_same (byte_in l.content) view m aligned same_bytes)

  -- what is retired has a store if the access has
  pub done_by : (local : ℕ → ℕ) → done_next (is_some (store_by local (act.Memory m))) x.machine.setting f ≡ Ok (effect a.next a.write (act.Memory m))
  done_by local = ap (λ z. done_next z x.machine.setting f) (by m.store) ∙ a.is_done
    where
      by : (z : Option Store) → is_some (option_map (access m) (option_map (put_of local m) z)) ≡ is_some z
      by None = refl
      by (Some q) = refl
