-- What a machine answers, beside the flat state that belongs to it.
use Rattle.std.specs.Prelude.{ℕ, ◌≡◌, ◌<◌, ◌/◌, true, false, Option, is_some}
use Rattle.words.specs.declared.entry.Access.{Access}
use Rattle.words.specs.declared.entry.Entry.TheVariants.{Retire}
use Rattle.std.specs.Prelude.{Ok, Some}
use Rattle.table.specs.declared.effect.Effect.{Effect}
use Rattle.words.specs.Registers.{with_reg}
use Rattle.table.specs.Effects.{resolved}
use Rattle.table.specs.Table.{effect_of}
use Rattle.table.specs.Program.{word_at}
use Rattle.flat.specs.State.{Flat, flat_view, has_written}
use Rattle.flat.specs.Effects.{retire_of, write_by}
use Rattle.protocol.specs.Hart.{flat_hart}
use Rattle.protocol.specs.Machine.{Machine}
use Rattle.protocol.specs.Values.{raw, peek, view}
use Rattle.isolation.specs.Belongs.{LooksAs, IsAborting}

-- each hart looks as its flat one; with all logs undone memory is flat memory; a hart that isn't in the middle of an abort sees what its
-- flat one sees; and what is in place is what the writer sees, or flat memory where there is none
pub record AnswersAs (keys : ℕ) (w : Machine) (f : Flat) : Type 0 where
  pub harts : (i : ℕ) → LooksAs (w.harts i) (f.hart i)
  pub peek : (a : ℕ) → peek keys w a ≡ f.mem a
  pub view : (i a : ℕ) → i < w.setting.count → (IsAborting (w.harts i) → ⊥) → view keys w i a ≡ flat_view f i a
  pub raw_written : (i a : ℕ) → i < w.setting.count → (IsAborting (w.harts i) → ⊥) → has_written (f.hart i).tx (a / 32) ≡ true → raw keys w a ≡ flat_view f i a
  pub raw_unwritten : (a : ℕ) → ((i : ℕ) → i < w.setting.count → has_written (f.hart i).tx (a / 32) ≡ false) → raw keys w a ≡ f.mem a

-- hart i of v retired a word, with this entry, and became hart i of w: it is the text's word at its pc, with the effect that the
-- instruction table gives it at the hart's registers (a conditional store succeeded if the entry has a store); the entry is that effect's, by what the hart sees
-- in the flat machine, and so are the registers and pc that it leaves
pub record IsRow (v w : Machine) (f : Flat) (i at word : ℕ) (write : Option (ℕ × ℕ)) (load store : Option Access) (does : Effect) : Type 0 where
  pub fetched : word_at v.setting.segments (v.harts i).pc ≡ Some word
  pub effect : (row : Effect) × (effect_of word (v.harts i).pc (v.harts i).regs ≡ Ok row) × (does ≡ resolved (is_some store) row)
  pub entry : Retire i at word write load store ≡ retire_of (flat_view f i) i (flat_hart (v.harts i)) word does
  pub regs : (w.harts i).regs ≡ with_reg (v.harts i).regs (write_by (flat_view f i) does does.act)
  pub pc : (w.harts i).pc ≡ does.next
