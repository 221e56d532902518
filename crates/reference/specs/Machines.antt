-- The plain machine as a flat state, and what its steps and reads are of that state.
use Rattle.std.specs.Prelude.{ℕ, ◌≡◌, ◌≢◌, ◌<◌, ◌/◌, Bool, true, false, ◌&&◌, ◌||◌, Option, Some, None, Ok, Err, List, [], ◌∷◌, ◌++◌, slice_get, vec_len, is_some, IsOkAnd, IsSomeAnd, option_to_list}
use Rattle.std.specs.Option.{option_map_or}
use Rattle.words.specs.declared.cause.Cause.{Cause}
use Rattle.words.specs.declared.cause.AbortCause.{AbortCause}
use Rattle.words.specs.declared.cause.AbortCause.TheVariants.{Asked, Conflict, LogFull, Trapped}
use Rattle.words.specs.declared.entry.Entry.{Entry}
use Rattle.words.specs.declared.entry.Entry.TheVariants.{Retire, Abort, Trap, Refuse, Spill}
use Rattle.words.specs.declared.entry.Step.{Step}
use Rattle.words.specs.declared.entry.Step.TheVariants.{Core, Evict, Deliver}
use Rattle.table.specs.declared.effect.Effect.{Effect}
use Rattle.table.specs.declared.effect.Act.{Act}
use Rattle.table.specs.declared.effect.Act.TheVariants as act
use Rattle.table.specs.Program.{word_at}
use Rattle.flat.specs.State.{Setting, Tx, FlatHart, Flat, has_read, has_written, idle}
use Rattle.flat.specs.Causes.{next_of, done_next}
use Rattle.flat.specs.Steps.{IsRunning, Retires, retired, MayAbort, CarriesSome, IsRun}
use Rattle.reference.specs.declared.machine.Machine.{Machine}
use Rattle.reference.specs.declared.machine.NextMove.{NextMove}
use Rattle.reference.specs.declared.machine.NextMove.TheVariants.{Idle, Stops, Goes}
use Rattle.loader.specs.Memory.{mem_of}
use Rattle.reference.specs.States.{hart_of}

abbrev pub setting_of : Machine → Setting
setting_of m = record { segments = m.program.segments; size = vec_len m.memory; count = vec_len m.harts }

-- the flat state that the machine keeps
abbrev pub flat_of : Machine → Flat
flat_of m = record {
  setting = setting_of m;
  mem = λ a. mem_of m.memory.items a;
  hart = λ i. option_map_or (hart_of (vec_len m.memory)) (slice_get m.harts.items i) idle;
}

-- a flat state belongs to the machine
abbrev pub Belongs : Flat → Machine → Type 0
Belongs f m = f ≡ flat_of m

-- each flat state that belongs to the old machine is carried by the entry, if there is one, to one that belongs to the new machine
abbrev pub Refines : Machine → Option Entry → Machine → Type 0
Refines old e new = (f : Flat) → Belongs f old → (g : Flat) × CarriesSome f e g × Belongs g new

-- what hart i is about to do: nothing, since it doesn't run; stop for a cause; or go on by the effect of its word
abbrev pub IsNextMove : Flat → ℕ → NextMove → Type 0
IsNextMove f i Idle = IsRunning f i → ⊥
IsNextMove f i (Stops c) = IsRunning f i × (next_of f.setting (f.hart i) ≡ Err c)
IsNextMove f i (Goes word e) = IsRunning f i × (word_at f.setting.segments (f.hart i).pc ≡ Some word) × (next_of f.setting (f.hart i) ≡ Ok e)

-- hart i can retire its word with this effect, where a conditional store succeeds or doesn't, and the entry shows it
abbrev pub CanRetire : Flat → ℕ → Bool → ℕ → Effect → Entry → Type 0
CanRetire f i succeeds word does e = (done_next succeeds f.setting (f.hart i) ≡ Ok does) × Retires f i word does e (retired f i does)

-- whether an entry has a store
abbrev pub has_store : Entry → Bool
has_store (Retire i pc word write load store) = is_some store
has_store e = false

-- hart i retires, and this entry shows it
abbrev pub RetiresAs : Flat → ℕ → Entry → Flat → Type 0
RetiresAs f i e g = IsOkAnd (done_next (has_store e) f.setting (f.hart i)) (λ does. (w : ℕ) × Retires f i w does e g)

-- hart i's transaction can be rolled back for this cause
abbrev pub CanAbort : Flat → ℕ → AbortCause → Type 0
CanAbort f i cause = IsRunning f i × IsSomeAnd (f.hart i).tx (λ t. MayAbort cause (f.hart i) t (next_of f.setting (f.hart i)))

-- the same, by what the hart is about to do
abbrev pub IsDueAbort : AbortCause → FlatHart → Tx → NextMove → Type 0
IsDueAbort cause h t Idle = ⊥
IsDueAbort cause h t (Stops c) = MayAbort cause h t (Err c)
IsDueAbort cause h t (Goes word e) = MayAbort cause h t (Ok e)

-- hart i can be stopped for this cause at this pc
abbrev pub CanTrap : Flat → ℕ → Cause → ℕ → Type 0
CanTrap f i c p = IsRunning f i × ((f.hart i).tx ≡ None) × (p ≡ (f.hart i).pc) × (next_of f.setting (f.hart i) ≡ Err c)

-- a transaction stands against another hart's access to the block: it has written it, or it has read what the access stores to
abbrev pub stands_against : Option Tx → ℕ → Bool → Bool
stands_against tx b stores = has_written tx b || (stores && has_read tx b)

-- hart j is the lowest whose transaction stands against hart i's access to the block
pub record IsFirstAgainst (f : Flat) (i b : ℕ) (stores : Bool) (j : ℕ) : Type 0 where
  pub hart : j < f.setting.count
  pub other : j ≢ i
  pub against : stands_against (f.hart j).tx b stores ≡ true
  pub lowest : (k : ℕ) → k < j → k ≢ i → stands_against (f.hart k).tx b stores ≡ false

-- hart j keeps block b from hart i's act
abbrev pub KeepsOut : Flat → ℕ → ℕ → ℕ → Act → Type 0
KeepsOut f i b j (act.Memory m) = (m.addr / 32 ≡ b) × IsFirstAgainst f i b (is_some m.store) j
KeepsOut f i b j _ = ⊥

-- a cause of its own for which a hart aborts its transaction
abbrev pub IsOwnCause : AbortCause → Type 0
IsOwnCause Asked = Unit {0}
IsOwnCause Conflict = ⊥
IsOwnCause LogFull = ⊥
IsOwnCause (Trapped c p) = Unit {0}

-- the entry is hart i's, of a kind that the plain machine gives
abbrev pub IsDueEntry : Flat → ℕ → Entry → Type 0
IsDueEntry f i (Retire j pc word write load store) = j ≡ i
IsDueEntry f i (Abort j cause) = (j ≡ i) × IsOwnCause cause
IsDueEntry f i (Trap j c p) = j ≡ i
IsDueEntry f i (Refuse j k b) = (k ≡ i) × IsOkAnd (next_of f.setting (f.hart i)) (λ e. KeepsOut f i b j e.act)
IsDueEntry f i (Spill j b) = ⊥

-- a core step of a hart that runs gives an entry, and nothing else gives one
abbrev pub IsDue : Flat → Step → Option Entry → Type 0
IsDue f (Core i) None = IsRunning f i → ⊥
IsDue f (Core i) (Some e) = IsRunning f i × IsDueEntry f i e
IsDue f (Evict i b) e = e ≡ None
IsDue f (Deliver k) e = e ≡ None

-- a step of the plain machine
abbrev pub StepsTo : Flat → Step → Option Entry → Flat → Type 0
StepsTo f s e g = IsDue f s e × CarriesSome f e g

-- steps one after another, and the entries that they give
abbrev pub Makes : Flat → List Step → List Entry → Flat → Type 0
Makes f [] es g = (es ≡ []) × (g ≡ f)
Makes f (s ∷ ss) es g = (e : Option Entry) × (h : Flat) × (rest : List Entry) × StepsTo f s e h × (es ≡ option_to_list e ++ rest) × Makes h ss rest g

-- the steps lead from a flat state to another, and their entries stand behind those that were there
abbrev pub RunsTo : Flat → List Entry → List Step → Flat → List Entry → Type 0
RunsTo f olds steps g news = (es : List Entry) × (news ≡ olds ++ es) × Makes f steps es g

-- each flat state that belongs to the old machine is carried, by the entries that are new, to one that belongs to the new machine
abbrev pub RefinesAll : Machine → List Entry → Machine → List Entry → Type 0
RefinesAll old olds new news = (f : Flat) → Belongs f old → (g : Flat) × (es : List Entry) × (news ≡ olds ++ es) × IsRun f es g × Belongs g new
