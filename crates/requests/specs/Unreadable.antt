-- Words that can't be shown.
use Rattle.std.specs.Prelude.{ℕ, ◌≡◌, ◌⊎◌, false, List, Some, slice_get, take}
use Rattle.flat.specs.State.{Setting}
use Rattle.command_line.specs.declared.request.Word.{Word}
use Rattle.flat.specs.Reads.{is_readable}
use Rattle.render.specs.Reports.{AllReadable}
use Rattle.requests.specs.Runs.{addresses}
use Rattle.requests.specs.declared.fault.Fault.{Fault}
use Rattle.requests.specs.declared.fault.Fault.TheVariants.{NoMemory}
use Rattle.requests.specs.declared.fault.Fault.TheVariants as fault

-- the word is the first of some that nothing can be read at
pub record IsFirstUnreadable (s : Setting) (words : List Word) (k : ℕ) (w : Word) : Type 0 where
  pub stands : slice_get words k ≡ Some w
  pub here : is_readable s w.addr ≡ false
  pub before : AllReadable s (take k (addresses words))

-- why the words can't be shown: the first that nothing can be read at, or that memory ran out
abbrev pub IsUnreadable : Setting → List Word → Fault → Type 0
IsUnreadable s words why = ((k : ℕ) × (w : Word) × IsFirstUnreadable s words k w × (why ≡ fault.Word w.text)) ⊎ (why ≡ NoMemory)
