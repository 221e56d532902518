-- The word of an undo log that an address below the end of memory has.
use Rattle.std.proofs.Common.{◌≡◌, ℕ, ◌<◌, ◌≤◌, ◌+◌, ◌-◌, ◌*◌, ◌/◌, ◌%◌, true, false, Option, Some, None, length, arith, refl, ap, inl, inr, slice_get}
use Rattle.std.specs.Prelude.{◌↔◌, IsSome, IfSome}
use Rattle.std.proofs.lemmas.Bool.{cases_eq}
use Rattle.std.proofs.lemmas.Bool.Decides.{nat_tests}
use Rattle.words.specs.Limits.{log_bytes}
use Rattle.machine.specs.States.{Seat, State, setting_of, IsSound}
use Rattle.machine.specs.Reads.{is_in_logs, logged_word, log_word}

-- an address lies in the log of the hart that it is said to be of
within : (size blocks count i a base : ℕ) → size ≡ 32 * blocks → a + 1 ≤ size → i ≡ (size - (a + 1)) / 4096 → i < count → base ≡ size - 4096 * (i + 1) → a % 4 ≡ 0
    → (base ≤ a) × (a + 4 ≤ base + 4096) × (size - 4096 * count ≤ a)
within size blocks count i a base e below at hart from four = (omega arith, omega arith, omega arith)

module _ (sets ways : ℕ) (m : State) (sound : IsSound sets ways m) (a above : ℕ) (s : Seat) (below : a + 1 ≤ (setting_of m).size)
    (is_above : above ≡ (setting_of m).size - (a + 1)) (hart : above / log_bytes < length m.seats) (at : slice_get m.seats (above / log_bytes) ≡ Some s) where
  abbrev InLog : Type 0
  InLog = (a % 4 ≡ 0) × (s.hart.tx.log.base ≤ a) × (a + 4 ≤ s.hart.tx.log.base + log_bytes)

  parts : a % 4 ≡ 0 → (s.hart.tx.log.base ≤ a) × (a + 4 ≤ s.hart.tx.log.base + 4096) × ((setting_of m).size - 4096 * length m.seats ≤ a)
  parts four = within (setting_of m).size (length m.directory.memory) (length m.seats) (above / log_bytes) a s.hart.tx.log.base refl below
      (ap (λ n. n / log_bytes) is_above) hart (sound.seats (above / log_bytes) s at).log four

  is_there : a % 4 ≡ 0 → is_in_logs (setting_of m) a ≡ true
  is_there four = let p = (parts four).2 in grind (arith, nat_tests)

  isn't : (a % 4 ≡ 0 → ⊥) → is_in_logs (setting_of m) a ≡ false
  isn't four = grind (arith, nat_tests)

  pub logged : (o : Option ℕ) → (IsSome o ↔ InLog) → IfSome o (λ word. word ≡ logged_word a s) → o ≡ log_word m a
  logged None some value = elim (cases_eq (a % 4) 0) [
    | inl four ↦ let no : IsSome {T = ℕ} None = some.1 (four, (parts four).0, (parts four).1) in cc
    | inr other ↦ rw (isn't other) refl
  ]
  logged (Some word) some value = let four = (some.0 refl).0 in rw (is_there four, ← is_above, at, value) refl
