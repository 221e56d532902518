-- The oldest message that passes the test is the oldest that isn't held.
use Rattle.std.proofs.Common.{◌≡◌, ◌≤◌, ℕ, Bool, true, false, not, Option, Some, None, List, Bor, inl, inr, refl, sym, ap, ◌∙◌}
use Rattle.std.specs.Prelude.{◌⊎◌, is_none, IfSome, IfNone}
use Rattle.std.specs.Fn.{FnReturnsAt, Shared}
use Rattle.words.specs.declared.message.Message.{Message as Coded}
use Rattle.network.specs.declared.net.Flight.{Flight}
use Rattle.network.specs.Flights.{IsOldest, NonePasses}
use Rattle.protocol.specs.Messages.{Block, shown, block_of}
use Rattle.protocol.specs.Directory.{directory_row}
use Rattle.protocol.specs.Machine.{Machine}
use Rattle.directory.specs.Blocks.{Blocks, entry_at}
use Rattle.machine.specs.Turns.{is_held, AllHeld, IsOldestFree}

module _ {F : Type 0} (g : Shared F (Bor Coded × Unit {0}) Bool) (f : F) (d : Blocks) where
  -- the test answers whether a message isn't held
  abbrev pub Tests : Type 0
  Tests = (p : Bor Coded) (r : Bool) (n : ℕ) (words : Block) → g.post f (p, tt) r → r ≡ not (is_none (directory_row n (shown p.now) (entry_at d (block_of (shown p.now))) words))

  answered : Tests → (w : Machine) → w.entries ≡ entry_at d → (m : Coded) (r : Bool) → FnReturnsAt g f m r → r ≡ not (is_held w (shown m))
  answered tests w same m r a =
      tests a.shown r w.setting.count (w.memory (block_of (shown a.shown.now))) a.says.met
      ∙ (λ k. not (is_none (directory_row w.setting.count (shown a.shown.now) (sym same k (block_of (shown a.shown.now))) (w.memory (block_of (shown a.shown.now))))))
      ∙ ap (λ m. not (is_held w (shown m))) a.shows

  is_not : (t : Bool) → true ≡ not t → t ≡ false
  is_not true e = cc
  is_not false e = refl

  is : (t : Bool) → false ≡ not t → t ≡ true
  is true e = refl
  is false e = cc

  pub oldest_is : Tests → (flights : List Flight) (o : Option ℕ) → IfSome o (λ number. IsOldest (FnReturnsAt g f) flights number) → IfSome o (λ number. (w : Machine) → w.entries ≡ entry_at d → IsOldestFree w flights number)
  oldest_is tests flights None old = old
  oldest_is tests flights (Some number) old = λ w same. record {
    flight = old.flight;
    here = old.here;
    free = is_not (is_held w (shown old.flight.message)) (answered tests w same old.flight.message true old.passes);
    first = λ other h at. later w same h other (old.first other h at);
  }
    where
      later : (w : Machine) → w.entries ≡ entry_at d → (h : Flight) (other : ℕ) → FnReturnsAt g f h.message false ⊎ (number ≤ other)
          → (is_held w (shown h.message) ≡ true) ⊎ (number ≤ other)
      later w same h other (inl fails) = inl (is (is_held w (shown h.message)) (answered tests w same h.message false fails))
      later w same h other (inr before) = inr before

  pub none_is : Tests → (flights : List Flight) (o : Option ℕ) → IfNone o (NonePasses (FnReturnsAt g f) flights) → IfNone o ((w : Machine) → w.entries ≡ entry_at d → AllHeld w flights)
  none_is tests flights (Some number) none = none
  none_is tests flights None none = λ w same number h at. is (is_held w (shown h.message)) (answered tests w same h.message false (none number h at))
