-- Which steps are enabled.
use Rattle.std.proofs.Common.{◌≡◌, ◌<◌, ◌≤◌, ℕ, Bool, true, false, arith, List, Option, Some, None, length, get_or, refl, sym, ap, subst, ◌∙◌}
use Rattle.std.specs.Prelude.{◌&&◌, is_some, nat_lt, slice_get}
use Rattle.std.specs.Option.{option_and_then, option_map_or}
use Rattle.std.proofs.lemmas.Bool.Decides.{nat_tests}
use Rattle.std.proofs.lemmas.Option.{slice_get_read}
use Rattle.words.specs.declared.entry.Step.TheVariants.{Core, Evict, Deliver}
use Rattle.flat.specs.State.{idle}
use Rattle.protocol.specs.Messages.{Message, receiver_of}
use Rattle.protocol.specs.Start.{first_hart}
use Rattle.protocol.specs.Core.{core_row, core_move}
use Rattle.protocol.specs.Evict.{evict_row}
use Rattle.protocol.specs.Machine.{MayLack, MayNameIn}
use Rattle.hart.specs.Shown.{shown_hart}
use Rattle.hart.specs.Rows.{setting_of as hart_setting, victim_of}
use Rattle.machine.specs.Mail.{in_flight}
use Rattle.machine.specs.Making.{victims}
use Rattle.machine.specs.States.{Seat, State, shown, geometry, hart_at, setting_of, IsSeated, IsSound}
use Rattle.machine.specs.Watch.{applies, arrives, IsEnabledByRule}
use Rattle.machine.proofs.Cores.{Names, may_lack, core_of_none}
use Rattle.machine.proofs.Reading.{within_count}

is_below : (i n : ℕ) → i < n → nat_lt i n ≡ true
is_below i n lt = grind (arith, nat_tests)

is_past : (i n : ℕ) → n ≤ i → nat_lt i n ≡ false
is_past i n le = grind (arith, nat_tests)

-- a seat that was read
pub seat_here : (v : State) (seats : List Seat) (n i : ℕ) (s : Seat) → seats ≡ v.seats → n ≡ i → n < length seats → s ≡ get_or seats n s → slice_get v.seats i ≡ Some s
seat_here v seats n i s same number lt is =
    subst (λ (l : List Seat). slice_get l i ≡ Some s) same (subst (λ (k : ℕ). slice_get seats k ≡ Some s) number (slice_get_read seats (length seats) n s refl lt is))

pub none_here : (v : State) (seats : List Seat) (n i : ℕ) → seats ≡ v.seats → n ≡ i → length seats ≤ n → length v.seats ≤ i
none_here v seats n i same number le = subst (λ (l : List Seat). length l ≤ i) same (subst (λ (k : ℕ). length seats ≤ k) number le)

-- A hart's steps

module _ (sets ways i : ℕ) (v : State) (s : Seat) (sound : IsSound sets ways v) (at : slice_get v.seats i ≡ Some s) where
  seated : IsSeated (setting_of v) i s.hart
  seated = sound.seats i s at

  setting_is : hart_setting v.program.segments s.hart ≡ setting_of v
  setting_is = λ k. record { segments = v.program.segments; size = seated.size k; count = seated.harts k }

  hart_is : hart_at sets v.seats i ≡ shown_hart sets s.output s.hart
  hart_is = ap (λ o. option_map_or (λ t. shown_hart sets t.output t.hart) o (first_hart idle)) at

  here : (x : Bool) → (nat_lt i (length v.seats) && x) ≡ x
  here x = ap (λ b. b && x) (is_below i (length v.seats) (within_count v.seats i s at))

  -- its core's
  pub core_enabled : (enabled : Bool) → Names sets ways s
      → enabled ≡ is_some (core_row (hart_setting v.program.segments s.hart) s.hart.index v.stamps (victim_of sets s.hart.cache) (shown_hart sets s.output s.hart))
      → IsEnabledByRule (geometry sets ways) v (Core i) enabled
  core_enabled enabled names is =
      let victim = victim_of sets s.hart.cache in
      let named : MayNameIn (geometry sets ways) (shown sets v) (Core i) victim =
      subst (λ h. MayLack (geometry sets ways) h victim (core_move (setting_of v) i v.stamps h)) (sym hart_is) (may_lack (geometry sets ways) (shown_hart sets s.output s.hart) victim _ names) in
      let row : is_some (core_row (setting_of v) i v.stamps victim (hart_at sets v.seats i)) ≡ enabled =
      ap (λ h. is_some (core_row (setting_of v) i v.stamps victim h)) hart_is
      ∙ (λ k. is_some (core_row (sym setting_is k) (sym seated.index k) v.stamps victim (shown_hart sets s.output s.hart)))
      ∙ sym is in
      let rule : victim ≡ victims sets v (Core i) = sym (ap (λ o b. option_and_then (λ (x : Seat). victim_of sets x.hart.cache b) o) at) in
      subst (λ victim. MayNameIn (geometry sets ways) (shown sets v) (Core i) victim × (enabled ≡ applies victim (Core i) (shown sets v))) rule
      (named, sym (here (is_some (core_row (setting_of v) i v.stamps victim (hart_at sets v.seats i))) ∙ row))

  -- its eviction of a block
  pub evict_enabled : (b : ℕ) (enabled : Bool) → enabled ≡ is_some (evict_row s.hart.index b (shown_hart sets s.output s.hart)) → IsEnabledByRule (geometry sets ways) v (Evict i b) enabled
  evict_enabled b enabled is =
      let row : is_some (evict_row i b (hart_at sets v.seats i)) ≡ enabled =
      ap (λ h. is_some (evict_row i b h)) hart_is ∙ ap (λ n. is_some (evict_row n b (shown_hart sets s.output s.hart))) (sym seated.index) ∙ sym is in
      (tt {0}, sym (here (is_some (evict_row i b (hart_at sets v.seats i))) ∙ row))

-- a number that is no hart's has none
pub no_core : (sets ways i : ℕ) (v : State) → IsSound sets ways v → length v.seats ≤ i → IsEnabledByRule (geometry sets ways) v (Core i) false
no_core sets ways i v sound past =
    let step = core_of_none sets ways i v sound past in
    (step.may, sym (ap (λ b. b && is_some (core_row (setting_of v) i v.stamps (victims sets v (Core i)) (hart_at sets v.seats i))) (is_past i (length v.seats) past)))

pub no_evict : (sets ways i b : ℕ) (v : State) → length v.seats ≤ i → IsEnabledByRule (geometry sets ways) v (Evict i b) false
no_evict sets ways i b v past = (tt {0}, sym (ap (λ t. t && is_some (evict_row i b (hart_at sets v.seats i))) (is_past i (length v.seats) past)))

-- Messages

-- none has a number
pub no_message : (sets ways number : ℕ) (v : State) → in_flight v.flights number ≡ None → IsEnabledByRule (geometry sets ways) v (Deliver number) false
no_message sets ways number v none = (tt {0}, sym (ap (λ o. option_map_or (λ m. arrives (shown sets v) m (receiver_of m)) o false) none))

-- one is
pub arrives_if : (sets ways number : ℕ) (v : State) (m : Message) (to : Option ℕ) (enabled : Bool) → in_flight v.flights number ≡ Some m → receiver_of m ≡ to → enabled ≡ arrives (shown sets v) m to
    → IsEnabledByRule (geometry sets ways) v (Deliver number) enabled
arrives_if sets ways number v m to enabled at goes is =
    (tt {0}, is ∙ sym (ap (λ o. option_map_or (λ m. arrives (shown sets v) m (receiver_of m)) o false) at ∙ ap (arrives (shown sets v) m) goes))
