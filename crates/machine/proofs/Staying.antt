-- Where the lines of all harts stand, and which bytes in their undo logs.
use Rattle.std.proofs.Common.{◌≡◌, ◌∙◌, ℕ, Some, refl, sym, ap, subst, inl, inr}
use Rattle.std.specs.Prelude.{slice_get}
use Rattle.std.proofs.lemmas.Bool.{cases_eq}
use Rattle.std.proofs.lemmas.Option.{same_Some}
use Rattle.hart.specs.Places.{KeepsWays}
use Rattle.hart.proofs.Bytes.{untouched}
use Rattle.hart.proofs.Places.{none_moves}
use Rattle.hart.specs.Staying.{KeepsLog}
use Rattle.machine.specs.Making.{AllKeepWays, AllKeepLogs}
use Rattle.machine.specs.States.{Seat, State}
use Rattle.machine.proofs.Places.{got_there, got_elsewhere}
use Rattle.machine.proofs.Acting.{Acts, seat_before}

same_ways : (sets : ℕ) (old new : Seat) → old ≡ new → KeepsWays sets old.hart.cache new.hart.cache
same_ways sets old new same = none_moves sets old.hart.cache new.hart.cache (ap (λ (s : Seat). s.hart.cache) (sym same))

-- the seats stay
pub seats_stay : (sets : ℕ) (v w : State) → w.seats ≡ v.seats → AllKeepWays sets v w
seats_stay sets v w same = λ i old new was is. same_ways sets old new (same_Some old new (sym was ∙ (sym (ap (λ l. slice_get l i) same) ∙ is)))

-- one hart does something, and no other
alone : (P : Seat → Seat → Type 0) → ((s : Seat) → P s s) → (i : ℕ) (v w : State) (old new : Seat) → Acts i v w old new → P old new
    → (j : ℕ) (s t : Seat) → slice_get v.seats j ≡ Some s → slice_get w.seats j ≡ Some t → P s t
alone P still i v w old new a does j s t was is = elim (cases_eq j i) [
  | inl e ↦
      let before : old ≡ s = same_Some old s (sym (seat_before i v w old new a) ∙ (ap (slice_get v.seats) (sym e) ∙ was)) in
      let after : new ≡ t = same_Some new t (sym (ap (λ l. slice_get l i) a.after ∙ got_there v.seats i new a.number) ∙ (ap (slice_get w.seats) (sym e) ∙ is)) in
      subst (λ (x : Seat). P x t) before (subst (λ (x : Seat). P old x) after does)
  | inr ne ↦ subst (P s) (same_Some s t (sym was ∙ (sym (ap (λ l. slice_get l j) a.after ∙ got_elsewhere v.seats i j new ne) ∙ is))) (still s)
]

pub others_stay : (sets i : ℕ) (v w : State) (old new : Seat) → Acts i v w old new → KeepsWays sets old.hart.cache new.hart.cache → AllKeepWays sets v w
others_stay sets i v w old new a keeps = alone (λ (s t : Seat). KeepsWays sets s.hart.cache t.hart.cache) (λ s. same_ways sets s s refl) i v w old new a keeps

-- and their logs
pub logs_stay : (v w : State) → w.seats ≡ v.seats → AllKeepLogs v w
logs_stay v w same = λ i old new was is.
    let seat : old ≡ new = same_Some old new (sym was ∙ (sym (ap (λ l. slice_get l i) same) ∙ is)) in
    untouched old.hart.tx new.hart.tx (ap (λ (s : Seat). s.hart.tx) (sym seat))

pub other_logs_stay : (i : ℕ) (v w : State) (old new : Seat) → Acts i v w old new → AllKeepLogs v w
other_logs_stay i v w old new a = alone (λ (s t : Seat). KeepsLog s.hart.tx t.hart.tx) (λ s. untouched s.hart.tx s.hart.tx refl) i v w old new a a.stays.log
