-- What a hart does is a step of the machine.
use Rattle.std.proofs.Common.{◌≡◌, ◌<◌, ◌≤◌, ◌*◌, ℕ, true, false, cond, arith, Option, Some, None, List, length, refl, sym, ap, subst, ◌∙◌}
use Rattle.std.specs.Prelude.{nat_lt, option_to_list}
use Rattle.std.specs.Option.{option_map}
use Rattle.std.proofs.lemmas.Bool.Decides.{nat_tests}
use Rattle.words.specs.Limits.{block_bytes}
use Rattle.words.specs.declared.entry.Entry.{Entry}
use Rattle.words.specs.declared.entry.Step.TheVariants.{Evict}
use Rattle.flat.specs.Bytes.{put_at}
use Rattle.protocol.specs.Messages.{shown as shown_message}
use Rattle.protocol.specs.Hart.{HartResult}
use Rattle.protocol.specs.Evict.{evict_row}
use Rattle.protocol.specs.Network.{Network}
use Rattle.protocol.specs.Machine.{Change, no_change, hart_change, hart_change_if, if_hart, stamps_after}
use Rattle.hart.specs.declared.reply.Reply.{Reply}
use Rattle.hart.specs.Places.{KeepsWays}
use Rattle.hart.specs.Shown.{shown_hart}
use Rattle.hart.specs.Rows.{replied}
use Rattle.network.specs.Flights.{AreInOrder}
use Rattle.directory.specs.Blocks.{KeepsUsed, entry_at}
use Rattle.machine.specs.Mail.{Mail, SendsOn, IsLeft, in_flight, mail_of}
use Rattle.machine.specs.Making.{BringsAbout, MakesStep}
use Rattle.machine.specs.States.{Seat, State, shown, geometry, hart_at, words_of, IsSound}
use Rattle.machine.proofs.Acting.{Acts, seat_before, hart_before, harts_after, count_after}
use Rattle.machine.proofs.Made.{nothing, steps_of}
use Rattle.machine.proofs.Sending.{all_left}
use Rattle.machine.proofs.Sound.{still_sound}
use Rattle.machine.proofs.Staying.{seats_stay, others_stay, logs_stay, other_logs_stay}

-- Numbers of harts

-- what a hart does comes about
pub of_hart : (sets i : ℕ) (v : State) (c : Change) (e : Option Entry) (w : State) → i < length v.seats → BringsAbout sets v c e w → BringsAbout sets v (if_hart i (shown sets v) c) e w
of_hart sets i v c e w lt about =
    let is : nat_lt i (length v.seats) ≡ true = grind (arith, nat_tests) in
    subst (λ b. BringsAbout sets v (cond b c (no_change (shown sets v))) e w) (sym is) about

-- and under another number nothing does
pub of_none : (sets i : ℕ) (v : State) (c : Change) → length v.seats ≤ i → BringsAbout sets v (if_hart i (shown sets v) c) None v
of_none sets i v c le =
    let isn't : nat_lt i (length v.seats) ≡ false = grind (arith, nat_tests) in
    subst (λ b. BringsAbout sets v (cond b c (no_change (shown sets v))) None v) (sym isn't) (nothing sets v)

-- Rows

-- hart i does what a row says: its new state, the stamps, and the messages that it sends over those that are left in flight
pub record DoesRow (sets i : ℕ) (t : HartResult) (base : Network) (v w : State) (old new : Seat) : Type 0 where
  pub acts : Acts i v w old new
  pub hart : shown_hart sets new.output new.hart ≡ t.hart
  pub stamps : w.stamps ≡ stamps_after t.stamped v.stamps
  pub left : Mail
  pub leaves : IsLeft (mail_of v.flights) base left
  pub sends : SendsOn left v.sent (option_to_list t.sent) (mail_of w.flights) w.sent

-- that is the change which the protocol's machine makes of it
pub hart_does : (sets i : ℕ) (t : HartResult) (base : Network) (v w : State) (old new : Seat) → DoesRow sets i t base v w old new
    → BringsAbout sets v (hart_change i t (record (shown sets v) { net = base })) t.entry w
hart_does sets i t base v w old new d = record { entry = refl; machine = same; left = d.left; leaves = d.leaves; sends = d.sends }
  where
    harts : hart_at sets w.seats ≡ put_at i t.hart (hart_at sets v.seats)
    harts = harts_after sets i v w old new d.acts ∙ ap (λ h. put_at i h (hart_at sets v.seats)) d.hart

    same : shown sets w ≡ record (record (shown sets v) { net = base; harts = put_at i t.hart (hart_at sets v.seats); stamps = stamps_after t.stamped v.stamps }) { net = in_flight w.flights }
    same = λ k. record {
      setting = record { segments = (d.acts.program k).segments; size = block_bytes * length (d.acts.directory k).memory; count = count_after i v w old new d.acts k };
      harts = harts k;
      entries = entry_at (d.acts.directory k);
      memory = words_of (d.acts.directory k).memory;
      net = in_flight w.flights;
      stamps = d.stamps k;
    }

-- a row of hart i, where there is one
pub row_does : (sets i : ℕ) (o : Option HartResult) (t : HartResult) (v w : State) (old new : Seat) → o ≡ Some t → DoesRow sets i t (in_flight v.flights) v w old new
    → BringsAbout sets v (if_hart i (shown sets v) (hart_change_if i o (shown sets v))) t.entry w
row_does sets i o t v w old new is d =
    of_hart sets i v (hart_change_if i o (shown sets v)) t.entry w d.acts.number
    (subst (λ r. BringsAbout sets v (hart_change_if i r (shown sets v)) t.entry w) (sym is) (hart_does sets i t (in_flight v.flights) v w old new d))

-- and where there is none
pub row_rests : (sets i : ℕ) (o : Option HartResult) (v : State) → o ≡ None → i < length v.seats
    → BringsAbout sets v (if_hart i (shown sets v) (hart_change_if i o (shown sets v))) None v
row_rests sets i o v is lt =
    of_hart sets i v (hart_change_if i o (shown sets v)) None v lt
    (subst (λ r. BringsAbout sets v (hart_change_if i r (shown sets v)) None v) (sym is) (nothing sets v))

-- Evictions

-- what a hart made of an eviction, as its row has it
abbrev pub EvictsAs : ℕ → ℕ → Seat → Seat → Option Reply → Type 0
EvictsAs sets b old new r = (output : List ℕ) → evict_row old.hart.index b (shown_hart sets output old.hart) ≡ option_map (replied sets output new.hart) r

evict_row_of : (sets ways i b : ℕ) (v w : State) (old new : Seat) (r : Option Reply) → IsSound sets ways v → Acts i v w old new → EvictsAs sets b old new r
    → evict_row i b (hart_at sets v.seats i) ≡ option_map (replied sets old.output new.hart) r
evict_row_of sets ways i b v w old new r sound a does =
    ap (evict_row i b) (hart_before sets i v w old new a)
    ∙ ap (λ n. evict_row n b (shown_hart sets old.output old.hart)) (sym (sound.seats i old (seat_before i v w old new a)).index)
    ∙ does old.output

-- a line is given up
pub evicts : (sets ways i b : ℕ) (v w : State) (old new : Seat) (r : Reply) → IsSound sets ways v → Acts i v w old new → new.output ≡ old.output → w.stamps ≡ v.stamps
    → KeepsWays sets old.hart.cache new.hart.cache → EvictsAs sets b old new (Some r) → SendsOn (mail_of v.flights) v.sent (option_to_list (option_map shown_message r.message)) (mail_of w.flights) w.sent
    → AreInOrder w.flights → MakesStep (geometry sets ways) v (Evict i b) r.entry w × IsSound sets ways w
evicts sets ways i b v w old new r sound a output stamps keeps does sends order =
    let t : HartResult = replied sets old.output new.hart r in
    let about = row_does sets i (evict_row i b (hart_at sets v.seats i)) t v w old new (evict_row_of sets ways i b v w old new (Some r) sound a does)
    (record { acts = a; hart = ap (λ o. shown_hart sets o new.hart) output; stamps = stamps; left = mail_of v.flights; leaves = all_left v.flights; sends = sends }) in
    let made : MakesStep (geometry sets ways) v (Evict i b) r.entry w = record { may = tt {0}; made = about; ways = others_stay sets i v w old new a keeps; logs = other_logs_stay i v w old new a; kept = subst KeepsUsed (sym a.directory) sound.kept; order = order } in
    (made, still_sound sets ways i v w old new (Evict i b) r.entry sound a order (steps_of (geometry sets ways) v (Evict i b) r.entry w made))

-- or that isn't enabled
pub evicts_nothing : (sets ways i b : ℕ) (v w : State) (old new : Seat) → IsSound sets ways v → Acts i v w old new → EvictsAs sets b old new None
    → MakesStep (geometry sets ways) v (Evict i b) None v
evicts_nothing sets ways i b v w old new sound a does =
    record { may = tt {0}; made = row_rests sets i (evict_row i b (hart_at sets v.seats i)) v (evict_row_of sets ways i b v w old new None sound a does) a.number; ways = seats_stay sets v v refl; logs = logs_stay v v refl; kept = sound.kept; order = sound.order }
