-- A message that arrives at the directory is a step of the machine.
use Rattle.std.proofs.Common.{◌≡◌, ◌<◌, ◌≤◌, ◌*◌, ℕ, Bool, true, false, cond, arith, Option, Some, None, List, [], length, replicate, inl, inr, refl, sym, ap, subst, ◌∙◌}
use Rattle.std.specs.Prelude.{◌==◌, IfSome, ◌⊎◌, slice_get}
use Rattle.std.specs.List.{slice_index_or}
use Rattle.std.proofs.lemmas.Bool.{cases_lt}
use Rattle.words.specs.Limits.{block_bytes, block_words}
use Rattle.words.specs.declared.message.Message.{Message}
use Rattle.words.specs.declared.entry.Step.TheVariants.{Deliver}
use Rattle.flat.specs.Bytes.{put_at}
use Rattle.protocol.specs.Messages.{Block, Message as Told, Get, Put, Done, Grant, Forward, PutAck, Ack, Nack, shown as shown_message, receiver_of, block_of}
use Rattle.protocol.specs.Network.{taken}
use Rattle.protocol.specs.Directory.{Busy, DirEntry, Served, directory_row, done_of, done_row, done_refused_row, unchanged}
use Rattle.protocol.specs.Machine.{served_change, directory_change}
use Rattle.network.specs.Flights.{AreInOrder}
use Rattle.directory.specs.Blocks.{Blocks, KeepsUsed, entry_at, row_of, sender_of, SetsBlock, Answers}
use Rattle.directory.specs.Sends.{messages_in}
use Rattle.directory.specs.declared.received.Answer.{Answer}
use Rattle.isolation.specs.Memory.{IsWithinMemory}
use Rattle.isolation.proofs.Within.Machines.{run_within}
use Rattle.isolation.specs.Facts.{whose, IsAwaited}
use Rattle.isolation.proofs.Consequences.RequestLaws.{awaited}
use Rattle.isolation.proofs.Belongs.Belonging.{world, inv_of, belongs_next}
use Rattle.machine.specs.Mail.{SendsOn, in_flight, mail_of}
use Rattle.machine.specs.Making.{BringsAbout, MakesStep}
use Rattle.machine.specs.States.{State, shown, geometry, hart_at, words_of, setting_of, IsSeated, IsSound}
use Rattle.machine.proofs.Places.{within, beyond}
use Rattle.machine.proofs.Changed.{changed_at}
use Rattle.machine.proofs.Made.{nothing, steps_of}
use Rattle.machine.proofs.Sending.{left_without}
use Rattle.machine.proofs.Staying.{seats_stay, logs_stay}
use Rattle.machine.proofs.Deliveries.{arrives}

-- What a message to the directory is about

-- its block is in memory
pub block_inside : (sets ways number : ℕ) (v : State) (m : Told) → IsSound sets ways v → in_flight v.flights number ≡ Some m → block_of m < length v.directory.memory
block_inside sets ways number v m sound here =
    let b = sound.belongs in
    let within : IsWithinMemory (shown sets v) = run_within (geometry sets ways) b.setting b.entry b.steps b.entries (shown sets v) b.run in
    let inside : block_bytes * block_of m < block_bytes * length v.directory.memory = within.messages number m here in
    omega (arith, inside)

-- its sender is a hart
sender_of_it : (n : ℕ) (m : Told) → whose m < n → IfSome (sender_of m) (λ h. h < n)
sender_of_it n (Get from block kind stamp) lt = lt
sender_of_it n (Put from block content marked) lt = lt
sender_of_it n (Done from block ok content) lt = lt
sender_of_it n (Grant to block granted) lt = tt {0}
sender_of_it n (Forward to block kind requester stamp) lt = tt {0}
sender_of_it n (PutAck to block) lt = tt {0}
sender_of_it n (Ack from to block content) lt = tt {0}
sender_of_it n (Nack from to block stamp) lt = tt {0}

pub sender_inside : (sets ways number : ℕ) (v : State) (m : Told) → IsSound sets ways v → in_flight v.flights number ≡ Some m → IfSome (sender_of m) (λ h. h < v.directory.harts)
sender_inside sets ways number v m sound here =
    let i = inv_of (geometry sets ways) sound.flat (shown sets v) sound.belongs in
    let facts : IsAwaited (shown sets v) = awaited (world (shown sets v) sound.flat sound.belongs.entries i.0) i.1 in
    sender_of_it v.directory.harts m (subst (λ n. whose m < n) sound.count (facts.from_hart m (number, here)))

-- Memory

-- a block of two memories of one size
same_words : (old new : List Block) (b : ℕ) → length new ≡ length old → slice_index_or new b [] ≡ slice_index_or old b [] → words_of new b ≡ words_of old b
same_words old new b size e = at (cases_lt b (length old))
  where
    at : (b < length old) ⊎ (length old ≤ b) → words_of new b ≡ words_of old b
    at (inl lt) = within new b (replicate block_words 0) [] (omega (arith, size)) ∙ e ∙ within old b [] (replicate block_words 0) lt
    at (inr le) = beyond new b (replicate block_words 0) (omega (arith, size)) ∙ sym (beyond old b (replicate block_words 0) le)

-- The directory

-- what the directory made of a message, and the machine of it
pub record Serves (number : ℕ) (v w : State) (m : Message) (s : Served) : Type 0 where
  pub program : w.program ≡ v.program
  pub seats : w.seats ≡ v.seats
  pub stamps : w.stamps ≡ v.stamps
  pub row : row_of v.directory (shown_message m) ≡ Some s
  pub block : SetsBlock v.directory w.directory (block_of (shown_message m)) s.entry s.memory
  pub used : KeepsUsed w.directory
  pub order : AreInOrder w.flights
  pub sends : SendsOn (put_at number None (mail_of v.flights)) v.sent s.sent (mail_of w.flights) w.sent

-- the row, as the protocol's machine has it
row_is : (sets ways number : ℕ) (v : State) (m : Message) → IsSound sets ways v → in_flight v.flights number ≡ Some (shown_message m)
    → directory_row (length v.seats) (shown_message m) (entry_at v.directory (block_of (shown_message m))) (words_of v.directory.memory (block_of (shown_message m))) ≡ row_of v.directory (shown_message m)
row_is sets ways number v m sound here =
    let b : ℕ = block_of (shown_message m) in
    (λ k. directory_row (sound.count k) (shown_message m) (entry_at v.directory b) (within v.directory.memory b (replicate block_words 0) [] (block_inside sets ways number v (shown_message m) sound here) k))

-- a message that is held stays in flight
pub holds : (sets ways number : ℕ) (v : State) (m : Message) → IsSound sets ways v → in_flight v.flights number ≡ Some (shown_message m) → receiver_of (shown_message m) ≡ None
    → row_of v.directory (shown_message m) ≡ None → MakesStep (geometry sets ways) v (Deliver number) None v
holds sets ways number v m sound here goes held = arrives sets ways number v (shown_message m) None None v here goes (seats_stay sets v v refl) (logs_stay v v refl) sound.kept sound.order
    (subst (λ o. BringsAbout sets v (served_change number (block_of (shown_message m)) o (shown sets v)) None v) (sym (row_is sets ways number v m sound here ∙ held)) (nothing sets v))

-- and one that is served is taken, and the answers are sent
pub serves : (sets ways number : ℕ) (v w : State) (m : Message) (s : Served) → IsSound sets ways v → in_flight v.flights number ≡ Some (shown_message m) → receiver_of (shown_message m) ≡ None
    → Serves number v w m s → MakesStep (geometry sets ways) v (Deliver number) None w × IsSound sets ways w
serves sets ways number v w m s sound here goes d = (made, kept)
  where
    b : ℕ
    b = block_of (shown_message m)

    memory : words_of w.directory.memory ≡ put_at b s.memory (words_of v.directory.memory)
    memory = changed_at b s.memory (words_of v.directory.memory) (words_of w.directory.memory)
        (within w.directory.memory b (replicate block_words 0) [] (omega (arith, d.block.size, block_inside sets ways number v (shown_message m) sound here)) ∙ d.block.memory)
        (λ j ne. same_words v.directory.memory w.directory.memory j d.block.size (d.block.memories j ne))

    setting : setting_of w ≡ setting_of v
    setting = λ k. record { segments = (d.program k).segments; size = block_bytes * d.block.size k; count = length (d.seats k) }

    same : shown sets w ≡ record (record (shown sets v) { entries = put_at b s.entry (entry_at v.directory); memory = put_at b s.memory (words_of v.directory.memory) }) { net = in_flight w.flights }
    same = λ k. record {
      setting = setting k;
      harts = hart_at sets (d.seats k);
      entries = changed_at b s.entry (entry_at v.directory) (entry_at w.directory) d.block.entry d.block.entries k;
      memory = memory k;
      net = in_flight w.flights;
      stamps = d.stamps k;
    }

    about : BringsAbout sets v (directory_change b s (record (shown sets v) { net = taken number (in_flight v.flights) })) None w
    about = record { entry = refl; machine = same; left = put_at number None (mail_of v.flights); leaves = left_without number v.flights; sends = d.sends }

    made : MakesStep (geometry sets ways) v (Deliver number) None w
    made = arrives sets ways number v (shown_message m) None None w here goes (seats_stay sets v w d.seats) (logs_stay v w d.seats) d.used d.order
        (subst (λ o. BringsAbout sets v (served_change number b o (shown sets v)) None w) (sym (row_is sets ways number v m sound here ∙ d.row)) about)

    kept : IsSound sets ways w
    kept =
        let next = belongs_next (geometry sets ways) sound.flat (shown sets v) (shown sets w) (Deliver number) None sound.belongs (steps_of (geometry sets ways) v (Deliver number) None w made) in
        record {
          some_way = sound.some_way;
          fits = sound.fits;
          count = ap length d.seats ∙ sound.count ∙ sym d.block.harts;
          seats = λ i seat at. subst (λ set. IsSeated set i seat.hart) (sym setting) (sound.seats i seat (sym (ap (λ l. slice_get l i) d.seats) ∙ at));
          kept = d.used;
          order = d.order;
          flat = next.0;
          belongs = next.2;
        }

-- the end of a request sends nothing
pub done_silent : (o : Option Busy) (from : ℕ) (ok : Bool) (content : Option Block) (e : DirEntry) (memory : Block) → (done_of o from ok content e memory).sent ≡ []
done_silent None from ok content e memory = refl
done_silent (Some q) from ok content e memory = by (q.requester == from) ok
  where
    by : (own ok : Bool) → (cond own (cond ok (done_row from q.give content e memory) (done_refused_row e memory)) (unchanged e memory)).sent ≡ []
    by true true = refl
    by true false = refl
    by false ok = refl

-- the same, of what the directory has answered
pub follows : (sets ways number : ℕ) (v w : State) (m : Message) (answer : Answer) → IsSound sets ways v → in_flight v.flights number ≡ Some (shown_message m) → receiver_of (shown_message m) ≡ None
    → Answers (Some answer) (row_of v.directory (shown_message m)) (block_of (shown_message m)) v.directory w.directory → KeepsUsed w.directory
    → w.program ≡ v.program → w.seats ≡ v.seats → w.stamps ≡ v.stamps → SendsOn (put_at number None (mail_of v.flights)) v.sent (messages_in v.directory.harts answer) (mail_of w.flights) w.sent
    → AreInOrder w.flights → MakesStep (geometry sets ways) v (Deliver number) None w × IsSound sets ways w
follows sets ways number v w m answer sound here goes f used program seats stamps sends order = at (row_of v.directory (shown_message m)) refl f
  where
    at : (row : Option Served) → row_of v.directory (shown_message m) ≡ row → Answers (Some answer) row (block_of (shown_message m)) v.directory w.directory
        → MakesStep (geometry sets ways) v (Deliver number) None w × IsSound sets ways w
    at None is none = absurd none
    at (Some s) is (told, block) = serves sets ways number v w m s sound here goes (record { program = program; seats = seats; stamps = stamps; row = is; block = block; used = used; order = order; sends = subst (λ ms. SendsOn (put_at number None (mail_of v.flights)) v.sent ms (mail_of w.flights) w.sent) told sends })

-- or has held
pub held : (sets ways number : ℕ) (v : State) (m : Message) (new : Blocks) → IsSound sets ways v → in_flight v.flights number ≡ Some (shown_message m) → receiver_of (shown_message m) ≡ None
    → Answers None (row_of v.directory (shown_message m)) (block_of (shown_message m)) v.directory new → MakesStep (geometry sets ways) v (Deliver number) None v
held sets ways number v m new sound here goes f = holds sets ways number v m sound here goes f.0
