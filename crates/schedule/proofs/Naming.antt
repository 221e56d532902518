-- The blocks of messages in flight and of lines lie in memory, and a message is the only one of its name.
use Rattle.std.proofs.Common.{◌≡◌, ◌∙◌, ℕ, Option, Some, refl, sym, ap, subst, arith}
use Rattle.std.specs.Prelude.{IsSome}
use Rattle.protocol.specs.Messages.{Message, Get, Put, Done, Grant, Forward, PutAck, Ack, Nack, block_of}
use Rattle.words.specs.declared.entry.Step.TheVariants.{Deliver}
use Rattle.isolation.specs.Facts.{IsAlike, IsAwaited}
use Rattle.isolation.specs.Memory.{LiesInMemory, IsWithinMemory}
use Rattle.isolation.proofs.Belongs.Belonging.{world, inv_of}
use Rattle.isolation.proofs.Consequences.RequestLaws.{awaited}
use Rattle.isolation.proofs.Within.Machines.{run_within}
use Rattle.machine.specs.States.{State, setting_of, shown, geometry, IsSound}
use Rattle.schedule.specs.declared.choices.Name.{Name}
use Rattle.schedule.specs.Steps.{name_of, IsArrivalOf}

same_block : (m : Message) → (name_of m).block ≡ block_of m
same_block (Get from block kind stamp) = refl
same_block (Put from block content marked) = refl
same_block (Done from block ok content) = refl
same_block (Grant to block granted) = refl
same_block (Forward to block kind requester stamp) = refl
same_block (PutAck to block) = refl
same_block (Ack from to block content) = refl
same_block (Nack from to block stamp) = refl

-- messages of one name are alike
alike : (m n : Message) → name_of m ≡ name_of n → IsAlike m n
alike m n e = record { sort = grind arith; block = sym (same_block m) ∙ ap (λ (x : Name). x.block) e ∙ same_block n; hart = grind arith }

module _ (sets ways : ℕ) (v : State) (sound : IsSound sets ways v) where
  within : IsWithinMemory (shown sets v)
  within = let b = sound.belongs in run_within (geometry sets ways) b.setting b.entry b.steps b.entries (shown sets v) b.run

  pub message_within : (number : ℕ) (m : Message) → (shown sets v).net number ≡ Some m → LiesInMemory (setting_of v) (name_of m).block
  message_within number m there = subst (LiesInMemory (setting_of v)) (sym (same_block m)) (within.messages number m there)

  -- a message is the only one of its name
  pub only_named : (number : ℕ) (m : Message) (n : Name) → (shown sets v).net number ≡ Some m → name_of m ≡ n → IsArrivalOf (shown sets v) n (Some (Deliver number))
  only_named number m n there named =
      let i = inv_of (geometry sets ways) sound.flat (shown sets v) sound.belongs in
      let law : IsAwaited (shown sets v) = awaited (world (shown sets v) sound.flat sound.belongs.entries i.0) i.1 in
      ((m, there, named), λ other (x, at, named_too). law.once other number x m at there (alike x m (named_too ∙ sym named)))

  pub line_within : (i b : ℕ) → IsSome (((shown sets v).harts i).lines b) → LiesInMemory (setting_of v) b
  line_within i b there = (within.harts i).lines b there

-- a line that was found is there
pub some_line : {A : Type 0} {x : A} (o : Option A) → Some x ≡ o → IsSome o
some_line {A} {x} o is = subst (λ (p : Option A). IsSome p) is refl
