-- What a look shows, where its numbers passed their tests.
use Rattle.std.proofs.Common.{◌≡◌, ℕ, true, List, Option, Some, None, Result, Ok, refl, sym, ap, subst, ◌∙◌}
use Rattle.std.specs.Prelude.{IsSome, IfSome}
use Rattle.words.specs.declared.sink.SinkFault.{SinkFault}
use Rattle.words.specs.Sinks.{SinkState}
use Rattle.flat.specs.Reads.{is_readable, word_if}
use Rattle.network.proofs.OneOrder.{past}
use Rattle.protocol.specs.Network.{LiesBelow}
use Rattle.disassembler.specs.Tables.{Table}
use Rattle.texts.specs.Puts.{Puts}
use Rattle.render.specs.Blocks.{word_line}
use Rattle.machine.specs.Reads.{log_word}
use Rattle.machine.specs.States.{State, shown, setting_of}
use Rattle.debugger.specs.declared.commands.command.Look.{Look}
use Rattle.debugger.specs.declared.commands.command.Look.TheVariants.{Log}
use Rattle.debugger.specs.declared.commands.fault.DebugFault.{DebugFault}
use Rattle.debugger.specs.Refusals.{unless}
use Rattle.debugger.specs.Looks.{Shows, IsTextOf, word_text}
use Rattle.debugger.proofs.Readable.{lies_below, read, read-same, unless-same}

-- the same look by another name
pub shows-same : {names : Table} {sets : ℕ} {m : State} {look seen : Look} {a b : SinkState} {put : Result Unit SinkFault}
    → look ≡ seen → Shows names sets m seen a b put → Shows names sets m look a b put
shows-same {names} {sets} {m} {look} {seen} {a} {b} {put} is shows = subst (λ (l : Look). Shows names sets m l a b put) (sym is) shows

-- a look at what was found
pub look-one : (f : ℕ → Look) (fault : Option DebugFault) (n h : ℕ) (look : Look) (r : Result ℕ DebugFault) → look ≡ f n → r ≡ Ok h → r ≡ unless fault n → look ≡ f h
look-one f fault n h look r is found tested = is ∙ ap f (sym (unless-same fault h n (sym found ∙ tested)))

pub look-two : (f : ℕ → ℕ → Look) (fault wrong : Option DebugFault) (n h a b : ℕ) (look : Look) (r s : Result ℕ DebugFault)
    → look ≡ f n a → r ≡ Ok h → r ≡ unless fault n → s ≡ Ok b → s ≡ unless wrong a → look ≡ f h b
look-two f fault wrong n h a b look r s is found tested at placed =
    look-one (f h) wrong a b look s (look-one (λ x. f x a) fault n h look r is found tested) at placed

not_none : IsSome {T = ℕ} None → ⊥
not_none there = cc

module _ (names : Table) (sets : ℕ) (m : State) (bytes : ℕ → ℕ → ℕ) (at : ℕ) (readable : is_readable (setting_of m) at ≡ true) where
  -- what was found at an address is the number of these bytes there
  abbrev IsFound : Option ℕ → Type 0
  IsFound found = (bound : ℕ) → LiesBelow bound (shown sets m).net → found ≡ word_if (setting_of m) (bytes bound) at

  -- there is a word
  pub found_there : (found : Option ℕ) → IsFound found → IsSome found
  found_there found is = rw (is (past m.flights) (lies_below m.flights), read (setting_of m) (bytes (past m.flights)) at readable) refl

  -- a look at it
  pub shows_found : {look : Look} {a b : SinkState} {put : Result Unit SinkFault} (found : Option ℕ) → IsFound found
      → ((t : List ℕ) → ((bound : ℕ) → LiesBelow bound (shown sets m).net → t ≡ word_text at (bytes bound)) → IsTextOf names sets m look t)
      → IfSome found (λ v. Puts a b (word_line at v) put) → Shows names sets m look a b put
  shows_found None is text puts = absurd (not_none (found_there None is))
  shows_found (Some v) is text puts = record {
    text = word_line at v;
    is = text (word_line at v) (λ bound below. ap (word_line at) (read-same (setting_of m) (bytes bound) at v (Some v) readable (is bound below) refl));
    puts = puts;
  }

-- a look at a word of the logs
pub shows_logged : {names : Table} {sets : ℕ} {m : State} {at : ℕ} {a b : SinkState} {put : Result Unit SinkFault} (found : Option ℕ) → found ≡ log_word m at → IsSome (log_word m at)
    → IfSome found (λ v. Puts a b (word_line at v) put) → Shows names sets m (Log at) a b put
shows_logged None is there puts = absurd (not_none (subst (λ (o : Option ℕ). IsSome o) (sym is) there))
shows_logged {names} {sets} {m} {at} (Some v) is there puts = record {
  text = word_line at v;
  is = rw (← is) refl;
  puts = puts;
}
