-- Steps of the examples of how an abort goes, and a machine with a long log.
use Rattle.std.specs.Prelude.{ℕ, true, false, Option, Some, None, List, [], ◌∷◌, ◌++◌, replicate, slice_set}
use Rattle.words.specs.declared.entry.Step.{Step}
use Rattle.words.specs.declared.entry.Step.TheVariants.{Core}
use Rattle.words.specs.declared.message.LineState.TheVariants.{Modified}
use Rattle.flat.specs.Bytes.{put_at}
use Rattle.flat.specs.Start.{first_regs}
use Rattle.words.specs.Marks.{no_marks}
use Rattle.protocol.specs.Lines.{Line}
use Rattle.protocol.specs.Hart.{Hart, Transaction}
use Rattle.protocol.specs.Core.{tx_begun}
use Rattle.protocol.specs.Directory.{DirEntry, Owned, first_entry}
use Rattle.protocol.specs.Machine.{Machine}
use Rattle.part_tests.specs.Programs.{with_text, store_to_both, machine}
use Rattle.part_tests.specs.Examples.{cores, asks_alone, asks_another, store_steps, gives_up, zeros, a_line}

-- hart 0's abort starts, hart 1 wants the block, and then the abort undoes its record and ends
abbrev pub aborting_steps : List Step
aborting_steps = store_steps 0 ++ Core 0 ∷ cores 1 2 ++ asks_another 1 ++ cores 0 2

-- hart 0 gives up the line that it stored to, and stores to the block again: it is the sticky owner, and its log gets a second
-- record
abbrev pub stored_again_steps : List Step
stored_again_steps = store_steps 0 ++ gives_up ++ asks_alone 0 ++ Core 0 ∷ []

-- and aborts: it undoes both
abbrev pub undone_twice_steps : List Step
undone_twice_steps = stored_again_steps ++ cores 0 4

-- A long log

-- the transaction of store_to_both, by hand, with so many records: all of block 257, which it gave up after each but the last
abbrev pub long_tx : ℕ → Transaction
long_tx n = record (tx_begun 0 0 4096 ((machine 1 store_to_both).harts 0)) {
  overflow = true;
  log = replicate n (record { block = 257; before = zeros });
}

-- its lines: that of block 257, filled and stored to since, and that of block 256, not used in it
abbrev pub two_lines : ℕ → Option Line
two_lines = put_at 256 (a_line Modified zeros no_marks) (put_at 257 (a_line Modified zeros (record { read = false; written = true; overflowed = true })) (λ b. None))

-- the hart, about to store to block 257
abbrev pub long_hart : ℕ → Hart
long_hart n = record ((machine 1 store_to_both).harts 0) {
  regs = slice_set (first_regs (with_text 1 store_to_both) 0) 5 8192;
  pc = 4104;
  tx = Some (long_tx n);
  lines = two_lines;
}

abbrev pub owned_by_0 : DirEntry
owned_by_0 = record first_entry { owner = Owned 0 }

-- a machine of that one hart
abbrev pub logged : ℕ → Machine
logged n = record (machine 1 store_to_both) {
  harts = λ i. long_hart n;
  entries = put_at 256 owned_by_0 (put_at 257 owned_by_0 (λ b. first_entry));
  stamps = 1;
}
