use Rattle.std.proofs.Common.{◌≡◌, ◌+◌, ◌++◌, replicate, vec_len, vec_capacity}
use Rattle.words.specs.declared.entry.Step.TheVariants.{Core}
use Rattle.board.proofs.journal.replay.append_cores.Given as goal

abbrev pub invariant-loop-made : goal.invariant-loop-made
invariant-loop-made g l = record {
  items : l.history.items ≡ l.initial.history.items ++ replicate l._made (Core l.id);
  count : vec_len l.history ≡ vec_len l.initial.history + l._made;
  room : vec_capacity l.history ≡ vec_capacity l.initial.history;
}
