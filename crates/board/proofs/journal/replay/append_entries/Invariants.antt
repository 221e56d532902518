use Rattle.std.proofs.Common.{◌≡◌, ◌+◌, ◌++◌, take, vec_len, vec_capacity}
use Rattle.board.proofs.journal.replay.append_entries.Given as goal

abbrev pub invariant-loop-retired : goal.invariant-loop-retired
invariant-loop-retired g l = record {
  items : l.entries.items ≡ l.initial.entries.items ++ take l.retired-index l.more;
  count : vec_len l.entries ≡ vec_len l.initial.entries + l.retired-index;
  room : vec_capacity l.entries ≡ vec_capacity l.initial.entries;
}
