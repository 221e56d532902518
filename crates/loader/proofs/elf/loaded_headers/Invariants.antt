use Rattle.std.proofs.Common.{◌≡◌, ◌+◌, ◌-◌, ◌*◌, ◌++◌, None}
use Rattle.std.specs.List.{filter, flat_map}
use Rattle.loader.specs.Headers.{headers_from, is_loaded, loaded_headers}
use Rattle.words.specs.First.{first}
use Rattle.loader.specs.Checks.{segment_checks}
use Rattle.loader.proofs.elf.loaded_headers.Given as goal

-- the headers so far and those that are left are all, and those so far have no fault
abbrev pub invariant-loop-i : goal.invariant-loop-i
invariant-loop-i l = record {
  told : l.headers.items ++ filter is_loaded (headers_from l.bytes (l.header.table_offset + 32 * l.i) (l.header.table_len - l.i)) ≡ loaded_headers l.bytes;
  clean : first (flat_map (segment_checks l.bytes) l.headers.items) ≡ None;
}
