-- What a program is booted with, the test that fails where it isn't booted, and the state that it begins in.
use Rattle.std.specs.Prelude.{ℕ, Bool, cond, ◌==◌, ◌&&◌, nat_le, ◌+◌, ◌-◌, ◌*◌, ◌%◌, Option, Some, None, List}
use Rattle.std.specs.List.{list_all}
use Rattle.words.specs.Limits.{stack_bytes, log_bytes}
use Rattle.table.specs.Program.{Segment}
use Rattle.flat.specs.State.{Flat}
use Rattle.flat.specs.Start.{first_state}
use Rattle.flat.specs.declared.boot_fault.BootFault.{BootFault}
use Rattle.flat.specs.declared.boot_fault.BootFault.TheVariants.{BadSize, BadHarts, DoesNotFit}

-- memory has a multiple of 4,096 bytes, from 65,536 to 4,194,304
abbrev pub is_size : ℕ → Bool
is_size s = (s % 4096 == 0) && (nat_le 65536 s && nat_le s 4194304)

-- there are 1 to 8 harts
abbrev pub is_count : ℕ → Bool
is_count n = nat_le 1 n && nat_le n 8

-- the segment ends at or below a limit
abbrev pub ends_by : ℕ → Segment → Bool
ends_by limit s = nat_le (s.addr + s.size) limit

-- above the segments there are a stack and an undo log for each hart
abbrev pub fits_below : ℕ → ℕ → List Segment → Bool
fits_below s n segments = list_all (ends_by (s - (stack_bytes + log_bytes) * n)) segments

-- the first test that fails, of a program with these segments, so many harts and bytes of memory
abbrev pub boot_fault : List Segment → ℕ → ℕ → Option BootFault
boot_fault segments n s = cond (is_size s) (cond (is_count n) (cond (fits_below s n segments) None (Some DoesNotFit)) (Some BadHarts)) (Some BadSize)

-- the flat state that a program with these segments and this entry begins in
abbrev pub booted : List Segment → ℕ → ℕ → ℕ → Flat
booted segments entry n s = first_state (record { segments = segments; size = s; count = n }) entry
