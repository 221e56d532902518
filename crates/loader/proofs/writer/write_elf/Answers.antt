use Rattle.std.proofs.Common.{◌≡◌, sym, subst, refl}
use Rattle.loader.specs.Elf.{IsElfOf}
use Rattle.loader.specs.Writing.{elf_of}
use Rattle.loader.proofs.Room.{contents_fit}
use Rattle.loader.proofs.RoundTrip.{round_trip}
use Rattle.loader.proofs.writer.write_elf.Goals as goal

pub append_table-requires-clause-bytes : goal.append_table-requires-clause-bytes
append_table-requires-clause-bytes c = rw c.segments-segments.ensures.value (contents_fit c.args.program.now c.segments-segments.ensures.program)

written : (c : goal.In_ok-append_contents) → c.append_contents.new.file.items ≡ elf_of c.args.program.now
written c =
    rw (c.in_ok-append_contents.ensures, c.in_ok-append_table.ensures, c.in_ok-append_fields.ensures)
    (rw (c.in_ok-extend_from_slice.ensures.items, c.in_ok-file.ensures.items)
    (rw (c.file_fields.ensures, c.entry.ensures.value, c.segments-segments.ensures.value) refl))

pub returns-clause-bytes : goal.returns-clause-bytes
returns-clause-bytes c = written c

pub returns-clause-read : goal.returns-clause-read
returns-clause-read c = subst (λ bytes. IsElfOf bytes c.args.program.now) (sym (written c)) (round_trip c.args.program.now c.segments-segments.ensures.program)
