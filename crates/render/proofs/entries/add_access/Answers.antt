use Rattle.std.proofs.Common.{append_assoc, append-nil}
use Rattle.render.proofs.entries.add_access.Goals as goal

pub returns-in-Some-clause-text : goal.returns-in-Some-clause-text
returns-in-Some-clause-text g c =
    let value = c.put_word-in-Some.ensures.text in
    let addr = c.put_word.ensures.text in
    let width = c.put_digit.ensures.text in
    let name = c.put-in-Some.ensures in
    simp (append_assoc, append-nil, value, c.put-in-Some-4.ensures, addr, c.put-in-Some-3.ensures, width, c.put-in-Some-2.ensures, name, c.put.ensures, c.in-Some.is, c.byte_count.ensures.value, c.value.ensures)
