use Rattle.std.proofs.Common.{◌≡◌, rules}
use Rattle.std.proofs.lemmas.Bool.Decides.{Decides-at}
use Rattle.undo_log.proofs.Blank.{decides_bytes}
use Rattle.undo_log.proofs.log.UndoLog.same.Goals as goal

pub returns-then-self-other-2 : goal.returns-then-self-other-2
returns-then-self-other-2 c =
    let a = c.self.inside in
    let b = c.other.inside in
    let base : a.base ≡ b.base = search rules in
    let count : a.count ≡ b.count = search rules in
    let used : a.used ≡ b.used = search rules in
    rw (← c.self.view_is, ← c.other.view_is)
    (Decides-at c.eq-then-self-other-2.result _ c.eq-then-self-other-2.ensures
    (decides_bytes (record { base = a.base; bytes = a.bytes; count = a.count; used = a.used }) (record { base = b.base; bytes = b.bytes; count = b.count; used = b.used })
    c.self.invariant c.other.invariant base count used))
