use Rattle.std.proofs.Common.{◌≡◌, ◌+◌, ◌-◌, ◌*◌, length, ap, arith, rules}
use Rattle.undo_log.specs.Value.{Log}
use Rattle.undo_log.proofs.Blank.{blank-written}
use Rattle.undo_log.proofs.log.UndoLog.push.Goals as goal

pub invariant_of-self : goal.invariant_of-self
invariant_of-self c =
    let at = 36 * c.self.inside.count in
    let long : length c.copy_from_slice.new.self ≡ at + 36 - at = search (rules, c.copy_from_slice.ensures.after, c.to_bytes.ensures) in
    let count = ap (λ (log : Log). log.count) c.self.view_is in
    let most = c.max-self-inside.ensures in
    record {
      within = omega arith;
      most = omega (arith, c.requires.room);
      blank = blank-written _ _ at _ (36 * c.self.inside.used) _ (omega arith) (omega arith) (omega arith) long c.self.invariant.blank;
    }
