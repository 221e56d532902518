use Rattle.std.proofs.Common.{◌∙◌, ℕ, List, sym, subst}
use Rattle.undo_log.specs.Value.{IsSound}
use Rattle.undo_log.proofs.Blank.{assigned}
use Rattle.undo_log.proofs.log.UndoLog.assign.Goals as goal

pub invariant_of-self : goal.invariant_of-self
invariant_of-self c =
    let a = c.self.inside in
    let b = c.other.inside in
    let bytes = assigned (record { base = a.base; bytes = a.bytes; count = a.count; used = a.used }) (record { base = b.base; bytes = b.bytes; count = b.count; used = b.used })
    c.copy_from_slice.new.self c.fill.new.self c.max-most.result c.self.invariant c.other.invariant c.max-most.ensures c.self.told c.copy_from_slice.ensures.after
    c.copy_from_slice.auto.self (c.fill.ensures.after (λ y e. e)) in
    subst (λ (bs : List ℕ). IsSound bs b.count b.used) (sym bytes) c.other.invariant

pub returns : goal.returns
returns c =
    let a = c.self.inside in
    let b = c.other.inside in
    let bytes = assigned (record { base = a.base; bytes = a.bytes; count = a.count; used = a.used }) (record { base = b.base; bytes = b.bytes; count = b.count; used = b.used })
    c.copy_from_slice.new.self c.fill.new.self c.max-most.result c.self.invariant c.other.invariant c.max-most.ensures c.self.told c.copy_from_slice.ensures.after
    c.copy_from_slice.auto.self (c.fill.ensures.after (λ y e. e)) in
    (λ j. record { base = b.base; bytes = bytes j; count = b.count; used = b.used }) ∙ c.other.view_is
