use Rattle.std.proofs.Common.{ℕ, sym, subst}
use Rattle.reference.specs.States.{Fits}
use Rattle.reference.specs.Machines.{setting_of, flat_of}
use Rattle.reference.proofs.Fitting.{fits_act}
use Rattle.reference.proofs.Planned.{entry_is}
use Rattle.reference.proofs.machine.Machine.entry.Goals as goal

pub entry-requires : goal.entry-requires
entry-requires c =
    let P : ℕ → Type 0 = λ n. Fits n c.args.effect.now.act in
    subst P (sym c.deref.ensures.len) (fits_act (setting_of c.args.self.now) ((flat_of c.args.self.now).hart c.args.id) c.args.effect.now.act c.requires.uncaused)

pub returns : goal.returns
returns c =
    entry_is c.args.self.now c.args.id c.args.word c.index-2.result.now c.args.effect.now c.entry.result c.deref.result.now
    (rw (c.index.ensures.value) at c.index-2.ensures)
    c.requires.running c.entry.ensures c.deref.ensures.value c.deref.ensures.len
