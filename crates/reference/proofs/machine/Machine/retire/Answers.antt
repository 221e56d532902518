use Rattle.std.proofs.Common.{◌≡◌, ℕ, refl, sym, ap, subst, ◌∙◌, length, List, ◌++◌, take}
use Rattle.std.specs.Prelude.{vec_len}
use Rattle.std.specs.Vec.{with_items, with_item}
use Rattle.std.proofs.Math.Seq.{take-append_seam}
use Rattle.std.proofs.lemmas.Result.{on_err_weaker}
use Rattle.flat.specs.State.{FlatHart}
use Rattle.flat.specs.Causes.{act_cause}
use Rattle.reference.specs.declared.machine.Machine.{Machine}
use Rattle.reference.specs.States.{Fits}
use Rattle.reference.specs.Machines.{setting_of, flat_of}
use Rattle.reference.proofs.Fitting.{fits_act, room_act}
use Rattle.reference.proofs.Moved.{hart_at, moved, unmoved, on_ok_both}
use Rattle.reference.proofs.machine.Machine.retire.Goals as goal

pub retire-requires-clause-running : goal.retire-requires-clause-running
retire-requires-clause-running c =
    let at = hart_at c.args.self.now c.args.i c.index_mut-hart.result.now c.requires.running.hart c.index_mut-hart.ensures.value in
    sym (ap (λ (h : FlatHart). h.status) at) ∙ c.requires.running.runs

pub retire-requires-clause-fits : goal.retire-requires-clause-fits
retire-requires-clause-fits c =
    let P : ℕ → Type 0 = λ n. Fits n c.args.effect.now.act in
    subst P (sym c.deref_mut.ensures.len) (fits_act (setting_of c.args.self.now) ((flat_of c.args.self.now).hart c.args.i) c.args.effect.now.act c.requires.uncaused)

pub retire-requires-clause-room : goal.retire-requires-clause-room
retire-requires-clause-room c =
    let at = hart_at c.args.self.now c.args.i c.index_mut-hart.result.now c.requires.running.hart c.index_mut-hart.ensures.value in
    room_act (setting_of c.args.self.now) (vec_len c.args.self.now.memory) c.index_mut-hart.result.now c.args.effect.now.act
    (sym (ap (λ (h : FlatHart). act_cause (setting_of c.args.self.now) h c.args.effect.now.act) at) ∙ c.requires.uncaused)

-- a slice that is as long as the Vec is all of it
whole : (n : ℕ) (ws rest : List ℕ) → length ws ≡ n → take n (ws ++ rest) ≡ ws
whole n ws rest e = rw (sym e) (take-append_seam ws rest)

pub returns-clause-ok : goal.returns-clause-ok
returns-clause-ok c =
    let m = c.args.self.now in
    let n : Machine = record { program = m.program; memory = with_items m.memory c.retire.new.memory; harts = with_item m.harts c.args.i c.retire.new.self; few_harts = m.few_harts } in
    on_ok_both c.retire.result _ _ _ c.retire.ensures.hart c.retire.ensures.memory (λ hart laid.
    moved m n c.args.i c.index_mut-hart.result.now c.retire.new.self c.args.effect.now c.deref_mut.result.now c.retire.new.memory
    c.requires.running.hart c.index_mut-hart.ensures.value c.deref_mut.ensures.value refl refl refl
    (whole _ c.retire.new.memory _ (c.retire.auto.memory ∙ c.deref_mut.ensures.len)) refl hart laid)

pub returns-clause-err : goal.returns-clause-err
returns-clause-err c =
    let m = c.args.self.now in
    let n : Machine = record { program = m.program; memory = with_items m.memory c.retire.new.memory; harts = with_item m.harts c.args.i c.retire.new.self; few_harts = m.few_harts } in
    on_err_weaker c.retire.result (λ same.
    unmoved m n c.args.i c.index_mut-hart.result.now c.retire.new.self c.deref_mut.result.now c.retire.new.memory
    c.requires.running.hart c.index_mut-hart.ensures.value c.deref_mut.ensures.value refl refl refl
    (whole _ c.retire.new.memory _ (c.retire.auto.memory ∙ c.deref_mut.ensures.len)) refl same.0 same.1)
    c.retire.ensures.err
