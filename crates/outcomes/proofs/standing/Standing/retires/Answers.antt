use Rattle.std.proofs.Common.{◌≡◌, ℕ, length, refl, ap, subst, sym, ◌∙◌}
use Rattle.table.specs.declared.effect.Effect.{Effect}
use Rattle.table.specs.Effects.{resolved}
use Rattle.flat.specs.State.{FlatHart, flat_view}
use Rattle.flat.specs.Causes.{next_of}
use Rattle.flat.specs.Effects.{retire_of}
use Rattle.flat.specs.Steps.{retired}
use Rattle.outcomes.specs.Harts.{hart_of, mem_at, Fits, HasRoom}
use Rattle.outcomes.specs.Standings.{setting_of, flat_of}
use Rattle.outcomes.proofs.Fitting.{fits, room}
use Rattle.outcomes.proofs.Copies.{same_memory}
use Rattle.outcomes.proofs.Resolved.{abort_same}
use Rattle.outcomes.proofs.Changed.{retires_so, went_on, shows}
use Rattle.outcomes.proofs.standing.Standing.retires.Goals as goal

pub entry-entry-requires : goal.entry-entry-requires
entry-entry-requires c =
    subst (λ (d : Effect). Fits (length c.args.self.now.scene.image.now) d.act) (sym c.resolved-done.ensures)
    (fits (setting_of c.args.self.now.scene) ((flat_of c.args.self.now).hart c.args.id) c.args.succeeds c.args.effect.now c.requires.next)

pub retire-requires-clause-fits : goal.retire-requires-clause-fits
retire-requires-clause-fits c =
    subst (λ (d : Effect). Fits (length c.args.self.now.scene.image.now) d.act) (sym c.resolved-done.ensures)
    (fits (setting_of c.args.self.now.scene) ((flat_of c.args.self.now).hart c.args.id) c.args.succeeds c.args.effect.now c.requires.next)

pub retire-requires-clause-room : goal.retire-requires-clause-room
retire-requires-clause-room c =
    let size = length c.args.self.now.scene.image.now in
    let same = c.in_ok-hart.ensures size ∙ sym (rw (c.index.ensures.value) at c.hart.ensures) in
    subst (λ (d : Effect). HasRoom c.in_ok-hart.hart.tx d.act) (sym c.resolved-done.ensures)
    (room (setting_of c.args.self.now.scene) size c.in_ok-hart.hart c.args.succeeds c.args.effect.now (ap (λ (h : FlatHart). next_of (setting_of c.args.self.now.scene) h) same ∙ c.requires.next))

pub returns : goal.returns
returns c =
    let image = c.args.self.now.scene.image.now in
    let f = flat_of c.args.self.now in
    let size = length image in
    let i = c.args.id in
    let h = hart_of size c.hart.result.now in
    let at = (rw (c.index.ensures.value) at c.hart.ensures) in
    let copy = c.in_ok-hart.hart in
    let done = c.resolved-done.result in
    let is : done ≡ resolved c.args.succeeds c.args.effect.now = c.resolved-done.ensures in
    let hart : hart_of size copy ≡ h = c.in_ok-hart.ensures size in
    let mem : (a : ℕ) → mem_at image c.in_ok-memory.memory a ≡ f.mem a = λ a. same_memory image c.in_ok-memory.memory c.args.self.now.memory.now a c.in_ok-memory.ensures in
    retires_so image f i c.args.word c.args.succeeds c.args.effect.now c.entry-entry.result _ c.requires.next c.requires.fails
    (record {
      running = c.requires.running;
      fetched = c.requires.fetched;
      no_abort = abort_same c.args.succeeds c.args.effect.now ∙ c.requires.no_abort;
      allowed = c.requires.allowed;
      entry = shows image f i h at copy c.retire.new.self c.args.self.now.memory.now c.retire.new.memory done hart (λ a. refl) c.args.word c.entry-entry.result c.entry-entry.ensures
          ∙ ap (λ d. retire_of (flat_view f i) i (f.hart i) c.args.word d) is;
      after = went_on image f i h at copy c.retire.new.self c.in_ok-memory.memory c.retire.new.memory done hart mem c.in_ok-retire.ensures.hart c.in_ok-retire.ensures.memory
          ∙ ap (retired f i) is;
    })
    c.requires.running.hart refl
