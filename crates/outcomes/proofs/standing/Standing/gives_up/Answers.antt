use Rattle.std.proofs.Common.{◌≡◌, ◌<◌, subst, None, length, refl, sym, ap, ◌∙◌}
use Rattle.words.specs.declared.cause.AbortCause.TheVariants.{Trapped}
use Rattle.words.specs.declared.entry.Entry.TheVariants.{Abort, Trap}
use Rattle.flat.specs.State.{FlatHart}
use Rattle.outcomes.specs.Harts.{hart_of}
use Rattle.outcomes.specs.Standings.{flat_of, changed}
use Rattle.outcomes.specs.Turns.{IsBack}
use Rattle.outcomes.proofs.Changed.{of_some, of_none, back_there, aborts_so, stopped_there}
use Rattle.outcomes.proofs.standing.Standing.gives_up.Goals as goal

pub returns-in-Some : goal.returns-in-Some
returns-in-Some c =
    let image = c.args.self.now.scene.image.now in
    let f = flat_of c.args.self.now in
    let at = (rw (c.index.ensures.value) at c.hart-hart.ensures) in
    let cause = Trapped c.args.cause c.new-pc.result in
    let back : IsBack image f c.args.id cause c.in-Some.change = of_some c.in_ok-change.field-0 c.in-Some.change (IsBack image f c.args.id cause) c.in-Some.is c.in_ok-change.ensures.some in
    record {
      entry = Abort c.args.id cause;
      shown = refl;
      own = tt;
      tells = refl;
      hart = refl;
      of = subst (λ k. k < (flat_of c.args.self.now).setting.count) (sym back.id) c.requires.running.hart;
      carries = aborts_so f (changed image f c.in-Some.change) c.args.id cause c.requires.running (λ t. (c.new-pc.ensures ∙ sym (ap (λ (h : FlatHart). h.pc) at), c.requires.next))
          (back_there image f f c.args.id cause c.in-Some.change back refl);
    }

pub returns-in_ok-stopped-in-None : goal.returns-in_ok-stopped-in-None
returns-in_ok-stopped-in-None c =
    let image = c.args.self.now.scene.image.now in
    let f = flat_of c.args.self.now in
    let size = length image in
    let at = (rw (c.index.ensures.value) at c.hart-hart.ensures) in
    record {
      entry = Trap c.args.id c.args.cause c.new-pc.result;
      shown = refl;
      own = tt;
      tells = refl;
      hart = refl;
      of = c.requires.running.hart;
      carries = record {
        running = c.requires.running;
        outside = of_none c.in_ok-change.field-0 ((f.hart c.args.id).tx ≡ None) c.in-None.is c.in_ok-change.ensures.none;
        place = c.new-pc.ensures ∙ sym (ap (λ (h : FlatHart). h.pc) at);
        caused = c.requires.next;
        after = stopped_there image f c.args.id (hart_of size c.hart-hart.result.now) at c.in_ok-stopped-in-None.field-0 c.args.cause c.new-pc.result (c.in_ok-stopped-in-None.ensures size);
      };
    }
