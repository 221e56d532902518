use Rattle.std.proofs.Common.{◌≡◌, ◌≤◌, ◌-◌, ◌*◌, false, [], ◌∷◌, ℕ, arith, length, refl, sym, ◌∙◌}
use Rattle.flat.specs.State.{Setting}
use Rattle.flat.specs.Start.{first_state}
use Rattle.loader.proofs.Segments.{all_end_by}
use Rattle.outcomes.specs.declared.breadth_first.Outcomes.{Outcomes}
use Rattle.outcomes.specs.Searches.{setting_at, flat_at, place_at, booted_place}
use Rattle.outcomes.proofs.Led.{one_place}
use Rattle.outcomes.proofs.Found.{begins}
use Rattle.outcomes.proofs.start.begin_booted.Goals as goal

pub image-requires : goal.image-requires
image-requires c =
    let le : c.args.size - 8192 * c.args.count ≤ c.args.size = omega arith in
    all_end_by _ _ c.args.program.segments le c.requires.fits

pub returns-clause-begun : goal.returns-clause-begun
returns-clause-begun c =
    let there = c.in_ok-states.ensures in
    let first = there.0 in
    let image = c.in_ok-image.image in
    let o : Outcomes = record {
      program = c.args.program;
      image = image;
      count = c.args.count;
      pool = c.first_states.new.pool;
      states = c.in_ok-states.states;
      origins = c.new.result;
      is_all = false;
    } in
    let s = setting_at o in
    let long : length image.items ≡ c.args.size = sym image.ok.0 ∙ c.in_ok-image.ensures.size in
    let flat : flat_at o first ≡ first_state s c.entry.result = there.3 s image.items long long refl c.in_ok-image.ensures.memory in
    record {
      search = begins o first there.1 there.2 c.new.ensures.items c.requires.count;
      state = first;
      only = there.1;
      is =
          one_place (place_at o first) (booted_place c.args.program.segments c.args.program.entry c.args.count c.args.size)
          (flat ∙ (λ k. first_state (record { segments = c.args.program.segments; size = long k; count = c.args.count }) (c.entry.ensures.value k))) there.4;
    }
