use Rattle.std.proofs.Common.{rules, ◌≡◌, sym, ◌∙◌, ap}
use Rattle.cache.proofs.Fresh.{fresh, made_fresh, fresh_is_sound, line_at-fresh, room-fresh}
use Rattle.cache.specs.Occupied.{mask_of}
use Rattle.cache.proofs.Masks.{mask_none}
use Rattle.cache.proofs.Occupancy.{occupied-fresh}
use Rattle.cache.proofs.cache.Cache.new.Goals as goal

pub invariant_of-result : goal.invariant_of-result
invariant_of-result g c =
    let made : c.from_fn.result ≡ fresh g.row.SETS g.row.WAYS = made_fresh g.row.SETS g.row.WAYS c.from_fn.result c.from_fn.ensures.items.long (λ s d h. let set = c.from_fn.ensures.items.at s d h in search rules) in
    rw made (fresh_is_sound g.row.SETS g.row.WAYS c.requires.sets c.requires.ways c.requires.size, c.none.ensures ∙ sym (mask_none 64 g.row.SETS) ∙ ap (mask_of 64) (occupied-fresh g.row.SETS g.row.WAYS))

pub returns : goal.returns
returns g c =
    let made : c.from_fn.result ≡ fresh g.row.SETS g.row.WAYS = made_fresh g.row.SETS g.row.WAYS c.from_fn.result c.from_fn.ensures.items.long (λ s d h. let set = c.from_fn.ensures.items.at s d h in search rules) in
    record {
      ways = made;
      empty = λ b. rw made (line_at-fresh g.row.SETS g.row.WAYS b);
      room = λ b. rw made (room-fresh g.row.SETS g.row.WAYS b c.requires.sets c.requires.ways);
    }
