use Rattle.std.proofs.Common.{◌+◌, ◌-◌, ◌*◌, length, refl, sym, ap, subst, ◌∙◌}
use Rattle.words.specs.Limits.{block_bytes, log_bytes}
use Rattle.undo_log.specs.Log.{empty_log}
use Rattle.table.specs.Program.{image_at}
use Rattle.flat.specs.State.{Setting}
use Rattle.flat.specs.Boots.{booted}
use Rattle.loader.specs.Memory.{mem_of}
use Rattle.protocol.specs.Start.{start}
use Rattle.directory.proofs.OneKept.{none_used}
use Rattle.isolation.specs.Belongs.{Belongs}
use Rattle.isolation.proofs.Belongs.Belonging.{belongs_start}
use Rattle.isolation.proofs.Words.Bytes.{words_same}
use Rattle.machine.specs.States.{State, shown, geometry, words_of, setting_of}
use Rattle.network.specs.Flights.{AreInOrder}
use Rattle.machine.specs.Mail.{in_flight}
use Rattle.machine.proofs.Beginning.{Begins, begins, all_fit, whole_blocks}
use Rattle.machine.proofs.machine.Machine.first.Given.{Over}
use Rattle.machine.proofs.machine.Machine.first.Goals as goal

pub image-requires : goal.image-requires
image-requires g c = all_fit c.args.program.segments c.args.harts c.args.size c.requires.bootable

-- the machine that is made
abbrev made : (g : Over) (c : goal.After-new-3 g) → State
made g c = record { program = c.in_ok-program.program; seats = c.in_ok-seats.seats.items; directory = c.new-2.result; flights = c.new-3.result.flights; sent = c.new-3.result.next; stamps = 0 }

is_first : (g : Over) (c : goal.After-new-3 g) → Begins g.row.SETS c.args.program c.args.harts c.args.size (made g c)
is_first g c = record {
  program = c.in_ok-program.ensures;
  count = c.in_ok-seats.ensures.count;
  harts = λ set j size count. c.in_ok-seats.ensures.harts set j size count ∙ ap (λ e. (start set e).harts j) c.entry.ensures.value;
  blocks = ap (λ n. block_bytes * n) (ap length c.new-2.ensures.memory ∙ sym c.in_ok-memory.memory.ok.0 ∙ c.in_ok-memory.ensures.count) ∙ whole_blocks c.args.program.segments c.args.harts c.args.size c.requires.bootable;
  words = λ b.
      ap (λ blocks. words_of blocks b) c.new-2.ensures.memory
      ∙ c.in_ok-memory.ensures.words b
      ∙ words_same (mem_of c.deref.result.now) (image_at c.args.program.segments) b (λ a at. ap (λ bytes. mem_of bytes a) c.deref.ensures.value ∙ c.in_ok-bytes.ensures.memory a);
  entries = c.new-2.ensures.entries;
  flights = λ number. ap (λ flights. in_flight flights number) c.new-3.ensures.empty;
  stamps = refl;
}

belongs : (g : Over) (c : goal.After-new-3 g) → Belongs (geometry g.row.SETS g.row.WAYS) (booted c.args.program.segments c.args.program.entry c.args.harts c.args.size) (shown g.row.SETS (made g c))
belongs g c =
    let set : Setting = record { segments = c.args.program.segments; size = c.args.size; count = c.args.harts } in
    subst (Belongs (geometry g.row.SETS g.row.WAYS) (booted c.args.program.segments c.args.program.entry c.args.harts c.args.size)) (sym (begins g.row.SETS c.args.program c.args.harts c.args.size (made g c) (is_first g c)))
    (belongs_start (geometry g.row.SETS g.row.WAYS) set c.args.program.entry c.in_ok-bytes.ensures.bytes)

pub invariant_of-result : goal.invariant_of-result
invariant_of-result g c = record {
  some_way = c.requires.ways;
  fits = c.requires.lines;
  count = c.in_ok-seats.ensures.count ∙ sym c.new-2.ensures.harts;
  seats = λ j x at.
      let b : Begins g.row.SETS c.args.program c.args.harts c.args.size (made g c) = is_first g c in
      c.in_ok-seats.ensures.seated (setting_of (made g c)) j x b.blocks b.count at;
  kept = none_used c.new-2.result c.new-2.ensures.entries;
  order = subst AreInOrder (sym c.new-3.ensures.empty) tt;
  flat = booted c.args.program.segments c.args.program.entry c.args.harts c.args.size;
  belongs = belongs g c;
}

pub returns-clause-start : goal.returns-clause-start
returns-clause-start g c = begins g.row.SETS c.args.program c.args.harts c.args.size (made g c.before) (is_first g c.before)

pub returns-clause-belongs : goal.returns-clause-belongs
returns-clause-belongs g c = belongs g c.before

pub returns-clause-unused : goal.returns-clause-unused
returns-clause-unused g c =
    let b : Begins g.row.SETS c.before.args.program c.before.args.harts c.before.args.size (made g c.before) = is_first g c.before in
    record {
      sent = c.before.new-3.ensures.first;
      flights = c.before.new-3.ensures.empty;
      kept = c.before.new-2.ensures.entries;
      caches = c.before.in_ok-seats.ensures.caches;
      logs = λ j x at. c.before.in_ok-seats.ensures.logs j x at ∙ ap (λ n. empty_log (n - log_bytes * (j + 1))) (sym b.blocks);
    }
