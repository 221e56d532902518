-- The machine that a program begins in.
use Rattle.std.proofs.Common.{◌≡◌, ℕ, cond, refl, sym, ap, ◌∙◌}
use Rattle.std.specs.Prelude.{vec_len, nat_lt, slice_get}
use Rattle.std.specs.Option.{option_map_or}
use Rattle.table.specs.Program.{image_at}
use Rattle.loader.specs.Programs.{Program}
use Rattle.flat.specs.State.{Setting, idle}
use Rattle.flat.specs.Start.{first_hart}
use Rattle.reference.specs.declared.machine.Machine.{Machine}
use Rattle.loader.specs.Memory.{mem_of}
use Rattle.reference.specs.States.{hart_of}
use Rattle.reference.specs.Machines.{Belongs}
use Rattle.flat.specs.Boots.{booted}

-- memory with the program's image, and harts as they begin
pub begins : (p : Program) (n s : ℕ) (m : Machine)
    → m.program ≡ p → vec_len m.memory ≡ s → vec_len m.harts ≡ n
    → ((a : ℕ) → mem_of m.memory.items a ≡ image_at p.segments a)
    → ((set : Setting) (j : ℕ) → set.size ≡ s → set.count ≡ n → option_map_or (hart_of s) (slice_get m.harts.items j) idle ≡ cond (nat_lt j n) (first_hart set p.entry j) idle)
    → Belongs (booted p.segments p.entry n s) m
begins p n s m program size count image harts =
    let set : Setting = record { segments = p.segments; size = s; count = n } in
    let H = λ (j : ℕ). ap (λ k. option_map_or (hart_of k) (slice_get m.harts.items j) idle) size ∙ harts set j refl refl in
    sym (λ k. record { setting = record { segments = (program k).segments; size = size k; count = count k }; mem = λ a. image a k; hart = λ j. H j k })
