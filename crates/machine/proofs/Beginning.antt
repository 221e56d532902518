-- The machine that a program begins in.
use Rattle.std.proofs.Common.{◌≡◌, ◌<◌, ◌≤◌, ◌+◌, ◌-◌, ◌*◌, ◌/◌, ◌%◌, ℕ, arith, Bool, true, false, cond, Option, Some, None, List, [], ◌∷◌, ◌++◌, length, replicate, inl, inr, refl, sym, ap, subst, ◌∙◌}
use Rattle.std.specs.Prelude.{nat_lt, slice_get, ◌⊎◌}
use Rattle.std.specs.Option.{option_map_or}
use Rattle.std.proofs.lemmas.Bool.{cases_lt, le-ltb}
use Rattle.flat.specs.Start.{first_hart as flat_first}
use Rattle.std.proofs.lemmas.Bool.Decides.{nat_tests}
use Rattle.std.proofs.lemmas.Option.{slice_get_within}
use Rattle.words.specs.Limits.{block_bytes, stack_bytes, log_bytes}
use Rattle.undo_log.specs.Log.{empty_log}
use Rattle.table.specs.Program.{Segment, image_at}
use Rattle.loader.specs.Programs.{Program}
use Rattle.flat.specs.State.{Setting, idle}
use Rattle.flat.specs.declared.boot_fault.BootFault.TheVariants.{BadSize, BadHarts, DoesNotFit}
use Rattle.flat.specs.Boots.{is_size, is_count, fits_below, ends_by, boot_fault}
use Rattle.loader.proofs.Segments.{all_end_by}
use Rattle.std.specs.List.{list_all}
use Rattle.std.proofs.Math.Path.{fun_ext}
use Rattle.protocol.specs.Lines.{words_at}
use Rattle.protocol.specs.Directory.{first_entry}
use Rattle.directory.specs.Blocks.{entry_at}
use Rattle.machine.specs.Mail.{in_flight}
use Rattle.protocol.specs.Start.{start, first_hart}
use Rattle.hart.specs.Shown.{shown_hart}
use Rattle.machine.specs.States.{Seat, State, shown, hart_at, words_of, IsSeated}
use Rattle.machine.proofs.Places.{got_more, got_last, none_past}
use Rattle.machine.proofs.Sound.{one_seat}
use Rattle.std.proofs.lemmas.List.{length-append}

-- a seat is hart j's at the start, in each machine of this size and number of harts
pub record IsFirst (sets ways size count entry j : ℕ) (x : Seat) : Type 0 where
  pub hart : (s : Setting) → s.size ≡ size → s.count ≡ count → shown_hart sets x.output x.hart ≡ (start s entry).harts j
  pub seated : (s : Setting) → s.size ≡ size → s.count ≡ count → IsSeated s j x.hart
  pub cache : x.hart.cache ≡ replicate sets (replicate ways None)
  pub log : x.hart.tx.log ≡ empty_log (size - log_bytes * (j + 1))

-- and so are all
abbrev pub AreFirst : ℕ → ℕ → ℕ → ℕ → ℕ → List Seat → Type 0
AreFirst sets ways size count entry seats = (j : ℕ) (x : Seat) → slice_get seats j ≡ Some x → IsFirst sets ways size count entry j x

-- with one more
pub first_more : (sets ways size count entry : ℕ) (seats : List Seat) (x : Seat) → AreFirst sets ways size count entry seats → IsFirst sets ways size count entry (length seats) x → AreFirst sets ways size count entry (seats ++ x ∷ [])
first_more sets ways size count entry seats x all one j y at = go (cases_lt j (length seats))
  where
    size_now : length (seats ++ x ∷ []) ≡ length seats + 1
    size_now = length-append seats (x ∷ [])

    go : (j < length seats) ⊎ (length seats ≤ j) → IsFirst sets ways size count entry j y
    go (inl lt) = all j y (sym (got_more seats x j lt) ∙ at)
    go (inr le) =
        let last : j ≡ length seats = omega (arith, slice_get_within (seats ++ x ∷ []) j y at, size_now, le) in
        let same : x ≡ y = one_seat x y (sym (got_last seats x) ∙ ap (slice_get (seats ++ x ∷ [])) (sym last) ∙ at) in
        subst (λ z. IsFirst sets ways size count entry j z) same (subst (λ n. IsFirst sets ways size count entry n x) (sym last) one)

-- then the harts are the start's
pub harts_first : (sets ways size count entry : ℕ) (seats : List Seat) (s : Setting) (j : ℕ) → AreFirst sets ways size count entry seats → length seats ≡ count → s.size ≡ size → s.count ≡ count → hart_at sets seats j ≡ (start s entry).harts j
harts_first sets ways size count entry seats s j all many is_size is_count = go (slice_get seats j) refl
  where
    go : (o : Option Seat) → slice_get seats j ≡ o → hart_at sets seats j ≡ (start s entry).harts j
    go None e =
        let past : nat_lt j s.count ≡ false = le-ltb j s.count (omega (arith, none_past seats j e, many, is_count)) in
        ap (λ o. option_map_or (λ x. shown_hart sets x.output x.hart) o (first_hart idle)) e
        ∙ sym (ap (λ b. first_hart (cond b (flat_first s entry j) idle)) past)
    go (Some x) e = ap (λ o. option_map_or (λ x. shown_hart sets x.output x.hart) o (first_hart idle)) e ∙ (all j x e).hart s is_size is_count

-- no hart stands yet
pub first_none : (sets ways size count entry : ℕ) → AreFirst sets ways size count entry []
first_none sets ways size count entry j x e = absurd (none_is e)
  where
    none_is : {A : Type 0} {a : A} → None ≡ Some a → ⊥
    none_is e = cc

-- What is booted has passed all tests

pub passed : (segments : List Segment) (n s : ℕ) → boot_fault segments n s ≡ None → (is_size s ≡ true) × (is_count n ≡ true) × (fits_below s n segments ≡ true)
passed segments n s e = all (is_size s) (is_count n) (fits_below s n segments) e
  where
    all : (a b c : Bool) → cond a (cond b (cond c None (Some DoesNotFit)) (Some BadHarts)) (Some BadSize) ≡ None → (a ≡ true) × (b ≡ true) × (c ≡ true)
    all true true true e = (refl, refl, refl)
    all true true false e = cc
    all true false c e = cc
    all false b c e = cc

-- the segments end within memory
pub all_fit : (segments : List Segment) (n s : ℕ) → boot_fault segments n s ≡ None → list_all (ends_by s) segments ≡ true
all_fit segments n s e = all_end_by (s - (stack_bytes + log_bytes) * n) s segments (omega arith) (passed segments n s e).2

-- memory is whole blocks
pub whole_blocks : (segments : List Segment) (n s : ℕ) → boot_fault segments n s ≡ None → block_bytes * (s / block_bytes) ≡ s
whole_blocks segments n s e = of_size (passed segments n s e).0
  where
    of_size : is_size s ≡ true → block_bytes * (s / block_bytes) ≡ s
    of_size is = let zero_rest : s % 4096 ≡ 0 = grind (arith, nat_tests) in omega (arith, zero_rest)

-- a machine as a program begins in it
pub record Begins (sets : ℕ) (p : Program) (n s : ℕ) (m : State) : Type 0 where
  pub program : m.program ≡ p
  pub count : length m.seats ≡ n
  pub harts : (set : Setting) (j : ℕ) → set.size ≡ s → set.count ≡ n → hart_at sets m.seats j ≡ (start set p.entry).harts j
  pub blocks : block_bytes * length m.directory.memory ≡ s
  pub words : (b : ℕ) → words_of m.directory.memory b ≡ words_at (image_at p.segments) b
  pub entries : m.directory.kept ≡ []
  pub flights : (key : ℕ) → in_flight m.flights key ≡ None
  pub stamps : m.stamps ≡ 0

-- is the protocol's
pub begins : (sets : ℕ) (p : Program) (n s : ℕ) (m : State) → Begins sets p n s m → shown sets m ≡ start (record { segments = p.segments; size = s; count = n }) p.entry
begins sets p n s m b =
    let set : Setting = record { segments = p.segments; size = s; count = n } in
    λ k. record {
      setting = record { segments = (b.program k).segments; size = b.blocks k; count = b.count k };
      harts = fun_ext (λ j. b.harts set j refl refl) k;
      entries = entries k;
      memory = fun_ext b.words k;
      net = fun_ext b.flights k;
      stamps = b.stamps k;
    }
  where
    entries : entry_at m.directory ≡ (λ (a : ℕ). first_entry)
    entries = ap (λ kept. entry_at (record m.directory { kept = kept })) b.entries
