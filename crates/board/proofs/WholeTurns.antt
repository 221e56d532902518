-- Whole turns at a board, one after the other.
use Rattle.std.proofs.Common.{◌≡◌, ◌≢◌, ◌≤◌, ◌<◌, ◌⊎◌, ◌+◌, ◌++◌, ◌==◌, ◌&&◌, ℕ, suc, Bool, true, false, cond, All, inl, inr, List, [], ◌∷◌, length, replicate, Option, Some, None, Result, Ok, Err, refl, sym, ap, subst, ◌∙◌, append_assoc, append-nil, arith}
use Rattle.std.specs.Prelude.{option_to_list, slice_index, slice_set}
use Rattle.std.specs.List.{flat_map}
use Rattle.std.specs.Result.{is_ok}
use Rattle.std.specs.declared.alloc.AllocError.{AllocError}
use Rattle.std.proofs.lemmas.Bool.{cases_Bool, cases_eq, cases_lt, cond-true, cond-false, eq-eqb, eqb-true}
use Rattle.std.proofs.lemmas.Grind.{flat_map-append}
use Rattle.std.proofs.lemmas.List.{get_or-set_same, get_or-set_other, get_or-replicate, get_or_past}
use Rattle.std.proofs.lemmas.List.Elements.{All-nil, All-cons, All-append, All-replicate}
use Rattle.std.proofs.lemmas.List.Sums.{sum_by-append}
use Rattle.words.specs.Limits.{most_harts}
use Rattle.words.specs.declared.entry.Entry.{Entry}
use Rattle.words.specs.declared.entry.Step.{Step}
use Rattle.words.specs.declared.entry.Step.TheVariants as step
use Rattle.loader.specs.Programs.{Program}
use Rattle.protocol.specs.Caches.{Geometry}
use Rattle.protocol.specs.Machine.{Runs}
use Rattle.protocol.proofs.Splits.{runs_then}
use Rattle.machine.specs.States.{State, shown}
use Rattle.schedule.specs.declared.choices.Choice.{Choice}
use Rattle.schedule.specs.declared.choices.Choice.TheVariants.{Core}
use Rattle.schedule.specs.Written.{IsWritable}
use Rattle.board.specs.declared.refusal.Refusal.{Refusal}
use Rattle.board.specs.declared.refusal.Refusal.TheVariants.{Stale, NoMemory}
use Rattle.board.specs.Leases.{most_steps, Lent}
use Rattle.board.specs.Histories.{Told, TellsMore, Leads, no_step, both, told_then, IsCourse}
use Rattle.board.specs.Boards.{Held, IsFirst, IsAsBefore, IsTurn, IsRunning, IsSettled, Settles, LendsAgain}
use Rattle.board.specs.Visits.{Owes, PaysOff, IsVisit, Visits}
use Rattle.board.specs.Ends.{GoesOn, Finishes, IsTurnsEnd}
use Rattle.board.specs.Turns.{Turn, choices_of, MakesOwed, IsTaken, AreTaken, turns_of, IsServed, IsServedEnd}
use Rattle.board.proofs.Replays.{replay_more, replay_flat}
use Rattle.board.proofs.Courses.{course_on, course_first, leads_one, leads_then, runs_one}

-- ---- What is told in parts

both_assoc : (a b c : Option (List Choice)) → both (both a b) c ≡ both a (both b c)
both_assoc (Some a) (Some b) (Some c) = ap (λ x. Some x) (append_assoc a b c)
both_assoc (Some a) (Some b) None = refl
both_assoc (Some a) None (Some c) = refl
both_assoc (Some a) None None = refl
both_assoc None (Some b) (Some c) = refl
both_assoc None (Some b) None = refl
both_assoc None None (Some c) = refl
both_assoc None None None = refl

both_none : (a : Option (List Choice)) → both a (Some []) ≡ a
both_none (Some a) = ap (λ x. Some x) (append-nil a)
both_none None = refl

told_assoc : (t a b : Told) → told_then (told_then t a) b ≡ told_then t (told_then a b)
told_assoc t a b = λ k. record {
  steps = append_assoc t.steps a.steps b.steps k;
  entries = append_assoc t.entries a.entries b.entries k;
  choices = both_assoc t.choices a.choices b.choices k;
}

told_none : (t : Told) → told_then t no_step ≡ t
told_none t = λ k. record { steps = append-nil t.steps k; entries = append-nil t.entries k; choices = both_none t.choices k }

-- ---- Choices that lead from one board to another

module _ {J : Type 0} (g : Geometry) (tells : J → Told → Type 0) where
  pub record IsPiece (cs : List Choice) (b c : Held J) : Type 0 where
    pub steps : List Step
    pub entries : List Entry
    pub writable : All IsWritable cs
    pub runs : Runs g (shown g.sets b.machine) steps entries (shown g.sets c.machine)
    pub leads : Leads g cs b.machine entries c.machine
    pub told : TellsMore tells b.journal (record { steps = steps; entries = entries; choices = Some cs }) c.journal
    pub rest : c ≡ record b { machine = c.machine; journal = c.journal }

  rest_of : (b c : Held J) (m : State) → c ≡ record b { machine = m; journal = c.journal } → c ≡ record b { machine = c.machine; journal = c.journal }
  rest_of b c m is = is ∙ ap (λ (x : State). record b { machine = x; journal = c.journal }) (sym (ap (λ (x : Held J). x.machine) is))

  -- none
  no_piece : (b c : Held J) → IsAsBefore tells b c → IsPiece [] b c
  no_piece b c before =
      let same : c.machine ≡ b.machine = ap (λ (x : Held J). x.machine) before.rest in record {
        steps = [];
        entries = [];
        writable = All-nil IsWritable;
        runs = (refl, ap (shown g.sets) same);
        leads = ([], refl, λ after. (refl, same));
        told = λ told t. subst (tells c.journal) (sym (told_none told)) (before.told told t);
        rest = rest_of b c b.machine before.rest;
      }

  -- one
  one_piece : (b c : Held J) (s : Step) (x : Choice) (e : Option Entry) → IsTurn g tells b s (Some x) e c → IsPiece (x ∷ []) b c
  one_piece b c s x e t = record {
    steps = s ∷ [];
    entries = option_to_list e;
    writable = All-cons IsWritable x [] (t.writable x refl) (All-nil IsWritable);
    runs = runs_one g b.machine c.machine s e t.made;
    leads = leads_one g x s e b.machine c.machine (t.chosen x refl) t.made;
    told = t.told;
    rest = t.rest;
  }

  -- those of a lease
  lease_piece : {T : Type 0} (traces : T → List Entry → Type 0) (b c : Held J) (l : Lent T) (s : IsSettled g tells traces b l c) → IsPiece (replicate (length s.entries) (Core l.id)) b c
  lease_piece traces b c l s = record {
    steps = replicate (length s.entries) (step.Core l.id);
    entries = s.entries;
    writable = All-replicate IsWritable (length s.entries) (Core l.id) s.few;
    runs = s.runs;
    leads = s.leads;
    told = s.told;
    rest = rest_of b c _ s.rest;
  }

  -- some behind others
  joined : (cs ds : List Choice) (b c d : Held J) → IsPiece cs b c → IsPiece ds c d → IsPiece (cs ++ ds) b d
  joined cs ds b c d p q = record {
    steps = p.steps ++ q.steps;
    entries = p.entries ++ q.entries;
    writable = All-append IsWritable cs ds p.writable q.writable;
    runs = runs_then g (shown g.sets b.machine) (shown g.sets c.machine) (shown g.sets d.machine) p.steps q.steps p.entries q.entries p.runs q.runs;
    leads = leads_then g cs ds b.machine c.machine d.machine p.entries q.entries p.leads q.leads;
    told = λ told t.
        let first : Told = record { steps = p.steps; entries = p.entries; choices = Some cs } in
        let last : Told = record { steps = q.steps; entries = q.entries; choices = Some ds } in
        subst (tells d.journal) (told_assoc told first last) (q.told (told_then told first) (p.told told t));
    rest = q.rest ∙ ap (λ (x : Held J). record x { machine = d.machine; journal = d.journal }) p.rest;
  }

  -- ---- A turn

  -- what was owed
  record Paid (i n : ℕ) (b c : Held J) : Type 0 where
    pub choices : List Choice
    pub count : length choices ≡ n
    pub piece : IsPiece choices b c
    pub owed : MakesOwed g i choices b.machine c.machine

  paid : (i : ℕ) (xs : List Step) (b c : Held J) → PaysOff g tells i xs b c → Paid i (length xs) b c
  paid i [] b c same =
      let none : Paid i 0 b b = record { choices = []; count = refl; piece = no_piece b b (record { told = λ told t. t; rest = refl }); owed = refl } in
      subst (λ (x : Held J). Paid i 0 b x) (sym same) none
  paid i (x ∷ xs) b c (d, choice, e, owes, turn, pays) =
      let p = paid i xs d c pays in record {
        choices = choice ∷ p.choices;
        count = ap suc p.count;
        piece = joined (choice ∷ []) p.choices b d c (one_piece b d x choice e turn) p.piece;
        owed = (x, e, d.machine, owes, turn.chosen choice refl, turn.made, p.owed);
      }

  -- a turn of hart i
  pub record Turned (i : ℕ) (b c : Held J) : Type 0 where
    pub turn : Turn
    pub hart : turn.hart ≡ i
    pub piece : IsPiece (choices_of turn) b c
    pub taken : IsTaken g turn b.machine c.machine

  -- a visit behind steps on loan
  visited : (i n : ℕ) (b c d : Held J) → n ≤ most_steps → IsPiece (replicate n (Core i)) b c → IsVisit g tells i c d → Turned i b d
  visited i n b c d short p v =
      let w = v.visited in
      let q = paid i w.steps w.middle d w.pays in
      let first = one_piece c w.middle (step.Core i) (Core i) w.entry w.begins in
      let ends = subst (λ (k : ℕ). (k ≡ 63) ⊎ ((k < 63) × Owes g i d.machine None)) (sym (q.count ∙ w.count)) v.ends in
      record {
        turn = record { hart = i; alone = n; owed = q.choices };
        hart = refl;
        piece = joined (replicate n (Core i)) (Core i ∷ q.choices) b c d p (joined (Core i ∷ []) q.choices c w.middle d first q.piece);
        taken = record {
          short = short;
          entries = p.entries;
          settled = c.machine;
          alone = p.leads;
          entry = w.entry;
          begun = w.middle.machine;
          begins = w.begins.made;
          owed = q.owed;
          ends = ends;
        };
      }

  module _ {T : Type 0} (traces : T → List Entry → Type 0) (i : ℕ) where
    abbrev Settled : Held J → Lent T → Result Unit Refusal → Held J → Type 0
    Settled b l r c = Settles g tells traces b l r c

    abbrev Visited : Held J → Result Bool AllocError → Held J → Type 0
    Visited b r c = Visits g tells i b r c

    abbrev Again : Held J → Lent T → Bool → Lent T → Type 0
    Again b l r m = LendsAgain traces i b l r m

    -- the end of a turn that went through
    goes_through : (is_last : Bool) (n : ℕ) (b c d : Held J) (l m : Lent T) (visit r : Result Bool AllocError) (runs : Bool) → r ≡ Ok runs → n ≤ most_steps → IsPiece (replicate n (Core i)) b c
        → Visits g tells i c visit d → GoesOn Settled Visited Again is_last d l visit r m → Turned i b d
    goes_through is_last n b c d l m (Ok true) r runs ok short p visits goes = visited i n b c d short p visits.0
    goes_through is_last n b c d l m (Ok false) r runs ok short p visits goes = visited i n b c d short p visits.0
    goes_through is_last n b c d l m (Err e) r runs ok short p visits goes = let wrong : ◌≡◌ {A = Result Bool AllocError} (Err e) (Ok runs) = sym goes.0 ∙ ok in absurd (cc)

    finishes_through : (is_last : Bool) (b c d : Held J) (l m : Lent T) (answer : Result Unit Refusal) (r : Result Bool AllocError) (runs : Bool) → r ≡ Ok runs → l.id ≡ i
        → Settles g tells traces b l answer c → Finishes Settled Visited Again is_last c l answer r d m → Turned i b d
    finishes_through is_last b c d l m (Ok u) r runs ok own settles (visit, visits, goes) =
        let s = settles.1 in
        let p : IsPiece (replicate (length s.entries) (Core i)) b c = subst (λ (k : ℕ). IsPiece (replicate (length s.entries) (Core k)) b c) own (lease_piece traces b c l s) in
        goes_through is_last (length s.entries) b c d l m visit r runs ok (subst (λ (k : ℕ). k ≤ most_steps) (sym s.count) s.short) p visits goes
    finishes_through is_last b c d l m (Err Stale) r runs ok own settles (visit, visits, goes) =
        goes_through is_last 0 b c d l m visit r runs ok (omega arith) (no_piece b c settles.1) visits goes
    finishes_through is_last b c d l m (Err NoMemory) r runs ok own settles finishes = let wrong : ◌≡◌ {A = Result Bool AllocError} (Err _) (Ok runs) = sym finishes.0 ∙ ok in absurd (cc)

    pub turned : (is_last : Bool) (b c : Held J) (l m : Lent T) (r : Result Bool AllocError) (runs : Bool) → r ≡ Ok runs → l.id ≡ i
        → IsTurnsEnd Settled Visited Again is_last b l r c m → Turned i b c
    turned is_last b c l m r runs ok own end = finishes_through is_last b end.middle c l m end.answer r runs ok own end.settles end.finishes

-- ---- Turns

-- a test of two parts
pub both_true : (a b : Bool) → (a && b) ≡ true → (a ≡ true) × (b ≡ true)
both_true true true is = (refl, refl)
both_true true false is = absurd (cc)
both_true false b is = absurd (cc)

-- an answer, and no error
pub ok_of : (r : Result Bool AllocError) → is_ok r ≡ true → (runs : Bool) × (r ≡ Ok runs)
ok_of (Ok runs) is = (runs, refl)
ok_of (Err e) is = absurd (cc)

taken_more : (g : Geometry) (ts : List Turn) (t : Turn) (v u w : State) → AreTaken g ts v u → IsTaken g t u w → AreTaken g (ts ++ t ∷ []) v w
taken_more g [] t v u w same taken = (w, subst (λ (x : State). IsTaken g t x w) same taken, refl)
taken_more g (x ∷ ts) t v u w (next, first, rest) taken = (next, first, taken_more g ts t next u w rest taken)

not_same : (a b : ℕ) → a ≢ b → a == b ≡ false
not_same a b other = by (cases_Bool (a == b))
  where
    by : (a == b ≡ true) ⊎ (a == b ≡ false) → a == b ≡ false
    by (inl is) = absurd (other (eqb-true a b is))
    by (inr isnt) = isnt

counted_one : (i j : ℕ) (t : Turn) → t.hart ≡ i → ((j ≡ i) × (turns_of j (t ∷ []) ≡ 1)) ⊎ ((j ≢ i) × (turns_of j (t ∷ []) ≡ 0))
counted_one i j t own = by (cases_eq j i)
  where
    alone : turns_of j (t ∷ []) ≡ 0 + cond (t.hart == j) 1 0
    alone = refl

    by : (j ≡ i) ⊎ (j ≡ i → ⊥) → ((j ≡ i) × (turns_of j (t ∷ []) ≡ 1)) ⊎ ((j ≢ i) × (turns_of j (t ∷ []) ≡ 0))
    by (inl same) = let one : ◌≡◌ {A = ℕ} (cond (t.hart == j) 1 0) 1 = cond-true (t.hart == j) 1 0 (eq-eqb t.hart j (own ∙ sym same)) in inl (same, omega (arith, alone, one))
    by (inr other) = let none : ◌≡◌ {A = ℕ} (cond (t.hart == j) 1 0) 0 = cond-false (t.hart == j) 1 0 (not_same t.hart j (λ is. other (sym is ∙ own))) in inr (other, omega (arith, alone, none))

-- one turn more of hart i
counted_more : (counts : List ℕ) (ts : List Turn) (t : Turn) (i : ℕ) → t.hart ≡ i → i < length counts → ((j : ℕ) → turns_of j ts ≡ slice_index counts j)
    → (j : ℕ) → turns_of j (ts ++ t ∷ []) ≡ slice_index (slice_set counts i (slice_index counts i + 1)) j
counted_more counts ts t i own within counted j = by (counted_one i j t own)
  where
    both_parts : turns_of j (ts ++ t ∷ []) ≡ turns_of j ts + turns_of j (t ∷ [])
    both_parts = sum_by-append _ ts (t ∷ [])

    by : ((j ≡ i) × (turns_of j (t ∷ []) ≡ 1)) ⊎ ((j ≢ i) × (turns_of j (t ∷ []) ≡ 0)) → turns_of j (ts ++ t ∷ []) ≡ slice_index (slice_set counts i (slice_index counts i + 1)) j
    by (inl (same, one)) =
        let now : slice_index (slice_set counts i (slice_index counts i + 1)) i ≡ slice_index counts i + 1 = get_or-set_same counts i _ 0 within in
        let before : turns_of j ts ≡ slice_index counts i = subst (λ (k : ℕ). turns_of j ts ≡ slice_index counts k) same (counted j) in
        subst (λ (k : ℕ). turns_of j (ts ++ t ∷ []) ≡ slice_index (slice_set counts i (slice_index counts i + 1)) k) (sym same) (omega (arith, both_parts, one, now, before))
    by (inr (other, none)) =
        let now : slice_index (slice_set counts i (slice_index counts i + 1)) j ≡ slice_index counts j = get_or-set_other counts i j _ 0 other in
        omega (arith, both_parts, none, now, counted j)

module _ {J : Type 0} (g : Geometry) (tells : J → Told → Type 0) where
  -- none
  pub served_first : (p : Program) (n size : ℕ) (journal : J) (b : Held J) → IsFirst g p n size journal b → tells journal no_step → IsServed g tells b (replicate most_harts 0)
  served_first p n size journal b f told = subst (λ (x : Held J). IsServed g tells x (replicate most_harts 0)) (sym f.rest) (record {
    bytes = f.bytes;
    steps = [];
    entries = [];
    choices = [];
    told = told;
    replay = record { boots = f.boots; runs = (refl, f.machine) };
    course = record { boots = f.boots; first = b.machine; starts = f.machine; unused = f.unused; writable = All-nil IsWritable; moments = []; given = refl; follows = (refl, refl) };
    turns = [];
    same = refl;
    taken = refl;
    counted = λ i. sym (zeros i);
  })
    where
      zeros : (i : ℕ) → slice_index (replicate most_harts 0) i ≡ 0
      zeros i = by (cases_lt i most_harts)
        where
          by : (i < most_harts) ⊎ (most_harts ≤ i) → slice_index (replicate most_harts 0) i ≡ 0
          by (inl less) = get_or-replicate most_harts i 0 0 less
          by (inr past) = get_or_past (replicate most_harts 0) i 0 past

  -- one more
  pub served_more : (i : ℕ) (b c : Held J) (counts : List ℕ) → IsServed g tells b counts → i < length counts → Turned g tells i b c → IsServed g tells c (slice_set counts i (slice_index counts i + 1))
  served_more i b c counts s within t =
      let p = t.piece in
      let next : Held J = record b { machine = c.machine; journal = c.journal } in
      let course : IsCourse g b.program b.harts b.size (s.choices ++ choices_of t.turn) (s.entries ++ p.entries) c.machine =
      course_on g b.program b.harts b.size (Some s.choices) (Some (choices_of t.turn)) b.machine c.machine s.entries p.entries s.course (p.writable, p.leads) in
      let first = course_first g b.program b.harts b.size s.choices (choices_of t.turn) b.machine c.machine s.entries p.entries s.course (p.writable, p.leads) in
      let served : IsServed g tells next (slice_set counts i (slice_index counts i + 1)) = record {
        bytes = s.bytes;
        steps = s.steps ++ p.steps;
        entries = s.entries ++ p.entries;
        choices = s.choices ++ choices_of t.turn;
        told = p.told (record { steps = s.steps; entries = s.entries; choices = Some s.choices }) s.told;
        replay = replay_more g b.program b.harts b.size s.steps p.steps b.machine c.machine s.entries p.entries s.replay p.runs;
        course = course;
        turns = s.turns ++ t.turn ∷ [];
        same = ap (λ (xs : List Choice). xs ++ choices_of t.turn) s.same ∙ sym (flat_one s.turns t.turn);
        taken = subst (λ (v : State). AreTaken g (s.turns ++ t.turn ∷ []) v c.machine) (sym first) (taken_more g s.turns t.turn s.course.first b.machine c.machine s.taken t.taken);
        counted = counted_more counts s.turns t.turn i t.hart within s.counted;
      } in
      subst (λ (x : Held J). IsServed g tells x (slice_set counts i (slice_index counts i + 1))) (sym p.rest) served
    where
      flat_one : (ts : List Turn) (x : Turn) → flat_map choices_of (ts ++ x ∷ []) ≡ flat_map choices_of ts ++ choices_of x
      flat_one ts x = flat_map-append choices_of ts (x ∷ []) ∙ ap (λ (xs : List Choice). flat_map choices_of ts ++ xs) (append-nil (choices_of x))

  -- when all is done
  pub served_end : (most : ℕ) (b : Held J) (counts : List ℕ) → length counts ≡ most_harts → IsServed g tells b counts
      → ((i : ℕ) → i < most_harts → (slice_index counts i ≤ most) × (IsRunning b.machine i → slice_index counts i ≡ most)) → IsServedEnd g b.program b.harts b.size (tells b.journal) most b.machine
  served_end most b counts places s had =
      let f = replay_flat g b.program b.harts b.size s.steps b.machine s.entries s.bytes s.replay in
      record {
        steps = s.steps;
        entries = s.entries;
        choices = s.choices;
        told = s.told;
        course = s.course;
        turns = record { turns = s.turns; same = s.same; taken = s.taken; few = λ i. few_of i (cases_lt i most_harts); all = λ i left. s.counted i ∙ (had i left.0).1 left.1 };
        flat = f.0;
        runs = f.1;
        reasons = f.2;
        belongs = f.3;
      }
    where
      few_of : (i : ℕ) → (i < most_harts) ⊎ (most_harts ≤ i) → turns_of i s.turns ≤ most
      few_of i (inl less) = omega (arith, s.counted i, (had i less).0)
      few_of i (inr past) =
          let none : slice_index counts i ≡ 0 = get_or_past counts i 0 (subst (λ (n : ℕ). n ≤ i) (sym places) past) in
          omega (arith, s.counted i, none)
