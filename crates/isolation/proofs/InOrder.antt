-- Each end of a walk is the end of a walk in order: of the harts at a word that nobody else sees the lowest goes first, and the walk
-- that is left is shorter by its move.
use Rattle.std.proofs.Common.{◌≡◌, ◌≢◌, ◌<◌, ◌≤◌, ◌+◌, ◌⊎◌, ℕ, zero, suc, Bool, true, false, Option, None, Result, Ok, Err, List, [], ◌∷◌, length, inl, inr, refl, sym, ap, ◌∙◌, subst, arith}
use Rattle.std.specs.Prelude.{◌==◌, cond, IsOkAnd}
use Rattle.std.proofs.lemmas.Bool.{cases_lt}
use Rattle.words.specs.declared.cause.Cause.{Cause}
use Rattle.words.specs.declared.cause.Status.{Status}
use Rattle.words.specs.declared.cause.Status.TheVariants.{Running, Exited, Stopped}
use Rattle.words.specs.declared.entry.Entry.{Entry}
use Rattle.words.specs.declared.entry.Entry.TheVariants.{Retire}
use Rattle.table.specs.declared.effect.Effect.{Effect}
use Rattle.table.specs.declared.effect.Act.{Act}
use Rattle.table.specs.declared.effect.Act.TheVariants as act
use Rattle.flat.specs.State.{Setting, Flat, FlatHart}
use Rattle.flat.specs.Causes.{next_of, depth_of}
use Rattle.flat.specs.Reservations.{Reservations, reserved_after}
use Rattle.flat.proofs.Maps.{one_number}
use Rattle.isolation.specs.Moves.{is_local, IsLocal, IsFirstLocal, Place, Leads, LeadsInOrder, depths, reserved_behind}
use Rattle.isolation.specs.Walks.{IsEnded, Walks, WalksInOrder}
use Rattle.isolation.proofs.Walked.{move_setting, walk_setting}
use Rattle.isolation.proofs.Lowest.{lowest_below}
use Rattle.isolation.proofs.LocalWords.{IsAtLocal, advanced, went, local_retires, local_leaves, local_first}

-- Who is at such a word

act_local : (a : Act) → is_local a ≡ true → a ≡ act.Nothing
act_local act.Nothing e = refl
act_local a e = cc

-- what it does
pub at_local : (f : Flat) (i : ℕ) → IsLocal f i → (next : ℕ) × (write : Option (ℕ × ℕ)) × IsAtLocal f i next write
at_local f i here = by (next_of f.setting (f.hart i)) refl here.word where
  by : (r : Result Effect Cause) → next_of f.setting (f.hart i) ≡ r → IsOkAnd r (λ e. is_local e.act ≡ true) → (next : ℕ) × (write : Option (ℕ × ℕ)) × IsAtLocal f i next write
  by (Ok e) is k = (e.next, e.write, record { running = here.running; word = is ∙ (λ p. Ok (record e { act = act_local e.act k p })) })
  by (Err c) is k = absurd k

runs_or_not : (s : Status) → (s ≡ Running) ⊎ (s ≡ Running → ⊥)
runs_or_not Running = inl refl
runs_or_not (Exited v) = inr (λ e. cc)
runs_or_not (Stopped c p) = inr (λ e. cc)

true_or_not : (b : Bool) → (b ≡ true) ⊎ (b ≡ true → ⊥)
true_or_not true = inl refl
true_or_not false = inr (λ e. cc)

word_or_not : (r : Result Effect Cause) → IsOkAnd r (λ e. is_local e.act ≡ true) ⊎ (IsOkAnd r (λ e. is_local e.act ≡ true) → ⊥)
word_or_not (Ok e) = true_or_not (is_local e.act)
word_or_not (Err c) = inr (λ k. k)

-- whether a hart is
local_or_not : (f : Flat) (i : ℕ) → IsLocal f i ⊎ (IsLocal f i → ⊥)
local_or_not f i = elim (cases_lt i f.setting.count) [
  | inl lt ↦ elim (runs_or_not (f.hart i).status) [
    | inl runs ↦ elim (word_or_not (next_of f.setting (f.hart i))) [
      | inl word ↦ inl (record { running = record { hart = lt; runs = runs }; word = word })
      | inr other ↦ inr (λ k. other k.word)
    ]
    | inr stopped ↦ inr (λ k. stopped k.running.runs)
  ]
  | inr beyond ↦ inr (λ k. let lt = k.running.hart in omega (arith, lt, beyond))
]

-- the lowest of them, if there is one
first_local : (f : Flat) → ((i : ℕ) × IsFirstLocal f i) ⊎ ((i : ℕ) → IsFirstLocal f i → ⊥)
first_local f = elim (lowest_below (IsLocal f) (local_or_not f) f.setting.count) [
  | inl found ↦ inl (
    found.0,
    record {
      here = found.1.here;
      lowest = λ k at. elim (cases_lt k found.0) [ inl less ↦ absurd (found.1.below k less at) | inr more ↦ more ];
    },
  )
  | inr none ↦ inr (λ i first. none i first.here.running.hart first.here)
]

-- It goes first

-- the harts are as deep as before, so a move leaves the same reservations
same_depths : (f : Flat) (i next : ℕ) (write : Option (ℕ × ℕ)) (j : ℕ) → depths (went f i next write) j ≡ depths f j
same_depths f i next write j = by (j == i) refl where
  by : (b : Bool) → (j == i) ≡ b → depth_of (cond b (advanced (f.hart i) next write) (f.hart j)).tx ≡ depth_of (f.hart j).tx
  by true e = ap (λ n. depth_of (f.hart n).tx) (sym (one_number j i e))
  by false e = refl

abbrev behind_by : (ℕ → ℕ) → Reservations → List Entry → Reservations
behind_by d r [] = r
behind_by d r (e ∷ es) = behind_by d (reserved_after d e r) es

behind_is : (f : Flat) (r : Reservations) (es : List Entry) → reserved_behind f r es ≡ behind_by (depths f) r es
behind_is f r [] = refl
behind_is f r (e ∷ es) = behind_is f (reserved_after (depths f) e r) es

same_behind : (f g : Flat) (r : Reservations) (es : List Entry) → ((j : ℕ) → depths g j ≡ depths f j) → reserved_behind g r es ≡ reserved_behind f r es
same_behind f g r es same = behind_is g r es ∙ ((λ p. behind_by (λ j. same j p) r es) ∙ sym (behind_is f r es))

-- a place where hart i has retired its word
abbrev pub went_on : Place → ℕ → ℕ → Option (ℕ × ℕ) → Place
went_on p i next write = record { flat = went p.flat i next write; reserved = p.reserved }

-- the walk that is left, where its hart stops
goes_first : (p q : Place) (i next : ℕ) (write : Option (ℕ × ℕ)) (ess : List (List Entry)) → IsAtLocal p.flat i next write → (q.flat.hart i).status ≢ Running → Walks p ess q
    → (rest : List (List Entry)) × (length ess ≡ length rest + 1) × Walks (went_on p i next write) rest q
goes_first p q i next write [] here stopped k = absurd (stopped (ap (λ (m : Place). (m.flat.hart i).status) k ∙ here.running.runs))
goes_first p q i next write (es ∷ rest) here stopped k = elim (local_first p.flat i next write here k.0.flat es k.1.moves) [
  | inl own ↦
      let is : k.0 ≡ went_on p i next write = λ m. record { flat = own.0 m; reserved = (k.1.reserved ∙ own.1 p.reserved) m } in
      (rest, omega arith, subst (λ z. Walks z rest q) is k.2)
  | inr later ↦
      let setting = move_setting p.flat k.0.flat es k.1.moves in
      let there : IsAtLocal k.0.flat i next write = record {
        running = record {
          hart = subst (λ (s : Setting). i < s.count) (sym setting) here.running.hart;
          runs = ap (λ (h : FlatHart). h.status) later.1 ∙ here.running.runs;
        };
        word = (λ m. next_of (setting m) (later.1 m)) ∙ here.word;
      } in
      let r = goes_first k.0 q i next write rest there stopped k.2 in
      let lead : Leads (went_on p i next write) es (went_on k.0 i next write) = record {
        moves = later.0;
        reason = k.1.reason;
        reserved = k.1.reserved ∙ sym (same_behind p.flat (went p.flat i next write) p.reserved es (same_depths p.flat i next write));
      } in
      (es ∷ r.0, omega (arith, r.1), (went_on k.0 i next write, lead, r.2))
]

-- its move is in order
first_moves : (p : Place) (i next : ℕ) (write : Option (ℕ × ℕ)) → IsFirstLocal p.flat i → IsAtLocal p.flat i next write → (e : Entry) × LeadsInOrder p (e ∷ []) (went_on p i next write)
first_moves p i next write first here =
    let r = local_retires p.flat i next write here in
    let entry = Retire i (p.flat.hart i).pc r.0 write None None in (
      entry,
      record {
        moves = record {
          moves = r.1;
          ordered = λ k other.
              let low = first.lowest k other.here in
              let high = other.lowest i first.here in
              (entry, refl, omega (arith, low, high));
        };
        reason = tt;
        reserved = sym (local_leaves p.flat i next write here (p.flat.hart i).pc r.0 r.1 p.reserved);
      },
    )

-- All in order

-- a walk of at most so many moves
ordered_walk : (n : ℕ) (p q : Place) (ess : List (List Entry)) → length ess ≤ n → Walks p ess q → IsEnded q.flat → (fss : List (List Entry)) × WalksInOrder p fss q
ordered_walk n p q [] few k ended = ([], k)
ordered_walk zero p q (es ∷ rest) few k ended = absurd (omega (arith, few))
ordered_walk (suc n) p q (es ∷ rest) few k ended = elim (first_local p.flat) [
  | inl first ↦
      let i = first.0 in
      let at = at_local p.flat i first.1.here in
      let stops : (q.flat.hart i).status ≢ Running = ended i (subst (λ (s : Setting). i < s.count) (sym (walk_setting p q (es ∷ rest) k)) at.2.running.hart) in
      let r = goes_first p q i at.0 at.1 (es ∷ rest) at.2 stops k in
      let m = first_moves p i at.0 at.1 first.1 at.2 in
      let w = ordered_walk n (went_on p i at.0 at.1) q r.0 (omega (arith, few, r.1)) r.2 ended in
      ((m.0 ∷ []) ∷ w.0, (went_on p i at.0 at.1, m.1, w.1))
  | inr none ↦
      let w = ordered_walk n k.0 q rest (omega (arith, few)) k.2 ended in
      (es ∷ w.0, (k.0, record { moves = record { moves = k.1.moves; ordered = λ i first. absurd (none i first) }; reason = k.1.reason; reserved = k.1.reserved }, w.1))
]

-- each end of a walk is the end of a walk in order
pub in_order : (p q : Place) (ess : List (List Entry)) → Walks p ess q → IsEnded q.flat → (fss : List (List Entry)) × WalksInOrder p fss q
in_order p q ess k ended = ordered_walk (length ess) p q ess (omega arith) k ended
