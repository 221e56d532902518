-- All moves of a state: those that the search takes.
use Rattle.std.proofs.Common.{◌≡◌, ◌<◌, ◌+◌, inl, inr, ℕ, arith, false, Option, Some, None, List, [], ◌∷◌, ◌++◌, sym, subst, ◌∙◌}
use Rattle.std.specs.Prelude.{IfSome, IfNone, option_to_list}
use Rattle.std.specs.List.{Contains}
use Rattle.std.proofs.lemmas.List.Elements.{Contains-push_cases}
use Rattle.words.specs.declared.cause.AbortCause.TheVariants.{Conflict}
use Rattle.words.specs.declared.entry.Entry.{Entry}
use Rattle.words.specs.declared.entry.Entry.TheVariants.{Abort}
use Rattle.flat.specs.State.{Flat}
use Rattle.flat.specs.Steps.{hart_of}
use Rattle.isolation.specs.Moves.{Moves, MovesBy, MoveTogether, MovesInOrder, IsLocal, IsFirstLocal}
use Rattle.isolation.proofs.Walked.{by_move, moves_carry}
use Rattle.outcomes.specs.declared.change.Turn.{Turn}
use Rattle.outcomes.specs.Turns.{after, IsOwnMove, IsMove, IsMoveInOrder, Has, Adds}
use Rattle.outcomes.proofs.Owns.{own_moves, local_own, local_succeeds, mover_runs}
use Rattle.outcomes.proofs.Alone.{HasNone, own_there}
use Rattle.outcomes.proofs.Lists.{adds_then, has_still}
use Rattle.outcomes.proofs.Together.{below_or_at}

nowhere : (t : Turn) → Contains [] t → ⊥
nowhere t c = omega (arith, c.1)

module _ (image : List ℕ) (f : Flat) where
  -- the moves of harts below n are there, and no others
  abbrev pub Below : ℕ → List Turn → Type 0
  Below n turns =
      Adds image f [] turns
      × ((e : Entry) (g : Flat) → hart_of e < n → MovesBy f e g → Has image f turns (e ∷ []) g)
      × ((k j : ℕ) (g : Flat) → k < n → MoveTogether f k j g → Has image f turns (Abort k Conflict ∷ Abort j Conflict ∷ []) g)

  -- those of one hart more
  pub below_more : (n i : ℕ) (old mid new : List Turn) → i ≡ n → Below n old
      → Adds image f old mid → ((e : Entry) (g : Flat) → hart_of e ≡ i → MovesBy f e g → Has image f mid (e ∷ []) g)
      → Adds image f mid new → ((j : ℕ) (g : Flat) → MoveTogether f i j g → Has image f new (Abort i Conflict ∷ Abort j Conflict ∷ []) g)
      → Below (n + 1) new
  below_more n i old mid new at before one all two with_all = (
    adds_then image f [] mid new (adds_then image f [] old mid before.0 one) two,
    λ e g lt m. elim (below_or_at (hart_of e) n lt) [
      | inl lower ↦ has_still image f mid new (e ∷ []) g two (has_still image f old mid (e ∷ []) g one (before.1 e g lower m))
      | inr same ↦ has_still image f mid new (e ∷ []) g two (all e g (same ∙ sym at) m)
    ],
    λ k j g lt m. elim (below_or_at k n lt) [
      | inl lower ↦ has_still image f mid new (Abort k Conflict ∷ Abort j Conflict ∷ []) g two (has_still image f old mid (Abort k Conflict ∷ Abort j Conflict ∷ []) g one (before.2 k j g lower m))
      | inr same ↦
          let here : k ≡ i = same ∙ sym at in
          subst (λ k. Has image f new (Abort k Conflict ∷ Abort j Conflict ∷ []) g) (sym here) (with_all j g (subst (λ k. MoveTogether f k j g) here m))
    ],
  )

  pub all_moves : (n : ℕ) (turns : List Turn) → Below n turns → (t : Turn) → Contains turns t → IsMove image f t
  all_moves n turns below t c = elim (below.0.added t c) [ inl k ↦ absurd (nowhere t k) | inr m ↦ m ]

  pub all_there : (turns : List Turn) → Below f.setting.count turns → (es : List Entry) (g : Flat) → Moves f es g → Has image f turns es g
  all_there turns below es g m =
      by_move f g (λ es. Has image f turns es g)
      (λ e k. let runs = mover_runs f g e k in below.1 e g runs.hart k)
      (λ i j k. below.2 i j g k.first.running.hart k)
      es m

  -- where no word is one that nobody else sees, each move is one that the search takes
  pub in_order : (turns : List Turn) → ((k : ℕ) → IsLocal f k → ⊥) → ((t : Turn) → Contains turns t → IsMove image f t) → (t : Turn) → Contains turns t → IsMoveInOrder image f t
  in_order turns none all t c = let m = all t c in (m.0, record { moves = m.1; ordered = λ i first. absurd (none i first.here) })

  -- where one is, the lowest such hart's move alone
  module _ (i : ℕ) (first : IsFirstLocal f i) (o : Option Turn) (turns : List Turn) (is : turns ≡ [] ++ option_to_list o) where
    only_first : (j : ℕ) → IsFirstLocal f j → i ≡ j
    only_first j other = let a = first.lowest j other.here in let b = other.lowest i first.here in omega (arith, a, b)

    own_in_order : (t : Turn) → IsOwnMove image f i false t → IsMoveInOrder image f t
    own_in_order t w = (
      w.of,
      record {
        moves = subst (λ es. Moves f es (after image f t)) (sym w.shown) (own_moves f (after image f t) w.entry w.own w.carries);
        ordered = λ j other. (w.entry, w.shown, w.hart ∙ only_first j other);
      },
    )

    pub first_in_order : IfSome o (IsOwnMove image f i false) → (t : Turn) → Contains turns t → IsMoveInOrder image f t
    first_in_order some t c = by o some (subst (λ l. Contains l t) is c)
      where
        by : (o : Option Turn) → IfSome o (IsOwnMove image f i false) → Contains ([] ++ option_to_list o) t → IsMoveInOrder image f t
        by None some c = absurd (nowhere t c)
        by (Some x) some c = elim (Contains-push_cases [] x t c) [ inl k ↦ absurd (nowhere t k) | inr same ↦ own_in_order t (subst (IsOwnMove image f i false) same some) ]

    pub first_there : IfSome o (IsOwnMove image f i false) → IfNone o (HasNone image f i false)
        → (es : List Entry) (g : Flat) → MovesInOrder f es g → Has image f turns es g
    first_there some none es g m =
        let one = m.ordered i first in
        let e = one.0 in
        let M : MovesBy f e g = subst (λ es. Moves f es g) one.1 m.moves in
        let here : IsLocal f (hart_of e) = subst (IsLocal f) (sym one.2) first.here in
        subst (λ es. Has image f turns es g) (sym one.1)
        (own_there image f i false [] turns o is some none e g (local_own f g e here M) (local_succeeds f e here) one.2 (moves_carry f g e M))
