-- The aborts of a hart together with the harts above it, one after another.
use Rattle.std.proofs.Common.{◌≡◌, ◌<◌, ◌+◌, ◌⊎◌, inl, inr, ℕ, arith, true, false, Option, Some, None, List, [], ◌∷◌, ◌++◌, refl, sym, ap, subst, ◌∙◌}
use Rattle.std.proofs.lemmas.Bool.Decides.{nat_tests}
use Rattle.std.specs.Prelude.{nat_lt, IfSome, IfNone, option_to_list}
use Rattle.words.specs.declared.cause.AbortCause.TheVariants.{Conflict}
use Rattle.words.specs.declared.entry.Entry.{Entry}
use Rattle.words.specs.declared.entry.Entry.TheVariants.{Abort}
use Rattle.flat.specs.State.{Flat}
use Rattle.flat.proofs.Determined.{one_last}
use Rattle.isolation.specs.Moves.{Moves, MoveTogether}
use Rattle.isolation.proofs.Walked.{move_runs}
use Rattle.outcomes.specs.declared.change.Turn.{Turn}
use Rattle.outcomes.specs.Turns.{entries_of, after, IsOf, IsMove, Has, Adds}
use Rattle.outcomes.proofs.Lists.{adds_some, adds_then, has_still, has_added, if_some_so, if_none_so}

-- below one more is below, or there
pub below_or_at : (k n : ℕ) → k < n + 1 → (k < n) ⊎ (k ≡ n)
below_or_at k n h = elim (nat_lt k n) as (λ b. nat_lt k n ≡ b → (k < n) ⊎ (k ≡ n)) [ true ↦ (λ e. inl (grind (arith, nat_tests))) | false ↦ (λ e. inr (grind (arith, nat_tests))) ] refl

module _ (image : List ℕ) (f : Flat) (i : ℕ) where
  abbrev pub pair : ℕ → List Entry
  pair k = Abort i Conflict ∷ Abort k Conflict ∷ []

  -- those with the harts below j are there, and one more is added
  pub pair_more : (start old new : List Turn) (j n : ℕ) (o : Option Turn) → new ≡ old ++ option_to_list o → j ≡ n
      → Adds image f start old × ((k : ℕ) (g : Flat) → k < n → MoveTogether f i k g → Has image f old (pair k) g)
      → IfSome o (λ t. IsOf f.setting.count t × (entries_of t ≡ pair j) × MoveTogether f i j (after image f t)) → IfNone o ((g : Flat) → MoveTogether f i j g → ⊥)
      → Adds image f start new × ((k : ℕ) (g : Flat) → k < n + 1 → MoveTogether f i k g → Has image f new (pair k) g)
  pair_more start old new j n o is at before some none =
      let A : Adds image f old new = adds_some image f old new o is (if_some_so o _ (IsMove image f) (λ t w. (w.0, subst (λ es. Moves f es (after image f t)) (sym w.1) w.2)) some) in (
        adds_then image f start old new before.0 A,
        λ k g lt m. elim (below_or_at k n lt) [
          | inl lower ↦ has_still image f old new (pair k) g A (before.1 k g lower m)
          | inr same ↦
              let here : k ≡ j = same ∙ sym at in
              let M : MoveTogether f i j g = subst (λ k. MoveTogether f i k g) here m in
              subst (λ k. Has image f new (pair k) g) (sym here)
              (has_added image f old new o (pair j) g is
              (if_some_so o _ (λ t. (entries_of t ≡ pair j) × (after image f t ≡ g)) (λ t w.
              (w.1, one_last f (after image f t) g (pair j) (move_runs f (after image f t) (pair j) w.2) (move_runs f g (pair j) M))) some)
              (if_none_so o _ ⊥ (λ n. n g M) none))
        ],
      )
