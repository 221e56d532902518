-- The moves of one hart alone: those of its own word, the abort for a full log, the abort for a conflict.
use Rattle.std.proofs.Common.{◌≡◌, ℕ, Bool, true, false, Option, List, [], ◌∷◌, ◌++◌, refl, sym, ap, subst, ◌∙◌}
use Rattle.std.specs.Prelude.{IfSome, IfNone, option_to_list}
use Rattle.words.specs.declared.cause.AbortCause.TheVariants.{LogFull, Conflict}
use Rattle.words.specs.declared.entry.Entry.{Entry}
use Rattle.words.specs.declared.entry.Entry.TheVariants.{Abort}
use Rattle.flat.specs.State.{Flat}
use Rattle.flat.specs.Steps.{Carries, hart_of}
use Rattle.flat.proofs.Determined.{one_next}
use Rattle.isolation.specs.Moves.{Moves, MovesBy}
use Rattle.isolation.proofs.Walked.{moves_carry}
use Rattle.outcomes.specs.declared.change.Turn.{Turn}
use Rattle.outcomes.specs.Turns.{entries_of, after, IsOf, IsOwn, IsOwnMove, is_failure, IsMove, Has, Adds}
use Rattle.outcomes.proofs.Owns.{one_own, own_moves, by_kind}
use Rattle.outcomes.proofs.Lists.{adds_some, adds_then, has_still, has_added, if_some_so, if_none_so}

module _ (image : List ℕ) (f : Flat) (i : ℕ) where
  -- what gives one entry, which moves, is a move
  one_is_move : (t : Turn) (e : Entry) → IsOf f.setting.count t → entries_of t ≡ e ∷ [] → MovesBy f e (after image f t) → IsMove image f t
  one_is_move t e of shown m = (of, subst (λ es. Moves f es (after image f t)) (sym shown) m)

  own_is_move : (failed : Bool) (t : Turn) → IsOwnMove image f i failed t → IsMove image f t
  own_is_move failed t o = one_is_move t o.entry o.of o.shown (own_moves f (after image f t) o.entry o.own o.carries)

  -- hart i has no move of its own word that fails, or none that doesn't
  abbrev pub HasNone : Bool → Type 0
  HasNone failed = (e : Entry) (g : Flat) → IsOwn e → is_failure f e ≡ failed → hart_of e ≡ i → Carries f e g → ⊥

  -- where such a move is pushed if there is one, it is there
  pub own_there : (failed : Bool) (olds news : List Turn) (o : Option Turn) → news ≡ olds ++ option_to_list o → IfSome o (IsOwnMove image f i failed) → IfNone o (HasNone failed)
      → (e : Entry) (g : Flat) → IsOwn e → is_failure f e ≡ failed → hart_of e ≡ i → Carries f e g → Has image f news (e ∷ []) g
  own_there failed olds news o pushed some none e g own tells at k =
      has_added image f olds news o (e ∷ []) g pushed
      (if_some_so o (IsOwnMove image f i failed) (λ t. (entries_of t ≡ e ∷ []) × (after image f t ≡ g)) (λ t w.
      let same : w.entry ≡ e = one_own f (after image f t) g w.entry e i failed w.own own w.tells tells w.hart at w.carries k in
      (w.shown ∙ ap (λ x. x ∷ []) same, one_next f (after image f t) g e (subst (λ x. Carries f x (after image f t)) same w.carries) k)) some)
      (if_none_so o (HasNone failed) ⊥ (λ n. n e g own tells at k) none)

  module _ (old one two three new : List Turn) (o u p q : Option Turn)
      (first : one ≡ old ++ option_to_list o) (second : two ≡ one ++ option_to_list u) (third : three ≡ two ++ option_to_list p) (fourth : new ≡ three ++ option_to_list q)
      (own : IfSome o (IsOwnMove image f i false))
      (fails : IfSome u (IsOwnMove image f i true))
      (full : IfSome p (λ t. IsOf f.setting.count t × (entries_of t ≡ Abort i LogFull ∷ []) × MovesBy f (Abort i LogFull) (after image f t)))
      (way : IfSome q (λ t. IsOf f.setting.count t × (entries_of t ≡ Abort i Conflict ∷ []) × MovesBy f (Abort i Conflict) (after image f t))) where
    A : Adds image f old one
    A = adds_some image f old one o first (if_some_so o (IsOwnMove image f i false) (IsMove image f) (own_is_move false) own)

    B : Adds image f one two
    B = adds_some image f one two u second (if_some_so u (IsOwnMove image f i true) (IsMove image f) (own_is_move true) fails)

    C : Adds image f two three
    C = adds_some image f two three p third (if_some_so p _ (IsMove image f) (λ t k. one_is_move t (Abort i LogFull) k.0 k.1 k.2) full)

    D : Adds image f three new
    D = adds_some image f three new q fourth (if_some_so q _ (IsMove image f) (λ t k. one_is_move t (Abort i Conflict) k.0 k.1 k.2) way)

    E : Adds image f two new
    E = adds_then image f two three new C D

    pub adds_four : Adds image f old new
    adds_four = adds_then image f old two new (adds_then image f old one two A B) E

    module _ (no_own : IfNone o (HasNone false)) (no_failure : IfNone u (HasNone true))
        (no_full : IfNone p ((g : Flat) → MovesBy f (Abort i LogFull) g → ⊥))
        (no_way : IfNone q ((g : Flat) → MovesBy f (Abort i Conflict) g → ⊥)) where
      -- one of the two aborts
      abort_there : (olds news : List Turn) (r : Option Turn) (e : Entry) (g : Flat) → news ≡ olds ++ option_to_list r
          → IfSome r (λ t. IsOf f.setting.count t × (entries_of t ≡ e ∷ []) × MovesBy f e (after image f t)) → IfNone r ((g : Flat) → MovesBy f e g → ⊥) → MovesBy f e g → Has image f news (e ∷ []) g
      abort_there olds news r e g is some none m =
          has_added image f olds news r (e ∷ []) g is
          (if_some_so r _ (λ t. (entries_of t ≡ e ∷ []) × (after image f t ≡ g)) (λ t k. (k.1, one_next f (after image f t) g e (moves_carry f (after image f t) e k.2) (moves_carry f g e m))) some)
          (if_none_so r _ ⊥ (λ n. n g m) none)

      -- a move of its own word, which fails or doesn't
      word_there : (e : Entry) (g : Flat) (failed : Bool) → IsOwn e → is_failure f e ≡ failed → hart_of e ≡ i → Carries f e g → Has image f new (e ∷ []) g
      word_there e g false is tells at k = has_still image f two new (e ∷ []) g E (has_still image f one two (e ∷ []) g B (own_there false old one o first own no_own e g is tells at k))
      word_there e g true is tells at k = has_still image f two new (e ∷ []) g E (own_there true one two u second fails no_failure e g is tells at k)

      pub has_four : (e : Entry) (g : Flat) → hart_of e ≡ i → MovesBy f e g → Has image f new (e ∷ []) g
      has_four e g at m =
          by_kind f g (λ e. hart_of e ≡ i → Has image f new (e ∷ []) g)
          (λ e is k at. word_there e g (is_failure f e) is refl at k)
          (λ j m at.
          let K = subst (λ n. MovesBy f (Abort n LogFull) g) at m in
          subst (λ n. Has image f new (Abort n LogFull ∷ []) g) (sym at) (has_still image f three new (Abort i LogFull ∷ []) g D (abort_there two three p (Abort i LogFull) g third full no_full K)))
          (λ j m at.
          let K = subst (λ n. MovesBy f (Abort n Conflict) g) at m in
          subst (λ n. Has image f new (Abort n Conflict ∷ []) g) (sym at) (abort_there three new q (Abort i Conflict) g fourth way no_way K))
          e m at
