-- Moves in a list, and moves added to one.
use Rattle.std.proofs.Common.{◌≡◌, ◌⊎◌, inl, inr, ℕ, Option, Some, None, List, [], ◌∷◌, ◌++◌, refl, sym, ap, subst, ◌∙◌}
use Rattle.std.specs.Prelude.{IfSome, IfNone, option_to_list}
use Rattle.std.specs.List.{Contains}
use Rattle.std.proofs.lemmas.List.Elements.{Contains-append_left, Contains-push, Contains-push_cases}
use Rattle.words.specs.declared.entry.Entry.{Entry}
use Rattle.flat.specs.State.{Flat}
use Rattle.outcomes.specs.declared.change.Turn.{Turn}
use Rattle.outcomes.specs.Turns.{entries_of, after, IsMove, Has, Adds}

append_none : (xs : List Turn) → xs ++ [] ≡ xs
append_none [] = refl
append_none (x ∷ xs) = ap (λ l. x ∷ l) (append_none xs)

module _ (image : List ℕ) (f : Flat) where
  -- nothing is added
  pub adds_none : (ts : List Turn) → Adds image f ts ts
  adds_none ts = record { kept = λ t c. c; added = λ t c. inl c }

  -- one move, if there is one
  pub adds_some : (old new : List Turn) (o : Option Turn) → new ≡ old ++ option_to_list o → IfSome o (IsMove image f) → Adds image f old new
  adds_some old new None e m = subst (Adds image f old) (sym (e ∙ append_none old)) (adds_none old)
  adds_some old new (Some t) e m = subst (Adds image f old) (sym e) (record {
    kept = λ x c. Contains-append_left old (t ∷ []) x c;
    added = λ x c. elim (Contains-push_cases old t x c) [ inl k ↦ inl k | inr same ↦ inr (subst (IsMove image f) same m) ];
  })

  -- and then more
  pub adds_then : (old mid new : List Turn) → Adds image f old mid → Adds image f mid new → Adds image f old new
  adds_then old mid new a b = record {
    kept = λ t c. b.kept t (a.kept t c);
    added = λ t c. elim (b.added t c) [ inl k ↦ a.added t k | inr m ↦ inr m ];
  }

  -- what is there stays there
  pub has_still : (old new : List Turn) (es : List Entry) (g : Flat) → Adds image f old new → Has image f old es g → Has image f new es g
  has_still old new es g a h = record { turn = h.turn; among = a.kept h.turn h.among; shown = h.shown; leads = h.leads }

  -- what is added is there
  pub has_added : (old new : List Turn) (o : Option Turn) (es : List Entry) (g : Flat) → new ≡ old ++ option_to_list o
      → IfSome o (λ t. (entries_of t ≡ es) × (after image f t ≡ g)) → IfNone o ⊥ → Has image f new es g
  has_added old new None es g e some none = absurd none
  has_added old new (Some t) es g e some none = record { turn = t; among = subst (λ l. Contains l t) (sym e) (Contains-push old t); shown = some.0; leads = some.1 }

pub if_some_so : {A : Type 0} (o : Option A) (P Q : A → Type 0) → ((x : A) → P x → Q x) → IfSome o P → IfSome o Q
if_some_so (Some x) P Q f p = f x p
if_some_so None P Q f p = tt

pub if_none_so : {A : Type 0} (o : Option A) (P Q : Type 0) → (P → Q) → IfNone o P → IfNone o Q
if_none_so (Some x) P Q f p = tt
if_none_so None P Q f p = f p
