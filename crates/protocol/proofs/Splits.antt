-- Runs of steps, put together and taken apart.
use Rattle.std.proofs.Common.{◌≡◌, List, [], ◌∷◌, ◌++◌, Option, Some, None, refl, sym, ap, ◌∙◌, subst}
use Rattle.std.specs.Prelude.{option_to_list}
use Rattle.words.specs.declared.entry.Entry.{Entry}
use Rattle.words.specs.declared.entry.Step.{Step}
use Rattle.protocol.specs.Caches.{Geometry}
use Rattle.protocol.specs.Machine.{Machine, Steps, Runs}

beside : (e : Option Entry) (es fs : List Entry) → (option_to_list e ++ es) ++ fs ≡ option_to_list e ++ (es ++ fs)
beside None es fs = refl
beside (Some e) es fs = refl

module _ (g : Geometry) where
  -- a run goes on by a second one
  pub runs_then : (u v w : Machine) (ss ts : List Step) (es fs : List Entry) → Runs g u ss es v → Runs g v ts fs w → Runs g u (ss ++ ts) (es ++ fs) w
  runs_then u v w [] ts es fs a b = subst (λ z. Runs g u ts (z ++ fs) w) (sym a.0) (subst (λ z. Runs g z ts fs w) a.1 b)
  runs_then u v w (s ∷ ss) ts es fs a b = (a.0, a.1, a.2 ++ fs, a.3, runs_then a.0 v w ss ts a.2 fs a.4 b, ap (λ z. z ++ fs) a.5 ∙ beside a.1 a.2 fs)

  -- a machine and two lists of entries, between two lists of steps
  abbrev pub Between : Machine → Machine → List Step → List Step → List Entry → Type 0
  Between v w first second es = (u : Machine) × (fs : List Entry) × (gs : List Entry) × Runs g v first fs u × Runs g u second gs w × (es ≡ fs ++ gs)

  -- a run of two lists of steps comes past such a machine
  pub runs_between : (v w : Machine) (first second : List Step) (es : List Entry) → Runs g v (first ++ second) es w → Between v w first second es
  runs_between v w [] second es r = (v, [], es, (refl, refl), r, refl)
  runs_between v w (s ∷ first) second es r =
      let b = runs_between r.0 w first second r.2 r.4 in
      (b.0, option_to_list r.1 ++ b.1, b.2, (r.0, r.1, b.1, r.3, b.3, refl), b.4, r.5 ∙ (ap (λ z. option_to_list r.1 ++ z) b.5 ∙ sym (beside r.1 b.1 b.2)))

  -- and a machine between two runs makes them one
  pub runs_joined : (v w : Machine) (first second : List Step) (es : List Entry) → Between v w first second es → Runs g v (first ++ second) es w
  runs_joined v w first second es b = subst (λ z. Runs g v (first ++ second) z w) (sym b.5) (runs_then v b.0 w first second b.1 b.2 b.3 b.4)

  -- the step of a run that gave an entry
  abbrev pub At : Machine → Machine → List Step → List Entry → Entry → List Entry → Type 0
  At v w steps before e after = (first : List Step) × (s : Step) × (second : List Step) × (u : Machine) × (x : Machine) × (steps ≡ first ++ s ∷ second) × Runs g v first before u × Steps g u s (Some e) x × Runs g x second after w

  -- a step more before it
  at_later : (v u w : Machine) (s : Step) (steps : List Step) (a : Option Entry) (before : List Entry) (e : Entry) (after : List Entry) → Steps g v s a u → At u w steps before e after → At v w (s ∷ steps) (option_to_list a ++ before) e after
  at_later v u w s steps a before e after step k = (s ∷ k.0, k.1, k.2, k.3, k.4, ap (λ z. s ∷ z) k.5, (u, a, before, step, k.6, refl), k.7, k.8)

  -- each entry of a run was given by one of its steps
  pub runs_at : (v w : Machine) (steps : List Step) (before : List Entry) (e : Entry) (after : List Entry) → Runs g v steps (before ++ e ∷ after) w → At v w steps before e after
  runs_at v w [] [] e after r = absurd (cc (r.0))
  runs_at v w [] (b ∷ before) e after r = absurd (cc (r.0))
  runs_at v w (s ∷ steps) before e after r = by_entry r.1 r.3 before r.5 (λ b k. runs_at r.0 w steps b e after (subst (λ z. Runs g r.0 steps z w) k r.4))
    where
      by_entry : (a : Option Entry) → Steps g v s a r.0 → (b : List Entry) → b ++ e ∷ after ≡ option_to_list a ++ r.2 → ((c : List Entry) → r.2 ≡ c ++ e ∷ after → At r.0 w steps c e after) → At v w (s ∷ steps) b e after
      by_entry None step b k more = at_later v r.0 w s steps None b e after step (more b (sym k))
      by_entry (Some a) step [] k more =
          let same : a ≡ e = cc in
          let rest : r.2 ≡ after = cc in
          ([], s, steps, v, r.0, refl, (refl, refl), subst (λ z. Steps g v s (Some z) r.0) same step, subst (λ z. Runs g r.0 steps z w) rest r.4)
      by_entry (Some a) step (c ∷ b) k more =
          let same : a ≡ c = cc in
          let rest : r.2 ≡ b ++ e ∷ after = cc in
          at_later v r.0 w s steps (Some c) b e after (subst (λ z. Steps g v s (Some z) r.0) same step) (more b rest)
