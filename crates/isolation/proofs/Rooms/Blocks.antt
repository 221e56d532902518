-- Lists of blocks: without one of them, and each but once.
use Rattle.std.proofs.Common.{◌≡◌, ◌≢◌, ◌⊎◌, ◌<◌, ◌≤◌, ℕ, zero, suc, Bool, true, false, List, [], ◌∷◌, length, refl, sym, ap, ◌∙◌, subst, inl, inr, arith}
use Rattle.std.specs.Prelude.{slice_index_or}
use Rattle.std.specs.List.{Contains, AllPairs}
use Rattle.std.proofs.lemmas.Bool.{cases_eq}
use Rattle.std.proofs.lemmas.List.Elements.{Contains-get_or}
use Rattle.std.proofs.lemmas.List.Kept.{AllPairs-cons}

-- a block stands at the head of a list, or behind it
pub at_head : (b : ℕ) (held : List ℕ) → Contains (b ∷ held) b
at_head b held = (0, omega arith, refl)

pub behind : (b c : ℕ) (held : List ℕ) → Contains held c → Contains (b ∷ held) c
behind b c held k = (suc k.0, omega (arith, k.1), k.2)

pub head_or_behind : (b c : ℕ) (held : List ℕ) → Contains (b ∷ held) c → (b ≡ c) ⊎ Contains held c
head_or_behind b c held k = by_place k.0 k.1 k.2
  where
    by_place : (n : ℕ) (lt : n < length (b ∷ held)) → slice_index_or (b ∷ held) n c ≡ c → (b ≡ c) ⊎ Contains held c
    by_place zero lt e = inl e
    by_place (suc n) lt e = inr (n, omega arith, e)

pub in_none : (c : ℕ) → Contains [] c → ⊥
in_none c k = omega (arith, k.1)

-- whether a block stands in a list
pub stands_or_not : (held : List ℕ) (c : ℕ) → Contains held c ⊎ (Contains held c → ⊥)
stands_or_not [] c = inr (in_none c)
stands_or_not (b ∷ held) c = go (cases_eq b c) (stands_or_not held c)
  where
    go : ((b ≡ c) ⊎ (b ≡ c → ⊥)) → (Contains held c ⊎ (Contains held c → ⊥)) → Contains (b ∷ held) c ⊎ (Contains (b ∷ held) c → ⊥)
    go (inl e) k = inl (subst (Contains (b ∷ held)) e (at_head b held))
    go (inr n) (inl k) = inl (behind b c held k)
    go (inr n) (inr m) = inr (λ k. neither (head_or_behind b c held k))
      where
        neither : ((b ≡ c) ⊎ Contains held c) → ⊥
        neither (inl e) = n e
        neither (inr k) = m k

-- a shorter list has all blocks of this one but b
abbrev pub Without : ℕ → List ℕ → Type 0
Without b held = (rest : List ℕ) × (length rest < length held) × ((c : ℕ) → c ≢ b → Contains held c → Contains rest c)

-- there is one, where b stands in it
pub without : (b : ℕ) (held : List ℕ) → Contains held b → Without b held
without b [] k = absurd (in_none b k)
without b (a ∷ held) k = go (head_or_behind a b held k) (λ w. without b held w)
  where
    go : ((a ≡ b) ⊎ Contains held b) → (Contains held b → Without b held) → Without b (a ∷ held)
    go (inl e) more = (held, omega arith, λ c n w. other c n (head_or_behind a c held w))
      where
        other : (c : ℕ) → c ≢ b → ((a ≡ c) ⊎ Contains held c) → Contains held c
        other c n (inl q) = absurd (n (sym q ∙ e))
        other c n (inr w) = w
    go (inr w) more = let r = more w in (a ∷ r.0, omega (arith, r.1), λ c n w. other c n (head_or_behind a c held w))
      where
        other : (c : ℕ) → c ≢ b → ((a ≡ c) ⊎ Contains held c) → Contains (a ∷ (more w).0) c
        other c n (inl q) = subst (Contains (a ∷ (more w).0)) q (at_head a (more w).0)
        other c n (inr y) = behind a c (more w).0 ((more w).2 c n y)

-- those of a list's blocks that pass a test, each once
pub record EachOnce (test : ℕ → Bool) (held : List ℕ) : Type 0 where
  pub kept : List ℕ
  pub once : AllPairs (λ c d. c ≢ d) kept
  pub short : length kept ≤ length held
  pub passes : (c : ℕ) → Contains kept c → test c ≡ true
  pub has : (c : ℕ) → Contains held c → test c ≡ true → Contains kept c

-- with one more block in front
module _ (test : ℕ → Bool) (b : ℕ) (held : List ℕ) (k : EachOnce test held) where
  left_out : ((c : ℕ) → b ≡ c → test c ≡ true → Contains k.kept c) → EachOnce test (b ∷ held)
  left_out same = record { kept = k.kept; once = k.once; short = let s = k.short in omega arith; passes = k.passes; has = λ c w e. by_place c e (head_or_behind b c held w) }
    where
      by_place : (c : ℕ) → test c ≡ true → ((b ≡ c) ⊎ Contains held c) → Contains k.kept c
      by_place c e (inl q) = same c q e
      by_place c e (inr w) = k.has c w e

  put_in : test b ≡ true → (Contains k.kept b → ⊥) → EachOnce test (b ∷ held)
  put_in y n = record {
    kept = b ∷ k.kept;
    once = AllPairs-cons (λ c d. c ≢ d) b k.kept (λ i d lt e. n (subst (Contains k.kept) (sym e) (Contains-get_or k.kept i d lt))) k.once;
    short = let s = k.short in omega arith;
    passes = λ c w. by_place c (head_or_behind b c k.kept w);
    has = λ c w e. by_other c e (head_or_behind b c held w);
  }
    where
      by_place : (c : ℕ) → ((b ≡ c) ⊎ Contains k.kept c) → test c ≡ true
      by_place c (inl q) = subst (λ z. test z ≡ true) q y
      by_place c (inr w) = k.passes c w

      by_other : (c : ℕ) → test c ≡ true → ((b ≡ c) ⊎ Contains held c) → Contains (b ∷ k.kept) c
      by_other c e (inl q) = subst (Contains (b ∷ k.kept)) q (at_head b k.kept)
      by_other c e (inr w) = behind b c k.kept (k.has c w e)

  one_more : (z : Bool) → test b ≡ z → EachOnce test (b ∷ held)
  one_more false y = left_out (λ c q e. let f : false ≡ true = sym y ∙ (ap test q ∙ e) in absurd (cc))
  one_more true y = by_kept (stands_or_not k.kept b)
    where
      by_kept : (Contains k.kept b ⊎ (Contains k.kept b → ⊥)) → EachOnce test (b ∷ held)
      by_kept (inl w) = left_out (λ c q e. subst (Contains k.kept) q w)
      by_kept (inr n) = put_in y n

-- of each list there are such
pub each_once : (test : ℕ → Bool) (held : List ℕ) → EachOnce test held
each_once test [] = record { kept = []; once = λ i j d a b. absurd (omega arith); short = omega arith; passes = λ c k. absurd (in_none c k); has = λ c k e. k }
each_once test (b ∷ held) = one_more test b held (each_once test held) (test b) refl
