-- A transaction's entries may come after those of the others.
use Rattle.std.proofs.Common.{◌≡◌, ◌≢◌, ℕ, Bool, true, false, cond, List, [], ◌∷◌, ◌++◌, refl, sym, ◌∙◌, subst}
use Rattle.std.specs.Prelude.{◌==◌, not, IsSome}
use Rattle.words.specs.declared.entry.Entry.{Entry}
use Rattle.flat.specs.State.{Setting, Flat, FlatHart}
use Rattle.flat.specs.Start.{first_state}
use Rattle.flat.specs.Steps.{Carries, IsRun, hart_of}
use Rattle.flat.specs.Attempts.{StaysInside, IsAttempt, own_of, others_of}
use Rattle.flat.proofs.Maps.{one_number, two_numbers}
use Rattle.flat.proofs.Entries.{others_stay}
use Rattle.flat.proofs.Separate.{IsSeparate, stays_separate, run_separate}
use Rattle.flat.proofs.Swapped.{swapped}

-- an entry in a transaction comes past the others' entries that follow it
past_others : (i : ℕ) (e : Entry) → hart_of e ≡ i → (es ws : List Entry) (f h g : Flat) → IsSeparate f → Carries f e h → IsSome (h.hart i).tx → IsRun h (others_of i es ++ ws) g
    → IsRun f (others_of i es ++ e ∷ ws) g
past_others i e own [] ws f h g sep k inside run = (h, k, run)
past_others i e own (d ∷ es) ws f h g sep k inside run = by (hart_of d == i) refl (λ (m : Flat) (n : Flat) a b c r. past_others i e own es ws m n g a b c r) run where
  by : (t : Bool) → (hart_of d == i) ≡ t
      → ((m n : Flat) → IsSeparate m → Carries m e n → IsSome (n.hart i).tx → IsRun n (others_of i es ++ ws) g → IsRun m (others_of i es ++ e ∷ ws) g)
      → IsRun h (cond (not t) (d ∷ others_of i es) (others_of i es) ++ ws) g → IsRun f (cond (not t) (d ∷ others_of i es) (others_of i es) ++ e ∷ ws) g
  by true same on run = on f h sep k inside run
  by false other on run =
      let ne : hart_of d ≢ i = two_numbers (hart_of d) i other in
      let s = swapped f h run.0 e d sep k (subst (λ n. IsSome (h.hart n).tx) (sym own) inside) run.1 (λ z. ne (z ∙ own)) in
      let still : run.0.hart i ≡ h.hart i = others_stay h run.0 d run.1 i (λ z. ne (sym z)) in
      (s.0, s.1, on s.0 run.0 (stays_separate f s.0 d s.1 sep) s.2 (subst (λ (x : FlatHart). IsSome x.tx) (sym still) inside) run.2)

-- and so do all entries of the transaction
serial : (i : ℕ) (f g : Flat) (es : List Entry) → IsSeparate f → StaysInside i f es g → IsRun f (others_of i es ++ own_of i es) g
serial i f g [] sep k = k
serial i f g (e ∷ es) sep k = by (hart_of e == i) refl (serial i k.0 g es (stays_separate f k.0 e k.1 sep) k.3) where
  by : (t : Bool) → (hart_of e == i) ≡ t → IsRun k.0 (others_of i es ++ own_of i es) g
      → IsRun f (cond (not t) (e ∷ others_of i es) (others_of i es) ++ cond t (e ∷ own_of i es) (own_of i es)) g
  by true own rest = past_others i e (one_number (hart_of e) i own) es (own_of i es) f k.0 g sep k.1 k.2 rest
  by false other rest = (k.0, k.1, rest)

-- in each state of a run from the start
pub as_if_alone : (s : Setting) (entry : ℕ) (before : List Entry) (i : ℕ) (f g : Flat) (es : List Entry) → IsRun (first_state s entry) before f → IsAttempt i f es g → IsRun f (others_of i es ++ own_of i es) g
as_if_alone s entry before i f g es run a = serial i f g es (run_separate s entry before f run) a.inside
