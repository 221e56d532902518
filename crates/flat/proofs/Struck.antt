-- Of a transaction that was rolled back nothing is left: the other harts' entries are a run without it.
use Rattle.std.proofs.Common.{◌≡◌, ◌≢◌, ℕ, Bool, true, false, cond, None, List, [], ◌∷◌, refl, sym, ap, ◌∙◌, subst}
use Rattle.std.specs.Prelude.{◌==◌, not, IsSome}
use Rattle.words.specs.declared.entry.Entry.{Entry}
use Rattle.words.specs.declared.entry.Entry.TheVariants.{Abort}
use Rattle.words.specs.declared.cause.AbortCause.{AbortCause}
use Rattle.flat.specs.State.{Flat, FlatHart, has_read, has_written}
use Rattle.flat.specs.Steps.{Carries, IsRun, hart_of}
use Rattle.flat.specs.Attempts.{StaysInside, IsAttempt, others_of, with_hart}
use Rattle.flat.proofs.Maps.{one_number, two_numbers, put_elsewhere, put_again}
use Rattle.flat.proofs.Entries.{aborted_by, others_stay, setting_stays}
use Rattle.flat.proofs.Alone.{entry_leaves}
use Rattle.flat.proofs.Elsewhere.{LooksLike, as_in, carries_too}

-- two states that differ in one hart alone
only_hart : (f g : Flat) (i : ℕ) (x : FlatHart) → g.setting ≡ f.setting → ((a : ℕ) → g.mem a ≡ f.mem a) → ((j : ℕ) → j ≢ i → g.hart j ≡ f.hart j) → with_hart g i x ≡ with_hart f i x
only_hart f g i x setting mem others = λ p. record { setting = setting p; mem = λ a. mem a p; hart = λ j. at j (j == i) refl p } where
  at : (j : ℕ) → (t : Bool) → (j == i) ≡ t → cond t x (g.hart j) ≡ cond t x (f.hart j)
  at j true e = refl
  at j false e = others j (two_numbers j i e)

-- an entry of hart i after which it is in a transaction changes hart i alone
own_entry : (f g : Flat) (e : Entry) (i : ℕ) (x : FlatHart) → Carries f e g → hart_of e ≡ i → IsSome (g.hart i).tx → with_hart g i x ≡ with_hart f i x
own_entry f g e i x k own inside =
    only_hart f g i x (setting_stays f g e k)
    (entry_leaves f g e k (subst (λ j. IsSome (g.hart j).tx) (sym own) inside))
    (λ j ne. others_stay f g e k j (λ z. ne (z ∙ own)))

-- to another hart a state looks the same without hart i's transaction
without : (f : Flat) (i k : ℕ) (x : FlatHart) → x.tx ≡ None → k ≢ i → LooksLike k f (with_hart f i x)
without f i k x none ne = record {
  setting = refl;
  mem = λ a. refl;
  hart = put_elsewhere i k x f.hart ne;
  reads = λ j b. at (λ h. has_read h.tx b ≡ false) (ap (λ o. has_read o b) none) j (j == i) refl;
  writes = λ j b. at (λ h. has_written h.tx b ≡ false) (ap (λ o. has_written o b) none) j (j == i) refl;
} where
  at : (P : FlatHart → Type 0) → P x → (j : ℕ) → (t : Bool) → (j == i) ≡ t → P (f.hart j) → P (cond t x (f.hart j))
  at P new j true e old = new
  at P new j false e old = old

-- to change hart i and the entry's hart is to change hart i of the state after the entry
both_changed : (f g : Flat) (e : Entry) (i : ℕ) (x : FlatHart) → Carries f e g → hart_of e ≢ i → as_in (with_hart f i x) (hart_of e) g ≡ with_hart g i x
both_changed f g e i x k ne = λ p. record { setting = sym (setting_stays f g e k) p; mem = g.mem; hart = λ j. at j (j == hart_of e) refl (j == i) refl p } where
  at : (j : ℕ) → (t : Bool) → (j == hart_of e) ≡ t → (u : Bool) → (j == i) ≡ u → cond t (g.hart (hart_of e)) (cond u x (f.hart j)) ≡ cond u x (g.hart j)
  at j true c true d = absurd (ne (sym (one_number j (hart_of e) c) ∙ one_number j i d))
  at j true c false d = ap g.hart (sym (one_number j (hart_of e) c))
  at j false c true d = refl
  at j false c false d = sym (others_stay f g e k j (two_numbers j (hart_of e) c))

-- an entry of another hart doesn't need hart i's transaction
other_entry : (f g : Flat) (e : Entry) (i : ℕ) (x : FlatHart) → x.tx ≡ None → Carries f e g → hart_of e ≢ i → Carries (with_hart f i x) e (with_hart g i x)
other_entry f g e i x none k ne =
    subst (Carries (with_hart f i x) e) (both_changed f g e i x k ne) (carries_too f (with_hart f i x) g e (without f i (hart_of e) x none ne) k)

-- strike hart i's entries, and put a hart outside transactions in its place
struck : (i : ℕ) (x : FlatHart) → x.tx ≡ None → (f g : Flat) (es : List Entry) → StaysInside i f es g → IsRun (with_hart f i x) (others_of i es) (with_hart g i x)
struck i x none f g [] k = ap (λ m. with_hart m i x) k
struck i x none f g (e ∷ es) k = by (hart_of e == i) refl (struck i x none k.0 g es k.3) where
  by : (t : Bool) → (hart_of e == i) ≡ t → IsRun (with_hart k.0 i x) (others_of i es) (with_hart g i x)
      → IsRun (with_hart f i x) (cond (not t) (e ∷ others_of i es) (others_of i es)) (with_hart g i x)
  by true own rest = subst (λ m. IsRun m (others_of i es) (with_hart g i x)) (own_entry f k.0 e i x k.1 (one_number (hart_of e) i own) k.2) rest
  by false other rest = (with_hart k.0 i x, other_entry f k.0 e i x none k.1 (two_numbers (hart_of e) i other), rest)

-- an abort changes its hart alone
abort_entry : (f g : Flat) (i : ℕ) (c : AbortCause) (x : FlatHart) → Carries f (Abort i c) g → with_hart g i x ≡ with_hart f i x
abort_entry f g i c x k =
    let r = aborted_by f g i c k in
    only_hart f g i x (setting_stays f g (Abort i c) k) (λ a. ap (λ (m : Flat). m.mem a) r.2.after) (others_stay f g (Abort i c) k)

-- the run without the transaction
pub nothing_left : (i : ℕ) (f g h : Flat) (es : List Entry) (c : AbortCause) → IsAttempt i f es g → Carries g (Abort i c) h → IsRun f (others_of i es) (with_hart h i (f.hart i))
nothing_left i f g h es c a k =
    let start : with_hart f i (f.hart i) ≡ f = λ p. record f { hart = λ j. put_again i j f.hart p } in
    let run = struck i (f.hart i) a.before f g es a.inside in
    subst (λ m. IsRun m (others_of i es) (with_hart h i (f.hart i))) start
    (subst (IsRun (with_hart f i (f.hart i)) (others_of i es)) (sym (abort_entry g h i c (f.hart i) k)) run)

-- and memory, where no other hart's entry stands between
pub nothing_done : (i a : ℕ) (f g h : Flat) (es : List Entry) (c : AbortCause) → IsAttempt i f es g → Carries g (Abort i c) h → others_of i es ≡ [] → h.mem a ≡ f.mem a
nothing_done i a f g h es c t k none =
    let same : with_hart h i (f.hart i) ≡ f = subst (λ xs. IsRun f xs (with_hart h i (f.hart i))) none (nothing_left i f g h es c t k) in
    ap (λ (m : Flat). m.mem a) same
