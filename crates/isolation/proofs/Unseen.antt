-- What one hart claims no more of, the others do not see: their entries lead on as before.
use Rattle.std.proofs.Common.{◌≡◌, ◌≢◌, ℕ, Bool, true, false, cond, None, refl, sym, ap, ◌∙◌, subst}
use Rattle.std.specs.Prelude.{◌==◌}
use Rattle.words.specs.declared.entry.Entry.{Entry}
use Rattle.flat.specs.State.{Flat, FlatHart, has_read, has_written}
use Rattle.flat.specs.Steps.{Carries, hart_of}
use Rattle.flat.specs.Attempts.{with_hart}
use Rattle.flat.proofs.Maps.{one_number, two_numbers, put_elsewhere}
use Rattle.flat.proofs.Entries.{others_stay, setting_stays}
use Rattle.flat.proofs.Elsewhere.{LooksLike, as_in, carries_too}

-- of two harts the first has touched no more
pub record ClaimsNoMore (x y : FlatHart) : Type 0 where
  pub reads : (b : ℕ) → has_read y.tx b ≡ false → has_read x.tx b ≡ false
  pub writes : (b : ℕ) → has_written y.tx b ≡ false → has_written x.tx b ≡ false

-- who is in no transaction has touched nothing
pub claims_none : (x y : FlatHart) → x.tx ≡ None → ClaimsNoMore x y
claims_none x y e = record { reads = λ b k. ap (λ o. has_read o b) e; writes = λ b k. ap (λ o. has_written o b) e }

-- and who is in the same transaction the same
pub claims_same : (x y : FlatHart) → x.tx ≡ y.tx → ClaimsNoMore x y
claims_same x y e = record { reads = λ b k. ap (λ o. has_read o b) e ∙ k; writes = λ b k. ap (λ o. has_written o b) e ∙ k }

-- to another hart the state looks as before
looks : (f : Flat) (i k : ℕ) (x : FlatHart) → ClaimsNoMore x (f.hart i) → k ≢ i → LooksLike k f (with_hart f i x)
looks f i k x claims ne = record {
  setting = refl;
  mem = λ a. refl;
  hart = put_elsewhere i k x f.hart ne;
  reads = λ j b. at (λ h. has_read h.tx b ≡ false) (claims.reads b) j (j == i) refl;
  writes = λ j b. at (λ h. has_written h.tx b ≡ false) (claims.writes b) j (j == i) refl;
} where
  at : (P : FlatHart → Type 0) → (P (f.hart i) → P x) → (j : ℕ) → (t : Bool) → (j == i) ≡ t → P (f.hart j) → P (cond t x (f.hart j))
  at P new j true e old = new (subst (λ n. P (f.hart n)) (one_number j i e) old)
  at P new j false e old = old

-- to change hart i and the entry's hart is to change hart i of the state after the entry
both_changed : (f g : Flat) (e : Entry) (i : ℕ) (x : FlatHart) → Carries f e g → hart_of e ≢ i → as_in (with_hart f i x) (hart_of e) g ≡ with_hart g i x
both_changed f g e i x k ne = λ p. record { setting = sym (setting_stays f g e k) p; mem = g.mem; hart = λ j. at j (j == hart_of e) refl (j == i) refl p } where
  at : (j : ℕ) → (t : Bool) → (j == hart_of e) ≡ t → (u : Bool) → (j == i) ≡ u → cond t (g.hart (hart_of e)) (cond u x (f.hart j)) ≡ cond u x (g.hart j)
  at j true c true d = absurd (ne (sym (one_number j (hart_of e) c) ∙ one_number j i d))
  at j true c false d = ap g.hart (sym (one_number j (hart_of e) c))
  at j false c true d = refl
  at j false c false d = sym (others_stay f g e k j (two_numbers j (hart_of e) c))

-- an entry of another hart carries on
pub other_entry : (f g : Flat) (e : Entry) (i : ℕ) (x : FlatHart) → ClaimsNoMore x (f.hart i) → Carries f e g → hart_of e ≢ i → Carries (with_hart f i x) e (with_hart g i x)
other_entry f g e i x claims k ne =
    subst (Carries (with_hart f i x) e) (both_changed f g e i x k ne) (carries_too f (with_hart f i x) g e (looks f i (hart_of e) x claims ne) k)
