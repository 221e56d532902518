-- Each message that comes to the directory keeps the invariant.
use Rattle.std.proofs.Common.{◌≡◌, ◌≢◌, ◌<◌, ◌⊎◌, ℕ, zero, suc, Bool, true, false, Option, None, Some, eqb, refl, sym, subst, ◌∙◌, inl, inr, arith}
use Rattle.std.proofs.lemmas.Bool.{ne_eqb, eq-eqb, eqb-true, cases_eq}
use Rattle.std.specs.Prelude.{◌||◌, ◌&&◌, ◌==◌, not}
use Rattle.words.specs.declared.stamp.Stamp.{Stamp}
use Rattle.words.specs.declared.message.Kind.{Kind}
use Rattle.words.specs.declared.message.LineState.{LineState}
use Rattle.protocol.specs.Messages.{Block}
use Rattle.protocol.specs.Directory.{Owner, Owned}
use Rattle.isolation.proofs.OneBlock.Model.State.{One, put_at}
use Rattle.isolation.proofs.OneBlock.Model.Directory.{Rights, Nothing, standing, must_tell, no_other, expected, tell, granted_now, on_get, put_owner, on_put, owner_after, sharer_after, on_done, on_done_refused}
use Rattle.isolation.proofs.OneBlock.Invariant.Roles.{Role, Aside, Asks, Ends, Fails, Put_over, Ghost}
use Rattle.isolation.proofs.OneBlock.Invariant.Each.{Lone, ctx, Inv, Good}
use Rattle.isolation.proofs.OneBlock.Rows.Gets.{taken, get_row, tell_role, get_other, get_center, put_ctx, put_value, put_lone, put_row, put_other, put_center}
use Rattle.isolation.proofs.OneBlock.Rows.Dones.{done_ctx, over, done_lone, done_row, done_other, done_center, after_done, failed_row, failed_other, Ended, done_ends}
use Rattle.isolation.proofs.OneBlock.Steps.FromOneHart.{frame, refine}
use Rattle.isolation.proofs.OneBlock.Steps.KeepsOwn.{agree_none}

no_other_is : (n r : ℕ) (f : ℕ → Bool) → no_other n r f ≡ true → (j : ℕ) → j < n → j ≢ r → f j ≡ false
no_other_is zero r f e j b d = absurd (omega arith)
no_other_is (suc n) r f e j b d = at (cases_eq j n) (λ c o. no_other_is n r f c j o d)
  where
    first : (p q x : Bool) → (p && (q || not x)) ≡ true → p ≡ true
    first p q x z = grind arith

    second : (p q x : Bool) → (p && (q || not x)) ≡ true → q ≡ false → x ≡ false
    second p q x z y = grind arith

    at : ((j ≡ n) ⊎ (j ≡ n → ⊥)) → (no_other n r f ≡ true → j < n → f j ≡ false) → f j ≡ false
    at (inl p) rest = subst (λ z. f z ≡ false) (sym p) (second (no_other n r f) (n == r) (f n) e (subst (λ z. eqb z r ≡ false) p (ne_eqb j r d)))
    at (inr p) rest = rest (first (no_other n r f) (n == r) (f n) e) (omega arith)

some_below : (r : ℕ) (k : LineState) (n : ℕ) → r < n → (q : ℕ × LineState) → Some (r, k) ≡ Some q → q.0 < n
some_below r k n b q e = grind arith

owner_below : (r : ℕ) (k : LineState) (n : ℕ) → r < n → (o : ℕ) → owner_after r k ≡ Owned o → o < n
owner_below r k n b o e = grind arith

put_below : (h : ℕ) (m : Bool) (n o : ℕ) → put_owner m h ≡ Owned o → o < n
put_below h m n o e = grind arith

none_below : (n : ℕ) (q : ℕ × LineState) → None ≡ Some q → q.0 < n
none_below n q e = grind arith

not_told : (j r : ℕ) (b : Bool) → j ≢ r → (not (j == r) && b) ≡ b
not_told j r b d = grind (arith, ne_eqb)

told_stands : (g : LineState) (r j : ℕ) (st : Rights) → (not (j == r) && must_tell g st) ≡ true → (j ≢ r) × (st ≢ Nothing)
told_stands g r j st e = grind (arith, eq-eqb)

-- who has a standing after a Put, and after a Done
put_within : (owner : Owner) (h j : ℕ) (m shares : Bool) (n : ℕ) → owner ≡ Owned h → h < n → Lone owner shares → standing (put_owner m h) shares j ≢ Nothing → j < n
put_within owner h j m shares n e o u s = grind (arith, eqb-true)

done_within : (owner : Owner) (shares : Bool) (r j n : ℕ) (s : LineState) → r < n → (standing owner shares j ≢ Nothing → j < n) → standing (owner_after r s) (sharer_after owner r s j shares) j ≢ Nothing → j < n
done_within owner shares r j n s o u e = grind (arith, eqb-true)

-- what a Done finds
abbrev pub EndsAs : Bool → Option Block → LineState → Option (ℕ × LineState) → Role → ℕ → Type 0
EndsAs true d s b a r = (b ≡ Some (r, s)) × (a ≡ Ends s d)
EndsAs false d s b a r = (b ≡ Some (r, s)) × (a ≡ Fails)

pub done_finds : (ok : Bool) (d : Option Block) (s : LineState) (b : Option (ℕ × LineState)) (a : Role) (r : ℕ) → b ≡ Some (r, s) → Ended ok d b a r → EndsAs ok d s b a r
done_finds ok d s b a r e f = grind arith

module _ (n : ℕ) (z : One) (b : Option (ℕ × LineState)) (a : Role) (cur : Block) (w : Option ℕ) (g : ℕ → Ghost) (v : Inv n b a cur w z g) where
  at_rest : z.busy ≡ None → Inv n None Aside cur w z g
  at_rest e = let f = sym v.busy_is ∙ e in refine n z b None a Aside cur w g f (agree_none b a v.agree f) v

  -- a Get
  pub gets_come : (r : ℕ) (k : Kind) (st : Option Stamp) → r < n → (z.hart r).get ≡ Some (k, st) → z.busy ≡ None → Good n (on_get n r k st z)
  gets_come r k st o f e =
      let u = at_rest e in
      let c = ctx None Aside cur w z in
      let x = granted_now n r k z in
      let alone = no_other n r z.sharers in
      let noted = (z.hart r).own.noted in
      let q = taken k x st noted in
      let others : ℕ → Ghost = λ h. record (g h) { role = tell_role (x.expect h) k r st } in
      record {
        busy = Some (r, x.give);
        asker = Asks q;
        cur = cur;
        writer = w;
        ghost = put_at r (record (g r) { role = Asks q; want = None }) others;
        inv = record {
          busy_is = refl;
          owner_in = u.owner_in;
          busy_in = λ p y. some_below r x.give n o p y;
          writer_in = u.writer_in;
          agree = refl;
          expects = (λ j y. let p = told_stands x.give r j (standing z.owner (z.sharers j) j) y in (u.within j p.1, p.0), λ h y. absurd (cc));
          center = get_center z.owner z.memory cur k x st noted refl u.center;
          flat = u.flat;
          lone = u.lone;
          within = u.within;
          each = frame n (ctx (Some (r, x.give)) (Asks q) cur w z) z.sharers (λ h. tell (expected x.give r z h) k r st (z.hart h)) others r _ _
              (get_row c (z.sharers r) r (z.hart r) (g r) k st x alone (u.each r o) f refl)
              (λ j p d. get_other c (z.sharers j) alone j (z.hart j) (g j) r k x st noted d (λ y. no_other_is n r z.sharers y j p d) refl (not_told j r (must_tell x.give (standing z.owner (z.sharers j) j)) d) (u.each j p));
        };
      }

  -- a Put of the owner
  pub puts_come : (h : ℕ) (d : Block) (m : Bool) → h < n → (z.hart h).puts ≡ Some (d, m) → z.busy ≡ None → z.owner ≡ Owned h → Good n (on_put h d m z)
  puts_come h d m o f e y =
      let u = at_rest e in
      let c = ctx None Aside cur w z in
      record {
        busy = None;
        asker = Aside;
        cur = cur;
        writer = w;
        ghost = put_at h (record (g h) { keep = Put_over d m }) g;
        inv = record {
          busy_is = refl;
          owner_in = λ q x. put_below h m n q x;
          busy_in = λ q x. none_below n q x;
          writer_in = u.writer_in;
          agree = refl;
          expects = tt;
          center = put_center h cur d m (put_value c (z.sharers h) h (z.hart h) (g h) d m (u.each h o) y f);
          flat = u.flat;
          lone = λ j. put_lone z.owner h m (z.sharers j) y (u.lone j);
          within = λ j. put_within z.owner h j m (z.sharers j) n y o (u.lone j);
          each = frame n (put_ctx h d m c) z.sharers z.hart g h _ _ (put_row c (z.sharers h) h (z.hart h) (g h) d m (u.each h o) y (u.lone h) f) (λ j p x. put_other c (z.sharers j) j (z.hart j) (g j) h d m y x (u.lone j) (u.each j p));
        };
      }

  -- a Done of a granted request
  pub dones_come : (r : ℕ) (s : LineState) (d : Option Block) → r < n → (z.hart r).done ≡ Some (true, d) → z.busy ≡ Some (r, s) → Good n (on_done r s d z)
  dones_come r s d o f e =
      let c = ctx b a cur w z in
      let er = v.each r o in
      let p = done_finds true d s b a r (sym v.busy_is ∙ e) (done_ends c r (standing z.owner (z.sharers r) r) (z.hart r) (g r) true d er.is er.part f) in
      let u = refine n z b _ a _ cur w g p.0 p.1 v in
      record {
        busy = None;
        asker = Aside;
        cur = cur;
        writer = w;
        ghost = put_at r (over (g r)) (λ h. over (g h));
        inv = record {
          busy_is = refl;
          owner_in = λ q x. owner_below r s n o q x;
          busy_in = λ q x. none_below n q x;
          writer_in = u.writer_in;
          agree = refl;
          expects = tt;
          center = done_center z.owner z.memory cur r s d u.center;
          flat = u.flat;
          lone = λ j. done_lone z.owner (z.sharers j) r j s;
          within = λ j. done_within z.owner (z.sharers j) r j n s o (u.within j);
          each = frame n (done_ctx r s d c) (λ h. sharer_after z.owner r s h (z.sharers h)) z.hart (λ h. over (g h)) r _ _ (done_row c (z.sharers r) r (z.hart r) (g r) s d (u.each r o)) (λ j q x. done_other c (z.sharers j) j (z.hart j) (g j) r s d x (u.each j q));
        };
      }

  -- a Done of a refused one
  pub failed_come : (r : ℕ) (s : LineState) (d : Option Block) → r < n → (z.hart r).done ≡ Some (false, d) → z.busy ≡ Some (r, s) → Good n (on_done_refused r z)
  failed_come r s d o f e =
      let c = ctx b a cur w z in
      let er = v.each r o in
      let p = done_finds false d s b a r (sym v.busy_is ∙ e) (done_ends c r (standing z.owner (z.sharers r) r) (z.hart r) (g r) false d er.is er.part f) in
      let u = refine n z b _ a _ cur w g p.0 p.1 v in
      record {
        busy = None;
        asker = Aside;
        cur = cur;
        writer = w;
        ghost = put_at r (over (g r)) (λ h. over (g h));
        inv = record {
          busy_is = refl;
          owner_in = u.owner_in;
          busy_in = λ q x. none_below n q x;
          writer_in = u.writer_in;
          agree = refl;
          expects = tt;
          center = u.center;
          flat = u.flat;
          lone = u.lone;
          within = u.within;
          each = frame n (after_done c) z.sharers z.hart (λ h. over (g h)) r _ _ (failed_row c (z.sharers r) r (z.hart r) (g r) s (u.each r o)) (λ j q x. failed_other c (z.sharers j) j (z.hart j) (g j) r s x (u.each j q));
        };
      }
