-- A hart aborts for a conflict while others wait.
use Rattle.std.proofs.Common.{◌≡◌, ◌≢◌, ◌<◌, ◌⊎◌, ℕ, Bool, true, false, Option, Some, None, [], ◌∷◌, inl, inr, refl, sym, ap, ◌∙◌, subst, arith}
use Rattle.std.specs.Prelude.{◌==◌, IsSome}
use Rattle.std.proofs.lemmas.Bool.{cases_lt}
use Rattle.words.specs.declared.entry.Entry.TheVariants.{Abort}
use Rattle.words.specs.declared.cause.AbortCause.TheVariants.{Conflict}
use Rattle.flat.specs.State.{Setting, Flat, FlatHart, Tx}
use Rattle.flat.specs.Steps.{Carries, IsRunning, aborted}
use Rattle.flat.specs.Bytes.{put_at}
use Rattle.flat.specs.Reservations.{Reservations}
use Rattle.flat.proofs.Maps.{one_number, two_numbers, put_in_turn}
use Rattle.flat.proofs.Entries.{others_stay, setting_stays}
use Rattle.flat.proofs.Grows.{some_none}
use Rattle.isolation.specs.Moves.{IsAtAccess, IsBeside, MoveTogether, Place}
use Rattle.isolation.proofs.Lowest.{lowest_below}
use Rattle.isolation.proofs.Waits.{Reaches, place, back_at, Waits, rolls_back, reach_more, gives_way, access_stays, rolled_back_on}

-- a third hart is in a transaction
record IsThird (f : Flat) (i j k : ℕ) : Type 0 where
  not_first : k ≢ i
  not_second : k ≢ j
  inside : IsSome (f.hart k).tx

third_or_not : (f : Flat) (i j k : ℕ) → IsThird f i j k ⊎ (IsThird f i j k → ⊥)
third_or_not f i j k = by (k == i) refl (k == j) refl (f.hart k).tx refl where
  by : (a : Bool) → (k == i) ≡ a → (b : Bool) → (k == j) ≡ b → (o : Option Tx) → (f.hart k).tx ≡ o → IsThird f i j k ⊎ (IsThird f i j k → ⊥)
  by true a b z o e = inr (λ t. t.not_first (one_number k i a))
  by false a true z o e = inr (λ t. t.not_second (one_number k j z))
  by false a false z None e = inr (λ t. some_none (f.hart k).tx t.inside e)
  by false a false z (Some u) e = inl (record { not_first = two_numbers k i a; not_second = two_numbers k j z; inside = subst (λ o. IsSome o) (sym e) refl })

-- another hart in a transaction
beside : (f : Flat) (i j : ℕ) (t : Tx) → IsRunning f j → (f.hart j).tx ≡ Some t → j ≢ i → IsBeside f i
beside f i j t running is ne = record { other = j; hart = running.hart; apart = ne; inside = subst (λ o. IsSome o) (sym is) refl }

-- hart i aborts, and hart j waits in its transaction
module _ (start : Place) (f g : Flat) (r : Reservations) (i j : ℕ) (k : Carries f (Abort i Conflict) g) (ne : j ≢ i) (t u : Tx)
    (runs : (n : ℕ) → IsSome (f.hart n).tx → IsRunning f n) (is : (f.hart i).tx ≡ Some t) (is_too : (f.hart j).tx ≡ Some u) where
  running : IsRunning f i
  running = runs i (subst (λ o. IsSome o) (sym is) refl)

  running_too : IsRunning f j
  running_too = runs j (subst (λ o. IsSome o) (sym is_too) refl)

  still : g.hart j ≡ f.hart j
  still = others_stay f g (Abort i Conflict) k j ne

  module _ (access : IsAtAccess f i) (access_too : IsAtAccess f j) (none : (n : ℕ) → IsThird f i j n → ⊥) where
    alone : (n : ℕ) → n ≢ i → n ≢ j → (f.hart n).tx ≡ None
    alone n a b = by (f.hart n).tx refl where
      by : (o : Option Tx) → (f.hart n).tx ≡ o → (f.hart n).tx ≡ None
      by None e = e
      by (Some v) e = absurd (none n (record { not_first = a; not_second = b; inside = subst (λ o. IsSome o) (sym e) refl }))

    -- hart j after it
    together_after : i < j → MoveTogether f i j (aborted g j Conflict u)
    together_after lt = record {
      first = gives_way f i t running is access (beside f i j u running_too is_too ne);
      second = gives_way f j u running_too is_too access_too (beside f j i t running is (λ z. ne (sym z)));
      order = lt;
      alone = alone;
      between = g;
      one = k;
      other = rolls_back g j u (record {
        hart = subst (λ (s : Setting). j < s.count) (sym (setting_stays f g (Abort i Conflict) k)) running_too.hart;
        runs = ap (λ (h : FlatHart). h.status) still ∙ running_too.runs;
      }) (ap (λ (h : FlatHart). h.tx) still ∙ is_too);
    }

    -- or before it
    together_before : j < i → MoveTogether f j i (aborted g j Conflict u)
    together_before lt = record {
      first = gives_way f j u running_too is_too access_too (beside f j i t running is (λ z. ne (sym z)));
      second = gives_way f i t running is access (beside f i j u running_too is_too ne);
      order = lt;
      alone = λ n a b. alone n b a;
      between = aborted f j Conflict u;
      one = rolls_back f j u running_too is_too;
      other = rolled_back_on f g (Abort i Conflict) j k ne u;
    }

    -- of the two alone both may abort together
    reach_together : Reaches start (place f r) → Reaches start (back_at g (put_at i None r) j u)
    reach_together reach = elim (cases_lt i j) [
      | inl lt ↦ reach_more start (place f r) (back_at g (put_at i None r) j u) (Abort i Conflict ∷ Abort j Conflict ∷ []) reach (record { moves = together_after lt; reason = tt; reserved = refl })
      | inr le ↦ reach_more start (place f r) (back_at g (put_at i None r) j u) (Abort j Conflict ∷ Abort i Conflict ∷ []) reach (record {
        moves = together_before (omega (arith, le, ne));
        reason = tt;
        reserved = λ p n. put_in_turn j i n None None r ne p;
      })
    ]

  -- so hart j still waits
  pub waits_beside : Reaches start (place f r) → IsAtAccess f i → Waits start f r j u → Waits start g (put_at i None r) j u
  waits_beside reach access w = record {
    access = access_stays f g (Abort i Conflict) j k ne w.access;
    way = elim (lowest_below (IsThird f i j) (third_or_not f i j) f.setting.count) [
      | inl found ↦ inl (record {
        other = found.0;
        hart = subst (λ (s : Setting). found.0 < s.count) (sym (setting_stays f g (Abort i Conflict) k)) (runs found.0 found.1.here.inside).hart;
        apart = found.1.here.not_second;
        inside = subst (λ (h : FlatHart). IsSome h.tx) (sym (others_stay f g (Abort i Conflict) k found.0 found.1.here.not_first)) found.1.here.inside;
      })
      | inr none ↦ inr (reach_together access w.access (λ n third. none n (runs n third.inside).hart third) reach)
    ];
  }
