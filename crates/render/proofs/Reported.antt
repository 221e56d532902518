-- The statuses that go with a report.
use Rattle.std.proofs.Common.{◌≡◌, ℕ, ◌+◌, ◌<◌, ◌≤◌, max, ◌⊎◌, inl, inr, refl, ap, sym, ◌∙◌, subst, arith, Bool, true, false, cond, ◌==◌}
use Rattle.std.proofs.Math.Nat.{eq-or-lt_of_le}
use Rattle.std.proofs.lemmas.Bool.{cases_lt}
use Rattle.words.specs.declared.cause.Status.{Status}
use Rattle.words.specs.declared.cause.Status.TheVariants.{Running, Exited, Stopped}
use Rattle.flat.specs.State.{Flat}
use Rattle.render.specs.Statuses.{status_for, IsGreatest, IsReported}

exit_status : (b : Bool) → IsReported (cond b 0 1)
exit_status true = inl refl
exit_status false = inr (inl refl)

-- what a hart asks for goes with a report
pub status_for-reported : (s : Status) → IsReported (status_for s)
status_for-reported Running = inr (inr refl)
status_for-reported (Exited a) = exit_status (a == 0)
status_for-reported (Stopped cause pc) = inr (inl refl)

max_is_one : (a b : ℕ) → (max a b ≡ a) ⊎ (max a b ≡ b)
max_is_one a b = elim (cases_lt a b) [
  | inl less ↦ inr (omega arith)
  | inr le ↦ inl (omega arith)
]

-- the greater of two that go with a report goes with one
pub greater-reported : (a b : ℕ) → IsReported a → IsReported b → IsReported (max a b)
greater-reported a b ra rb = elim (max_is_one a b) [ inl e ↦ subst IsReported (sym e) ra | inr e ↦ subst IsReported (sym e) rb ]

-- the greatest that harts ask for, with one hart more
pub greatest-more : (f : Flat) (n a s : ℕ) → a ≡ status_for (f.hart n).status → IsGreatest f n s → IsGreatest f (n + 1) (max a s)
greatest-more f n a s here before = record {
  bound = λ i below.
      let within : i ≤ n = omega arith in
      elim (eq-or-lt_of_le within) [
        | inl e ↦ let same : status_for (f.hart i).status ≡ a = ap (λ (k : ℕ). status_for (f.hart k).status) e ∙ sym here in omega arith
        | inr less ↦ let old = before.bound i less in omega arith
      ];
  reached = elim (max_is_one a s) [
    | inl e ↦ let less : n < n + 1 = omega arith in inr (n, less, sym here ∙ sym e)
    | inr e ↦ elim before.reached [
      | inl none ↦ inl (e ∙ none)
      | inr x ↦ let less : x.0 < n + 1 = omega (arith, x.1) in inr (x.0, less, x.2 ∙ sym e)
    ]
  ];
}

-- of no hart nothing is asked
pub greatest-none : (f : Flat) → IsGreatest f 0 0
greatest-none f = record { bound = λ i below. omega (arith, below); reached = inl refl }
