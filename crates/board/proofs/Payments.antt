-- A visit with one step more.
use Rattle.std.proofs.Common.{ℕ, ◌+◌, List, [], ◌∷◌, ◌++◌, true, Option, Some, Result, Ok, Err, refl, subst, arith, length-append}
use Rattle.std.specs.Prelude.{OnErr}
use Rattle.words.specs.declared.entry.Entry.{Entry}
use Rattle.words.specs.declared.entry.Step.{Step}
use Rattle.words.specs.declared.entry.Step.TheVariants as step
use Rattle.protocol.specs.Caches.{Geometry}
use Rattle.schedule.specs.declared.choices.Choice.{Choice}
use Rattle.schedule.specs.declared.choices.Choice.TheVariants.{Core}
use Rattle.board.specs.Histories.{Told}
use Rattle.board.specs.Boards.{Held, IsTurn}
use Rattle.board.specs.Visits.{Owes, PaysOff, PaysOne, IsVisitOf}

module _ {J : Type 0} (g : Geometry) (tells : J → Told → Type 0) (i : ℕ) where
  pays_more : (xs : List Step) (x : Step) (b c d : Held J) (choice : Choice) (e : Option Entry) → PaysOff g tells i xs b c → Owes g i c.machine (Some x) → IsTurn g tells c x (Some choice) e d
      → PaysOff g tells i (xs ++ x ∷ []) b d
  pays_more [] x b c d choice e p owes t =
      (d, choice, e, subst (λ (r : Held J). Owes g i r.machine (Some x)) p owes, subst (λ (r : Held J). IsTurn g tells r x (Some choice) e d) p t, refl)
  pays_more (y ∷ ys) x b c d choice e p owes t = (p.0, p.1, p.2, p.3, p.4, pays_more ys x p.0 c d choice e p.5 owes t)

  pub visit_first : (b c : Held J) → (e : Option Entry) × IsTurn g tells b (step.Core i) (Some (Core i)) e c → IsVisitOf g tells i 0 b c
  visit_first b c t = record { steps = []; count = refl; middle = c; entry = t.0; begins = t.1; pays = refl }

  pub visit_more : (n : ℕ) (b c d : Held J) → IsVisitOf g tells i n b c → PaysOne g tells i true c d → IsVisitOf g tells i (n + 1) b d
  visit_more n b c d v o = record {
    steps = v.steps ++ o.0 ∷ [];
    count = omega (arith, length-append v.steps (o.0 ∷ []), v.count);
    middle = v.middle;
    entry = v.entry;
    begins = v.begins;
    pays = pays_more v.steps o.0 v.middle c d o.1 o.2 v.pays o.3 o.4;
  }

-- what holds anyway holds after an error
pub always_err : {A E : Type 0} (P : Type 0) (r : Result A E) → P → OnErr r P
always_err P (Ok a) h = tt {0}
always_err P (Err e) h = h
