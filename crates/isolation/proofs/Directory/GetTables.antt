-- What a Get is given: the tables of the machine are those of one block.
use Rattle.std.proofs.Common.{◌≡◌, ℕ, zero, suc, Bool, true, false, not, eqb, ◌==◌, refl, ap, ◌∙◌, arith}
use Rattle.std.specs.Prelude.{◌&&◌, ◌||◌}
use Rattle.std.proofs.lemmas.Bool.{eqb-true, eqb-false}
use Rattle.words.specs.declared.message.Kind.{Kind}
use Rattle.protocol.specs.Messages.{Granted}
use Rattle.protocol.specs.Directory.{Owner, Nobody, Owned, Sticky, DirEntry, is_alone, must_answer, given_now, expected_now}
use Rattle.protocol.specs.Directory as machine
use Rattle.isolation.proofs.OneBlock.Model.State.{One}
use Rattle.isolation.proofs.OneBlock.Model.Directory.{standing, must_tell, no_other, give_for, expected, give_now, granted_now}

-- whether no other hart shares the block
pub alone_is : (n r : ℕ) (sharers : ℕ → Bool) → is_alone n r sharers ≡ no_other n r sharers
alone_is zero r sharers = refl
alone_is (suc n) r sharers = ap (λ z. z && ((n == r) || not (sharers n))) (alone_is n r sharers)

give_is : (alone : Bool) (o : Owner) (r : ℕ) (k : Kind) → machine.give_for alone o r k ≡ give_for alone o r k
give_is alone o r k = grind (arith, eqb-true, eqb-false)

must_is : (alone : Bool) (o : Owner) (sharers : ℕ → Bool) (r h : ℕ) (k : Kind) → must_answer o sharers r k h ≡ (not (h == r) && must_tell (give_for alone o r k) (standing o (sharers h) h))
must_is alone o sharers r h k = grind (arith, eqb-true, eqb-false)

-- who asks need not answer itself
pub not_itself : (o : Owner) (sharers : ℕ → Bool) (r h : ℕ) (k : Kind) → eqb h r ≡ true → must_answer o sharers r k h ≡ false
not_itself o sharers r h k e = grind arith

-- by a directory entry, and by one block's state with its owner and sharers
module _ (n r : ℕ) (k : Kind) (s : One) where
  -- what is given
  pub given_is : machine.give_for (is_alone n r s.sharers) s.owner r k ≡ give_now n r k s
  given_is = ap (λ a. machine.give_for a s.owner r k) (alone_is n r s.sharers) ∙ give_is (no_other n r s.sharers) s.owner r k

  -- who has to answer
  pub expected_is : (h : ℕ) → must_answer s.owner s.sharers r k h ≡ expected (give_now n r k s) r s h
  expected_is h = must_is (no_other n r s.sharers) s.owner s.sharers r h k

  -- the Grant
  pub granted_is : (g : Granted) → g.give ≡ machine.give_for (is_alone n r s.sharers) s.owner r k → g.content ≡ s.memory → ((h : ℕ) → g.expect h ≡ must_answer s.owner s.sharers r k h) → g ≡ granted_now n r k s
  granted_is g u m e = λ i. record { give = (u ∙ given_is) i; content = m i; expect = λ h. (e h ∙ expected_is h) i }
