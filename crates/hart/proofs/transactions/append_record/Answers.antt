use Rattle.std.proofs.Common.{◌≡◌, ◌<◌, inl, inr, false, true, refl, ap, arith}
use Rattle.std.proofs.lemmas.Bool.{cases_eq}
use Rattle.undo_log.specs.Value.{Log}
use Rattle.words.specs.Limits.{log_records}
use Rattle.hart.proofs.Bytes.{untouched}
use Rattle.hart.proofs.Logs.{full-shown}
use Rattle.hart.proofs.transactions.append_record.Goals as goal

-- no record fits
pub returns-then-is_full-clause-room : goal.returns-then-is_full-clause-room
returns-then-is_full-clause-room c = λ t is.
    let all = c.if-is_full.ensures.full.0 refl in
    let here = ap (λ (l : Log). l.count) c.log.ensures in
    full-shown c.args.tx.now t false c.requires.running is (λ e. absurd (cc)) (λ below. let no : ⊥ = omega (arith, all, here, below) in absurd no)

pub returns-then-is_full-clause-keeps : goal.returns-then-is_full-clause-keeps
returns-then-is_full-clause-keeps c = untouched c.args.tx.now c.args.tx.now refl

-- one does
pub returns-clause-room : goal.returns-clause-room
returns-clause-room c = λ t is. full-shown c.args.tx.now t true c.requires.running is (λ e. below) (λ b. refl)
  where
    here : c.log.result.now.count ≡ c.args.tx.now.log.count
    here = ap (λ (l : Log). l.count) c.log.ensures

    below : c.args.tx.now.log.count < log_records
    below = elim (cases_eq c.log.result.now.count log_records) [
      | inl full ↦ let isn't = c.if-is_full.ensures.full.1 full in absurd (cc)
      | inr ne ↦ let within = c.if-is_full.ensures.within in omega (arith, here, within, ne)
    ]
