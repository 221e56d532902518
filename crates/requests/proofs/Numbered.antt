-- The ends with their numbers, one after another.
use Rattle.std.proofs.Common.{◌≡◌, ◌<◌, ◌+◌, ℕ, arith, List, length, get_or, sym, ap, ◌∙◌}
use Rattle.std.specs.List.{enumerate_from}
use Rattle.std.proofs.lemmas.List.FromFn.{length-enumerate_from, get_or-enumerate_from}
use Rattle.outcomes.specs.declared.gathering.End.{End}
use Rattle.requests.specs.EndTexts.{numbered, end_text}

module _ (ends : List End) (k : ℕ) (e : End) (lt : k < length ends) where
  pub among_numbered : k < length (enumerate_from 1 ends)
  among_numbered = rw (length-enumerate_from 1 ends) lt

  pub text_there : e ≡ get_or ends k e → numbered (k + 1) e.report.items ≡ end_text (get_or (enumerate_from 1 ends) k (0, e))
  text_there is =
      let next : k + 1 ≡ 1 + k = omega arith in
      (λ j. numbered (next j) (is j).report.items) ∙ sym (ap end_text (get_or-enumerate_from 1 ends k (0, e) lt))
