-- The lines of a cache as the protocol has them: a map from blocks to lines.
use Rattle.std.proofs.Common.{◌≡◌, ◌≢◌, ◌==◌, ◌∙◌, ℕ, Bool, true, false, Option, Some, None, cond, refl, ap, arith}
use Rattle.std.proofs.lemmas.Bool.Decides.{nat_tests}
use Rattle.std.proofs.Math.Path.{fun_ext}
use Rattle.std.specs.Option.{option_map}
use Rattle.flat.specs.Bytes.{put_at}
use Rattle.cache.specs.declared.line.Line.{Line as CachedLine}
use Rattle.cache.specs.Line.{without_marks}
use Rattle.cache.specs.Sets.{Sets, line_at, SetsLine}
use Rattle.protocol.specs.Lines.{line_cleared}
use Rattle.hart.specs.Shown.{shown_line, lines_of}

-- a line in its place
pub lines-set : (test : Option CachedLine → Bool) (count : ℕ) (old new : Sets) (b : ℕ) (x : Option CachedLine) → SetsLine test count old new b x
    → lines_of count new ≡ put_at b (option_map shown_line x) (lines_of count old)
lines-set test count old new b x set = fun_ext (λ c. at c (c == b) refl)
  where
    at : (c : ℕ) (t : Bool) → c == b ≡ t → lines_of count new c ≡ cond t (option_map shown_line x) (lines_of count old c)
    at c true is = let e : c ≡ b = grind (arith, nat_tests) in rw e (ap (option_map shown_line) set.this)
    at c false is = let ne : c ≢ b = grind (arith, nat_tests) in ap (option_map shown_line) (set.others c ne)

-- without marks
pub lines-cleared : (count : ℕ) (old new : Sets) → ((b : ℕ) → line_at count new b ≡ option_map without_marks (line_at count old b))
    → lines_of count new ≡ (λ b. line_cleared (lines_of count old b))
lines-cleared count old new cleared = fun_ext (λ b. ap (option_map shown_line) (cleared b) ∙ at (line_at count old b))
  where
    at : (o : Option CachedLine) → option_map shown_line (option_map without_marks o) ≡ line_cleared (option_map shown_line o)
    at None = refl
    at (Some l) = refl
