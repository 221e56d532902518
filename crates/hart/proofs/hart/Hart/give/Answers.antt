use Rattle.std.proofs.Common.{◌≡◌, ◌∙◌, Option, Some, None, refl, sym, ap, subst}
use Rattle.std.specs.Option.{option_map}
use Rattle.words.specs.declared.message.Kind.TheVariants.{Read, Write}
use Rattle.words.specs.declared.message.LineState.TheVariants.{Shared}
use Rattle.cache.specs.declared.line.Line.{Line as CachedLine}
use Rattle.cache.specs.Line.{in_state}
use Rattle.cache.specs.Sets.{line_at}
use Rattle.cache.specs.Ways.{holds}
use Rattle.protocol.specs.Lines.{Line, line_given}
use Rattle.protocol.specs.Hart.{with_line}
use Rattle.protocol.specs.HartMessages.{reserved_given}
use Rattle.hart.specs.Shown.{shown_line, shown_hart, lines_of}
use Rattle.hart.proofs.Views.{parts}
use Rattle.hart.proofs.Lines.{lines-set}
use Rattle.hart.specs.Parts.{Parts}
use Rattle.hart.specs.Places.{KeepsWays}
use Rattle.hart.proofs.Places.{line_removed, line_put}
use Rattle.hart.proofs.hart.Hart.give.Goals as goal

-- the line is shared

shared : (o : Option CachedLine) → option_map shown_line (option_map (in_state Shared) o) ≡ line_given Read (option_map shown_line o)
shared None = refl
shared (Some l) = refl

pub returns-in-Read-clause-hart : goal.returns-in-Read-clause-hart
returns-in-Read-clause-hart g c = λ output.
    let S = g.row.SETS in
    let old = c.self.inside in
    let b = c.args.block in
    let given = shared (line_at S old.cache b)
    ∙ ap (λ kind. line_given kind (lines_of S old.cache b)) (sym c.in-Read.is)
    ∙ ap (λ (p : Parts). line_given c.args.kind (lines_of S p.cache b)) c.self.view_is in
    let lines = lines-set (holds b) S old.cache c.downgrade.new.self b _ c.downgrade.ensures.line in
    (λ j. record (shown_hart S output (parts old)) { reserved = c.reserved_given-self-inside.ensures j; lines = lines j })
    ∙ (λ j. with_line b (given j) (record (shown_hart S output (c.self.view_is j)) { reserved = reserved_given c.args.kind b (c.self.view_is j).reserved }))

-- it is given up

gone : (o : Option Line) → None ≡ line_given Write o
gone None = refl
gone (Some l) = refl

pub returns-in-Write-clause-hart : goal.returns-in-Write-clause-hart
returns-in-Write-clause-hart g c = λ output.
    let S = g.row.SETS in
    let old = c.self.inside in
    let b = c.args.block in
    let here = lines_of S c.args.self.now.cache b in
    let given : None ≡ line_given c.args.kind here = gone here ∙ ap (λ kind. line_given kind here) (sym c.in-Write.is) in
    let lines = lines-set (holds b) S old.cache c.invalidate.new.self b None c.invalidate.ensures.line in
    (λ j. record (shown_hart S output (parts old)) { reserved = c.reserved_given-self-inside.ensures j; lines = lines j })
    ∙ (λ j. with_line b (given j) (record (shown_hart S output (c.self.view_is j)) { reserved = reserved_given c.args.kind c.args.block (c.self.view_is j).reserved }))

-- lines stay in their ways

pub returns-in-Read-clause-ways : goal.returns-in-Read-clause-ways
returns-in-Read-clause-ways g c = subst (λ (p : Parts). KeepsWays g.row.SETS p.cache c.downgrade.new.self) c.self.view_is (line_put g.row.SETS c.self.inside.cache c.downgrade.new.self c.args.block _ (λ l. refl) c.downgrade.ensures.line)

pub returns-in-Write-clause-ways : goal.returns-in-Write-clause-ways
returns-in-Write-clause-ways g c =
    subst (λ (p : Parts). KeepsWays g.row.SETS p.cache c.invalidate.new.self) c.self.view_is (line_removed g.row.SETS c.self.inside.cache c.invalidate.new.self c.args.block c.invalidate.ensures.line)
