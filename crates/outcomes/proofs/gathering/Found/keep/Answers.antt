use Rattle.std.proofs.Common.{◌∙◌, sym}
use Rattle.outcomes.proofs.KeptEnds.{bytes_of, has, kept_before, kept_now}
use Rattle.outcomes.proofs.gathering.Found.keep.Goals as goal

pub returns-then-contains_key : goal.returns-then-contains_key
returns-then-contains_key c =
    kept_before c.args.self.now c.args.report.items c.args.place
    ((λ j. has bytes_of (sym c.as_slice.ensures.value j) c.args.self.now.places.entries) ∙ sym c.contains_key.ensures ∙ c.if-contains_key.true)

pub returns : goal.returns
returns c =
    kept_now c.args.self.now (record { places = c.insert.new.self }) c.args.report c.args.place
    ((λ j. has bytes_of (sym c.as_slice.ensures.value j) c.args.self.now.places.entries) ∙ sym c.contains_key.ensures ∙ c.if-contains_key.false)
    c.in_ok-insert.ensures.entries
