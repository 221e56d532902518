use Rattle.std.proofs.Common.{◌∙◌, ap, sym, Some}
use Rattle.std.specs.Option.{option_map}
use Rattle.protocol.specs.Evict.{drop_row, write_back_row}
use Rattle.conflict.specs.Requests.{shown_put}
use Rattle.hart.specs.Shown.{shown_line, shown_hart}
use Rattle.hart.proofs.Rows.{evicts-shared, evicts-owned, none_shown}
use Rattle.hart.proofs.hart.Hart.evict.Goals as goal

pub returns-then-not-is_owned-clause-row : goal.returns-then-not-is_owned-clause-row
returns-then-not-is_owned-clause-row g c = λ output.
    let line = c.in_ok-line.line in
    let i = c.args.self.now.index in
    let h = shown_hart g.row.SETS output c.args.self.now in
    let of_block = c.in_ok-line.ensures.block in
    let here = sym c.line.ensures.value ∙ c.in_ok-line.was in
    evicts-shared i c.args.block (shown_line line) h (ap (option_map shown_line) here) (sym c.is_owned.ensures ∙ c.if-not-is_owned.true)
    ∙ ap (λ b. Some (drop_row i b (shown_line line) h)) (sym of_block)
    ∙ ap Some (c.drop_line.ensures.row output)

pub returns-clause-row : goal.returns-clause-row
returns-clause-row g c = λ output.
    let line = c.in_ok-line.line in
    let i = c.args.self.now.index in
    let h = shown_hart g.row.SETS output c.args.self.now in
    let of_block = c.in_ok-line.ensures.block in
    let here = sym c.line.ensures.value ∙ c.in_ok-line.was in
    evicts-owned i c.args.block (shown_line line) h (ap (option_map shown_line) here) (sym c.is_owned.ensures ∙ c.if-not-is_owned.false)
    (ap (option_map shown_put) (sym c.put.ensures) ∙ none_shown shown_put c.put.result (sym c.is_some.ensures ∙ c.if-is_some.false))
    ∙ ap (λ b. Some (write_back_row i b (shown_line line) h)) (sym of_block)
    ∙ ap Some (c.write_back.ensures.row output)
