use Rattle.std.proofs.Common.{◌≡◌, ◌∙◌, ℕ, Option, Some, false, ap, sym}
use Rattle.std.specs.Option.{option_map}
use Rattle.words.specs.declared.message.Kind.{Kind}
use Rattle.cache.specs.declared.line.Line.{Line as CachedLine}
use Rattle.cache.specs.Sets.{line_at}
use Rattle.words.specs.declared.entry.Entry.TheVariants.{Refuse}
use Rattle.protocol.specs.Messages.{Nack}
use Rattle.protocol.specs.Lines.{refuses}
use Rattle.protocol.specs.Hart.{overflow_of}
use Rattle.protocol.specs.HartMessages.{acknowledge_row}
use Rattle.hart.specs.Parts.{Parts}
use Rattle.hart.specs.Shown.{shown_line, shown_tx, shown_hart, lines_of}
use Rattle.hart.proofs.Rows.{forward-refused, forward-met, acknowledged}
use Rattle.hart.proofs.Places.{none_moves}
use Rattle.hart.proofs.hart.Hart.on_forward.Goals as goal

-- what the block's line answers, the hart answers
of_line : (S : ℕ) (p : Parts) (b : ℕ) (kind : Kind) (line : Option CachedLine) → line ≡ line_at S p.cache b → refuses (lines_of S p.cache b) (overflow_of (shown_tx p.tx)) kind ≡ refuses (option_map shown_line line) (overflow_of (shown_tx p.tx)) kind
of_line S p b kind line is = ap (λ (o : Option CachedLine). refuses (option_map shown_line o) (overflow_of (shown_tx p.tx)) kind) (sym is)

pub returns-then-refuses-clause-row : goal.returns-then-refuses-clause-row
returns-then-refuses-clause-row g c = λ output requester.
    let a = c.args in
    let index : a.self.now.index ≡ c.refuse.new.self.index = sym c.refuse.ensures.stays.index in
    forward-refused a.self.now.index a.block a.kind requester a.stamp (shown_hart g.row.SETS output a.self.now)
    (of_line g.row.SETS a.self.now a.block a.kind c.line-line.result c.line-line.ensures.value ∙ sym c.refuses.ensures ∙ c.if-refuses.true)
    ∙ (λ k. record {
      hart = sym (c.refuse.ensures.hart output) k;
      sent = Some (Nack (index k) requester a.block (sym c.refuse.ensures.own k));
      entry = Some (Refuse (index k) requester a.block);
      stamped = false;
    })

pub returns-clause-row : goal.returns-clause-row
returns-clause-row g c = λ output requester.
    let a = c.args in
    let h = shown_hart g.row.SETS output a.self.now in
    let index : a.self.now.index ≡ c.give.new.self.index = sym c.give.ensures.stays.index in
    forward-met a.self.now.index a.block a.kind requester a.stamp h
    (of_line g.row.SETS a.self.now a.block a.kind c.line-line.result c.line-line.ensures.value ∙ sym c.refuses.ensures ∙ c.if-refuses.false)
    ∙ ap (λ i. acknowledge_row i a.block a.kind requester h) index
    ∙ acknowledged c.give.new.self.index a.block a.kind requester h _ _ (c.give.ensures.hart output) (c.content_held-content.ensures output)

pub returns-then-refuses-clause-ways : goal.returns-then-refuses-clause-ways
returns-then-refuses-clause-ways g c = none_moves g.row.SETS c.args.self.now.cache c.refuse.new.self.cache c.refuse.ensures.cache
