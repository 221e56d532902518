use Rattle.std.proofs.Common.{◌≡◌, ◌∙◌, ℕ, List, inl, refl, ap, subst}
use Rattle.words.specs.Sinks.{TookAll, TookPart}
use Rattle.disassembler.specs.Tables.{Table, no_symbols}
use Rattle.requests.specs.Ends.{lines_of}
use Rattle.requests.proofs.search.put_run.Goals as goal

pub returns-in-Ok : goal.returns-in-Ok
returns-in-Ok g c =
    let text : lines_of c.none-names.result c.deref.result.now ≡ lines_of no_symbols c.in_ok-entries.entries.items =
    ap (λ (t : Table). lines_of t c.deref.result.now) c.none-names.ensures ∙ ap (lines_of no_symbols) c.deref.ensures.value in (
      c.in_ok-entries.entries.items,
      c.in_ok-entries.ensures,
      subst (λ (l : List ℕ). TookAll (g.T.Sink.state c.args.page.now) (g.T.Sink.state c.put_lines.new.page) l) text (record { whole = c.in-Ok.ensures.lines.whole; clean = c.in-Ok.ensures.lines.clean }),
    )

pub returns : goal.returns
returns g c =
    let text : lines_of c.none-names.result c.deref.result.now ≡ lines_of no_symbols c.in_ok-entries.entries.items =
    ap (λ (t : Table). lines_of t c.deref.result.now) c.none-names.ensures ∙ ap (lines_of no_symbols) c.deref.ensures.value in
    inl (
      refl,
      (
        c.in_ok-entries.entries.items,
        c.in_ok-entries.ensures,
        subst (λ (l : List ℕ). TookPart (g.T.Sink.state c.args.page.now) (g.T.Sink.state c.put_lines.new.page) l) text (record { part = c.in-Err.ensures.lines.part; fault = c.in-Err.ensures.lines.fault }),
      ),
    )
