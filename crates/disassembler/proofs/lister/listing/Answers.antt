use Rattle.std.proofs.Common.{◌≡◌, ◌+◌, ◌*◌, ◌≤◌, ℕ, ◌++◌, List, Ok, ap, sym, ◌∙◌, arith, subst, None}
use Rattle.texts.proofs.Putting.{puts-same, puts-both}
use Rattle.table.specs.Program.{Segment, word_at}
use Rattle.disassembler.specs.Tables.{Table}
use Rattle.disassembler.specs.Listing.{lines, lines_from}
use Rattle.disassembler.proofs.Listed.{lines-none, lines-cut_short}
use Rattle.disassembler.proofs.Words.{lines-end, lines-more}
use Rattle.disassembler.proofs.lister.listing.Goals as goal

-- the lines of one more window
next : (names : Table) (ss ts : List Segment) (w : ℕ) → ts ≡ ss → lines names ss (4096 * w) ++ lines_from names ts (4096 * w) 4096 ≡ lines names ss (4096 * (w + 1))
next names ss ts w same =
    let end : 4096 * w + 4096 ≡ 4096 * (w + 1) = omega arith in
    ap (λ (l : List Segment). lines names ss (4096 * w) ++ lines_from names l (4096 * w) 4096) same ∙ sym (lines-more names ss (4096 * w) 4096) ∙ ap (lines names ss) end

pub loop-window-init : goal.loop-window-init
loop-window-init g c = lines-none _ _ _

pub loop-window-preserved : goal.loop-window-preserved
loop-window-preserved g c =
    puts-same {r = Ok tt} (next c.args.names.now c.args.program.now.segments _ c.loop-window.window c.segments-segments.ensures.value) (puts-both c.loop-window.invariant c.in_ok-put_window.ensures)

pub returns-in_err-put_window : goal.returns-in_err-put_window
returns-in_err-put_window g c =
    let inside : 4096 * (c.loop-window.window + 1) ≤ 1048576 = omega (arith, c.loop-window-test.true, c.windows-window-end.ensures.most) in
    lines-cut_short c.args.names.now c.args.program.now.segments _ 1048576 inside c.in_err-put_window.was
    (puts-same {r = c.put_window.result} (next c.args.names.now c.args.program.now.segments _ c.loop-window.window c.segments-segments.ensures.value)
    (puts-both c.loop-window.invariant c.put_window.ensures)) c.from_residual.ensures.0

pub returns : goal.returns
returns g c =
    let over : c.windows-window-end.result ≤ c.loop-window.window = c.loop-window-test.false in
    let to = c.loop-window.auto.window-end in
    let inside : 4096 * c.loop-window.window ≤ 1048576 = omega (arith, to, c.windows-window-end.ensures.most) in
    let none = subst (λ (ss : List Segment). (k : ℕ) → 4096 * c.windows-window-end.result ≤ k → word_at ss (4 * k) ≡ None) c.segments-segments.ensures.value c.windows-window-end.ensures.all in
    puts-same (sym (lines-end c.args.names.now c.args.program.now.segments (4096 * c.loop-window.window) inside (λ k high. none k (omega arith)))) c.loop-window.invariant
