-- The lines of turns in a row, and their moments.
use Rattle.std.proofs.Common.{◌≡◌, ◌≤◌, ◌+◌, ◌*◌, ◌++◌, ℕ, suc, List, [], ◌∷◌, length, length-append, Option, Some, refl, sym, ap, ◌∙◌, arith, append_assoc, append-nil}
use Rattle.std.specs.List.{flat_map}
use Rattle.words.specs.declared.entry.Entry.{Entry}
use Rattle.words.specs.declared.entry.Step.{Step}
use Rattle.words.specs.declared.entry.Step.TheVariants.{Core}
use Rattle.disassembler.specs.Tables.{Table}
use Rattle.protocol.specs.Caches.{Geometry}
use Rattle.machine.specs.Making.{MakesStep}
use Rattle.machine.specs.States.{State, shown}
use Rattle.machine.specs.Turns.{hart_after, HearsAll, IsNextTurn, TakesPlain}
use Rattle.render.specs.Entries.{entry_line}
use Rattle.schedule.specs.Moments.{Moment, moment}
use Rattle.schedule.specs.Runs.{TookTurns}
use Rattle.schedule.proofs.Taken.{turn_one, turns_both}
use Rattle.watch.specs.declared.recording.Lines.{Lines}
use Rattle.watch.specs.Rows.{AddsLine, AddsTurns}
use Rattle.watch.specs.Traces.{line_if, trace_of}
use Rattle.watch.proofs.Tracing.{trace_both}

-- where there was room for the lines of all words, all were added
pub heard_lines : (names : Table) (es : List Entry) (x y : Lines) → x.entries ≡ names → HearsAll AddsLine x es y → length x.text + 240 * length es ≤ 1920
    → y.text ≡ x.text ++ flat_map (entry_line names) es
heard_lines names [] x y is same room = ap (λ (l : Lines). l.text) (sym same) ∙ sym (append-nil x.text)
heard_lines names (e ∷ es) x y is (z, first, rest) room =
    let fits : length x.text + 240 ≤ 1920 = omega (arith, room) in
    let one : z.text ≡ x.text ++ entry_line names e = first.line fits ∙ ap (λ (t : Table). x.text ++ entry_line t e) is in
    let kept : z.entries ≡ names = first.names ∙ is in
    let left : length z.text + 240 * length es ≤ 1920 = omega (arith, room, first.longer) in
    heard_lines names es z y kept rest left ∙ ap (λ (l : List ℕ). l ++ flat_map (entry_line names) es) one ∙ append_assoc x.text (entry_line names e) (flat_map (entry_line names) es)

-- plain turns are turns, and their trace is the lines of their words
pub took_lines : (names : Table) (g : Geometry) (v w : State) (after last : ℕ) (es : List Entry) → TakesPlain g v after es w last
    → (ms : List Moment) × TookTurns g v after ms w last × (length es ≡ length ms) × (trace_of names ms ≡ flat_map (entry_line names) es)
took_lines names g v w after last [] (same, is) = ([], (same, is), refl, refl)
took_lines names g v w after last (e ∷ es) (i, u, quiescent, turn, plain, rest, later) =
    let on = took_lines names g u w i last es later in
    (moment v (Core i) (Some e) u ∷ on.0, (Core i, Some e, u, turn.next, turn.made, refl, on.1), ap suc on.2, ap (λ (l : List ℕ). entry_line names e ++ l) on.3)

-- the names stay, and each line has 240 bytes at most
heard_names : (es : List Entry) (x y : Lines) → HearsAll AddsLine x es y → y.entries ≡ x.entries
heard_names [] x y same = ap (λ (l : Lines). l.entries) (sym same)
heard_names (e ∷ es) x y (z, first, rest) = heard_names es z y rest ∙ first.names

pub heard_longer : (es : List Entry) (x y : Lines) → HearsAll AddsLine x es y → length y.text ≤ length x.text + 240 * length es
heard_longer [] x y same = let long : length x.text ≡ length y.text = ap (λ (l : Lines). length l.text) same in omega (arith, long)
heard_longer (e ∷ es) x y (z, first, rest) = let on = heard_longer es z y rest in let one = first.longer in omega (arith, on, one)

module _ (g : Geometry) where
  -- the lines of no turn, of plain turns, of one turn, and of turns behind others
  pub none_added : (v : State) (after : ℕ) (x : Lines) → AddsTurns g v after 0 v after x x
  none_added v after x = record { moments = []; took = (refl, refl); turns = refl; names = refl; text = sym (append-nil x.text) }

  pub words_added : (v w : State) (after last : ℕ) (es : List Entry) (x y : Lines) (turns most : ℕ) → turns ≡ length es → turns ≤ most → length x.text + 240 * most ≤ 1920
      → TakesPlain g v after es w last → HearsAll AddsLine x es y → AddsTurns g v after turns w last x y
  words_added v w after last es x y turns most count few room takes heard =
      let names : Table = x.entries in
      let all = took_lines names g v w after last es takes in
      let fits : length x.text + 240 * length es ≤ 1920 = omega (arith, count, few, room) in
      record {
        moments = all.0;
        took = all.1;
        turns = count ∙ all.2;
        names = heard_names es x y heard;
        text = heard_lines names es x y refl heard fits ∙ ap (λ (l : List ℕ). x.text ++ l) (sym all.3);
      }

  pub turn_added : (v w : State) (after : ℕ) (step : Step) (e : Option Entry) (x y : Lines) → IsNextTurn (shown g.sets v) v.flights after (Some step) → MakesStep g v step e w → AddsLine x e y
      → length x.text + 240 ≤ 1920 → AddsTurns g v after 1 w (hart_after step after) x y
  turn_added v w after step e x y next made adds room = record {
    moments = moment v step e w ∷ [];
    took = turn_one g v w after step e next made;
    turns = refl;
    names = adds.names;
    text = adds.line room ∙ ap (λ (l : List ℕ). x.text ++ l) (sym (append-nil (line_if x.entries e)));
  }

  pub both_added : (v u w : State) (a b c m n : ℕ) (x y z : Lines) → AddsTurns g v a m u b x y → AddsTurns g u b n w c y z → AddsTurns g v a (m + n) w c x z
  both_added v u w a b c m n x y z first later =
      let names : Table = x.entries in
      let long : length (first.moments ++ later.moments) ≡ length first.moments + length later.moments = length-append first.moments later.moments in
      let one = first.turns in
      let other = later.turns in
      record {
        moments = first.moments ++ later.moments;
        took = turns_both g v u w a b c first.moments later.moments first.took later.took;
        turns = omega (arith, long, one, other);
        names = later.names ∙ first.names;
        text =
            later.text ∙ ap (λ (t : Table). y.text ++ trace_of t later.moments) (first.names) ∙ ap (λ (l : List ℕ). l ++ trace_of names later.moments) first.text
            ∙ append_assoc x.text (trace_of names first.moments) (trace_of names later.moments) ∙ ap (λ (l : List ℕ). x.text ++ l) (trace_both names first.moments later.moments);
      }

  -- what is written then, where nothing was before, is the trace of the turns
  pub added_text : (v w : State) (after last number : ℕ) (x y : Lines) → x.text ≡ [] → (adds : AddsTurns g v after number w last x y) → y.text ≡ trace_of x.entries adds.moments
  added_text v w after last number x y empty adds = adds.text ∙ ap (λ (l : List ℕ). l ++ trace_of x.entries adds.moments) empty

abbrev lines_with : Table → List ℕ → Lines
lines_with names text = record { entries = names; text = text }

-- lines are the same where their names and what is written are
pub same_lines : (x y : Lines) → y.entries ≡ x.entries → y.text ≡ x.text → y ≡ x
same_lines x y names text = ap (λ (n : Table). lines_with n y.text) names ∙ ap (λ (l : List ℕ). lines_with x.entries l) text
