-- Counts that are the same, number by number, have the same texts.
use Rattle.std.proofs.Common.{◌≡◌, ◌++◌, ℕ, List, [], ◌∷◌, Option, Some, None, codes, refl, ap, ap₂}
use Rattle.std.specs.Prelude.{decimal}
use Rattle.std.specs.List.{concat, flat_map, range_with_len}
use Rattle.watch.specs.declared.kinds.Kind.{Kind}
use Rattle.watch.specs.declared.figures.Figure.{Figure}
use Rattle.watch.specs.CountTexts.{count_cell, count_line, cell, row_name, row_text, rows, table, csv_line, csv_lines, csv, kinds}
use Rattle.watch.specs.MachineTexts.{figures, figure_label, figure_name, figure_row, figure_line, machine_table, machine_lines}

each : {X : Type 0} (f g : X → List ℕ) (xs : List X) → ((x : X) → f x ≡ g x) → flat_map f xs ≡ flat_map g xs
each f g [] same = refl
each f g (x ∷ xs) same = ap₂ (λ (a b : List ℕ). a ++ b) (same x) (each f g xs same)

module _ (c d : ℕ → Kind → ℕ) (same : (h : ℕ) (k : Kind) → c h k ≡ d h k) where
  same_cell : (row : Option Kind) (h : ℕ) → cell c row h ≡ cell d row h
  same_cell None h = refl
  same_cell (Some kind) h = ap count_cell (same h kind)

  same_row : (harts : ℕ) (row : Option Kind) → row_text c harts row ≡ row_text d harts row
  same_row harts row = ap (λ (cells : List ℕ). row_name row ++ (cells ++ codes "\n")) (each (cell c row) (cell d row) (range_with_len 0 harts) (same_cell row))

  pub same_table : (harts : ℕ) → table c harts ≡ table d harts
  same_table harts = each (row_text c harts) (row_text d harts) rows (same_row harts)

  same_lines : (h : ℕ) → csv_lines c h ≡ csv_lines d h
  same_lines h = each (csv_line c h) (csv_line d h) kinds (λ k. ap (count_line h k) (same h k))

  pub same_csv : (harts : ℕ) → csv c harts ≡ csv d harts
  same_csv harts = ap (λ (lines : List ℕ). codes "hart,what,count\n" ++ lines) (each (csv_lines c) (csv_lines d) (range_with_len 0 harts) same_lines)

module _ (n m : Figure → ℕ) (same : (f : Figure) → n f ≡ m f) where
  same_figure_row : (f : Figure) → figure_row n f ≡ figure_row m f
  same_figure_row f = ap (λ (k : ℕ). figure_label f ++ (count_cell k ++ codes "\n")) (same f)

  pub same_machine_table : machine_table n ≡ machine_table m
  same_machine_table = ap (λ (rows : List ℕ). codes "                     machine\n" ++ rows) (each (figure_row n) (figure_row m) figures same_figure_row)

  same_figure_line : (f : Figure) → figure_line n f ≡ figure_line m f
  same_figure_line f = ap (λ (k : ℕ). concat (codes "machine," ∷ figure_name f ∷ codes "," ∷ decimal k ∷ codes "\n" ∷ [])) (same f)

  pub same_machine_lines : machine_lines n ≡ machine_lines m
  same_machine_lines = each (figure_line n) (figure_line m) figures same_figure_line
