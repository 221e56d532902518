-- Runs that no one tells apart have the same counts.
use Rattle.std.proofs.Common.{◌≡◌, ◌+◌, ◌++◌, ℕ, max, List, [], ◌∷◌, refl, ap}
use Rattle.std.specs.Prelude.{count_by, length}
use Rattle.std.proofs.Math.Path.{fun_ext}
use Rattle.protocol.specs.Caches.{Geometry}
use Rattle.machine.proofs.TwinReads.{as_many_kept}
use Rattle.schedule.specs.Moments.{Moment}
use Rattle.schedule.specs.Twins.{AreTwinMoments, AreTwinRuns}
use Rattle.watch.specs.declared.kinds.Kind.{Kind}
use Rattle.watch.specs.declared.figures.Sum.{Sum}
use Rattle.watch.specs.declared.figures.Figure.{Figure}
use Rattle.watch.specs.declared.figures.Figure.TheVariants as figure
use Rattle.watch.specs.Kinds.{Fresh, none_fresh, one_if, counts_if, counts_asked, asks_if, fresh_behind, fresh_by, goes_to, number_from, number_in, number_of}
use Rattle.watch.specs.Traffic.{was_sent, is_same, sum_of_step, total, in_flight, in_use, most, capped, figure_of}

module _ (g : Geometry) where
  -- of each hart, where the same harts were fresh before the first moment
  same_from : (h : ℕ) (k : Kind) (one other : Fresh) → one ≡ other → (ms ns : List Moment) → AreTwinRuns g ms ns → number_from g.sets h k one ms ≡ number_from g.sets h k other ns
  same_from h k one other same [] [] twins = refl
  same_from h k one other same [] (n ∷ ns) twins = absurd twins
  same_from h k one other same (m ∷ ms) [] twins = absurd twins
  same_from h k one other same (m ∷ ms) (n ∷ ns) (first, rest) =
      let behind : fresh_behind g.sets one m ≡ fresh_behind g.sets other n = λ i. fresh_by (first.after.machine i) (goes_to (first.arrival i)) (first.step i) (same i) in
      let later : number_from g.sets h k (fresh_behind g.sets one m) ms ≡ number_from g.sets h k (fresh_behind g.sets other n) ns =
      same_from h k (fresh_behind g.sets one m) (fresh_behind g.sets other n) behind ms ns rest in
      λ i. number_in h k (counts_if (same i) (first.entry i) ++ counts_asked (first.after.machine i) (first.sent i) (first.after.sent i) (asks_if (first.arrival i)) (first.step i)) + later i

  -- where none was
  pub same_number : (h : ℕ) (k : Kind) (ms ns : List Moment) → AreTwinRuns g ms ns → number_of g.sets h k ms ≡ number_of g.sets h k ns
  same_number h k ms ns twins = same_from h k none_fresh none_fresh refl ms ns twins

  same_total : (s : Sum) (ms ns : List Moment) → AreTwinRuns g ms ns → total s ms ≡ total s ns
  same_total s [] [] twins = refl
  same_total s [] (n ∷ ns) twins = absurd twins
  same_total s (m ∷ ms) [] twins = absurd twins
  same_total s (m ∷ ms) (n ∷ ns) (first, rest) =
      λ i. (one_if (is_same s (sum_of_step (first.step i))) + count_by (was_sent (first.sent i) s) (first.after.flights i)) + same_total s ms ns rest i

  same_most : (level : Moment → ℕ) → ((m n : Moment) → AreTwinMoments g m n → level m ≡ level n) → (ms ns : List Moment) → AreTwinRuns g ms ns → most level ms ≡ most level ns
  same_most level same [] [] twins = refl
  same_most level same [] (n ∷ ns) twins = absurd twins
  same_most level same (m ∷ ms) [] twins = absurd twins
  same_most level same (m ∷ ms) (n ∷ ns) (first, rest) = λ i. max (same m n first i) (same_most level same ms ns rest i)

  same_figure : (ms ns : List Moment) → AreTwinRuns g ms ns → (f : Figure) → figure_of ms f ≡ figure_of ns f
  same_figure ms ns twins (figure.Sum s) = ap capped (same_total s ms ns twins)
  same_figure ms ns twins figure.MostInFlight = same_most in_flight (λ m n first. λ i. length (first.after.flights i)) ms ns twins
  same_figure ms ns twins figure.MostInUse = same_most in_use (λ m n first. as_many_kept g m.after n.after first.after) ms ns twins

  -- of the machine
  pub same_figures : (ms ns : List Moment) → AreTwinRuns g ms ns → figure_of ms ≡ figure_of ns
  same_figures ms ns twins = fun_ext (same_figure ms ns twins)
