-- Runs that no one tells apart have the same page.
use Rattle.std.proofs.Common.{◌≡◌, ◌++◌, ◌∙◌, ℕ, cond, nat_lt, Option, Some, None, List, [], ◌∷◌, codes, refl, ap}
use Rattle.std.specs.Option.{option_map}
use Rattle.std.specs.List.{flat_map, range_with_len}
use Rattle.std.proofs.Math.Path.{fun_ext}
use Rattle.flat.specs.Reads.{word_if}
use Rattle.table.specs.Program.{word_at}
use Rattle.protocol.specs.Caches.{Geometry}
use Rattle.protocol.specs.Values.{raw, peek}
use Rattle.disassembler.specs.Labels.{label}
use Rattle.disassembler.specs.Tables.{Table}
use Rattle.machine.specs.Reads.{info_of}
use Rattle.machine.specs.States.{State, setting_of, shown}
use Rattle.machine.specs.Twins.{AreTwins}
use Rattle.machine.proofs.TwinReads.{each_kept}
use Rattle.schedule.specs.Moments.{Moment}
use Rattle.schedule.specs.Twins.{AreTwinMoments, AreTwinRuns}
use Rattle.pages.specs.Form.{tail}
use Rattle.pages.specs.Names.{name_text}
use Rattle.pages.specs.Flights.{flight_item, first_told}
use Rattle.pages.specs.Memory.{value_item, word_item, digits_item}
use Rattle.pages.specs.Harts.{progress_text, waits_text, transaction_text, registers_text, line_item, cache_text, hart_text, hart_item, harts_text}
use Rattle.pages.specs.Moments.{event_text, step_text, arrival_text, actor_of, actor_text, rest_text, moment_text, moments_text}
use Rattle.pages.specs.Pages.{sizes_text, opening, page_of}

module _ (names : Table) (g : Geometry) (words : List ℕ) where
  module _ (v w : State) (twins : AreTwins g v w) where
    same_cache : (i : ℕ) → cache_text g.sets v i ≡ cache_text g.sets w i
    same_cache i = ap (λ items. codes "lines:[" ++ (items ++ codes "]}"))
        ((λ k. flat_map (λ e. line_item e.0 (((twins.machine k).harts i).lines e.0)) v.directory.kept)
        ∙ each_kept g v w twins (λ e. line_item e.0 (((shown g.sets w).harts i).lines e.0)))

    same_hart : (i : ℕ) → hart_text names g.sets v i ≡ hart_text names g.sets w i
    same_hart i = λ k.
        progress_text i ((twins.machine k).harts i).pc ((twins.machine k).harts i).status (word_at (twins.machine k).setting.segments ((twins.machine k).harts i).pc)
        ++ (name_text (label names ((twins.machine k).harts i).pc)
        ++ (waits_text (option_map (λ r. r.block) ((twins.machine k).harts i).request)
        ++ (transaction_text (option_map info_of ((twins.machine k).harts i).tx) ++ (registers_text ((twins.machine k).harts i).regs ++ same_cache i k))))

    same_harts : harts_text names g.sets v ≡ harts_text names g.sets w
    same_harts = (λ k. flat_map (hart_item names g.sets v) (range_with_len 0 (twins.machine k).setting.count))
        ∙ ap (λ (item : ℕ → List ℕ). flat_map item (range_with_len 0 (setting_of w).count)) (fun_ext (λ i. ap (λ text. text ++ codes ",") (same_hart i)))

    same_word : (a : ℕ) → word_item g.sets v a ≡ word_item g.sets w a
    same_word a = λ k. value_item (word_if (twins.machine k).setting (raw (twins.sent k) (twins.machine k)) a) ++ value_item (word_if (twins.machine k).setting (peek (twins.sent k) (twins.machine k)) a)

    -- the messages in flight, and the words
    same_rest : (sent : ℕ) → rest_text g.sets words sent v ≡ rest_text g.sets words sent w
    same_rest sent =
        let all : flat_map (word_item g.sets v) words ≡ flat_map (word_item g.sets w) words = ap (λ (item : ℕ → List ℕ). flat_map item words) (fun_ext same_word) in
        λ k. codes "flights:[" ++ (flat_map (flight_item (first_told sent (twins.sent k))) (twins.flights k) ++ (codes "],words:[" ++ (all k ++ codes "]},\n")))

    same_actor : (actor : Option ℕ) → actor_text names g.sets v actor ≡ actor_text names g.sets w actor
    same_actor None = refl
    same_actor (Some i) = λ k. cond (nat_lt i (twins.machine k).setting.count) (codes "hart:" ++ (same_hart i k ++ codes ",")) []

    same_opening : opening names g v words ≡ opening names g w words
    same_opening = λ k. sizes_text g (twins.machine k).setting.count
        ++ (flat_map digits_item words ++ (codes "],first:{harts:[" ++ (same_harts k ++ (codes "]," ++ (same_rest 0 k ++ codes "moments:[\n")))))

  same_moment : (m n : Moment) → AreTwinMoments g m n → moment_text names g.sets words m ≡ moment_text names g.sets words n
  same_moment m n twins =
      let actor : actor_text names g.sets m.after (actor_of m.step m.arrival) ≡ actor_text names g.sets n.after (actor_of n.step n.arrival) =
      (λ k. actor_text names g.sets m.after (actor_of (twins.step k) (twins.arrival k))) ∙ same_actor m.after n.after twins.after (actor_of n.step n.arrival) in
      let rest : rest_text g.sets words m.sent m.after ≡ rest_text g.sets words n.sent n.after =
      (λ k. rest_text g.sets words (twins.sent k) m.after) ∙ same_rest m.after n.after twins.after n.sent in
      λ k. event_text names (twins.entry k) ++ (step_text (twins.step k) ++ (arrival_text (twins.after.machine k) (twins.arrival k) ++ (actor k ++ rest k)))

  same_moments : (ms ns : List Moment) → AreTwinRuns g ms ns → moments_text names g.sets words ms ≡ moments_text names g.sets words ns
  same_moments [] [] twins = refl
  same_moments [] (n ∷ ns) twins = absurd twins
  same_moments (m ∷ ms) [] twins = absurd twins
  same_moments (m ∷ ms) (n ∷ ns) (first, rest) = λ k. same_moment m n first k ++ same_moments ms ns rest k

  pub same_page : (v w : State) (ms ns : List Moment) → AreTwins g v w → AreTwinRuns g ms ns → page_of names g v words ms ≡ page_of names g w words ns
  same_page v w ms ns first twins = λ k. same_opening v w first k ++ (same_moments ms ns twins k ++ tail)
