-- The events of moments that are put one after another.
use Rattle.std.proofs.Common.{◌≡◌, ◌++◌, ℕ, List, [], ◌∷◌, Ok, Err, refl, sym, ap, ◌∙◌, subst, ap₂, append_assoc}
use Rattle.std.proofs.lemmas.List.{append-nil}
use Rattle.words.specs.declared.sink.SinkFault.{SinkFault}
use Rattle.words.specs.Sinks.{SinkState, TookAll, TookPart}
use Rattle.texts.specs.Puts.{Puts}
use Rattle.texts.proofs.Putting.{took-nothing, took-both, took-then-part}
use Rattle.machine.specs.States.{shown}
use Rattle.schedule.specs.Moments.{Moment}
use Rattle.timeline.specs.declared.edge.Edge.{Edge}
use Rattle.timeline.specs.Notes.{PutEvents}
use Rattle.timeline.specs.Marks.{lane_of, label_of, edge_of}
use Rattle.timeline.specs.Events.{next_time, slice_event, events_before, events_behind, arrival_event, sent_events, events_of, events_from, time_behind}

-- the events of a moment, by its lane and its edge
abbrev pub events_by : ℕ → ℕ → Edge → Moment → List ℕ
events_by time lane edge m =
    events_before time lane edge ++ (slice_event time lane (label_of m.step m.arrival m.entry) ++ (arrival_event time lane m.arrival ++ (sent_events time lane m.sent m.after.flights ++ events_behind time lane edge)))

pub same_events : (sets time lane : ℕ) (edge : Edge) (m : Moment) → lane ≡ lane_of m.step m.arrival → edge ≡ edge_of m.entry (shown sets m.after) → events_by time lane edge m ≡ events_of sets time m
same_events sets time lane edge m lane_is edge_is = ap₂ (λ (l : ℕ) (e : Edge). events_by time l e m) lane_is edge_is

-- the events of moments, and of others behind them
events_both : (sets time : ℕ) (ms ns : List Moment) → events_from sets time ms ++ events_from sets (time_behind time ms) ns ≡ events_from sets time (ms ++ ns)
events_both sets time [] ns = refl
events_both sets time (m ∷ ms) ns =
    append_assoc (events_of sets time m) (events_from sets (next_time time) ms) (events_from sets (time_behind (next_time time) ms) ns)
    ∙ ap (λ (text : List ℕ). events_of sets time m ++ text) (events_both sets (next_time time) ms ns)

time_both : (time : ℕ) (ms ns : List Moment) → time_behind (time_behind time ms) ns ≡ time_behind time (ms ++ ns)
time_both time [] ns = refl
time_both time (m ∷ ms) ns = time_both (next_time time) ms ns

module _ (sets : ℕ) (a : SinkState) (t : ℕ) where
  pub put_none : PutEvents sets a t [] a t
  put_none = record { events = took-nothing a; time = refl }

  pub put_both : (b c : SinkState) (u w : ℕ) (ms ns : List Moment) → PutEvents sets a t ms b u → PutEvents sets b u ns c w → PutEvents sets a t (ms ++ ns) c w
  put_both b c u w ms ns first later = record {
    events = subst (λ (text : List ℕ). TookAll a c text) (events_both sets t ms ns)
        (took-both a b c (events_from sets t ms) (events_from sets (time_behind t ms) ns) first.events (subst (λ (time : ℕ). TookAll b c (events_from sets time ns)) first.time later.events));
    time = later.time ∙ ap (λ (time : ℕ). time_behind time ns) first.time ∙ time_both t ms ns;
  }

  pub put_part : (b c : SinkState) (u : ℕ) (ms ns : List Moment) → PutEvents sets a t ms b u → TookPart b c (events_from sets u ns) → TookPart a c (events_from sets t (ms ++ ns))
  put_part b c u ms ns first part = subst (λ (text : List ℕ). TookPart a c text) (events_both sets t ms ns)
      (took-then-part a b c (events_from sets t ms) (events_from sets (time_behind t ms) ns) first.events (subst (λ (time : ℕ). TookPart b c (events_from sets time ns)) first.time part))

  -- those of one moment
  pub put_one : (b : SinkState) (m : Moment) → Puts a b (events_of sets t m) (Ok tt) → PutEvents sets a t (m ∷ []) b (next_time t)
  put_one b m puts = record { events = subst (λ (text : List ℕ). TookAll a b text) (sym (append-nil (events_of sets t m))) (record { whole = puts.whole; clean = puts.clean }); time = refl }

  pub part_of_one : (b : SinkState) (m : Moment) (fault : SinkFault) → Puts a b (events_of sets t m) (Err fault) → TookPart a b (events_from sets t (m ∷ []))
  part_of_one b m fault puts = subst (λ (text : List ℕ). TookPart a b text) (sym (append-nil (events_of sets t m))) (record { part = puts.part; fault = puts.fault })
