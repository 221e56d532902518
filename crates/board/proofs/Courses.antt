-- What has led to a machine, with more behind it.
use Rattle.std.proofs.Common.{◌≡◌, ◌<◌, ◌-◌, ◌^◌, ◌++◌, ℕ, All, List, [], ◌∷◌, length, Option, Some, None, Result, Ok, Err, refl, sym, ap, ap₂, subst, ◌∙◌, append_assoc, append-nil, arith}
use Rattle.std.specs.Prelude.{option_to_list, IfOk, OnOk, OnErr}
use Rattle.std.proofs.lemmas.List.Elements.{All-nil, All-cons, All-append, All-replicate}
use Rattle.words.specs.Limits.{most_harts}
use Rattle.words.specs.declared.entry.Entry.{Entry}
use Rattle.words.specs.declared.entry.Step.{Step}
use Rattle.table.specs.Program.{AreBytes}
use Rattle.loader.specs.Programs.{Program}
use Rattle.flat.specs.State.{Setting}
use Rattle.protocol.specs.Caches.{Geometry}
use Rattle.protocol.specs.Start.{start}
use Rattle.protocol.specs.Machine.{Runs}
use Rattle.machine.specs.Making.{MakesStep}
use Rattle.machine.specs.States.{State, setting_of, shown}
use Rattle.machine.proofs.Made.{steps_of}
use Rattle.schedule.specs.declared.choices.Choice.{Choice}
use Rattle.schedule.specs.declared.choices.Choice.TheVariants.{Core}
use Rattle.schedule.specs.Moments.{Moment, moment, moments}
use Rattle.schedule.specs.Runs.{Makes, Follows, last_after}
use Rattle.schedule.specs.Written.{IsWritable}
use Rattle.schedule.proofs.Making.{entries_both, entries_one}
use Rattle.schedule.proofs.Readable.{within_writable}
use Rattle.board.specs.Leases.{Lent}
use Rattle.schedule.specs.Steps.{IsChoiceOf, IsWithin}
use Rattle.board.specs.Histories.{Told, IsChosen, IsOf, Leads, LeadsAlone, no_step, one_step, core_steps, both, told_then, first_flat, IsReplay, IsCourse, IsCourseIf, IsKept, IsEnd}
use Rattle.board.proofs.Replays.{Begins, run_settings, replay_none, replay_more, replay_segments, replay_flat}

-- choices behind others
follows_on : (g : Geometry) (cs ds : List Choice) (v u w : State) (after : ℕ) (ms ns : List Moment) → Follows g cs (length cs) v after ms u → ((after : ℕ) → Follows g ds (length ds) u after ns w)
    → Follows g (cs ++ ds) (length (cs ++ ds)) v after (ms ++ ns) w
follows_on g [] ds v u w after ms ns (none, same) leads =
    subst (λ (xs : List Moment). Follows g ds (length ds) v after (xs ++ ns) w) (sym none) (subst (λ (x : State). Follows g ds (length ds) x after ns w) same (leads after))
follows_on g (c ∷ cs) ds v u w after ms ns (step, e, x, rest, chosen, made, f, is) leads = (
  step,
  e,
  x,
  rest ++ ns,
  chosen,
  made,
  follows_on g cs ds x u w (last_after step after) rest ns f leads,
  ap (λ xs. xs ++ ns) is ∙ append_assoc (moments v step e x) rest ns,
)

-- steps that were choices, and more
pub chosen_then : (told more : Told) → IsChosen told → IsChosen more → IsChosen (told_then told more)
chosen_then told more (cs, a) (ds, b) = (cs ++ ds, ap₂ both a b)

-- a step that was a choice
pub chosen_made : {E : Type 0} (g : Geometry) (m next : State) (step : Step) (c : Choice) (r : Result Unit E) → OnOk r ((e : Option Entry) × MakesStep g m step e next)
    → OnOk r ((e : Option Entry) × Makes g m (Some step) e next × ((told : Told) → IsChosen told → IsChosen (told_then told (one_step step e (Some c)))))
chosen_made g m next step c (Ok _) (e, made) = (e, made, λ told chosen. chosen_then told (one_step step e (Some c)) chosen (c ∷ [], refl))
chosen_made g m next step c (Err _) made = tt {0}

-- one choice
pub leads_one : (g : Geometry) (c : Choice) (step : Step) (e : Option Entry) (v w : State) → IsChoiceOf g.sets v step c → Makes g v (Some step) e w → Leads g (c ∷ []) v (option_to_list e) w
leads_one g c step e v w chosen made =
    (moment v step e w ∷ [], entries_one g v w (Some step) e made, λ after. (Some step, e, w, [], chosen after, made, (refl, refl), refl))

-- one step
pub runs_one : (g : Geometry) (m next : State) (step : Step) (e : Option Entry) → Makes g m (Some step) e next → Runs g (shown g.sets m) (step ∷ []) (option_to_list e) (shown g.sets next)
runs_one g m next step e made = (shown g.sets next, e, [], steps_of g m step e next made, (refl, refl), sym (append-nil (option_to_list e)))

-- choices behind others lead on
pub leads_then : (g : Geometry) (cs ds : List Choice) (v u w : State) (es fs : List Entry) → Leads g cs v es u → Leads g ds u fs w → Leads g (cs ++ ds) v (es ++ fs) w
leads_then g cs ds v u w es fs (ms, given, follows) (ns, more, on) =
    (ms ++ ns, ap₂ (λ (xs ys : List Entry). xs ++ ys) given more ∙ sym (entries_both ms ns), λ after. follows_on g cs ds v u w after ms ns (follows after) on)

-- choices that are known, each of which can be written, lead on
abbrev LeadsIf : Geometry → Option (List Choice) → State → List Entry → State → Type 0
LeadsIf g (Some choices) v es w = All IsWritable choices × Leads g choices v es w
LeadsIf g None v es w = Unit {0}

module _ (g : Geometry) (p : Program) (n size : ℕ) where
  pub course_on : (cs ds : Option (List Choice)) (m next : State) (es fs : List Entry) → IsCourseIf g p n size cs es m → LeadsIf g ds m fs next → IsCourseIf g p n size (both cs ds) (es ++ fs) next
  course_on (Some cs) (Some ds) m next es fs c (writable, (ms, given, leads)) = record {
    boots = c.boots;
    first = c.first;
    starts = c.starts;
    unused = c.unused;
    writable = All-append IsWritable cs ds c.writable writable;
    moments = c.moments ++ ms;
    given = ap₂ (λ (xs ys : List Entry). xs ++ ys) c.given given ∙ sym (entries_both c.moments ms);
    follows = follows_on g cs ds c.first m next ((setting_of c.first).count - 1) c.moments ms c.follows leads;
  }
  course_on (Some cs) None m next es fs c leads = tt {0}
  course_on None (Some ds) m next es fs c leads = tt {0}
  course_on None None m next es fs c leads = tt {0}

  -- it begins where it did
  pub course_first : (cs ds : List Choice) (m next : State) (es fs : List Entry) (c : IsCourse g p n size cs es m) (leads : LeadsIf g (Some ds) m fs next)
      → (course_on (Some cs) (Some ds) m next es fs c leads).first ≡ c.first
  unfolding course_on
  course_first cs ds m next es fs c (writable, (ms, given, leads)) = refl

  pub kept_segments : (tells : Told → Type 0) (m : State) → IsKept g p n size tells m → m.program.segments ≡ p.segments
  kept_segments tells m k = replay_segments g p n size k.all.steps m k.all.entries k.replay

  kept_size : (tells : Told → Type 0) (m : State) → IsKept g p n size tells m → (setting_of m).size ≡ size
  kept_size tells m k = ap (λ (s : Setting). s.size) (run_settings g (start (first_flat p n size).setting p.entry) (shown g.sets m) k.all.steps k.all.entries k.replay.runs)

  -- a choice within memory can be written
  pub kept_writable : (tells : Told → Type 0) (m : State) (c : Choice) → size < 2 ^ 32 → IsKept g p n size tells m → IsWithin (setting_of m) c → IsWritable c
  kept_writable tells m c less k within = within_writable (setting_of m) c (omega (arith, less, kept_size tells m k)) within

  -- the beginning
  pub kept_first : (tells : Told → Type 0) (m : State) → Begins g p n size m → tells no_step → IsKept g p n size tells m
  kept_first tells m b told = record {
    all = no_step;
    told = told;
    replay = replay_none g p n size m b;
    course = record { boots = b.boots; first = m; starts = b.machine; unused = b.unused; writable = All-nil IsWritable; moments = []; given = refl; follows = (refl, refl) };
  }

  -- more
  kept_on : (tells later : Told → Type 0) (m next : State) (more : Told) → IsKept g p n size tells m → Runs g (shown g.sets m) more.steps more.entries (shown g.sets next)
      → LeadsIf g more.choices m more.entries next → ((told : Told) → tells told → later (told_then told more)) → IsKept g p n size later next
  kept_on tells later m next more k runs leads told = record {
    all = told_then k.all more;
    told = told k.all k.told;
    replay = replay_more g p n size k.all.steps more.steps m next k.all.entries more.entries k.replay runs;
    course = course_on k.all.choices more.choices m next k.all.entries more.entries k.course leads;
  }

  -- nothing
  pub kept_still : (tells later : Told → Type 0) (m next : State) → IsKept g p n size tells m → next ≡ m → ((told : Told) → tells told → later told) → IsKept g p n size later next
  kept_still tells later m next k same still =
      subst (IsKept g p n size later) (sym same) (record { all = k.all; told = still k.all k.told; replay = k.replay; course = k.course })

  -- a step
  kept_turn : (tells later : Told → Type 0) (m next : State) (step : Step) (e : Option Entry) → IsKept g p n size tells m → Makes g m (Some step) e next
      → ((told : Told) → tells told → later (told_then told (one_step step e None))) → IsKept g p n size later next
  kept_turn tells later m next step e k made told = kept_on tells later m next (one_step step e None) k (runs_one g m next step e made) (tt {0}) told

  -- the same of just these steps; or none, where memory ran out
  pub kept_step : {E : Type 0} (steps later : List Step) (es after : List Entry) (m next : State) (step : Step) (r : Result (Option Entry) E) → IsKept g p n size (IsOf steps es) m
      → IfOk r (λ e. Makes g m (Some step) e next) → OnOk r (later ≡ steps ++ step ∷ []) → IfOk r (λ e. after ≡ es ++ option_to_list e)
      → OnErr r ((next ≡ m) × (later ≡ steps) × (after ≡ es)) → IsKept g p n size (IsOf later after) next
  kept_step steps later es after m next step (Ok e) k made hs ts err =
      kept_turn (IsOf steps es) (IsOf later after) m next step e k made (λ told of. (ap (λ xs. xs ++ step ∷ []) of.0 ∙ sym hs, ap (λ xs. xs ++ option_to_list e) of.1 ∙ sym ts))
  kept_step steps later es after m next step (Err _) k made hs ts (same, history, entries) =
      kept_still (IsOf steps es) (IsOf later after) m next k same (λ told of. (of.0 ∙ sym history, of.1 ∙ sym entries))

  pub kept_replay : (steps : List Step) (es : List Entry) (m : State) → IsKept g p n size (IsOf steps es) m → IsReplay g p n size steps m es
  kept_replay steps es m k = subst (λ xs. IsReplay g p n size xs m es) k.told.0 (subst (λ ys. IsReplay g p n size k.all.steps m ys) k.told.1 k.replay)

  -- a step that was a choice; or none, where memory ran out
  pub kept_made : {E : Type 0} (tells later : Told → Type 0) (m next : State) (step : Step) (c : Choice) (r : Result Unit E) → size < 2 ^ 32 → IsKept g p n size tells m
      → IsChoiceOf g.sets m step c → IsWithin (setting_of m) c
      → OnOk r ((e : Option Entry) × Makes g m (Some step) e next × ((told : Told) → tells told → later (told_then told (one_step step e (Some c)))))
      → OnErr r ((next ≡ m) × ((told : Told) → tells told → later told)) → IsKept g p n size later next
  kept_made tells later m next step c (Ok _) less k chosen within (e, made, told) err =
      kept_on tells later m next (one_step step e (Some c)) k (runs_one g m next step e made)
      (All-cons IsWritable c [] (kept_writable tells m c less k within) (All-nil IsWritable), leads_one g c step e m next chosen made) told
  kept_made tells later m next step c (Err _) less k chosen within ok (same, still) = kept_still tells later m next k same still

  -- a lease's steps
  pub kept_lent : {T : Type 0} (traces : T → List Entry → Type 0) (tells later : Told → Type 0) (m next : State) (l : Lent T) → IsKept g p n size tells m → l.id < most_harts
      → LeadsAlone g traces m l next
      → ((es : List Entry) → traces l.trace es → length es ≡ l.steps → (told : Told) → tells told → later (told_then told (core_steps l.id es))) → IsKept g p n size later next
  kept_lent traces tells later m next l k few (es, traced, count, runs, leads) noted =
      kept_on tells later m next (core_steps l.id es) k runs (All-replicate IsWritable (length es) (Core l.id) few, leads) (noted es traced count)

  pub kept_end : (tells : Told → Type 0) (m : State) → AreBytes p.segments → IsKept g p n size tells m → IsEnd g p n size tells m
  kept_end tells m bytes k =
      let f = replay_flat g p n size k.all.steps m k.all.entries bytes k.replay in
      record { kept = k; flat = f.0; runs = f.1; reasons = f.2; belongs = f.3 }
