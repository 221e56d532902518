-- Entries lead on from one machine to another, with their reasons.
use Rattle.std.proofs.Common.{◌≡◌, List, [], ◌∷◌, ◌++◌, ◌∙◌, Option, None, Some, refl, sym, ap, append_assoc, subst}
use Rattle.std.specs.Prelude.{ℕ, option_to_list}
use Rattle.words.specs.declared.entry.Entry.{Entry}
use Rattle.words.specs.declared.entry.Step.{Step}
use Rattle.table.specs.Program.{AreBytes}
use Rattle.flat.specs.State.{Setting, Flat}
use Rattle.flat.specs.Start.{first_state}
use Rattle.flat.specs.Steps.{IsRun}
use Rattle.flat.proofs.Runs.{run_then, run_setting}
use Rattle.protocol.specs.Caches.{Geometry}
use Rattle.protocol.specs.Machine.{Machine, Steps, Runs}
use Rattle.protocol.specs.Start.{start}
use Rattle.protocol.proofs.Splits.{runs_then}
use Rattle.isolation.specs.Belongs.{Belongs, BelongsAfter}
use Rattle.isolation.specs.Reasons.{HasReasonAfter, HaveReasonsAfter, LeadOn}
use Rattle.isolation.proofs.Belongs.Belonging.{inv_of, belongs_later}
use Rattle.isolation.proofs.Reached.{reason_among}

-- a program that a flat state belongs to has bytes in its segments
pub bytes_of : (g : Geometry) (f : Flat) (s : Setting) (entry : ℕ) (w : Machine) → w ≡ start s entry → Belongs g f w → AreBytes s.segments
bytes_of g f s entry w is b =
    let same : b.setting ≡ s = sym (run_setting (first_state b.setting b.entry) f b.entries b.flat_run) ∙ ((inv_of g f w b).1.same ∙ ap (λ (m : Machine). m.setting) is) in
    subst (λ (t : Setting). AreBytes t.segments) same b.bytes

-- before the first step no entry was given
pub starts_unled : (g : Geometry) (s : Setting) (entry : ℕ) → AreBytes s.segments → BelongsAfter g [] (first_state s entry) (start s entry)
starts_unled g s entry bytes = (record { setting = s; entry = entry; bytes = bytes; steps = []; entries = []; run = (refl, refl); flat_run = refl }, refl)

module _ (g : Geometry) (v w : Machine) (steps : List Step) (es : List Entry) (runs : Runs g v steps es w) (past : List Entry) (f : Flat) (b : Belongs g f v) (is : b.entries ≡ past) where
  -- all steps from the start
  whole : Runs g (start b.setting b.entry) (b.steps ++ steps) (b.entries ++ es) w
  whole = runs_then g (start b.setting b.entry) v w b.steps steps b.entries es b.run runs

  later : (h : Flat) × IsRun f es h × Belongs g h w
  later = belongs_later g f v w steps es b runs

  belongs : BelongsAfter g (past ++ es) later.0 w
  belongs = (
    record {
      setting = b.setting;
      entry = b.entry;
      bytes = b.bytes;
      steps = b.steps ++ steps;
      entries = b.entries ++ es;
      run = whole;
      flat_run = run_then (first_state b.setting b.entry) f later.0 b.entries es b.flat_run later.1;
    },
    ap (λ z. z ++ es) is,
  )

  reasons : HaveReasonsAfter past f es
  reasons before after e h split run =
      let all : b.entries ++ es ≡ (b.entries ++ before) ++ e ∷ after = ap (λ z. b.entries ++ z) split ∙ sym (append_assoc b.entries before (e ∷ after)) in
      subst (λ z. HasReasonAfter (z ++ before) h e) is
      (reason_among g b.setting b.entry (b.steps ++ steps) w (b.entries ++ before) after e h b.bytes
      (subst (λ z. Runs g (start b.setting b.entry) (b.steps ++ steps) z w) all whole)
      (run_then (first_state b.setting b.entry) f h b.entries before b.flat_run run))

-- those of steps do
pub run_leads_on : (g : Geometry) (v w : Machine) (steps : List Step) (es : List Entry) → Runs g v steps es w → LeadOn g v es w
run_leads_on g v w steps es runs past f (b, is) =
    let there = later g v w steps es runs past f b is in
    (there.0, there.1, reasons g v w steps es runs past f b is, belongs g v w steps es runs past f b is)

-- and so does that of one
pub step_leads_on : (g : Geometry) (v w : Machine) (s : Step) (e : Option Entry) → Steps g v s e w → LeadOn g v (option_to_list e) w
step_leads_on g v w s e step = run_leads_on g v w (s ∷ []) (option_to_list e) (w, e, [], step, (refl, refl), alone e)
  where
    alone : (o : Option Entry) → option_to_list o ≡ option_to_list o ++ []
    alone None = refl
    alone (Some x) = refl
