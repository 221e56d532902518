-- An end of the coherent machine is the end of a walk in order.
use Rattle.std.proofs.Common.{◌≡◌, ◌≢◌, ◌<◌, ℕ, List, ◌∷◌, ◌++◌, ◌∙◌, subst}
use Rattle.words.specs.declared.cause.Status.TheVariants.{Running}
use Rattle.words.specs.declared.cause.AbortCause.TheVariants.{Conflict, LogFull}
use Rattle.words.specs.declared.entry.Entry.{Entry}
use Rattle.words.specs.declared.entry.Entry.TheVariants.{Retire, Abort, Refuse, Spill}
use Rattle.words.specs.declared.entry.Step.{Step}
use Rattle.table.specs.Program.{AreBytes}
use Rattle.flat.specs.State.{Setting, Flat}
use Rattle.flat.specs.Start.{first_state}
use Rattle.flat.specs.Steps.{IsRun}
use Rattle.flat.proofs.Runs.{run_setting}
use Rattle.protocol.specs.Caches.{Geometry}
use Rattle.protocol.specs.Machine.{Machine, Runs}
use Rattle.protocol.specs.Start.{start}
use Rattle.isolation.specs.Belongs.{Belongs}
use Rattle.isolation.proofs.Belongs.Belonging.{belongs_after, answers_after, refusal_among, conflict_among}
use Rattle.isolation.proofs.Rooms.StepsExist.{keys_of}
use Rattle.isolation.specs.Moves.{first_place}
use Rattle.isolation.specs.Walks.{IsEnded, WalksInOrder}
use Rattle.isolation.specs.Reasons.{HasReasonAfter, HaveReasons}
use Rattle.flat.specs.Reservations.{reservations_of}
use Rattle.isolation.proofs.Reserved.{store_among}
use Rattle.isolation.proofs.Footprints.Reasoned.{spill_among, full_log_among}
use Rattle.isolation.proofs.InOrder.{in_order}
use Rattle.isolation.proofs.Beside.{walk_there}

-- each entry of the coherent machine's has its reason
pub reason_among : (g : Geometry) (s : Setting) (entry : ℕ) (steps : List Step) (w : Machine) (before after : List Entry) (e : Entry) (f : Flat)
    → AreBytes s.segments → Runs g (start s entry) steps (before ++ e ∷ after) w → IsRun (first_state s entry) before f → HasReasonAfter before f e
reason_among g s entry steps w before after (Refuse j i b) f bytes runs run = refusal_among g s entry steps before after f w j i b bytes runs run
reason_among g s entry steps w before after (Abort i Conflict) f bytes runs run = conflict_among g s entry steps before after w i bytes runs
reason_among g s entry steps w before after (Spill i b) f bytes runs run = spill_among g s entry bytes steps before after f w i b runs run
reason_among g s entry steps w before after (Abort i LogFull) f bytes runs run = full_log_among g s entry bytes steps before after f w i runs run
reason_among g s entry steps w before after (Retire i pc word write load store) f bytes runs run = store_among g s entry bytes steps before after w i pc word write load store runs
reason_among g s entry steps w before after e f bytes runs run = tt

pub have_reasons : (g : Geometry) (s : Setting) (entry : ℕ) (steps : List Step) (es : List Entry) (w : Machine) → AreBytes s.segments → Runs g (start s entry) steps es w → HaveReasons (first_state s entry) es
have_reasons g s entry steps es w bytes runs = λ before after e f is run.
    reason_among g s entry steps w before after e f bytes (subst (λ z. Runs g (start s entry) steps z w) is runs) run

-- each hart of the flat state stops where the machine's does
ended_with : (g : Geometry) (f : Flat) (w : Machine) → Belongs g f w → ((i : ℕ) → i < f.setting.count → (w.harts i).status ≢ Running) → IsEnded f
ended_with g f w b stopped i lt runs =
    let keys = keys_of g f w b in
    stopped i lt (((answers_after g f w keys.0 b keys.1).harts i).status ∙ runs)

pub end_reached : (g : Geometry) (s : Setting) (entry : ℕ) (steps : List Step) (es : List Entry) (w : Machine)
    → AreBytes s.segments → Runs g (start s entry) steps es w → ((i : ℕ) → i < s.count → (w.harts i).status ≢ Running)
    → (f : Flat) × (ess : List (List Entry)) × WalksInOrder (first_place s entry) ess (record { flat = f; reserved = reservations_of es }) × IsEnded f × Belongs g f w
end_reached g s entry steps es w bytes runs stopped =
    let b = belongs_after g s entry steps es w bytes runs in
    let setting : b.0.setting ≡ s = run_setting (first_state s entry) b.0 es b.1 in
    let ended = ended_with g b.0 w b.2 (λ i lt. stopped i (subst (λ (z : Setting). i < z.count) setting lt)) in
    let walk = walk_there s entry es b.0 (have_reasons g s entry steps es w bytes runs) b.1 in
    let order = in_order (first_place s entry) (record { flat = b.0; reserved = reservations_of es }) walk.0 walk.1 ended in
    (b.0, order.0, order.1, ended, b.2)
