-- What walks are made of: each move's entries are a run, and so are those of a walk.
use Rattle.std.proofs.Common.{◌≡◌, ℕ, List, [], ◌∷◌, ◌++◌, refl, ap, subst}
use Rattle.words.specs.declared.entry.Entry.{Entry}
use Rattle.words.specs.declared.entry.Entry.TheVariants.{Retire, Abort, Trap, Refuse, Spill}
use Rattle.words.specs.declared.cause.AbortCause.TheVariants.{Asked, Conflict, LogFull, Trapped}
use Rattle.flat.specs.State.{Flat}
use Rattle.flat.specs.Steps.{Carries, IsRun, IsRunning, hart_of}
use Rattle.flat.proofs.Entries.{retired_by, aborted_by}
use Rattle.flat.proofs.Runs.{run_then, run_setting}
use Rattle.isolation.specs.Moves.{MovesBy, MoveTogether, Moves, Place, Leads}
use Rattle.isolation.specs.Walks.{IsEnded, Walks, WalksInOrder, entries_of}

-- an entry that moves carries
pub moves_carry : (f g : Flat) (e : Entry) → MovesBy f e g → Carries f e g
moves_carry f g (Retire i pc w x l s) m = m
moves_carry f g (Abort i Asked) m = m
moves_carry f g (Abort i Conflict) m = m.1
moves_carry f g (Abort i LogFull) m = m
moves_carry f g (Abort i (Trapped c p)) m = m
moves_carry f g (Trap i c p) m = m
moves_carry f g (Refuse i j b) m = absurd m
moves_carry f g (Spill i b) m = absurd m

-- a move is that of one entry, or of two harts together
pub by_move : (f g : Flat) (P : List Entry → Type 0) → ((e : Entry) → MovesBy f e g → P (e ∷ []))
    → ((i j : ℕ) → MoveTogether f i j g → P (Abort i Conflict ∷ Abort j Conflict ∷ [])) → (es : List Entry) → Moves f es g → P es
by_move f g P one two (e ∷ []) m = one e m
by_move f g P one two (Abort i Conflict ∷ Abort j Conflict ∷ []) m = two i j m
by_move f g P one two es m = absurd m

-- a move's entries are a run
pub move_runs : (f g : Flat) (es : List Entry) → Moves f es g → IsRun f es g
move_runs f g es m =
    by_move f g (λ es. IsRun f es g)
    (λ e k. (g, moves_carry f g e k, refl))
    (λ i j k. (k.between, k.one, (g, k.other, refl)))
    es m

-- and so are those of a walk
pub walk_runs : (p q : Place) (ess : List (List Entry)) → Walks p ess q → IsRun p.flat (entries_of ess) q.flat
walk_runs p q [] k = ap (λ (x : Place). x.flat) k
walk_runs p q (es ∷ rest) k = run_then p.flat k.0.flat q.flat es (entries_of rest) (move_runs p.flat k.0.flat es k.1.moves) (walk_runs k.0 q rest k.2)

-- a walk in order is a walk
pub order_walks : (p q : Place) (ess : List (List Entry)) → WalksInOrder p ess q → Walks p ess q
order_walks p q [] k = k
order_walks p q (es ∷ rest) k = (k.0, record { moves = k.1.moves.moves; reason = k.1.reason; reserved = k.1.reserved }, order_walks k.0 q rest k.2)

-- a walk goes on by one move
pub walk_more : (p q r : Place) (ess : List (List Entry)) (es : List Entry) → Walks p ess q → Leads q es r → Walks p (ess ++ es ∷ []) r
walk_more p q r [] es k m = (r, subst (λ z. Leads z es r) k m, refl)
walk_more p q r (ds ∷ rest) es k m = (k.0, k.1, walk_more k.0 q r rest es k.2 m)

-- a move leaves the setting
pub move_setting : (f g : Flat) (es : List Entry) → Moves f es g → g.setting ≡ f.setting
move_setting f g es m = run_setting f g es (move_runs f g es m)

-- and so does a walk
pub walk_setting : (p q : Place) (ess : List (List Entry)) → Walks p ess q → q.flat.setting ≡ p.flat.setting
walk_setting p q ess k = run_setting p.flat q.flat (entries_of ess) (walk_runs p q ess k)

-- the hart of an entry that moves runs
pub mover_runs : (f g : Flat) (e : Entry) → MovesBy f e g → IsRunning f (hart_of e)
mover_runs f g (Retire i pc w x l s) m = let r = retired_by f g i pc w x l s m in r.2.running
mover_runs f g (Abort i Asked) m = let r = aborted_by f g i Asked m in r.2.running
mover_runs f g (Abort i Conflict) m = m.0.running
mover_runs f g (Abort i LogFull) m = let r = aborted_by f g i LogFull m in r.2.running
mover_runs f g (Abort i (Trapped c p)) m = let r = aborted_by f g i (Trapped c p) m in r.2.running
mover_runs f g (Trap i c p) m = m.running
mover_runs f g (Refuse i j b) m = absurd m
mover_runs f g (Spill i b) m = absurd m

-- where no hart runs there is no move
pub no_move : (f g : Flat) (es : List Entry) → IsEnded f → Moves f es g → ⊥
no_move f g es ended m =
    by_move f g (λ es. ⊥)
    (λ e k. let r = mover_runs f g e k in ended (hart_of e) r.hart r.runs)
    (λ i j k. ended i k.first.running.hart k.first.running.runs)
    es m
