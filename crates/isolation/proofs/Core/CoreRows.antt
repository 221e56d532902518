-- A core step keeps the invariant.
use Rattle.std.proofs.Common.{◌≡◌, ◌<◌, ℕ, Option, None, Some, refl}
use Rattle.words.specs.declared.entry.Entry.{Entry}
use Rattle.words.specs.declared.message.Kind.{Kind}
use Rattle.protocol.specs.Hart.{HartResult}
use Rattle.protocol.specs.Core.{Move, Rests, Makes, Lacks, core_move, fetch_row, move_row, core_row}
use Rattle.protocol.specs.Machine.{Machine, hart_change_if, ComesAbout}
use Rattle.isolation.proofs.Machine.World.{World}
use Rattle.isolation.proofs.Machine.Invariant.{Inv, Next, still_next}
use Rattle.isolation.proofs.Core.FetchRows.{made_fetch}
use Rattle.isolation.proofs.Core.ResultNext.{made_next}
use Rattle.isolation.proofs.Core.CoreMoves.{MoveIs, move_is}

-- whatever the core does, or if it can't
pub core_next : (x : World) (v : Inv x) (i : ℕ) → i < x.machine.setting.count → (victim : ℕ → Option ℕ) (e : Option Entry) (w : Machine) → ComesAbout (hart_change_if i (core_row x.machine.setting i x.machine.stamps victim (x.machine.harts i)) x.machine) e w → Next x e w
core_next x v i o victim e w c = by_move (core_move x.machine.setting i x.machine.stamps (x.machine.harts i)) (move_is x v i o) c
  where
    by_fetch : (kind : Kind) (b : ℕ) → MoveIs x i (Lacks kind b) → (z : Option HartResult) → fetch_row i victim kind b (x.machine.harts i) ≡ z → ComesAbout (hart_change_if i z x.machine) e w → Next x e w
    by_fetch kind b m None k c = still_next x v e w c
    by_fetch kind b m (Some t) k c = made_next x v i o t e w (made_fetch x v i o victim kind b t m.2 m.0 m.1 k) c

    by_move : (z : Move) → MoveIs x i z → ComesAbout (hart_change_if i (move_row i victim z (x.machine.harts i)) x.machine) e w → Next x e w
    by_move Rests m c = still_next x v e w c
    by_move (Makes t) m c = made_next x v i o t e w m c
    by_move (Lacks kind b) m c = by_fetch kind b m (fetch_row i victim kind b (x.machine.harts i)) refl c
