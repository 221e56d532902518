-- What comes about of a hart's turn, and of an eviction.
use Rattle.std.proofs.Common.{◌≡◌, ◌<◌, ℕ, Option, None, Some, refl, sym, subst₂}
use Rattle.words.specs.declared.entry.Entry.{Entry}
use Rattle.protocol.specs.Hart.{Hart, HartResult}
use Rattle.protocol.specs.Evict.{evict_row}
use Rattle.protocol.specs.Machine.{Machine, hart_change, hart_change_if, ComesAbout}
use Rattle.isolation.proofs.Machine.World.{World}
use Rattle.isolation.proofs.Machine.Invariant.{Inv, Next, still_next}
use Rattle.isolation.proofs.HartMessages.OneHartMoves.{moves_next}
use Rattle.isolation.proofs.Core.HartResults.{Made}
use Rattle.isolation.proofs.Core.EvictRows.{made_evict}

module _ (x : World) (v : Inv x) (i : ℕ) (o : i < x.machine.setting.count) where
  abbrev h : Hart
  h = x.machine.harts i

  -- hart i has made a turn
  pub made_next : (t : HartResult) (e : Option Entry) (w : Machine) → Made x i t → ComesAbout (hart_change i t x.machine) e w → Next x e w
  made_next t e w m c = subst₂ (λ e w. Next x e w) (sym c.0) (sym c.3) (moves_next x i t x.machine.net c.1 x.mail m.flat_hart m.mem m.past v m.moves c.2)

  -- an eviction, where it is enabled
  pub evict_next : (b : ℕ) (e : Option Entry) (w : Machine) → ComesAbout (hart_change_if i (evict_row i b h) x.machine) e w → Next x e w
  evict_next b e w c = by_row (evict_row i b h) refl c
    where
      by_row : (r : Option HartResult) → evict_row i b h ≡ r → ComesAbout (hart_change_if i r x.machine) e w → Next x e w
      by_row None z c = still_next x v e w c
      by_row (Some t) z c = made_next t e w (made_evict x v i o b t z) c
