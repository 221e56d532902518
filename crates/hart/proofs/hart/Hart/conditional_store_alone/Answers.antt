use Rattle.std.proofs.Common.{◌≡◌, ◌∙◌, ◌/◌, ℕ, List, None, true, false, refl, ap, sym, subst}
use Rattle.table.specs.Effects.{resolved}
use Rattle.table.specs.declared.effect.Effect.{Effect}
use Rattle.flat.specs.Reservation.{is_reserved}
use Rattle.protocol.specs.Core.{Move, access_move, conditional_move, no_memory, retire_row}
use Rattle.hart.specs.Shown.{shown_hart, lines_of}
use Rattle.hart.specs.Locals.{FollowsMove}
use Rattle.hart.proofs.Alone.{is_call, alone-retires, store-succeeds, store-fails}
use Rattle.hart.proofs.hart.Hart.conditional_store_alone.Goals as goal

-- without the reservation it fails

pub returns-then-not-has_reserved-clause-step : goal.returns-then-not-has_reserved-clause-step
returns-then-not-has_reserved-clause-step g c =
    let S = g.row.SETS in
    let p = c.args.self.now in
    let e = c.args.effect.now in
    let m = c.args.m.now in
    let w = c.args.word in
    let h = λ (output : List ℕ). shown_hart S output p in
    let lacks : is_reserved (m.addr / 32) p.reserved ≡ false = ap (λ b. is_reserved b p.reserved) (sym c.block.ensures) ∙ sym c.has_reserved.ensures ∙ c.if-not-has_reserved.true in
    rw (c.alone.ensures) (alone-retires S p c.retire_unreserved-step.new.self c.retire_unreserved-step.result (λ output taken. conditional_move p.index w e m (h output)) p.index w p.pc no_memory (resolved false e) (λ output. record (h output) { reserved = None })
    (ap is_call c.requires.fails)
    (λ output taken. store-fails p.index w e m (h output) lacks)
    (λ output. refl)
    (λ output. refl)
    (λ output. ap (λ (d : Effect). retire_row p.index no_memory w d (record (h output) { reserved = None })) (sym c.resolved.ensures) ∙ c.retire_unreserved-step.ensures.row output))

-- with it, it is an access

pub returns-clause-step : goal.returns-clause-step
returns-clause-step g c =
    let S = g.row.SETS in
    let p = c.args.self.now in
    let e = c.args.effect.now in
    let m = c.args.m.now in
    let w = c.args.word in
    let h = λ (output : List ℕ). shown_hart S output p in
    let has : is_reserved (m.addr / 32) p.reserved ≡ true = ap (λ b. is_reserved b p.reserved) (sym c.block.ensures) ∙ sym c.has_reserved.ensures ∙ c.if-not-has_reserved.false in
    let is = λ (output : List ℕ).
    ap (λ (d : Effect). access_move p.index w d m None (lines_of S p.cache (m.addr / 32)) (h output)) c.resolved-2.ensures
    ∙ sym (store-succeeds p.index w e m (h output) has) in
    subst (λ (move : List ℕ → ℕ → Move). FollowsMove S move p c.access_alone.new.self c.access_alone.result) (λ j output taken. is output j) c.access_alone.ensures.step
