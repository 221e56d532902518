use Rattle.std.proofs.Common.{rules, ◌+◌, ◌∙◌, Some, None, refl, sym, ap}
use Rattle.std.specs.Option.{option_map}
use Rattle.words.specs.Registers.{reg}
use Rattle.table.specs.Effects.{does}
use Rattle.table.specs.Numbers.{wrap}
use Rattle.table.specs.Program.{word_at}
use Rattle.table.specs.declared.effect.Act.TheVariants.{Begin}
use Rattle.table.specs.declared.instr.Instr.{Instr}
use Rattle.table.specs.declared.instr.Instr.TheVariants.{TBegin, TCommit}
use Rattle.table.proofs.Legal.{effect_of_legal}
use Rattle.hart.specs.Parts.{Parts}
use Rattle.hart.proofs.Bytes.{untouched}
use Rattle.hart.proofs.Places.{all_stay}
use Rattle.hart.proofs.Quick.{load_does, store_does, amo_does}
use Rattle.hart.proofs.hart.Hart.common_instruction.Goals as goal

-- Each access is the one of its instruction.

pub miss-requires : goal.miss-requires
miss-requires g c =
    let p = c.args.self.now in
    let slot = c.in_ok-slot.slot.now in (
      search rules,
      (
        ap (λ (q : Parts). word_at c.args.text.now.segments.now q.pc) (sym c.self.view_is) ∙ c.in_ok-slot.ensures,
        load_does slot.word p.pc p.regs c.load_act.result c.in-Load.op c.in-Load.rd c.in-Load.rs1 c.in-Load.imm c.address-addr.result
            (sym c.instr.ensures ∙ ap (option_map (λ i. i.now)) c.in_ok-op.was ∙ ap (λ (i : Instr). Some i) c.in-Load.is)
            (c.address-addr.ensures ∙ ap (λ (q : Parts). wrap (reg q.regs c.in-Load.rs1 + c.in-Load.imm)) c.self.view_is)
            c.load_act.ensures,
      ),
    )

pub miss-requires-in-Store : goal.miss-requires-in-Store
miss-requires-in-Store g c =
    let p = c.args.self.now in
    let slot = c.in_ok-slot.slot.now in (
      search rules,
      (
        ap (λ (q : Parts). word_at c.args.text.now.segments.now q.pc) (sym c.self.view_is) ∙ c.in_ok-slot.ensures,
        store_does slot.word p.pc p.regs c.store_act.result c.in-Store.op c.in-Store.rs1 c.in-Store.rs2 c.in-Store.imm c.address-addr-in-Store.result c.read-value.result
            (sym c.instr.ensures ∙ ap (option_map (λ i. i.now)) c.in_ok-op.was ∙ ap (λ (i : Instr). Some i) c.in-Store.is)
            (c.address-addr-in-Store.ensures ∙ ap (λ (q : Parts). wrap (reg q.regs c.in-Store.rs1 + c.in-Store.imm)) c.self.view_is)
            (c.read-value.ensures ∙ ap (λ (q : Parts). reg q.regs c.in-Store.rs2) c.self.view_is)
            c.store_act.ensures,
      ),
    )

pub miss-requires-in-Amo : goal.miss-requires-in-Amo
miss-requires-in-Amo g c =
    let p = c.args.self.now in
    let slot = c.in_ok-slot.slot.now in (
      search rules,
      (
        ap (λ (q : Parts). word_at c.args.text.now.segments.now q.pc) (sym c.self.view_is) ∙ c.in_ok-slot.ensures,
        amo_does slot.word p.pc p.regs c.amo_act.result c.in-Amo.op c.in-Amo.rd c.in-Amo.rs1 c.in-Amo.rs2 c.new-addr.result c.read-value-in-Amo.result c.in-Amo.aq c.in-Amo.rl
            (sym c.instr.ensures ∙ ap (option_map (λ i. i.now)) c.in_ok-op.was ∙ ap (λ (i : Instr). Some i) c.in-Amo.is)
            (c.new-addr.ensures ∙ c.read.ensures ∙ ap (λ (q : Parts). reg q.regs c.in-Amo.rs1) c.self.view_is)
            (c.read-value-in-Amo.ensures ∙ ap (λ (q : Parts). reg q.regs c.in-Amo.rs2) c.self.view_is)
            c.amo_act.ensures,
      ),
    )

-- A transaction begins or ends.

pub begin_next-requires : goal.begin_next-requires
begin_next-requires g c =
    let p = c.args.self.now in
    let slot = c.in_ok-slot.slot.now in (
      search rules,
      (
        c.requires.aborting,
        (
          ap (λ (q : Parts). word_at c.args.text.now.segments.now q.pc) (sym c.self.view_is) ∙ c.in_ok-slot.ensures,
          effect_of_legal slot.word (TBegin c.in-TBegin.offset) p.pc p.regs (sym c.instr.ensures ∙ ap (option_map (λ i. i.now)) c.in_ok-op.was ∙ ap (λ (i : Instr). Some i) c.in-TBegin.is)
              ∙ ap (λ n. does p.pc None (Begin n)) (sym (c.plus.ensures ∙ (λ k. wrap ((c.begin_next.view_is k).pc + c.value.ensures.value k)))),
        ),
      ),
    )

pub commit_next-requires : goal.commit_next-requires
commit_next-requires g c =
    let p = c.args.self.now in
    let slot = c.in_ok-slot.slot.now in (
      search rules,
      (
        c.requires.free,
        (
          c.requires.aborting,
          (
            ap (λ (q : Parts). word_at c.args.text.now.segments.now q.pc) (sym c.self.view_is) ∙ c.in_ok-slot.ensures,
            effect_of_legal slot.word TCommit p.pc p.regs (sym c.instr.ensures ∙ ap (option_map (λ i. i.now)) c.in_ok-op.was ∙ ap (λ (i : Instr). Some i) c.in-TCommit.is),
          ),
        ),
      ),
    )

-- any other word is left alone
pub returns-in_default : goal.returns-in_default
returns-in_default g c =
    let p = c.args.self.now in
    record { row = tt; none = refl; ways = all_stay g.row.SETS p.cache; stays = record { index = refl; harts = refl; size = refl; log = untouched p.tx p.tx refl } }
