-- What a look shows is the same on machines that no step tells apart.
use Rattle.std.proofs.Common.{◌≡◌, ◌/◌, ◌%◌, ◌==◌, ◌&&◌, ◌++◌, ◌∙◌, ℕ, Bool, true, false, cond, Option, Some, None, List, codes, refl, sym, ap, subst}
use Rattle.std.specs.Prelude.{IfSome, is_some}
use Rattle.std.specs.Option.{option_map, option_or}
use Rattle.std.specs.List.{flat_map, range_with_len}
use Rattle.std.proofs.lemmas.Option.{none-some}
use Rattle.words.specs.Limits.{block_bytes}
use Rattle.table.specs.Program.{word_at}
use Rattle.network.specs.declared.net.Flight.{Flight}
use Rattle.network.proofs.OneOrder.{past}
use Rattle.protocol.specs.Caches.{Geometry}
use Rattle.protocol.specs.Machine.{Machine}
use Rattle.protocol.specs.Messages.{shown as shown_message}
use Rattle.disassembler.specs.Tables.{Table}
use Rattle.disassembler.specs.Listing.{line}
use Rattle.render.specs.Blocks.{directory_text, word_line}
use Rattle.render.specs.Registers.{registers_lines}
use Rattle.machine.specs.Reads.{info_of, log_word}
use Rattle.machine.specs.States.{State, setting_of}
use Rattle.machine.specs.Turns.{is_held}
use Rattle.machine.specs.Twins.{AreTwins}
use Rattle.machine.proofs.TwinReads.{each_kept, log_word_is, raw_is, peek_is, view_is}
use Rattle.debugger.specs.declared.commands.command.Look.{Look}
use Rattle.debugger.specs.declared.commands.command.Look.TheVariants.{Regs, Word, Raw, View, Line, Dir, Dirs, Tx, Log, Dis, Messages, Harts, Help}
use Rattle.debugger.specs.declared.commands.fault.DebugFault.{DebugFault}
use Rattle.debugger.specs.declared.commands.fault.DebugFault.TheVariants.{Address}
use Rattle.debugger.specs.Refusals.{hart_fault, word_fault, text_fault}
use Rattle.debugger.specs.LookTexts.{cached_line, tx_line, entry_line, message_line}
use Rattle.debugger.specs.Looks.{refusal, line_of_hart, word_text, IsTextOf}
use Rattle.debugger.proofs.Readable.{lies_below}

-- no word of text is there
not_there : (b : Bool) → ◌≡◌ {A = Option DebugFault} (cond (b && false) None (Some Address)) None → ⊥
not_there true is = cc
not_there false is = cc

-- a word of the undo logs has one line
logged_once : (a : ℕ) (o : Option ℕ) (one other : List ℕ) → ◌≡◌ {A = Option DebugFault} (cond (is_some o) None (Some Address)) None → IfSome o (λ x. one ≡ word_line a x) → IfSome o (λ x. other ≡ word_line a x)
    → one ≡ other
logged_once a None one other fine is also = absurd (none-some Address (sym fine))
logged_once a (Some x) one other fine is also = is ∙ sym also

module _ (names : Table) (g : Geometry) (v w : State) (twins : AreTwins g v w) where
  -- the same looks are refused
  pub refusal_is : (l : Look) → refusal v l ≡ refusal w l
  refusal_is (Regs h) = ap (λ (m : Machine). hart_fault m.setting h) twins.machine
  refusal_is (Word a) = ap (λ (m : Machine). word_fault m.setting a) twins.machine
  refusal_is (Raw a) = ap (λ (m : Machine). word_fault m.setting a) twins.machine
  refusal_is (View h a) = ap (λ (m : Machine). option_or (hart_fault m.setting h) (word_fault m.setting a)) twins.machine
  refusal_is (Line h a) = ap (λ (m : Machine). option_or (hart_fault m.setting h) (word_fault m.setting a)) twins.machine
  refusal_is (Dir a) = ap (λ (m : Machine). word_fault m.setting a) twins.machine
  refusal_is Dirs = refl
  refusal_is (Tx h) = ap (λ (m : Machine). hart_fault m.setting h) twins.machine
  refusal_is (Log a) = ap (λ (o : Option ℕ). cond (is_some o) None (Some Address)) (log_word_is g v w twins a)
  refusal_is (Dis b) = ap (λ (m : Machine). text_fault m.setting b) twins.machine
  refusal_is Messages = refl
  refusal_is Harts = refl
  refusal_is Help = refl

  -- A word of text

  text_once : (b : ℕ) (o : Option ℕ) (one other : List ℕ) → word_at (setting_of v).segments b ≡ o → text_fault (setting_of v) b ≡ None
      → IfSome o (λ x. one ≡ line names b x) → IfSome o (λ x. other ≡ line names b x) → one ≡ other
  text_once b None one other at fine is also = absurd (not_there (b % 4 == 0) (sym (ap (λ (o : Option ℕ). cond ((b % 4 == 0) && is_some o) None (Some Address)) at) ∙ fine))
  text_once b (Some x) one other at fine is also = is ∙ sym also

  -- what each look shows
  pub look_once : (l : Look) (one other : List ℕ) → refusal v l ≡ None → IsTextOf names g.sets v l one → IsTextOf names g.sets w l other → one ≡ other
  look_once (Regs h) one other fine is also =
      is ∙ (ap (λ (m : Machine). registers_lines names (m.harts h).regs (m.harts h).pc (m.harts h).status) twins.machine ∙ sym also)
  look_once (Word a) one other fine is also =
      is (past v.flights) (lies_below v.flights) ∙ (ap (word_text a) (peek_is g v w twins) ∙ sym (also (past w.flights) (lies_below w.flights)))
  look_once (Raw a) one other fine is also =
      is (past v.flights) (lies_below v.flights) ∙ (ap (word_text a) (raw_is g v w twins) ∙ sym (also (past w.flights) (lies_below w.flights)))
  look_once (View h a) one other fine is also =
      is (past v.flights) (lies_below v.flights) ∙ (ap (word_text a) (view_is g v w twins h) ∙ sym (also (past w.flights) (lies_below w.flights)))
  look_once (Line h a) one other fine is also = is ∙ (ap (λ (m : Machine). cached_line ((m.harts h).lines (a / block_bytes))) twins.machine ∙ sym also)
  look_once (Dir a) one other fine is also = is ∙ (ap (λ (m : Machine). directory_text (m.entries (a / block_bytes)) ++ codes "\n") twins.machine ∙ sym also)
  look_once Dirs one other fine is also = is ∙ (each_kept g v w twins (λ e. entry_line e.0 e.1) ∙ sym also)
  look_once (Tx h) one other fine is also = is ∙ (ap (λ (m : Machine). tx_line (option_map info_of (m.harts h).tx)) twins.machine ∙ sym also)
  look_once (Log a) one other fine is also = logged_once a (log_word v a) one other fine is
      (subst (λ (o : Option ℕ). IfSome o (λ x. other ≡ word_line a x)) (sym (log_word_is g v w twins a)) also)
  look_once (Dis b) one other fine is also = text_once b (word_at (setting_of v).segments b) one other refl fine is
      (subst (λ (m : Machine). IfSome (word_at m.setting.segments b) (λ x. other ≡ line names b x)) (sym twins.machine) also)
  look_once Messages one other fine is also =
      is ∙ ((λ k. flat_map (λ (f : Flight). message_line f.message (is_held (twins.machine k) (shown_message f.message))) (twins.flights k)) ∙ sym also)
  look_once Harts one other fine is also = is ∙ (ap (λ (m : Machine). flat_map (line_of_hart names m) (range_with_len 0 m.setting.count)) twins.machine ∙ sym also)
  look_once Help one other fine is also = is ∙ sym also
