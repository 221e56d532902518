use Rattle.std.proofs.Common.{refl, ap, ◌∙◌}
use Rattle.debugger.specs.declared.commands.command.Look.TheVariants.{Regs, Word, Raw, View, Line, Dir, Tx, Log, Dis}
use Rattle.debugger.specs.Manual.{help_text}
use Rattle.protocol.specs.Values.{peek, raw, view}
use Rattle.machine.specs.States.{shown, setting_of}
use Rattle.debugger.specs.Refusals.{hart_fault, word_fault, log_fault, text_fault}
use Rattle.debugger.specs.Looks.{told}
use Rattle.debugger.proofs.Readable.{is_hart, readable, logged, seen}
use Rattle.debugger.proofs.Showing.{shows-same, look-one, look-two, found_there, shows_found, shows_logged}
use Rattle.debugger.proofs.commands.looking.look.Goals as goal
use Rattle.debugger.proofs.commands.looking.look.Goals.{in-Regs+in_ok-hart_of-in-Regs, in-Word+in_ok-addr-in-Word, in-Raw+in_ok-addr-in-Raw, in-View+in_ok-hart-in-View+in_ok-addr-in-View, in-Line+in_ok-hart-in-Line+in_ok-word_at-in-Line, in-Dir+in_ok-word_at-in-Dir, in-Dirs, in-Tx+in_ok-hart_of-in-Tx, in-Log+in_ok-addr-in-Log, in-Dis+in_ok-text_at-in-Dis, in-Messages, in-Harts, in-Help}

pub put_found-put-requires : goal.put_found-put-requires
put_found-put-requires g c =
    found_there c.args.names.now g.row.SETS c.args.machine.now (λ bound. peek bound (shown g.row.SETS c.args.machine.now)) c.in_ok-addr-in-Word.addr
    (readable (setting_of c.args.machine.now) c.in-Word.addr _ c.word_at.result c.in_ok-addr-in-Word.was c.word_at.ensures) c.peek.result c.peek.ensures.value

pub put_found-put-requires-in-Raw : goal.put_found-put-requires-in-Raw
put_found-put-requires-in-Raw g c =
    found_there c.args.names.now g.row.SETS c.args.machine.now (λ bound. raw bound (shown g.row.SETS c.args.machine.now)) c.in_ok-addr-in-Raw.addr
    (readable (setting_of c.args.machine.now) c.in-Raw.addr _ c.word_at-in-Raw.result c.in_ok-addr-in-Raw.was c.word_at-in-Raw.ensures) c.raw.result c.raw.ensures.value

pub put_found-put-requires-in-View : goal.put_found-put-requires-in-View
put_found-put-requires-in-View g c =
    found_there c.args.names.now g.row.SETS c.args.machine.now (λ bound. view bound (shown g.row.SETS c.args.machine.now) c.in_ok-hart-in-View.hart) c.in_ok-addr-in-View.addr
    (readable (setting_of c.args.machine.now) c.in-View.addr _ c.word_at-in-View.result c.in_ok-addr-in-View.was c.word_at-in-View.ensures) c.view.result
    (λ bound below. c.view.ensures.value bound below ∙ seen bound (shown g.row.SETS c.args.machine.now) c.in_ok-hart-in-View.hart c.in_ok-addr-in-View.addr
    (is_hart (setting_of c.args.machine.now) c.in-View.hart _ c.hart_of-in-View.result c.in_ok-hart-in-View.was c.hart_of-in-View.ensures))

pub returns-clause-shown : goal.returns-clause-shown
returns-clause-shown g c = λ fine. elim c.match-look.branch [
  | in-Regs+in_ok-hart_of-in-Regs w ↦ rw w.sink-is (
    w.put_regs-put.result,
    shows-same (look-one Regs (hart_fault (setting_of c.args.machine.now) w.in-Regs.hart) w.in-Regs.hart _ _ _ w.in-Regs.is w.in_ok-hart_of-in-Regs.was w.hart_of.ensures) w.put_regs-put.ensures,
    c.told.ensures ∙ ap told w.put-is,
  )
  | in-Word+in_ok-addr-in-Word w ↦ rw w.sink-is (
    w.put_found-put.result,
    shows-same (look-one Word (word_fault (setting_of c.args.machine.now) w.in-Word.addr) w.in-Word.addr _ _ _ w.in-Word.is w.in_ok-addr-in-Word.was w.word_at.ensures)
        (shows_found c.args.names.now g.row.SETS c.args.machine.now (λ bound. peek bound (shown g.row.SETS c.args.machine.now)) w.in_ok-addr-in-Word.addr (readable (setting_of c.args.machine.now) w.in-Word.addr _ w.word_at.result w.in_ok-addr-in-Word.was w.word_at.ensures)
        w.peek.result w.peek.ensures.value (λ t is. is) w.put_found-put.ensures),
    c.told.ensures ∙ ap told w.put-is,
  )
  | in-Raw+in_ok-addr-in-Raw w ↦ rw w.sink-is (
    w.put_found-put-in-Raw.result,
    shows-same (look-one Raw (word_fault (setting_of c.args.machine.now) w.in-Raw.addr) w.in-Raw.addr _ _ _ w.in-Raw.is w.in_ok-addr-in-Raw.was w.word_at-in-Raw.ensures)
        (shows_found c.args.names.now g.row.SETS c.args.machine.now (λ bound. raw bound (shown g.row.SETS c.args.machine.now)) w.in_ok-addr-in-Raw.addr (readable (setting_of c.args.machine.now) w.in-Raw.addr _ w.word_at-in-Raw.result w.in_ok-addr-in-Raw.was w.word_at-in-Raw.ensures)
        w.raw.result w.raw.ensures.value (λ t is. is) w.put_found-put-in-Raw.ensures),
    c.told.ensures ∙ ap told w.put-is,
  )
  | in-View+in_ok-hart-in-View+in_ok-addr-in-View w ↦ rw w.sink-is (
    w.put_found-put-in-View.result,
    shows-same (look-two View (hart_fault (setting_of c.args.machine.now) w.in-View.hart) (word_fault (setting_of c.args.machine.now) w.in-View.addr) w.in-View.hart _ w.in-View.addr _ _ _ _
        w.in-View.is w.in_ok-hart-in-View.was w.hart_of-in-View.ensures w.in_ok-addr-in-View.was w.word_at-in-View.ensures)
        (shows_found c.args.names.now g.row.SETS c.args.machine.now (λ bound. view bound (shown g.row.SETS c.args.machine.now) w.in_ok-hart-in-View.hart) w.in_ok-addr-in-View.addr
        (readable (setting_of c.args.machine.now) w.in-View.addr _ w.word_at-in-View.result w.in_ok-addr-in-View.was w.word_at-in-View.ensures) w.view.result
        (λ bound below. w.view.ensures.value bound below ∙ seen bound (shown g.row.SETS c.args.machine.now) w.in_ok-hart-in-View.hart w.in_ok-addr-in-View.addr
        (is_hart (setting_of c.args.machine.now) w.in-View.hart _ w.hart_of-in-View.result w.in_ok-hart-in-View.was w.hart_of-in-View.ensures)) (λ t is. is) w.put_found-put-in-View.ensures),
    c.told.ensures ∙ ap told w.put-is,
  )
  | in-Line+in_ok-hart-in-Line+in_ok-word_at-in-Line w ↦ rw w.sink-is (
    w.put_line-put.result,
    shows-same (look-two Line (hart_fault (setting_of c.args.machine.now) w.in-Line.hart) (word_fault (setting_of c.args.machine.now) w.in-Line.addr) w.in-Line.hart _ w.in-Line.addr _ _ _ _
        w.in-Line.is w.in_ok-hart-in-Line.was w.hart_of-in-Line.ensures w.in_ok-word_at-in-Line.was w.word_at-in-Line.ensures) (record { text = w.put_line-put.ensures.text; is = w.put_line-put.ensures.is; puts = w.put_line-put.ensures.puts }),
    c.told.ensures ∙ ap told w.put-is,
  )
  | in-Dir+in_ok-word_at-in-Dir w ↦ rw w.sink-is (
    w.put_entry-put.result,
    shows-same (look-one Dir (word_fault (setting_of c.args.machine.now) w.in-Dir.addr) w.in-Dir.addr _ _ _ w.in-Dir.is w.in_ok-word_at-in-Dir.was w.word_at-in-Dir.ensures) (record { text = w.put_entry-put.ensures.text; is = w.put_entry-put.ensures.is; puts = w.put_entry-put.ensures.puts }),
    c.told.ensures ∙ ap told w.put-is,
  )
  | in-Dirs w ↦ rw w.sink-is (w.put_entries-put.result, shows-same w.in-Dirs.is (record { text = w.put_entries-put.ensures.text; is = w.put_entries-put.ensures.is; puts = w.put_entries-put.ensures.puts }), c.told.ensures ∙ ap told w.put-is)
  | in-Tx+in_ok-hart_of-in-Tx w ↦ rw w.sink-is (
    w.put_tx-put.result,
    shows-same (look-one Tx (hart_fault (setting_of c.args.machine.now) w.in-Tx.hart) w.in-Tx.hart _ _ _ w.in-Tx.is w.in_ok-hart_of-in-Tx.was w.hart_of-in-Tx.ensures) (record { text = w.put_tx-put.ensures.text; is = w.put_tx-put.ensures.is; puts = w.put_tx-put.ensures.puts }),
    c.told.ensures ∙ ap told w.put-is,
  )
  | in-Log+in_ok-addr-in-Log w ↦ rw w.sink-is (
    w.put_found-put-in-Log.result,
    shows-same (look-one Log (log_fault c.args.machine.now w.in-Log.addr) w.in-Log.addr _ _ _ w.in-Log.is w.in_ok-addr-in-Log.was w.logged_at.ensures)
        (shows_logged w.log_word.result w.log_word.ensures (logged c.args.machine.now w.in-Log.addr _ w.logged_at.result w.in_ok-addr-in-Log.was w.logged_at.ensures) w.put_found-put-in-Log.ensures),
    c.told.ensures ∙ ap told w.put-is,
  )
  | in-Dis+in_ok-text_at-in-Dis w ↦ rw w.sink-is (
    w.put_instruction-put.result,
    shows-same (look-one Dis (text_fault (setting_of c.args.machine.now) w.in-Dis.addr) w.in-Dis.addr _ _ _ w.in-Dis.is w.in_ok-text_at-in-Dis.was w.text_at.ensures) w.put_instruction-put.ensures,
    c.told.ensures ∙ ap told w.put-is,
  )
  | in-Messages w ↦ rw w.sink-is (w.put_messages-put.result, shows-same w.in-Messages.is (record { text = w.put_messages-put.ensures.text; is = w.put_messages-put.ensures.is; puts = w.put_messages-put.ensures.puts }), c.told.ensures ∙ ap told w.put-is)
  | in-Harts w ↦ rw w.sink-is (w.put_harts-put.result, shows-same w.in-Harts.is w.put_harts-put.ensures, c.told.ensures ∙ ap told w.put-is)
  | in-Help w ↦ rw w.sink-is (
    w.put_help-put.result,
    shows-same w.in-Help.is (record { text = help_text; is = refl; puts = w.put_help-put.ensures }),
    c.told.ensures ∙ ap told w.put-is,
  )
]
