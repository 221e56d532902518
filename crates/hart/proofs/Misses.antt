-- A block whose line isn't enough is asked for, if no line has to go for it.
use Rattle.std.proofs.Common.{◌≡◌, ◌%◌, ◌/◌, ◌∙◌, ◌==◌, ◌-◌, ℕ, List, Bool, true, false, Option, Some, None, cond, get_or, position, unwrap_or, refl, sym, ap}
use Rattle.std.specs.Prelude.{Result, Ok, IfSome}
use Rattle.std.specs.Option.{option_map}
use Rattle.words.specs.declared.message.Kind.{Kind}
use Rattle.words.specs.declared.cause.Cause.{Cause}
use Rattle.table.specs.declared.effect.Effect.{Effect}
use Rattle.table.specs.declared.effect.MemoryAct.{MemoryAct}
use Rattle.table.specs.declared.effect.Act.TheVariants as act
use Rattle.flat.specs.State.{Setting}
use Rattle.flat.specs.Effects.{output_by}
use Rattle.table.specs.Program.{word_at}
use Rattle.table.specs.declared.effect.Act.{Act}
use Rattle.cache.specs.declared.line.Line.{Line as CachedLine}
use Rattle.cache.specs.declared.ways.Victim.TheVariants.{Free}
use Rattle.cache.specs.Ways.{is_unmarked, put_out}
use Rattle.cache.specs.Sets.{Sets, ways_at, line_at, victim_at, HasRoom}
use Rattle.protocol.specs.Lines.{Line, is_enough, line_cleared}
use Rattle.protocol.specs.Messages.{Get, shown}
use Rattle.protocol.specs.Hart.{Hart, HartResult, Transaction, has_put_of, stamp_of}
use Rattle.protocol.specs.Requests.{ask_row, new_request}
use Rattle.protocol.specs.Core.{Makes, Lacks, kind_of, begin_row, commit_row, retire_row, no_memory, access_row, access_move, effect_move, instruction_move, move_row, fetch_row, ask_with_room, victim_for, word_of, reserved_with}
use Rattle.hart.specs.declared.reply.CommonStep.{CommonStep}
use Rattle.hart.specs.declared.reply.CoreStep.{CoreStep}
use Rattle.hart.specs.Parts.{Parts}
use Rattle.hart.specs.Shown.{shown_line, shown_hart, shown_tx, lines_of}
use Rattle.hart.specs.Rows.{advanced, stepped, with_byte, block_of, victim_of}

-- where a set has room, no line goes
none_goes : (count : ℕ) (sets : Sets) (b : ℕ) → HasRoom count sets b → victim_of count sets b ≡ None
unfolding HasRoom victim_at
none_goes count sets b room =
    let ways = ways_at sets (b % count) in
    ap (λ free. block_of (cond free Free (put_out (get_or ways (unwrap_or (position is_unmarked ways) 0) None)))) room

-- nor does one for a block that has a line
pub no_victim : (count : ℕ) (sets : Sets) (b : ℕ) → (line_at count sets b ≡ None → HasRoom count sets b) → victim_for (victim_of count sets) b (lines_of count sets b) ≡ None
no_victim count sets b room = by_line (line_at count sets b) refl
  where
    by_line : (line : Option CachedLine) → line_at count sets b ≡ line → victim_for (victim_of count sets) b (lines_of count sets b) ≡ None
    by_line None is = ap (λ l. victim_for (victim_of count sets) b (option_map shown_line l)) is ∙ none_goes count sets b (room is)
    by_line (Some l) is = ap (λ x. victim_for (victim_of count sets) b (option_map shown_line x)) is

-- so it is asked for, while no Put is out
pub asks : (i : ℕ) (victim : ℕ → Option ℕ) (kind : Kind) (b : ℕ) (h : Hart) → h.put ≡ None → victim_for victim b (h.lines b) ≡ None → fetch_row i victim kind b h ≡ Some (ask_row i kind b h)
asks i victim kind b h put none =
    ap (λ p. cond (has_put_of b p) None (ask_with_room i kind b (victim_for victim b (h.lines b)) h)) put ∙ ap (λ v. ask_with_room i kind b v h) none

module _ (s : Setting) (i taken : ℕ) (victim : ℕ → Option ℕ) (h : Hart) where
  by_line : (w : ℕ) (e : Effect) (m : MemoryAct) (kept : Option ℕ) (l : Option Line) → is_enough (kind_of m) l ≡ false → access_move i w e m kept l h ≡ Lacks (kind_of m) (m.addr / 32)
  by_line w e m kept None enough = refl
  by_line w e m kept (Some l) enough = ap (λ t. cond t (Makes (access_row i w e m kept l h.tx h)) (Lacks (kind_of m) (m.addr / 32))) enough

  -- an access whose line isn't enough comes to that
  pub lacks_block : (next : Result Effect Cause) (e : Effect) (m : MemoryAct) → next ≡ Ok e → e.act ≡ act.Memory m → is_enough (kind_of m) (h.lines (m.addr / 32)) ≡ false
      → move_row i victim (instruction_move s i taken next h) h ≡ fetch_row i victim (kind_of m) (m.addr / 32) h
  lacks_block next e m ok is enough =
      ap (λ n. move_row i victim (instruction_move s i taken n h) h) ok
      ∙ ap (λ a. move_row i victim (effect_move i taken (word_of s h) e a h) h) is
      ∙ ap (λ move. move_row i victim move h) (by_line (word_of s h) e m (reserved_with m m.load h.reserved) (h.lines (m.addr / 32)) enough)

-- a hart that waits for a block from now on has asked for it
pub asked : (S : ℕ) (output : List ℕ) (old new : Parts) (kind : Kind) (b : ℕ) → new.index ≡ old.index → new.tx ≡ old.tx
    → shown_hart S output new ≡ record (shown_hart S output old) { request = Some (new_request b kind); fresh = false }
    → ask_row old.index kind b (shown_hart S output old) ≡ advanced S output new (record { asked = Some (record { block = b; kind = kind }); entry = None; stamped = false })
asked S output old new kind b index tx hart = λ j. record {
  hart = sym hart j;
  sent = Some (Get (sym index j) b kind (stamp_of (shown_tx (sym tx j))));
  entry = None;
  stamped = false;
}

-- a word that begins or ends a transaction makes the row of its act
pub delimits : (s : Setting) (i taken w : ℕ) (victim : ℕ → Option ℕ) (h : Hart) (next : Result Effect Cause) (e : Effect) (a : Act) (t : HartResult) → next ≡ Ok e → e.act ≡ a → word_at s.segments h.pc ≡ Some w
    → effect_move i taken w e a h ≡ Makes t → move_row i victim (instruction_move s i taken next h) h ≡ Some t
delimits s i taken w victim h next e a t ok is at makes =
    ap (λ n. move_row i victim (instruction_move s i taken n h) h) ok
    ∙ ap (λ b. move_row i victim (effect_move i taken (word_of s h) e b h) h) is
    ∙ ap (λ o. move_row i victim (effect_move i taken (unwrap_or o 0) e a h) h) at
    ∙ ap (λ m. move_row i victim m h) makes

-- a step that sends nothing and puts nothing out, as a common one
pub quietly : (S : ℕ) (new : Parts) (made : CoreStep) (row : List ℕ → HartResult) → ((output : List ℕ) → row output ≡ stepped S output new made)
    → ((output : List ℕ) → (row output).hart.output ≡ output) → ((output : List ℕ) → (row output).sent ≡ None)
    → (output : List ℕ) → row output ≡ advanced S output new (record { asked = None; entry = made.entry; stamped = made.stamped })
quietly S new made row is silent unsent output = is output ∙ (λ j. record { hart = shown_hart S (bytes j) new; sent = none j; entry = made.entry; stamped = made.stamped })
  where
    bytes : with_byte output made.output ≡ output
    bytes = sym (ap (λ (r : HartResult). r.hart.output) (is output)) ∙ silent output

    none : option_map shown made.message ≡ None
    none = sym (ap (λ (r : HartResult). r.sent) (is output)) ∙ unsent output

-- a transaction begins so
pub begin_silent : (i taken w p : ℕ) (e : Effect) (o : Option Transaction) (h : Hart) → e.act ≡ act.Begin p → ((begin_row i taken w e p o h).hart.output ≡ h.output) × ((begin_row i taken w e p o h).sent ≡ None)
begin_silent i taken w p e None h is = (ap (output_by h.output h.regs) is, refl)
begin_silent i taken w p e (Some t) h is = (ap (output_by h.output h.regs) is, refl)

-- and ends so
pub commit_silent : (i w : ℕ) (e : Effect) (o : Option Transaction) (h : Hart) → e.act ≡ act.Commit → ((commit_row i w e o h).hart.output ≡ h.output) × ((commit_row i w e o h).sent ≡ None)
commit_silent i w e None h is = (ap (output_by h.output h.regs) is, refl)
commit_silent i w e (Some t) h is = by_depth (t.depth == 1)
  where
    outer : HartResult
    outer = retire_row i no_memory w e (record h { tx = None; reserved = None; lines = λ b. line_cleared (h.lines b) })

    inner : HartResult
    inner = retire_row i no_memory w e (record h { tx = Some (record t { depth = t.depth - 1 }) })

    by_depth : (b : Bool) → ((cond b outer inner).hart.output ≡ h.output) × ((cond b outer inner).sent ≡ None)
    by_depth true = (ap (output_by h.output h.regs) is, refl)
    by_depth false = (ap (output_by h.output h.regs) is, refl)

-- two facts of what was made, if anything was, give a third
pub if_both : {A : Type 0} {P Q : CommonStep → Type 0} (r : Option CommonStep) → IfSome r (λ _. A) → IfSome r P → (A → (x : CommonStep) → P x → Q x) → IfSome r Q
if_both None a p f = tt
if_both (Some x) a p f = f a x p
