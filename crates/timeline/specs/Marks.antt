-- What a timeline shows of a step: in which lane, by what name, and what became of the hart's transaction.
use Rattle.std.specs.Prelude.{ℕ, ◌==◌, cond, Option, Some, None, List, [], ◌∷◌, codes, decimal, unwrap_or}
use Rattle.std.specs.List.{concat}
use Rattle.std.specs.Option.{option_map_or}
use Rattle.words.specs.Causes.{cause_name}
use Rattle.words.specs.Limits.{most_harts}
use Rattle.words.specs.declared.cause.AbortCause.{AbortCause}
use Rattle.words.specs.declared.cause.AbortCause.TheVariants.{Asked, Conflict, LogFull, Trapped}
use Rattle.words.specs.declared.entry.Entry.{Entry}
use Rattle.words.specs.declared.entry.Entry.TheVariants.{Retire, Abort, Trap, Refuse, Spill}
use Rattle.words.specs.declared.entry.Step.{Step}
use Rattle.words.specs.declared.entry.Step.TheVariants.{Core, Evict, Deliver}
use Rattle.network.specs.declared.net.Flight.{Flight}
use Rattle.table.specs.Table.{decoded}
use Rattle.table.specs.declared.instr.Instr.{Instr}
use Rattle.table.specs.declared.instr.Instr.TheVariants.{TBegin, TCommit}
use Rattle.disassembler.specs.Canonical.{canonical}
use Rattle.render.specs.Messages.{message_text}
use Rattle.render.specs.Parts.{block_text}
use Rattle.protocol.specs.Hart.{Transaction}
use Rattle.protocol.specs.Machine.{Machine}
use Rattle.protocol.specs.Messages.{receiver_of, shown}
use Rattle.timeline.specs.declared.edge.Edge.{Edge}
use Rattle.timeline.specs.declared.edge.Edge.TheVariants.{Neither, Begun, Committed, Aborted}

-- each hart has the lane of its number, and the directory the one behind all of them
abbrev pub directory_lane : ℕ
directory_lane = most_harts

-- the lane that a message arrives in
abbrev pub receiving_lane : Option Flight → ℕ
receiving_lane None = directory_lane
receiving_lane (Some flight) = unwrap_or (receiver_of (shown flight.message)) directory_lane

-- what a hart does stands in its lane, and an arrival in the receiver's
abbrev pub lane_of : Step → Option Flight → ℕ
lane_of (Core hart) arrival = hart
lane_of (Evict hart block) arrival = hart
lane_of (Deliver number) arrival = receiving_lane arrival

abbrev pub abort_label : AbortCause → List ℕ
abort_label Asked = codes "abort asked"
abort_label Conflict = codes "abort conflict"
abort_label LogFull = codes "abort logfull"
abort_label (Trapped cause pc) = codes "abort trap"

abbrev pub entry_label : Entry → List ℕ
entry_label (Retire hart pc word write load store) = canonical word
entry_label (Abort hart cause) = abort_label cause
entry_label (Trap hart cause pc) = concat (codes "trap " ∷ cause_name cause ∷ [])
entry_label (Refuse hart requester block) = concat (codes "refuse hart " ∷ decimal requester ∷ [])
entry_label (Spill hart block) = concat (codes "spill " ∷ block_text block ∷ [])

-- a step that gave no entry: an arrival has the text of its message
abbrev pub step_label : Step → Option Flight → List ℕ
step_label (Core hart) arrival = codes "core"
step_label (Evict hart block) arrival = concat (codes "evict " ∷ block_text block ∷ [])
step_label (Deliver number) None = codes "deliver"
step_label (Deliver number) (Some flight) = message_text flight.message

abbrev pub label_of : Step → Option Flight → Option Entry → List ℕ
label_of step arrival None = step_label step arrival
label_of step arrival (Some entry) = entry_label entry

-- how many transactions are nested, none outside of them
abbrev pub depth_of : Option Transaction → ℕ
depth_of tx = option_map_or (λ t. t.depth) tx 0

-- an instruction was retired, behind which so many transactions are nested: the outermost begins, or commits
abbrev pub edge_of_instr : Option Instr → ℕ → Edge
edge_of_instr (Some (TBegin offset)) depth = cond (depth == 1) Begun Neither
edge_of_instr (Some TCommit) depth = cond (depth == 0) Committed Neither
edge_of_instr other depth = Neither

-- what an entry did to the outermost transaction of its hart, and the machine behind it
abbrev pub edge_of : Option Entry → Machine → Edge
edge_of (Some (Retire hart pc word write load store)) w = edge_of_instr (decoded word) (depth_of (w.harts hart).tx)
edge_of (Some (Abort hart cause)) w = Aborted
edge_of other w = Neither
