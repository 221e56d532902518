-- The texts of what is looked at.
use Rattle.std.specs.Prelude.{ℕ, Bool, cond, ◌++◌, List, [], ◌∷◌, Option, Some, None, is_some, codes, decimal}
use Rattle.std.specs.List.{concat}
use Rattle.words.specs.declared.message.Message.{Message}
use Rattle.texts.specs.Numerals.{hexadecimal}
use Rattle.protocol.specs.Lines.{Line}
use Rattle.protocol.specs.Directory.{DirEntry}
use Rattle.disassembler.specs.Labels.{label}
use Rattle.disassembler.specs.Tables.{Table}
use Rattle.render.specs.Parts.{block_text, stamp_text}
use Rattle.render.specs.Blocks.{cached_text, directory_text}
use Rattle.render.specs.Messages.{message_text}
use Rattle.machine.specs.declared.info.TxInfo.{TxInfo}

-- a word that stands only where something holds
abbrev pub if_so : Bool → List ℕ → List ℕ
if_so holds name = cond holds name []

-- a line of a cache, if there is one
abbrev pub cached_line : Option Line → List ℕ
cached_line None = codes "none\n"
cached_line (Some l) = cached_text l.state l.marks ++ codes "\n"

-- a transaction, if one runs
abbrev pub tx_line : Option TxInfo → List ℕ
tx_line None = codes "none\n"
tx_line (Some t) = concat (codes "depth " ∷ decimal t.depth ∷ codes " records " ∷ decimal t.records ∷ codes " stamp " ∷ stamp_text (Some t.stamp)
    ∷ if_so t.overflow (codes " overflow") ∷ if_so t.cycle (codes " cycle") ∷ if_so (is_some t.aborting) (codes " aborting") ∷ codes "\n" ∷ [])

-- an entry of the directory, behind its block
abbrev pub entry_line : ℕ → DirEntry → List ℕ
entry_line b e = concat (block_text b ∷ codes " " ∷ directory_text e ∷ codes "\n" ∷ [])

-- a message, and whether the directory holds it
abbrev pub message_line : Message → Bool → List ℕ
message_line m held = concat (message_text m ∷ if_so held (codes " held") ∷ codes "\n" ∷ [])

-- how deep the transaction is nested, if one runs
abbrev pub depth_part : Option TxInfo → List ℕ
depth_part None = []
depth_part (Some t) = codes " depth " ++ decimal t.depth

-- the block that is waited for, if one is
abbrev pub waits_part : Option ℕ → List ℕ
waits_part None = []
waits_part (Some b) = codes " waits " ++ block_text b

-- the block that is reserved, if one is
abbrev pub reserves_part : Option ℕ → List ℕ
reserves_part None = []
reserves_part (Some b) = codes " reserves " ++ block_text b

-- both
unfoldable pub blocks_part : Option ℕ → Option ℕ → List ℕ
blocks_part waits reserved = waits_part waits ++ reserves_part reserved

-- a hart's pc, with its name
abbrev pub pc_part : Table → ℕ → List ℕ
pc_part names pc = codes " pc=0x" ++ hexadecimal pc ++ label names pc

-- how far hart i has come: its pc with its name and its status, how deep it is in transactions, the block that it waits for, and the one that it has reserved
abbrev pub hart_line : Table → ℕ → ℕ → List ℕ → Option TxInfo → Option ℕ → Option ℕ → List ℕ
hart_line names i pc status tx waits reserved =
    concat (decimal i ∷ pc_part names pc ∷ codes " " ∷ status ∷ depth_part tx ∷ blocks_part waits reserved ∷ codes "\n" ∷ [])
