-- What the page is told of a hart: an object of JavaScript.
use Rattle.std.specs.Prelude.{ℕ, ◌*◌, ◌++◌, Bool, cond, List, [], ◌∷◌, Option, Some, None, is_some, codes, decimal}
use Rattle.std.specs.Option.{option_map}
use Rattle.std.specs.List.{concat, flat_map, range_with_len}
use Rattle.words.specs.Limits.{block_bytes}
use Rattle.words.specs.declared.cause.Status.{Status}
use Rattle.texts.specs.Numerals.{hexadecimal}
use Rattle.words.specs.Registers.{reg}
use Rattle.table.specs.Program.{word_at}
use Rattle.disassembler.specs.Canonical.{canonical}
use Rattle.disassembler.specs.Labels.{label}
use Rattle.disassembler.specs.Tables.{Table}
use Rattle.directory.specs.declared.entry.DirEntry.{DirEntry}
use Rattle.protocol.specs.Lines.{Line}
use Rattle.render.specs.Parts.{stamp_text}
use Rattle.render.specs.Blocks.{cached_text}
use Rattle.render.specs.Registers.{status_text}
use Rattle.machine.specs.declared.info.TxInfo.{TxInfo}
use Rattle.machine.specs.Reads.{info_of}
use Rattle.machine.specs.States.{State, setting_of, shown}
use Rattle.pages.specs.Names.{name_text}

-- the text of the word at the pc, if there is one
abbrev pub next_text : Option ℕ → List ℕ
next_text None = []
next_text (Some word) = canonical word

-- how far hart i has come
abbrev pub progress_text : ℕ → ℕ → Status → Option ℕ → List ℕ
progress_text i pc status word = concat (codes "{id:" ∷ decimal i ∷ codes ",pc:\"" ∷ hexadecimal pc ∷ codes "\",status:\"" ∷ status_text status ∷ codes "\",next:\"" ∷ next_text word ∷ codes "\"," ∷ [])

-- the block that it waits for
abbrev pub waits_text : Option ℕ → List ℕ
waits_text None = []
waits_text (Some b) = concat (codes "waits:\"" ∷ hexadecimal (block_bytes * b) ∷ codes "\"," ∷ [])

abbrev pub truth : Bool → List ℕ
truth holds = cond holds (codes "true") (codes "false")

-- its transaction
abbrev pub info_text : TxInfo → List ℕ
info_text t = concat (codes "tx:{depth:" ∷ decimal t.depth ∷ codes ",records:" ∷ decimal t.records ∷ codes ",stamp:\"" ∷ stamp_text (Some t.stamp)
    ∷ codes "\",overflow:" ∷ truth t.overflow ∷ codes ",cycle:" ∷ truth t.cycle ∷ codes ",aborting:" ∷ truth (is_some t.aborting) ∷ codes "}," ∷ [])

abbrev pub transaction_text : Option TxInfo → List ℕ
transaction_text None = []
transaction_text (Some t) = info_text t

-- its registers, all 32
abbrev pub number_item : ℕ → List ℕ
number_item n = concat (decimal n ∷ codes "," ∷ [])

abbrev pub register_item : List ℕ → ℕ → List ℕ
register_item regs r = number_item (reg regs r)

abbrev pub registers_text : List ℕ → List ℕ
registers_text regs = codes "regs:[" ++ (flat_map (register_item regs) (range_with_len 0 32) ++ codes "],")

-- its line of block b, if it has one
abbrev pub line_item : ℕ → Option Line → List ℕ
line_item b None = []
line_item b (Some l) = concat (codes "\"" ∷ hexadecimal (block_bytes * b) ∷ codes " " ∷ cached_text l.state l.marks ∷ codes "\"," ∷ [])

-- the line of a block that the directory has an entry of. A hart has no line of any other
abbrev pub kept_line : ℕ → State → ℕ → ℕ × DirEntry → List ℕ
kept_line sets m i e = line_item e.0 (((shown sets m).harts i).lines e.0)

abbrev pub cache_text : ℕ → State → ℕ → List ℕ
cache_text sets m i = codes "lines:[" ++ (flat_map (kept_line sets m i) m.directory.kept ++ codes "]}")

-- all of hart i, with these registers, this pc and this status
abbrev pub parts_text : Table → ℕ → State → ℕ → List ℕ → ℕ → Status → List ℕ
parts_text names sets m i regs pc status = progress_text i pc status (word_at (setting_of m).segments pc) ++ (name_text (label names pc)
    ++ (waits_text (option_map (λ r. r.block) ((shown sets m).harts i).request)
    ++ (transaction_text (option_map info_of ((shown sets m).harts i).tx) ++ (registers_text regs ++ cache_text sets m i))))

abbrev pub hart_text : Table → ℕ → State → ℕ → List ℕ
hart_text names sets m i = parts_text names sets m i ((shown sets m).harts i).regs ((shown sets m).harts i).pc ((shown sets m).harts i).status

-- all harts, one after another
abbrev pub hart_item : Table → ℕ → State → ℕ → List ℕ
hart_item names sets m i = hart_text names sets m i ++ codes ","

abbrev pub harts_text : Table → ℕ → State → List ℕ
harts_text names sets m = flat_map (hart_item names sets m) (range_with_len 0 (setting_of m).count)
