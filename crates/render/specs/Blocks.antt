-- What a cache and the directory know of a block, and a word of memory.
use Rattle.std.specs.Prelude.{ℕ, ◌++◌, Bool, cond, List, [], ◌∷◌, Option, Some, None, codes, decimal}
use Rattle.std.specs.List.{concat}
use Rattle.words.specs.declared.marks.Marks.{Marks}
use Rattle.words.specs.declared.message.LineState.{LineState}
use Rattle.protocol.specs.Directory.{Owner, Nobody, Owned, Sticky, Busy, DirEntry}
use Rattle.texts.specs.Numerals.{hexadecimal}
use Rattle.render.specs.Parts.{letter, harts_text}

-- a mark's letter, or a dash
abbrev pub mark_text : List ℕ → Bool → List ℕ
mark_text name marked = cond marked name (codes "-")

-- a line of a cache: its state, and whether its transaction has read it, has written it, or had overflowed before it was filled
abbrev pub cached_text : LineState → Marks → List ℕ
cached_text state m = concat (letter state ∷ codes " " ∷ mark_text (codes "r") m.read ∷ mark_text (codes "w") m.written ∷ mark_text (codes "x") m.overflowed ∷ [])

abbrev pub owner_text : Owner → List ℕ
owner_text Nobody = codes "owner none"
owner_text (Owned h) = codes "owned " ++ decimal h
owner_text (Sticky h) = codes "sticky " ++ decimal h

-- the hart whose request is served, and the state that it is given
abbrev pub busy_text : Option Busy → List ℕ
busy_text None = codes "-"
busy_text (Some q) = concat (decimal q.requester ∷ codes " " ∷ letter q.give ∷ [])

-- an entry of the directory
abbrev pub directory_text : DirEntry → List ℕ
directory_text e = concat (owner_text e.owner ∷ codes " sharers " ∷ harts_text e.sharers ∷ codes " busy " ∷ busy_text e.busy ∷ [])

-- the line of a word of memory
abbrev pub word_line : ℕ → ℕ → List ℕ
word_line a v = concat (codes "0x" ∷ hexadecimal a ∷ codes " = 0x" ∷ hexadecimal v ∷ codes "\n" ∷ [])
