-- A message in flight: its sort, the hart that it is from (or goes to from the directory), the block, and what else it says.
use Rattle.std.specs.Prelude.{ℕ, Bool, true, false, cond, ◌++◌, List, [], ◌∷◌, Option, Some, None, codes, decimal, slice_index}
use Rattle.std.specs.List.{concat}
use Rattle.words.specs.Harts.{names}
use Rattle.words.specs.declared.message.Kind.{Kind}
use Rattle.words.specs.declared.message.Kind.TheVariants.{Read, Write}
use Rattle.words.specs.declared.stamp.Stamp.{Stamp}
use Rattle.words.specs.declared.message.Message.{Message}
use Rattle.words.specs.declared.message.Message.TheVariants.{Get, Put, Done, Grant, Forward, PutAck, Ack, Nack}
use Rattle.texts.specs.Numerals.{hexadecimal}
use Rattle.render.specs.Parts.{block_text, letter, harts_text, stamp_text}

-- a sort, a hart, a block
abbrev pub heading : List ℕ → ℕ → ℕ → List ℕ
heading sort hart block = concat (sort ∷ codes " " ∷ decimal hart ∷ codes " " ∷ block_text block ∷ [])

abbrev pub kind_text : Kind → List ℕ
kind_text Read = codes " read"
kind_text Write = codes " write"

abbrev pub marked_text : Bool → List ℕ
marked_text marked = cond marked (codes " marked") (codes " unmarked")

abbrev pub ok_text : Bool → List ℕ
ok_text ok = cond ok (codes " ok") (codes " refused")

-- the stamp of the transaction that asks or refuses
abbrev pub stamp_part : Option Stamp → List ℕ
stamp_part stamp = codes " stamp " ++ stamp_text stamp

-- a block's content, by its first word
unfoldable pub first_word : List ℕ → List ℕ
first_word content = codes " content 0x" ++ hexadecimal (slice_index content 0)

-- a content that may be left out
abbrev pub content_part : Option (List ℕ) → List ℕ
content_part None = codes " content -"
content_part (Some content) = first_word content

-- whether a message goes to the directory; any other goes to a hart
abbrev pub is_to_directory : Message → Bool
is_to_directory (Get from block kind stamp) = true
is_to_directory (Put from block content marked) = true
is_to_directory (Done from block ok content) = true
is_to_directory (Grant to block give content expect) = false
is_to_directory (Forward to block kind requester stamp) = false
is_to_directory (PutAck to block) = false
is_to_directory (Ack from to block content) = false
is_to_directory (Nack from to block stamp) = false

abbrev pub message_text : Message → List ℕ
message_text (Get from block kind stamp) = concat (heading (codes "get") from block ∷ kind_text kind ∷ stamp_part stamp ∷ [])
message_text (Put from block content marked) = concat (heading (codes "put") from block ∷ marked_text marked ∷ first_word content ∷ [])
message_text (Done from block ok content) = concat (heading (codes "done") from block ∷ ok_text ok ∷ content_part content ∷ [])
message_text (Grant to block give content expect) = concat (heading (codes "grant") to block ∷ codes " " ∷ letter give ∷ codes " expect " ∷ harts_text (names expect) ∷ first_word content ∷ [])
message_text (Forward to block kind requester stamp) = concat (heading (codes "forward") to block ∷ kind_text kind ∷ codes " for " ∷ decimal requester ∷ stamp_part stamp ∷ [])
message_text (PutAck to block) = heading (codes "putack") to block
message_text (Ack from to block content) = concat (heading (codes "ack") from block ∷ codes " to " ∷ decimal to ∷ content_part content ∷ [])
message_text (Nack from to block stamp) = concat (heading (codes "nack") from block ∷ codes " to " ∷ decimal to ∷ stamp_part stamp ∷ [])
