-- What a line spells, word by word.
use Rattle.std.specs.Prelude.{ℕ, ◌==◌, ◌/◌, ◌%◌, if◌then◌else◌, nat_lt, codes, List, [], ◌∷◌, Option, Some, None, option_map}
use Rattle.std.specs.List.{slice_split}
use Rattle.std.specs.Option.{option_and_then}
use Rattle.std.specs.Str.{bytes_eq}
use Rattle.words.specs.Limits.{most_harts, block_bytes}
use Rattle.texts.specs.Numbers.{number_of}
use Rattle.schedule.specs.declared.choices.Sort.{Sort}
use Rattle.schedule.specs.declared.choices.Sort.TheVariants.{Get, Put, Done, Grant, Forward, PutAck, Ack, Nack}
use Rattle.schedule.specs.declared.choices.Name.{Name}
use Rattle.schedule.specs.declared.choices.Choice.{Choice}
use Rattle.schedule.specs.declared.choices.Choice.TheVariants.{Core, Evict, Deliver, Turn}

-- a space parts two words
abbrev pub words_of : List ℕ → List (List ℕ)
words_of text = slice_split (λ c. c == 32) text

-- the word for a sort
abbrev pub sort_name : Sort → List ℕ
sort_name Get = codes "get"
sort_name Put = codes "put"
sort_name Done = codes "done"
sort_name Grant = codes "grant"
sort_name Forward = codes "forward"
sort_name PutAck = codes "putack"
sort_name Ack = codes "ack"
sort_name Nack = codes "nack"

abbrev pub sort_of : List ℕ → Option Sort
sort_of word =
    if bytes_eq word (codes "get") then Some Get
    else if bytes_eq word (codes "put") then Some Put
    else if bytes_eq word (codes "done") then Some Done
    else if bytes_eq word (codes "grant") then Some Grant
    else if bytes_eq word (codes "forward") then Some Forward
    else if bytes_eq word (codes "putack") then Some PutAck
    else if bytes_eq word (codes "ack") then Some Ack
    else if bytes_eq word (codes "nack") then Some Nack else None

-- a hart's number is below 8
abbrev pub hart_of : List ℕ → Option ℕ
hart_of word = option_and_then (λ n. if nat_lt n most_harts then Some n else None) (number_of word)

-- a block is spelled by the address of one of its words
abbrev pub block_of : List ℕ → Option ℕ
block_of word = option_and_then (λ a. if a % 4 == 0 then Some (a / block_bytes) else None) (number_of word)

abbrev pub name : Sort → ℕ → ℕ → Name
name sort hart block = record { sort = sort; hart = hart; block = block }

abbrev pub core_of : List (List ℕ) → Option Choice
core_of (hart ∷ []) = option_map Core (hart_of hart)
core_of words = None

abbrev pub evict_of : List (List ℕ) → Option Choice
evict_of (hart ∷ place ∷ []) = option_and_then (λ h. option_map (Evict h) (block_of place)) (hart_of hart)
evict_of words = None

abbrev pub deliver_of : List (List ℕ) → Option Choice
deliver_of (sort ∷ hart ∷ place ∷ []) =
    option_and_then (λ s. option_and_then (λ h. option_map (λ b. Deliver (name s h b)) (block_of place)) (hart_of hart)) (sort_of sort)
deliver_of words = None

abbrev pub turn_of : List (List ℕ) → Option Choice
turn_of [] = Some Turn
turn_of words = None

-- `core H`, `evict H A`, `deliver SORT H A`, or `turn`
abbrev pub choice_of : List (List ℕ) → Option Choice
choice_of [] = None
choice_of (verb ∷ words) =
    if bytes_eq verb (codes "core") then core_of words
    else if bytes_eq verb (codes "evict") then evict_of words
    else if bytes_eq verb (codes "deliver") then deliver_of words
    else if bytes_eq verb (codes "turn") then turn_of words else None
