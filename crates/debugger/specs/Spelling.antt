-- What a line spells, word by word.
use Rattle.std.specs.Prelude.{ℕ, Bool, if◌then◌else◌, nat_eq, codes, List, [], ◌∷◌, Option, Some, None, option_map}
use Rattle.std.specs.Borrow.{Bor}
use Rattle.std.specs.List.{starts_with}
use Rattle.std.specs.Option.{option_and_then, option_or}
use Rattle.std.specs.Str.{bytes_eq}
use Rattle.texts.specs.Numbers.{number_of}
use Rattle.disassembler.specs.Names.{address_of}
use Rattle.disassembler.specs.Tables.{Table}
use Rattle.schedule.specs.Spelling.{words_of, sort_of}
use Rattle.debugger.specs.declared.commands.command.Command.{Command}
use Rattle.debugger.specs.declared.commands.command.Command.TheVariants as command
use Rattle.debugger.specs.declared.commands.command.Look.{Look}
use Rattle.debugger.specs.declared.commands.command.Look.TheVariants as look

-- the words of a text, if there is one
abbrev pub words_in : Option (Bor (List ℕ)) → List (List ℕ)
words_in None = []
words_in (Some text) = words_of text.now

-- what has no word behind it
abbrev pub alone : {A : Type 0} → List (List ℕ) → A → Option A
alone [] meant = Some meant
alone words meant = None

-- one number
abbrev pub one : List (List ℕ) → Option ℕ
one (n ∷ []) = number_of n
one words = None

-- an address of text: a number, or the name of a symbol
abbrev pub place : Table → List (List ℕ) → Option ℕ
place names (word ∷ []) = option_or (number_of word) (address_of names word)
place names words = None

-- two numbers
abbrev pub two : List (List ℕ) → Option (ℕ × ℕ)
two (m ∷ n ∷ []) = option_and_then (λ first. option_map (λ second. (first, second)) (number_of n)) (number_of m)
two words = None

-- with no number it makes up to a million turns
abbrev pub run_of : List (List ℕ) → Option Command
run_of [] = Some (command.Run 1000000)
run_of words = option_map command.Run (one words)

abbrev pub evict_of : List (List ℕ) → Option Command
evict_of words = option_map (λ (hart, addr). command.Evict hart addr) (two words)

abbrev pub deliver_of : List (List ℕ) → Option Command
deliver_of (sort ∷ hart ∷ addr ∷ []) =
    option_and_then (λ s. option_and_then (λ h. option_map (λ a. command.Deliver s h a) (number_of addr)) (number_of hart)) (sort_of sort)
deliver_of words = None

abbrev pub view_of : List (List ℕ) → Option Look
view_of words = option_map (λ (hart, addr). look.View hart addr) (two words)

abbrev pub line_of : List (List ℕ) → Option Look
line_of words = option_map (λ (hart, addr). look.Line hart addr) (two words)

abbrev pub look_of : Table → List ℕ → List (List ℕ) → Option Look
look_of names verb words =
    if bytes_eq verb (codes "regs") then option_map look.Regs (one words)
    else if bytes_eq verb (codes "word") then option_map look.Word (one words)
    else if bytes_eq verb (codes "raw") then option_map look.Raw (one words)
    else if bytes_eq verb (codes "view") then view_of words
    else if bytes_eq verb (codes "line") then line_of words
    else if bytes_eq verb (codes "dir") then option_map look.Dir (one words)
    else if bytes_eq verb (codes "dirs") then alone words look.Dirs
    else if bytes_eq verb (codes "tx") then option_map look.Tx (one words)
    else if bytes_eq verb (codes "log") then option_map look.Log (one words)
    else if bytes_eq verb (codes "dis") then option_map look.Dis (place names words)
    else if bytes_eq verb (codes "messages") then alone words look.Messages
    else if bytes_eq verb (codes "harts") then alone words look.Harts
    else if bytes_eq verb (codes "help") then alone words look.Help else None

-- the first word says what is asked for
abbrev pub spelled : Table → List (List ℕ) → Option Command
spelled names [] = None
spelled names (verb ∷ words) =
    if bytes_eq verb (codes "step") then alone words command.Step
    else if bytes_eq verb (codes "run") then run_of words
    else if bytes_eq verb (codes "break") then option_map command.Break (place names words)
    else if bytes_eq verb (codes "core") then option_map command.Core (one words)
    else if bytes_eq verb (codes "evict") then evict_of words
    else if bytes_eq verb (codes "deliver") then deliver_of words
    else if bytes_eq verb (codes "quit") then alone words command.Quit
    else option_map command.Look (look_of names verb words)

abbrev pub is_comment : List ℕ → Bool
is_comment line = starts_with nat_eq line (codes "#")

-- a line that begins with # is a comment
abbrev pub command_of : Table → List ℕ → Option Command
command_of names line = if is_comment line then Some command.Comment else spelled names (words_of line)
