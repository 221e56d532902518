-- The weights that a text says.
use Rattle.std.specs.Prelude.{ℕ, Bool, ◌==◌, ◌&&◌, List, Option, Some, None, if◌then◌else◌, length, nat_lt}
use Rattle.std.specs.List.{after_first, before_first, position_or_len}
use Rattle.std.specs.Option.{option_and_then}
use Rattle.texts.specs.Numbers.{number_of}
use Rattle.command_line.specs.declared.request.Mix.{Mix}

abbrev pub is_comma : ℕ → Bool
is_comma c = c == 44

abbrev pub has_comma : List ℕ → Bool
has_comma text = nat_lt (position_or_len is_comma text) (length text)

-- these weights, if not all of them are 0
abbrev pub mix_if : ℕ → ℕ → ℕ → Option (Option Mix)
mix_if cores arrivals evictions =
    if cores == 0 && arrivals == 0 && evictions == 0 then None else Some (Some (record { cores = cores; arrivals = arrivals; evictions = evictions }))

abbrev pub mix_from : Option ℕ → Option ℕ → Option ℕ → Option (Option Mix)
mix_from cores arrivals evictions = option_and_then (λ c. option_and_then (λ d. option_and_then (λ e. mix_if c d e) evictions) arrivals) cores

-- the weights of core steps, arrivals and evictions, with a comma between two
abbrev pub mix_behind : Option ℕ → List ℕ → Option (Option Mix)
mix_behind cores rest =
    if has_comma rest then mix_from cores (number_of (before_first is_comma rest)) (number_of (after_first is_comma rest)) else None

abbrev pub mix_of : List ℕ → Option (Option Mix)
mix_of text = if has_comma text then mix_behind (number_of (before_first is_comma text)) (after_first is_comma text) else None
