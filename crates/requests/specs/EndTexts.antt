-- The ends as text.
use Rattle.std.specs.Prelude.{ℕ, ◌++◌, Bool, true, false, List, [], ◌∷◌, codes, decimal, length}
use Rattle.std.specs.List.{concat, flat_map, enumerate_from}
use Rattle.render.specs.Reports.{line_end}
use Rattle.outcomes.specs.declared.gathering.End.{End}

-- a report behind a number
abbrev pub numbered : ℕ → List ℕ → List ℕ
numbered n report = concat (codes "outcome " ∷ decimal n ∷ line_end ∷ report ∷ [])

-- an end with its number
abbrev pub end_text : ℕ × End → List ℕ
end_text p = numbered p.0 p.1.report.items

-- how many ends there are, and of how many states: of all, or of as many as the search may hold, where there are more
abbrev pub count_text : ℕ → ℕ → Bool → List ℕ
count_text n states true = concat (decimal n ∷ codes " outcomes of " ∷ decimal states ∷ codes " states" ∷ line_end ∷ [])
count_text n states false = concat (decimal n ∷ codes " outcomes so far: more than " ∷ decimal states ∷ codes " states" ∷ line_end ∷ [])

-- the ends, numbered from 1, and then how many there are
abbrev pub ends_text : List End → ℕ → Bool → List ℕ
ends_text ends states is_all = flat_map end_text (enumerate_from 1 ends) ++ count_text (length ends) states is_all
