-- The order of stamps, and of requests.
use Rattle.std.specs.Prelude.{Bool, false, ◌==◌, ◌&&◌, ◌||◌, nat_lt, Option, Some, None}
use Rattle.words.specs.declared.stamp.Stamp.{Stamp}

-- of two stamps, the smaller count is earlier, or at one count the smaller hart
abbrev pub is_earlier : Stamp → Stamp → Bool
is_earlier a b = nat_lt a.count b.count || ((a.count == b.count) && nat_lt a.hart b.hart)

-- of two requests, the earlier has the earlier stamp; one outside a transaction has none, and is neither earlier nor later
abbrev pub earlier : Option Stamp → Option Stamp → Bool
earlier None None = false
earlier None (Some b) = false
earlier (Some a) None = false
earlier (Some a) (Some b) = is_earlier a b
