-- What an order asks for.
use Rattle.command_line.specs.declared.request.Cache.{Cache}
use Rattle.command_line.specs.declared.request.Cache.TheVariants.{Small, Normal, OneByOne, OneByTwo, TwoByTwo, FourByOne, FourByTwo, EightByTwo, EightByFour, SixtyFourByFour, SixtyFourByEight}
use Rattle.protocol.specs.Caches.{Geometry}

-- as many sets and ways as its name says: a small one has 2 sets of 1 way, a normal one 16 of 4
abbrev pub geometry_of : Cache → Geometry
geometry_of OneByOne = record { sets = 1; ways = 1 }
geometry_of OneByTwo = record { sets = 1; ways = 2 }
geometry_of Small = record { sets = 2; ways = 1 }
geometry_of TwoByTwo = record { sets = 2; ways = 2 }
geometry_of FourByOne = record { sets = 4; ways = 1 }
geometry_of FourByTwo = record { sets = 4; ways = 2 }
geometry_of EightByTwo = record { sets = 8; ways = 2 }
geometry_of EightByFour = record { sets = 8; ways = 4 }
geometry_of Normal = record { sets = 16; ways = 4 }
geometry_of SixtyFourByFour = record { sets = 64; ways = 4 }
geometry_of SixtyFourByEight = record { sets = 64; ways = 8 }
