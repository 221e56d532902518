-- What would do in place of a malformed value.
use Rattle.std.specs.Prelude.{ℕ, List, codes}
use Rattle.command_line.specs.declared.argument.Argument.{Argument}
use Rattle.command_line.specs.declared.argument.Argument.TheVariants.{Harts, Memory, Steps, Cache, Stats, Seed, Mix, Trace, Timeline, History, States, Witness, Word}

-- the argument's name, with its range or its names
abbrev pub hint_of : Argument → List ℕ
hint_of Harts = codes "--harts is a number from 1 to 8"
hint_of Memory = codes "--memory is a multiple of 4096 from 65536 to 4194304"
hint_of Steps = codes "--steps is a number below 4294967296"
hint_of Cache = codes "--cache is small, normal, 1x1, 1x2, 2x1, 2x2, 4x1, 4x2, 8x2, 8x4, 16x4, 64x4 or 64x8"
hint_of Stats = codes "--stats is table or csv"
hint_of Seed = codes "--seed is a number below 4294967296"
hint_of Mix = codes "--mix is three numbers below 4294967296 that are not all 0, as 30,30,1"
hint_of Trace = codes "--trace is - or the path of a file that the run doesn't read"
hint_of Timeline = codes "--timeline is the path of a file that ends in .json, .svg or .html, and that the run doesn't read"
hint_of History = codes "--history is the path of a file that the run doesn't read, and not -"
hint_of States = codes "--states is a number below 4294967296"
hint_of Witness = codes "--witness is the number of an outcome, and the path of a file that isn't the program's, and not -"
hint_of Word = codes "WORD is an address below 4294967296, as 0x2000"
