-- Steps of the machine whose entries are pushed.
use Rattle.std.specs.Prelude.{◌≡◌, List, ◌++◌, Option, option_to_list}
use Rattle.words.specs.declared.entry.Entry.{Entry}
use Rattle.words.specs.declared.entry.Step.{Step}
use Rattle.protocol.specs.Caches.{Geometry}
use Rattle.protocol.specs.Machine.{Machine, Steps, Runs}

-- a step leads from one machine to another, and its entry, if it gives one, stands behind those that were there
abbrev pub StepsInto : Geometry → Machine → List Entry → Step → Machine → List Entry → Type 0
StepsInto g v olds s w news = (e : Option Entry) × Steps g v s e w × (news ≡ olds ++ option_to_list e)

-- steps lead from one machine to another, and their entries stand behind those that were there
abbrev pub RunsInto : Geometry → Machine → List Entry → List Step → Machine → List Entry → Type 0
RunsInto g v olds steps w news = (es : List Entry) × Runs g v steps es w × (news ≡ olds ++ es)
