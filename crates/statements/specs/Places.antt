-- Where things stand: in a section, so many bytes from its start.
use Rattle.std.specs.Prelude.{ℕ, ◌+◌, ◌*◌, ◌/◌, max, List, Option, option_map}
use Rattle.std.specs.Borrow.{Bor}
use Rattle.std.specs.BTreeMap.{BTreeMap, get_by}
use Rattle.std.specs.Cmp.Lexicographic.{slice_cmp}
use Rattle.std.specs.Ordering.{nat_cmp}
use Rattle.statements.specs.declared.place.Place.{Place}
use Rattle.statements.specs.declared.place.Section.{Section}
use Rattle.statements.specs.declared.place.Section.TheVariants.{Text, Data}
use Rattle.statements.specs.declared.place.Names.{Names}

-- data begins at the first multiple of 4096 at or after the end of text, and at 8192 or above
abbrev pub data_start : ℕ → ℕ
data_start text_size = max 8192 ((4096 + text_size + 4095) / 4096 * 4096)

-- where a section begins: text at 4096
abbrev pub start_of : ℕ → Section → ℕ
start_of text_size Text = 4096
start_of text_size Data = data_start text_size

abbrev pub address : ℕ → Place → ℕ
address text_size place = start_of text_size place.section + place.offset

-- where the labels of a source stand, and how many bytes of text it has
pub record Labels : Type 0 where
  pub places : List ℕ → Option Place
  pub text_size : ℕ

-- the address of a label, if a line has it
abbrev pub find : Labels → List ℕ → Option ℕ
find labels name = option_map (address labels.text_size) (labels.places name)

-- the same, from a map
abbrev pub places_in : BTreeMap (Bor (List ℕ)) Place → List ℕ → Option Place
places_in map name = get_by (λ k. slice_cmp nat_cmp name k.now) map

abbrev pub labels_of : Names → Labels
labels_of names = record { places = places_in names.labels.now; text_size = names.text_size }

abbrev pub find_in : Names → List ℕ → Option ℕ
find_in names = find (labels_of names)
