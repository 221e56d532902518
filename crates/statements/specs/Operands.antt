-- Operands: how each kind is written, and what it stands for. Each is tested for its shape, for its register and for its range.
use Rattle.std.specs.Prelude.{ℕ, ◌*◌, ◌-◌, ◌%◌, ◌^◌, ◌==◌, ◌&&◌, cond, not, Bool, false, List, [], ◌∷◌, Option, Some, None, Result, Ok, Err}
use Rattle.std.specs.Option.{is_some, ok_or, option_map}
use Rattle.statements.specs.declared.fault.AsmFault.{AsmFault}
use Rattle.statements.specs.declared.fault.AsmFault.TheVariants.{Operand, Register, Range, Alignment, Label}
use Rattle.statements.specs.Cutting.{cut, is_name}
use Rattle.statements.specs.Numbers.{Number, number, number_of, is_from_to, wrapped, negated, distance}
use Rattle.statements.specs.Registers.{register_named}

-- one step after another, up to the first fault
infixl 10 ◌>>=◌
abbrev pub ◌>>=◌ : {A B E : Type 0} → Result A E → (A → Result B E) → Result B E
(Ok x) >>= f = f x
(Err e) >>= f = Err e

-- a value, if a test holds, and else a fault
abbrev pub checked : {A : Type 0} → Bool → AsmFault → A → Result A AsmFault
checked holds fault x = cond holds (Ok x) (Err fault)

-- what comes next, if a test holds, and else a fault
abbrev pub guarded : {A : Type 0} → Bool → AsmFault → Result A AsmFault → Result A AsmFault
guarded holds fault next = cond holds next (Err fault)

-- the name of a register
unfoldable pub register : List ℕ → Result ℕ AsmFault
register text = do
  name ← checked (is_name text) Operand text
  ok_or (register_named name) Register

-- a number from -low to high, modulo 2^32
unfoldable pub immediate : ℕ → ℕ → List ℕ → Result ℕ AsmFault
immediate low high text = do
  n ← ok_or (number_of text) Operand
  checked (is_from_to low high n) Range (wrapped n)

-- the upper 20 bits of a number, by that number
unfoldable pub upper : List ℕ → Result ℕ AsmFault
unfolding immediate
upper text = do
  n ← immediate 0 0xfffff text
  Ok (n * 4096)

-- `front(inner)`
pub record Enclosed : Type 0 where
  pub front : List ℕ
  pub inner : List ℕ

abbrev pub closed : List ℕ → List ℕ → Option (List ℕ) → Result Enclosed AsmFault
closed front inner (Some []) = Ok (record { front = front; inner = inner })
closed front inner rest = Err Operand

abbrev pub opened : List ℕ → Option (List ℕ) → Result Enclosed AsmFault
opened front None = Err Operand
opened front (Some rest) = closed front (cut (λ c. c == 41) rest).front (cut (λ c. c == 41) rest).rest

unfoldable pub enclosed : List ℕ → Result Enclosed AsmFault
enclosed text = opened (cut (λ c. c == 40) text).front (cut (λ c. c == 40) text).rest

-- `imm(reg)`: an immediate of 12 bits and a register
pub record Based : Type 0 where
  pub imm : ℕ
  pub base : ℕ

unfoldable pub based : List ℕ → Result Based AsmFault
based text = do
  parts ← enclosed text
  n ← ok_or (number_of parts.front) Operand
  base ← register parts.inner
  imm ← checked (is_from_to 2048 2047 n) Range (wrapped n)
  Ok (record { imm = imm; base = base })

-- `(reg)`
unfoldable pub indirect : List ℕ → Result ℕ AsmFault
indirect text = do
  parts ← enclosed text
  inner ← elim parts.front [ [] ↦ Ok parts.inner | c ∷ cs ↦ Err Operand ]
  register inner

-- `NAME`, `NAME+number` and `NAME-number`: a label, and how far beyond it
pub record Named : Type 0 where
  pub name : List ℕ
  pub beyond : Number

abbrev pub named : List ℕ → Option Number → Option Named
named name None = None
named name (Some n) = cond (is_name name) (Some (record { name = name; beyond = n })) None

abbrev pub named_back : List ℕ → Option (List ℕ) → Option Named
named_back front None = named front (Some (number false 0))
named_back front (Some n) = named front (option_map negated (number_of n))

abbrev pub named_on : List ℕ → List ℕ → Option (List ℕ) → Option Named
named_on text front None = named_back (cut (λ c. c == 45) text).front (cut (λ c. c == 45) text).rest
named_on text front (Some n) = named front (number_of n)

unfoldable pub named_of : List ℕ → Option Named
named_of text = named_on text (cut (λ c. c == 43) text).front (cut (λ c. c == 43) text).rest

-- Labels, as far as they are known: in the first pass none is, and a place that a label names is not known yet.
abbrev pub Find : Type 0
Find = Option (List ℕ → Option ℕ)

-- how far a label's address, and beyond, is from a place, if that is known yet
abbrev pub far_from : ℕ → Named → Option (List ℕ → Option ℕ) → Result (Option Number) AsmFault
far_from from target None = Ok None
far_from from target (Some find) = ok_or (option_map (λ a. Some (distance a target.beyond from)) (find target.name)) Label

-- an address operand: a number as it stands, or how far what it names is from a place
abbrev pub number_or_named : ℕ → Find → Option Number → Option Named → Result (Option Number) AsmFault
number_or_named from find (Some n) target = Ok (Some n)
number_or_named from find None None = Err Operand
number_or_named from find None (Some target) = far_from from target find

unfoldable pub target : ℕ → Find → List ℕ → Result (Option Number) AsmFault
target from find text = number_or_named from find (number_of text) (named_of text)

-- a number that is from -low to high, modulo 2^32; one that isn't known yet is put as 0
abbrev pub in_range : ℕ → ℕ → Option Number → Result ℕ AsmFault
in_range low high None = Ok 0
in_range low high (Some n) = checked (is_from_to low high n) Range (wrapped n)

-- an offset from the instruction at an address, and a multiple of a step
unfoldable pub offset : ℕ → ℕ → ℕ → ℕ → Find → List ℕ → Result ℕ AsmFault
offset low high step from find text = do
  n ← target from find text
  value ← in_range low high n
  checked (value % step == 0) Alignment value

-- a number of 32 bits, signed or unsigned, or an address
unfoldable pub value : Find → List ℕ → Result ℕ AsmFault
value find text = do
  n ← target 0 find text
  in_range (2 ^ 31) (2 ^ 32 - 1) n

-- whether an operand is no number and names a label that no line has
abbrev pub lacks_label : (List ℕ → Option ℕ) → Option Named → Bool
lacks_label find None = false
lacks_label find (Some target) = not (is_some (find target.name))

unfoldable pub is_lost : (List ℕ → Option ℕ) → List ℕ → Bool
is_lost find text = not (is_some (number_of text)) && lacks_label find (named_of text)
