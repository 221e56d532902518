-- The operands of a list, by the first of them.
use Rattle.std.proofs.Common.{◌≡◌, ℕ, ◌==◌, ◌&&◌, Bool, true, false, List, [], ◌∷◌, ◌++◌, Option, Some, None, Result, Ok, Err, sym, ap, ◌∙◌}
use Rattle.std.specs.List.{list_all}
use Rattle.words.specs.declared.entry.Width.{Width}
use Rattle.statements.specs.declared.fault.AsmFault.{AsmFault}
use Rattle.statements.specs.Cutting.{cut, trim}
use Rattle.statements.specs.Operands.{◌>>=◌, Find}
use Rattle.statements.specs.Statements.{operands, datum, read_data}
use Rattle.statements.proofs.Cuts.{first_part, last_part}

pub none_more : (q : List ℕ → Bool) (text front : List ℕ) → record { front = front; rest = None } ≡ cut (λ c. c == 44) text → q front ≡ true → true ≡ list_all q (operands text)
none_more q text front h holds = sym (ap (list_all q) (last_part (λ c. c == 44) text front h) ∙ ap (λ b. b && true) holds)

pub some_more : (q : List ℕ → Bool) (text front rest : List ℕ) → record { front = front; rest = Some rest } ≡ cut (λ c. c == 44) text → q front ≡ true
    → list_all q (operands rest) ≡ list_all q (operands text)
some_more q text front rest h holds = sym (ap (list_all q) (first_part (λ c. c == 44) text front rest h) ∙ ap (λ b. b && list_all q (operands rest)) holds)

pub not_first : (q : List ℕ → Bool) (text front : List ℕ) (rest : Option (List ℕ)) → record { front = front; rest = rest } ≡ cut (λ c. c == 44) text → q front ≡ false
    → false ≡ list_all q (operands text)
not_first q text front None h fails = sym (ap (list_all q) (last_part (λ c. c == 44) text front h) ∙ ap (λ b. b && true) fails)
not_first q text front (Some rest) h fails = sym (ap (list_all q) (first_part (λ c. c == 44) text front rest h) ∙ ap (λ b. b && list_all q (operands rest)) fails)

-- numbers of data, by the first of them

pub data_fault : (find : Find) (width : Width) (values text front : List ℕ) (rest : Option (List ℕ)) (e : AsmFault) → record { front = front; rest = rest } ≡ cut (λ c. c == 44) text
    → datum find width (trim front) ≡ Err e → read_data find width values (operands text) ≡ Err e
data_fault find width values text front None e h fails =
    ap (read_data find width values) (last_part (λ c. c == 44) text front h) ∙ ap (λ (r : Result ℕ AsmFault). r >>= λ v. Ok (values ++ v ∷ [])) fails
data_fault find width values text front (Some rest) e h fails =
    ap (read_data find width values) (first_part (λ c. c == 44) text front rest h) ∙ ap (λ (r : Result ℕ AsmFault). r >>= λ v. read_data find width (values ++ v ∷ []) (operands rest)) fails

pub data_last : (find : Find) (width : Width) (values text front : List ℕ) (v : ℕ) → record { front = front; rest = None } ≡ cut (λ c. c == 44) text
    → datum find width (trim front) ≡ Ok v → read_data find width values (operands text) ≡ Ok (values ++ v ∷ [])
data_last find width values text front v h is =
    ap (read_data find width values) (last_part (λ c. c == 44) text front h) ∙ ap (λ (r : Result ℕ AsmFault). r >>= λ w. Ok (values ++ w ∷ [])) is

pub data_more : (find : Find) (width : Width) (values text front rest : List ℕ) (v : ℕ) → record { front = front; rest = Some rest } ≡ cut (λ c. c == 44) text
    → datum find width (trim front) ≡ Ok v → read_data find width values (operands text) ≡ read_data find width (values ++ v ∷ []) (operands rest)
data_more find width values text front rest v h is =
    ap (read_data find width values) (first_part (λ c. c == 44) text front rest h) ∙ ap (λ (r : Result ℕ AsmFault). r >>= λ w. read_data find width (values ++ w ∷ []) (operands rest)) is
