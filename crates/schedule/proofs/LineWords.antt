-- Words of a line: how they are joined and parted, and what some of them spell.
use Rattle.std.proofs.Common.{◌≡◌, ◌<◌, ◌+◌, ◌*◌, ◌/◌, ◌%◌, ◌^◌, ◌++◌, ◌==◌, ℕ, true, false, nat_lt, All, List, [], ◌∷◌, Option, Some, None, codes, decimal, length, get_or, slice_index_or, refl, ap, ◌∙◌, arith}
use Rattle.std.specs.Option.{option_map_or}
use Rattle.std.specs.Char.{digit_value}
use Rattle.std.specs.Str.Parse.{digits_value}
use Rattle.std.proofs.lemmas.Bool.{false_from_ne_true}
use Rattle.std.proofs.lemmas.Bool.Decides.{Decides-ltb, Decides-eqb}
use Rattle.std.proofs.lemmas.Fmt.{decimal_digit}
use Rattle.std.proofs.lemmas.List.Elements.{All-from_get_or, All-from_recursion, All-same, All-cons, All-append}
use Rattle.std.proofs.lemmas.List.Splits.{slice_split_at, slice_split_none}
use Rattle.words.specs.Limits.{most_harts, block_bytes}
use Rattle.texts.specs.Numerals.{hex_digit, hexadecimal}
use Rattle.texts.proofs.Digits.{each_below, passes, agree}
use Rattle.texts.specs.Numbers.{is_numeral, number_of}
use Rattle.schedule.specs.declared.choices.Sort.{Sort}
use Rattle.schedule.specs.declared.choices.Sort.TheVariants.{Get, Put, Done, Grant, Forward, PutAck, Ack, Nack}
use Rattle.schedule.specs.Spelling.{words_of, sort_name, sort_of, hart_of, block_of}
use Rattle.schedule.specs.Written.{address_of, HasAddress}

-- a character of a word, and one of a line
abbrev pub Letter : ℕ → Type 0
Letter c = (32 < c) × (c < 128)

abbrev pub Printed : ℕ → Type 0
Printed c = (31 < c) × (c < 128)

above : (c d : ℕ) → d < c → (c == d) ≡ false
above c d less = false_from_ne_true (c == d) (λ e. absurd (omega (arith, (Decides-eqb c d).0 e, less)))

pub printed : (w : List ℕ) → All Letter w → All Printed w
printed w h = λ k d lt. (omega (arith, (h k d lt).0), (h k d lt).1)

-- a line has no line feed, and is ASCII
pub one_line : (w : List ℕ) → All Printed w → All (λ c. (c == 10) ≡ false) w
one_line w h = λ k d lt. above (slice_index_or w k d) 10 (omega (arith, (h k d lt).0))

-- Words that are joined

abbrev pub joined : List ℕ → List (List ℕ) → List ℕ
joined w [] = w
joined w (v ∷ vs) = w ++ 32 ∷ joined v vs

abbrev pub AreWords : List (List ℕ) → Type 0
AreWords [] = Unit {0}
AreWords (w ∷ ws) = All Letter w × AreWords ws

no_blank : (w : List ℕ) → All Letter w → All (λ c. (c == 32) ≡ false) w
no_blank w h = λ k d lt. above (slice_index_or w k d) 32 (h k d lt).0

pub parted : (w : List ℕ) (vs : List (List ℕ)) → AreWords (w ∷ vs) → words_of (joined w vs) ≡ w ∷ vs
parted w [] h = slice_split_none (λ c. c == 32) w (no_blank w h.0)
parted w (v ∷ vs) h = slice_split_at (λ c. c == 32) w 32 (joined v vs) (no_blank w h.0) refl ∙ ap (λ ws. w ∷ ws) (parted v vs h.1)

pub all_printed : (w : List ℕ) (vs : List (List ℕ)) → AreWords (w ∷ vs) → All Printed (joined w vs)
all_printed w [] h = printed w h.0
all_printed w (v ∷ vs) h =
    All-append Printed w (32 ∷ joined v vs) (printed w h.0) (All-cons Printed 32 (joined v vs) (omega arith, omega arith) (all_printed v vs h.1))

-- Letters

pub letters : (w : List ℕ) → each_below (length w) (λ k. nat_lt 32 (get_or w k 0)) ≡ true → each_below (length w) (λ k. nat_lt (get_or w k 0) 128) ≡ true → All Letter w
letters w low high = All-from_get_or Letter w 0 (λ i lt. (
  (Decides-ltb 32 (get_or w i 0)).0 (passes (length w) (λ k. nat_lt 32 (get_or w k 0)) low i lt),
  (Decides-ltb (get_or w i 0) 128).0 (passes (length w) (λ k. nat_lt (get_or w k 0) 128) high i lt),
))

pub sort_letters : (s : Sort) → All Letter (sort_name s)
sort_letters Get = letters (codes "get") refl refl
sort_letters Put = letters (codes "put") refl refl
sort_letters Done = letters (codes "done") refl refl
sort_letters Grant = letters (codes "grant") refl refl
sort_letters Forward = letters (codes "forward") refl refl
sort_letters PutAck = letters (codes "putack") refl refl
sort_letters Ack = letters (codes "ack") refl refl
sort_letters Nack = letters (codes "nack") refl refl

pub sort_read : (s : Sort) → sort_of (sort_name s) ≡ Some s
sort_read Get = refl
sort_read Put = refl
sort_read Done = refl
sort_read Grant = refl
sort_read Forward = refl
sort_read PutAck = refl
sort_read Ack = refl
sort_read Nack = refl

pub hart_letters : (h : ℕ) → h < most_harts → All Letter (decimal h)
hart_letters h less =
    All-same Letter (decimal h) ((48 + h) ∷ []) (decimal_digit h (omega (arith, less))) (All-from_recursion Letter ((48 + h) ∷ []) ((omega arith, omega (arith, less)), tt))

is_it : (o : Option ℕ) (n : ℕ) → option_map_or (λ m. m == n) o false ≡ true → o ≡ Some n
is_it None n h = absurd (cc)
is_it (Some m) n h = ap (λ x. Some x) ((Decides-eqb m n).0 h)

pub hart_read : (h : ℕ) → h < most_harts → hart_of (decimal h) ≡ Some h
hart_read h less =
    ap hart_of (decimal_digit h (omega (arith, less)))
    ∙ is_it (hart_of ((48 + h) ∷ [])) h (passes 8 (λ n. option_map_or (λ m. m == n) (hart_of ((48 + n) ∷ [])) false) refl h less)

digit_letter : (d : ℕ) → d < 16 → Letter (hex_digit d)
digit_letter d less = (
  (Decides-ltb 32 (hex_digit d)).0 (passes 16 (λ k. nat_lt 32 (hex_digit k)) refl d less),
  (Decides-ltb (hex_digit d) 128).0 (passes 16 (λ k. nat_lt (hex_digit k) 128) refl d less),
)

hex_letters : (n : ℕ) → All Letter (hexadecimal n)
unfolding hexadecimal
hex_letters n =
    let one : (low : ℕ) → Letter (hex_digit (n / 2 ^ low % 16)) = λ low. digit_letter (n / 2 ^ low % 16) (omega arith) in
    All-from_recursion Letter (hexadecimal n) (one 28, (one 24, (one 20, (one 16, (one 12, (one 8, (one 4, (one 0, tt))))))))

pub address_letters : (b : ℕ) → All Letter (codes "0x" ++ address_of b)
address_letters b = All-append Letter (codes "0x") (address_of b) (letters (codes "0x") refl refl) (hex_letters (block_bytes * b))

-- the value of a digit
value : (n low : ℕ) → digit_value (hex_digit (n / 2 ^ low % 16)) ≡ n / 2 ^ low % 16
value n low = agree 16 (λ k. digit_value (hex_digit k)) refl (n / 2 ^ low % 16) (omega arith)

hex_value : (n : ℕ) → n < 2 ^ 32 → digits_value 16 (hexadecimal n) ≡ n
unfolding hexadecimal
hex_value n less = omega (arith, less, value n 28, value n 24, value n 20, value n 16, value n 12, value n 8, value n 4, value n 0)

is_digit : (n low : ℕ) → nat_lt (digit_value (hex_digit (n / 2 ^ low % 16))) 16 ≡ true
is_digit n low = (Decides-ltb (digit_value (hex_digit (n / 2 ^ low % 16))) 16).1 (omega (arith, value n low))

hex_numeral : (n : ℕ) → is_numeral 16 (hexadecimal n) ≡ true
unfolding hexadecimal
hex_numeral n = rw (is_digit n 28, is_digit n 24, is_digit n 20, is_digit n 16, is_digit n 12, is_digit n 8, is_digit n 4, is_digit n 0) refl

hex_read : (n : ℕ) → n < 2 ^ 32 → number_of (codes "0x" ++ hexadecimal n) ≡ Some n
hex_read n less =
    let small : nat_lt (digits_value 16 (hexadecimal n)) (2 ^ 32) ≡ true = (Decides-ltb (digits_value 16 (hexadecimal n)) (2 ^ 32)).1 (omega (arith, less, hex_value n less)) in
    rw (hex_numeral n, small) (ap (λ m. Some m) (hex_value n less))

of_four : (b : ℕ) → (block_bytes * b % 4 == 0) ≡ true
of_four b = (Decides-eqb (block_bytes * b % 4) 0).1 (omega arith)

pub address_read : (b : ℕ) → HasAddress b → block_of (codes "0x" ++ address_of b) ≡ Some b
address_read b less =
    let back : block_bytes * b / block_bytes ≡ b = omega arith in
    rw (hex_read (block_bytes * b) less, of_four b) (ap (λ m. Some m) back)

-- digits are those of the lower 32 bits
pub wraps : (n b : ℕ) → n ≡ block_bytes * b % 4294967296 → hexadecimal n ≡ address_of b
unfolding hexadecimal
wraps n b is =
    let part28 : n / 2 ^ 28 % 16 ≡ block_bytes * b / 2 ^ 28 % 16 = omega (arith, is) in
    let part24 : n / 2 ^ 24 % 16 ≡ block_bytes * b / 2 ^ 24 % 16 = omega (arith, is) in
    let part20 : n / 2 ^ 20 % 16 ≡ block_bytes * b / 2 ^ 20 % 16 = omega (arith, is) in
    let part16 : n / 2 ^ 16 % 16 ≡ block_bytes * b / 2 ^ 16 % 16 = omega (arith, is) in
    let part12 : n / 2 ^ 12 % 16 ≡ block_bytes * b / 2 ^ 12 % 16 = omega (arith, is) in
    let part8 : n / 2 ^ 8 % 16 ≡ block_bytes * b / 2 ^ 8 % 16 = omega (arith, is) in
    let part4 : n / 2 ^ 4 % 16 ≡ block_bytes * b / 2 ^ 4 % 16 = omega (arith, is) in
    let part0 : n / 2 ^ 0 % 16 ≡ block_bytes * b / 2 ^ 0 % 16 = omega (arith, is) in
    rw (part28, part24, part20, part16, part12, part8, part4, part0) refl
