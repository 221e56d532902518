-- Texts that are put one after another.
use Rattle.std.proofs.Common.{◌≡◌, ℕ, ◌+◌, ◌≤◌, ◌<◌, ◌++◌, List, [], drop, get_or, subst, Option, Some, None, Result, Ok, Err, length, take, min, refl, ap, sym, ◌∙◌, append_assoc, arith, length-append, IsErr, append-nil}
use Rattle.std.proofs.Math.Seq.{take-append-add}
use Rattle.std.proofs.lemmas.List.{take-append-le}
use Rattle.std.specs.Option.{option_map}
use Rattle.std.specs.List.{flat_map, range_with_len}
use Rattle.words.specs.declared.sink.SinkFault.{SinkFault}
use Rattle.words.specs.Sinks.{SinkState, TookBeginning, TookAll, TookPart}
use Rattle.texts.specs.Puts.{Puts}
use Rattle.texts.proofs.Pieces.{one-more, split-at, one-more_number, first-numbers}

appended : (xs ys : List ℕ) (a b c : Option (List ℕ)) → b ≡ option_map (λ bytes. bytes ++ xs) a → c ≡ option_map (λ bytes. bytes ++ ys) b → c ≡ option_map (λ bytes. bytes ++ (xs ++ ys)) a
appended xs ys None b c e f = f ∙ ap (option_map (λ bytes. bytes ++ ys)) e
appended xs ys (Some bytes) b c e f = f ∙ ap (option_map (λ l. l ++ ys)) e ∙ ap (λ l. Some l) (append_assoc bytes xs ys)

-- a text that was taken whole, and then a beginning of another
begun : (xs ys : List ℕ) (a b c : Option (List ℕ)) → b ≡ option_map (λ bytes. bytes ++ xs) a → TookBeginning b c ys → TookBeginning a c (xs ++ ys)
begun xs ys a b c e cut =
    let within : length xs + cut.0 ≤ length (xs ++ ys) = rw (length-append xs ys) (omega (arith, cut.1)) in
    (length xs + cut.0, within, rw (take-append-add xs ys cut.0) (appended xs (take cut.0 ys) a b c e cut.2))

-- a beginning of a text is one of a longer text
begun-longer : (xs ys : List ℕ) (a b : Option (List ℕ)) → TookBeginning a b xs → TookBeginning a b (xs ++ ys)
begun-longer xs ys a b cut =
    let inside : cut.0 ≤ length xs = cut.1 in
    let within : cut.0 ≤ length (xs ++ ys) = rw (length-append xs ys) (omega arith) in
    (cut.0, within, rw (take-append-le cut.0 xs ys) cut.2)

nothing_more : (a : Option (List ℕ)) → a ≡ option_map (λ bytes. bytes ++ []) a
nothing_more None = refl
nothing_more (Some bytes) = ap (λ l. Some l) (sym (append-nil bytes))

-- no text, a text behind another, and a beginning of one
pub took-nothing : (a : SinkState) → TookAll a a []
took-nothing a = record { whole = nothing_more a.taken; clean = refl }

pub took-both : (a b c : SinkState) (xs ys : List ℕ) → TookAll a b xs → TookAll b c ys → TookAll a c (xs ++ ys)
took-both a b c xs ys first later = record { whole = appended xs ys a.taken b.taken c.taken first.whole later.whole; clean = later.clean ∙ first.clean }

pub took-then-part : (a b c : SinkState) (xs ys : List ℕ) → TookAll a b xs → TookPart b c ys → TookPart a c (xs ++ ys)
took-then-part a b c xs ys first later = record { part = begun xs ys a.taken b.taken c.taken first.whole later.part; fault = later.fault ∙ ap (λ n. min (n + 1) 18446744073709551615) first.clean }

pub took-part-longer : (a b : SinkState) (xs ys : List ℕ) → TookPart a b xs → TookPart a b (xs ++ ys)
took-part-longer a b xs ys cut = record { part = begun-longer xs ys a.taken b.taken cut.part; fault = cut.fault }

-- no text
pub puts-nothing : (a : SinkState) → Puts a a [] (Ok tt)
puts-nothing a = record { whole = nothing_more a.taken; clean = refl; part = tt; fault = tt }

-- the same text by another name
pub puts-same : {a b : SinkState} {xs ys : List ℕ} {r : Result Unit SinkFault} → xs ≡ ys → Puts a b xs r → Puts a b ys r
puts-same {a} {b} {xs} {ys} {r} e puts = subst (λ (l : List ℕ). Puts a b l r) e puts

both : (a b c : SinkState) (xs ys : List ℕ) (r : Result Unit SinkFault) → Puts a b xs (Ok tt) → Puts b c ys r → Puts a c (xs ++ ys) r
both a b c xs ys (Ok _) first second = record { whole = appended xs ys a.taken b.taken c.taken first.whole second.whole; clean = second.clean ∙ first.clean; part = tt; fault = tt }
both a b c xs ys (Err _) first second = record { whole = tt; clean = tt; part = begun xs ys a.taken b.taken c.taken first.whole second.part; fault = second.fault ∙ ap (λ n. min (n + 1) 18446744073709551615) first.clean }

-- a text, and then another
pub puts-both : {a b c : SinkState} {xs ys : List ℕ} {r : Result Unit SinkFault} → Puts a b xs (Ok tt) → Puts b c ys r → Puts a c (xs ++ ys) r
puts-both {a} {b} {c} {xs} {ys} {r} first second = both a b c xs ys r first second

cut_short : (a b : SinkState) (xs ys : List ℕ) (r s : Result Unit SinkFault) (e : SinkFault) → r ≡ Err e → Puts a b xs r → IsErr s → Puts a b (xs ++ ys) s
cut_short a b xs ys (Ok _) s e failed puts given = absurd (cc)
cut_short a b xs ys (Err _) (Ok _) e failed puts given = absurd (cc)
cut_short a b xs ys (Err _) (Err _) e failed puts given = record { whole = tt; clean = tt; part = begun-longer xs ys a.taken b.taken puts.part; fault = puts.fault }

-- a text that was not taken whole, where another was to come: this fault is given on
pub puts-cut : {a b : SinkState} {xs : List ℕ} (ys : List ℕ) {r s : Result Unit SinkFault} {e : SinkFault} → r ≡ Err e → Puts a b xs r → IsErr s → Puts a b (xs ++ ys) s
puts-cut {a} {b} {xs} ys {r} {s} {e} failed puts given = cut_short a b xs ys r s e failed puts given

-- the texts of a list, of which one was not taken whole
pub puts-cut_at : {X : Type 0} (text : X → List ℕ) (xs : List X) (n : ℕ) (d : X) {a b c : SinkState} {r s : Result Unit SinkFault} {e : SinkFault} → n < length xs → Puts a b (flat_map text (take n xs)) (Ok tt) → r ≡ Err e → Puts b c (text (get_or xs n d)) r → IsErr s → Puts a c (flat_map text xs) s
puts-cut_at text xs n d h before failed piece given =
    puts-same (ap (λ l. l ++ flat_map text (drop (n + 1) xs)) (sym (one-more text xs n d h)) ∙ split-at text xs (n + 1)) (puts-cut (flat_map text (drop (n + 1) xs)) failed (puts-both before piece) given)

-- one more text of a list
pub puts-one_more : {X : Type 0} (text : X → List ℕ) (xs : List X) (n : ℕ) (d : X) {a b c : SinkState} → n < length xs → Puts a b (flat_map text (take n xs)) (Ok tt) → Puts b c (text (get_or xs n d)) (Ok tt) → Puts a c (flat_map text (take (n + 1) xs)) (Ok tt)
puts-one_more text xs n d h before piece = puts-same (sym (one-more text xs n d h)) (puts-both before piece)

-- the texts of the first n numbers, of which one was not taken whole
pub puts-cut_first : (text : ℕ → List ℕ) {n k : ℕ} {a b c : SinkState} {r s : Result Unit SinkFault} {e : SinkFault} → k < n → Puts a b (flat_map text (range_with_len 0 k)) (Ok tt) → r ≡ Err e → Puts b c (text k) r → IsErr s → Puts a c (flat_map text (range_with_len 0 n)) s
puts-cut_first text {n} {k} h before failed piece given =
    let rest = flat_map text (drop (k + 1) (range_with_len 0 n)) in
    puts-same (ap (λ l. l ++ rest) (sym (one-more_number text k)) ∙ first-numbers text n (k + 1) (omega arith)) (puts-cut rest failed (puts-both before piece) given)

-- the text of one more number
pub puts-one_first : (text : ℕ → List ℕ) {k : ℕ} {a b c : SinkState} → Puts a b (flat_map text (range_with_len 0 k)) (Ok tt) → Puts b c (text k) (Ok tt) → Puts a c (flat_map text (range_with_len 0 (k + 1))) (Ok tt)
puts-one_first text {k} before piece = puts-same (sym (one-more_number text k)) (puts-both before piece)
