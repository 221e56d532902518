-- A line that is kept byte by byte.
use Rattle.std.proofs.Common.{◌≡◌, ◌<◌, ◌≤◌, ◌++◌, ◌∙◌, ℕ, List, [], ◌∷◌, take, length, refl, sym, ap, arith, take_all, append_assoc, ◌⊎◌, inl, inr, Option, Some, None, Result, Ok, subst}
use Rattle.std.proofs.lemmas.Bool.{cases_lt}
use Rattle.std.proofs.lemmas.List.{take-append-le, length-append, length-take-le}
use Rattle.std.specs.Io.Iter.{YieldsKnownByte}
use Rattle.std.specs.Io.KnownBytes.{Consumes}
use Rattle.debugger.specs.Lines.{kept}

-- a byte more
pub with_room : (xs : List ℕ) (b : ℕ) → length xs < 257 → xs ++ b ∷ [] ≡ take 257 (xs ++ b ∷ [])
with_room xs b room = sym (take_all 257 (xs ++ b ∷ []) (omega (arith, room, length-append xs (b ∷ []))))

pub without_room : (xs : List ℕ) (b : ℕ) → length xs ≡ 257 → xs ≡ take 257 (xs ++ b ∷ [])
without_room xs b full = sym (take-append-le 257 xs (b ∷ []) (omega (arith, full)) ∙ take_all 257 xs (omega (arith, full)))

-- a byte more of a line of which a beginning is kept
more : (xs read : List ℕ) (b : ℕ) → xs ≡ kept read → (length read < 257) ⊎ (257 ≤ length read) → take 257 (xs ++ b ∷ []) ≡ kept (read ++ b ∷ [])
more xs read b is (inl less) = ap (λ l. take 257 (l ++ b ∷ [])) (is ∙ take_all 257 read (omega (arith, less)))
more xs read b is (inr full) =
    let long : length xs ≡ 257 = ap length is ∙ length-take-le 257 read full in
    sym (without_room xs b long) ∙ is ∙ sym (take-append-le 257 read (b ∷ []) full)

pub kept_more : (xs ys read : List ℕ) (b : ℕ) → xs ≡ kept read → ys ≡ take 257 (xs ++ b ∷ []) → ys ≡ kept (read ++ b ∷ [])
kept_more xs ys read b is one = one ∙ more xs read b is (cases_lt (length read) 257)

-- what is read of known bytes
pub consumes_none : (a : Option (List ℕ)) → Consumes a a []
consumes_none None = tt
consumes_none (Some xs) = refl

pub consumes_more : (a b c : Option (List ℕ)) (bs cs : List ℕ) → Consumes a b bs → Consumes b c cs → Consumes a c (bs ++ cs)
consumes_more None b c bs cs p q = tt
consumes_more (Some x) None c bs cs p q = absurd p
consumes_more (Some x) (Some y) None bs cs p q = absurd q
consumes_more (Some x) (Some y) (Some z) bs cs p q = p ∙ ap (λ l. bs ++ l) q ∙ sym (append_assoc bs cs z)

-- the byte that came
pub came : {E : Type 0} (a b : Option (List ℕ)) (got : Option (Result ℕ E)) (item : Result ℕ E) (byte n : ℕ) → got ≡ Some item → item ≡ Ok byte → byte ≡ n → YieldsKnownByte {E = E} a got b → Consumes a b (n ∷ [])
came {E} a b got item byte n some ok equal yields =
    let here : YieldsKnownByte {E = E} a (Some item) b = subst (λ (o : Option (Result ℕ E)). YieldsKnownByte {E = E} a o b) some yields in
    let there : YieldsKnownByte {E = E} a (Some (Ok byte)) b = subst (λ (r : Result ℕ E). YieldsKnownByte {E = E} a (Some r) b) ok here in
    subst (λ (k : ℕ). Consumes a b (k ∷ [])) equal there
