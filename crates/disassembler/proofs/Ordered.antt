-- Symbols in order, and where those at or below an address end.
use Rattle.std.proofs.Common.{◌≡◌, ℕ, ◌+◌, ◌-◌, ◌<◌, ◌≤◌, not, ◌==◌, ◌&&◌, nat_le, nat_lt, Bool, true, false, cond, List, [], ◌∷◌, ◌++◌, length, take, drop, get_or, Option, Some, None, refl, sym, ap, ◌∙◌, arith, take-append-drop, drop-cons, get_or-take, get_or-drop, length-take-le, length-drop, add-one}
use Rattle.std.specs.List.{All, filter}
use Rattle.std.specs.List.Sorted.{IsPartitionPoint, IsStableByKey, ties}
use Rattle.std.specs.Ordering.{nat_cmp, is_lt}
use Rattle.std.specs.declared.cmp.Ordering.TheVariants.{Less, Equal, Greater}
use Rattle.std.proofs.lemmas.Bool.{leb-true, le-leb, le-ltb, cond-false, and_right}
use Rattle.std.proofs.lemmas.Bool.Decides.{nat_tests}
use Rattle.std.proofs.lemmas.List.Elements.{All-head, All-tail, All-from_all_within, All-from_get_or, filter_agree}
use Rattle.disassembler.specs.declared.symbol.Symbol.{Symbol}
use Rattle.disassembler.specs.Names.{nearer, nearest}
use Rattle.disassembler.specs.Orders.{IsRising}
use Rattle.disassembler.proofs.Nearest.{IsAbove, nearest-none}

nearer-alone : (a : ℕ) (s : Symbol) (o : Option Symbol) → o ≡ None → nat_le s.address a ≡ true → nearer a s o ≡ Some s
nearer-alone a s None e h = rw h refl
nearer-alone a s (Some t) e h = absurd cc

nearer-some : (a : ℕ) (s e : Symbol) → s.address ≤ e.address → nearer a s (Some e) ≡ Some e
nearer-some a s e le = cond-false (nat_le s.address a && nat_lt e.address s.address) (Some s) (Some e) (and_right (nat_le s.address a) (nat_lt e.address s.address) (le-ltb e.address s.address le))

nearer-kept : (a : ℕ) (s e : Symbol) (o : Option Symbol) → o ≡ Some e → s.address ≤ e.address → nearer a s o ≡ Some e
nearer-kept a s e o is le = ap (nearer a s) is ∙ nearer-some a s e le

-- a symbol at or below an address, behind others that are no greater and before some that lie above
pub nearest-between : (front back : List Symbol) (e : Symbol) (a : ℕ) → e.address ≤ a → All (λ s. s.address ≤ e.address) front → All (IsAbove a) back → nearest (front ++ e ∷ back) a ≡ Some e
nearest-between [] back e a below less above = nearer-alone a e (nearest back a) (nearest-none back a above) (le-leb e.address a below)
nearest-between (s ∷ front) back e a below less above =
    nearer-kept a s e (nearest (front ++ e ∷ back) a) (nearest-between front back e a below (All-tail (λ s. s.address ≤ e.address) s front less) above) (All-head (λ s. s.address ≤ e.address) s front less)

-- the last of those at or below an address
pub nearest-last : (ss : List Symbol) (a n : ℕ) (d : Symbol) → IsRising ss → IsPartitionPoint (λ s. nat_le s.address a ≡ true) (IsAbove a) ss (n + 1) → n + 1 ≤ length ss → nearest ss a ≡ Some (get_or ss n d)
nearest-last ss a n d up point le =
    let e = get_or ss n d in
    let front : All (λ s. s.address ≤ e.address) (take n ss) =
    All-from_get_or (λ s. s.address ≤ e.address) (take n ss) d (λ k lt.
    let short : length (take n ss) ≡ n = length-take-le n ss (omega arith) in
    let before : k < n = omega (arith, lt, short) in
    rw (get_or-take n ss k d before) (up k n d (omega arith) (omega arith))) in
    let back : All (IsAbove a) (drop (n + 1) ss) =
    All-from_get_or (IsAbove a) (drop (n + 1) ss) d (λ k lt.
    let long : length (drop (n + 1) ss) ≡ length ss - (n + 1) = length-drop (n + 1) ss in
    rw (get_or-drop (n + 1) ss k d) (point.1 (n + 1 + k) d (omega arith) (omega (arith, lt, long)))) in
    let whole : take n ss ++ e ∷ drop (n + 1) ss ≡ ss = ap (λ l. take n ss ++ l) (sym (drop-cons ss n d (omega arith) ∙ ap (λ k. e ∷ drop k ss) (sym (add-one n)))) ∙ take-append-drop n ss in
    ap (λ l. nearest l a) (sym whole) ∙ nearest-between (take n ss) (drop (n + 1) ss) e a (leb-true e.address a (point.0 n d (omega arith) (omega arith))) front back

-- none, where each lies above
pub nearest-first : (ss : List Symbol) (a : ℕ) → IsPartitionPoint (λ s. nat_le s.address a ≡ true) (IsAbove a) ss 0 → nearest ss a ≡ None
nearest-first ss a point = nearest-none ss a (All-from_all_within (IsAbove a) ss point.1)

-- a stable sort by address keeps the order of those at one address
less_test : (p q : Bool) → is_lt (cond p Less (cond q Equal Greater)) ≡ p
less_test true true = refl
less_test true false = refl
less_test false true = refl
less_test false false = refl

same_numbers : (a b : ℕ) → not (nat_lt a b) && not (nat_lt b a) ≡ (b == a)
same_numbers a b = grind (arith, nat_tests)

same_test : (a b : ℕ) → not (is_lt (nat_cmp a b)) && not (is_lt (nat_cmp b a)) ≡ (b == a)
same_test a b = rw (less_test (nat_lt a b) (a == b), less_test (nat_lt b a) (b == a)) (same_numbers a b)

pub kept_by_address : (ss ts : List Symbol) → IsStableByKey (λ s. s.address) nat_cmp ss ts → (a : ℕ) → filter (λ s. s.address == a) ts ≡ filter (λ s. s.address == a) ss
kept_by_address ss ts stable a =
    let x : Symbol = record { address = a; end = 0; name = 0 } in
    let test = λ (s : Symbol). s.address == a in
    let tie = ties (λ (s t : Symbol). is_lt (nat_cmp s.address t.address)) x in
    let agree = filter_agree tie test (λ s. same_test a s.address) in
    sym (agree ts) ∙ stable x ∙ agree ss
