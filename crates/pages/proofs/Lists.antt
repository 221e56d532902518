-- The texts of a list, put one after another.
use Rattle.std.proofs.Common.{◌≡◌, ℕ, ◌++◌, List, [], ◌∷◌, Result, Ok, Err, refl, sym, ap, ◌∙◌, append_assoc}
use Rattle.std.specs.Prelude.{IsErr}
use Rattle.std.specs.List.{flat_map}
use Rattle.words.specs.declared.sink.SinkFault.{SinkFault}
use Rattle.words.specs.Sinks.{SinkState}
use Rattle.texts.specs.Puts.{Puts}
use Rattle.texts.proofs.Putting.{puts-nothing, puts-same, puts-both, puts-cut}

append_nil : {A : Type 0} (xs : List A) → xs ++ [] ≡ xs
append_nil [] = refl
append_nil (x ∷ xs) = ap (λ ys. x ∷ ys) (append_nil xs)

flat_map-both : {A : Type 0} (line : A → List ℕ) (xs ys : List A) → flat_map line (xs ++ ys) ≡ flat_map line xs ++ flat_map line ys
flat_map-both line [] ys = refl
flat_map-both line (x ∷ xs) ys = ap (λ t. line x ++ t) (flat_map-both line xs ys) ∙ sym (append_assoc (line x) (flat_map line xs) (flat_map line ys))

-- the lines of a list were put up to here, and these are left
pub record PutUpTo {A : Type 0} (line : A → List ℕ) (all left : List A) (before after : SinkState) : Type 0 where
  pub done : List A
  pub split : all ≡ done ++ left
  pub puts : Puts before after (flat_map line done) (Ok tt)

pub up_to-start : {A : Type 0} (line : A → List ℕ) (all left : List A) (a : SinkState) → left ≡ all → PutUpTo line all left a a
up_to-start line all left a is = record { done = []; split = sym is; puts = puts-nothing a }

one-more : {A : Type 0} (line : A → List ℕ) (xs : List A) (x : A) → flat_map line xs ++ line x ≡ flat_map line (xs ++ x ∷ [])
one-more line xs x = ap (λ t. flat_map line xs ++ t) (sym (append_nil (line x))) ∙ sym (flat_map-both line xs (x ∷ []))

pub up_to-more : {A : Type 0} (line : A → List ℕ) {all : List A} {x : A} {left : List A} {a b c : SinkState}
    → PutUpTo line all (x ∷ left) a b → Puts b c (line x) (Ok tt) → PutUpTo line all left a c
up_to-more line {x = x} {left = left} so_far piece = record {
  done = so_far.done ++ x ∷ [];
  split = so_far.split ∙ sym (append_assoc so_far.done (x ∷ []) left);
  puts = puts-same (one-more line so_far.done x) (puts-both so_far.puts piece);
}

pub up_to-cut : {A : Type 0} (line : A → List ℕ) {all : List A} {x : A} {left : List A} {a b c : SinkState} {r s : Result Unit SinkFault} {e : SinkFault}
    → PutUpTo line all (x ∷ left) a b → r ≡ Err e → Puts b c (line x) r → IsErr s → Puts a c (flat_map line all) s
up_to-cut line {x = x} {left = left} so_far failed piece given =
    let whole : (flat_map line so_far.done ++ line x) ++ flat_map line left ≡ flat_map line (so_far.done ++ (x ∷ left)) =
    append_assoc (flat_map line so_far.done) (line x) (flat_map line left) ∙ sym (flat_map-both line so_far.done (x ∷ left)) in
    puts-same (whole ∙ ap (flat_map line) (sym so_far.split)) (puts-cut (flat_map line left) failed (puts-both so_far.puts piece) given)

pub up_to-end : {A : Type 0} (line : A → List ℕ) {all : List A} {a b : SinkState} → PutUpTo line all [] a b → Puts a b (flat_map line all) (Ok tt)
up_to-end line so_far = puts-same (ap (flat_map line) (sym (so_far.split ∙ append_nil so_far.done))) so_far.puts
