-- The line of a choice spells it.
use Rattle.std.proofs.Common.{◌≡◌, ◌++◌, ℕ, true, All, List, [], ◌∷◌, Some, codes, decimal, refl, ap, ◌∙◌, append-nil}
use Rattle.schedule.specs.declared.choices.Choice.{Choice}
use Rattle.schedule.specs.declared.choices.Choice.TheVariants.{Core, Evict, Deliver, Turn}
use Rattle.schedule.specs.Spelling.{sort_name, choice_of}
use Rattle.schedule.specs.Lines.{says, spelled}
use Rattle.schedule.specs.Written.{address_of, line_of, IsReadable}
use Rattle.schedule.proofs.LineWords.{Printed, joined, AreWords, parted, all_printed, letters, sort_letters, sort_read, hart_letters, hart_read, address_letters, address_read}

-- the words of a choice's line, and what they spell
record Spells (c : Choice) : Type 0 where
  pub verb : List ℕ
  pub others : List (List ℕ)
  pub line : line_of c ≡ joined verb others
  pub letters : AreWords (verb ∷ others)
  pub read : choice_of (verb ∷ others) ≡ Some c
  pub said : says (line_of c) ≡ true

spells : (c : Choice) → IsReadable c → Spells c
spells (Core h) few = record {
  verb = codes "core";
  others = decimal h ∷ [];
  line = ap (λ d. codes "core " ++ d) (append-nil (decimal h));
  letters = (letters (codes "core") refl refl, (hart_letters h few, tt));
  read = rw (hart_read h few) refl;
  said = refl;
}
spells (Evict h b) (few, near) = record {
  verb = codes "evict";
  others = decimal h ∷ (codes "0x" ++ address_of b) ∷ [];
  line = ap (λ d. codes "evict " ++ (decimal h ++ (codes " 0x" ++ d))) (append-nil (address_of b));
  letters = (letters (codes "evict") refl refl, (hart_letters h few, (address_letters b, tt)));
  read = rw (hart_read h few, address_read b near) refl;
  said = refl;
}
spells (Deliver n) (few, near) = record {
  verb = codes "deliver";
  others = sort_name n.sort ∷ decimal n.hart ∷ (codes "0x" ++ address_of n.block) ∷ [];
  line = ap (λ d. codes "deliver " ++ (sort_name n.sort ++ (codes " " ++ (decimal n.hart ++ (codes " 0x" ++ d))))) (append-nil (address_of n.block));
  letters = (letters (codes "deliver") refl refl, (sort_letters n.sort, (hart_letters n.hart few, (address_letters n.block, tt))));
  read = rw (sort_read n.sort, hart_read n.hart few, address_read n.block near) refl;
  said = refl;
}
spells Turn turn = record { verb = codes "turn"; others = []; line = refl; letters = (letters (codes "turn") refl refl, tt); read = refl; said = refl }

pub is_spelled : (c : Choice) → IsReadable c → spelled (line_of c) ≡ Some c
is_spelled c readable = let s = spells c readable in ap spelled s.line ∙ ap choice_of (parted s.verb s.others s.letters) ∙ s.read

pub is_said : (c : Choice) → IsReadable c → says (line_of c) ≡ true
is_said c readable = (spells c readable).said

pub is_printed : (c : Choice) → IsReadable c → All Printed (line_of c)
is_printed c readable = let s = spells c readable in rw s.line (all_printed s.verb s.others s.letters)
