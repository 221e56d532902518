-- The first fault of checks that stand one after another.
use Rattle.std.proofs.Common.{◌≡◌, ◌≢◌, Bool, true, false, cond, List, [], ◌∷◌, ◌++◌, Option, Some, None, refl}
use Rattle.std.specs.List.{AllByRecursion}
use Rattle.loader.specs.declared.fault.LoadFault.{LoadFault}
use Rattle.loader.specs.declared.fault.LoadFault.TheVariants.{NoMemory}
use Rattle.words.specs.First.{first}
use Rattle.loader.specs.Checks.{IsFault}

-- the first check finds nothing, and so do the others
false_first : (b : Bool) (fault : LoadFault) (found : Option LoadFault) (T : Type 0) → (found ≡ None → T) → cond b (Some fault) found ≡ None → (b ≡ false) × T
false_first true fault found T h e = absurd cc
false_first false fault found T h e = (refl, h e)

-- checks find nothing if and only if each test is false
pub first-all_false : (checks : List (Bool × LoadFault)) → first checks ≡ None → AllByRecursion (λ check. check.0 ≡ false) checks
first-all_false [] e = tt
first-all_false (check ∷ checks) e = false_first check.0 check.1 (first checks) (AllByRecursion (λ check. check.0 ≡ false) checks) (first-all_false checks) e

pub all_false-first : (checks : List (Bool × LoadFault)) → AllByRecursion (λ check. check.0 ≡ false) checks → first checks ≡ None
all_false-first [] h = refl
all_false-first (check ∷ checks) h = rw (h.0) (all_false-first checks h.1)

-- a check that finds nothing is passed
past : (b : Bool) (fault : LoadFault) (these all next : Option LoadFault) → (these ≡ None → all ≡ next) → cond b (Some fault) these ≡ None → cond b (Some fault) all ≡ next
past true fault these all next h e = absurd cc
past false fault these all next h e = h e

-- behind checks that find nothing, the next ones decide
pub first-append_none : (xs ys : List (Bool × LoadFault)) → first xs ≡ None → first (xs ++ ys) ≡ first ys
first-append_none [] ys e = refl
first-append_none (x ∷ xs) ys e = past x.0 x.1 (first xs) (first (xs ++ ys)) (first ys) (first-append_none xs ys) e

-- the first check finds nothing, nor do those of either part
splits : (b : Bool) (fault : LoadFault) (these all : Option LoadFault) (T : Type 0) → (all ≡ None → (these ≡ None) × T) → cond b (Some fault) all ≡ None → (cond b (Some fault) these ≡ None) × T
splits true fault these all T h e = absurd cc
splits false fault these all T h e = h e

-- where all find nothing, so do both parts
pub first-append_parts : (xs ys : List (Bool × LoadFault)) → first (xs ++ ys) ≡ None → (first xs ≡ None) × (first ys ≡ None)
first-append_parts [] ys e = (refl, e)
first-append_parts (x ∷ xs) ys e = splits x.0 x.1 (first xs) (first (xs ++ ys)) (first ys ≡ None) (first-append_parts xs ys) e

-- a check that finds its own fault is the first
stays : (b : Bool) (mine fault : LoadFault) (these all : Option LoadFault) → (these ≡ Some fault → all ≡ Some fault) → cond b (Some mine) these ≡ Some fault → cond b (Some mine) all ≡ Some fault
stays true mine fault these all h e = e
stays false mine fault these all h e = h e

-- what is found first stays, whatever follows
pub first-append_some : (xs ys : List (Bool × LoadFault)) (fault : LoadFault) → first xs ≡ Some fault → first (xs ++ ys) ≡ Some fault
first-append_some [] ys fault e = absurd cc
first-append_some (x ∷ xs) ys fault e = stays x.0 x.1 fault (first xs) (first (xs ++ ys)) (first-append_some xs ys fault) e

-- a fault that is found may be answered, and what is answered was found, unless memory ran out
pub is_fault : (fault : LoadFault) (found : Option LoadFault) → found ≡ Some fault → IsFault fault found
is_fault NoMemory found e = tt
is_fault fault found e = e

pub IsFault-found : (fault : LoadFault) (found : Option LoadFault) → IsFault fault found → fault ≢ NoMemory → found ≡ Some fault
IsFault-found NoMemory found h ne = absurd (ne refl)
IsFault-found fault found h ne = h

-- an answer about a beginning of the checks is one about all
pub IsFault-wider : (fault : LoadFault) (part all : Option LoadFault) → ((f : LoadFault) → part ≡ Some f → all ≡ Some f) → IsFault fault part → IsFault fault all
IsFault-wider NoMemory part all h found = tt
IsFault-wider fault part all h found = h fault found
