-- The end of a worker's turn at a desk, which settles a lease, visits a hart, and lends the hart in place of the lease.
use Rattle.std.specs.Prelude.{◌≡◌, Bool, true, false, Result, Ok, Err, alloc_error}
use Rattle.std.specs.declared.alloc.AllocError.{AllocError}
use Rattle.board.specs.declared.refusal.Refusal.{Refusal}
use Rattle.board.specs.declared.refusal.Refusal.TheVariants.{NoMemory}

module _ {D L : Type 0} (Settles : D → L → Result Unit Refusal → D → Type 0) (Visits : D → Result Bool AllocError → D → Type 0) (Lends : D → L → Bool → L → Type 0) where
  -- a hart that runs is lent again, unless the turn was the last
  abbrev pub LendsUnlessLast : Bool → D → L → Bool → L → Type 0
  LendsUnlessLast true d l runs m = (runs ≡ true) × (m ≡ l)
  LendsUnlessLast false d l runs m = Lends d l runs m

  -- behind a visit with this answer
  abbrev pub GoesOn : Bool → D → L → Result Bool AllocError → Result Bool AllocError → L → Type 0
  GoesOn is_last d l (Ok true) r m = (runs : Bool) × LendsUnlessLast is_last d l runs m × (r ≡ Ok runs)
  GoesOn is_last d l answer r m = (r ≡ answer) × (m ≡ l)

  -- behind this answer to the lease: without memory for it the turn ends, and else the hart is visited, whether the lease was settled or is stale
  abbrev pub Finishes : Bool → D → L → Result Unit Refusal → Result Bool AllocError → D → L → Type 0
  Finishes is_last d l (Err NoMemory) r e m = (r ≡ Err alloc_error) × (e ≡ d) × (m ≡ l)
  Finishes is_last d l answer r e m = (runs : Result Bool AllocError) × Visits d runs e × GoesOn is_last e l runs r m

  -- from this desk and lease, with this answer, to these
  pub record IsTurnsEnd (is_last : Bool) (d : D) (l : L) (r : Result Bool AllocError) (e : D) (m : L) : Type 0 where
    pub answer : Result Unit Refusal
    pub middle : D
    pub settles : Settles d l answer middle
    pub finishes : Finishes is_last middle l answer r e m
