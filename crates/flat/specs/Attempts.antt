-- One transaction of a hart in a run, between the entries of the others.
use Rattle.std.specs.Prelude.{ℕ, ◌≡◌, not, ◌==◌, None, List, [], ◌∷◌, IsSome}
use Rattle.std.specs.List.{filter}
use Rattle.words.specs.declared.entry.Entry.{Entry}
use Rattle.flat.specs.Bytes.{put_at}
use Rattle.flat.specs.State.{Flat, FlatHart}
use Rattle.flat.specs.Steps.{Carries, hart_of}

-- after each of the entries hart i is in a transaction
abbrev pub StaysInside : ℕ → Flat → List Entry → Flat → Type 0
StaysInside i f [] g = g ≡ f
StaysInside i f (e ∷ es) g = (h : Flat) × Carries f e h × IsSome (h.hart i).tx × StaysInside i h es g

-- hart i is in no transaction, begins one with the first entry, and is still in it after the last
pub record IsAttempt (i : ℕ) (f : Flat) (es : List Entry) (g : Flat) : Type 0 where
  pub before : (f.hart i).tx ≡ None
  pub inside : StaysInside i f es g

-- the entries of hart i
abbrev pub own_of : ℕ → List Entry → List Entry
own_of i es = filter (λ e. hart_of e == i) es

-- and those of the others
abbrev pub others_of : ℕ → List Entry → List Entry
others_of i es = filter (λ e. not (hart_of e == i)) es

-- a state, but for hart i
abbrev pub with_hart : Flat → ℕ → FlatHart → Flat
with_hart f i h = record f { hart = put_at i h f.hart }
