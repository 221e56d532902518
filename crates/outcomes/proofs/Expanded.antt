-- A state whose moves are made one after another.
use Rattle.std.proofs.Common.{◌≡◌, ◌<◌, ◌⊎◌, inl, inr, ℕ, arith, length, List, [], ◌∷◌, ◌++◌, refl, sym, ap, subst, ◌∙◌}
use Rattle.std.specs.List.{Contains}
use Rattle.std.proofs.lemmas.List.Elements.{Contains-append_left, Contains-push, Contains-push_cases}
use Rattle.words.specs.declared.entry.Entry.{Entry}
use Rattle.flat.specs.State.{Flat, Setting}
use Rattle.isolation.specs.Moves.{Place, MovesInOrder, LeadsInOrder}
use Rattle.isolation.specs.Walks.{WalksInOrder}
use Rattle.outcomes.specs.declared.change.Turn.{Turn}
use Rattle.outcomes.specs.declared.pool.State.{State}
use Rattle.outcomes.specs.declared.breadth_first.Outcomes.{Outcomes}
use Rattle.outcomes.specs.Turns.{after, entries_of, IsMoveInOrder, Has}
use Rattle.outcomes.specs.Searches.{flat_at, place_at, Stands, IsMet, IsExpanded, IsSearch, Extends}
use Rattle.outcomes.proofs.Searched.{one_there, flat_still, place_still, met_still}

-- what is left of the moves of a state: each is one that the search takes, and each that the search takes is left, or was made
abbrev pub IsLeft : List ℕ → Place → Outcomes → List Turn → Type 0
IsLeft image p o turns = ((t : Turn) → Contains turns t → IsMoveInOrder image p.flat t)
    × ((es : List Entry) (q : Place) → LeadsInOrder p es q → Has image p.flat turns es q.flat ⊎ IsMet o q)

-- where a move leads was met, if it has its reason
abbrev pub IsMade : List ℕ → Place → Outcomes → Turn → Type 0
IsMade image p o t = (q : Place) → q.flat ≡ after image p.flat t → LeadsInOrder p (entries_of t) q → IsMet o q

module _ (image : List ℕ) (p : Place) where
  pub all_left : (o : Outcomes) (turns : List Turn) → ((t : Turn) → Contains turns t → IsMoveInOrder image p.flat t)
      → ((es : List Entry) (g : Flat) → MovesInOrder p.flat es g → Has image p.flat turns es g) → IsLeft image p o turns
  all_left o turns sound complete = (sound, λ es q m. inl (complete es q.flat m.moves))

  pub last_left : (o : Outcomes) (turns rest : List Turn) (t : Turn) → turns ≡ rest ++ t ∷ [] → IsLeft image p o turns → IsMoveInOrder image p.flat t
  last_left o turns rest t is left = left.0 t (subst (λ l. Contains l t) (sym is) (Contains-push rest t))

  pub left_more : (o n : Outcomes) (turns rest : List Turn) (t : Turn) → turns ≡ rest ++ t ∷ [] → IsSearch o → Extends o n → IsMade image p n t
      → IsLeft image p o turns → IsLeft image p n rest
  left_more o n turns rest t is s e made left = (
    λ x c. left.0 x (subst (λ l. Contains l x) (sym is) (Contains-append_left rest (t ∷ []) x c)),
    λ es q m. elim (left.1 es q m) [
      | inl h ↦ elim (Contains-push_cases rest t h.turn (subst (λ l. Contains l h.turn) is h.among)) [
        | inl c ↦ inl (record { turn = h.turn; among = c; shown = h.shown; leads = h.leads })
        | inr same ↦ inr (made q (sym (ap (after image p.flat) same ∙ h.leads)) (subst (λ ds. LeadsInOrder p ds q) (sym (ap entries_of same ∙ h.shown)) m))
      ]
      | inr k ↦ inr (met_still o n q s e k)
    ],
  )

-- once nothing is left, the state is expanded
pub expanded_now : (o n : Outcomes) (place : ℕ) (x : State) (turns : List Turn) → length turns ≡ 0 → IsSearch o → Extends o n → Stands o place x
    → IsLeft o.image.items (place_at o x) n turns → IsExpanded n place
expanded_now o n place x turns none s e at left y there es q m =
    let same : x ≡ y = one_there n.states.keys place x y (e.states place x at) there in
    let one : place_at n y ≡ place_at o x = ap (place_at n) (sym same) ∙ place_still o n place x s e at in
    elim (left.1 es q (subst (λ p. LeadsInOrder p es q) one m)) [
      | inl h ↦ let lt = h.among.1 in absurd (omega arith)
      | inr k ↦ k
    ]

-- a move of a state is one still
pub move_still : (o n : Outcomes) (place : ℕ) (x : State) (t : Turn) → IsSearch o → Extends o n → Stands o place x
    → IsMoveInOrder o.image.items (flat_at o x) t → IsMoveInOrder n.image.items (flat_at n x) t
move_still o n place x t s e at m =
    let P = λ (i : List ℕ) (f : Flat). IsMoveInOrder i f t in
    subst (λ i. P i (flat_at n x)) (sym e.image) (subst (λ f. P o.image.items f) (sym (flat_still o n place x s e at)) m)

-- and leads where it led
pub leads_still : (o n : Outcomes) (place : ℕ) (x : State) (t : Turn) → IsSearch o → Extends o n → Stands o place x
    → after n.image.items (flat_at n x) t ≡ after o.image.items (flat_at o x) t
leads_still o n place x t s e at = λ k. after (e.image k) (flat_still o n place x s e at k) t

pub made_still : (o n m : Outcomes) (place : ℕ) (x : State) (t : Turn) → IsSearch o → Extends o n → Stands o place x
    → IsMade n.image.items (place_at n x) m t → IsMade o.image.items (place_at o x) m t
made_still o n m place x t s e at made q is leads =
    made q (is ∙ sym (leads_still o n place x t s e at)) (subst (λ p. LeadsInOrder p (entries_of t) q) (sym (place_still o n place x s e at)) leads)

-- where each state is expanded, all that is reached was met
pub all_met : (o : Outcomes) → ((k : ℕ) (x : State) → Stands o k x → IsExpanded o k) → (p : Place) → IsMet o p → (ess : List (List Entry)) (q : Place) → WalksInOrder p ess q → IsMet o q
all_met o all p m [] q w = subst (IsMet o) (sym w) m
all_met o all p m (es ∷ rest) q w =
    let step : IsMet o w.0 = all m.place m.state m.stands m.state m.stands es w.0 (subst (λ p. LeadsInOrder p es w.0) (sym m.is) w.1) in
    all_met o all w.0 step rest q w.2

-- a walk goes on by one move
pub order_more : (f g h : Place) (ess : List (List Entry)) (es : List Entry) → WalksInOrder f ess g → LeadsInOrder g es h → WalksInOrder f (ess ++ es ∷ []) h
order_more f g h [] es k m = (h, subst (λ z. LeadsInOrder z es h) k m, refl)
order_more f g h (ds ∷ rest) es k m = (k.0, k.1, order_more k.0 g h rest es k.2 m)
