-- Which transaction is the earliest, by what the entries so far say.
use Rattle.std.specs.Prelude.{ℕ, ◌≡◌, ◌≢◌, ◌<◌, ◌⊎◌, true, List, [], ◌∷◌, ◌++◌}
use Rattle.words.specs.declared.entry.Entry.{Entry}
use Rattle.words.specs.Stamps.{is_earlier}
use Rattle.flat.specs.Reasons.{Past, History, no_history, history_of}

-- a hart holds a stamp while it is in a transaction, and from an abort on, since its next transaction keeps the stamp
abbrev pub HoldsStamp : Past → Type 0
HoldsStamp p = (0 < p.depth) ⊎ (p.was_aborted ≡ true)

-- each other of so many harts that holds a stamp holds a later one than hart i; and hart i's hasn't the greatest count, which is given again and again
pub record IsEarliest (harts : ℕ) (h : History) (i : ℕ) : Type 0 where
  pub others : (k : ℕ) → k < harts → k ≢ i → HoldsStamp (h.past k) → is_earlier (h.past i).stamp (h.past k).stamp ≡ true
  pub count : (h.past i).stamp.count < 18446744073709551615

-- hart i is in a transaction that began with this entry: before it hart i was in none, and after it, and after each entry since, it is in one
pub record IsInsideSince (before : List Entry) (begin : Entry) (since : List Entry) (i : ℕ) : Type 0 where
  pub outside : ((history_of no_history before).past i).depth ≡ 0
  pub inside : (es rest : List Entry) → since ≡ es ++ rest → 0 < ((history_of no_history (before ++ begin ∷ es)).past i).depth

-- and as that transaction began it was the earliest
pub record BeganEarliest (harts : ℕ) (before : List Entry) (begin : Entry) (since : List Entry) (i : ℕ) : Type 0 where
  pub inside : IsInsideSince before begin since i
  pub earliest : IsEarliest harts (history_of no_history (before ++ begin ∷ [])) i
