-- Stamps, and the reasons of refusals and conflicts, read off a list of entries.
use Rattle.std.specs.Prelude.{ℕ, ◌≡◌, ◌≢◌, ◌<◌, ◌+◌, ◌-◌, ◌/◌, min, Bool, true, false, not, cond, ◌==◌, ◌&&◌, ◌||◌, nat_lt, Option, Some, None, List, [], ◌∷◌, ◌⊎◌, IsOkAnd}
use Rattle.words.specs.declared.entry.Entry.{Entry}
use Rattle.words.specs.declared.entry.Entry.TheVariants.{Retire, Abort, Trap, Refuse, Spill}
use Rattle.words.specs.declared.stamp.Stamp.{Stamp}
use Rattle.words.specs.Stamps.{is_earlier}
use Rattle.table.specs.declared.instr.Instr.{Instr}
use Rattle.table.specs.declared.instr.Instr.TheVariants as instr
use Rattle.table.specs.declared.effect.Act.{Act}
use Rattle.table.specs.declared.effect.Act.TheVariants as act
use Rattle.table.specs.declared.effect.Store.{Store}
use Rattle.table.specs.Table.{decoded}
use Rattle.flat.specs.Bytes.{put_at}
use Rattle.flat.specs.State.{Flat, has_read, has_written}
use Rattle.flat.specs.Causes.{next_of}

-- what the entries so far say of one hart: how deep it is in transactions; the stamp of its transaction, or of the last one; whether
-- the last one was aborted; and, since its outermost begin, whether it gave a Spill, whether it refused an earlier stamp, and whether it
-- was refused by an earlier one since it last retired
pub record Past : Type 0 where
  pub depth : ℕ
  pub stamp : Stamp
  pub was_aborted : Bool
  pub has_spilled : Bool
  pub refused_earlier : Bool
  pub was_refused : Bool

-- what the entries so far say: how many outermost begins took a new stamp, up to the greatest count, and each hart's past
pub record History : Type 0 where
  pub taken : ℕ
  pub past : ℕ → Past

-- both run transactions, and the first one's stamp is the earlier
abbrev pub is_older : Past → Past → Bool
is_older p q = nat_lt 0 p.depth && (nat_lt 0 q.depth && is_earlier p.stamp q.stamp)

-- an outermost begin: after an abort the old stamp is kept, else a new one is taken
abbrev pub past_begun : ℕ → ℕ → Past → Past
past_begun taken i p = record {
  depth = 1;
  stamp = cond p.was_aborted p.stamp (record { count = taken; hart = i });
  was_aborted = false;
  has_spilled = false;
  refused_earlier = false;
  was_refused = false;
}

-- a retired instruction
abbrev pub past_retired : ℕ → ℕ → Option Instr → Past → Past
past_retired taken i None p = p
past_retired taken i (Some x) p = elim x [
  | instr.TBegin o ↦ cond (p.depth == 0) (past_begun taken i p) (record p { depth = p.depth + 1; was_refused = false })
  | instr.TCommit ↦ record p { depth = p.depth - 1; was_refused = false }
  | _ ↦ record p { was_refused = false }
]

-- whether a retired instruction is an outermost begin that takes a new stamp
abbrev pub takes_stamp : Option Instr → Past → Bool
takes_stamp None p = false
takes_stamp (Some x) p = elim x [ instr.TBegin o ↦ (p.depth == 0) && not p.was_aborted | _ ↦ false ]

-- the history with one entry more
abbrev pub told : History → Entry → History
told h (Retire i pc w x l s) = record {
  taken = cond (takes_stamp (decoded w) (h.past i)) (min (h.taken + 1) 18446744073709551615) h.taken;
  past = put_at i (past_retired h.taken i (decoded w) (h.past i)) h.past;
}
told h (Abort i c) = record h { past = put_at i (record (h.past i) { depth = 0; was_aborted = true }) h.past }
told h (Trap i c p) = h
told h (Refuse j i b) = record h {
  past = λ k. record (h.past k) {
    refused_earlier = (h.past k).refused_earlier || ((k == j) && is_older (h.past i) (h.past j));
    was_refused = (h.past k).was_refused || ((k == i) && is_older (h.past j) (h.past i));
  };
}
told h (Spill i b) = record h { past = put_at i (record (h.past i) { has_spilled = true }) h.past }

-- the history of a list of entries
abbrev pub history_of : History → List Entry → History
history_of h [] = h
history_of h (e ∷ es) = history_of (told h e) es

-- before the first entry
abbrev pub no_history : History
no_history = record {
  taken = 0;
  past = λ i. record { depth = 0; stamp = record { count = 0; hart = i }; was_aborted = false; has_spilled = false; refused_earlier = false; was_refused = false };
}

-- what hart j's transaction has done stands against this access to the block
abbrev pub StandsAgainst : Flat → ℕ → ℕ → Option Store → Type 0
StandsAgainst f j b None = has_written (f.hart j).tx b ≡ true
StandsAgainst f j b (Some s) = (has_read (f.hart j).tx b ≡ true) ⊎ (has_written (f.hart j).tx b ≡ true)

-- the act loads from or stores to block b, and hart j's transaction stands against it or has spilled
abbrev pub WantsKept : Flat → ℕ → ℕ → Bool → Act → Type 0
WantsKept f j b spilled (act.Memory m) = (m.addr / 32 ≡ b) × (StandsAgainst f j b m.store ⊎ (spilled ≡ true))
WantsKept f j b spilled (act.Conditional rd m) = (m.addr / 32 ≡ b) × (StandsAgainst f j b m.store ⊎ (spilled ≡ true))
WantsKept f j b spilled _ = ⊥

-- why hart j may refuse block b to hart i: they are two of the harts; the word at i's pc wants the block, and it isn't allowed because
-- of j's transaction, or j's transaction has spilled, and can't tell
pub record RefusalHasReason (f : Flat) (h : History) (j i b : ℕ) : Type 0 where
  pub refuser : j < f.setting.count
  pub requester : i < f.setting.count
  pub other : j ≢ i
  pub wants : IsOkAnd (next_of f.setting (f.hart i)) (λ e. WantsKept f j b (nat_lt 0 (h.past j).depth && (h.past j).has_spilled) e.act)

-- why hart i's transaction may abort for a conflict: since its begin it refused an earlier one, and since it last retired an earlier one refused it
abbrev pub ConflictHasReason : History → ℕ → Type 0
ConflictHasReason h i = ((h.past i).refused_earlier ≡ true) × ((h.past i).was_refused ≡ true)
