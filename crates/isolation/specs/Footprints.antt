-- What each hart's transaction has used, and which of its stores needed a record of the undo log, read off a list of entries.
--
-- A hart logs a block before a store to a line that isn't marked as written. Such a line is one to which the transaction hasn't stored since its outermost begin,
-- or one that it has given up since: an eviction of a marked line is a Spill.
use Rattle.std.specs.Prelude.{ℕ, ◌+◌, Bool, true, false, cond, ◌==◌, Option, Some, None, List, [], ◌∷◌}
use Rattle.words.specs.declared.entry.Access.{Access}
use Rattle.words.specs.declared.entry.Entry.{Entry}
use Rattle.words.specs.declared.entry.Entry.TheVariants.{Retire, Abort, Trap, Refuse, Spill}
use Rattle.flat.specs.Bytes.{put_at}
use Rattle.flat.specs.Reasons.{History, no_history, told}
use Rattle.flat.specs.Reservations.{block_of, depths_told}

-- of one hart, since its outermost begin: the blocks that it has loaded from or stored to; those to which it has stored, and of which it has given no Spill since; and
-- how many of its stores were to a block that wasn't among these
pub record Footprint : Type 0 where
  pub used : ℕ → Bool
  pub logged : ℕ → Bool
  pub records : ℕ

-- by hart
abbrev pub Footprints : Type 0
Footprints = ℕ → Footprint

abbrev pub no_footprint : Footprint
no_footprint = record { used = λ b. false; logged = λ b. false; records = 0 }

-- before the first entry
abbrev pub no_footprints : Footprints
no_footprints i = no_footprint

-- after a load in a transaction
abbrev pub with_load : Option Access → Footprint → Footprint
with_load None p = p
with_load (Some a) p = record p { used = put_at (block_of a) true p.used }

-- after a store
abbrev pub with_store : Option Access → Footprint → Footprint
with_store None p = p
with_store (Some a) p = record {
  used = put_at (block_of a) true p.used;
  logged = put_at (block_of a) true p.logged;
  records = cond (p.logged (block_of a)) p.records (p.records + 1);
}

-- after a Spill of a block
abbrev pub with_spill : ℕ → Footprint → Footprint
with_spill b p = record p { logged = put_at b false p.logged }

-- after an instruction. One that is retired outside transactions, such as an outermost begin, leaves no footprint
abbrev pub with_retired : ℕ → Option Access → Option Access → Footprint → Footprint
with_retired depth load store p = cond (depth == 0) no_footprint (with_store store (with_load load p))

-- the footprints after one entry more, where the harts are so deep in transactions
abbrev pub footprints_after : (ℕ → ℕ) → Entry → Footprints → Footprints
footprints_after depth (Retire i pc word write load store) p = put_at i (with_retired (depth i) load store (p i)) p
footprints_after depth (Spill i b) p = put_at i (with_spill b (p i)) p
footprints_after depth (Abort i cause) p = p
footprints_after depth (Trap i cause pc) p = p
footprints_after depth (Refuse j i b) p = p

-- after some entries more
abbrev pub footprints_from : History → Footprints → List Entry → Footprints
footprints_from h p [] = p
footprints_from h p (e ∷ es) = footprints_from (told h e) (footprints_after (depths_told h) e p) es

-- after a list of entries
abbrev pub footprints_of : List Entry → Footprints
footprints_of es = footprints_from no_history no_footprints es
