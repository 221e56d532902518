-- The directory's entries, as the rows of the protocol speak of them: there a set of harts is a test on harts.
use Rattle.std.specs.Prelude.{ℕ, ◌≡◌, ◌<◌, true, Some}
use Rattle.std.specs.Option.{option_map}
use Rattle.words.specs.Harts.{names}
use Rattle.protocol.specs.Directory.{Owner, Nobody, Owned, Sticky, Busy, DirEntry}
use Rattle.directory.specs.declared.entry.Owner.{Owner as CodedOwner}
use Rattle.directory.specs.declared.entry.Owner.TheVariants as coded
use Rattle.directory.specs.declared.entry.Busy.{Busy as CodedBusy}
use Rattle.directory.specs.declared.entry.DirEntry.{DirEntry as CodedEntry}

abbrev pub shown_owner : CodedOwner → Owner
shown_owner coded.Nobody = Nobody
shown_owner (coded.Owned h) = Owned h
shown_owner (coded.Sticky h) = Sticky h

abbrev pub shown_busy : CodedBusy → Busy
shown_busy q = record { requester = q.requester; give = q.give }

abbrev pub shown_entry : CodedEntry → DirEntry
shown_entry e = record { owner = shown_owner e.owner; sharers = names e.sharers; busy = option_map shown_busy e.busy }

-- an entry names no hart from n on
pub record NamesBelow (n : ℕ) (e : DirEntry) : Type 0 where
  pub owned : (h : ℕ) → e.owner ≡ Owned h → h < n
  pub sticky : (h : ℕ) → e.owner ≡ Sticky h → h < n
  pub sharers : (h : ℕ) → e.sharers h ≡ true → h < n
  pub busy : (q : Busy) → e.busy ≡ Some q → q.requester < n
