-- What a Done leaves of a block's entry and words.
use Rattle.std.proofs.Common.{◌≡◌, ◌≢◌, ◌<◌, ℕ, ◌==◌, Bool, true, false, true≢false, cond, Option, Some, None, List, [], length, refl, sym, ap, ◌∙◌, inl, inr, nat_cmp, arith}
use Rattle.std.proofs.lemmas.Bool.{cases_eq}
use Rattle.std.proofs.lemmas.Bool.Decides.{nat_tests}
use Rattle.std.proofs.lemmas.Option.{none-some}
use Rattle.std.specs.Option.{option_map, option_map_or}
use Rattle.std.specs.List.{slice_index_or}
use Rattle.std.specs.BTreeMap.{is_at}
use Rattle.std.specs.Map.{lookup}
use Rattle.words.specs.declared.message.LineState.{LineState}
use Rattle.words.specs.declared.message.LineState.TheVariants.{Shared, Exclusive, Modified}
use Rattle.protocol.specs.Messages.{Block}
use Rattle.protocol.specs.Directory.{DirEntry, Owner, Nobody, Owned, Sticky, Busy, Served, first_entry, done_of, done_row, done_refused_row, unchanged, owner_done, sharer_done, memory_done}
use Rattle.directory.specs.declared.entry.Busy.{Busy as CodedBusy}
use Rattle.directory.specs.declared.entry.DirEntry.{DirEntry as CodedEntry}
use Rattle.directory.specs.Entries.{shown_owner, shown_busy, shown_entry, NamesBelow}
use Rattle.directory.specs.Blocks.{Blocks, IsKept, SetsBlock, entry_at, memory_at}
use Rattle.directory.proofs.Kept.{is_at-same, is_at-other}

-- the entry of a block that hart r was granted
abbrev pub granted_entry : ℕ → LineState → DirEntry → DirEntry
granted_entry r give e = record { owner = owner_done r give; sharers = sharer_done e.owner e.sharers r give; busy = None }

-- a reader is among the sharers
shares-self : (r : ℕ) (owner : Owner) (sharers : ℕ → Bool) → sharer_done owner sharers r Shared r ≡ true
shares-self r Nobody sharers = grind (arith, nat_tests)
shares-self r (Owned o) sharers = grind (arith, nat_tests)
shares-self r (Sticky o) sharers = grind (arith, nat_tests)

-- so that somebody holds the block
granted-not_first : (r : ℕ) (give : LineState) (e : DirEntry) → granted_entry r give e ≢ first_entry
granted-not_first r Shared e is = true≢false (sym (shares-self r e.owner e.sharers) ∙ ap (λ (x : DirEntry). x.sharers r) is)
granted-not_first r Exclusive e is = let o : Owned r ≡ Nobody = ap (λ (x : DirEntry). x.owner) is in cc
granted-not_first r Modified e is = let o : Owned r ≡ Nobody = ap (λ (x : DirEntry). x.owner) is in cc

-- another sharer was named before
shared-named : (n r h : ℕ) (owner : Owner) (sharers : ℕ → Bool) → h ≢ r → ((i : ℕ) → owner ≡ Owned i → i < n) → ((i : ℕ) → sharers i ≡ true → i < n)
    → sharer_done owner sharers r Shared h ≡ true → h < n
shared-named n r h Nobody sharers other owned named at = named h (grind (arith, nat_tests, at, other))
shared-named n r h (Owned o) sharers other owned named at = let same : h ≡ o = grind (arith, nat_tests, at, other) in rw same (owned o refl)
shared-named n r h (Sticky o) sharers other owned named at = absurd (grind (arith, nat_tests, at, other))

shares-named : (n r h : ℕ) (owner : Owner) (sharers : ℕ → Bool) → r < n → ((i : ℕ) → owner ≡ Owned i → i < n) → ((i : ℕ) → sharers i ≡ true → i < n)
    → sharer_done owner sharers r Shared h ≡ true → h < n
shares-named n r h owner sharers below owned named at = elim (cases_eq h r) [
  | inl same ↦ rw same below
  | inr other ↦ shared-named n r h owner sharers other owned named at
]

-- where r alone owns the block
owned-named : (n r : ℕ) → r < n → NamesBelow n (record { owner = Owned r; sharers = λ h. false; busy = None })
owned-named n r below = record {
  owned = λ h at. let same : r ≡ h = cc in rw (← same) below;
  sticky = λ h at. let o : Owned r ≡ Sticky h = at in cc;
  sharers = λ h at. let o : false ≡ true = at in cc;
  busy = λ q at. absurd (none-some q at);
}

granted-named : (n r : ℕ) (give : LineState) (e : DirEntry) → r < n → NamesBelow n e → NamesBelow n (granted_entry r give e)
granted-named n r Shared e below named = record {
  owned = λ h at. let o : Nobody ≡ Owned h = at in cc;
  sticky = λ h at. let o : Nobody ≡ Sticky h = at in cc;
  sharers = λ h at. shares-named n r h e.owner e.sharers below named.owned named.sharers at;
  busy = λ q at. absurd (none-some q at);
}
granted-named n r Exclusive e below named = owned-named n r below
granted-named n r Modified e below named = owned-named n r below

-- an entry that is kept, where the request of its block is over
module _ (harts blocks b : ℕ) (e : CodedEntry) (kept : IsKept harts blocks b e) where
  -- it was refused
  pub NamesBelow-ended : NamesBelow harts (shown_entry (record e { busy = None }))
  NamesBelow-ended = record {
    owned = kept.named.owned;
    sticky = kept.named.sticky;
    sharers = kept.named.sharers;
    busy = λ p at. absurd (none-some p at);
  }

  -- or granted
  pub IsKept-granted : (r : ℕ) (give : LineState) (f : CodedEntry) → r < harts → shown_entry f ≡ granted_entry r give (shown_entry e) → IsKept harts blocks b f
  IsKept-granted r give f hart is = record {
    inside = kept.inside;
    used = rw is (granted-not_first r give (shown_entry e));
    named = rw is (granted-named harts r give (shown_entry e) hart kept.named);
  }

-- what is kept under key b becomes w
abbrev Changes : ℕ → Option CodedEntry → List (ℕ × CodedEntry) → List (ℕ × CodedEntry) → Type 0
Changes b w old new = (q : ℕ) → lookup (is_at (nat_cmp q)) new ≡ cond (is_at (nat_cmp b) q) w (lookup (is_at (nat_cmp q)) old)

-- one block's entry and words change
SetsBlock-update : (harts b : ℕ) (old new : List Block) (kept changed : List (ℕ × CodedEntry)) (w : Option CodedEntry) → Changes b w kept changed
    → ((q : ℕ) → q ≢ b → slice_index_or new q [] ≡ slice_index_or old q []) → length new ≡ length old
    → SetsBlock (record { harts = harts; kept = kept; memory = old }) (record { harts = harts; kept = changed; memory = new }) b (option_map_or shown_entry w first_entry) (slice_index_or new b [])
SetsBlock-update harts b old new kept changed w changes others size = record {
  entry = rw (changes b, is_at-same b) refl;
  memory = refl;
  entries = λ q apart. rw (changes q, is_at-other b q apart) refl;
  memories = others;
  harts = refl;
  size = size;
}

-- the end of hart r's own request
module _ (r : ℕ) (give : LineState) (content : Option Block) (memory : Block) (e : DirEntry) where
  own : (busy : Option Busy) (ok : Bool) → busy ≡ Some (record { requester = r; give = give })
      → done_of busy r ok content e memory ≡ cond ok (done_row r give content e memory) (done_refused_row e memory)
  own busy ok is = let same : (r == r) ≡ true = grind (arith, nat_tests) in rw (is, same) refl

-- a Done of no request, or of another hart's
not_own : (r : ℕ) (ok : Bool) (content : Option Block) (memory : Block) (e : DirEntry) (busy : Option CodedBusy) → ((q : CodedBusy) → busy ≡ Some q → q.requester ≢ r)
    → done_of (option_map shown_busy busy) r ok content e memory ≡ unchanged e memory
not_own r ok content memory e None other = refl
not_own r ok content memory e (Some q) other = let apart : (q.requester == r) ≡ false = grind (arith, nat_tests, other q refl) in rw apart refl

module _ (harts b r : ℕ) (words : List Block) (kept : List (ℕ × CodedEntry)) (content : Option Block) where
  -- the directory before
  abbrev before : Blocks
  before = record { harts = harts; kept = kept; memory = words }

  abbrev served : Bool → Served
  served ok = done_of (entry_at before b).busy r ok content (entry_at before b) (memory_at before b)

  abbrev Leaves : Blocks → Served → Type 0
  Leaves new s = SetsBlock before new b s.entry s.memory

  -- nothing changes
  leaves-same : (s : Served) → s ≡ unchanged (entry_at before b) (memory_at before b) → Leaves before s
  leaves-same s is = rw is (record { entry = refl; memory = refl; entries = λ q apart. refl; memories = λ q apart. refl; harts = refl; size = refl })

  module _ (e : CodedEntry) (found : lookup (is_at (nat_cmp b)) kept ≡ Some e) where
    abbrev at : DirEntry → Bool → Served
    at x ok = done_of x.busy r ok content x (memory_at before b)

    entry : entry_at before b ≡ shown_entry e
    entry = ap (λ o. option_map_or shown_entry o first_entry) found

    pub leaves-other : (ok : Bool) → ((q : CodedBusy) → e.busy ≡ Some q → q.requester ≢ r) → Leaves before (served ok)
    leaves-other ok other = leaves-same (served ok) (rw entry (not_own r ok content (memory_at before b) (shown_entry e) e.busy other))

    module _ (give : LineState) (busy : e.busy ≡ Some (record { requester = r; give = give })) where
      pub leaves-granted : (f : CodedEntry) (changed : List (ℕ × CodedEntry)) (new : List Block) → Changes b (Some f) kept changed
          → shown_entry f ≡ granted_entry r give (shown_entry e) → slice_index_or new b [] ≡ memory_done (shown_owner e.owner) give content (memory_at before b)
          → ((q : ℕ) → q ≢ b → slice_index_or new q [] ≡ slice_index_or words q []) → length new ≡ length words
          → Leaves (record { harts = harts; kept = changed; memory = new }) (served true)
      leaves-granted f changed new changes is this others size =
          let row : served true ≡ done_row r give content (shown_entry e) (memory_at before b) = ap (λ x. at x true) entry ∙ own r give content (memory_at before b) (shown_entry e) (option_map shown_busy e.busy) true (ap (option_map shown_busy) busy) in
          rw (row, ← is, ← this) (SetsBlock-update harts b words new kept changed (Some f) changes others size)

      pub leaves-refused : (w : Option CodedEntry) (changed : List (ℕ × CodedEntry)) → Changes b w kept changed
          → option_map_or shown_entry w first_entry ≡ shown_entry (record e { busy = None })
          → Leaves (record { harts = harts; kept = changed; memory = words }) (served false)
      leaves-refused w changed changes is =
          let row : served false ≡ done_refused_row (shown_entry e) (memory_at before b) = ap (λ x. at x false) entry ∙ own r give content (memory_at before b) (shown_entry e) (option_map shown_busy e.busy) false (ap (option_map shown_busy) busy) in
          rw (row, ← is) (SetsBlock-update harts b words words kept changed w changes (λ q apart. refl) refl)
