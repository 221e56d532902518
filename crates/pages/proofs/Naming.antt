-- A block of which a hart is named has an entry that the directory keeps.
use Rattle.std.proofs.Common.{◌≡◌, inl, inr, ℕ, Option, Some, None, refl, sym, ap, ◌∙◌}
use Rattle.std.specs.Prelude.{IsSome}
use Rattle.std.specs.Option.{option_map_or}
use Rattle.protocol.specs.Directory.{DirEntry, first_entry}
use Rattle.directory.specs.declared.entry.DirEntry.{DirEntry as CodedEntry}
use Rattle.directory.specs.Blocks.{kept_at}
use Rattle.directory.specs.Entries.{shown_entry}
use Rattle.isolation.specs.Facts.{IsNamed}
use Rattle.machine.specs.States.{State, shown}

-- the first entry names no hart
none_named : (sets : ℕ) (m : State) (b i : ℕ) → (shown sets m).entries b ≡ first_entry → IsNamed (shown sets m) b i → ⊥
none_named sets m b i first (inl owned) = let no = sym (ap (λ (e : DirEntry). e.owner) first) ∙ owned in absurd (cc)
none_named sets m b i first (inr (inl sticky)) = let no = sym (ap (λ (e : DirEntry). e.owner) first) ∙ sticky in absurd (cc)
none_named sets m b i first (inr (inr (inl shares))) = let no = sym (ap (λ (e : DirEntry). e.sharers i) first) ∙ shares in absurd (cc)
none_named sets m b i first (inr (inr (inr (give, granted)))) = let no = sym (ap (λ (e : DirEntry). e.busy) first) ∙ granted.0 in absurd (cc)

-- nothing is kept of a block with the first entry alone
is_kept : (kept : Option CodedEntry) → (option_map_or shown_entry kept first_entry ≡ first_entry → ⊥) → IsSome kept
is_kept None other = absurd (other refl)
is_kept (Some e) other = refl

pub kept_where_named : (sets : ℕ) (m : State) (b i : ℕ) → IsNamed (shown sets m) b i → IsSome (kept_at m.directory b)
kept_where_named sets m b i named = is_kept (kept_at m.directory b) (λ first. none_named sets m b i first named)
