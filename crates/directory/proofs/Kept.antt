-- Which entries are kept, as they change.
use Rattle.std.proofs.Common.{◌≡◌, ◌≢◌, ◌<◌, ◌↔◌, ℕ, Bool, true, false, cond, Option, Some, None, List, length, refl, sym, ap, ◌∙◌, subst, inl, inr, arith, nat_cmp}
use Rattle.std.proofs.lemmas.Bool.{cases_eq, cases_lt}
use Rattle.std.proofs.lemmas.Map.Steps.{set_value_same}
use Rattle.std.proofs.lemmas.Option.{same_Some}
use Rattle.std.proofs.Math.Path.{fun_ext}
use Rattle.std.specs.Prelude.{is_some, IsTrue}
use Rattle.std.specs.Option.{option_map}
use Rattle.std.specs.Cmp.{nat_cmp_is}
use Rattle.std.specs.Ordering.{is_eq}
use Rattle.std.specs.declared.cmp.Ordering.TheVariants.{Less, Equal, Greater}
use Rattle.std.specs.BTreeMap.{is_at}
use Rattle.std.specs.Map.{lookup, set_value}
use Rattle.words.specs.Harts.{names}
use Rattle.protocol.specs.Messages.{Block}
use Rattle.protocol.specs.Directory.{DirEntry, Served, unless_busy, Nobody, Owned, Sticky, first_entry}
use Rattle.directory.specs.declared.entry.Busy.{Busy as CodedBusy}
use Rattle.directory.specs.declared.entry.DirEntry.{DirEntry as CodedEntry}
use Rattle.directory.specs.declared.entry.Owner.TheVariants as coded
use Rattle.directory.specs.Entries.{shown_busy, shown_entry, NamesBelow}
use Rattle.directory.specs.Blocks.{IsKept, IsSound}

-- the first entry names nobody
pub NamesBelow-first : (n : ℕ) (e : DirEntry) → e ≡ first_entry → NamesBelow n e
NamesBelow-first n e is = record {
  owned = λ h at. let o : Nobody ≡ Owned h = sym (ap (λ (x : DirEntry). x.owner) is) ∙ at in cc;
  sticky = λ h at. let o : Nobody ≡ Sticky h = sym (ap (λ (x : DirEntry). x.owner) is) ∙ at in cc;
  sharers = λ h at. let o : false ≡ true = sym (ap (λ (x : DirEntry). x.sharers h) is) ∙ at in cc;
  busy = λ q at. let o : None ≡ Some q = sym (ap (λ (x : DirEntry). x.busy) is) ∙ at in cc;
}

-- keys that are numbers
pub is_at-same : (b : ℕ) → is_at (nat_cmp b) b ≡ true
is_at-same b = ap is_eq (sym (nat_cmp_is b b Equal refl))

pub is_at-other : (b q : ℕ) → q ≢ b → is_at (nat_cmp b) q ≡ false
is_at-other b q apart = elim (cases_lt b q) [
  | inl below ↦ ap is_eq (sym (nat_cmp_is b q Less below))
  | inr above ↦ let less : q < b = omega arith in ap is_eq (sym (nat_cmp_is b q Greater less))
]

-- a change at one block keeps the directory sound, if what is kept there then may be
pub IsSound-update : (harts : ℕ) (memory : List Block) (old new : List (ℕ × CodedEntry)) (b : ℕ) (w : Option CodedEntry)
    → IsSound (record { harts = harts; kept = old; memory = memory })
    → ((q : ℕ) → lookup (is_at (nat_cmp q)) new ≡ cond (is_at (nat_cmp b) q) w (lookup (is_at (nat_cmp q)) old))
    → ((e : CodedEntry) → w ≡ Some e → IsKept harts (length memory) b e)
    → IsSound (record { harts = harts; kept = new; memory = memory })
IsSound-update harts memory old new b w sound kept may = record {
  some = sound.some;
  few = sound.few;
  blocks = sound.blocks;
  kept = λ q e at. elim (cases_eq q b) [
    | inl same ↦
        let here : w ≡ Some e = rw (same, kept b, is_at-same b) at at in
        rw same (may e here)
    | inr apart ↦
        let there : lookup (is_at (nat_cmp q)) old ≡ Some e = rw (kept q, is_at-other b q apart) at at in
        sound.kept q e there
  ];
}

-- an entry takes its place
pub IsSound-put : (harts : ℕ) (memory : List Block) (old new : List (ℕ × CodedEntry)) (b : ℕ) (x : CodedEntry)
    → IsSound (record { harts = harts; kept = old; memory = memory })
    → ((q : ℕ) → lookup (is_at (nat_cmp q)) new ≡ cond (is_at (nat_cmp b) q) (Some x) (lookup (is_at (nat_cmp q)) old))
    → IsKept harts (length memory) b x
    → IsSound (record { harts = harts; kept = new; memory = memory })
IsSound-put harts memory old new b x sound kept may =
    let P : CodedEntry → Type 0 = IsKept harts (length memory) b in
    IsSound-update harts memory old new b (Some x) sound kept (λ e at. subst P (same_Some x e at) may)

-- words that change keep it sound
pub IsSound-words : (harts : ℕ) (old new : List Block) (kept : List (ℕ × CodedEntry)) → length new ≡ length old
    → IsSound (record { harts = harts; kept = kept; memory = old }) → IsSound (record { harts = harts; kept = kept; memory = new })
IsSound-words harts old new kept size sound = record { some = sound.some; few = sound.few; blocks = rw size sound.blocks; kept = rw size sound.kept }

-- what was found under a key, and is put back there, changes nothing
pub put_back : (b : ℕ) (e : CodedEntry) (old new : List (ℕ × CodedEntry)) → new ≡ set_value (is_at (nat_cmp b)) old e → lookup (is_at (nat_cmp b)) old ≡ Some e → new ≡ old
put_back b e old new set found = set ∙ set_value_same (is_at (nat_cmp b)) old e found

pub IsSound-put_back : (harts : ℕ) (memory : List Block) (old new : List (ℕ × CodedEntry)) (b : ℕ) (e : CodedEntry)
    → IsSound (record { harts = harts; kept = old; memory = memory })
    → new ≡ set_value (is_at (nat_cmp b)) old e → lookup (is_at (nat_cmp b)) old ≡ Some e
    → IsSound (record { harts = harts; kept = new; memory = memory })
IsSound-put_back harts memory old new b e sound set found = rw (put_back b e old new set found) sound

-- a busy block's entry isn't the first one
pub busy-not_first : (e : CodedEntry) (q : CodedBusy) → e.busy ≡ Some q → shown_entry e ≢ first_entry
busy-not_first e q at is =
    let none : option_map shown_busy e.busy ≡ None = ap (λ (x : DirEntry). x.busy) is in
    let some : option_map shown_busy e.busy ≡ Some (shown_busy q) = rw at refl in
    cc

-- and what is asked of it waits
pub busy-waits : (busy : Option CodedBusy) (s : Served) → is_some busy ≡ true → unless_busy (option_map shown_busy busy) s ≡ None
busy-waits None s is = let no : false ≡ true = is in cc
busy-waits (Some q) s is = refl

module _ (harts : ℕ) (e : CodedEntry) (named : NamesBelow harts (shown_entry e)) where
  -- a hart isn't named, if none below the number of harts is
  unnamed : (h : ℕ) (b : Bool) → names e.sharers h ≡ b → (h < harts → names e.sharers h ≡ false) → names e.sharers h ≡ false
  unnamed h true is below = below (named.sharers h is)
  unnamed h false is below = is

  -- what the test of an entry that nobody owns, and that isn't busy, says
  pub is_first-sharers : (empty : Bool) → e.owner ≡ coded.Nobody → e.busy ≡ None
      → (IsTrue empty ↔ ((h : ℕ) → h < harts → names e.sharers h ≡ false))
      → IsTrue empty ↔ (shown_entry e ≡ first_entry)
  is_first-sharers empty owner busy test = (
    λ yes. let none : names e.sharers ≡ (λ h. false) = fun_ext (λ h. unnamed h (names e.sharers h) refl (test.0 yes h)) in rw (owner, busy, none) refl,
    λ is. test.1 (λ h below. ap (λ (x : DirEntry). x.sharers h) is),
  )

-- a block may be made busy
pub IsKept-busy : (harts blocks b : ℕ) (e : CodedEntry) (q : CodedBusy) → b < blocks → NamesBelow harts (shown_entry e) → q.requester < harts
    → IsKept harts blocks b (record e { busy = Some q })
IsKept-busy harts blocks b e q inside named hart = record {
  inside = inside;
  used = busy-not_first (record e { busy = Some q }) q refl;
  named = record {
    owned = named.owned;
    sticky = named.sticky;
    sharers = named.sharers;
    busy = λ p at. rw (← same_Some (shown_busy q) p at) hart;
  };
}
