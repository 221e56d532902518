-- Directories that keep just the entries in use, and know the same of each block, keep the same entries.
use Rattle.std.proofs.Common.{◌≡◌, ◌≢◌, ◌<◌, ◌∙◌, ℕ, true, true≢false, Option, Some, None, List, [], ◌∷◌, map, inl, inr, arith, nat_cmp, refl, sym, ap, subst}
use Rattle.std.specs.Prelude.{is_some, IsSome}
use Rattle.std.specs.Option.{option_map, option_map_or}
use Rattle.std.specs.BTreeMap.{is_at}
use Rattle.std.specs.Cmp.{nat_cmp_is}
use Rattle.std.specs.List.Sorted.{IsStrictlySortedBy}
use Rattle.std.specs.Map.{lookup, keys_of}
use Rattle.std.specs.declared.cmp.Ordering.TheVariants.{Less}
use Rattle.std.proofs.lemmas.Bool.{cases_eq, cases_lt}
use Rattle.std.proofs.lemmas.Cmp.{nat_cmp_total, eq_by_cmp_equiv}
use Rattle.std.proofs.lemmas.Map.{lookup-none}
use Rattle.std.proofs.lemmas.Map.Entries.{lookup_head, lookup_tail, none_past_head, none_below_head}
use Rattle.std.proofs.lemmas.Map.Keys.{sorted_tail, IsDistinct-from_sorted}
use Rattle.std.proofs.lemmas.Option.{same_Some}
use Rattle.protocol.specs.Directory.{DirEntry, first_entry}
use Rattle.directory.specs.declared.entry.DirEntry.{DirEntry as CodedEntry}
use Rattle.directory.specs.Entries.{shown_entry}
use Rattle.directory.specs.Blocks.{Blocks, KeepsUsed, kept_at, entry_at, shown_kept}
use Rattle.directory.proofs.Kept.{is_at-same, is_at-other}

nothing : {T : Type 0} (o : Option T) → o ≡ None → IsSome o → ⊥
nothing o none some = true≢false (sym some ∙ ap is_some none)

-- where nothing is kept
pub none_used : (d : Blocks) → d.kept ≡ [] → KeepsUsed d
unfolding IsStrictlySortedBy
none_used d none = record {
  order = subst (λ (es : List (ℕ × CodedEntry)). IsStrictlySortedBy nat_cmp (keys_of es)) (sym none) tt;
  exact = λ b.
      let empty : kept_at d b ≡ None = ap (λ (es : List (ℕ × CodedEntry)). lookup (is_at (nat_cmp b)) es) none in
      (λ some. absurd (nothing (kept_at d b) empty some), λ used. absurd (used (ap (λ o. option_map_or shown_entry o first_entry) empty)));
}

-- what is found under a key
abbrev found : List (ℕ × CodedEntry) → ℕ → Option DirEntry
found es b = option_map shown_entry (lookup (is_at (nat_cmp b)) es)

abbrev told : ℕ × CodedEntry → ℕ × DirEntry
told e = (e.0, shown_entry e.1)

-- the first is found, and nothing below it
at_head : (e : ℕ × CodedEntry) (es : List (ℕ × CodedEntry)) → found (e ∷ es) e.0 ≡ Some (shown_entry e.1)
at_head e es = ap (option_map shown_entry) (lookup_head (is_at (nat_cmp e.0)) e es (is_at-same e.0))

below_head : (b : ℕ) (e : ℕ × CodedEntry) (es : List (ℕ × CodedEntry)) → IsStrictlySortedBy nat_cmp (keys_of (e ∷ es)) → b < e.0 → found (e ∷ es) b ≡ None
below_head b e es up below =
    ap (option_map shown_entry) (lookup-none (is_at (nat_cmp b)) (e ∷ es) (none_below_head nat_cmp_total b e es up (sym (nat_cmp_is b e.0 Less below))))

-- behind the first, no other has its key
past_head : (b : ℕ) (e : ℕ × CodedEntry) (es : List (ℕ × CodedEntry)) → IsStrictlySortedBy nat_cmp (keys_of (e ∷ es)) → b ≡ e.0 → found es b ≡ None
past_head b e es up is =
    ap (option_map shown_entry) (lookup-none (is_at (nat_cmp b)) es (none_past_head (eq_by_cmp_equiv nat_cmp_total) b e es (IsDistinct-from_sorted nat_cmp (keys_of (e ∷ es)) up)
    (subst (λ n. is_at (nat_cmp b) n ≡ true) is (is_at-same b))))

in_tail : (b : ℕ) (e : ℕ × CodedEntry) (es : List (ℕ × CodedEntry)) → e.0 ≢ b → found (e ∷ es) b ≡ found es b
in_tail b e es other = ap (option_map shown_entry) (lookup_tail (is_at (nat_cmp b)) e es (is_at-other b e.0 other))

none_some : (x : DirEntry) → ◌≡◌ {A = Option DirEntry} None (Some x) → ⊥
none_some x is = cc

heads : (e f : ℕ × CodedEntry) (es fs : List (ℕ × CodedEntry)) → IsStrictlySortedBy nat_cmp (keys_of (e ∷ es)) → IsStrictlySortedBy nat_cmp (keys_of (f ∷ fs))
    → ((b : ℕ) → found (e ∷ es) b ≡ found (f ∷ fs) b) → e.0 ≡ f.0
heads e f es fs up vp same = elim (cases_lt e.0 f.0) [
  | inl below ↦ absurd (none_some (shown_entry e.1) (sym (below_head e.0 f fs vp below) ∙ (sym (same e.0) ∙ at_head e es)))
  | inr le ↦ elim (cases_lt f.0 e.0) [
    | inl above ↦ absurd (none_some (shown_entry f.1) (sym (below_head f.0 e es up above) ∙ (same f.0 ∙ at_head f fs)))
    | inr ge ↦ omega (arith, le, ge)
  ]
]

-- lists in order in which the same is found are the same
same_entries : (es fs : List (ℕ × CodedEntry)) → IsStrictlySortedBy nat_cmp (keys_of es) → IsStrictlySortedBy nat_cmp (keys_of fs)
    → ((b : ℕ) → found es b ≡ found fs b) → map told es ≡ map told fs
same_entries [] [] up vp same = refl
same_entries [] (f ∷ fs) up vp same = absurd (none_some (shown_entry f.1) (same f.0 ∙ at_head f fs))
same_entries (e ∷ es) [] up vp same = absurd (none_some (shown_entry e.1) (sym (same e.0) ∙ at_head e es))
same_entries (e ∷ es) (f ∷ fs) up vp same =
    let key : e.0 ≡ f.0 = heads e f es fs up vp same in
    let entry : shown_entry e.1 ≡ shown_entry f.1 = same_Some (shown_entry e.1) (shown_entry f.1) (sym (at_head e es) ∙ (same e.0 ∙ (ap (found (f ∷ fs)) key ∙ at_head f fs))) in
    let behind : (b : ℕ) → found es b ≡ found fs b = λ b. elim (cases_eq b e.0) [
      | inl is ↦ past_head b e es up is ∙ sym (past_head b f fs vp (is ∙ key))
      | inr other ↦ sym (in_tail b e es (λ is. other (sym is))) ∙ (same b ∙ in_tail b f fs (λ is. other (sym (key ∙ is))))
    ] in
    let rest = same_entries es fs (sorted_tail nat_cmp e.0 (keys_of es) up) (sorted_tail nat_cmp f.0 (keys_of fs) vp) behind in
    λ k. (key k, entry k) ∷ rest k

module _ (c d : Blocks) (same : entry_at c ≡ entry_at d) (one : KeepsUsed c) (other : KeepsUsed d) where
  at : (b : ℕ) → entry_at c b ≡ entry_at d b
  at b = ap (λ (entries : ℕ → DirEntry). entries b) same

  found_in : (b : ℕ) (o p : Option CodedEntry) → kept_at c b ≡ o → kept_at d b ≡ p → option_map shown_entry o ≡ option_map shown_entry p
  found_in b None None is are = refl
  found_in b (Some x) (Some y) is are = ap (λ (e : DirEntry). Some e)
      (sym (ap (λ o. option_map_or shown_entry o first_entry) is) ∙ (at b ∙ ap (λ o. option_map_or shown_entry o first_entry) are))
  found_in b (Some x) None is are = absurd ((one.exact b).0 (ap is_some is) (at b ∙ ap (λ o. option_map_or shown_entry o first_entry) are))
  found_in b None (Some y) is are = absurd ((other.exact b).0 (ap is_some are) (sym (at b) ∙ ap (λ o. option_map_or shown_entry o first_entry) is))

  pub one_kept : shown_kept c ≡ shown_kept d
  one_kept = same_entries c.kept d.kept one.order other.order (λ b. found_in b (kept_at c b) (kept_at d b) refl refl)
