-- A list of keys in order, each with a number, before and after a key is inserted that it hadn't.
use Rattle.std.proofs.Common.{◌≡◌, ◌⊎◌, inl, inr, ℕ, Bool, true, false, cond, Option, Some, List, [], ◌∷◌, map, refl, sym, ap, subst, ◌∙◌}
use Rattle.std.specs.Prelude.{is_some}
use Rattle.std.specs.Global.{Vec}
use Rattle.std.specs.declared.cmp.Ordering.{Ordering}
use Rattle.std.specs.declared.cmp.Ordering.TheVariants.{Less, Equal, Greater}
use Rattle.std.specs.Ordering.{nat_cmp, is_eq, match_ordering}
use Rattle.std.specs.Cmp.Lexicographic.{slice_cmp}
use Rattle.std.specs.List.{Contains}
use Rattle.std.specs.List.Sorted.{IsStrictlySortedBy}
use Rattle.std.specs.Map.{lookup, keys_of}
use Rattle.std.specs.BTreeMap.{insert_entry, is_at}
use Rattle.std.proofs.lemmas.Cmp.{nat_list_cmp_total, tied_itself}
use Rattle.std.proofs.lemmas.Map.Lookups.{exact_bytes}
use Rattle.outcomes.specs.declared.gathering.End.{End}
use Rattle.outcomes.specs.declared.gathering.Found.{Found}
use Rattle.outcomes.specs.Ends.{reports_of}
use Rattle.outcomes.specs.Found.{ends_in, IsKept}
use Rattle.outcomes.proofs.Members.{none_in, at_head, in_tail, head_or_tail, mapped, mapped_from}
use Rattle.outcomes.proofs.Ascending.{ascends_so}

is_tied : (o : Ordering) → is_eq o ≡ true → o ≡ Equal
is_tied Less e = cc
is_tied Equal e = refl
is_tied Greater e = cc

-- a look-up that passes the first entry by
passed : {X : Type 0} (b : Bool) (x : X) (later : Option X) → is_some (cond b (Some x) later) ≡ false → (b ≡ false) × (is_some later ≡ false)
passed true x later e = cc
passed false x later e = (refl, e)

module _ {V : Type 0} (bytes : V → List ℕ) where
  abbrev pub order : V → V → Ordering
  order a b = slice_cmp nat_cmp (bytes a) (bytes b)

  -- whether a key has these bytes
  abbrev pub has : List ℕ → List (V × ℕ) → Bool
  has q es = is_some (lookup (is_at (λ k. slice_cmp nat_cmp q (bytes k))) es)

  has_by : (q : List ℕ) (e : V × ℕ) (es : List (V × ℕ)) (b : Bool) → is_eq (slice_cmp nat_cmp q (bytes e.0)) ≡ b → is_some (cond b (Some e.1) (lookup (is_at (λ k. slice_cmp nat_cmp q (bytes k))) es)) ≡ true
      → (has q es ≡ true → Contains (map (λ (p : V × ℕ). bytes p.0) es) q) → Contains (bytes e.0 ∷ map (λ (p : V × ℕ). bytes p.0) es) q
  has_by q e es true tied found later =
      let same : q ≡ bytes e.0 = exact_bytes q (bytes e.0) (is_tied (slice_cmp nat_cmp q (bytes e.0)) tied) in
      subst (λ (k : List ℕ). Contains (k ∷ map (λ (p : V × ℕ). bytes p.0) es) q) same (at_head q (map (λ (p : V × ℕ). bytes p.0) es))
  has_by q e es false tied found later = in_tail (bytes e.0) (map (λ (p : V × ℕ). bytes p.0) es) q (later found)

  pub has_it : (q : List ℕ) (es : List (V × ℕ)) → has q es ≡ true → Contains (map (λ (p : V × ℕ). bytes p.0) es) q
  has_it q [] found = cc
  has_it q (e ∷ es) found = has_by q e es (is_eq (slice_cmp nat_cmp q (bytes e.0))) refl found (has_it q es)

  pub has_none : (q : List ℕ) (es : List (V × ℕ)) → has q es ≡ false → Contains (map (λ (p : V × ℕ). bytes p.0) es) q → ⊥
  has_none q [] lacks there = none_in q there
  has_none q (e ∷ es) lacks there =
      let past = passed (is_eq (slice_cmp nat_cmp q (bytes e.0))) e.1 (lookup (is_at (λ k. slice_cmp nat_cmp q (bytes k))) es) lacks in
      elim (head_or_tail (bytes e.0) (map (λ (p : V × ℕ). bytes p.0) es) q there) [
        | inl same ↦
            let tied : is_eq (slice_cmp nat_cmp q (bytes e.0)) ≡ true = subst (λ (k : List ℕ). is_eq (slice_cmp nat_cmp q k) ≡ true) (sym same) (ap is_eq (tied_itself nat_list_cmp_total q)) in
            absurd (two (is_eq (slice_cmp nat_cmp q (bytes e.0))) tied past.0)
        | inr later ↦ has_none q es past.1 later
      ]
    where
      two : (b : Bool) → b ≡ true → b ≡ false → ⊥
      two b there absent = cc

  stays_by : (o : Ordering) (e : V × ℕ) (es new : List (V × ℕ)) (v : V) (n : ℕ) (p : V × ℕ) → is_eq o ≡ false → (Contains es p → Contains new p) → Contains (e ∷ es) p
      → Contains (match_ordering o ((v, n) ∷ e ∷ es) ((e.0, n) ∷ es) (e ∷ new)) p
  stays_by Less e es new v n p apart later there = in_tail (v, n) (e ∷ es) p there
  stays_by Equal e es new v n p apart later there = cc
  stays_by Greater e es new v n p apart later there = elim (head_or_tail e es p there) [
    | inl same ↦ subst (Contains (e ∷ new)) same (at_head e new)
    | inr c ↦ in_tail e new p (later c)
  ]

  pub stays : (es : List (V × ℕ)) (v : V) (n : ℕ) (p : V × ℕ) → has (bytes v) es ≡ false → Contains es p → Contains (insert_entry order es v n) p
  stays [] v n p lacks there = absurd (none_in p there)
  stays (e ∷ es) v n p lacks there =
      let past = passed (is_eq (order v e.0)) e.1 (lookup (is_at (order v)) es) lacks in
      stays_by (order v e.0) e es (insert_entry order es v n) v n p past.0 (stays es v n p past.1) there

  comes_by : (o : Ordering) (e : V × ℕ) (es new : List (V × ℕ)) (v : V) (n : ℕ) (p : V × ℕ) → is_eq o ≡ false → (Contains new p → Contains es p ⊎ ((v, n) ≡ p))
      → Contains (match_ordering o ((v, n) ∷ e ∷ es) ((e.0, n) ∷ es) (e ∷ new)) p → Contains (e ∷ es) p ⊎ ((v, n) ≡ p)
  comes_by Less e es new v n p apart later there = elim (head_or_tail (v, n) (e ∷ es) p there) [ inl same ↦ inr same | inr c ↦ inl c ]
  comes_by Equal e es new v n p apart later there = cc
  comes_by Greater e es new v n p apart later there = elim (head_or_tail e new p there) [
    | inl same ↦ inl (subst (Contains (e ∷ es)) same (at_head e es))
    | inr c ↦ elim (later c) [ inl a ↦ inl (in_tail e es p a) | inr same ↦ inr same ]
  ]

  pub comes : (es : List (V × ℕ)) (v : V) (n : ℕ) (p : V × ℕ) → has (bytes v) es ≡ false → Contains (insert_entry order es v n) p → Contains es p ⊎ ((v, n) ≡ p)
  comes [] v n p lacks there = elim (head_or_tail (v, n) [] p there) [ inl same ↦ inr same | inr none ↦ absurd (none_in p none) ]
  comes (e ∷ es) v n p lacks there =
      let past = passed (is_eq (order v e.0)) e.1 (lookup (is_at (order v)) es) lacks in
      comes_by (order v e.0) e es (insert_entry order es v n) v n p past.0 (comes es v n p past.1) there

  gets_by : (o : Ordering) (e : V × ℕ) (es new : List (V × ℕ)) (v : V) (n : ℕ) → is_eq o ≡ false → Contains new (v, n)
      → Contains (match_ordering o ((v, n) ∷ e ∷ es) ((e.0, n) ∷ es) (e ∷ new)) (v, n)
  gets_by Less e es new v n apart later = at_head (v, n) (e ∷ es)
  gets_by Equal e es new v n apart later = cc
  gets_by Greater e es new v n apart later = in_tail e new (v, n) later

  pub gets : (es : List (V × ℕ)) (v : V) (n : ℕ) → has (bytes v) es ≡ false → Contains (insert_entry order es v n) (v, n)
  gets [] v n lacks = at_head (v, n) []
  gets (e ∷ es) v n lacks =
      let past = passed (is_eq (order v e.0)) e.1 (lookup (is_at (order v)) es) lacks in
      gets_by (order v e.0) e es (insert_entry order es v n) v n past.0 (gets es v n past.1)

-- the bytes of a report
abbrev pub bytes_of : Vec ℕ → List ℕ
bytes_of v = v.items

abbrev end_of : Vec ℕ × ℕ → End
end_of p = record { report = p.0; place = p.1 }

reports_in : (es : List (Vec ℕ × ℕ)) → reports_of (map end_of es) ≡ map (λ (p : Vec ℕ × ℕ). bytes_of p.0) es
reports_in [] = refl
reports_in (e ∷ es) = ap (λ l. e.0.items ∷ l) (reports_in es)

-- the report was found before
pub kept_before : (found : Found) (report : List ℕ) (place : ℕ) → has bytes_of report found.places.entries ≡ true → IsKept (ends_in found) (ends_in found) report place
kept_before found report place there = record {
  stay = λ e c. c;
  come = λ e c. inl c;
  has = subst (λ (l : List (List ℕ)). Contains l report) (sym (reports_in found.places.entries)) (has_it bytes_of report found.places.entries there);
}

-- it is new
pub kept_now : (old new : Found) (report : Vec ℕ) (place : ℕ) → has bytes_of report.items old.places.entries ≡ false → new.places.entries ≡ insert_entry (order bytes_of) old.places.entries report place
    → IsKept (ends_in old) (ends_in new) report.items place
kept_now old new report place lacks is =
    let es = old.places.entries in
    let more : List (Vec ℕ × ℕ) = insert_entry (order bytes_of) es report place in
    subst (λ (l : List (Vec ℕ × ℕ)). IsKept (ends_in old) (map end_of l) report.items place) (sym is) (record {
      stay = λ e c.
          let x = mapped_from end_of es e c in
          subst (Contains (map end_of more)) x.2 (mapped end_of more x.0 (stays bytes_of es report place x.0 lacks x.1));
      come = λ e c.
          let x = mapped_from end_of more e c in
          elim (comes bytes_of es report place x.0 lacks x.1) [
            | inl before ↦ inl (subst (Contains (map end_of es)) x.2 (mapped end_of es x.0 before))
            | inr now ↦ inr (
              ap (λ (k : End). k.report.items) (sym x.2) ∙ ap (λ (q : Vec ℕ × ℕ). q.0.items) (sym now),
              ap (λ (k : End). k.place) (sym x.2) ∙ ap (λ (q : Vec ℕ × ℕ). q.1) (sym now),
              λ there. has_none bytes_of report.items es lacks (subst (λ (l : List (List ℕ)). Contains l report.items) (reports_in es) there),
            )
          ];
      has = mapped (λ (e : End). e.report.items) (map end_of more) (end_of (report, place)) (mapped end_of more (report, place) (gets bytes_of es report place lacks));
    })

-- in the order of the keys the reports ascend
pub ascend : (found : Found) → IsStrictlySortedBy (order bytes_of) (keys_of found.places.entries) → IsStrictlySortedBy (slice_cmp nat_cmp) (reports_of (ends_in found))
ascend found up = subst (IsStrictlySortedBy (slice_cmp nat_cmp)) (sym (again found.places.entries)) (ascends_so bytes_of (slice_cmp nat_cmp) (keys_of found.places.entries) up)
  where
    again : (es : List (Vec ℕ × ℕ)) → reports_of (map end_of es) ≡ map bytes_of (keys_of es)
    again [] = refl
    again (e ∷ es) = ap (λ l. e.0.items ∷ l) (again es)

pub ends_none : (found : Found) → found.places.entries ≡ [] → ends_in found ≡ []
ends_none found none = ap (map end_of) none
