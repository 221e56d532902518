-- What a net keeps of its slots, after one message is taken out and after one more is sent.
use Rattle.std.proofs.Common.{◌≡◌, ◌≢◌, ◌+◌, ◌%◌, ◌<◌, ◌≤◌, ◌⊎◌, inl, inr, ℕ, min, List, [], length, Option, Some, None, get_or, set, arith, refl, sym, ap, subst, ◌∙◌}
use Rattle.std.proofs.lemmas.Bool.{cases_eq}
use Rattle.std.proofs.lemmas.List.{get_or-set_same, get_or-set_other}
use Rattle.std.proofs.lemmas.Option.{same_Some, none-some}
use Rattle.network.specs.declared.net.Flight.{Flight}
use Rattle.network.specs.Flights.{flight_at}
use Rattle.network.specs.Sorted.{in_order, AreKept, AreFrom, IsAbsent}
use Rattle.network.proofs.Sorted.{same_at, none_from, absent_from, holds}

module _ (slots news : List (Option Flight)) (key : ℕ) (others : (other : ℕ) → other ≢ key → get_or news other None ≡ get_or slots other None) (next first : ℕ) (keys : List ℕ) where
  module _ (gone : get_or news key None ≡ None) where
    -- each other message was there before
    was : (k : ℕ) (g : Flight) → get_or news k None ≡ Some g → get_or slots k None ≡ Some g
    was k g at = elim (cases_eq k key) [
      | inl e ↦ absurd (none-some g (sym gone ∙ subst (λ n. get_or news n None ≡ Some g) e at))
      | inr ne ↦ sym (others k ne) ∙ at
    ]

    pub takes_out : AreKept slots next keys → AreKept news next keys
    takes_out kept = record {
      range = kept.range;
      below = λ k g at. kept.below k g (was k g at);
      apart = λ j k f g at there e. kept.apart j k f g (was j f at) (was k g there) e;
      recent = λ k g at. kept.recent k g (was k g at);
    }

    pub takes_first : AreFrom slots next first → AreFrom news next first
    takes_first from = record { before = from.before; above = λ range k g at. from.above range k g (was k g at) }

    module _ (f : Flight) (here : get_or slots key None ≡ Some f) (kept : AreKept slots next keys) where
      -- nothing has its number any more
      pub takes_number : flight_at (in_order news) f.number ≡ None
      takes_number = none_from news f.number absent
        where
          absent : IsAbsent news f.number
          absent k g at e = let same : k ≡ key = kept.apart k key g f (was k g at) here e in none-some g (sym gone ∙ subst (λ n. get_or news n None ≡ Some g) same at)

      -- and each other number what it had
      pub takes_others : (n : ℕ) → n ≢ f.number → flight_at (in_order news) n ≡ flight_at (in_order slots) n
      takes_others n ne = same_at slots news n kept.apart (takes_out kept).apart
          (λ k g e at. elim (cases_eq k key) [
            | inl same ↦
                let flights : f ≡ g = same_Some f g (sym here ∙ subst (λ n. get_or slots n None ≡ Some g) same at) in
                absurd (ne (sym e ∙ sym (ap (λ (x : Flight). x.number) flights)))
            | inr apart ↦ others k apart ∙ at
          ])
          (λ k g e at. was k g at)

  module _ (f : Flight) (vacant : get_or slots key None ≡ None) (here : get_or news key None ≡ Some f) (free : IsAbsent slots f.number) (kept : AreKept slots next keys) where
    -- a message is the new one, or was there before
    is_new : (k : ℕ) (g : Flight) → get_or news k None ≡ Some g → ((k ≡ key) × (f ≡ g)) ⊎ (get_or slots k None ≡ Some g)
    is_new k g at = elim (cases_eq k key) [
      | inl e ↦ inl (e, same_Some f g (sym here ∙ subst (λ n. get_or news n None ≡ Some g) e at))
      | inr ne ↦ inr (sym (others k ne) ∙ at)
    ]

    stays : (k : ℕ) (g : Flight) → get_or slots k None ≡ Some g → get_or news k None ≡ Some g
    stays k g at = elim (cases_eq k key) [
      | inl e ↦ absurd (none-some g (sym vacant ∙ subst (λ n. get_or slots n None ≡ Some g) e at))
      | inr ne ↦ others k ne ∙ at
    ]

    apart_new : (j k : ℕ) (a b : Flight) → get_or news j None ≡ Some a → get_or news k None ≡ Some b → a.number ≡ b.number → j ≡ k
    apart_new j k a b at there e = elim (is_new j a at) [
      | inl new ↦ elim (is_new k b there) [
        | inl newer ↦ new.0 ∙ sym newer.0
        | inr old ↦ absurd (free k b old (sym e ∙ sym (ap (λ (x : Flight). x.number) new.1)))
      ]
      | inr old ↦ elim (is_new k b there) [
        | inl new ↦ absurd (free j a old (e ∙ sym (ap (λ (x : Flight). x.number) new.1)))
        | inr older ↦ kept.apart j k a b old older e
      ]
    ]

    -- it has its number, and each other number what it had
    pub sends_number : flight_at (in_order news) f.number ≡ Some f
    sends_number = holds news apart_new key f here

    pub sends_others : (n : ℕ) → n ≢ f.number → flight_at (in_order news) n ≡ flight_at (in_order slots) n
    sends_others n ne = same_at slots news n kept.apart apart_new (λ k g e at. stays k g at) (λ k g e at. elim (is_new k g at) [
      | inl new ↦ absurd (ne (sym e ∙ sym (ap (λ (x : Flight). x.number) new.1)))
      | inr old ↦ old
    ])

    module _ (below : f.number < min (next + 1) 18446744073709551615) (is_next : next < 18446744073709551615 → f.number ≡ next) where
      pub sends : length keys ≡ 64 → AreKept news (min (next + 1) 18446744073709551615) (set keys (f.number % 64) key)
      sends long = record {
        range = omega arith;
        below = λ k g at. elim (is_new k g at) [
          | inl new ↦ omega (arith, ap (λ (x : Flight). x.number) new.1, below)
          | inr old ↦ omega (arith, kept.below k g old, kept.range)
        ];
        apart = apart_new;
        recent = λ k g at range near. elim (is_new k g at) [
          | inl new ↦ subst (λ n. get_or (set keys (f.number % 64) key) (n % 64) 0 ≡ k) (ap (λ (x : Flight). x.number) new.1) (get_or-set_same keys (f.number % 64) key 0 (omega (arith, long)) ∙ sym new.0)
          | inr old ↦
              let lower : g.number < next = kept.below k g old in
              let number : f.number ≡ next = is_next (omega (arith, range)) in
              let apart : g.number % 64 ≢ f.number % 64 = λ same. omega (arith, same, lower, near, range, number) in
              get_or-set_other keys (f.number % 64) (g.number % 64) key 0 apart ∙ kept.recent k g old (omega (arith, range)) (omega (arith, range, near))
        ];
      }

      pub sends_first : AreFrom slots next first → AreFrom news (min (next + 1) 18446744073709551615) first
      sends_first from = record {
        before = omega (arith, from.before, kept.range);
        above = λ range k g at. elim (is_new k g at) [
          | inl new ↦ omega (arith, ap (λ (x : Flight). x.number) new.1, from.before, is_next (omega (arith, range)))
          | inr old ↦ from.above (omega (arith, range)) k g old
        ];
      }

-- slots of which nothing is in flight keep what they have to from any number on
pub over : (slots : List (Option Flight)) (next : ℕ) (keys : List ℕ) → next ≤ 18446744073709551615 → in_order slots ≡ [] → AreKept slots next keys × AreFrom slots next next
over slots next keys range empty = (
  record {
    range = range;
    below = λ k g at. absurd (nothing k g at);
    apart = λ j k f g at there e. absurd (nothing j f at);
    recent = λ k g at a b. absurd (nothing k g at);
  },
  record { before = omega arith; above = λ r k g at. absurd (nothing k g at) },
)
  where
    nothing : (k : ℕ) (g : Flight) → get_or slots k None ≡ Some g → ⊥
    nothing k g at = absent_from slots g.number (ap (λ fs. flight_at fs g.number) empty) k g at refl
