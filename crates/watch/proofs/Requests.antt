-- Requests that are counted.
use Rattle.std.proofs.Common.{◌≡◌, ◌≤◌, ◌+◌, ◌-◌, ◌++◌, ◌==◌, ◌&&◌, not, ℕ, zero, suc, Bool, true, false, List, [], ◌∷◌, length, Option, Some, None, refl, sym, ap, ◌∙◌, add-one, append-nil, arith, subst, true≢false}
use Rattle.std.proofs.lemmas.Option.{none-some, same_Some, slice_get_past}
use Rattle.std.specs.Prelude.{if◌then◌else◌, is_some, slice_get}
use Rattle.std.specs.Option.{option_and_then, option_map, option_map_or}
use Rattle.words.specs.Limits.{most_harts}
use Rattle.flat.specs.State.{idle}
use Rattle.hart.specs.Parts.{Parts}
use Rattle.conflict.specs.Requests.{shown_request}
use Rattle.hart.specs.Shown.{shown_hart}
use Rattle.conflict.specs.declared.request.Request.{Request as CodedRequest}
use Rattle.protocol.specs.Directory.{Busy}
use Rattle.protocol.specs.Hart.{Request as Waiting}
use Rattle.hart.specs.declared.reply.Asked.{Asked}
use Rattle.protocol.specs.Machine.{Machine}
use Rattle.protocol.specs.Start.{first_hart}
use Rattle.machine.specs.Lent.{hart_if}
use Rattle.machine.specs.States.{Seat, State, hart_at, shown}
use Rattle.watch.specs.declared.kinds.Kind.{Kind}
use Rattle.watch.specs.declared.kinds.Kind.TheVariants.{Held}
use Rattle.watch.specs.Kinds.{Grows, asked_in, counts_request, held_behind, held_by, is_count, kind_asked, number_in, one_if, waits_behind}
use Rattle.watch.proofs.Tallying.{grown, no_more, number_both}

-- a hart's request, as the code has it
pub request_at : (sets : ℕ) (v : State) (i : ℕ) (o : Option Parts) → o ≡ hart_if v i
    → (hart_at sets v.seats i).request ≡ option_and_then (λ (p : Parts). option_map shown_request p.request) o
request_at sets v i o is = go (slice_get v.seats i) ∙ ap (option_and_then (λ (p : Parts). option_map shown_request p.request)) (sym is)
  where
    go : (s : Option Seat) → (option_map_or (λ (x : Seat). shown_hart sets x.output x.hart) s (first_hart idle)).request
        ≡ option_and_then (λ (p : Parts). option_map shown_request p.request) (option_map (λ (x : Seat). x.hart) s)
    go None = refl
    go (Some x) = refl

-- what it counts as
pub counted_request : (w : Machine) (i : ℕ) (r : CodedRequest) (kind : Kind) (held : List (ℕ × Kind)) → (w.harts i).request ≡ Some (shown_request r)
    → kind ≡ kind_asked r.kind (is_some ((w.harts i).lines r.block)) → held ≡ held_by i (w.entries r.block).busy
    → counts_request w i (w.harts i).request ≡ (i, kind) ∷ held
counted_request w i r kind held is asked busy =
    ap (counts_request w i) is ∙ ap (λ (x : Kind). (i, x) ∷ held_by i (w.entries r.block).busy) (sym asked) ∙ ap (λ (l : List (ℕ × Kind)). (i, kind) ∷ l) (sym busy)

pub held_there : (i : ℕ) (o : Option Busy) → is_some o ≡ true → (i, Held) ∷ [] ≡ held_by i o
held_there i None is = absurd (true≢false (sym is))
held_there i (Some busy) is = refl

pub held_not : (i : ℕ) (o : Option Busy) → is_some o ≡ false → [] ≡ held_by i o
held_not i None is = refl
held_not i (Some busy) is = absurd (true≢false is)

pub some_mapped : {A B : Type 0} (f : A → B) (o : Option A) → is_some (option_map f o) ≡ is_some o
some_mapped f None = refl
some_mapped f (Some x) = refl

-- what is asked for, where something is
pub wanted : (o : Option Waiting) (a : Asked) → Some a ≡ option_map asked_in o → (r : Waiting) × (o ≡ Some r) × (r.kind ≡ a.kind) × (r.block ≡ a.block)
wanted None a is = absurd (none-some a (sym is))
wanted (Some r) a is =
    let same = same_Some a (asked_in r) is in
    (r, refl, ap (λ (x : Asked). x.kind) (sym same), ap (λ (x : Asked). x.block) (sym same))

pub none_mapped : {A B : Type 0} (f : A → B) (o : Option A) → is_some (option_map f o) ≡ false → o ≡ None
none_mapped f None is = refl
none_mapped f (Some x) is = absurd (true≢false is)

-- one count more, and two
pub one_more : (h : ℕ) (k : Kind) (x : ℕ × Kind) (old new : ℕ) → Grows old (one_if (is_count h k x)) new → Grows old (number_in h k (x ∷ [])) new
one_more h k x old new grows = let same : one_if (is_count h k x) ≡ number_in h k (x ∷ []) = omega arith in subst (λ (n : ℕ). Grows old n new) same grows

pub two_more : (h : ℕ) (k : Kind) (x y : ℕ × Kind) (old mid new : ℕ) → Grows old (one_if (is_count h k x)) mid → Grows mid (one_if (is_count h k y)) new → Grows old (number_in h k (x ∷ y ∷ [])) new
two_more h k x y old mid new first second = grown old mid new (one_if (is_count h k x)) (one_if (is_count h k y)) (number_in h k (x ∷ y ∷ [])) first second (omega arith)

-- ---- the requests that are held while one is served

module _ (w : Machine) (i b h : ℕ) (k : Kind) (old : ℕ) where
  pub none_held : Grows old (number_in h k (held_behind w i b 0)) old
  unfolding held_behind
  none_held = no_more old

  next : (n : ℕ) (c : Bool) → waits_behind w i b n ≡ c → number_in h k (held_behind w i b (n + 1)) ≡ number_in h k (held_behind w i b n) + number_in h k (if c then (n, Held) ∷ [] else [])
  unfolding held_behind
  next n c is =
      rw add-one (number_both h k (held_behind w i b n) (if waits_behind w i b n then (n, Held) ∷ [] else [])
      ∙ ap (λ (x : Bool). number_in h k (held_behind w i b n) + number_in h k (if x then (n, Held) ∷ [] else [])) is)

  pub one_held : (n mid new : ℕ) → waits_behind w i b n ≡ true → Grows old (number_in h k (held_behind w i b n)) mid → Grows mid (one_if (is_count h k (n, Held))) new
      → Grows old (number_in h k (held_behind w i b (n + 1))) new
  one_held n mid new waits before added =
      let more : number_in h k (held_behind w i b (n + 1)) ≡ number_in h k (held_behind w i b n) + (one_if (is_count h k (n, Held)) + 0) = next n true waits in
      grown old mid new (number_in h k (held_behind w i b n)) (one_if (is_count h k (n, Held))) (number_in h k (held_behind w i b (n + 1))) before added (omega (arith, more))

  pub no_one_held : (n mid : ℕ) → waits_behind w i b n ≡ false → Grows old (number_in h k (held_behind w i b n)) mid → Grows old (number_in h k (held_behind w i b (n + 1))) mid
  no_one_held n mid waits before =
      let more : number_in h k (held_behind w i b (n + 1)) ≡ number_in h k (held_behind w i b n) + 0 = next n false waits in
      let same : number_in h k (held_behind w i b n) ≡ number_in h k (held_behind w i b (n + 1)) = omega (arith, more) in
      subst (λ (m : ℕ). Grows old m mid) same before

-- ---- a number that is no hart's waits for nothing

module _ (sets : ℕ) (v : State) (i b : ℕ) where
  idle_waits : (j : ℕ) (s : Option Seat) → s ≡ None → not (j == i) && option_map_or (λ r. r.block == b) (option_map_or (λ (x : Seat). shown_hart sets x.output x.hart) s (first_hart idle)).request false ≡ false
  idle_waits j None is = no (not (j == i))
    where
      no : (c : Bool) → c && false ≡ false
      no true = refl
      no false = refl
  idle_waits j (Some s) is = absurd (none-some s (sym is))

  held_past : (d n : ℕ) → n ≡ length v.seats + d → held_behind (shown sets v) i b n ≡ held_behind (shown sets v) i b (length v.seats)
  unfolding held_behind
  held_past zero n is = let same : n ≡ length v.seats = omega (arith, is) in ap (held_behind (shown sets v) i b) same
  held_past (suc d) zero is = absurd (omega (arith, is))
  held_past (suc d) (suc n) is =
      let here : n ≡ length v.seats + d = omega (arith, is) in
      let past : length v.seats ≤ n = omega (arith, here) in
      let idle_here : waits_behind (shown sets v) i b n ≡ false = idle_waits n (slice_get v.seats n) (slice_get_past v.seats n past) in
      ap (λ (c : Bool). held_behind (shown sets v) i b n ++ (if c then (n, Held) ∷ [] else [])) idle_here ∙ append-nil (held_behind (shown sets v) i b n) ∙ held_past d n here

  pub held_all : length v.seats ≤ most_harts → held_behind (shown sets v) i b (length v.seats) ≡ held_behind (shown sets v) i b most_harts
  held_all few = sym (held_past (most_harts - length v.seats) most_harts (omega (arith, few)))
