-- A word that nobody else sees may go before the others' moves.
use Rattle.std.proofs.Common.{◌≡◌, ◌≢◌, ◌⊎◌, ℕ, Bool, true, false, cond, Option, Some, None, Result, Ok, Err, List, [], ◌∷◌, inl, inr, refl, sym, ap, ◌∙◌, subst}
use Rattle.std.specs.Prelude.{is_some, ◌==◌, IsSome, IsOkAnd}
use Rattle.words.specs.declared.cause.Cause.{Cause}
use Rattle.words.specs.declared.cause.Status.TheVariants.{Running}
use Rattle.words.specs.declared.cause.AbortCause.TheVariants.{Asked, Conflict, LogFull, Trapped}
use Rattle.words.specs.declared.entry.Entry.{Entry}
use Rattle.words.specs.declared.entry.Entry.TheVariants.{Retire, Abort, Trap, Refuse, Spill}
use Rattle.table.specs.declared.effect.Effect.{Effect}
use Rattle.table.specs.declared.effect.Act.TheVariants as act
use Rattle.words.specs.Registers.{with_reg}
use Rattle.flat.specs.State.{Flat, FlatHart, Tx, flat_view}
use Rattle.flat.specs.Causes.{next_of, done_next}
use Rattle.flat.specs.Effects.{mem_by, tx_by, retire_of}
use Rattle.flat.specs.Steps.{Carries, IsRunning, Retires, retired, is_abort, is_store, hart_of}
use Rattle.flat.specs.Attempts.{with_hart}
use Rattle.flat.proofs.Maps.{one_number, two_numbers, put_elsewhere}
use Rattle.flat.proofs.Entries.{retired_by, aborted_by, others_stay}
use Rattle.isolation.proofs.Words.NextWord.{word_next, next_done}
use Rattle.isolation.proofs.Words.Decoding.{Reserves, next_reserves}
use Rattle.flat.specs.Order.{store_in}
use Rattle.flat.specs.Reservations.{Reservations, reserved_by, reserved_beside, reserved_after}
use Rattle.words.specs.declared.entry.Access.{Access}
use Rattle.table.specs.Table.{decoded}
use Rattle.std.specs.Option.{unwrap_or}
use Rattle.isolation.specs.Moves.{depths, reserved_behind, is_access, IsAtAccess, IsBeside, MayGiveWay, MovesBy, MoveTogether, Moves}
use Rattle.isolation.proofs.Walked.{by_move, moves_carry}
use Rattle.isolation.proofs.Unseen.{other_entry, claims_same}

-- the effect of such a word
abbrev pub local : ℕ → Option (ℕ × ℕ) → Effect
local next write = record { next = next; write = write; act = act.Nothing }

-- a hart after it
abbrev pub advanced : FlatHart → ℕ → Option (ℕ × ℕ) → FlatHart
advanced h next write = record { regs = with_reg h.regs write; pc = next; output = h.output; status = Running; tx = h.tx }

-- a state after hart i has retired it
abbrev pub went : Flat → ℕ → ℕ → Option (ℕ × ℕ) → Flat
went f i next write = with_hart f i (advanced (f.hart i) next write)

-- hart i runs, and is at such a word
pub record IsAtLocal (f : Flat) (i next : ℕ) (write : Option (ℕ × ℕ)) : Type 0 where
  pub running : IsRunning f i
  pub word : next_of f.setting (f.hart i) ≡ Ok (local next write)

-- memory and the transaction stay
mem_still : (view : ℕ → ℕ) (tx : Option Tx) (mem : ℕ → ℕ) (a : ℕ) → mem_by view tx mem act.Nothing a ≡ mem a
mem_still view None mem a = refl
mem_still view (Some t) mem a = refl

tx_still : (view : ℕ → ℕ) (h : FlatHart) (tx : Option Tx) → tx_by view h tx act.Nothing ≡ tx
tx_still view h None = refl
tx_still view h (Some t) = refl

-- retired, such a word moves its hart alone
pub retired_local : (f : Flat) (i next : ℕ) (write : Option (ℕ × ℕ)) → retired f i (local next write) ≡ went f i next write
retired_local f i next write = λ p. record {
  setting = f.setting;
  mem = λ a. mem_still (flat_view f i) (f.hart i).tx f.mem a p;
  hart = λ j. cond (j == i) (record {
    regs = with_reg (f.hart i).regs write;
    pc = next;
    output = (f.hart i).output;
    status = Running;
    tx = tx_still (flat_view f i) (f.hart i) (f.hart i).tx p;
  }) (f.hart j);
}

-- it can be retired
pub local_retires : (f : Flat) (i next : ℕ) (write : Option (ℕ × ℕ)) → IsAtLocal f i next write
    → (word : ℕ) × Carries f (Retire i (f.hart i).pc word write None None) (went f i next write)
local_retires f i next write here =
    let a = word_next f.setting (f.hart i) (local next write) here.word in
    let entry = Retire i (f.hart i).pc a.0 write None None in (
      a.0,
      subst (λ n. IsOkAnd n (λ d. Retires f i a.0 d entry (went f i next write))) (sym (next_done f.setting (f.hart i) (local next write) false here.word)) (record {
        running = here.running;
        fetched = a.1;
        no_abort = refl;
        allowed = tt;
        entry = refl;
        after = sym (retired_local f i next write);
      }),
    )

-- The others' moves

-- at another hart's number stands what stood there, and the same transaction everywhere
module _ (f : Flat) (i : ℕ) (x : FlatHart) (tx : x.tx ≡ (f.hart i).tx) where
  same_tx : (j : ℕ) → ((with_hart f i x).hart j).tx ≡ (f.hart j).tx
  same_tx j = by (j == i) refl where
    by : (t : Bool) → (j == i) ≡ t → (cond t x (f.hart j)).tx ≡ (f.hart j).tx
    by true e = tx ∙ ap (λ n. (f.hart n).tx) (sym (one_number j i e))
    by false e = refl

  beside_still : (k : ℕ) → IsBeside f k → IsBeside (with_hart f i x) k
  beside_still k b = record { other = b.other; hart = b.hart; apart = b.apart; inside = subst (λ o. IsSome o) (sym (same_tx b.other)) b.inside }

  gives_way_still : (k : ℕ) → k ≢ i → MayGiveWay f k → MayGiveWay (with_hart f i x) k
  gives_way_still k ne m =
      let same : (with_hart f i x).hart k ≡ f.hart k = put_elsewhere i k x f.hart ne in record {
        running = record { hart = m.running.hart; runs = ap (λ (h : FlatHart). h.status) same ∙ m.running.runs };
        inside = subst (λ (h : FlatHart). IsSome h.tx) (sym same) m.inside;
        access = subst (λ h. IsOkAnd (next_of f.setting h) (λ e. is_access e.act ≡ true)) (sym same) m.access;
        beside = beside_still k m.beside;
      }

  -- a move of another hart's
  one_still : (g : Flat) (e : Entry) → hart_of e ≢ i → MovesBy f e g → MovesBy (with_hart f i x) e (with_hart g i x)
  one_still g (Retire k pc w y l s) ne m = other_entry f g (Retire k pc w y l s) i x (claims_same x (f.hart i) tx) m ne
  one_still g (Abort k Asked) ne m = other_entry f g (Abort k Asked) i x (claims_same x (f.hart i) tx) m ne
  one_still g (Abort k Conflict) ne m = (gives_way_still k ne m.0, other_entry f g (Abort k Conflict) i x (claims_same x (f.hart i) tx) m.1 ne)
  one_still g (Abort k LogFull) ne m = other_entry f g (Abort k LogFull) i x (claims_same x (f.hart i) tx) m ne
  one_still g (Abort k (Trapped c p)) ne m = other_entry f g (Abort k (Trapped c p)) i x (claims_same x (f.hart i) tx) m ne
  one_still g (Trap k c p) ne m = other_entry f g (Trap k c p) i x (claims_same x (f.hart i) tx) m ne
  one_still g (Refuse k j b) ne m = absurd m
  one_still g (Spill k b) ne m = absurd m

  -- and of two
  two_still : (g : Flat) (j k : ℕ) → j ≢ i → k ≢ i → MoveTogether f j k g → MoveTogether (with_hart f i x) j k (with_hart g i x)
  two_still g j k nj nk m =
      let apart : i ≢ j = λ z. nj (sym z) in
      let still : m.between.hart i ≡ f.hart i = others_stay f m.between (Abort j Conflict) m.one i apart in record {
        first = gives_way_still j nj m.first;
        second = gives_way_still k nk m.second;
        order = m.order;
        alone = λ n ne nf. same_tx n ∙ m.alone n ne nf;
        between = with_hart m.between i x;
        one = other_entry f m.between (Abort j Conflict) i x (claims_same x (f.hart i) tx) m.one nj;
        other = other_entry m.between g (Abort k Conflict) i x (claims_same x (m.between.hart i) (tx ∙ ap (λ (h : FlatHart). h.tx) (sym still))) m.other nk;
      }

-- The hart's own move

abbrev effect_or : Effect → Result Effect Cause → Effect
effect_or d (Ok e) = e
effect_or d (Err c) = d

same_ok : (d e : Effect) (r : Result Effect Cause) → r ≡ Ok d → r ≡ Ok e → d ≡ e
same_ok d e r x y = ap (effect_or d) (sym x ∙ y)

module _ (f : Flat) (i next : ℕ) (write : Option (ℕ × ℕ)) (here : IsAtLocal f i next write) where
  -- the word is no other
  no_other : (P : Effect → Type 0) → (P (local next write) → ⊥) → IsOkAnd (next_of f.setting (f.hart i)) P → ⊥
  no_other P differs k = differs (subst (λ n. IsOkAnd n P) here.word k)

  no_cause : (c : Cause) → next_of f.setting (f.hart i) ≡ Err c → ⊥
  no_cause c e = let k = sym here.word ∙ e in cc

  no_access : IsAtAccess f i → ⊥
  no_access k = no_other (λ e. is_access e.act ≡ true) (λ z. cc) k

  -- it is retired
  own_move : (g : Flat) (e : Entry) → hart_of e ≡ i → MovesBy f e g → g ≡ went f i next write
  own_move g (Retire k pc w y l s) own m =
      let r = retired_by f g k pc w y l s m in
      let word : done_next (is_some s) f.setting (f.hart k) ≡ Ok (local next write) =
      ap (λ n. done_next (is_some s) f.setting (f.hart n)) own ∙ next_done f.setting (f.hart i) (local next write) (is_some s) here.word in
      let same : r.0 ≡ local next write = same_ok r.0 (local next write) (done_next (is_some s) f.setting (f.hart k)) r.1 word in
      r.2.after ∙ (λ p. retired f (own p) (same p)) ∙ retired_local f i next write
  own_move g (Abort k Asked) own m =
      let r = aborted_by f g k Asked m in
      absurd (no_other (λ e. is_abort e.act ≡ true) (λ z. cc) (subst (λ n. IsOkAnd (next_of f.setting (f.hart n)) (λ e. is_abort e.act ≡ true)) own r.2.due))
  own_move g (Abort k Conflict) own m = absurd (no_access (subst (IsAtAccess f) own m.0.access))
  own_move g (Abort k LogFull) own m =
      let r = aborted_by f g k LogFull m in
      absurd (no_other (λ e. is_store e.act ≡ true) (λ z. cc) (subst (λ n. IsOkAnd (next_of f.setting (f.hart n)) (λ e. is_store e.act ≡ true)) own r.2.due.0))
  own_move g (Abort k (Trapped c p)) own m =
      let r = aborted_by f g k (Trapped c p) m in
      absurd (no_cause c (ap (λ n. next_of f.setting (f.hart n)) (sym own) ∙ r.2.due.1))
  own_move g (Trap k c p) own m = absurd (no_cause c (ap (λ n. next_of f.setting (f.hart n)) (sym own) ∙ m.caused))
  own_move g (Refuse k j b) own m = absurd m
  own_move g (Spill k b) own m = absurd m

  -- and leaves the reservations
  retire_leaves : (g : Flat) (k pc w : ℕ) (y : Option (ℕ × ℕ)) (l s : Option Access) → k ≡ i → Carries f (Retire k pc w y l s) g → (r : Reservations) → reserved_after (depths f) (Retire k pc w y l s) r ≡ r
  retire_leaves g k pc w y l s own m r =
      let a = retired_by f g k pc w y l s m in
      let word : done_next (is_some s) f.setting (f.hart k) ≡ Ok (local next write) =
      ap (λ n. done_next (is_some s) f.setting (f.hart n)) own ∙ next_done f.setting (f.hart i) (local next write) (is_some s) here.word in
      let same : a.0 ≡ local next write = same_ok a.0 (local next write) (done_next (is_some s) f.setting (f.hart k)) a.1 word in
      let no_store : s ≡ None = ap store_in (a.2.entry ∙ ap (λ (d : Effect). retire_of (flat_view f k) k (f.hart k) w d) same) in
      let tells : Reserves (decoded w) act.Nothing =
      subst (λ o. Reserves (decoded (unwrap_or o 0)) act.Nothing) a.2.fetched (next_reserves f.setting (f.hart k) (local next write) (ap (λ n. next_of f.setting (f.hart n)) own ∙ here.word)) in
      let at : (j : ℕ) (b : Bool) → (j == k) ≡ b → cond b (reserved_by (decoded w) (depths f k) l (r k)) (reserved_beside s (r j)) ≡ r j = λ j b.
      elim b as (λ (b : Bool). (j == k) ≡ b → cond b (reserved_by (decoded w) (depths f k) l (r k)) (reserved_beside s (r j)) ≡ r j) [
        | true ↦ λ e. tells.reserved (depths f k) l (r k) ∙ ap r (sym (one_number j k e))
        | false ↦ λ e. ap (λ z. reserved_beside z (r j)) no_store
      ] in
      λ p j. at j (j == k) refl p

  own_leaves : (g : Flat) (e : Entry) → hart_of e ≡ i → MovesBy f e g → (r : Reservations) → reserved_after (depths f) e r ≡ r
  own_leaves g (Retire k pc w y l s) own m = retire_leaves g k pc w y l s own m
  own_leaves g (Abort k Asked) own m =
      let r = aborted_by f g k Asked m in
      absurd (no_other (λ e. is_abort e.act ≡ true) (λ z. cc) (subst (λ n. IsOkAnd (next_of f.setting (f.hart n)) (λ e. is_abort e.act ≡ true)) own r.2.due))
  own_leaves g (Abort k Conflict) own m = absurd (no_access (subst (IsAtAccess f) own m.0.access))
  own_leaves g (Abort k LogFull) own m =
      let r = aborted_by f g k LogFull m in
      absurd (no_other (λ e. is_store e.act ≡ true) (λ z. cc) (subst (λ n. IsOkAnd (next_of f.setting (f.hart n)) (λ e. is_store e.act ≡ true)) own r.2.due.0))
  own_leaves g (Abort k (Trapped c p)) own m =
      let r = aborted_by f g k (Trapped c p) m in
      absurd (no_cause c (ap (λ n. next_of f.setting (f.hart n)) (sym own) ∙ r.2.due.1))
  own_leaves g (Trap k c p) own m = absurd (no_cause c (ap (λ n. next_of f.setting (f.hart n)) (sym own) ∙ m.caused))
  own_leaves g (Refuse k j b) own m = absurd m
  own_leaves g (Spill k b) own m = absurd m

  pub local_leaves : (pc w : ℕ) → Carries f (Retire i pc w write None None) (went f i next write) → (r : Reservations) → reserved_after (depths f) (Retire i pc w write None None) r ≡ r
  local_leaves pc w m r = retire_leaves (went f i next write) i pc w write None None refl m r

  -- a move is this word's, or goes on after it, and leaves the hart where it is
  abbrev pub IsLater : Flat → List Entry → Type 0
  IsLater g es = ((g ≡ went f i next write) × ((r : Reservations) → reserved_behind f r es ≡ r)) ⊎ (Moves (went f i next write) es (went g i next write) × (g.hart i ≡ f.hart i))

  later : (g : Flat) (es : List Entry) → g.hart i ≡ f.hart i → Moves (went f i next write) es (with_hart g i (advanced (f.hart i) next write)) → IsLater g es
  later g es still m = inr (subst (λ h. Moves (went f i next write) es (with_hart g i (advanced h next write))) (sym still) m, still)

  pub local_first : (g : Flat) (es : List Entry) → Moves f es g → IsLater g es
  local_first g es m = by_move f g (IsLater g) one two es m where
    one : (e : Entry) → MovesBy f e g → IsLater g (e ∷ [])
    one e k = by (hart_of e == i) refl where
      by : (t : Bool) → (hart_of e == i) ≡ t → IsLater g (e ∷ [])
      by true z = inl (own_move g e (one_number (hart_of e) i z) k, own_leaves g e (one_number (hart_of e) i z) k)
      by false z =
          let ne = two_numbers (hart_of e) i z in
          later g (e ∷ []) (others_stay f g e (moves_carry f g e k) i (λ y. ne (sym y))) (one_still f i (advanced (f.hart i) next write) refl g e ne k)

    two : (j k : ℕ) → MoveTogether f j k g → IsLater g (Abort j Conflict ∷ Abort k Conflict ∷ [])
    two j k m =
        let nj : j ≢ i = λ z. no_access (subst (IsAtAccess f) z m.first.access) in
        let nk : k ≢ i = λ z. no_access (subst (IsAtAccess f) z m.second.access) in
        let still = others_stay m.between g (Abort k Conflict) m.other i (λ y. nk (sym y)) ∙ others_stay f m.between (Abort j Conflict) m.one i (λ y. nj (sym y)) in
        later g (Abort j Conflict ∷ Abort k Conflict ∷ []) still (two_still f i (advanced (f.hart i) next write) refl g j k nj nk m)
