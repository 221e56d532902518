-- An entry in a transaction and an entry of another hart may come in either order.
use Rattle.std.proofs.Common.{◌≡◌, ◌≢◌, ℕ, ◌/◌, Bool, true, false, cond, Option, refl, sym, ap, ◌∙◌, subst}
use Rattle.std.specs.Prelude.{is_some, ◌==◌, IsSome, IsOkAnd}
use Rattle.words.specs.declared.entry.Access.{Access}
use Rattle.words.specs.declared.entry.Entry.{Entry}
use Rattle.words.specs.declared.entry.Entry.TheVariants.{Retire, Abort, Trap, Refuse, Spill}
use Rattle.table.specs.Program.{word_at}
use Rattle.flat.specs.Bytes.{put_at}
use Rattle.flat.specs.State.{Flat, FlatHart, flat_view, seen, has_read, has_written}
use Rattle.flat.specs.Causes.{done_next}
use Rattle.flat.specs.Effects.{retire_of, hart_after, tx_by, mem_by}
use Rattle.flat.specs.Steps.{Carries, Retires, hart_of}
use Rattle.flat.specs.Isolation.{has_touched}
use Rattle.flat.proofs.Maps.{one_number, two_numbers, put_there, put_elsewhere}
use Rattle.flat.proofs.Next.{done_ok}
use Rattle.flat.proofs.Entries.{retired_by, aborted_by, hart_retired, hart_back, others_stay, setting_stays}
use Rattle.flat.proofs.Alone.{act_leaves, entry_leaves, seen_same}
use Rattle.flat.proofs.Apart.{IsApart}
use Rattle.flat.proofs.Separate.{IsSeparate, stays_separate}
use Rattle.flat.proofs.Isolated.{others_leave}
use Rattle.flat.proofs.Elsewhere.{LooksLike, as_in, carries_too}
use Rattle.flat.proofs.LoadsOrStores.{done_useful}
use Rattle.flat.proofs.Touches.{IsAt, act_touches, act_room, room_allows}
use Rattle.flat.proofs.Grows.{own_grows, some_none}
use Rattle.flat.proofs.SameView.{Agree, agree_by, retire_same, after_same}

-- to another hart the state before such an entry looks like the one after it
looks_before : (f g : Flat) (e : Entry) (k : ℕ) → Carries f e g → IsSome (g.hart (hart_of e)).tx → k ≢ hart_of e → LooksLike k g f
looks_before f g e k c inside ne = record {
  setting = sym (setting_stays f g e c);
  mem = λ a. sym (entry_leaves f g e c inside a);
  hart = sym (others_stay f g e c k ne);
  reads = λ j b. reads_at j b (j == hart_of e) refl;
  writes = λ j b. writes_at j b (j == hart_of e) refl;
} where
  reads_at : (j b : ℕ) → (t : Bool) → (j == hart_of e) ≡ t → has_read (g.hart j).tx b ≡ false → has_read (f.hart j).tx b ≡ false
  reads_at j b true own = let s = one_number j (hart_of e) own in let grows = own_grows f g e c inside b in subst (λ n. has_read (g.hart n).tx b ≡ false → has_read (f.hart n).tx b ≡ false) (sym s) grows.0
  reads_at j b false other = λ z. ap (λ (h : FlatHart). has_read h.tx b) (sym (others_stay f g e c j (two_numbers j (hart_of e) other))) ∙ z

  writes_at : (j b : ℕ) → (t : Bool) → (j == hart_of e) ≡ t → has_written (g.hart j).tx b ≡ false → has_written (f.hart j).tx b ≡ false
  writes_at j b true own = let s = one_number j (hart_of e) own in let grows = own_grows f g e c inside b in subst (λ n. has_written (g.hart n).tx b ≡ false → has_written (f.hart n).tx b ≡ false) (sym s) grows.1
  writes_at j b false other = λ z. ap (λ (h : FlatHart). has_written h.tx b) (sym (others_stay f g e c j (two_numbers j (hart_of e) other))) ∙ z

-- the state with memory and one hart as in another, where no other hart differs
as_in_all : (f h : Flat) (k : ℕ) → h.setting ≡ f.setting → ((j : ℕ) → j ≢ k → h.hart j ≡ f.hart j) → as_in f k h ≡ h
as_in_all f h k setting others = λ p. record { setting = sym setting p; mem = h.mem; hart = λ j. at j (j == k) refl p } where
  at : (j : ℕ) → (t : Bool) → (j == k) ≡ t → cond t (h.hart k) (f.hart j) ≡ h.hart j
  at j true e = ap h.hart (sym (one_number j k e))
  at j false e = sym (others j (two_numbers j k e))

-- the others' harts there
as_in_others : (f h : Flat) (i k j : ℕ) → ((n : ℕ) → n ≢ k → n ≢ i → h.hart n ≡ f.hart n) → j ≢ i → (as_in f k h).hart j ≡ h.hart j
as_in_others f h i k j others ne = by (j == k) refl where
  by : (t : Bool) → (j == k) ≡ t → cond t (h.hart k) (f.hart j) ≡ h.hart j
  by true e = ap h.hart (sym (one_number j k e))
  by false e = sym (others j (two_numbers j k e) ne)

-- a state that has hart i from another and all other harts too
put_last : (m h : Flat) (i : ℕ) (x : FlatHart) → x ≡ h.hart i → ((j : ℕ) → j ≢ i → m.hart j ≡ h.hart j) → (j : ℕ) → h.hart j ≡ put_at i x m.hart j
put_last m h i x here others j = by (j == i) refl where
  by : (t : Bool) → (j == i) ≡ t → h.hart j ≡ cond t x (m.hart j)
  by true e = ap h.hart (one_number j i e) ∙ sym here
  by false e = sym (others j (two_numbers j i e))

-- what hart i retires in its transaction it can retire after the other's entry too
retire_later : (f g h : Flat) (i pc w : ℕ) (x : Option (ℕ × ℕ)) (l s : Option Access) (d : Entry) → IsSeparate f → Carries f (Retire i pc w x l s) g → IsSome (g.hart i).tx
    → Carries g d h → hart_of d ≢ i → Carries (as_in f (hart_of d) h) (Retire i pc w x l s) h
retire_later f g h i pc w x l s d sep c inside c' ne =
    let own = Retire i pc w x l s in
    let m = as_in f (hart_of d) h in
    let r = retired_by f g i pc w x l s c in
    let apart : i ≢ hart_of d = λ z. ne (sym z) in
    let here : m.hart i ≡ f.hart i = put_elsewhere (hart_of d) i (h.hart (hart_of d)) f.hart apart in
    let after : g.hart i ≡ hart_after (flat_view f i) (f.hart i) r.0 = hart_retired f g i r.0 r.2.after in
    let tx : (g.hart i).tx ≡ tx_by (flat_view f i) (f.hart i) (f.hart i).tx r.0.act = ap (λ (y : FlatHart). y.tx) after in
    let now : IsSome (tx_by (flat_view f i) (f.hart i) (f.hart i).tx r.0.act) = subst (λ o. IsSome o) tx inside in
    let useful = done_useful f.setting (f.hart i) (is_some s) r.0 r.1 in
    let sep_g = stays_separate f g own c sep in
    let sep_h = stays_separate g h d c' sep_g in
    let same : (a : ℕ) → IsAt r.0.act a → h.mem a ≡ f.mem a = λ a at.
    others_leave g h d i a sep_g c' apart (ap (λ o. has_touched o (a / 32)) tx ∙ act_touches (flat_view f i) (f.hart i) (f.hart i).tx r.0.act a useful now at)
    ∙ entry_leaves f g own c inside a in
    let agree : Agree (flat_view m i) (flat_view f i) r.0.act =
    agree_by f.setting (f.hart i) (flat_view m i) (flat_view f i) r.0.act (done_ok f.setting (f.hart i) (is_some s) r.0 r.1)
    (λ a at. ap (λ (y : FlatHart). seen y.tx h.mem a) here ∙ seen_same (f.hart i).tx h.mem f.mem a (same a at)) in
    let moved : hart_after (flat_view m i) (m.hart i) r.0 ≡ g.hart i =
    ap (λ y. hart_after (flat_view m i) y r.0) here ∙ after_same (flat_view m i) (flat_view f i) (f.hart i) r.0 agree ∙ sym after in
    let others : (j : ℕ) → j ≢ i → m.hart j ≡ h.hart j = λ j.
    as_in_others f h i (hart_of d) j (λ n k z. others_stay g h d c' n k ∙ others_stay f g own c n z) in
    let still : h.hart i ≡ g.hart i = others_stay g h d c' i apart in
    let open_now : IsSome (tx_by (flat_view m i) (m.hart i) (m.hart i).tx r.0.act) = subst (λ (y : FlatHart). IsSome y.tx) (sym moved) inside in
    let setting : h.setting ≡ f.setting = setting_stays g h d c' ∙ setting_stays f g own c in
    let mem : (a : ℕ) → h.mem a ≡ mem_by (flat_view m i) (m.hart i).tx m.mem r.0.act a = λ a. sym (act_leaves (flat_view m i) (m.hart i) (m.hart i).tx m.mem r.0.act a open_now) in
    let hart : (j : ℕ) → h.hart j ≡ put_at i (hart_after (flat_view m i) (m.hart i) r.0) m.hart j = put_last m h i (hart_after (flat_view m i) (m.hart i) r.0) (moved ∙ sym still) others in
    subst (λ n. IsOkAnd n (λ z. Retires m i w z own h)) (sym (ap (done_next (is_some s) f.setting) here ∙ r.1)) (record {
      running = record { hart = r.2.running.hart; runs = ap (λ (y : FlatHart). y.status) here ∙ r.2.running.runs };
      fetched = ap (λ (y : FlatHart). word_at f.setting.segments y.pc) here ∙ r.2.fetched;
      no_abort = r.2.no_abort;
      allowed = room_allows m i r.0.act (λ j z. act_room (flat_view f i) (f.hart i) (m.hart j).tx (f.hart i).tx r.0.act useful now
          (subst (λ (y : FlatHart). IsApart y.tx (tx_by (flat_view f i) (f.hart i) (f.hart i).tx r.0.act)) (sym (others j z))
          (subst (IsApart (h.hart j).tx) (ap (λ (y : FlatHart). y.tx) still ∙ tx) (sep_h.apart i j z))));
      entry = r.2.entry ∙ sym (ap (λ y. retire_of (flat_view m i) i y w r.0) here ∙ retire_same (flat_view m i) (flat_view f i) i (f.hart i) w r.0 agree);
      after = λ p. record { setting = setting p; mem = λ a. mem a p; hart = λ j. hart j p };
    })

-- each entry of a transaction
later : (f g h : Flat) (e d : Entry) → IsSeparate f → Carries f e g → IsSome (g.hart (hart_of e)).tx → Carries g d h → hart_of d ≢ hart_of e → Carries (as_in f (hart_of d) h) e h
later f g h (Retire i pc w x l s) d sep c inside c' ne = retire_later f g h i pc w x l s d sep c inside c' ne
later f g h (Abort i k) d sep c inside c' ne =
    let r = aborted_by f g i k c in
    absurd (some_none (g.hart i).tx inside (ap (λ (y : FlatHart). y.tx) (hart_back f g i k r.0 r.2.after)))
later f g h (Trap i k p) d sep c inside c' ne =
    absurd (some_none (g.hart i).tx inside (ap (λ (y : FlatHart). y.tx) (ap (λ (m : Flat). m.hart i) c.after ∙ put_there i _ f.hart) ∙ c.outside))
later f g h (Refuse i j b) d sep e inside c' ne = let c = subst (λ m. Carries m d h) e c' in sym (as_in_all f h (hart_of d) (setting_stays f h d c) (others_stay f h d c))
later f g h (Spill i b) d sep e inside c' ne = let c = subst (λ m. Carries m d h) e c' in sym (as_in_all f h (hart_of d) (setting_stays f h d c) (others_stay f h d c))

-- the two in the other order
pub swapped : (f g h : Flat) (e d : Entry) → IsSeparate f → Carries f e g → IsSome (g.hart (hart_of e)).tx → Carries g d h → hart_of d ≢ hart_of e → (m : Flat) × Carries f d m × Carries m e h
swapped f g h e d sep c inside c' ne = (as_in f (hart_of d) h, carries_too g f h d (looks_before f g e (hart_of d) c inside ne) c', later f g h e d sep c inside c' ne)
