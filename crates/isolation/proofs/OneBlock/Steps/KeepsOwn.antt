-- Each of a hart's own steps keeps the invariant.
use Rattle.std.proofs.Common.{◌≡◌, ◌≢◌, ◌<◌, ◌⊎◌, ℕ, List, [], ◌∷◌, Bool, true, false, Option, None, Some, refl, sym, subst, inl, inr, arith}
use Rattle.std.proofs.lemmas.Bool.{cases_eq}
use Rattle.words.specs.declared.message.Kind.{Kind}
use Rattle.words.specs.declared.message.Kind.TheVariants.{Write}
use Rattle.words.specs.declared.message.LineState.{LineState}
use Rattle.protocol.specs.Messages.{Block}
use Rattle.isolation.proofs.OneBlock.Model.State.{Tx, Running, Aborting, One, at_hart, lay}
use Rattle.isolation.proofs.OneBlock.Model.Core.{enough, store, flat_after, undo, commit, end_abort}
use Rattle.isolation.proofs.OneBlock.Model.Step.{with_flat, Acts}
use Rattle.isolation.proofs.OneBlock.Invariant.Roles.{Role, Aside, Ghost, line_of}
use Rattle.isolation.proofs.OneBlock.Invariant.Each.{is_at, Agree, ctx, Inv, Good}
use Rattle.isolation.proofs.OneBlock.Rows.ValueChanges.{Sole, sole, sole_rights, sole_center, nothing_unwritten, writer_after, sole_others}
use Rattle.isolation.proofs.OneBlock.Rows.ValueChangesRows.{owns_it, store_row, undo_row, leave_row, commit_other, abort_other, not_at, commit_flat, abort_flat, undo_flat, store_flat}
use Rattle.isolation.proofs.OneBlock.Steps.FromOneHart.{value_move}

pub agree_none : (b : Option (ℕ × LineState)) (a : Role) → Agree b a → b ≡ None → a ≡ Aside
agree_none b a e f = grind arith

not_writer : (w : Option ℕ) (o : ℕ) (x : Bool) → w ≡ Some o → x ≡ is_at w o → x ≡ false → ⊥
not_writer w o x e f z = grind arith

after_in : (t : Tx) (h n : ℕ) (w : Option ℕ) (x : ℕ) → h < n → ((y : ℕ) → w ≡ Some y → y < n) → writer_after t h w ≡ Some x → x < n
after_in t h n w x b f e = grind arith

not_in : (h n : ℕ) (w : Option ℕ) (x : ℕ) → ((y : ℕ) → w ≡ Some y → y < n) → not_at h w ≡ Some x → x < n
not_in h n w x f e = grind arith

module _ (n : ℕ) (s : One) (b : Option (ℕ × LineState)) (a : Role) (cur : Block) (w : Option ℕ) (g : ℕ → Ghost) (v : Inv n b a cur w s g) where
  -- a line that may be written is of a hart that has the block alone
  pub alone : (h : ℕ) → h < n → enough Write (s.hart h).line ≡ true → Sole s.owner b a h
  alone h o x =
      let e = v.each h o in
      sole (ctx b a cur w s) (s.sharers h) h (g h).role v.agree e.part (owns_it (ctx b a cur w s) (s.sharers h) h (s.hart h) (g h) e x)

  -- so no other has written it
  pub others_unwritten : (h : ℕ) → Sole s.owner b a h → (j : ℕ) → j < n → j ≢ h → (s.hart j).own.in_w ≡ false
  others_unwritten h z j o d =
      let e = v.each j o in
      nothing_unwritten _ (line_of (g j).keep) (s.hart j).own (sole_rights (ctx b a cur w s) h j (s.sharers j) (g j).role z d e.part) e.cover

  -- where h alone has the block and didn't write it, nobody did
  pub unwritten : (h : ℕ) → h < n → Sole s.owner b a h → (s.hart h).own.in_w ≡ false → cur ≡ s.flat
  unwritten h o z x = go w refl
    where
      at : (q : ℕ) → q < n → ((q ≡ h) ⊎ (q ≡ h → ⊥)) → (s.hart q).own.in_w ≡ false
      at q p (inl e) = subst (λ y. (s.hart y).own.in_w ≡ false) (sym e) x
      at q p (inr e) = others_unwritten h z q p e

      go : (u : Option ℕ) → w ≡ u → cur ≡ s.flat
      go None e = v.flat e
      go (Some q) e = absurd (not_writer w q (s.hart q).own.in_w e (v.each q (v.writer_in q e)).logs.writer_is (at q (v.writer_in q e) (cases_eq q h)))

  -- a store
  pub stores : (h : ℕ) (p : Block → Block) (k : Option Kind) → h < n → Acts (s.hart h) → enough Write (s.hart h).line ≡ true → Good n (with_flat (flat_after (s.hart h).own.tx p s.flat) (at_hart h (store p k (s.hart h)) s))
  stores h p k o t x =
      let c = ctx b a cur w s in
      let z = alone h o x in
      let tx = (s.hart h).own.tx in
      value_move n s b a cur (p cur) (flat_after tx p s.flat) w (writer_after tx h w) g h _ _ v (λ y. after_in tx h n w y o v.writer_in)
      (sole_center c h (p cur) z (agree_none b a v.agree) v.center)
      (store_flat cur s.flat w h tx p t.tx v.flat)
      (store_row c (s.sharers h) h (s.hart h) (g h) (v.each h o) p k t x (unwritten h o z))
      (λ j q d. sole_others c h j (s.sharers j) (s.hart j) (g j) (p cur) (flat_after tx p s.flat) tx z d (v.each j q))

  -- an undo
  pub undoes : (h : ℕ) (y : Block) (rest : List Block) → h < n → (s.hart h).wait ≡ None → (s.hart h).own.tx ≡ Aborting → (s.hart h).own.images ≡ y ∷ rest → enough Write (s.hart h).line ≡ true → Good n (at_hart h (undo y rest (s.hart h)) s)
  undoes h y rest o f t i x =
      let c = ctx b a cur w s in
      let z = alone h o x in
      value_move n s b a cur y s.flat w w g h _ _ v v.writer_in
      (sole_center c h y z (agree_none b a v.agree) v.center)
      (undo_flat cur s.flat y w h rest (s.hart h).own i (v.each h o).logs)
      (undo_row c (s.sharers h) h (s.hart h) (g h) (v.each h o) y rest f t i x)
      (λ j q d. sole_others c h j (s.sharers j) (s.hart j) (g j) y s.flat Aborting z d (v.each j q))

  -- a commit
  pub commits : (h : ℕ) (k : Option Kind) → h < n → (s.hart h).wait ≡ None → (s.hart h).own.tx ≡ Running → Good n (with_flat (lay (s.hart h).own.writes s.flat) (at_hart h (commit k (s.hart h)) s))
  commits h k o f t =
      let c = ctx b a cur w s in
      let e = v.each h o in
      value_move n s b a cur cur (lay (s.hart h).own.writes s.flat) w (not_at h w) g h _ _ v (λ y. not_in h n w y v.writer_in) v.center
      (commit_flat cur s.flat w h (s.hart h).own t v.flat e.logs)
      (leave_row c (s.sharers h) h (s.hart h) (g h) e (lay (s.hart h).own.writes s.flat) false k f)
      (λ j q d. commit_other c (s.sharers j) j (s.hart j) (g j) (v.each j q) h (s.hart h).own d e.logs)

  -- the end of an abort
  pub ends_abort : (h : ℕ) (k : Option Kind) → h < n → (s.hart h).wait ≡ None → (s.hart h).own.images ≡ [] → Good n (at_hart h (end_abort k (s.hart h)) s)
  ends_abort h k o f i =
      let c = ctx b a cur w s in
      let e = v.each h o in
      value_move n s b a cur cur s.flat w (not_at h w) g h _ _ v (λ y. not_in h n w y v.writer_in) v.center
      (abort_flat cur s.flat w h (s.hart h).own i v.flat e.logs)
      (leave_row c (s.sharers h) h (s.hart h) (g h) e s.flat (s.hart h).own.noted k f)
      (λ j q d. abort_other c (s.sharers j) j (s.hart j) (g j) (v.each j q) h d)
