-- Undoing records, the newest first, and the oldest image of a block.
use Rattle.std.proofs.Common.{◌≡◌, ◌==◌, ◌++◌, ◌∙◌, ℕ, List, [], ◌∷◌, Bool, true, false, Option, Some, None, is_some, fold, reverse, cond, refl, sym, ap, rules}
use Rattle.std.specs.Option.{option_map_or}
use Rattle.std.proofs.lemmas.List.{reverse-append}
use Rattle.undo_log.specs.declared.record.Record.{Record}
use Rattle.undo_log.specs.Undo.{oldest, holds, restored, with_image, undone}

restored-by_test : (t : Bool) (r : Record) (rs : List Record) (b : ℕ) (now : List ℕ) → r.block == b ≡ t → restored (r ∷ rs) b now ≡ cond t r.before (restored rs b now)
restored-by_test true r rs b now is = rw is refl
restored-by_test false r rs b now is = rw is refl

-- the oldest record decides, if it is of the block
pub restored-cons : (r : Record) (rs : List Record) (b : ℕ) (now : List ℕ) → restored (r ∷ rs) b now ≡ cond (r.block == b) r.before (restored rs b now)
restored-cons r rs b now = restored-by_test (r.block == b) r rs b now refl

-- the newest record, once undone, is part of what the block holds now
pub restored-push : (rs : List Record) (r : Record) (b : ℕ) (now : List ℕ) → restored (rs ++ r ∷ []) b now ≡ restored rs b (cond (r.block == b) r.before now)
restored-push [] r b now = restored-cons r [] b now
restored-push (x ∷ rs) r b now =
    restored-cons x (rs ++ r ∷ []) b now
    ∙ ap (λ (w : List ℕ). cond (x.block == b) x.before w) (restored-push rs r b now)
    ∙ sym (restored-cons x rs b (cond (r.block == b) r.before now))

-- where no record is of the block, the block stays
pub restored-none : (rs : List Record) (b : ℕ) (now : List ℕ) → holds rs b ≡ false → restored rs b now ≡ now
restored-none rs b now none = from_none (oldest rs b) none
  where
    from_none : (o : Option Record) → is_some o ≡ false → option_map_or (λ (r : Record). r.before) o now ≡ now
    from_none None e = refl
    from_none (Some r) e = search rules

fold-push : {A B : Type 0} (f : B → A → B) (start : B) (xs : List A) (x : A) → fold f start (xs ++ x ∷ []) ≡ f (fold f start xs) x
fold-push f start [] x = refl
fold-push f start (y ∷ xs) x = fold-push f (f start y) xs x

-- the oldest record is undone last
pub undone-cons : (r : Record) (rs : List Record) (memory : ℕ → List ℕ) (b : ℕ) → undone (r ∷ rs) memory b ≡ with_image (undone rs memory) r b
undone-cons r rs memory b =
    ap (λ (order : List Record). fold with_image memory order b) (reverse-append (r ∷ []) rs)
    ∙ ap (λ (after : ℕ → List ℕ). after b) (fold-push with_image memory (reverse rs) r)

-- undoing the records leaves in each block what they restore
pub undone-is : (rs : List Record) (memory : ℕ → List ℕ) (b : ℕ) → undone rs memory b ≡ restored rs b (memory b)
undone-is [] memory b = refl
undone-is (r ∷ rs) memory b =
    undone-cons r rs memory b
    ∙ ap (λ (w : List ℕ). cond (r.block == b) r.before w) (undone-is rs memory b)
    ∙ sym (restored-cons r rs b (memory b))

-- what undoing the newest record changes of what the log restores: nothing
pub ruleset undoing = (restored-push)
