-- Each word that is retired is the text's, with the effect that its row gives it.
use Rattle.std.proofs.Common.{◌≡◌, ℕ, Option, Some, Result, Ok, Err, refl, sym, ap, ◌∙◌}
use Rattle.std.specs.Prelude.{is_some, IsOkAnd}
use Rattle.std.proofs.lemmas.Option.{same_Some}
use Rattle.words.specs.declared.cause.Cause.{Cause}
use Rattle.words.specs.declared.entry.Access.{Access}
use Rattle.words.specs.declared.entry.Entry.TheVariants.{Retire}
use Rattle.words.specs.declared.entry.Step.{Step}
use Rattle.table.specs.declared.effect.Effect.{Effect}
use Rattle.words.specs.Registers.{with_reg}
use Rattle.table.specs.Effects.{resolved}
use Rattle.table.specs.Table.{effect_of}
use Rattle.table.specs.Program.{word_at}
use Rattle.flat.specs.State.{Flat, FlatHart, flat_view}
use Rattle.flat.specs.Causes.{next_of, done_next}
use Rattle.flat.specs.Effects.{write_by, load_by, store_by, hart_after}
use Rattle.flat.specs.Steps.{Retires}
use Rattle.flat.specs.Reasons.{no_history, history_of}
use Rattle.flat.proofs.Entries.{hart_retired}
use Rattle.protocol.specs.Caches.{Geometry}
use Rattle.protocol.specs.Machine.{Machine, Steps}
use Rattle.isolation.specs.Belongs.{Belongs}
use Rattle.isolation.specs.Answers.{IsRow}
use Rattle.isolation.proofs.Machine.Invariant.{HartIs, Next}
use Rattle.isolation.proofs.Words.NextWord.{word_next, done_from}
use Rattle.isolation.proofs.Belongs.Belonging.{world, inv_of, next_after}

module _ (g : Geometry) (f : Flat) (v w : Machine) (s : Step) (i pc word : ℕ) (write : Option (ℕ × ℕ)) (load store : Option Access) (b : Belongs g f v) (step : Steps g v s (Some (Retire i pc word write load store)) w) where
  n : Next (world v f b.entries (inv_of g f v b).0) (Some (Retire i pc word write load store)) w
  n = next_after g f v w s (Some (Retire i pc word write load store)) b step

  same : f.setting ≡ v.setting
  same = (inv_of g f v b).1.same

  is : HartIs v.setting (v.harts i) (f.hart i) ((history_of no_history b.entries).past i)
  is = (inv_of g f v b).1.harts i

  module _ (does : Effect) (k : done_next (is_some store) f.setting (f.hart i) ≡ Ok does) (h : Flat) (z : h.hart i ≡ n.flat.hart i) (r : Retires f i word does (Retire i pc word write load store) h) where
    hart_is : h.hart i ≡ hart_after (flat_view f i) (f.hart i) does
    hart_is = hart_retired f h i does r.after

    d : (e : Effect) × (next_of f.setting (f.hart i) ≡ Ok e) × (resolved (is_some store) e ≡ does)
    d = done_from f.setting (f.hart i) does (is_some store) k

    t : (a : ℕ) × (word_at f.setting.segments (f.hart i).pc ≡ Some a) × (effect_of a (f.hart i).pc (f.hart i).regs ≡ Ok d.0)
    t = word_next f.setting (f.hart i) d.0 d.1

    row : IsRow v w f i pc word write load store does
    row = record {
      fetched = (λ j. word_at (sym same j).segments (sym is.pc j)) ∙ r.fetched;
      effect = (d.0, (λ j. effect_of word (sym is.pc j) (sym is.regs j)) ∙ (ap (λ z. effect_of z (f.hart i).pc (f.hart i).regs) (same_Some word t.0 (sym r.fetched ∙ t.1)) ∙ t.2), sym d.2);
      entry = r.entry ∙ ap (λ z. Retire i z word (write_by (flat_view f i) does does.act) (load_by (flat_view f i) does.act) (store_by (flat_view f i) does.act)) is.pc;
      regs = sym (n.inv.harts i).regs ∙ (ap (λ (h : FlatHart). h.regs) (sym z ∙ hart_is) ∙ ap (λ z. with_reg z (write_by (flat_view f i) does does.act)) is.regs);
      pc = sym (n.inv.harts i).pc ∙ ap (λ (h : FlatHart). h.pc) (sym z ∙ hart_is);
    }

  by_next : (z : Result Effect Cause) → done_next (is_some store) f.setting (f.hart i) ≡ z → IsOkAnd z (λ does. Retires f i word does (Retire i pc word write load store) n.flat) → (does : Effect) × IsRow v w f i pc word write load store does
  by_next (Err c) k r = absurd r
  by_next (Ok does) k r = (does, row does k n.flat refl r)

  -- the effect that it had, by the table
  pub row_of : (does : Effect) × IsRow v w f i pc word write load store does
  row_of = by_next (done_next (is_some store) f.setting (f.hart i)) refl n.carries
