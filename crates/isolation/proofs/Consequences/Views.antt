-- The machine's values are the flat machine's.
use Rattle.std.proofs.Common.{◌≡◌, ◌≢◌, ◌<◌, ◌/◌, ℕ, zero, suc, List, [], ◌∷◌, Bool, true, false, Option, cond, ◌==◌, refl, sym, ap, ◌∙◌, arith}
use Rattle.std.proofs.lemmas.Bool.{eqb-true}
use Rattle.flat.specs.State.{flat_view, has_written}
use Rattle.protocol.specs.Messages.{Block}
use Rattle.protocol.specs.Lines.{byte_in, words_at}
use Rattle.protocol.specs.Hart.{LogRecord, log_of}
use Rattle.protocol.specs.Network.{LiesBelow}
use Rattle.protocol.specs.Values.{restored, all_restored, committed, is_logged, raw, peek, view}
use Rattle.isolation.proofs.OneBlock.Model.State.{Aborting, Own}
use Rattle.isolation.proofs.OneBlock.Invariant.Laws.{restored as image_of, rolled_back, view_by, seen as seen_by}
use Rattle.isolation.proofs.OneBlock.Invariant.Each.{is_at, Logs}
use Rattle.isolation.proofs.Machine.World.{World, tx_at, images_of, project}
use Rattle.isolation.proofs.Machine.Invariant.{Inv}
use Rattle.isolation.proofs.Machine.Readings.{known_at}
use Rattle.isolation.proofs.Words.Bytes.{byte_back}
use Rattle.isolation.proofs.Words.Laying.{seen_small, lay_is}
use Rattle.isolation.proofs.Consequences.ValueInPlace.{in_place_is}

-- a log's oldest record of a block is its oldest image
restored_is : (log : List LogRecord) (b : ℕ) (words : Block) → restored log b words ≡ image_of (images_of b log) words
restored_is [] b words = refl
restored_is (r ∷ rest) b words = go (r.block == b) (restored_is rest b)
  where
    go : (q : Bool) → ((k : Block) → restored rest b k ≡ image_of (images_of b rest) k) → restored rest b (cond q r.before words) ≡ image_of (cond q (r.before ∷ images_of b rest) (images_of b rest)) words
    go true same = same r.before
    go false same = same words

-- the same with the logs of all harts below n
all_is : (x : World) (b n : ℕ) (words : Block) → all_restored n x.machine b words ≡ rolled_back n (project b x) words
all_is x b zero words = refl
all_is x b (suc n) words =
    ap (restored (log_of (x.machine.harts n).tx) b) (all_is x b n words)
    ∙ restored_is (log_of (x.machine.harts n).tx) b (rolled_back n (project b x) words)

-- a hart sees the value in place where its log has a record of the block, and else memory without running transactions
shown_is : (log : List LogRecord) (b p q a : ℕ) (u w : Block) → p ≡ byte_in u a → q ≡ byte_in w a → cond (is_logged log b) p q ≡ byte_in (view_by (images_of b log) u w) a
shown_is [] b p q a u w e f = f
shown_is (r ∷ rest) b p q a u w e f = go (r.block == b) (shown_is rest b p q a u w e f)
  where
    go : (z : Bool) → cond (is_logged rest b) p q ≡ byte_in (view_by (images_of b rest) u w) a → cond (cond z true (is_logged rest b)) p q ≡ byte_in (view_by (cond z (r.before ∷ images_of b rest) (images_of b rest)) u w) a
    go true same = e
    go false same = same

-- a byte of what a hart sees of a block
seen_is : (x : World) → Inv x → (i a : ℕ) → byte_in (seen_by (project (a / 32) x) i) a ≡ flat_view x.flat i a
seen_is x v i a =
    let tx = (x.flat.hart i).tx in
    ap (λ k. byte_in k a) (lay_is (a / 32) tx x.flat.mem v.bytes.mem (v.bytes.within i))
    ∙ byte_back (flat_view x.flat i) a (seen_small tx x.flat.mem (v.bytes.writes i) v.bytes.mem)

module _ (x : World) (v : Inv x) (keys : ℕ) (below : LiesBelow keys x.machine.net) where
  -- memory without running transactions is the flat machine's
  pub committed_is : (b : ℕ) → committed keys x.machine b ≡ words_at x.flat.mem b
  committed_is b =
      ap (all_restored x.machine.setting.count x.machine b) (in_place_is x v keys below b)
      ∙ all_is x b x.machine.setting.count (known_at x v b).cur
      ∙ (known_at x v b).values.peeked

  -- a byte of it
  pub peek_is : (a : ℕ) → peek keys x.machine a ≡ x.flat.mem a
  peek_is a = ap (λ k. byte_in k a) (committed_is (a / 32)) ∙ byte_back x.flat.mem a v.bytes.mem

  -- memory as a hart sees it is what the flat machine's hart sees
  pub view_is : (i a : ℕ) → i < x.machine.setting.count → tx_at (x.machine.harts i).tx ≢ Aborting → view keys x.machine i a ≡ flat_view x.flat i a
  view_is i a o runs =
      let b = a / 32 in
      shown_is (log_of (x.machine.harts i).tx) b (raw keys x.machine a) (peek keys x.machine a) a (known_at x v b).cur (words_at x.flat.mem b)
      (ap (λ k. byte_in k a) (in_place_is x v keys below b))
      (ap (λ k. byte_in k a) (committed_is b))
      ∙ ap (λ k. byte_in k a) ((known_at x v b).values.viewed i o runs)
      ∙ seen_is x v i a

  -- where a hart that isn't being aborted has written, the value in place is what it sees
  pub raw_written : (i a : ℕ) → i < x.machine.setting.count → tx_at (x.machine.harts i).tx ≢ Aborting → has_written (x.flat.hart i).tx (a / 32) ≡ true → raw keys x.machine a ≡ flat_view x.flat i a
  raw_written i a o runs written =
      ap (λ k. byte_in k a) (in_place_is x v keys below (a / 32) ∙ (known_at x v (a / 32)).values.written i o runs written)
      ∙ seen_is x v i a

  -- and where none has, memory's
  pub raw_unwritten : (a : ℕ) → ((i : ℕ) → i < x.machine.setting.count → has_written (x.flat.hart i).tx (a / 32) ≡ false) → raw keys x.machine a ≡ x.flat.mem a
  raw_unwritten a none =
      ap (λ k. byte_in k a) (in_place_is x v keys below (a / 32) ∙ (known_at x v (a / 32)).values.unwritten none)
      ∙ byte_back x.flat.mem a v.bytes.mem

-- a log without an image of a block has no record of it
not_logged : (log : List LogRecord) (b : ℕ) → images_of b log ≡ [] → is_logged log b ≡ false
not_logged [] b e = refl
not_logged (r ∷ rest) b e = go (r.block == b) (not_logged rest b) e
  where
    go : (z : Bool) → (images_of b rest ≡ [] → is_logged rest b ≡ false) → cond z (r.before ∷ images_of b rest) (images_of b rest) ≡ [] → cond z true (is_logged rest b) ≡ false
    go true rest_has e = absurd (cc)
    go false rest_has e = rest_has e

-- a hart whose log has a record of the block is its writer
logs_writer : (log : List LogRecord) (b : ℕ) (cur mem : Block) (w : Option ℕ) (h : ℕ) (o : Own) → o.images ≡ images_of b log → Logs cur mem w h o → is_logged log b ≡ true → is_at w h ≡ true
logs_writer log b cur mem w h o e l f = go o.in_w refl
  where
    go : (z : Bool) → o.in_w ≡ z → is_at w h ≡ true
    go true y = sym l.writer_is ∙ y
    go false y = let n : true ≡ false = sym f ∙ not_logged log b (sym e ∙ (l.none y).0) in absurd (cc)

one_writer : (w : Option ℕ) (i j : ℕ) → is_at w i ≡ true → is_at w j ≡ true → j ≡ i
one_writer w i j e f = grind (arith, eqb-true)

-- no two logs have records of one block
pub logged_by_one : (x : World) → Inv x → (i j b : ℕ) → i < x.machine.setting.count → j < x.machine.setting.count → j ≢ i → is_logged (log_of (x.machine.harts i).tx) b ≡ true → is_logged (log_of (x.machine.harts j).tx) b ≡ false
logged_by_one x v i j b o p ne e = go (is_logged (log_of (x.machine.harts j).tx) b) refl
  where
    writes : (h : ℕ) → h < x.machine.setting.count → is_logged (log_of (x.machine.harts h).tx) b ≡ true → is_at (v.blocks b).writer h ≡ true
    writes h o e = logs_writer (log_of (x.machine.harts h).tx) b (v.blocks b).cur (words_at x.flat.mem b) (v.blocks b).writer h ((project b x).hart h).own refl ((v.blocks b).inv.each h o).logs e

    go : (z : Bool) → is_logged (log_of (x.machine.harts j).tx) b ≡ z → is_logged (log_of (x.machine.harts j).tx) b ≡ false
    go true z = absurd (ne (one_writer (v.blocks b).writer i j (writes i o e) (writes j p z)))
    go false z = z
