-- A change of one way keeps a cache sound.
use Rattle.std.proofs.Common.{◌≡◌, ◌≢◌, ℕ, ◌<◌, false, Option, Some, [], length, get_or, sym, ◌∙◌, inl, inr}
use Rattle.std.proofs.lemmas.Bool.{cases_eq}
use Rattle.cache.specs.declared.line.Line.{Line}
use Rattle.cache.specs.Ways.{holds}
use Rattle.cache.specs.Sets.{Sets, at, with_way, CanStand, IsSound}
use Rattle.cache.proofs.Found.{holds-other}
use Rattle.cache.proofs.OneWay.{at-with_way, at-with_way_beside, at-with_way_elsewhere, length-with_way}

-- no other way of the set holds the block of a line
pub alone-holds : (count size : ℕ) (sets : Sets) (s w v : ℕ) (l : Line) → IsSound count size sets → at sets s w ≡ Some l → v ≢ w → holds l.block (at sets s v) ≡ false
alone-holds count size sets s w v l sound here ne = holds-other l.block (at sets s v) (λ m there. (sound.lines s w l here).alone v m ne there)

-- it stays sound if the new line may stand there
pub IsSound-with_way :
    (count size : ℕ) (sets : Sets) (s w : ℕ) (x : Option Line) →
    IsSound count size sets → s < length sets → w < length (get_or sets s []) →
    ((l : Line) → x ≡ Some l → CanStand count sets s w l) →
    IsSound count size (with_way sets s w x)
IsSound-with_way count size sets s w x sound hs hw can =
    let beside : (u : ℕ) (m : Line) → u ≢ w → at (with_way sets s w x) s u ≡ Some m → at sets s u ≡ Some m =
    λ (u : ℕ) (m : Line) (ne : u ≢ w) (there : at (with_way sets s w x) s u ≡ Some m). sym (at-with_way_beside sets s w u x hs ne) ∙ there in
    let put : (m : Line) → at (with_way sets s w x) s w ≡ Some m → x ≡ Some m =
    λ (m : Line) (there : at (with_way sets s w x) s w ≡ Some m). sym (at-with_way sets s w x hs hw) ∙ there in
    record {
      some_set = sound.some_set;
      some_way = sound.some_way;
      fits = sound.fits;
      full = λ t ht. length-with_way sets s w t x hs ∙ sound.full t ht;
      lines = λ t v l here. elim (cases_eq t s) [
        | inl same_set ↦
            let here_s : at (with_way sets s w x) s v ≡ Some l = rw same_set at here in
            elim (cases_eq v w) [
              | inl same_way ↦
                  let here_w : at (with_way sets s w x) s w ≡ Some l = rw same_way at here_s in
                  let k : CanStand count sets s w l = can l (put l here_w) in
                  record {
                    placed = k.placed ∙ sym same_set;
                    alone = λ u m ne there.
                        let there_s : at (with_way sets s w x) s u ≡ Some m = rw same_set at there in
                        let ne_w : u ≢ w = λ (e : u ≡ w). ne (e ∙ sym same_way) in
                        k.alone u m ne_w (beside u m ne_w there_s);
                    owned = k.owned;
                  }
              | inr other_way ↦
                  let old : at sets s v ≡ Some l = beside v l other_way here_s in
                  let k : CanStand count sets s v l = sound.lines s v l old in
                  record {
                    placed = k.placed ∙ sym same_set;
                    alone = λ u m ne there.
                        let there_s : at (with_way sets s w x) s u ≡ Some m = rw same_set at there in
                        elim (cases_eq u w) [
                          | inl e ↦
                              let there_w : at (with_way sets s w x) s w ≡ Some m = rw e at there_s in
                              λ same_block. (can m (put m there_w)).alone v l other_way old (sym same_block)
                          | inr e ↦ k.alone u m ne (beside u m e there_s)
                        ];
                    owned = k.owned;
                  }
            ]
        | inr other_set ↦
            let k : CanStand count sets t v l = sound.lines t v l (sym (at-with_way_elsewhere sets s w t v x other_set) ∙ here) in
            record {
              placed = k.placed;
              alone = λ u m ne there. k.alone u m ne (sym (at-with_way_elsewhere sets s w t u x other_set) ∙ there);
              owned = k.owned;
            }
      ];
    }
