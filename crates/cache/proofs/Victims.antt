-- What is looked up, and what a victim is.
use Rattle.std.proofs.Common.{◌≡◌, ℕ, ◌<◌, ◌%◌, Bool, true, false, IsTrue, IfSome, is_some, unwrap_or, cond, Option, Some, None, List, [], length, get_or, refl, sym, arith, position, inl, inr}
use Rattle.std.specs.List.{position_or_len}
use Rattle.std.proofs.lemmas.Bool.{cases_lt, lt-ltb, le-ltb}
use Rattle.cache.specs.declared.line.Line.{Line}
use Rattle.words.specs.declared.message.LineState.{LineState}
use Rattle.words.specs.declared.message.LineState.TheVariants.{Shared, Exclusive, Modified}
use Rattle.cache.specs.declared.ways.Victim.TheVariants.{Free}
use Rattle.cache.specs.Ways.{is_free, is_unmarked, put_out}
use Rattle.cache.specs.Line.{put_out_by}
use Rattle.cache.specs.Sets.{Sets, HasRoom, at, line_at, IsSound, GoesFor, IsInSet, victim_at}
use Rattle.cache.proofs.Found.{IsFound, is_found, line_in-at, holds-own, some-position}
use Rattle.cache.proofs.Sound.{alone-holds}

-- a line that is looked up is of the block
pub looked_block : (count size : ℕ) (sets : Sets) (b : ℕ) (o : Option Line) → IsSound count size sets → o ≡ line_at count sets b → IfSome o (λ l. l.block ≡ b)
unfolding line_at
looked_block count size sets b None sound is = tt
looked_block count size sets b (Some l) sound is = (is_found b (get_or sets (b % count) []) l (sym is)).of_block

-- and marked as written only if it is modified
pub looked_owned : (count size : ℕ) (sets : Sets) (b : ℕ) (o : Option Line) → IsSound count size sets → o ≡ line_at count sets b → IfSome o (λ l. IsTrue l.marks.written → l.state ≡ Modified)
unfolding line_at
looked_owned count size sets b None sound is = tt
looked_owned count size sets b (Some l) sound is =
    let found : IsFound b (get_or sets (b % count) []) l = is_found b (get_or sets (b % count) []) l (sym is) in
    (sound.lines (b % count) found.way l found.here).owned

-- a line that stands in a way is the one that is found
pub line_at-here : (count size : ℕ) (sets : Sets) (s w : ℕ) (l : Line) → IsSound count size sets → w < length (get_or sets s []) → at sets s w ≡ Some l → line_at count sets l.block ≡ Some l
unfolding line_at
line_at-here count size sets s w l sound hw here =
    rw ((sound.lines s w l here).placed) (line_in-at l.block (get_or sets s []) w l hw here (holds-own l) (λ v h. alone-holds count size sets s w v l sound here (omega arith)))

-- where no way is free, each way has a line
pub none-free : (ways : List (Option Line)) (w : ℕ) → is_some (position is_free ways) ≡ false → w < length ways → get_or ways w None ≡ None → ⊥
none-free ways w e hw none =
    let free : is_free (get_or ways w None) ≡ true = rw none refl in
    let room : is_some (position is_free ways) ≡ true = some-position is_free ways w hw free in cc

-- the first way that passes, or way 0, is a way
pub unwrap_or-inside : (p : Option Line → Bool) (ways : List (Option Line)) → 0 < length ways → unwrap_or (position p ways) 0 < length ways
unwrap_or-inside p ways some =
    elim (cases_lt (position_or_len p ways) (length ways)) [
      | inl k ↦ rw (lt-ltb (position_or_len p ways) (length ways) k) k
      | inr k ↦ rw (le-ltb (position_or_len p ways) (length ways) k) some
    ]

-- a line of the set goes as its state says
goes-put_out_by : (count : ℕ) (sets : Sets) (b : ℕ) (state : LineState) (l : Line) → l.state ≡ state → IsInSet count sets b l → GoesFor count sets b (put_out_by state l)
goes-put_out_by count sets b Shared l is h = (h, is)
goes-put_out_by count sets b Exclusive l is h = (h, λ e. cc)
goes-put_out_by count sets b Modified l is h = (h, λ e. cc)

goes-put_out : (count : ℕ) (sets : Sets) (b : ℕ) (way : Option Line) → (way ≡ None → ⊥) → ((l : Line) → way ≡ Some l → IsInSet count sets b l) → GoesFor count sets b (put_out way)
goes-put_out count sets b None ne f = absurd (ne refl)
goes-put_out count sets b (Some l) ne f = goes-put_out_by count sets b l.state l refl (f l refl)

goes-by : (count size : ℕ) (sets : Sets) (b : ℕ) (room : Bool) → is_some (position is_free (get_or sets (b % count) [])) ≡ room → IsSound count size sets → 0 < length (get_or sets (b % count) []) → GoesFor count sets b (cond room Free (put_out (get_or (get_or sets (b % count) []) (unwrap_or (position is_unmarked (get_or sets (b % count) [])) 0) None)))
unfolding HasRoom
goes-by count size sets b true e sound some = e
goes-by count size sets b false e sound some =
    let w : ℕ = unwrap_or (position is_unmarked (get_or sets (b % count) [])) 0 in
    let hw : w < length (get_or sets (b % count) []) = unwrap_or-inside is_unmarked (get_or sets (b % count) []) some in
    goes-put_out count sets b (at sets (b % count) w) (none-free (get_or sets (b % count) []) w e hw) (λ l here. record {
      here = line_at-here count size sets (b % count) w l sound hw here;
      same_set = (sound.lines (b % count) w l here).placed;
    })

-- the victim is a line of the block's set, or there is room
pub goes : (count size : ℕ) (sets : Sets) (b : ℕ) → IsSound count size sets → GoesFor count sets b (victim_at count sets b)
unfolding victim_at
goes count size sets b sound =
    let pos : 0 < count = sound.some_set in
    let way : 0 < size = sound.some_way in
    let len : length (get_or sets (b % count) []) ≡ size = sound.full (b % count) (omega arith) in
    goes-by count size sets b (is_some (position is_free (get_or sets (b % count) []))) refl sound (omega arith)
