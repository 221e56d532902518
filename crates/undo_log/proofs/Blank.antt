-- The bytes that were never written, which are all 0.
use Rattle.std.proofs.Common.{◌≡◌, ◌+◌, ◌-◌, ◌*◌, ◌≤◌, ◌++◌, ◌∙◌, ℕ, max, List, length, take, drop, sym, ap, arith, Decides}
use Rattle.std.specs.Str.{bytes_eq}
use Rattle.std.proofs.Math.ListN.{replicate}
use Rattle.std.proofs.lemmas.List.{length-take-le, length-drop, take-append-drop, take_at, drop_at, drop-drop, drop-replicate, replicate-append-replicate}
use Rattle.std.proofs.lemmas.Slice.{drop-put_mid}
use borrow.Rule.Slice.PartMut.{put_mid, mid_of}
use Rattle.std.proofs.lemmas.Slice.Eq.{bytes_eq-Decides}
use Rattle.words.specs.Limits.{log_bytes}
use Rattle.undo_log.specs.Value.{Log, IsBlankFrom, IsSound}

-- a place above another, from there
over : (n m : ℕ) → n ≤ m → m ≡ n + (m - n)
over n m le = omega arith

-- how many are left above both
left : (size n m : ℕ) → n ≤ m → size - n - (m - n) ≡ size - m
left size n m le = omega arith

-- how many are left above the lower one
between : (size n m : ℕ) → n ≤ m → m ≤ size → m - n + (size - m) ≡ size - n
between size n m le most = omega arith

-- what is blank from a place on is blank from each place above
pub blank-above : (bytes : List ℕ) (n m : ℕ) → n ≤ m → IsBlankFrom n bytes → IsBlankFrom m bytes
blank-above bytes n m le blank =
    ap (λ (k : ℕ). drop k bytes) (over n m le)
    ∙ sym (drop-drop (m - n) n bytes)
    ∙ ap (drop (m - n)) blank
    ∙ drop-replicate (m - n) (log_bytes - n) 0
    ∙ ap (λ (k : ℕ). replicate k 0) (left log_bytes n m le)

-- bytes that are the same up to where both are blank are the same
pub same-bytes : (a b : List ℕ) (n : ℕ) → IsBlankFrom n a → IsBlankFrom n b → take n a ≡ take n b → a ≡ b
same-bytes a b n blank other front =
    sym (take-append-drop n a)
    ∙ (λ j. front j ++ (blank ∙ sym other) j)
    ∙ take-append-drop n b

-- logs that agree in all but their bytes are the same if these are, up to where both are blank
pub decides_bytes : (a b : Log) → IsSound a.bytes a.count a.used → IsSound b.bytes b.count b.used → a.base ≡ b.base → a.count ≡ b.count → a.used ≡ b.used →
    Decides (bytes_eq (take (36 * a.used) a.bytes) (take (36 * a.used) b.bytes)) (a ≡ b)
decides_bytes a b sound other base count used =
    let decides : Decides (bytes_eq (take (36 * a.used) a.bytes) (take (36 * a.used) b.bytes)) (take (36 * a.used) a.bytes ≡ take (36 * a.used) b.bytes) = bytes_eq-Decides _ _ in
    let blank : IsBlankFrom (36 * a.used) b.bytes = rw used other.blank in (
      λ h. let bytes : a.bytes ≡ b.bytes = same-bytes a.bytes b.bytes (36 * a.used) sound.blank blank (decides.0 h) in
          λ j. record { base = base j; bytes = bytes j; count = count j; used = used j },
      λ e. decides.1 (ap (λ (log : Log). take (36 * a.used) log.bytes) e),
    )

-- a write up to a place leaves what is blank above it
pub blank-written : (bytes ys : List ℕ) (at size n m : ℕ) → at ≤ length bytes → at + size ≤ m → n ≤ m → length ys ≡ size → IsBlankFrom n bytes → IsBlankFrom m (put_mid at size bytes ys)
blank-written bytes ys at size n m inside below above long blank = drop-put_mid at size bytes ys m below inside long ∙ blank-above bytes n m above blank

-- what stands after the first n bytes, once these are others
past : (a front : List ℕ) (n : ℕ) → length front ≡ n → drop n (front ++ drop n a) ≡ drop n a
past a front n long = drop_at front (drop n a) n long

-- how many bytes are filled
filled : (a front : List ℕ) (n m : ℕ) → n ≤ m → m ≤ log_bytes → length a ≡ log_bytes → length front ≡ n → length (mid_of n (m - n) (front ++ drop n a)) ≡ m - n
filled a front n m le most size long =
    let enough : m - n ≤ length (drop n a) = omega (arith, length-drop n a) in
    ap (λ (xs : List ℕ). length (take (m - n) xs)) (past a front n long) ∙ length-take-le (m - n) (drop n a) enough

-- the first bytes of others, then 0s, and the last bytes of some: the others, if they are blank where the 0s begin, and the last bytes are
assigned-from : (a b front zeros : List ℕ) (n m : ℕ) → n ≤ m → m ≤ log_bytes → length a ≡ log_bytes → length front ≡ n → front ≡ take n b →
    zeros ≡ replicate (length (mid_of n (m - n) (front ++ drop n a))) 0 → IsBlankFrom m a → IsBlankFrom n b → put_mid n (m - n) (front ++ drop n a) zeros ≡ b
assigned-from a b front zeros n m le most size long is clear blank other =
    let zero : zeros ≡ replicate (m - n) 0 = clear ∙ ap (λ (k : ℕ). replicate k 0) (filled a front n m le most size long) in
    let last : drop (m - n) (drop n (front ++ drop n a)) ≡ replicate (log_bytes - m) 0 =
    ap (drop (m - n)) (past a front n long) ∙ drop-drop (m - n) n a ∙ sym (ap (λ (k : ℕ). drop k a) (over n m le)) ∙ blank in
    (λ j. (take_at front (drop n a) n long ∙ is) j ++ (zero j ++ last j))
    ∙ ap (λ (xs : List ℕ). take n b ++ xs)
    (replicate-append-replicate (m - n) (log_bytes - m) 0 ∙ ap (λ (k : ℕ). replicate k 0) (between log_bytes n m le most) ∙ sym other)
    ∙ take-append-drop n b

-- the bytes of a log become those of another: front is what was copied, and zeros is what was filled up to the most that either ever held
pub assigned : (a b : Log) (front zeros : List ℕ) (most : ℕ) → IsSound a.bytes a.count a.used → IsSound b.bytes b.count b.used → most ≡ max a.used b.used →
    length a.bytes ≡ log_bytes → front ≡ take (36 * b.used) b.bytes → length front ≡ length (take (36 * b.used) a.bytes) →
    zeros ≡ replicate (length (mid_of (36 * b.used) (36 * most - 36 * b.used) (front ++ drop (36 * b.used) a.bytes))) 0 →
    put_mid (36 * b.used) (36 * most - 36 * b.used) (front ++ drop (36 * b.used) a.bytes) zeros ≡ b.bytes
assigned a b front zeros most sound other is size copied long clear =
    let limit : a.used ≤ 113 = sound.most in
    let other_limit : b.used ≤ 113 = other.most in
    let fits : 36 * b.used ≤ length a.bytes = omega arith in
    assigned-from a.bytes b.bytes front zeros (36 * b.used) (36 * most) (omega arith) (omega arith) size (long ∙ length-take-le (36 * b.used) a.bytes fits) copied clear
    (blank-above a.bytes (36 * a.used) (36 * most) (omega arith) sound.blank)
    other.blank
