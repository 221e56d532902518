-- The records of an undo log as the protocol lists them, the newest first.
use Rattle.std.proofs.Common.{◌≡◌, ◌==◌, ◌<◌, ◌++◌, not, nat_le, ◌∙◌, ℕ, List, [], ◌∷◌, Bool, true, false, Some, None, reverse, map, cond, length, refl, sym, ap, arith}
use Rattle.std.proofs.lemmas.List.{reverse-append, map-append, length-reverse, length-map}
use Rattle.std.proofs.lemmas.Option.{same_Some, none-some}
use Rattle.std.proofs.lemmas.Bool.Decides.{nat_tests}
use Rattle.undo_log.specs.Value.{Log}
use Rattle.undo_log.specs.declared.record.Record.{Record}
use Rattle.undo_log.specs.Log.{records}
use Rattle.undo_log.specs.Undo.{holds, restored}
use Rattle.undo_log.proofs.Restoring.{restored-cons}
use Rattle.undo_log.proofs.Listed.{length-records}
use Rattle.transaction.specs.Value.{Transaction}
use Rattle.protocol.specs.Hart.{LogRecord, Transaction as Running, log_of}
use Rattle.protocol.specs.Values as protocol
use Rattle.hart.specs.Shown.{shown_record, shown_log, shown_tx, running}

-- the newest first
abbrev pub newest_first : List Record → List LogRecord
newest_first rs = reverse (map shown_record rs)

pub newest_first-push : (rs : List Record) (r : Record) → newest_first (rs ++ r ∷ []) ≡ shown_record r ∷ newest_first rs
newest_first-push rs r = ap reverse (map-append shown_record rs (r ∷ [])) ∙ reverse-append (map shown_record rs) (shown_record r ∷ [])

newest_first-cons : (r : Record) (rs : List Record) → newest_first (r ∷ rs) ≡ newest_first rs ++ shown_record r ∷ []
newest_first-cons r rs = reverse-append (shown_record r ∷ []) (map shown_record rs)

-- one record more
pub shown_log-more : (old new : Log) (r : Record) → records new ≡ records old ++ r ∷ [] → shown_log new ≡ shown_record r ∷ shown_log old
shown_log-more old new r more = ap newest_first more ∙ newest_first-push (records old) r

restored-append : (xs ys : List LogRecord) (b : ℕ) (words : List ℕ) → protocol.restored (xs ++ ys) b words ≡ protocol.restored ys b (protocol.restored xs b words)
restored-append [] ys b words = refl
restored-append (x ∷ xs) ys b words = restored-append xs ys b (cond (x.block == b) x.before words)

-- undoing them one by one leaves the words of the oldest
pub restored-shown : (rs : List Record) (b : ℕ) (words : List ℕ) → protocol.restored (newest_first rs) b words ≡ restored rs b words
restored-shown [] b words = refl
restored-shown (r ∷ rs) b words =
    ap (λ (xs : List LogRecord). protocol.restored xs b words) (newest_first-cons r rs)
    ∙ restored-append (newest_first rs) (shown_record r ∷ []) b words
    ∙ ap (λ (w : List ℕ). cond (r.block == b) r.before w) (restored-shown rs b words)
    ∙ sym (restored-cons r rs b words)

swapped : (s t u : Bool) → cond s true (cond t true u) ≡ cond t true (cond s true u)
swapped true true u = refl
swapped true false u = refl
swapped false true u = refl
swapped false false u = refl

is_logged-append : (xs : List LogRecord) (y : LogRecord) (b : ℕ) → protocol.is_logged (xs ++ y ∷ []) b ≡ cond (y.block == b) true (protocol.is_logged xs b)
is_logged-append [] y b = refl
is_logged-append (x ∷ xs) y b = ap (cond (x.block == b) true) (is_logged-append xs y b) ∙ swapped (x.block == b) (y.block == b) (protocol.is_logged xs b)

holds-cons : (r : Record) (rs : List Record) (b : ℕ) → holds (r ∷ rs) b ≡ cond (r.block == b) true (holds rs b)
holds-cons r rs b = by_test (r.block == b) refl
  where
    by_test : (t : Bool) → r.block == b ≡ t → holds (r ∷ rs) b ≡ cond t true (holds rs b)
    by_test true is = rw is refl
    by_test false is = rw is refl

pub is_logged-shown : (rs : List Record) (b : ℕ) → protocol.is_logged (newest_first rs) b ≡ holds rs b
is_logged-shown [] b = refl
is_logged-shown (r ∷ rs) b =
    ap (λ (xs : List LogRecord). protocol.is_logged xs b) (newest_first-cons r rs)
    ∙ is_logged-append (newest_first rs) (shown_record r) b
    ∙ ap (cond (r.block == b) true) (is_logged-shown rs b)
    ∙ sym (holds-cons r rs b)

-- an empty log shows no record
pub shown_log-empty : (log : Log) → log.count ≡ 0 → shown_log log ≡ []
shown_log-empty log none = rw none refl

-- the records of the transaction that runs are those of the log: outside a transaction there are none
pub log_of-shown : (tx : Transaction) → (tx.depth ≡ 0 → tx.log.count ≡ 0) → log_of (shown_tx tx) ≡ shown_log tx.log
log_of-shown tx idle = by_depth (tx.depth == 0) refl
  where
    by_depth : (t : Bool) → tx.depth == 0 ≡ t → log_of (cond t None (Some (running tx))) ≡ shown_log tx.log
    by_depth true is = sym (shown_log-empty tx.log (idle (grind (arith, nat_tests))))
    by_depth false is = refl

pub length-shown_log : (log : Log) → length (shown_log log) ≡ log.count
length-shown_log log = length-reverse (map shown_record (records log)) ∙ length-map (records log) shown_record ∙ length-records log

-- a transaction that runs is shown
pub is_running : (tx : Transaction) (t : Running) → 0 < tx.depth → shown_tx tx ≡ Some t → running tx ≡ t
is_running tx t some is = by_depth (tx.depth == 0) refl is
  where
    by_depth : (b : Bool) → tx.depth == 0 ≡ b → cond b None (Some (running tx)) ≡ Some t → running tx ≡ t
    by_depth true e s = absurd (grind (arith, nat_tests))
    by_depth false e s = same_Some (running tx) t s

-- a log is full where no record more fits
pub full-shown : (tx : Transaction) (t : Running) (fits : Bool) → 0 < tx.depth → shown_tx tx ≡ Some t → (fits ≡ true → tx.log.count < 113) → (tx.log.count < 113 → fits ≡ true)
    → nat_le 113 (length t.log) ≡ not fits
full-shown tx t fits some is there back =
    let len : length t.log ≡ tx.log.count = ap (λ (u : Running). length u.log) (sym (is_running tx t some is)) ∙ length-shown_log tx.log in
    ap (nat_le 113) len ∙ by_room fits there back
  where
    by_room : (b : Bool) → (b ≡ true → tx.log.count < 113) → (tx.log.count < 113 → b ≡ true) → nat_le 113 tx.log.count ≡ not b
    by_room true u v = let k : tx.log.count < 113 = u refl in grind (arith, nat_tests)
    by_room false u v = grind (arith, nat_tests)

-- the records that are left when the newest is taken off
pub rest-shown : (old : Transaction) (t : Running) (log : Log) (r : Record) (s : Record) (rest : List LogRecord) → 0 < old.depth → shown_tx old ≡ Some t → t.log ≡ shown_record r ∷ rest
    → shown_log old.log ≡ shown_record s ∷ shown_log log → shown_log log ≡ rest
rest-shown old t log r s rest some is this popped =
    let whole : shown_log old.log ≡ t.log = ap (λ (u : Running). u.log) (is_running old t some is) in
    let both : shown_record s ∷ shown_log log ≡ shown_record r ∷ rest = sym popped ∙ whole ∙ this in
    behind both
  where
    behind : {x y : LogRecord} {xs ys : List LogRecord} → x ∷ xs ≡ y ∷ ys → xs ≡ ys
    behind e = cc

pub runs : (tx : Transaction) → 0 < tx.depth → shown_tx tx ≡ Some (running tx)
runs tx some = by_depth (tx.depth == 0) refl
  where
    by_depth : (b : Bool) → tx.depth == 0 ≡ b → cond b None (Some (running tx)) ≡ Some (running tx)
    by_depth true e = absurd (grind (arith, nat_tests))
    by_depth false e = refl

pub shown-running : (tx : Transaction) (t : Running) → shown_tx tx ≡ Some t → running tx ≡ t
shown-running tx t is = by_depth (tx.depth == 0) is
  where
    by_depth : (b : Bool) → cond b None (Some (running tx)) ≡ Some t → running tx ≡ t
    by_depth true s = absurd (none-some t s)
    by_depth false s = same_Some (running tx) t s

-- none runs outside
pub rests : (tx : Transaction) → tx.depth ≡ 0 → shown_tx tx ≡ None
rests tx outside = rw outside refl
