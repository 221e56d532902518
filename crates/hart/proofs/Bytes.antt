-- The bytes of a log, over what is done with a transaction.
use Rattle.std.proofs.Common.{◌≡◌, ◌≤◌, ◌<◌, ◌+◌, ◌-◌, ◌*◌, ◌++◌, ◌∙◌, ℕ, List, [], ◌∷◌, length, take, drop, reverse, Result, Ok, Err, arith, refl, sym, ap, subst}
use Rattle.std.proofs.lemmas.List.{take-append-drop, append-nil}
use Rattle.std.specs.Prelude.{OnOk, OnErr}
use Rattle.std.specs.List.{flat_map}
use Rattle.undo_log.specs.Bytes.{overwritten}
use Rattle.undo_log.specs.declared.record.Record.{Record}
use Rattle.undo_log.specs.Log.{records, appended}
use Rattle.transaction.specs.Value.{Transaction}
use Rattle.protocol.specs.Hart.{LogRecord, log_of}
use Rattle.hart.specs.Parts.{IsKept}
use Rattle.hart.specs.Shown.{shown_tx, shown_log, shown_record}
use Rattle.hart.specs.Staying.{bytes_of, with_newer, KeepsLog, AreLoggedAlike}
use Rattle.hart.proofs.Logs.{log_of-shown, length-shown_log, shown_log-more, runs}

nothing : (rs : List LogRecord) → take 0 rs ≡ []
nothing [] = refl
nothing (r ∷ rs) = refl

-- where none is newer the bytes stay
pub none_newer : (bytes : List ℕ) (many : ℕ) (rs : List LogRecord) → length rs ≤ many → with_newer bytes many rs ≡ bytes
none_newer bytes many rs few =
    let none : length rs - many ≡ 0 = omega (arith, few) in
    let whole : 36 * many + 0 ≡ 36 * many = omega arith in
    ap (λ k. overwritten bytes (36 * many) (flat_map bytes_of (reverse (take k rs)))) none
    ∙ ap (λ xs. overwritten bytes (36 * many) (flat_map bytes_of (reverse xs))) (nothing rs)
    ∙ ap (λ xs. xs ++ drop (36 * many + 0) bytes) (append-nil (take (36 * many) bytes))
    ∙ ap (λ k. take (36 * many) bytes ++ drop k bytes) whole
    ∙ take-append-drop (36 * many) bytes

-- where one is, its bytes are written
pub one_newer : (bytes : List ℕ) (many : ℕ) (r : LogRecord) (rs : List LogRecord) → length rs ≡ many → with_newer bytes many (r ∷ rs) ≡ overwritten bytes (36 * many) (bytes_of r)
one_newer bytes many r rs long =
    let one : length (r ∷ rs) - many ≡ 1 = omega (arith, long) in
    ap (λ k. overwritten bytes (36 * many) (flat_map bytes_of (reverse (take k (r ∷ rs))))) one
    ∙ ap (λ xs. overwritten bytes (36 * many) (flat_map bytes_of (reverse (r ∷ xs)))) (nothing rs)
    ∙ ap (overwritten bytes (36 * many)) (append-nil (bytes_of r))

-- a transaction's records are its log's
listed : (tx : Transaction) → IsKept tx → log_of (shown_tx tx) ≡ shown_log tx.log
listed tx kept = log_of-shown tx (λ outside. (kept.idle outside).log)

many : (tx : Transaction) → IsKept tx → length (log_of (shown_tx tx)) ≡ tx.log.count
many tx kept = ap length (listed tx kept) ∙ length-shown_log tx.log

-- the pointer stays or moves back
pub kept_bytes : (old new : Transaction) → IsKept old → IsKept new → new.log.base ≡ old.log.base → new.log.bytes ≡ old.log.bytes → new.log.count ≤ old.log.count → KeepsLog old new
kept_bytes old new was is base bytes fewer = record {
  base = base;
  bytes = bytes ∙ sym (none_newer old.log.bytes (length (log_of (shown_tx old))) (log_of (shown_tx new)) (omega (arith, many old was, many new is, fewer)));
}

-- nothing happens to the transaction
pub untouched : (old new : Transaction) → new ≡ old → KeepsLog old new
untouched old new same = subst (KeepsLog old) (sym same) (record {
  base = refl;
  bytes = sym (none_newer old.log.bytes (length (log_of (shown_tx old))) (log_of (shown_tx old)) (omega arith));
})

-- a record is appended, in a transaction that runs
pub appended_bytes : (old new : Transaction) (r : Record) → 0 < old.depth → new ≡ record old { log = appended old.log r } → records new.log ≡ records old.log ++ r ∷ [] → KeepsLog old new
appended_bytes old new r some put more =
    let rs : List LogRecord = log_of (shown_tx old) in
    let was : rs ≡ shown_log old.log = ap log_of (runs old some) in
    let is : log_of (shown_tx new) ≡ shown_log new.log = ap log_of (runs new (subst (λ (tx : Transaction). 0 < tx.depth) (sym put) some)) in
    let one_more : log_of (shown_tx new) ≡ shown_record r ∷ rs = is ∙ (shown_log-more old.log new.log r more ∙ ap (λ xs. shown_record r ∷ xs) (sym was)) in
    let long : length rs ≡ old.log.count = ap length was ∙ length-shown_log old.log in
    record {
      base = ap (λ (tx : Transaction). tx.log.base) put;
      bytes = ap (λ (tx : Transaction). tx.log.bytes) put
          ∙ (ap (λ n. overwritten old.log.bytes (36 * n) (bytes_of (shown_record r))) (sym long)
          ∙ (sym (one_newer old.log.bytes (length rs) (shown_record r) rs refl)
          ∙ ap (with_newer old.log.bytes (length rs)) (sym one_more)));
    }

-- or isn't, for want of room
pub appended_if : {E : Type 0} (old new : Transaction) (r : Record) (put : Result Unit E) → 0 < old.depth → OnOk put (new ≡ record old { log = appended old.log r })
    → OnOk put (records new.log ≡ records old.log ++ r ∷ []) → OnErr put (new ≡ old) → KeepsLog old new
appended_if old new r (Ok done) some put more none = appended_bytes old new r some put more
appended_if old new r (Err full) some put more none = untouched old new none

-- logs with the same bytes have the same behind a step that leaves the same records in both
pub logged_alike_on : (v w a b : Transaction) → AreLoggedAlike v.log w.log → KeepsLog v a → KeepsLog w b → shown_tx v ≡ shown_tx w → shown_tx a ≡ shown_tx b → AreLoggedAlike a.log b.log
logged_alike_on v w a b alike one other before after = record {
  base = one.base ∙ (alike.base ∙ sym other.base);
  bytes = one.bytes ∙ ((λ k. with_newer (alike.bytes k) (length (log_of (before k))) (log_of (after k))) ∙ sym other.bytes);
}
