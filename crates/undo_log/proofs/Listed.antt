-- The list of a log's records: one more, one less, and the search for the oldest of a block.
use Rattle.std.proofs.Common.{◌≡◌, ◌+◌, ◌-◌, ◌*◌, ◌<◌, ◌≤◌, ◌++◌, ◌==◌, ◌∙◌, ℕ, List, [], ◌∷◌, Bool, true, false, Option, Some, None, cond, length, map, drop, sym, ap, arith}
use Rattle.std.specs.List.{range_with_len}
use Rattle.std.specs.Option.{option_or}
use Rattle.std.proofs.lemmas.List.{take-append-drop}
use Rattle.std.proofs.lemmas.List.Folds.{find-append}
use Rattle.std.proofs.lemmas.List.FromFn.{fill_by_all, length-map-range_with_len, get_or-map-range_with_len, map-range_with_len_more, take-map-range_with_len}
use Rattle.undo_log.specs.declared.record.Record.{Record}
use Rattle.undo_log.specs.Value.{Log}
use Rattle.undo_log.specs.Bytes.{record_bytes, record_at, overwritten}
use Rattle.undo_log.specs.Log.{records, appended, popped, newest_of}
use Rattle.undo_log.specs.Undo.{oldest}
use Rattle.undo_log.proofs.Words.{IsRecord, record_at-overwritten, record_at-kept}

-- as many records as the count says
pub length-records : (log : Log) → length (records log) ≡ log.count
length-records log = length-map-range_with_len (λ k. record_at log.bytes (36 * k)) 0 log.count

-- the first m records that some bytes say
abbrev pub first_records : List ℕ → ℕ → List Record
first_records bytes m = map (λ k. record_at bytes (36 * k)) (range_with_len 0 m)

-- one record more
pub first_records-more : (bytes : List ℕ) (m : ℕ) → first_records bytes (m + 1) ≡ first_records bytes m ++ record_at bytes (36 * m) ∷ []
first_records-more bytes m = map-range_with_len_more (λ k. record_at bytes (36 * k)) 0 m m (omega arith)

-- the newest record stands after the others
pub records-popped : (log : Log) → 0 < log.count → records log ≡ records (popped log) ++ newest_of log ∷ []
records-popped log some =
    let step : log.count ≡ log.count - 1 + 1 = omega arith in
    ap (first_records log.bytes) step ∙ first_records-more log.bytes (log.count - 1)

-- a write at the pointer leaves the records below it
first_records-kept : (bytes others : List ℕ) (m : ℕ) → 36 * m ≤ length bytes → first_records (overwritten bytes (36 * m) others) m ≡ first_records bytes m
first_records-kept bytes others m inside =
    let new : ℕ → Record = λ k. record_at (overwritten bytes (36 * m) others) (36 * k) in
    let old : ℕ → Record = λ k. record_at bytes (36 * k) in
    let blank : Record = record { block = 0; before = [] } in
    fill_by_all old (map new (range_with_len 0 m)) m blank (length-map-range_with_len new 0 m)
    (λ k lt. get_or-map-range_with_len new 0 m k k blank lt (omega arith) ∙ record_at-kept bytes others (36 * m) (36 * k) inside (omega arith))

-- a record that is appended stands after the others
pub records-appended : (log : Log) (r : Record) → 36 * log.count ≤ length log.bytes → IsRecord r → records (appended log r) ≡ records log ++ r ∷ []
records-appended log r inside is =
    first_records-more (overwritten log.bytes (36 * log.count) (record_bytes r)) log.count
    ∙ (λ j. first_records-kept log.bytes (record_bytes r) log.count inside j ++ record_at-overwritten log.bytes (36 * log.count) r inside is j ∷ [])

-- a record of another block is passed over
pub oldest-passed : (bytes : List ℕ) (m b : ℕ) → oldest (first_records bytes m) b ≡ None → (record_at bytes (36 * m)).block == b ≡ false → oldest (first_records bytes (m + 1)) b ≡ None
oldest-passed bytes m b none other =
    ap (λ (rs : List Record). oldest rs b) (first_records-more bytes m)
    ∙ find-append (λ (r : Record). r.block == b) (first_records bytes m) (record_at bytes (36 * m) ∷ [])
    ∙ ap (λ (o : Option Record). option_or o (oldest (record_at bytes (36 * m) ∷ []) b)) none
    ∙ ap (λ (t : Bool). cond t (Some (record_at bytes (36 * m))) None) other

-- the first record of the block is the oldest
pub oldest-found : (bytes : List ℕ) (m n b : ℕ) → m < n → oldest (first_records bytes m) b ≡ None → (record_at bytes (36 * m)).block == b ≡ true → oldest (first_records bytes n) b ≡ Some (record_at bytes (36 * m))
oldest-found bytes m n b below none here =
    let p : Record → Bool = λ r. r.block == b in
    let r : Record = record_at bytes (36 * m) in
    let rest : List Record = drop (m + 1) (first_records bytes n) in
    let upto : oldest (first_records bytes (m + 1)) b ≡ Some r =
    ap (λ (rs : List Record). oldest rs b) (first_records-more bytes m)
    ∙ find-append p (first_records bytes m) (r ∷ [])
    ∙ ap (λ (o : Option Record). option_or o (oldest (r ∷ []) b)) none
    ∙ ap (λ (t : Bool). cond t (Some r) None) here in
    ap (λ (rs : List Record). oldest rs b) (sym (take-append-drop (m + 1) (first_records bytes n)))
    ∙ ap (λ (rs : List Record). oldest (rs ++ rest) b) (take-map-range_with_len (λ k. record_at bytes (36 * k)) 0 n (m + 1) (omega arith))
    ∙ find-append p (first_records bytes (m + 1)) rest
    ∙ ap (λ (o : Option Record). option_or o (oldest rest b)) upto

-- how a log's records go with its pointer
pub ruleset counted = (length-records, records-popped)
