-- What is read of machines that no step tells apart is the same.
use Rattle.std.proofs.Common.{◌≡◌, ◌-◌, ◌++◌, ◌∙◌, ℕ, Bool, cond, Option, Some, None, List, [], ◌∷◌, get_or, length, map, arith, refl, sym, ap}
use Rattle.std.specs.Prelude.{slice_get}
use Rattle.std.specs.List.{flat_map}
use Rattle.std.specs.Option.{option_map}
use Rattle.std.proofs.lemmas.List.{length-map}
use Rattle.std.proofs.lemmas.Option.{slice_get_within}
use Rattle.words.specs.declared.entry.Step.{Step}
use Rattle.undo_log.specs.Bytes.{word_at}
use Rattle.flat.specs.State.{Setting}
use Rattle.cache.specs.declared.line.Line.{Line}
use Rattle.protocol.specs.Caches.{Geometry}
use Rattle.protocol.specs.Directory.{DirEntry}
use Rattle.protocol.specs.Machine.{Machine}
use Rattle.protocol.specs.Values.{raw, peek, view}
use Rattle.network.proofs.OneOrder.{past}
use Rattle.directory.specs.declared.entry.DirEntry.{DirEntry as CodedEntry}
use Rattle.directory.specs.Entries.{shown_entry}
use Rattle.machine.specs.Reads.{is_in_logs, hart_of_log, logged_word, log_word}
use Rattle.machine.specs.States.{Seat, State, setting_of, shown}
use Rattle.machine.specs.Twins.{AreTwins}
use Rattle.machine.specs.Watch.{applies, IsEnabledByRule}
use Rattle.machine.proofs.Places.{none_past}
use Rattle.machine.proofs.Twins.{victims_are}

-- an entry with its block
abbrev told : ℕ × CodedEntry → ℕ × DirEntry
told e = (e.0, shown_entry e.1)

by_entry : {A : Type 0} (f : ℕ × DirEntry → List A) (es : List (ℕ × CodedEntry)) → flat_map (λ e. f (told e)) es ≡ flat_map f (map told es)
by_entry f [] = refl
by_entry f (e ∷ es) = ap (λ rest. f (told e) ++ rest) (by_entry f es)

module _ (g : Geometry) (v w : State) (twins : AreTwins g v w) where
  -- the one is the other's twin
  pub twins_back : AreTwins g w v
  twins_back = record {
    machine = sym twins.machine;
    flights = sym twins.flights;
    sent = sym twins.sent;
    kept = sym twins.kept;
    caches = λ i s t at is.
        let alike = twins.caches i t s is at in
        record {
          laid = λ set way line here.
              let stands = alike.laid set way line (ap (λ (ways : List (Option Line)). get_or ways way None) (alike.ways set) ∙ here) in
              record { placed = stands.placed; alone = λ other beside apart there. stands.alone other beside apart (ap (λ (ways : List (Option Line)). get_or ways other None) (alike.ways set) ∙ there) };
          ways = λ set. sym (alike.ways set);
        };
    logs = λ i s t at is. let alike = twins.logs i t s is at in record { base = sym alike.base; bytes = sym alike.bytes };
  }

  -- the directory's entries
  pub as_many_kept : length v.directory.kept ≡ length w.directory.kept
  as_many_kept = sym (length-map v.directory.kept told) ∙ (ap (λ (es : List (ℕ × DirEntry)). length es) twins.kept ∙ length-map w.directory.kept told)

  pub each_kept : {A : Type 0} (f : ℕ × DirEntry → List A) → flat_map (λ e. f (e.0, shown_entry e.1)) v.directory.kept ≡ flat_map (λ e. f (e.0, shown_entry e.1)) w.directory.kept
  each_kept f = by_entry f v.directory.kept ∙ (ap (flat_map f) twins.kept ∙ sym (by_entry f w.directory.kept))

  -- the same steps are enabled
  pub enabled_once : (step : Step) (a b : Bool) → IsEnabledByRule g v step a → IsEnabledByRule g w step b → a ≡ b
  enabled_once step a b one other = one.1 ∙ ((λ k. applies (victims_are g v w twins step k) step (twins.machine k)) ∙ sym other.1)

  -- the same words of the undo logs
  words_are : (a i : ℕ) (o p : Option Seat) → slice_get v.seats i ≡ o → slice_get w.seats i ≡ p → option_map (logged_word a) o ≡ option_map (logged_word a) p
  words_are a i None None at is = refl
  words_are a i None (Some t) at is =
      let count : length v.seats ≡ length w.seats = ap (λ (m : Machine). m.setting.count) twins.machine in
      absurd (omega (arith, none_past v.seats i at, slice_get_within w.seats i t is, count))
  words_are a i (Some s) None at is =
      let count : length v.seats ≡ length w.seats = ap (λ (m : Machine). m.setting.count) twins.machine in
      absurd (omega (arith, none_past w.seats i is, slice_get_within v.seats i s at, count))
  words_are a i (Some s) (Some t) at is =
      let alike = twins.logs i s t at is in
      λ k. Some (word_at (alike.bytes k) (a - alike.base k))

  pub log_word_is : (a : ℕ) → log_word v a ≡ log_word w a
  log_word_is a =
      let setting : setting_of v ≡ setting_of w = ap (λ (m : Machine). m.setting) twins.machine in
      let i : ℕ = hart_of_log (setting_of v) a in
      let words : option_map (logged_word a) (slice_get v.seats i) ≡ option_map (logged_word a) (slice_get w.seats (hart_of_log (setting_of w) a)) =
      words_are a i (slice_get v.seats i) (slice_get w.seats i) refl refl ∙ ap (λ (s : Setting). option_map (logged_word a) (slice_get w.seats (hart_of_log s a))) setting in
      λ k. cond (is_in_logs (setting k) a) (words k) None

  -- bytes, by a number above those of all messages
  pub raw_is : raw (past v.flights) (shown g.sets v) ≡ raw (past w.flights) (shown g.sets w)
  raw_is = λ k. raw (past (twins.flights k)) (twins.machine k)

  pub peek_is : peek (past v.flights) (shown g.sets v) ≡ peek (past w.flights) (shown g.sets w)
  peek_is = λ k. peek (past (twins.flights k)) (twins.machine k)

  pub view_is : (i : ℕ) → view (past v.flights) (shown g.sets v) i ≡ view (past w.flights) (shown g.sets w) i
  view_is i = λ k. view (past (twins.flights k)) (twins.machine k) i
