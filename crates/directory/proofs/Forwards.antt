-- Lists of forwards that grow by one hart.
use Rattle.std.proofs.Common.{◌≡◌, ◌≢◌, ℕ, ◌+◌, ◌-◌, ◌<◌, ◌≤◌, zero, suc, ◌&&◌, Bool, true, false, nat_lt, Option, List, [], ◌∷◌, ◌++◌, refl, sym, ap, ◌∙◌, append_assoc, append-nil, add-one, arith}
use Rattle.std.proofs.lemmas.Bool.{and_parts, ltb-true}
use Rattle.std.proofs.lemmas.Bool.Decides.{nat_tests}
use Rattle.std.proofs.lemmas.List.{map-append}
use Rattle.words.specs.Harts.{names, IsNext}
use Rattle.words.specs.declared.stamp.Stamp.{Stamp}
use Rattle.words.specs.declared.message.Kind.{Kind}
use Rattle.arrayvec.specs.ArrayVec.{ArrayVec}
use Rattle.protocol.specs.Messages.{Message, shown, Forward}
use Rattle.protocol.specs.Directory.{forwards}
use Rattle.directory.specs.declared.received.Outgoing.{Outgoing}
use Rattle.directory.specs.Sends.{messages_of}

-- one more message at the end
pub messages_of-push : (old new : ArrayVec Outgoing) (x : Outgoing) (m : Message) → shown x.message ≡ m → new.items ≡ old.items ++ x ∷ [] → messages_of new ≡ messages_of old ++ m ∷ []
messages_of-push old new x m e items = rw (items, ← e) (map-append (λ (sent : Outgoing). shown sent.message) old.items (x ∷ []))

-- the harts below n that are expected
module _ (expect : ℕ → Bool) (n asked : ℕ) (first : (h : ℕ) → names asked h ≡ expect h && nat_lt h n) where
  pub asked-named : (h : ℕ) → names asked h ≡ true → expect h ≡ true
  asked-named h is = (and_parts (expect h) (nat_lt h n) (sym (first h) ∙ is)).0

  pub asked-below : (h : ℕ) → names asked h ≡ true → h < n
  asked-below h is = ltb-true h n ((and_parts (expect h) (nat_lt h n) (sym (first h) ∙ is)).1)

  asked-none : (h : ℕ) → h < n → names asked h ≡ false → expect h ≡ false
  asked-none h low is = grind (arith, nat_tests, first h)

module _ (expect : ℕ → Bool) (b : ℕ) (kind : Kind) (r : ℕ) (stamp : Option Stamp) where
  -- with one for hart n
  pub forwards-more : (n : ℕ) (start before : List Message) → expect n ≡ true → before ≡ start ++ forwards n expect b kind r stamp → before ++ Forward n b kind r stamp ∷ [] ≡ start ++ forwards (n + 1) expect b kind r stamp
  forwards-more n start before e h = rw (h, add-one n, e) (append_assoc start (forwards n expect b kind r stamp) (Forward n b kind r stamp ∷ []))

  skip : (d m n : ℕ) → n ≡ d + m → ((h : ℕ) → m ≤ h → h < n → expect h ≡ false) → forwards n expect b kind r stamp ≡ forwards m expect b kind r stamp
  skip zero m n is none = let same : n ≡ m = omega arith in rw same refl
  skip (suc d) m n is none =
      let last : n ≡ suc (d + m) = omega arith in
      rw (last, none (d + m) (omega arith) (omega arith)) (append-nil (forwards (d + m) expect b kind r stamp) ∙ skip d m (d + m) refl (λ h from below. none h from (omega arith)))

  -- with none for the harts from m up to n
  forwards-skip : (m n : ℕ) → m ≤ n → ((h : ℕ) → m ≤ h → h < n → expect h ≡ false) → forwards n expect b kind r stamp ≡ forwards m expect b kind r stamp
  forwards-skip m n order = skip (n - m) m n (omega arith)

  -- the harts below n that are expected, in turn
  module _ (n asked : ℕ) (first : (h : ℕ) → names asked h ≡ expect h && nat_lt h n) where
    -- nobody is forwarded to between one and the next
    pub forwards-next : (from to : ℕ) → IsNext asked from to → forwards to expect b kind r stamp ≡ forwards from expect b kind r stamp
    forwards-next from to next = forwards-skip from to next.from (λ h above below. asked-none expect n asked first h (omega (arith, asked-below expect n asked first to next.named)) (next.first h above below))

    -- nor after the last one
    pub forwards-end : (from : ℕ) → from ≤ n → ((h : ℕ) → from ≤ h → names asked h ≡ false) → forwards n expect b kind r stamp ≡ forwards from expect b kind r stamp
    forwards-end from order none = forwards-skip from n order (λ h above below. asked-none expect n asked first h below (none h above))

-- two harts, of which one is named, aren't the same
pub apart_from : (expect : ℕ → Bool) (r n : ℕ) → expect r ≡ false → expect n ≡ true → r ≢ n
apart_from expect r n e f same = let eq : expect r ≡ expect n = ap expect same in cc
