-- Words that are read of the machine are those of the flat state that belongs to it.
use Rattle.std.proofs.Common.{◌≡◌, ◌<◌, ◌≤◌, ◌+◌, ◌*◌, ◌/◌, ◌%◌, ◌⊎◌, inl, inr, ℕ, Bool, true, false, List, Some, None, arith, refl, sym, ap, subst, ◌∙◌}
use Rattle.std.specs.Prelude.{cond, nat_lt, is_some}
use Rattle.std.specs.Option.{option_map}
use Rattle.std.proofs.lemmas.Bool.{cases_lt}
use Rattle.std.proofs.lemmas.Bool.Decides.{nat_tests}
use Rattle.words.specs.declared.entry.Width.TheVariants.{Word}
use Rattle.words.specs.Bytes.{number_at}
use Rattle.network.specs.declared.net.Flight.{Flight}
use Rattle.network.proofs.OneOrder.{past, past_all}
use Rattle.flat.specs.State.{Setting, Flat, flat_view, has_written}
use Rattle.flat.specs.Reads.{is_readable, word_if, word_seen, IsInPlace}
use Rattle.protocol.specs.Messages.{Block, shown}
use Rattle.protocol.specs.Lines.{byte_in}
use Rattle.protocol.specs.Caches.{Geometry}
use Rattle.protocol.specs.Hart.{log_of}
use Rattle.protocol.specs.Network.{LiesBelow}
use Rattle.protocol.specs.Machine.{Machine}
use Rattle.protocol.specs.Values.{is_logged, raw, peek, view}
use Rattle.isolation.specs.Belongs.{Belongs, IsAborting}
use Rattle.isolation.specs.Answers.{AnswersAs}
use Rattle.isolation.proofs.Belongs.Belonging.{answers_after}
use Rattle.machine.specs.Mail.{in_flight}
use Rattle.machine.specs.Reads.{view_if}
use Rattle.machine.proofs.Reading.{same_setting}

-- all messages lie below a number above theirs
pub all_below : (flights : List Flight) → LiesBelow (past flights) (in_flight flights)
all_below flights = λ number le. ap (λ o. option_map shown (option_map (λ f. f.message) o)) (past_all flights number le)

-- four bytes make a word
word_same : (p q : ℕ → ℕ) (a : ℕ) → p a ≡ q a → p (a + 1) ≡ q (a + 1) → p (a + 2) ≡ q (a + 2) → p (a + 3) ≡ q (a + 3) → number_at p a Word ≡ number_at q a Word
word_same p q a b0 b1 b2 b3 = λ i. b0 i + 256 * b1 i + 65536 * b2 i + 16777216 * b3 i

pub aligned : (s : Setting) (a : ℕ) → is_readable s a ≡ true → a % 4 ≡ 0
aligned s a e = grind (arith, nat_tests)

-- of a block's words
pub number_there : (s : Setting) (words : ℕ → Block) (content : Block) (a b v : ℕ) → is_readable s a ≡ true → v ≡ number_at (byte_in content) a Word → b ≡ a / 32 → content ≡ words b
    → v ≡ number_at (λ c. byte_in (words (c / 32)) c) a Word
number_there s words content a b v is word block same =
    let four : a % 4 ≡ 0 = aligned s a is in
    let one : content ≡ words (a / 32) = same ∙ ap words block in
    let at1 : a / 32 ≡ (a + 1) / 32 = omega (arith, four) in
    let at2 : a / 32 ≡ (a + 2) / 32 = omega (arith, four) in
    let at3 : a / 32 ≡ (a + 3) / 32 = omega (arith, four) in
    word
    ∙ word_same (byte_in content) (λ c. byte_in (words (c / 32)) c) a (λ k. byte_in (one k) a) (λ k. byte_in ((one ∙ ap words at1) k) (a + 1)) (λ k. byte_in ((one ∙ ap words at2) k) (a + 2))
    (λ k. byte_in ((one ∙ ap words at3) k) (a + 3))

pub word_there : (s : Setting) (words : ℕ → Block) (content : Block) (a b v : ℕ) → is_readable s a ≡ true → v ≡ number_at (byte_in content) a Word → b ≡ a / 32 → content ≡ words b
    → Some v ≡ word_if s (λ c. byte_in (words (c / 32)) c) a
word_there s words content a b v is word block same = λ k. cond (sym is k) (Some (number_there s words content a b v is word block same k)) None

pub no_word : (s : Setting) (m : ℕ → ℕ) (a : ℕ) → is_readable s a ≡ false → None ≡ word_if s m a
no_word s m a e = λ k. cond (sym e k) (Some (number_at m a Word)) None

-- there is a word just where one can be read
pub some_word : (s : Setting) (m : ℕ → ℕ) (a : ℕ) → is_some (word_if s m a) ≡ is_readable s a
some_word s m a = by (is_readable s a)
  where
    by : (t : Bool) → is_some (cond t (Some (number_at m a Word)) None) ≡ t
    by true = refl
    by false = refl

-- words are one where their block's bytes are
word_if_same : (s : Setting) (p q : ℕ → ℕ) (a : ℕ) → ((c : ℕ) → a / 32 ≡ c / 32 → p c ≡ q c) → word_if s p a ≡ word_if s q a
word_if_same s p q a same = by (is_readable s a) refl
  where
    by : (t : Bool) → is_readable s a ≡ t → word_if s p a ≡ word_if s q a
    by false e = (λ k. cond (e k) (Some (number_at p a Word)) None) ∙ no_word s q a e
    by true e =
        let four : a % 4 ≡ 0 = aligned s a e in
        let at1 : a / 32 ≡ (a + 1) / 32 = omega (arith, four) in
        let at2 : a / 32 ≡ (a + 2) / 32 = omega (arith, four) in
        let at3 : a / 32 ≡ (a + 3) / 32 = omega (arith, four) in
        λ k. cond (is_readable s a) (Some (word_same p q a (same a refl) (same (a + 1) at1) (same (a + 2) at2) (same (a + 3) at3) k)) None

-- what a hart sees of a block that its log has, and of another
module _ (w : Machine) (keys i a b : ℕ) (here : b ≡ a / 32) where
  seen : (m : ℕ → ℕ) → i < w.setting.count → ((c : ℕ) → a / 32 ≡ c / 32 → m c ≡ view keys w i c) → word_if w.setting m a ≡ view_if keys w i a
  seen m lt same =
      let known : nat_lt i w.setting.count ≡ true = grind (arith, nat_tests) in
      word_if_same w.setting m (view keys w i) a same ∙ (λ k. cond (sym known k) (word_if w.setting (view keys w i) a) None)

  pub seen_logged : i < w.setting.count → is_logged (log_of (w.harts i).tx) b ≡ true → word_if w.setting (raw keys w) a ≡ view_if keys w i a
  seen_logged lt e = seen (raw keys w) lt (λ c at k. cond (sym (subst (λ d. is_logged (log_of (w.harts i).tx) d ≡ true) (here ∙ at) e) k) (raw keys w c) (peek keys w c))

  pub seen_else : i < w.setting.count → is_logged (log_of (w.harts i).tx) b ≡ false → word_if w.setting (peek keys w) a ≡ view_if keys w i a
  seen_else lt e = seen (peek keys w) lt (λ c at k. cond (sym (subst (λ d. is_logged (log_of (w.harts i).tx) d ≡ false) (here ∙ at) e) k) (raw keys w c) (peek keys w c))

  pub seen_none : w.setting.count ≤ i → None ≡ view_if keys w i a
  seen_none le =
      let un : nat_lt i w.setting.count ≡ false = grind (arith, nat_tests) in
      λ k. cond (sym un k) (word_if w.setting (view keys w i) a) None

module _ (g : Geometry) (f : Flat) (w : Machine) (keys : ℕ) (b : Belongs g f w) (below : LiesBelow keys w.net) where
  answers : AnswersAs keys w f
  answers = answers_after g f w keys b below

  pub peek_flat : (a : ℕ) → word_if w.setting (peek keys w) a ≡ word_if f.setting f.mem a
  peek_flat a = λ k. word_if (same_setting g f w b k) (λ c. answers.peek c k) a

  pub view_flat : (i a : ℕ) → (IsAborting (w.harts i) → ⊥) → view_if keys w i a ≡ word_seen f i a
  view_flat i a quiescent = by (cases_lt i w.setting.count)
    where
      by : (i < w.setting.count) ⊎ (w.setting.count ≤ i) → view_if keys w i a ≡ word_seen f i a
      by (inl lt) = λ k. cond (nat_lt i (same_setting g f w b k).count) (word_if (same_setting g f w b k) (λ c. answers.view i c lt quiescent k) a) None
      by (inr le) =
          let un : nat_lt i w.setting.count ≡ false = grind (arith, nat_tests) in
          let also : nat_lt i f.setting.count ≡ false = subst (λ s. nat_lt i s.count ≡ false) (same_setting g f w b) un in
          (λ k. cond (un k) (word_if w.setting (view keys w i) a) None) ∙ (λ k. cond (sym also k) (word_if f.setting (flat_view f i) a) None)

  pub raw_flat : (a v : ℕ) → a % 4 ≡ 0 → v ≡ number_at (raw keys w) a Word → ((i : ℕ) → has_written (f.hart i).tx (a / 32) ≡ true → IsAborting (w.harts i) → ⊥) → IsInPlace f a v
  raw_flat a v four is quiescent =
      let at1 : a / 32 ≡ (a + 1) / 32 = omega (arith, four) in
      let at2 : a / 32 ≡ (a + 2) / 32 = omega (arith, four) in
      let at3 : a / 32 ≡ (a + 3) / 32 = omega (arith, four) in
      record {
        written = λ i lt e none.
            let inside : i < w.setting.count = subst (λ s. i < s.count) (sym (same_setting g f w b)) lt in
            let same : (c : ℕ) → a / 32 ≡ c / 32 → raw keys w c ≡ flat_view f i c = λ c at. answers.raw_written i c inside (quiescent i e) (subst (λ d. has_written (f.hart i).tx d ≡ true) at e) in
            is ∙ word_same (raw keys w) (flat_view f i) a (same a refl) (same (a + 1) at1) (same (a + 2) at2) (same (a + 3) at3);
        unwritten = λ none.
            let same : (c : ℕ) → a / 32 ≡ c / 32 → raw keys w c ≡ f.mem c = λ c at. answers.raw_unwritten c (λ i lt.
            subst (λ d. has_written (f.hart i).tx d ≡ false) at (none i (subst (λ s. i < s.count) (same_setting g f w b) lt))) in
            is ∙ word_same (raw keys w) f.mem a (same a refl) (same (a + 1) at1) (same (a + 2) at2) (same (a + 3) at3);
      }
