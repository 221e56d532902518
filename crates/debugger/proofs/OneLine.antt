-- Sessions that no command tells apart answer a line alike, and read the same lines of the same bytes.
use Rattle.std.proofs.Common.{◌≡◌, ◌≢◌, ◌<◌, ◌≤◌, ◌++◌, ◌∙◌, ℕ, Bool, true, false, true≢false, Option, Some, None, List, [], ◌∷◌, Result, Ok, Err, length, get_or, inl, inr, arith, append-nil, refl, sym, ap, subst}
use Rattle.std.specs.Prelude.{All, IsUtf8}
use Rattle.std.specs.Str.{is_utf8}
use Rattle.std.specs.Io.KnownBytes.{Consumes, IsAtEnd}
use Rattle.std.proofs.lemmas.Bool.{cases_lt}
use Rattle.std.proofs.lemmas.List.Elements.{All-head, All-tail}
use Rattle.std.proofs.lemmas.Str.{IsUtf8-from_is_utf8, is_utf8-from_IsUtf8}
use Rattle.words.specs.Sinks.{SinkState}
use Rattle.texts.specs.Puts.{Puts}
use Rattle.texts.proofs.Putting.{puts-nothing, puts-both}
use Rattle.disassembler.specs.Tables.{Table}
use Rattle.protocol.specs.Caches.{Geometry}
use Rattle.debugger.specs.declared.commands.command.Command.{Command}
use Rattle.debugger.specs.declared.commands.fault.DebugFault.{DebugFault}
use Rattle.debugger.specs.declared.commands.fault.DebugFault.TheVariants as fault
use Rattle.debugger.specs.declared.fault.ConsoleFault.{ConsoleFault}
use Rattle.debugger.specs.declared.fault.ConsoleFault.TheVariants.{Unwritten}
use Rattle.debugger.specs.declared.input.Reading.{Reading}
use Rattle.debugger.specs.declared.input.Reading.TheVariants.{Line, Last, Failed}
use Rattle.debugger.specs.Faults.{fault_text}
use Rattle.debugger.specs.Lines.{kept, IsLine, Gives, without_return}
use Rattle.debugger.specs.LineAnswers.{IsShortText, Asks, refused, Refuses, Closes, IsCarriedOut, IsAnswered}
use Rattle.debugger.specs.Sessions.{Session}
use Rattle.debugger.specs.Sure.{answers_surely}
use Rattle.debugger.specs.Twins.{AreTwinSessions}
use Rattle.debugger.proofs.OneAnswer.{AreToldOne, answer_once, quietly}
use Rattle.debugger.proofs.OneTurns.{both_stay}

-- What a line asks for

asked_once : (names : Table) (line : List ℕ) (o p : Option Command) → Asks names line o → Asks names line p → o ≡ p
asked_once names line o p one other = elim (cases_lt 255 (length (without_return line))) [
  | inl long ↦ one.passed (λ short. omega (arith, short.0, long)) ∙ sym (other.passed (λ short. omega (arith, short.0, long)))
  | inr le ↦ by_text (is_utf8 (without_return line)) refl le
]
  where
    by_text : (b : Bool) → is_utf8 (without_return line) ≡ b → length (without_return line) ≤ 255 → o ≡ p
    by_text true is le =
        let short : IsShortText (without_return line) = (le, IsUtf8-from_is_utf8 (without_return line) is) in
        one.spelled short ∙ sym (other.spelled short)
    by_text false is le =
        let long : IsShortText (without_return line) → ⊥ = λ short. true≢false (sym (is_utf8-from_IsUtf8 (without_return line) short.1) ∙ is) in
        one.passed long ∙ sym (other.passed long)

-- Texts, one after the other

pub told_both : {a b c d e f : SinkState} → AreToldOne a b d e → AreToldOne b c e f → AreToldOne a c d f
told_both (one, puts, puts_too) (other, more, more_too) = (one ++ other, puts-both puts more, puts-both puts_too more_too)

pub told_nothing : (a b c d : SinkState) → b ≡ a → d ≡ c → AreToldOne a b c d
told_nothing a b c d same also = ([], quietly a b same, quietly c d also)

-- What comes of an answer

not_unwritten : (more : Bool) → ◌≡◌ {A = Result Bool ConsoleFault} (Ok more) (Err Unwritten) → ⊥
not_unwritten more is = cc

same_ok : (m n : Bool) → ◌≡◌ {A = Result Bool ConsoleFault} (Ok m) (Ok n) → m ≡ n
same_ok m n is = cc

clean_of : (answer : Result Bool DebugFault) (a b : SinkState) (more : Bool) → Closes answer a b (Ok more) → answer ≡ Err fault.Device → ⊥
clean_of answer a b more closes is = not_unwritten more (subst (λ (r : Result Bool DebugFault). Closes r a b (Ok more)) is closes).1

refuses_once : (name : List ℕ) (a b c d : SinkState) (m n : Bool) → Refuses (Some name) a b (Ok m) → Refuses (Some name) c d (Ok n) → (m ≡ n) × AreToldOne a b c d
refuses_once name a b c d m n (puts, is) (puts_too, also) = (is ∙ sym also, (refused name, puts, puts_too))

closes_once : (answer : Result Bool DebugFault) (a b c d : SinkState) (m n : Bool) → Closes answer a b (Ok m) → Closes answer c d (Ok n) → (m ≡ n) × AreToldOne a b c d
closes_once (Ok more) a b c d m n (quiet, is) (quiet_too, also) = (same_ok m n (is ∙ sym also), told_nothing a b c d quiet quiet_too)
closes_once (Err fault.Unknown) a b c d m n one other = refuses_once (fault_text fault.Unknown) a b c d m n one other
closes_once (Err fault.NoHart) a b c d m n one other = refuses_once (fault_text fault.NoHart) a b c d m n one other
closes_once (Err fault.Address) a b c d m n one other = refuses_once (fault_text fault.Address) a b c d m n one other
closes_once (Err fault.Stopped) a b c d m n one other = refuses_once (fault_text fault.Stopped) a b c d m n one other
closes_once (Err fault.Limit) a b c d m n one other = refuses_once (fault_text fault.Limit) a b c d m n one other
closes_once (Err fault.NoMemory) a b c d m n one other = refuses_once (fault_text fault.NoMemory) a b c d m n one other
closes_once (Err fault.Device) a b c d m n one other = absurd (not_unwritten m one.1)

module _ (g : Geometry) (names : Table) (s t : Session) (twins : AreTwinSessions g s t) (u x : Session) (a b c d : SinkState) where
  -- as much is wanted, no command tells the sessions apart, and one text was told
  abbrev pub AreAlike : Bool → Bool → Type 0
  AreAlike m n = (m ≡ n) × AreTwinSessions g u x × AreToldOne a b c d

  carried_once : (k : Option Command) (m n : Bool) → IsCarriedOut (answers_surely g names) k s u a b (Ok m) → IsCarriedOut (answers_surely g names) k t x c d (Ok n) → AreAlike m n
  carried_once None m n (same, one) (also, other) =
      let closed = refuses_once (fault_text fault.Unknown) a b c d m n one other in
      (closed.0, both_stay g s t u x twins same also, closed.1)
  carried_once (Some k) m n (answer, between, says, closes) (answer_too, between_too, says_too, closes_too) =
      let both = answer_once g names s t twins u x a between c between_too k answer answer_too (clean_of answer between b m closes) (clean_of answer_too between_too d n closes_too) says says_too in
      let closed = closes_once answer between b between_too d m n closes (subst (λ (r : Result Bool DebugFault). Closes r between_too d (Ok n)) (sym both.0) closes_too) in
      (closed.0, both.1, told_both both.2 closed.1)

  pub line_once : (line : List ℕ) (m n : Bool) → IsAnswered names (answers_surely g names) line s u a b (Ok m) → IsAnswered names (answers_surely g names) line t x c d (Ok n) → AreAlike m n
  line_once line m n (k, asks, one) (l, asks_too, other) =
      carried_once k m n one (subst (λ (o : Option Command). IsCarriedOut (answers_surely g names) o t x c d (Ok n)) (sym (asked_once names line k l asks asks_too)) other)

-- What is read

abbrev rest_of : List ℕ → List ℕ
rest_of [] = []
rest_of (x ∷ xs) = xs

some_first : (x : ℕ) (xs : List ℕ) → ◌≡◌ {A = List ℕ} (x ∷ xs) [] → ⊥
some_first x xs is = cc

feeds : (c : ℕ) (cs : List ℕ) → IsLine (c ∷ cs) → 10 ≡ c → ⊥
feeds c cs line is = All-head (λ (x : ℕ). x ≢ 10) c cs line (sym is)

-- a line ends at the first line feed
split_once : (a b y z : List ℕ) → IsLine a → IsLine b → (a ++ 10 ∷ []) ++ y ≡ (b ++ 10 ∷ []) ++ z → (a ≡ b) × (y ≡ z)
split_once [] [] y z line line_too same = (refl, ap rest_of same)
split_once [] (b ∷ bs) y z line line_too same = absurd (feeds b bs line_too (ap (λ (xs : List ℕ). get_or xs 0 10) same))
split_once (a ∷ as_) [] y z line line_too same = absurd (feeds a as_ line (sym (ap (λ (xs : List ℕ). get_or xs 0 10) same)))
split_once (a ∷ as_) (b ∷ bs) y z line line_too same =
    let first : a ≡ b = ap (λ (xs : List ℕ). get_or xs 0 10) same in
    let rest = split_once as_ bs y z (All-tail (λ (x : ℕ). x ≢ 10) a as_ line) (All-tail (λ (x : ℕ). x ≢ 10) b bs line_too) (ap rest_of same) in
    ((λ k. first k ∷ rest.0 k), rest.1)

-- and what is left has none
no_feed : (a b y : List ℕ) → IsLine b → (a ++ 10 ∷ []) ++ y ≡ b → ⊥
no_feed [] [] y line same = some_first 10 y same
no_feed [] (b ∷ bs) y line same = feeds b bs line (ap (λ (xs : List ℕ). get_or xs 0 10) same)
no_feed (a ∷ as_) [] y line same = some_first a ((as_ ++ 10 ∷ []) ++ y) same
no_feed (a ∷ as_) (b ∷ bs) y line same = no_feed as_ bs y (All-tail (λ (x : ℕ). x ≢ 10) b bs line) (ap rest_of same)

module _ (file : List ℕ) where
  -- a line and what is left
  record IsFirstLine (items : List ℕ) (new : Option (List ℕ)) : Type 0 where
    line : List ℕ
    is_line : IsLine line
    items_are : items ≡ kept line
    rest : List ℕ
    left : new ≡ Some rest
    whole : file ≡ (line ++ 10 ∷ []) ++ rest

  first_line : (items line : List ℕ) (new : Option (List ℕ)) → IsLine line → items ≡ kept line → Consumes (Some file) new (line ++ 10 ∷ []) → IsFirstLine items new
  first_line items line None is_line is consumes = absurd consumes
  first_line items line (Some rest) is_line is consumes = record { line = line; is_line = is_line; items_are = is; rest = rest; left = refl; whole = consumes }

  -- or all that is left
  record IsLastLine (items : List ℕ) : Type 0 where
    line : List ℕ
    is_line : IsLine line
    items_are : items ≡ kept line
    whole : file ≡ line

  last_line : (items line : List ℕ) (rest : Option (List ℕ)) → IsLine line → items ≡ kept line → Consumes (Some file) rest line → IsAtEnd rest → IsLastLine items
  last_line items line None is_line is consumes end = absurd consumes
  last_line items line (Some rest) is_line is consumes end =
      record { line = line; is_line = is_line; items_are = is; whole = consumes ∙ (ap (λ (xs : List ℕ). line ++ xs) end ∙ append-nil line) }

  pub record AreLinesAlike (items others : List ℕ) (new also : Option (List ℕ)) : Type 0 where
    pub items_are : items ≡ others
    pub rest : List ℕ
    pub left : new ≡ Some rest
    pub left_too : also ≡ Some rest

  lines_once : (items others : List ℕ) (new also : Option (List ℕ)) → IsFirstLine items new → IsFirstLine others also → AreLinesAlike items others new also
  lines_once items others new also one other =
      let same = split_once one.line other.line one.rest other.rest one.is_line other.is_line (sym one.whole ∙ other.whole) in
      record { items_are = one.items_are ∙ (ap kept same.0 ∙ sym other.items_are); rest = other.rest; left = one.left ∙ ap (λ (xs : List ℕ). Some xs) same.1; left_too = other.left }

  lasts_once : (items others : List ℕ) → IsLastLine items → IsLastLine others → items ≡ others
  lasts_once items others one other = one.items_are ∙ (ap kept (sym one.whole ∙ other.whole) ∙ sym other.items_are)

  not_both : (items others : List ℕ) (new : Option (List ℕ)) → IsFirstLine items new → IsLastLine others → ⊥
  not_both items others new one other = no_feed one.line other.line one.rest other.is_line (sym one.whole ∙ other.whole)

  -- of the same bytes the same is read, unless a read failed
  abbrev pub AreReadAlike : Reading → Reading → Option (List ℕ) → Option (List ℕ) → Type 0
  AreReadAlike (Line l) (Line m) new also = AreLinesAlike l.items m.items new also
  AreReadAlike (Last l) (Last m) new also = l.items ≡ m.items
  AreReadAlike (Line l) (Last m) new also = ⊥
  AreReadAlike (Last l) (Line m) new also = ⊥
  AreReadAlike (Line l) Failed new also = Unit {0}
  AreReadAlike (Last l) Failed new also = Unit {0}
  AreReadAlike Failed reading new also = Unit {0}

  pub read_once : (r q : Reading) (new also : Option (List ℕ)) → Gives (Some file) r new → Gives (Some file) q also → AreReadAlike r q new also
  read_once (Line l) (Line m) new also (line, is_line, is, consumes) (other, is_line_too, is_too, consumes_too) =
      lines_once l.items m.items new also (first_line l.items line new is_line is consumes) (first_line m.items other also is_line_too is_too consumes_too)
  read_once (Last l) (Last m) new also (line, rest, is_line, is, consumes, end) (other, rest_too, is_line_too, is_too, consumes_too, end_too) =
      lasts_once l.items m.items (last_line l.items line rest is_line is consumes end) (last_line m.items other rest_too is_line_too is_too consumes_too end_too)
  read_once (Line l) (Last m) new also (line, is_line, is, consumes) (other, rest, is_line_too, is_too, consumes_too, end) =
      not_both l.items m.items new (first_line l.items line new is_line is consumes) (last_line m.items other rest is_line_too is_too consumes_too end)
  read_once (Last l) (Line m) new also (line, rest, is_line, is, consumes, end) (other, is_line_too, is_too, consumes_too) =
      not_both m.items l.items also (first_line m.items other also is_line_too is_too consumes_too) (last_line l.items line rest is_line is consumes end)
  read_once (Line l) Failed new also one other = tt {0}
  read_once (Last l) Failed new also one other = tt {0}
  read_once Failed q new also one other = tt {0}
