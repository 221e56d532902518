-- Two sessions of one machine, with one input, tell one text.
use Rattle.std.proofs.Common.{◌≡◌, ◌<◌, ◌≤◌, ◌-◌, ◌++◌, ◌∙◌, ℕ, zero, suc, Bool, true, false, true≢false, Option, Some, None, List, [], ◌∷◌, Result, Ok, Err, inl, inr, arith, refl, sym, ap, subst}
use Rattle.std.proofs.lemmas.Bool.{cases_lt}
use Rattle.words.specs.declared.sink.SinkFault.{SinkFault}
use Rattle.words.specs.Sinks.{SinkState, TookAll}
use Rattle.texts.specs.Puts.{Puts}
use Rattle.disassembler.specs.Tables.{Table}
use Rattle.protocol.specs.Caches.{Geometry}
use Rattle.machine.specs.States.{State, setting_of}
use Rattle.machine.specs.Twins.{AreTwins}
use Rattle.protocol.specs.Machine.{Machine}
use Rattle.debugger.specs.declared.fault.ConsoleFault.{ConsoleFault}
use Rattle.debugger.specs.declared.fault.ConsoleFault.TheVariants.{Unreadable, Unwritten}
use Rattle.debugger.specs.declared.input.Reading.{Reading}
use Rattle.debugger.specs.declared.input.Reading.TheVariants.{Line, Last, Failed}
use Rattle.debugger.specs.Debugging.{begun, IsDebugged}
use Rattle.debugger.specs.LineAnswers.{IsAnswered}
use Rattle.debugger.specs.Lines.{Gives}
use Rattle.debugger.specs.Plays.{Talk, Giving, EndsWith, Replies, Hears, Exchanges, Plays, IsPlayed, ended}
use Rattle.debugger.specs.Sessions.{Session}
use Rattle.debugger.specs.Sure.{answers_surely, AreKnown}
use Rattle.debugger.specs.Twins.{AreTwinSessions}
use Rattle.debugger.proofs.OneAnswer.{AreToldOne}
use Rattle.debugger.proofs.OneLine.{AreAlike, line_once, told_both, told_nothing, AreReadAlike, read_once}
use Rattle.debugger.proofs.OneTurns.{both_stay}

same_ok : (m n : Bool) → ◌≡◌ {A = Result Bool ConsoleFault} (Ok m) (Ok n) → m ≡ n
same_ok m n is = cc

not_read : (m : Bool) → ◌≡◌ {A = Result Bool ConsoleFault} (Ok m) (Err Unreadable) → ⊥
not_read m is = cc

not_put : (m : Bool) → ◌≡◌ {A = Result Bool ConsoleFault} (Ok m) (Err Unwritten) → ⊥
not_put m is = cc

module _ (g : Geometry) (names : Table) (I : Type 0) (gives : Giving I) (bytes : I → Option (List ℕ)) (known : AreKnown gives bytes) (prompt : List ℕ) where
  abbrev Stand : Type 0
  Stand = Talk Session I

  -- no command tells their sessions apart, and the same is left to read
  pub record StandAlike (v w : Stand) : Type 0 where
    pub sessions : AreTwinSessions g v.session w.session
    pub file : List ℕ
    pub left : bytes v.input ≡ Some file
    pub left_too : bytes w.input ≡ Some file

  module _ (v w x y : Stand) (alike : StandAlike v w) where
    -- what was told in both, and what was left where more was wanted
    record HeardAlike (m n : Bool) : Type 0 where
      wanted : m ≡ n
      told : AreToldOne v.told x.told w.told y.told
      on : m ≡ true → StandAlike x y

    last_alike : (items others : List ℕ) (m n : Bool) → items ≡ others → EndsWith names (answers_surely g names) items v.session x.session v.told x.told (Ok m)
        → EndsWith names (answers_surely g names) others w.session y.session w.told y.told (Ok n) → HeardAlike m n
    last_alike items others m n same one other = by_items items one (subst (λ (l : List ℕ). EndsWith names (answers_surely g names) l w.session y.session w.told y.told (Ok n)) (sym same) other)
      where
        no_more : (k : Bool) (r : Result Bool ConsoleFault) → Ok k ≡ ended r → k ≡ false
        no_more k (Ok more) is = same_ok k false is
        no_more k (Err f) is = absurd (let e : ◌≡◌ {A = Result Bool ConsoleFault} (Ok k) (Err f) = is in cc)

        was_ok : (k : Bool) (r : Result Bool ConsoleFault) → Ok k ≡ ended r → (more : Bool) × (r ≡ Ok more)
        was_ok k (Ok more) is = (more, refl)
        was_ok k (Err f) is = absurd (let e : ◌≡◌ {A = Result Bool ConsoleFault} (Ok k) (Err f) = is in cc)

        no_further : m ≡ false → m ≡ true → StandAlike x y
        no_further off on = absurd (true≢false (sym on ∙ off))

        by_items : (l : List ℕ) → EndsWith names (answers_surely g names) l v.session x.session v.told x.told (Ok m)
            → EndsWith names (answers_surely g names) l w.session y.session w.told y.told (Ok n) → HeardAlike m n
        by_items [] ((stays, quiet), is) ((stays_too, quiet_too), also) = record {
          wanted = same_ok m false is ∙ sym (same_ok n false also);
          told = told_nothing v.told x.told w.told y.told quiet quiet_too;
          on = no_further (same_ok m false is);
        }
        by_items (c ∷ cs) (r, answered, is) (q, answered_too, also) =
            let ok = was_ok m r is in
            let ok_too = was_ok n q also in
            let both = line_once g names v.session w.session alike.sessions x.session y.session v.told x.told w.told y.told (c ∷ cs) ok.0 ok_too.0
            (subst (λ (r : Result Bool ConsoleFault). IsAnswered names (answers_surely g names) (c ∷ cs) v.session x.session v.told x.told r) ok.1 answered)
            (subst (λ (r : Result Bool ConsoleFault). IsAnswered names (answers_surely g names) (c ∷ cs) w.session y.session w.told y.told r) ok_too.1 answered_too) in
            record { wanted = no_more m r is ∙ sym (no_more n q also); told = both.2; on = no_further (no_more m r is) }

    replies_once : (r q : Reading) (m n : Bool) → AreReadAlike alike.file r q (bytes x.input) (bytes y.input) → Replies names (answers_surely g names) r v.session x.session v.told x.told (Ok m)
        → Replies names (answers_surely g names) q w.session y.session w.told y.told (Ok n) → HeardAlike m n
    replies_once (Line l) (Line k) m n read one other =
        let both = line_once g names v.session w.session alike.sessions x.session y.session v.told x.told w.told y.told l.items m n one
        (subst (λ (line : List ℕ). IsAnswered names (answers_surely g names) line w.session y.session w.told y.told (Ok n)) (sym read.items_are) other) in
        record { wanted = both.0; told = both.2; on = λ more. record { sessions = both.1; file = read.rest; left = read.left; left_too = read.left_too } }
    replies_once (Last l) (Last k) m n read one other = last_alike l.items k.items m n read one other
    replies_once (Line l) (Last k) m n read one other = absurd read
    replies_once (Last l) (Line k) m n read one other = absurd read
    replies_once (Line l) Failed m n read one other = absurd (not_read n other.1)
    replies_once (Last l) Failed m n read one other = absurd (not_read n other.1)
    replies_once Failed q m n read one other = absurd (not_read m one.1)

    hears_once : (p q : Result Unit SinkFault) (m n : Bool) → Puts v.asked x.asked prompt p → Puts w.asked y.asked prompt q → Hears names (answers_surely g names) gives p v x (Ok m)
        → Hears names (answers_surely g names) gives q w y (Ok n) → HeardAlike m n × AreToldOne v.asked x.asked w.asked y.asked
    hears_once (Ok done) (Ok also) m n puts puts_too (r, given, one) (q, given_too, other) =
        let first : Gives (Some alike.file) r (bytes x.input) = subst (λ (o : Option (List ℕ)). Gives o r (bytes x.input)) alike.left (known v.input r x.input given) in
        let second : Gives (Some alike.file) q (bytes y.input) = subst (λ (o : Option (List ℕ)). Gives o q (bytes y.input)) alike.left_too (known w.input q y.input given_too) in
        (replies_once r q m n (read_once alike.file r q (bytes x.input) (bytes y.input) first second) one other, (prompt, puts, puts_too))
    hears_once (Err f) q m n puts puts_too one other = absurd (not_put m one.2)
    hears_once (Ok done) (Err f) m n puts puts_too one other = absurd (not_put n other.2)

    exchange_once : (m n : Bool) → Exchanges names (answers_surely g names) gives prompt v x (Ok m) → Exchanges names (answers_surely g names) gives prompt w y (Ok n)
        → HeardAlike m n × AreToldOne v.asked x.asked w.asked y.asked
    exchange_once m n (p, puts, one) (q, puts_too, other) = hears_once p q m n puts puts_too one other

  -- what was told and asked in both
  abbrev pub AreOneText : Stand → Stand → Stand → Stand → Type 0
  AreOneText v x w y = AreToldOne v.told x.told w.told y.told × AreToldOne v.asked x.asked w.asked y.asked

  text_both : (v x z w y u : Stand) → AreOneText v x w y → AreOneText x z y u → AreOneText v z w u
  text_both v x z w y u (told, asked) (more, further) = (told_both told more, told_both asked further)

  no_text : (v x w y : Stand) → x ≡ v → y ≡ w → AreOneText v x w y
  no_text v x w y same also = (
    told_nothing v.told x.told w.told y.told (ap (λ (s : Stand). s.told) same) (ap (λ (s : Stand). s.told) also),
    told_nothing v.asked x.asked w.asked y.asked (ap (λ (s : Stand). s.asked) same) (ap (λ (s : Stand). s.asked) also),
  )

  -- so many lines
  pub plays_once : (n : ℕ) (v x w y : Stand) → StandAlike v w → Plays names (answers_surely g names) gives prompt n v x → Plays names (answers_surely g names) gives prompt n w y
      → StandAlike x y × AreOneText v x w y
  plays_once zero v x w y alike same also =
      (subst (λ (s : Stand). StandAlike s y) (sym same) (subst (λ (s : Stand). StandAlike v s) (sym also) alike), no_text v x w y same also)
  plays_once (suc n) v x w y alike (u, one, last) (z, other, last_too) =
      let before = plays_once n v u w z alike one other in
      let heard = exchange_once u z x y before.0 true true last last_too in
      (heard.0.on refl, text_both v u x w z y before.1 (heard.0.told, heard.1))

  -- each of them is one after which more is wanted
  plays_at : (n k : ℕ) (v x : Stand) → k < n → Plays names (answers_surely g names) gives prompt n v x
      → (a : Stand) × (b : Stand) × Plays names (answers_surely g names) gives prompt k v a × Exchanges names (answers_surely g names) gives prompt a b (Ok true)
  plays_at zero k v x below plays = absurd (omega (arith, below))
  plays_at (suc n) k v x below (u, before, last) = elim (cases_lt k n) [
    | inl less ↦ plays_at n k v u less before
    | inr le ↦ let same : n ≡ k = omega (arith, below, le) in (u, x, subst (λ (j : ℕ). Plays names (answers_surely g names) gives prompt j v u) same before, last)
  ]

  -- up to the end
  pub ends_once : (v x w y : Stand) → StandAlike v w → IsPlayed names (answers_surely g names) gives prompt v x (Ok tt) → IsPlayed names (answers_surely g names) gives prompt w y (Ok tt) → AreOneText v x w y
  ends_once v x w y alike (n, a, one, last) (m, b, other, last_too) = elim (cases_lt n m) [
    | inl below ↦
        let at = plays_at m n w b below other in
        let before = plays_once n v a w at.0 alike one at.2 in
        absurd (true≢false (sym (exchange_once a at.0 x at.1 before.0 false true last at.3).0.wanted))
    | inr le ↦ elim (cases_lt m n) [
      | inl above ↦
          let at = plays_at n m v a above one in
          let before = plays_once m v at.0 w b alike at.2 other in
          absurd (true≢false (exchange_once at.0 b at.1 y before.0 true false at.3 last_too).0.wanted)
      | inr ge ↦
          let same : m ≡ n = omega (arith, le, ge) in
          let before = plays_once n v a w b alike one (subst (λ (j : ℕ). Plays names (answers_surely g names) gives prompt j w b) same other) in
          let heard = exchange_once a b x y before.0 false false last last_too in
          text_both v a x w b y before.1 (heard.0.told, heard.1)
    ]
  ]

-- sessions that twins begin with
pub begun_alike : (g : Geometry) (v w : State) → AreTwins g v w → AreTwinSessions g (begun v) (begun w)
begun_alike g v w twins = record { machine = twins; last = ap (λ (m : Machine). m.setting.count - 1) twins.machine; breakpoints = refl }

-- a text that both took
pub took_one : (a b c d : SinkState) → AreToldOne a b c d → (text : List ℕ) × TookAll a b text × TookAll c d text
took_one a b c d (text, puts, puts_too) = (text, record { whole = puts.whole; clean = puts.clean }, record { whole = puts_too.whole; clean = puts_too.clean })

pub lines_once : (g : Geometry) (names : Table) (I : Type 0) (gives : Giving I) (bytes : I → Option (List ℕ)) (prompt file : List ℕ) (n : ℕ) (v w x y : Talk Session I) → AreKnown gives bytes
    → AreTwinSessions g v.session w.session → bytes v.input ≡ Some file → bytes w.input ≡ Some file
    → Plays names (answers_surely g names) gives prompt n v x → Plays names (answers_surely g names) gives prompt n w y
    → AreTwinSessions g x.session y.session × (bytes x.input ≡ bytes y.input)
    × ((text : List ℕ) × TookAll v.told x.told text × TookAll w.told y.told text) × ((asked : List ℕ) × TookAll v.asked x.asked asked × TookAll w.asked y.asked asked)
lines_once g names I gives bytes prompt file n v w x y known twins left left_too one other =
    let both = plays_once g names I gives bytes known prompt n v x w y (record { sessions = twins; file = file; left = left; left_too = left_too }) one other in
    (both.0.sessions, both.0.left ∙ sym both.0.left_too, took_one v.told x.told w.told y.told both.1.0, took_one v.asked x.asked w.asked y.asked both.1.1)

pub debugged_once : (g : Geometry) (names : Table) (I : Type 0) (gives : Giving I) (bytes : I → Option (List ℕ)) (prompt file : List ℕ) (v w : State) (i j k l : I) (a b c d p q r s : SinkState)
    → AreKnown gives bytes → AreTwins g v w → bytes i ≡ Some file → bytes k ≡ Some file
    → IsDebugged (answers_surely g names) names gives v prompt i j a b p q (Ok tt) → IsDebugged (answers_surely g names) names gives w prompt k l c d r s (Ok tt)
    → ((text : List ℕ) × TookAll a b text × TookAll c d text) × ((asked : List ℕ) × TookAll p q asked × TookAll r s asked)
debugged_once g names I gives bytes prompt file v w i j k l a b c d p q r s known twins left left_too one other =
    let from : Talk Session I = record { session = begun v; input = i; told = a; asked = p } in
    let to : Talk Session I = record { session = one.0; input = j; told = b; asked = q } in
    let from_too : Talk Session I = record { session = begun w; input = k; told = c; asked = r } in
    let to_too : Talk Session I = record { session = other.0; input = l; told = d; asked = s } in
    let both = ends_once g names I gives bytes known prompt from to from_too to_too (record { sessions = begun_alike g v w twins; file = file; left = left; left_too = left_too }) one.1 other.1 in
    (took_one a b c d both.0, took_one p q r s both.1)
