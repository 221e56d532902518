use Rattle.std.proofs.Common.{◌≡◌, ◌∙◌, ℕ, List, Bool, true, false, Option, Some, None, cond, is_some, ap, subst, sym, refl, arith, inl, inr}
use Rattle.std.specs.Prelude.{not, ◌==◌}
use Rattle.std.specs.Option.{option_map}
use Rattle.std.proofs.lemmas.Bool.Decides.{nat_tests}
use Rattle.std.proofs.Math.Path.{fun_ext}
use Rattle.flat.specs.Bytes.{put_at}
use Rattle.words.specs.declared.message.LineState.{LineState}
use Rattle.words.specs.declared.message.LineState.TheVariants.{Modified}
use Rattle.cache.specs.declared.line.Line.{Line as CachedLine}
use Rattle.cache.specs.Line.{in_state}
use Rattle.cache.specs.Ways.{holds, is_free}
use Rattle.cache.specs.Sets.{line_at}
use Rattle.protocol.specs.Messages.{Block}
use Rattle.protocol.specs.Lines.{Line, line_filled, state_given}
use Rattle.protocol.specs.Hart.{overflow_of, with_line}
use Rattle.hart.specs.Shown.{shown_line, shown_tx, shown_hart, lines_of}
use Rattle.hart.proofs.Alone.{is_absent}
use Rattle.hart.proofs.Views.{parts}
use Rattle.hart.proofs.Lines.{lines-set}
use Rattle.hart.specs.Parts.{Parts}
use Rattle.hart.specs.Places.{KeepsWays}
use Rattle.hart.proofs.Places.{all_stay, line_put, line_comes}
use Rattle.hart.proofs.hart.Hart.receive.Goals as goal

pub returns-then-is_none-clause-hart : goal.returns-then-is_none-clause-hart
returns-then-is_none-clause-hart g c = λ output.
    let S = g.row.SETS in
    let old = c.self.inside in
    let a = c.args in
    let none = is_absent c.line.result (c.is_none.ensures ∙ ap not c.if-is_none.true) in
    let filled = ap (λ overflow. Some (line_filled a.give overflow a.content.now None)) c.overflow-overflowed.ensures
    ∙ ap (λ (l : Option Line). Some (line_filled a.give (overflow_of (shown_tx a.self.now.tx)) a.content.now l)) (ap (option_map shown_line) (sym none ∙ c.line.ensures.value)) in
    let lines = lines-set is_free S old.cache c.fill.new.self a.block _ c.fill.ensures in
    (λ j. record (shown_hart S output (parts old)) { lines = lines j })
    ∙ (λ j. with_line a.block (filled j) (shown_hart S output (c.self.view_is j)))

-- a line that is there changes its state, if it may be written from now on

module _ (overflow : Bool) (content : Block) where
  filled_there : (o : Option CachedLine) → is_some o ≡ true → option_map shown_line (option_map (in_state Modified) o) ≡ Some (line_filled Modified overflow content (option_map shown_line o))
  filled_there None there = cc
  filled_there (Some l) there = refl

  stays_there : (give : LineState) (o : Option CachedLine) → is_some o ≡ true → ((state : LineState) → state_given give state ≡ state) → option_map shown_line o ≡ Some (line_filled give overflow content (option_map shown_line o))
  stays_there give None there same = cc
  stays_there give (Some l) there same = ap (λ state. Some (record (shown_line l) { state = state })) (sym (same l.state))

-- what is put where it is changes nothing
put_same : {A : Type 0} (b : ℕ) (x : A) (f : ℕ → A) → f b ≡ x → put_at b x f ≡ f
put_same b x f is = fun_ext (λ k. by (k == b) k refl)
  where
    by : (t : Bool) (k : ℕ) → k == b ≡ t → cond t x (f k) ≡ f k
    by true k same = let e : k ≡ b = grind (arith, nat_tests) in sym (ap f e ∙ is)
    by false k same = refl

stays : (S : ℕ) (output : List ℕ) (p : Parts) (b : ℕ) (give : LineState) (content : Block) (o : Option CachedLine) → o ≡ line_at S p.cache b → is_some o ≡ true → ((state : LineState) → state_given give state ≡ state)
    → shown_hart S output p ≡ with_line b (Some (line_filled give (overflow_of (shown_tx p.tx)) content (lines_of S p.cache b))) (shown_hart S output p)
stays S output p b give content o is there same =
    let here = ap (option_map shown_line) (sym is) ∙ stays_there (overflow_of (shown_tx p.tx)) content give o there same ∙ ap (λ (l : Option CachedLine). Some (line_filled give (overflow_of (shown_tx p.tx)) content (option_map shown_line l))) is in
    ap (λ lines. record (shown_hart S output p) { lines = lines }) (sym (put_same b _ (lines_of S p.cache) here))

pub returns-in-Modified-clause-hart : goal.returns-in-Modified-clause-hart
returns-in-Modified-clause-hart g c = λ output.
    let S = g.row.SETS in
    let old = c.self.inside in
    let a = c.args in
    let there : is_some (line_at S old.cache a.block) ≡ true = ap (λ (p : Parts). is_some (line_at S p.cache a.block)) c.self.view_is ∙ ap is_some (sym c.line.ensures.value) ∙ c.is_none.ensures ∙ ap not c.if-is_none.false in
    let filled = filled_there (overflow_of (shown_tx a.self.now.tx)) a.content.now (line_at S old.cache a.block) there
    ∙ ap (λ give. Some (line_filled give (overflow_of (shown_tx a.self.now.tx)) a.content.now (lines_of S old.cache a.block))) (sym c.in-Modified.is)
    ∙ ap (λ (p : Parts). Some (line_filled a.give (overflow_of (shown_tx a.self.now.tx)) a.content.now (lines_of S p.cache a.block))) c.self.view_is in
    let lines = lines-set (holds a.block) S old.cache c.promote.new.self a.block _ c.promote.ensures.line in
    (λ j. record (shown_hart S output (parts old)) { lines = lines j })
    ∙ (λ j. with_line a.block (filled j) (shown_hart S output (c.self.view_is j)))

pub returns-in-Shared-clause-hart : goal.returns-in-Shared-clause-hart
returns-in-Shared-clause-hart g c = λ output.
    let same : (state : LineState) → state_given c.args.give state ≡ state = elim c.in-Shared.is [ inl e ↦ (λ state. ap (λ give. state_given give state) e) | inr e ↦ (λ state. ap (λ give. state_given give state) e) ] in
    stays g.row.SETS output c.args.self.now c.args.block c.args.give c.args.content.now c.line.result c.line.ensures.value (c.is_none.ensures ∙ ap not c.if-is_none.false) same

-- lines stay in their ways, and a new one gets the lowest free way

pub returns-then-is_none-clause-ways : goal.returns-then-is_none-clause-ways
returns-then-is_none-clause-ways g c =
    subst (λ (p : Parts). KeepsWays g.row.SETS p.cache c.fill.new.self) c.self.view_is
    (line_comes g.row.SETS c.self.inside.cache c.fill.new.self c.args.block _
    (ap (λ (p : Parts). line_at g.row.SETS p.cache c.args.block) c.self.view_is ∙ sym c.line.ensures.value ∙ is_absent c.line.result (c.is_none.ensures ∙ ap not c.if-is_none.true)) refl c.fill.ensures)

pub returns-in-Modified-clause-ways : goal.returns-in-Modified-clause-ways
returns-in-Modified-clause-ways g c = subst (λ (p : Parts). KeepsWays g.row.SETS p.cache c.promote.new.self) c.self.view_is (line_put g.row.SETS c.self.inside.cache c.promote.new.self c.args.block _ (λ l. refl) c.promote.ensures.line)

pub returns-in-Shared-clause-ways : goal.returns-in-Shared-clause-ways
returns-in-Shared-clause-ways g c = all_stay g.row.SETS c.args.self.now.cache
