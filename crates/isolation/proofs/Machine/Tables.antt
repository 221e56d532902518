-- The tables of the machine's rows and of one block's are the same.
use Rattle.std.proofs.Common.{◌≡◌, ℕ, zero, suc, Bool, true, Option, None, Some, refl, ap, ◌∙◌, arith, ◌≢◌, List, ◌∷◌, cond, sym}
use Rattle.std.specs.Prelude.{◌&&◌, ◌||◌, not, unwrap_or}
use Rattle.std.specs.Option.{option_or}
use Rattle.std.proofs.lemmas.Bool.{eq-eqb, ne_eqb}
use Rattle.words.specs.declared.stamp.Stamp.{Stamp}
use Rattle.words.specs.Stamps.{earlier}
use Rattle.words.specs.declared.message.Kind.{Kind}
use Rattle.words.specs.declared.message.Kind.TheVariants.{Write}
use Rattle.words.specs.declared.message.LineState.{LineState}
use Rattle.protocol.specs.Messages.{Block}
use Rattle.words.specs.LineStates.{is_owned}
use Rattle.protocol.specs.Lines.{Line, is_enough, line_given, line_filled, line_cleared, owned_content, refuses as line_refuses}
use Rattle.protocol.specs.Hart.{PutOut, put_content, LogRecord}
use Rattle.protocol.specs.Requests.{have_answered, content_back}
use Rattle.isolation.proofs.OneBlock.Model.State.{sooner, value_of}
use Rattle.isolation.proofs.OneBlock.Model.Core.{enough, clear_marks}
use Rattle.isolation.proofs.OneBlock.Model.Messages.{refuses, carried, after_fwd, first_of_two, filled, sent_back, complete}
use Rattle.isolation.proofs.Machine.World.{copy_of, put_out_at, images_of}

-- whether a hart refuses a forward
pub refuses_same : (l : Option Line) (o : Bool) (k : Kind) → refuses (copy_of l) o k ≡ line_refuses l o k
refuses_same l o k = grind arith

-- what is enough for an access
pub enough_same : (k : Kind) (l : Option Line) → enough k (copy_of l) ≡ is_enough k l
enough_same k l = grind arith

-- an E or M line is one that is enough for a write
pub owned_same : (l : Line) → enough Write (copy_of (Some l)) ≡ is_owned l.state
owned_same l = grind arith

-- so it is for a hart that has that line
pub owned_enough : (o : Option Line) (l : Line) → o ≡ Some l → is_owned l.state ≡ true → enough Write (copy_of o) ≡ true
owned_enough o l e f = ap (λ z. enough Write (copy_of z)) e ∙ owned_same l ∙ f

-- a line once the transaction is over
pub cleared_same : (o : Option Line) → copy_of (line_cleared o) ≡ clear_marks (copy_of o)
cleared_same None = refl
cleared_same (Some l) = refl

-- what a forward leaves of a line
pub given_same : (k : Kind) (l : Option Line) → copy_of (line_given k l) ≡ after_fwd k (copy_of l)
given_same k l = grind arith

-- and what its hart answers with
pub held_same : (b : ℕ) (l : Option Line) (p : Option PutOut) → option_or (owned_content l) (put_content b p) ≡ carried (copy_of l) (put_out_at b p)
held_same b l p = grind arith

-- the line of a granted request
pub filled_same : (g : LineState) (o : Bool) (d : Block) (l : Option Line) → copy_of (Some (line_filled g o d l)) ≡ filled g o d (copy_of l)
filled_same g o d l = grind arith

-- and what goes back to the directory
pub back_same : (g : LineState) (d : Option Block) → content_back g d ≡ sent_back g d
back_same g d = grind arith

-- of two contents the first that there is
pub first_same : (c d : Option Block) → option_or c d ≡ first_of_two c d
first_same None d = refl
first_same (Some x) d = refl

-- the content that a line is filled with
pub value_same : (c : Option Block) (d : Block) → unwrap_or c d ≡ value_of c d
value_same None d = refl
value_same (Some x) d = refl

-- whether all have answered
pub complete_same : (n : ℕ) (e f : ℕ → Bool) → have_answered n e f ≡ complete n e f
complete_same zero e f = refl
complete_same (suc n) e f = ap (λ q. q && (not (e n) || f n)) (complete_same n e f)

-- a record is an image of its block, and of no other
pub record_here : (r : LogRecord) (rest : List LogRecord) → images_of r.block (r ∷ rest) ≡ r.before ∷ images_of r.block rest
record_here r rest = ap (λ z. cond z (r.before ∷ images_of r.block rest) (images_of r.block rest)) (eq-eqb r.block r.block refl)

pub record_off : (r : LogRecord) (rest : List LogRecord) (b : ℕ) → b ≢ r.block → images_of b (r ∷ rest) ≡ images_of b rest
record_off r rest b n = ap (λ z. cond z (r.before ∷ images_of b rest) (images_of b rest)) (ne_eqb r.block b (λ z. n (sym z)))

-- the order of requests
pub sooner_is : (a b : Option Stamp) → sooner a b ≡ earlier a b
unfolding sooner
sooner_is a b = refl
