-- What `==` says of a hart's request and Put.
use Rattle.std.proofs.Common.{rules, ◌≡◌, Bool, Option, Some, None, refl, sym, ap, Decides}
use Rattle.std.specs.Cmp.{booleans_Decides}
use Rattle.std.specs.Option.{option_eq}
use Rattle.std.proofs.lemmas.Option.{same_Some, none-some}
use Rattle.std.proofs.lemmas.Bool.{false≢true}
use Rattle.std.specs.Cmp.Lexicographic.{pointwise_decides}
use Rattle.std.proofs.lemmas.Bool.Decides.{Decides-eqb, Decides-and, Decides-like}
use Rattle.words.specs.declared.message.Kind.{Kind}
use Rattle.words.specs.declared.message.LineState.{LineState}
use Rattle.words.specs.contracts.message.KindPartialEq.TheImpl as kind
use Rattle.words.specs.contracts.message.LineStatePartialEq.TheImpl as state
use Rattle.conflict.specs.declared.request.Granted.{Granted}
use Rattle.conflict.specs.declared.request.Request.{Request}
use Rattle.conflict.specs.declared.request.PutOut.{PutOut}
use Rattle.conflict.specs.contracts.request.GrantedPartialEq.TheImpl as granted
use Rattle.conflict.specs.contracts.request.RequestPartialEq.TheImpl as request
use Rattle.conflict.specs.contracts.request.PutOutPartialEq.TheImpl as put

-- `==` of options, from that of what they hold
pub decides_option : {A : Type 0} {E : A → A → Bool} → ((a b : A) → Decides (E a b) (a ≡ b)) → (x y : Option A) → Decides (option_eq E x y) (x ≡ y)
decides_option each None None = (λ _. refl, λ _. refl)
decides_option each None (Some b) = (λ e. absurd (false≢true e), λ e. absurd (none-some b e))
decides_option each (Some a) None = (λ e. absurd (false≢true e), λ e. absurd (none-some a (sym e)))
decides_option each (Some a) (Some b) = (λ e. ap Some ((each a b).0 e), λ e. (each a b).1 (same_Some a b e))

decides_kind : (a b : Kind) → Decides ((kind.ghosts).eq a b) (a ≡ b)
decides_kind a b = search rules

decides_state : (a b : LineState) → Decides ((state.ghosts).eq a b) (a ≡ b)
decides_state a b = search rules

decides_granted : (a b : Granted) → Decides ((granted.ghosts).eq a b) (a ≡ b)
decides_granted a b =
    Decides-like _ (λ h. search rules) (λ e. search rules)
    (Decides-and _ _ (pointwise_decides Decides-eqb a.content b.content)
    (Decides-and _ _ (decides_state a.give b.give)
    (Decides-eqb a.expect b.expect)))

pub decides_request : (a b : Request) → Decides ((request.ghosts).eq a b) (a ≡ b)
decides_request a b =
    Decides-like _ (λ h. search rules) (λ e. search rules)
    (Decides-and _ _ (Decides-eqb a.block b.block)
    (Decides-and _ _ (decides_kind a.kind b.kind)
    (Decides-and _ _ (decides_option decides_granted a.grant b.grant)
    (Decides-and _ _ (Decides-eqb a.answered b.answered)
    (Decides-and _ _ (booleans_Decides a.refused b.refused)
    (Decides-and _ _ (decides_option (pointwise_decides Decides-eqb) a.content b.content)
    (booleans_Decides a.earlier b.earlier)))))))

pub decides_put : (a b : PutOut) → Decides ((put.ghosts).eq a b) (a ≡ b)
decides_put a b =
    Decides-like _ (λ h. search rules) (λ e. search rules)
    (Decides-and _ _ (Decides-eqb a.block b.block)
    (Decides-and _ _ (pointwise_decides Decides-eqb a.content b.content)
    (booleans_Decides a.marked b.marked)))
