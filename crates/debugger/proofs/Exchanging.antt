-- One line after the other.
use Rattle.std.proofs.Common.{◌≡◌, ◌+◌, inl, inr, ℕ, suc, Bool, true, false, List, Result, Ok, Err, refl, sym, subst, add-one}
use Rattle.disassembler.specs.Tables.{Table}
use Rattle.debugger.specs.declared.fault.ConsoleFault.{ConsoleFault}
use Rattle.debugger.specs.declared.fault.ConsoleFault.TheVariants.{Unreadable}
use Rattle.debugger.specs.LineAnswers.{Answering}
use Rattle.debugger.specs.Plays.{Talk, Giving, Exchanges, Plays, IsPlayed}

module _ {D I : Type 0} (names : Table) (answers : Answering D) (gives : Giving I) (prompt : List ℕ) (n : ℕ) (v u w : Talk D I) (before : Plays names answers gives prompt n v u) where
  -- what an exchange said
  said : (r : Result Bool ConsoleFault) (more b : Bool) → r ≡ Ok more → more ≡ b → Exchanges names answers gives prompt u w r → Exchanges names answers gives prompt u w (Ok b)
  said r more b ok is made =
      let here : Exchanges names answers gives prompt u w (Ok more) = subst (λ (x : Result Bool ConsoleFault). Exchanges names answers gives prompt u w x) ok made in
      subst (λ (x : Bool). Exchanges names answers gives prompt u w (Ok x)) is here

  pub plays_more : (r : Result Bool ConsoleFault) (more : Bool) → r ≡ Ok more → more ≡ true → Exchanges names answers gives prompt u w r → Plays names answers gives prompt (n + 1) v w
  plays_more r more ok is made =
      let all : Plays names answers gives prompt (suc n) v w = (u, before, said r more true ok is made) in
      subst (λ (k : ℕ). Plays names answers gives prompt k v w) (sym (add-one n)) all

  pub played : (r : Result Bool ConsoleFault) (more : Bool) → r ≡ Ok more → more ≡ false → Exchanges names answers gives prompt u w r → IsPlayed names answers gives prompt v w (Ok tt)
  played r more ok is made = (n, u, before, said r more false ok is made)

  pub broken : (r : Result Bool ConsoleFault) (fault : ConsoleFault) → r ≡ Err fault → Exchanges names answers gives prompt u w r → IsPlayed names answers gives prompt v w (Err fault)
  broken r fault err made = (n, u, before, inl (subst (λ (x : Result Bool ConsoleFault). Exchanges names answers gives prompt u w x) err made))

-- the last line that there can be
pub used_up : {D I : Type 0} (names : Table) (answers : Answering D) (gives : Giving I) (prompt : List ℕ) (n : ℕ) (v w : Talk D I) → Plays names answers gives prompt n v w → n ≡ 18446744073709551615
    → IsPlayed names answers gives prompt v w (Err Unreadable)
used_up names answers gives prompt n v w before all = (n, w, before, inr (all, refl, refl))
