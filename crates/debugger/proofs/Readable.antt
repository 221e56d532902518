-- What is read of a machine, once its hart and its address are tested.
use Rattle.std.proofs.Common.{◌≡◌, ℕ, ◌<◌, Bool, true, false, cond, nat_lt, List, Option, Some, None, Result, Ok, Err, arith, refl, sym, ap, subst, ◌∙◌}
use Rattle.std.specs.Prelude.{IsSome, is_some}
use Rattle.std.specs.Option.{option_map}
use Rattle.std.proofs.lemmas.Bool.Decides.{nat_tests}
use Rattle.std.proofs.lemmas.Option.{same_Some}
use Rattle.words.specs.Bytes.{number_at}
use Rattle.words.specs.declared.entry.Width.TheVariants.{Word}
use Rattle.flat.specs.State.{Setting}
use Rattle.flat.specs.Reads.{is_readable, word_if}
use Rattle.network.specs.declared.net.Flight.{Flight}
use Rattle.network.proofs.OneOrder.{past, past_all}
use Rattle.protocol.specs.Machine.{Machine}
use Rattle.protocol.specs.Messages.{shown}
use Rattle.protocol.specs.Network.{LiesBelow}
use Rattle.protocol.specs.Values.{view}
use Rattle.machine.specs.Mail.{in_flight}
use Rattle.machine.specs.Reads.{regs_if, view_if, log_word}
use Rattle.machine.specs.States.{State}
use Rattle.debugger.specs.declared.commands.fault.DebugFault.{DebugFault}
use Rattle.debugger.specs.declared.commands.fault.DebugFault.TheVariants.{NoHart, Address}
use Rattle.debugger.specs.Refusals.{unless, hart_fault, word_fault, log_fault}

-- messages lie below a number above all of theirs
pub lies_below : (flights : List Flight) → LiesBelow (past flights) (in_flight flights)
lies_below flights number above = ap (λ o. option_map shown (option_map (λ f. f.message) o)) (past_all flights number above)

-- a word that can be read is the number of its bytes
pub read : (s : Setting) (m : ℕ → ℕ) (a : ℕ) → is_readable s a ≡ true → word_if s m a ≡ Some (number_at m a Word)
read s m a readable = rw readable refl

pub read-same : (s : Setting) (m : ℕ → ℕ) (a v : ℕ) (o : Option ℕ) → is_readable s a ≡ true → o ≡ word_if s m a → o ≡ Some v → v ≡ number_at m a Word
read-same s m a v o readable is some = same_Some v (number_at m a Word) (sym some ∙ is ∙ read s m a readable)

-- a hart sees a word where it is one
pub seen : (bound : ℕ) (w : Machine) (i a : ℕ) → i < w.setting.count → view_if bound w i a ≡ word_if w.setting (view bound w i) a
seen bound w i a hart = let t : nat_lt i w.setting.count ≡ true = grind (arith, nat_tests) in rw t refl

pub regs_of : (w : Machine) (i : ℕ) → i < w.setting.count → regs_if w i ≡ Some ((w.harts i).regs, (w.harts i).pc, (w.harts i).status)
regs_of w i hart = let t : nat_lt i w.setting.count ≡ true = grind (arith, nat_tests) in rw t refl

-- what the tests say
pub unless-ok : {A : Type 0} (fault : Option DebugFault) (x y : A) → Ok x ≡ unless fault y → fault ≡ None
unless-ok None x y is = refl
unless-ok (Some f) x y is = absurd (cc)

pub unless-same : {A : Type 0} (fault : Option DebugFault) (x y : A) → Ok x ≡ unless fault y → x ≡ y
unless-same None x y is = cc
unless-same (Some f) x y is = absurd (cc)

pub unless-err : {A : Type 0} (fault : Option DebugFault) (e : DebugFault) (y : A) → Err e ≡ unless fault y → fault ≡ Some e
unless-err None e y is = absurd (cc)
unless-err (Some f) e y is = cc

pub passed : (test : Bool) (f : DebugFault) → cond test None (Some f) ≡ None → test ≡ true
passed true f is = refl
passed false f is = absurd (cc)

-- a value that passed its test is the one that was asked for, and so passes it
tested : (fault : ℕ → Option DebugFault) (n x : ℕ) (r : Result ℕ DebugFault) → r ≡ Ok x → r ≡ unless (fault n) n → fault x ≡ None
tested fault n x r ok is =
    let found : Ok x ≡ unless (fault n) n = sym ok ∙ is in
    subst (λ (y : ℕ). fault y ≡ None) (sym (unless-same (fault n) x n found)) (unless-ok (fault n) x n found)

-- a hart is there; a word can be read; there is such a word of the logs
pub is_hart : (s : Setting) (n h : ℕ) (r : Result ℕ DebugFault) → r ≡ Ok h → r ≡ unless (hart_fault s n) n → h < s.count
is_hart s n h r ok is =
    let below : nat_lt h s.count ≡ true = passed (nat_lt h s.count) NoHart (tested (hart_fault s) n h r ok is) in
    grind (arith, nat_tests, below)

pub readable : (s : Setting) (n a : ℕ) (r : Result ℕ DebugFault) → r ≡ Ok a → r ≡ unless (word_fault s n) n → is_readable s a ≡ true
readable s n a r ok is = passed (is_readable s a) Address (tested (word_fault s) n a r ok is)

pub logged : (m : State) (n a : ℕ) (r : Result ℕ DebugFault) → r ≡ Ok a → r ≡ unless (log_fault m n) n → IsSome (log_word m a)
logged m n a r ok is = passed (is_some (log_word m a)) Address (tested (log_fault m) n a r ok is)
