-- What the plain machine finds out about a hart's word is what it takes to retire it.
use Rattle.std.proofs.Common.{◌≡◌, ℕ, Bool, true, false, Option, Some, None, Result, Ok, List, length, get_or, refl, sym, ap, subst, ◌∙◌}
use Rattle.std.specs.Prelude.{is_some, IsOkAnd, vec_len}
use Rattle.words.specs.declared.cause.Cause.{Cause}
use Rattle.words.specs.declared.entry.Entry.{Entry}
use Rattle.table.specs.declared.effect.Effect.{Effect}
use Rattle.table.specs.declared.effect.Act.{Act}
use Rattle.table.specs.declared.effect.Act.TheVariants as act
use Rattle.table.specs.Effects.{resolved, resolved_by}
use Rattle.table.specs.Program.{word_at}
use Rattle.flat.specs.State.{Setting, Flat, FlatHart, IsAllowed, flat_view, seen}
use Rattle.flat.specs.Causes.{next_of, done_next, act_cause, ◌>>=◌}
use Rattle.flat.proofs.Next.{done_ok}
use Rattle.flat.specs.Effects.{retire_of, store_by}
use Rattle.flat.specs.Steps.{Retires, IsRunning, Carries, retired, is_abort}
use Rattle.reference.specs.declared.hart.Hart.{Hart}
use Rattle.reference.specs.declared.machine.Machine.{Machine}
use Rattle.loader.specs.Memory.{mem_of}
use Rattle.reference.specs.States.{hart_of, view_of}
use Rattle.reference.specs.Machines.{setting_of, flat_of, CanRetire}
use Rattle.reference.proofs.Moved.{hart_at}

-- the entry of a hart's word, as the flat state has it
pub entry_is : (m : Machine) (i w : ℕ) (h : Hart) (does : Effect) (e : Entry) (bytes : List ℕ)
    → h ≡ get_or m.harts.items i h → IsRunning (flat_of m) i
    → e ≡ retire_of (view_of bytes h) i (hart_of (length bytes) h) w does
    → bytes ≡ m.memory.items → length bytes ≡ vec_len m.memory
    → e ≡ retire_of (flat_view (flat_of m) i) i ((flat_of m).hart i) w does
entry_is m i w h does e bytes is runs entry same size =
    let at = hart_at m i h runs.hart is in
    let mem = λ (b : List ℕ) (a : ℕ). mem_of b a in
    let E = λ (b : List ℕ) (n : ℕ). retire_of (λ a. seen (hart_of n h).tx (mem b) a) i (hart_of n h) w does in
    let F = λ (x : FlatHart). retire_of (λ a. seen x.tx (mem m.memory.items) a) i x w does in
    let G : e ≡ E m.memory.items (vec_len m.memory) = entry ∙ ap (λ b. E b (length bytes)) same ∙ ap (λ n. E m.memory.items n) size in
    G ∙ sym (ap F at)

-- what a word does is done, where it is known whether a conditional store succeeds
pub done : (s : Setting) (h : FlatHart) (b : Bool) (e : Effect) → next_of s h ≡ Ok e → done_next b s h ≡ Ok (resolved b e)
done s h b e k = ap (λ r. r >>= (λ d. Ok (resolved b d))) k

-- so its act has no cause
pub done_cause : (s : Setting) (h : FlatHart) (b : Bool) (e d : Effect) → next_of s h ≡ Ok e → d ≡ resolved b e → act_cause s h d.act ≡ None
done_cause s h b e d k is = done_ok s h b d (done s h b e k ∙ ap (λ x. Ok x) (sym is))

pub can_cause : (f : Flat) (i w : ℕ) (b : Bool) (d : Effect) (e : Entry) → CanRetire f i b w d e → act_cause f.setting (f.hart i) d.act ≡ None
can_cause f i w b d e can = done_ok f.setting (f.hart i) b d can.0

-- what is no TABORT is none once it is known whether a conditional store succeeds
pub no_abort : (b : Bool) (e : Effect) → is_abort e.act ≡ false → is_abort (resolved b e).act ≡ false
no_abort b e k = by e.act k b where
  by : (a : Act) → is_abort a ≡ false → (b : Bool) → is_abort (resolved_by b (record e { act = a }) a).act ≡ false
  by (act.Conditional rd m) k true = refl
  by (act.Conditional rd m) k false = refl
  by a k b = k

-- a conditional store that fails shows no store, and any other word does the same either way
again : (view : ℕ → ℕ) (e : Effect) → resolved (is_some (store_by view (resolved false e).act)) e ≡ resolved false e
again view e = by e.act (is_some (store_by view (resolved false e).act)) refl where
  by : (a : Act) (b : Bool) → is_some (store_by view (resolved_by false (record e { act = a }) a).act) ≡ b → resolved_by b (record e { act = a }) a ≡ resolved_by false (record e { act = a }) a
  by (act.Conditional rd m) true k = absurd (cc)
  by (act.Conditional rd m) false k = refl
  by a b k = refl

-- and its entry carries the flat state to the one after the effect
pub can_carry : (f g : Flat) (i w : ℕ) (does d : Effect) (e : Entry) → d ≡ resolved false does → IsRunning f i → word_at f.setting.segments (f.hart i).pc ≡ Some w → next_of f.setting (f.hart i) ≡ Ok does
    → is_abort does.act ≡ false → IsAllowed f i d.act → e ≡ retire_of (flat_view f i) i (f.hart i) w d → g ≡ retired f i d → Carries f e g
can_carry f g i w does d e same runs word next quiet allowed entry new =
    let shown = retire_of (flat_view f i) i (f.hart i) w d in
    let b = is_some (store_by (flat_view f i) d.act) in
    let P = λ (r : Result Effect Cause). IsOkAnd r (λ d. Retires f i w d shown g) in
    let r : Retires f i w d shown g = record {
      running = runs;
      fetched = word;
      no_abort = subst (λ (d : Effect). is_abort d.act ≡ false) (sym same) (no_abort false does quiet);
      allowed = allowed;
      entry = refl;
      after = new;
    } in
    let C = λ (e : Entry). Carries f e g in
    let once : resolved b does ≡ d = ap (λ (x : Effect). resolved (is_some (store_by (flat_view f i) x.act)) does) same ∙ (again (flat_view f i) does ∙ sym same) in
    let is : done_next b f.setting (f.hart i) ≡ Ok d = done f.setting (f.hart i) b does next ∙ ap (λ d. Ok d) once in
    subst C (sym entry) (subst P (sym is) r)
