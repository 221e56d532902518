-- What a buffer before a writer makes of the bytes that the writer tells.
use Rattle.std.proofs.Common.{◌≡◌, ◌∙◌, ℕ, ◌≤◌, ◌++◌, List, [], true≢false, Option, Some, None, Result, Ok, Err, refl, sym, ap, append-nil, length, take, is_some, arith, IsErr}
use Rattle.std.specs.Option.{option_map}
use Rattle.std.specs.Io.KnownBytes.{Appends, Keeps, append_known}
use Rattle.words.specs.Sinks.{TookBeginning}
use Rattle.requests.specs.Buffers.{Wrote}

-- known bytes with more after them are known just where they were
known : (a : Option (List ℕ)) (more : List ℕ) → is_some (append_known a more) ≡ is_some a
known None more = refl
known (Some bytes) more = refl

-- the bytes of a writer that always tells them, or never
grown : (a b : Option (List ℕ)) (bytes : List ℕ) → is_some a ≡ is_some b → Appends a b bytes → b ≡ option_map (λ before. before ++ bytes) a
grown None None bytes same appends = refl
grown None (Some more) bytes same appends = absurd (true≢false (sym same))
grown (Some before) None bytes same appends = absurd appends
grown (Some before) (Some more) bytes same appends = ap (λ l. Some l) appends

same_bytes : (a b : Option (List ℕ)) → is_some a ≡ is_some b → Keeps a b → b ≡ a
same_bytes None None same keeps = refl
same_bytes None (Some more) same keeps = absurd (true≢false (sym same))
same_bytes (Some before) None same keeps = absurd keeps
same_bytes (Some before) (Some more) same keeps = ap (λ l. Some l) keeps

-- the same with what a buffer keeps back after them
pub took : (a b : Option (List ℕ)) (old new bytes : List ℕ) → is_some a ≡ is_some b → Appends (append_known a old) (append_known b new) bytes
    → append_known b new ≡ option_map (λ before. before ++ bytes) (append_known a old)
took a b old new bytes steady appends = grown (append_known a old) (append_known b new) bytes (known a old ∙ steady ∙ sym (known b new)) appends

pub took_beginning : (a b : Option (List ℕ)) (old new bytes : List ℕ) → is_some a ≡ is_some b → (n : ℕ) × (n ≤ length bytes) × Appends (append_known a old) (append_known b new) (take n bytes)
    → TookBeginning (append_known a old) (append_known b new) bytes
took_beginning a b old new bytes steady part = (part.0, part.1, took a b old new (take part.0 bytes) steady part.2)

pub stayed : (a b : Option (List ℕ)) (old new : List ℕ) → is_some a ≡ is_some b → Keeps (append_known a old) (append_known b new) → append_known b new ≡ append_known a old
stayed a b old new steady keeps = same_bytes (append_known a old) (append_known b new) (known a old ∙ steady ∙ sym (known b new)) keeps

nothing_more : (a : Option (List ℕ)) → a ≡ option_map (λ before. before ++ []) a
nothing_more None = refl
nothing_more (Some bytes) = ap (λ l. Some l) (sym (append-nil bytes))

-- nothing more was taken
pub took_no_more : (a b : Option (List ℕ)) → b ≡ a → b ≡ option_map (λ before. before ++ []) a
took_no_more a b same = same ∙ nothing_more a

pub took_none : (a b : Option (List ℕ)) → b ≡ a → TookBeginning a b []
took_none a b same = (0, omega arith, took_no_more a b same)

-- what a buffer has is what it has handed on, once it keeps nothing back
pub all_handed_on : (a : Option (List ℕ)) (kept : List ℕ) → kept ≡ [] → a ≡ append_known a kept
all_handed_on a kept none = nothing_more a ∙ ap (λ l. append_known a l) (sym none)

-- a write that failed took a beginning
pub wrote_part : {E : Type 0} (a b : Option (List ℕ)) (bytes : List ℕ) (r : Result Unit E) → IsErr r → (n : ℕ) × (n ≤ length bytes) × Appends a b (take n bytes) → Wrote a b bytes r
wrote_part a b bytes (Ok _) failed part = absurd (true≢false (sym failed))
wrote_part a b bytes (Err _) failed part = part
