-- The bytes of what lines make.
use Rattle.std.proofs.Common.{◌≡◌, ℕ, ◌+◌, ◌*◌, suc, List, [], ◌∷◌, ◌++◌, length, take, refl, sym, ap, ap₂, ◌∙◌, arith, append_assoc, append-nil, length-append}
use Rattle.std.specs.Int.{w32, to_le_bytes}
use Rattle.words.specs.declared.entry.Width.{Width}
use Rattle.words.specs.declared.entry.Width.TheVariants.{Byte, Half, Word}
use Rattle.words.specs.Bytes.{bytes_in}
use Rattle.statements.specs.Statements.{Made}
use Rattle.statements.specs.Statements.Made.{Nothing, Enter, One, Two, Numbers, Zeros}
use Rattle.statements.specs.Places.{Labels}
use Rattle.assembler.specs.Passes.{Layout}
use Rattle.statements.specs.Bytes.{IsWordOf, low_bytes, AreBytesOf}
use Rattle.assembler.specs.Programs.{AreBytesOfAll, IsProgramOf, segments_of}
use Rattle.table.specs.declared.instr.Instr.{Instr}
use Rattle.table.specs.Program.{Segment}
use Rattle.table.proofs.OneWord.{one_word}
use Rattle.loader.specs.Programs.{Program}

one_length : (w : Width) (v : ℕ) → length (take (bytes_in w) (to_le_bytes w32 v)) ≡ bytes_in w
one_length Byte v = refl
one_length Half v = refl
one_length Word v = refl

one_more : (w : Width) (n : ℕ) → bytes_in w + bytes_in w * n ≡ bytes_in w * suc n
one_more Byte n = omega arith
one_more Half n = omega arith
one_more Word n = omega arith

pub low_length : (w : Width) (vs : List ℕ) → length (low_bytes w vs) ≡ bytes_in w * length vs
low_length w [] = omega arith
low_length w (v ∷ vs) = length-append (take (bytes_in w) (to_le_bytes w32 v)) (low_bytes w vs) ∙ ap (λ n. n + length (low_bytes w vs)) (one_length w v) ∙ ap (λ n. bytes_in w + n) (low_length w vs) ∙ one_more w (length vs)

-- one line more
pub bytes_more : (ms : List Made) (m : Made) (bytes more : List ℕ) → AreBytesOfAll ms bytes → AreBytesOf m more → AreBytesOfAll (ms ++ m ∷ []) (bytes ++ more)
bytes_more [] m bytes more h one = (more, [], one, refl, ap (λ bs. bs ++ more) h ∙ sym (append-nil more))
bytes_more (n ∷ ms) m bytes more h one = (h.0, h.1 ++ more, h.2, bytes_more ms m h.1 more h.3 one, ap (λ bs. bs ++ more) h.4 ∙ append_assoc h.0 h.1 more)

-- What is made has its bytes alone.

same_word : (i : Instr) (a b : List ℕ) → IsWordOf i a → IsWordOf i b → a ≡ b
same_word i a b x y = x.spelled ∙ ap (to_le_bytes w32) (one_word x.word y.word i x.bound y.bound x.decodes y.decodes) ∙ sym y.spelled

same_bytes : (m : Made) (a b : List ℕ) → AreBytesOf m a → AreBytesOf m b → a ≡ b
same_bytes Nothing a b x y = x ∙ sym y
same_bytes (Enter s) a b x y = x ∙ sym y
same_bytes (One i) a b x y = same_word i a b x y
same_bytes (Two i j) a b x y = x.4 ∙ ap₂ ◌++◌ (same_word i x.0 y.0 x.2 y.2) (same_word j x.1 y.1 x.3 y.3) ∙ sym y.4
same_bytes (Numbers w vs) a b x y = x ∙ sym y
same_bytes (Zeros n) a b x y = x ∙ sym y

same_all : (ms : List Made) (a b : List ℕ) → AreBytesOfAll ms a → AreBytesOfAll ms b → a ≡ b
same_all [] a b x y = x ∙ sym y
same_all (m ∷ ms) a b x y = x.4 ∙ ap₂ ◌++◌ (same_bytes m x.0 y.0 x.2 y.2) (same_all ms x.1 y.1 x.3 y.3) ∙ sym y.4

-- and what is assembled is one program
pub same_program : (labels : Labels) (l : Layout) (p q : Program) → IsProgramOf labels l p → IsProgramOf labels l q → p ≡ q
same_program labels l p q x y =
    let text = same_all l.text x.text y.text x.image.text_made y.image.text_made in
    let bytes = same_all l.data_made x.bytes y.bytes x.image.data_made y.image.data_made in
    let segments : p.segments ≡ q.segments = x.segments ∙ ap₂ (segments_of labels.text_size) text bytes ∙ sym y.segments in
    let entry : p.entry ≡ q.entry = x.entry ∙ sym y.entry in
    ap₂ (λ (e : ℕ) (s : List Segment). record { entry = e; segments = s }) entry segments
