-- A hart stays within memory where it is given only lines, records, a request and a Put of blocks in memory.
use Rattle.std.proofs.Common.{◌≡◌, ℕ, Bool, true, false, Option, None, Some, cond, refl, sym, subst}
use Rattle.std.specs.Prelude.{◌==◌, All, IsSome, IfSome}
use Rattle.std.specs.Option.{ForSome, option_map}
use Rattle.std.proofs.lemmas.Option.{same_Some}
use Rattle.std.proofs.lemmas.List.Elements.{All-nil}
use Rattle.flat.specs.Bytes.{put_at}
use Rattle.flat.specs.State.{Setting}
use Rattle.flat.proofs.Maps.{one_number}
use Rattle.protocol.specs.Messages.{Message, block_of}
use Rattle.protocol.specs.Lines.{Line, line_cleared}
use Rattle.protocol.specs.Hart.{Hart, Transaction, LogRecord, Request, PutOut, HartResult, log_of, with_line}
use Rattle.isolation.specs.Memory.{LiesInMemory, HartIsWithin}

abbrev pub RecordLies : Setting → LogRecord → Type 0
RecordLies s r = LiesInMemory s r.block

abbrev pub MessageLies : Setting → Message → Type 0
MessageLies s m = LiesInMemory s (block_of m)

-- a row leaves its hart within memory, and what it sends is about a block in memory
pub record ResultIsWithin (s : Setting) (t : HartResult) : Type 0 where
  pub hart : HartIsWithin s t.hart
  pub sent : IfSome t.sent (MessageLies s)

-- what holds of the value holds of whatever value it is
pub for_some : {A : Type 0} (P : A → Type 0) (o : Option A) → IfSome o P → ForSome o P
for_some P None k x e = absurd (cc)
for_some P (Some y) k x e = subst P (same_Some y x e) k

-- one row or another
pub either : (s : Setting) (z : Bool) (t u : HartResult) → ResultIsWithin s t → ResultIsWithin s u → ResultIsWithin s (cond z t u)
either s true t u a b = a
either s false t u a b = b

-- one line put among others
line_put : (P : ℕ → Type 0) (b : ℕ) (l : Option Line) (lines : ℕ → Option Line) → P b → ((c : ℕ) → IsSome (lines c) → P c)
    → (c : ℕ) → IsSome (put_at b l lines c) → P c
line_put P b l lines here others c = by_place (c == b) refl
  where
    by_place : (z : Bool) → (c == b) ≡ z → IsSome (cond z l (lines c)) → P c
    by_place true e k = subst P (sym (one_number c b e)) here
    by_place false e k = others c k

-- a line that is cleared was there
was_there : (o : Option Line) → IsSome (line_cleared o) → IsSome o
was_there None k = k
was_there (Some l) k = refl

-- a change to a transaction that leaves its log
pub log_left : (change : Transaction → Transaction) → ((t : Transaction) → (change t).log ≡ t.log) → (o : Option Transaction)
    → log_of (option_map change o) ≡ log_of o
log_left change same None = refl
log_left change same (Some t) = same t

module _ (s : Setting) (h : Hart) (f : HartIsWithin s h) where
  -- a hart with the same lines, records, request and Put
  pub same : (k : Hart) → k.lines ≡ h.lines → log_of k.tx ≡ log_of h.tx → k.request ≡ h.request → k.put ≡ h.put
      → HartIsWithin s k
  same k lines log request put = record {
    lines = subst (λ (z : ℕ → Option Line). (b : ℕ) → IsSome (z b) → LiesInMemory s b) (sym lines) f.lines;
    records = subst (All (RecordLies s)) (sym log) f.records;
    request = subst (λ z. ForSome z (λ (r : Request). LiesInMemory s r.block)) (sym request) f.request;
    put = subst (λ z. ForSome z (λ (p : PutOut). LiesInMemory s p.block)) (sym put) f.put;
  }

  -- a line is put, or taken
  pub with_line_put : (b : ℕ) (l : Option Line) → LiesInMemory s b → HartIsWithin s (with_line b l h)
  with_line_put b l here = record {
    lines = line_put (LiesInMemory s) b l h.lines here f.lines;
    records = f.records;
    request = f.request;
    put = f.put;
  }

  -- a transaction begins or goes on
  pub with_transaction : (t : Transaction) → All (RecordLies s) t.log → HartIsWithin s (record h { tx = Some t })
  with_transaction t records = record { lines = f.lines; records = records; request = f.request; put = f.put }

  -- or ends, and no line keeps its marks
  pub without_transaction : HartIsWithin s (record h { tx = None; lines = λ b. line_cleared (h.lines b) })
  without_transaction = record {
    lines = λ b k. f.lines b (was_there (h.lines b) k);
    records = All-nil (RecordLies s);
    request = f.request;
    put = f.put;
  }

  -- a request is out, or over
  pub with_request : (o : Option Request) → IfSome o (λ r. LiesInMemory s r.block) → HartIsWithin s (record h { request = o })
  with_request o lies = record {
    lines = f.lines;
    records = f.records;
    request = for_some (λ r. LiesInMemory s r.block) o lies;
    put = f.put;
  }

  -- and so is a Put
  pub with_put : (o : Option PutOut) → IfSome o (λ p. LiesInMemory s p.block) → HartIsWithin s (record h { put = o })
  with_put o lies = record {
    lines = f.lines;
    records = f.records;
    request = f.request;
    put = for_some (λ p. LiesInMemory s p.block) o lies;
  }
