use Rattle.std.proofs.Common.{◌≢◌, ◌∷◌, [], refl}
use Rattle.std.specs.Io.Iter.{bytes_remaining}
use Rattle.std.specs.Io.KnownBytes.{Consumes}
use Rattle.std.proofs.lemmas.List.Elements.{All-push}
use Rattle.debugger.proofs.Keeping.{kept_more, consumes_more, came}
use Rattle.debugger.proofs.input.TypedLineInput.read_line.Goals as goal

pub returns-in-Some-Ok-eq10 : goal.returns-in-Some-Ok-eq10
returns-in-Some-Ok-eq10 g c =
    let read = c.loop.invariant in
    let feed : Consumes (bytes_remaining g.R.Read.remaining c.loop.self.bytes) (bytes_remaining g.R.Read.remaining c.next.new.self) (10 ∷ []) =
    came _ _ c.next.result c.in-Some-Ok-eq10.field-0 c.in-Some-Ok-eq10.field-0-0 10 c.in-Some-Ok-eq10.is c.in-Some-Ok-eq10.field-0-is c.in-Some-Ok-eq10.field-0-0-test c.next.ensures.steps in
    ((read.0, read.1, read.2, consumes_more (bytes_remaining g.R.Read.remaining c.args.self.now.bytes) (bytes_remaining g.R.Read.remaining c.loop.self.bytes) (bytes_remaining g.R.Read.remaining c.next.new.self) read.0 (10 ∷ []) read.3 feed), read.4)

pub loop-preserved : goal.loop-preserved
loop-preserved g c =
    let read = c.loop.invariant in
    let byte : Consumes (bytes_remaining g.R.Read.remaining c.loop.self.bytes) (bytes_remaining g.R.Read.remaining c.next.new.self) (c.in-Some-Ok.byte ∷ []) =
    came _ _ c.next.result c.in-Some-Ok.field-0 c.in-Some-Ok.byte c.in-Some-Ok.byte c.in-Some-Ok.is c.in-Some-Ok.field-0-is refl c.next.ensures.steps in (
      _,
      All-push (λ b. b ≢ 10) read.0 c.in-Some-Ok.byte read.1 c.in-Some-Ok.byte-test.1,
      kept_more c.loop.kept.items c.keep.new.kept.items read.0 c.in-Some-Ok.byte read.2 c.keep.ensures,
      consumes_more _ (bytes_remaining g.R.Read.remaining c.loop.self.bytes) (bytes_remaining g.R.Read.remaining c.next.new.self) read.0 (c.in-Some-Ok.byte ∷ []) read.3 byte,
      read.4,
    )
