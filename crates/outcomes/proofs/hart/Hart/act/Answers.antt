use Rattle.std.proofs.Common.{◌≡◌, ◌∙◌, Option, length}
use Rattle.std.proofs.lemmas.Result.{on_ok_weaker}
use Rattle.words.specs.declared.cause.Status.TheVariants.{Running}
use Rattle.flat.specs.State.{FlatHart, Tx}
use Rattle.outcomes.specs.Harts.{view_of, hart_of}
use Rattle.outcomes.proofs.hart.Hart.act.Goals as goal

-- a hart that runs goes on running
goes_on : (h : FlatHart) (t : Option Tx) → h.status ≡ Running → record h { tx = t } ≡ record h { status = Running; tx = t }
goes_on h t e = λ i. record h { status = e i; tx = t }

pub returns-in-Begin-clause-hart : goal.returns-in-Begin-clause-hart
returns-in-Begin-clause-hart c = rw c.in-Begin.is (c.begin.ensures (view_of c.args.image.now c.args.memory.now c.args.self.now) (length c.args.image.now) ∙ goes_on (hart_of (length c.args.image.now) c.args.self.now) _ c.requires.running)

pub returns-in-Commit-clause-hart : goal.returns-in-Commit-clause-hart
returns-in-Commit-clause-hart c = rw c.in-Commit.is (on_ok_weaker c.commit.result (λ same. same (view_of c.args.image.now c.args.memory.now c.args.self.now) ∙ goes_on (hart_of (length c.args.image.now) c.args.self.now) _ c.requires.running) c.commit.ensures.tx)

pub returns-in-Commit-clause-memory : goal.returns-in-Commit-clause-memory
returns-in-Commit-clause-memory c = rw c.in-Commit.is (on_ok_weaker c.commit.result (λ same. same (view_of c.args.image.now c.args.memory.now c.args.self.now)) c.commit.ensures.memory)
