-- Runs: from the start the invariant holds, each run keeps it, and all that is known of a state follows from it.
use Rattle.std.proofs.Common.{ℕ, Option, None, refl, sym, ◌∙◌, arith}
use Rattle.words.specs.declared.message.Kind.{Kind}
use Rattle.protocol.specs.Messages.{Block}
use Rattle.isolation.proofs.OneBlock.Model.State.{Absent, Own, One}
use Rattle.isolation.proofs.OneBlock.Model.Directory.{Nothing}
use Rattle.isolation.proofs.OneBlock.Model.Step.{Step}
use Rattle.isolation.proofs.OneBlock.Model.Start.{at_rest, start, Run, Here, Then}
use Rattle.isolation.proofs.OneBlock.Invariant.Roles.{Aside, Keeps}
use Rattle.isolation.proofs.OneBlock.Invariant.Laws.{Known}
use Rattle.isolation.proofs.OneBlock.Invariant.Each.{Cover, Logs, Sound, Good}
use Rattle.isolation.proofs.OneBlock.Steps.Keeps.{keeps}
use Rattle.isolation.proofs.OneBlock.Facts.InPlaceFacts.{located}
use Rattle.isolation.proofs.OneBlock.Facts.RequestFacts.{one_request, expected_come}
use Rattle.isolation.proofs.OneBlock.Facts.AskerFacts.{askers}
use Rattle.isolation.proofs.OneBlock.Facts.LineFacts.{lines}
use Rattle.isolation.proofs.OneBlock.Facts.AckFacts.{acknowledged}
use Rattle.isolation.proofs.OneBlock.Facts.SetFacts.{sets}
use Rattle.isolation.proofs.OneBlock.Facts.ValueFacts.{values, accesses}
use Rattle.isolation.proofs.OneBlock.Facts.ReasonFacts.{reasons}
use Rattle.isolation.proofs.OneBlock.Facts.FreeFacts.{free}

abbrev quiet_own : Option Kind → Own
quiet_own a = (at_rest a).own

at_rest_cover : (a : Option Kind) → Cover Nothing Absent (quiet_own a)
at_rest_cover a = grind arith

at_rest_logs : (m : Block) (h : ℕ) (a : Option Kind) → Logs m m None h (quiet_own a)
at_rest_logs m h a = grind arith

at_rest_sound : (a : Option Kind) → Sound (quiet_own a)
at_rest_sound a = grind arith

-- a block at the start is good
pub begins : (n : ℕ) (m : Block) (a : ℕ → Option Kind) → Good n (start m a)
begins n m a = record {
  busy = None;
  asker = Aside;
  cur = m;
  writer = None;
  ghost = λ _. record { role = Aside; want = None; keep = Keeps Absent };
  inv = record {
    busy_is = refl;
    owner_in = λ o e. absurd (cc);
    busy_in = λ o e. absurd (cc);
    writer_in = λ o e. absurd (cc);
    agree = refl;
    expects = tt;
    center = refl;
    flat = λ e. refl;
    lone = λ h. tt;
    within = λ h e. absurd (e refl);
    each = λ h b. record { is = refl; line = tt; put = tt; part = refl; want = tt; why = tt; cover = at_rest_cover (a h); logs = at_rest_logs m h (a h); sound = at_rest_sound (a h); marked = tt };
  };
}

-- a step of a good state leads to a good one
pub goes_on : (n : ℕ) (s t : One) → Good n s → Step n s t → Good n t
goes_on n s t g e = keeps n s g.busy g.asker g.cur g.writer g.ghost g.inv t e

-- and so do any steps
pub reached : (n : ℕ) (s t : One) → Good n s → Run n s t → Good n t
reached n s t g Here = g
reached n s t g (Then u v r e) = goes_on n u t (reached n s u g r) e

-- what is known of a good state
pub known : (n : ℕ) (s : One) → Good n s → Known n s
known n s g = record {
  cur = g.cur;
  busy_in = λ q e. g.inv.busy_in q (sym g.inv.busy_is ∙ e);
  request = one_request n s g.busy g.asker g.cur g.writer g.ghost g.inv;
  expected = expected_come n s g.busy g.asker g.cur g.writer g.ghost g.inv;
  askers = askers n s g.busy g.asker g.cur g.writer g.ghost g.inv;
  free = free n s g.busy g.asker g.cur g.writer g.ghost g.inv;
  lines = lines n s g.busy g.asker g.cur g.writer g.ghost g.inv;
  acknowledged = acknowledged n s g.busy g.asker g.cur g.writer g.ghost g.inv;
  sets = sets n s g.busy g.asker g.cur g.writer g.ghost g.inv;
  values = values n s g.busy g.asker g.cur g.writer g.ghost g.inv;
  located = located n s g.busy g.asker g.cur g.writer g.ghost g.inv;
  accesses = accesses n s g.busy g.asker g.cur g.writer g.ghost g.inv;
  reasons = reasons n s g.busy g.asker g.cur g.writer g.ghost g.inv;
}
