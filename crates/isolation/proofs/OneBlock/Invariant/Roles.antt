-- Ghosts: what part each hart has in the request that the block is busy with, and the state that they stand for.
use Rattle.std.proofs.Common.{ℕ, Bool, true, false, Option, None, Some, cond}
use Rattle.words.specs.declared.stamp.Stamp.{Stamp}
use Rattle.words.specs.declared.message.Kind.{Kind}
use Rattle.words.specs.declared.message.Kind.TheVariants.{Read, Write}
use Rattle.words.specs.declared.message.LineState.{LineState}
use Rattle.words.specs.declared.message.LineState.TheVariants.{Shared, Exclusive, Modified}
use Rattle.protocol.specs.Messages.{Block, Granted}
use Rattle.isolation.proofs.OneBlock.Model.State.{Copy, Absent, Wait, Own, Fwd, Local}
use Rattle.isolation.proofs.OneBlock.Model.Core.{fresh}
use Rattle.isolation.proofs.OneBlock.Model.Directory.{Rights, Owns, Shares, Sticks, Nothing}

-- the request that the directory has taken
pub record Ask : Type 0 where
  pub kind : Kind
  pub grant : Granted
  pub sent : Bool  -- the Granted is in flight
  pub from : ℕ → Bool
  pub nay : Bool
  pub kept : Option Block
  pub early : Bool
  pub stamp : Option Stamp
  pub noted : Bool

pub data Role : Type 0 where
  Aside : Role
  Told : (r : ℕ) (k : Kind) (s : Option Stamp) → Role
  Acking : (r : ℕ) (k : Kind) (d : Option Block) → Role
  Nacking : (r : ℕ) (s : Option Stamp) → Role
  Answered : (k : Kind) → Role
  Refused : Role
  Asks : (a : Ask) → Role
  Ends : (g : LineState) (d : Option Block) → Role
  Fails : Role

pub data Keep : Type 0 where
  Keeps : (line : Copy) → Keep
  Putting : (d : Block) (m : Bool) → Keep
  Put_over : (d : Block) (m : Bool) → Keep

pub record Ghost : Type 0 where
  pub role : Role
  pub want : Option (Kind × Option Stamp)
  pub keep : Keep

abbrev pub wanted : Option (Kind × Option Stamp) → Option Wait
wanted None = None
wanted (Some q) = Some (fresh q.0)

-- the messages and the request of each part
pub record Talk : Type 0 where
  pub wait : Option Wait
  pub grant : Option Granted
  pub fwd : Option Fwd
  pub ack : Option (ℕ × Option Block)
  pub nack : Option (ℕ × Option Stamp)
  pub done : Option (Bool × Option Block)

abbrev pub silent : Option (Kind × Option Stamp) → Talk
silent w = record { wait = wanted w; grant = None; fwd = None; ack = None; nack = None; done = None }

abbrev pub talk : Role → Option (Kind × Option Stamp) → Talk
talk Aside w = silent w
talk (Told r k s) w = record (silent w) { fwd = Some (record { kind = k; requester = r; stamp = s }) }
talk (Acking r k d) w = record (silent w) { ack = Some (r, d) }
talk (Nacking r s) w = record (silent w) { nack = Some (r, s) }
talk (Answered k) w = silent w
talk Refused w = silent w
talk (Asks a) w = record { wait = Some (record { kind = a.kind; grant = cond a.sent None (Some a.grant); from = a.from; refused = a.nay; content = a.kept; early = a.early }); grant = cond a.sent (Some a.grant) None; fwd = None; ack = None; nack = None; done = None }
talk (Ends g d) w = record (silent w) { done = Some (true, d) }
talk Fails w = record (silent w) { done = Some (false, None) }

abbrev pub line_of : Keep → Copy
line_of (Keeps x) = x
line_of (Putting d m) = Absent
line_of (Put_over d m) = Absent

abbrev pub put_of : Keep → Option (Block × Bool)
put_of (Keeps x) = None
put_of (Putting d m) = Some (d, m)
put_of (Put_over d m) = Some (d, m)

abbrev pub puts_of : Keep → Option (Block × Bool)
puts_of (Keeps x) = None
puts_of (Putting d m) = Some (d, m)
puts_of (Put_over d m) = None

abbrev pub put_ack_of : Keep → Bool
put_ack_of (Keeps x) = false
put_ack_of (Putting d m) = false
put_ack_of (Put_over d m) = true

-- the state that a ghost stands for
abbrev pub local_of : Ghost → Own → Local
local_of g o = record {
  line = line_of g.keep;
  put = put_of g.keep;
  puts = puts_of g.keep;
  put_ack = put_ack_of g.keep;
  get = g.want;
  wait = (talk g.role g.want).wait;
  grant = (talk g.role g.want).grant;
  fwd = (talk g.role g.want).fwd;
  ack = (talk g.role g.want).ack;
  nack = (talk g.role g.want).nack;
  done = (talk g.role g.want).done;
  own = o;
}

-- what is left of its rights to a hart that acknowledged
abbrev pub let_go : Kind → Rights → Rights
let_go Read Owns = Shares
let_go Read Shares = Shares
let_go Read Sticks = Nothing
let_go Read Nothing = Nothing
let_go Write st = Nothing

abbrev pub given : LineState → Rights
given Shared = Shares
given Exclusive = Owns
given Modified = Owns

-- what a hart's line goes by
abbrev pub rights : Role → Rights → Rights
rights Aside st = st
rights (Told r k s) st = st
rights (Acking r k d) st = let_go k st
rights (Nacking r s) st = st
rights (Answered k) st = let_go k st
rights Refused st = st
rights (Asks a) st = st
rights (Ends g d) st = given g
rights Fails st = st

abbrev pub left : LineState → Rights → Rights
left Shared st = let_go Read st
left Exclusive st = Nothing
left Modified st = Nothing

abbrev pub settled_end : LineState → Role → Rights → Rights
settled_end g Aside st = left g st
settled_end g (Told r k s) st = left g st
settled_end g (Acking r k d) st = left g st
settled_end g (Nacking r s) st = left g st
settled_end g (Answered k) st = left g st
settled_end g Refused st = left g st
settled_end g (Asks a) st = left g st
settled_end g (Ends j d) st = given j
settled_end g Fails st = left g st

-- what its Put goes by: the standing as it will be when the Done ok that is in flight has come. The first role is the requester's
abbrev pub settled : Role → Role → Rights → Rights
settled Aside role st = st
settled (Told r k s) role st = st
settled (Acking r k d) role st = st
settled (Nacking r s) role st = st
settled (Answered k) role st = st
settled Refused role st = st
settled (Asks a) role st = st
settled (Ends g d) role st = settled_end g role st
settled Fails role st = st
