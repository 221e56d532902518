-- The invariant at one block: a record about one hart, and what all harts share.
use Rattle.std.proofs.Common.{◌≡◌, ◌≢◌, ℕ, Bool, true, false, Option, None, Some, eqb}
use Rattle.words.specs.declared.message.Kind.{Kind}
use Rattle.words.specs.declared.message.Kind.TheVariants.{Read, Write}
use Rattle.words.specs.declared.message.LineState.{LineState}
use Rattle.words.specs.declared.message.LineState.TheVariants.{Shared, Exclusive, Modified}
use Rattle.protocol.specs.Messages.{Block}
use Rattle.protocol.specs.Directory.{Owner}
use Rattle.isolation.proofs.OneBlock.Model.State.{sooner, Absent, Has}
use Rattle.isolation.proofs.OneBlock.Model.Directory.{Rights, Owns, Shares, Sticks, Nothing, must_tell}
use Rattle.isolation.proofs.OneBlock.Invariant.Roles.{Ask, Role, Aside, Told, Acking, Nacking, Answered, Refused, Asks, Ends, Fails, Keep, Keeps, Putting, Put_over}

-- a line, by what the hart may hold
abbrev pub LineOk : Rights → Block → Keep → Type 0
LineOk Owns cur (Keeps Absent) = ⊥
LineOk Owns cur (Keeps (Has Shared d m)) = ⊥
LineOk Owns cur (Keeps (Has Exclusive d m)) = (d ≡ cur) × (m.written ≡ false)
LineOk Owns cur (Keeps (Has Modified d m)) = d ≡ cur
LineOk Owns cur (Putting d m) = Unit {0}
LineOk Owns cur (Put_over d m) = ⊥
LineOk Shares cur (Keeps Absent) = Unit {0}
LineOk Shares cur (Keeps (Has Shared d m)) = (d ≡ cur) × (m.written ≡ false)
LineOk Shares cur (Keeps (Has Exclusive d m)) = ⊥
LineOk Shares cur (Keeps (Has Modified d m)) = ⊥
LineOk Shares cur (Putting d m) = Unit {0}
LineOk Shares cur (Put_over d m) = Unit {0}
LineOk Sticks cur (Keeps Absent) = Unit {0}
LineOk Sticks cur (Keeps (Has s d m)) = ⊥
LineOk Sticks cur (Putting d m) = Unit {0}
LineOk Sticks cur (Put_over d m) = Unit {0}
LineOk Nothing cur (Keeps Absent) = Unit {0}
LineOk Nothing cur (Keeps (Has s d m)) = ⊥
LineOk Nothing cur (Putting d m) = Unit {0}
LineOk Nothing cur (Put_over d m) = Unit {0}

-- a Put that is out, by the settled standing
abbrev pub PutOk : Rights → Block → Keep → Type 0
PutOk Nothing cur keep = Unit {0}
PutOk Owns cur (Keeps x) = Unit {0}
PutOk Owns cur (Putting d m) = d ≡ cur
PutOk Owns cur (Put_over d m) = d ≡ cur
PutOk Shares cur (Keeps x) = Unit {0}
PutOk Shares cur (Putting d m) = d ≡ cur
PutOk Shares cur (Put_over d m) = d ≡ cur
PutOk Sticks cur (Keeps x) = Unit {0}
PutOk Sticks cur (Putting d m) = d ≡ cur
PutOk Sticks cur (Put_over d m) = d ≡ cur

abbrev pub Fits : Option Block → Block → Type 0
Fits None cur = Unit {0}
Fits (Some d) cur = d ≡ cur

abbrev pub Carries : Rights → Block → Option Block → Type 0
Carries Owns cur d = d ≡ Some cur
Carries Shares cur d = Fits d cur
Carries Sticks cur d = Fits d cur
Carries Nothing cur d = ⊥

-- the forwards of a request that is given g
abbrev pub Goes : LineState → Kind → Type 0
Goes Shared Read = Unit {0}
Goes Shared Write = ⊥
Goes Exclusive k = ⊥
Goes Modified Read = ⊥
Goes Modified Write = Unit {0}

-- who isn't told
abbrev pub Untold : LineState → Rights → Type 0
Untold Shared Owns = ⊥
Untold Shared Sticks = ⊥
Untold Shared Shares = Unit {0}
Untold g Nothing = Unit {0}
Untold Exclusive Owns = ⊥
Untold Exclusive Sticks = ⊥
Untold Exclusive Shares = ⊥
Untold Modified Owns = ⊥
Untold Modified Sticks = ⊥
Untold Modified Shares = ⊥

-- the part of a hart other than the requester r, who is given g
abbrev pub OthersPart : ℕ → LineState → Block → Rights → Role → Type 0
OthersPart r g cur st Aside = Untold g st
OthersPart r g cur st (Told q k s) = (q ≡ r) × Goes g k × (must_tell g st ≡ true)
OthersPart r g cur st (Acking q k d) = (q ≡ r) × Goes g k × (must_tell g st ≡ true) × Carries st cur d
OthersPart r g cur st (Nacking q s) = (q ≡ r) × (must_tell g st ≡ true)
OthersPart r g cur st (Answered k) = Goes g k × (must_tell g st ≡ true)
OthersPart r g cur st Refused = must_tell g st ≡ true
OthersPart r g cur st (Asks a) = ⊥
OthersPart r g cur st (Ends j d) = ⊥
OthersPart r g cur st Fails = ⊥

-- the requester's own: the owner never asks, and a sticky owner is given Modified whatever it asks for
abbrev pub OwnFits : LineState → Rights → Kind → Type 0
OwnFits g Owns k = ⊥
OwnFits Modified Sticks k = Unit {0}
OwnFits Shared Sticks k = ⊥
OwnFits Exclusive Sticks k = ⊥
OwnFits Modified Shares Write = Unit {0}
OwnFits Modified Nothing Write = Unit {0}
OwnFits Modified Shares Read = ⊥
OwnFits Modified Nothing Read = ⊥
OwnFits Shared st Read = Unit {0}
OwnFits Exclusive st Read = Unit {0}
OwnFits Shared st Write = ⊥
OwnFits Exclusive st Write = ⊥

abbrev pub OwnEnds : LineState → Rights → Type 0
OwnEnds g Owns = ⊥
OwnEnds Modified Sticks = Unit {0}
OwnEnds Shared Sticks = ⊥
OwnEnds Exclusive Sticks = ⊥
OwnEnds g Shares = Unit {0}
OwnEnds g Nothing = Unit {0}

abbrev pub OwnPart : LineState → Rights → Role → Type 0
OwnPart g st Aside = ⊥
OwnPart g st (Told q k s) = ⊥
OwnPart g st (Acking q k d) = ⊥
OwnPart g st (Nacking q s) = ⊥
OwnPart g st (Answered k) = ⊥
OwnPart g st Refused = ⊥
OwnPart g st (Asks a) = OwnFits g st a.kind
OwnPart g st (Ends j d) = (j ≡ g) × OwnEnds g st
OwnPart g st Fails = st ≢ Owns

abbrev pub is_answered : Role → Bool
is_answered (Answered k) = true
is_answered Refused = true
is_answered Aside = false
is_answered (Told r k s) = false
is_answered (Acking r k d) = false
is_answered (Nacking r s) = false
is_answered (Asks a) = false
is_answered (Ends g d) = false
is_answered Fails = false

abbrev pub is_refused : Role → Bool
is_refused Refused = true
is_refused (Answered k) = false
is_refused Aside = false
is_refused (Told r k s) = false
is_refused (Acking r k d) = false
is_refused (Nacking r s) = false
is_refused (Asks a) = false
is_refused (Ends g d) = false
is_refused Fails = false

-- what the requester has kept of an owner: its content once it acknowledged, a Nack once it refused
abbrev pub KeptOf : Rights → Bool → Bool → Block → Bool → Option Block → Type 0
KeptOf Owns true true cur nay d = (d ≡ None) × (nay ≡ true)
KeptOf Owns true false cur nay d = (d ≡ Some cur) × (nay ≡ false)
KeptOf Owns false b cur nay d = (d ≡ None) × (nay ≡ false)
KeptOf Sticks a true cur nay d = nay ≡ true
KeptOf Sticks a false cur nay d = nay ≡ false
KeptOf Shares a true cur nay d = nay ≡ true
KeptOf Shares a false cur nay d = Unit {0}
KeptOf Nothing a b cur nay d = Unit {0}

abbrev pub Stamps : Ask → Role → Type 0
Stamps a (Told q k s) = s ≡ a.stamp
Stamps a (Nacking q s) = sooner s a.stamp ≡ true → a.noted ≡ true
Stamps a Aside = Unit {0}
Stamps a (Acking q k d) = Unit {0}
Stamps a (Answered k) = Unit {0}
Stamps a Refused = Unit {0}
Stamps a (Asks b) = Unit {0}
Stamps a (Ends g d) = Unit {0}
Stamps a Fails = Unit {0}

-- what the requester, in the part that is given first, knows of another hart
abbrev pub Heard : Role → LineState → Block → Rights → ℕ → Role → Type 0
Heard Aside g cur st h role = ⊥
Heard (Told q k s) g cur st h role = ⊥
Heard (Acking q k d) g cur st h role = ⊥
Heard (Nacking q s) g cur st h role = ⊥
Heard (Answered k) g cur st h role = ⊥
Heard Refused g cur st h role = ⊥
Heard (Asks a) g cur st h role = (a.grant.expect h ≡ must_tell g st) × (a.from h ≡ is_answered role) × KeptOf st (is_answered role) (is_refused role) cur a.nay a.kept × Stamps a role
Heard (Ends j d) g cur st h role = (is_answered role ≡ must_tell g st) × (is_refused role ≡ false)
Heard Fails g cur st h role = (is_answered role ≡ must_tell g st) × (st ≡ Owns → is_refused role ≡ true)

-- what all harts share
pub record Ctx : Type 0 where
  pub cur : Block  -- the value in place
  pub mem : Block  -- the flat machine's memory
  pub memory : Block
  pub owner : Owner
  pub busy : Option (ℕ × LineState)
  pub asker : Role
  pub writer : Option ℕ  -- in whose write set the block is

abbrev pub PartOf : Option (ℕ × LineState) → Role → Block → ℕ → Rights → Role → Type 0
PartOf None asker cur h st role = role ≡ Aside
PartOf (Some b) asker cur h st role = elim (eqb h b.0) [ true ↦ (role ≡ asker) × OwnPart b.1 st role | false ↦ OthersPart b.0 b.1 cur st role × Heard asker b.1 cur st h role ]

abbrev pub Part : Ctx → ℕ → Rights → Role → Type 0
Part c h st role = PartOf c.busy c.asker c.cur h st role
