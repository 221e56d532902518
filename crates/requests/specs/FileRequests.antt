-- What becomes of a request that needs no machine, given the bytes of the file that it reads.
use Rattle.std.specs.Prelude.{ℕ, ◌≡◌, List, Option, Some, None}
use Rattle.words.specs.Sinks.{IsUntouched}
use Rattle.command_line.specs.declared.request.Cache.{Cache}
use Rattle.command_line.specs.declared.request.Request.{Request}
use Rattle.command_line.specs.declared.request.Request.TheVariants as request
use Rattle.requests.specs.Ends.{AreEndsGiven, AreEndsNotGiven}
use Rattle.requests.specs.Files.{IsListed, IsUnlisted, IsImageOf}
use Rattle.requests.specs.Outputs.{AreUntouched, Sinks}
use Rattle.requests.specs.Sources.{IsSourceFault}
use Rattle.requests.specs.declared.fault.Fault.{Fault}

-- the cache that a request asks for, where it is carried out on a machine
abbrev pub cache_of : Request → Option Cache
cache_of (request.Run run) = Some run.setup.cache
cache_of (request.Debug setup) = Some setup.cache
cache_of (request.Outcomes asked) = None
cache_of (request.Dis path) = None
cache_of (request.Asm source target) = None

-- a request that needs no machine: what it asks for was made, with this status, and these bytes for the file that it asks for; or it was not, for a fault
module _ (file : List ℕ) (before after : Sinks) where
  abbrev pub IsMade : Request → ℕ → Option (List ℕ) → Type 0
  IsMade (request.Outcomes asked) status image = AreEndsGiven asked file before after status × (image ≡ None)
  IsMade (request.Dis path) status image = IsListed file before.output after.output status × (image ≡ None) × IsUntouched before.file after.file
  IsMade (request.Asm source target) status image = (status ≡ 0) × ((bytes : List ℕ) × IsImageOf file bytes × (image ≡ Some bytes)) × AreUntouched before after
  IsMade other status image = ⊥

  abbrev pub IsUnmade : Request → Fault → Type 0
  IsUnmade (request.Outcomes asked) fault = AreEndsNotGiven asked file before after fault
  IsUnmade (request.Dis path) fault = IsUnlisted file before.output after.output fault × IsUntouched before.file after.file
  IsUnmade (request.Asm source target) fault = IsSourceFault file fault × AreUntouched before after
  IsUnmade other fault = ⊥
