-- A file holds one program, and what is made of it is one text.
use Rattle.std.proofs.Common.{◌≡◌, inl, inr, ℕ, Bool, true, false, List, sym, ap, subst, ◌∙◌}
use Rattle.std.proofs.lemmas.Bool.{true≢false}
use Rattle.words.specs.Sinks.{SinkState, TookAll}
use Rattle.loader.specs.Programs.{Program}
use Rattle.loader.specs.Elf.{IsElfOf}
use Rattle.loader.specs.Writing.{elf_of}
use Rattle.loader.proofs.Clean.{IsElfOf-one}
use Rattle.assembler.proofs.Answering.{one_program}
use Rattle.disassembler.specs.Tables.{table_of}
use Rattle.disassembler.specs.Listing.{listing_of}
use Rattle.requests.specs.Files.{IsListed, IsImageOf}
use Rattle.flat.specs.State.{Flat}
use Rattle.flat.specs.Steps.{IsRun}
use Rattle.protocol.specs.Caches.{Geometry}
use Rattle.command_line.specs.declared.request.Setup.{Setup}
use Rattle.schedule.specs.Courses.{Behind}
use Rattle.schedule.specs.Moments.{Moment, entries_of}
use Rattle.requests.specs.Runs.{ComesBy}
use Rattle.requests.specs.Starts.{flat_start}
use Rattle.requests.specs.Sources.{IsProgramIn, IsSourceOf, is_source}

not_both : (b : Bool) → b ≡ true → b ≡ false → ⊥
not_both b e f = true≢false (sym e ∙ f)

-- two programs of an ELF file are one
one_elf : (file : List ℕ) (p q : Program) → IsElfOf file p → IsElfOf file q → q ≡ p
one_elf file p q is other = IsElfOf-one file q other ∙ sym (IsElfOf-one file p is)

pub one_in_file : (path file : List ℕ) (p q : Program) → IsProgramIn path file p → IsProgramIn path file q → q ≡ p
one_in_file path file p q (inl is) (inl other) = one_program file p q is.1.1 other.1.1
one_in_file path file p q (inl is) (inr other) = absurd (not_both (is_source path) is.0 other.0)
one_in_file path file p q (inr is) (inl other) = absurd (not_both (is_source path) other.0 is.0)
one_in_file path file p q (inr is) (inr other) = one_elf file p q is.1 other.1

pub one_listing : (file : List ℕ) (before after earlier later : SinkState) (status other : ℕ) → IsListed file before after status → IsListed file earlier later other
    → (other ≡ status) × ((text : List ℕ) × TookAll before after text × TookAll earlier later text)
one_listing file before after earlier later status other one two =
    let same = one_elf file one.1.0 two.1.0 one.1.1 two.1.1 in
    (two.0 ∙ sym one.0, (listing_of (table_of file) one.1.0, one.1.2, subst (λ (p : Program). TookAll earlier later (listing_of (table_of file) p)) same two.1.2))

pub one_image : (source image other : List ℕ) → IsImageOf source image → IsImageOf source other → other ≡ image
one_image source image other one two = two.2 ∙ (ap elf_of (one_program source one.0 two.0 one.1.1 two.1.1) ∙ sym one.2)

-- a run of an assembled file is one of the source's program
pub one_run : (g : Geometry) (setup : Setup) (behind : Behind) (source image list : List ℕ) (steps : ℕ) (moments : List Moment) (f : Flat) → IsImageOf source image → is_source setup.file.now ≡ false
    → ComesBy g setup behind image list steps moments f → (p : Program) × IsSourceOf source p × IsRun (flat_start p setup) (entries_of moments) f
one_run g setup behind source image list steps moments f made elf comes =
    let same = one_in_file setup.file.now image made.0 comes.program (inr (elf, made.3)) comes.holds in
    (made.0, made.1, subst (λ (p : Program). IsRun (flat_start p setup) (entries_of moments) f) same comes.run)
