use Rattle.std.proofs.Common.{◌≡◌, None, List, inl, inr, refl, sym, ap, subst, ◌∙◌}
use Rattle.std.proofs.lemmas.Result.{err_from_is_err_and}
use Rattle.flat.specs.Boots.{boot_fault}
use Rattle.flat.specs.State.{Flat, Setting}
use Rattle.render.specs.Reports.{AllReadable}
use Rattle.outcomes.specs.Standings.{setting_of}
use Rattle.command_line.specs.declared.request.Word.{Word}
use Rattle.requests.specs.Ends.{search_start, search_place}
use Rattle.requests.specs.Runs.{addresses}
use Rattle.requests.specs.Unreadable.{IsUnreadable}
use Rattle.requests.proofs.Starting.{booted-no_fault}
use Rattle.requests.proofs.Searching.{boot-unsearched, begin-fault, unreadable-unsearched, first_there, begun-setting, found-setting}
use Rattle.requests.proofs.search.search.Goals as goal

pub returns-in_err-program : goal.returns-in_err-program
returns-in_err-program g c =
    let p = err_from_is_err_and c.from_residual.result c.from_residual.ensures.1 in
    rw (p.1, p.2) (inl c.in_err-program.ensures)

pub returns-in_err-outcomes : goal.returns-in_err-outcomes
returns-in_err-outcomes g c =
    let p = err_from_is_err_and c.from_residual-in_err-outcomes.result c.from_residual-in_err-outcomes.ensures.1 in
    let asked = c.args.asked.now in
    let program = c.in_ok-program.program in
    rw (p.1, p.2) (boot-unsearched asked c.args.file.now program c.in_err-outcomes.field-0.0 c.in_ok-program.ensures
    (begin-fault (boot_fault program.segments asked.harts asked.memory) c.begin.result c.in_err-outcomes.field-0.0 c.in_err-outcomes.was c.begin.ensures.refused c.begin.ensures.memory))

pub returns-in_err-addrs : goal.returns-in_err-addrs
returns-in_err-addrs g c =
    let p = err_from_is_err_and c.from_residual-in_err-addrs.result c.from_residual-in_err-addrs.ensures.1 in
    let asked = c.args.asked.now in
    let program = c.in_ok-program.program in
    let o = c.in_ok-outcomes.outcomes in
    let begun = c.in_ok-outcomes.ensures.begun in
    let boots : boot_fault program.segments asked.harts asked.memory ≡ None = booted-no_fault (boot_fault program.segments asked.harts asked.memory) c.begin.result o c.in_ok-outcomes.was c.begin.ensures.refused in
    let x = first_there o begun.search in
    let here : setting_of c.first.result.scene ≡ (search_start asked program).setting = ap (λ (f : Flat). f.setting) (c.first.ensures x.0 x.1) ∙ begun-setting (search_place asked program) o begun in
    rw (p.1, p.2) (unreadable-unsearched asked c.args.file.now program c.in_err-addrs.field-0.0 c.in_ok-program.ensures boots
    (subst (λ (s : Setting). IsUnreadable s asked.words.items c.in_err-addrs.field-0.0) here
    (subst (λ (ws : List Word). IsUnreadable (setting_of c.first.result.scene) ws c.in_err-addrs.field-0.0) c.deref.ensures.value c.in_err-addrs.ensures.refused)))

pub returns-in_err-find_all : goal.returns-in_err-find_all
returns-in_err-find_all g c =
    let p = err_from_is_err_and c.from_residual-in_err-find_all.result c.from_residual-in_err-find_all.ensures.1 in
    rw (p.1, p.2) (inr (inr (inr refl)))

pub returns : goal.returns
returns g c =
    let asked = c.args.asked.now in
    let program = c.in_ok-program.program in
    let first = search_start asked program in
    let o = c.in_ok-outcomes.outcomes in
    let n = c.find_all.new.self in
    let begun = c.in_ok-outcomes.ensures.begun in
    let boots : boot_fault program.segments asked.harts asked.memory ≡ None = booted-no_fault (boot_fault program.segments asked.harts asked.memory) c.begin.result o c.in_ok-outcomes.was c.begin.ensures.refused in
    let x = first_there o begun.search in
    let here : setting_of c.first.result.scene ≡ first.setting = ap (λ (f : Flat). f.setting) (c.first.ensures x.0 x.1) ∙ begun-setting (search_place asked program) o begun in
    let found = c.in_ok-find_all.ensures (search_place asked program) begun in
    let same = c.in_ok-addrs.ensures.same ∙ ap addresses c.deref.ensures.value in
    let readable : AllReadable first.setting (addresses asked.words.items) = subst (λ (s : Setting). AllReadable s (addresses asked.words.items)) here
    (subst (λ (ws : List Word). AllReadable (setting_of c.first.result.scene) (addresses ws)) c.deref.ensures.value c.in_ok-addrs.ensures.all) in (
      record {
        program = program;
        can = record { holds = c.in_ok-program.ensures; boots = boots; bytes = c.in_ok-outcomes.ensures.bytes; readable = readable };
        found = found;
      },
      same,
      subst (λ (s : Setting). AllReadable s c.in_ok-addrs.addrs.items) (sym (found-setting (search_place asked program) asked.states n found)) (subst (AllReadable first.setting) (sym same) readable),
    )
