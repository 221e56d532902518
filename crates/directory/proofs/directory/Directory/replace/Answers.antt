use Rattle.std.proofs.Common.{◌≡◌, IsSome, nat_cmp, sym, ap, refl, true, false, ◌∙◌}
use Rattle.std.proofs.lemmas.Option.{none-some}
use Rattle.std.specs.BTreeMap.{get_by}
use Rattle.directory.specs.Entries.{shown_entry, NamesBelow}
use Rattle.directory.specs.Blocks.{Blocks}
use Rattle.directory.proofs.Kept.{IsSound-update, IsSound-put}
use Rattle.directory.proofs.directory.Directory.replace.Goals as goal

pub invariant_of-self : goal.invariant_of-self
invariant_of-self c = IsSound-update _ _ _ _ _ _ c.self.invariant c.remove.ensures.updates.0 (λ e at. absurd (none-some e at))

pub invariant_of-self-in-Some : goal.invariant_of-self-in-Some
invariant_of-self-in-Some c =
    let some : IsSome (get_by (nat_cmp c.number-number.result) c.self.inside.entries) = rw (← c.in-Some.ensures.value) refl in
    let named : NamesBelow c.self.inside.harts (shown_entry c.args.entry) = rw (ap (λ (d : Blocks). d.harts) c.self.view_is) c.requires.named in
    IsSound-put _ _ _ _ _ _ c.self.invariant ((c.get_mut.follows.holds c.args.entry).3 some).0 (record {
      inside = (c.self.invariant.kept c.number-number.result c.in-Some.kept.now (sym c.in-Some.ensures.value)).inside;
      used = λ is. let no : false ≡ true = sym c.if-is_first.false ∙ c.is_first.ensures.1 is in cc;
      named = named;
    })
