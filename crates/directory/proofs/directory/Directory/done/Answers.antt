use Rattle.std.proofs.Common.{◌≡◌, ◌<◌, true, false, Some, None, IsSome, nat_cmp, sym, ap, refl, ◌∙◌}
use Rattle.std.proofs.lemmas.Option.{none-some}
use Rattle.std.specs.BTreeMap.{get_by}
use Rattle.directory.specs.Entries.{shown_entry}
use Rattle.directory.specs.Blocks.{Blocks, IsSound}
use Rattle.directory.proofs.Kept.{put_back, IsSound-put, IsSound-put_back, IsSound-update, IsSound-words}
use Rattle.directory.proofs.Ends.{IsKept-granted, NamesBelow-ended, leaves-other, leaves-granted, leaves-refused}
use Rattle.directory.proofs.directory.Directory.done.Goals.{in-Some-given_to+then-ok, in-Some-given_to+else-ok+then-is_first, in-Some-given_to+else-ok+else-is_first, in_default-given_to}
use Rattle.directory.proofs.directory.Directory.done.Goals as goal

-- what was found is put back
pub invariant_of-self-in_default-given_to : goal.invariant_of-self-in_default-given_to
invariant_of-self-in_default-given_to c = IsSound-put_back _ _ _ _ _ _ c.self.invariant (c.get_mut.follows.holds c.in-Some.kept.now).0 (sym c.in-Some.ensures.value)

-- the request was granted
pub invariant_of-self-then-ok : goal.invariant_of-self-then-ok
invariant_of-self-then-ok c =
    let some : IsSome (get_by (nat_cmp c.number.result) c.self.inside.entries) = rw (← c.in-Some.ensures.value) refl in
    let hart : c.args.from < c.self.inside.harts = rw (ap (λ (d : Blocks). d.harts) c.self.view_is) c.requires.hart in
    IsSound-words _ _ _ _ c.take_words.ensures.size
    (IsSound-put _ _ _ _ _ _ c.self.invariant ((c.get_mut.follows.holds c.granted.result).3 some).0
    (IsKept-granted _ _ _ _ (c.self.invariant.kept c.number.result c.in-Some.kept.now (sym c.in-Some.ensures.value)) _ _ _ hart c.granted.ensures))

-- or refused
pub is_first-requires-clause-named : goal.is_first-requires-clause-named
is_first-requires-clause-named c =
    rw c.ended-ended.ensures (NamesBelow-ended _ _ _ _ (c.self.invariant.kept c.number.result c.in-Some.kept.now (sym c.in-Some.ensures.value)))

pub invariant_of-self-then-is_first : goal.invariant_of-self-then-is_first
invariant_of-self-then-is_first c =
    let found : IsSound (record { harts = c.self.inside.harts; kept = (c.get_mut.follows.lender c.in-Some.kept.now).entries; memory = c.self.inside.memory.items }) =
    IsSound-put_back _ _ _ _ _ _ c.self.invariant (c.get_mut.follows.holds c.in-Some.kept.now).0 (sym c.in-Some.ensures.value) in
    IsSound-update _ _ _ _ _ _ found c.remove.ensures.updates.0 (λ e at. absurd (none-some e at))

pub invariant_of-self-else-is_first : goal.invariant_of-self-else-is_first
invariant_of-self-else-is_first c =
    let some : IsSome (get_by (nat_cmp c.number.result) c.self.inside.entries) = rw (← c.in-Some.ensures.value) refl in
    let kept = c.self.invariant.kept c.number.result c.in-Some.kept.now (sym c.in-Some.ensures.value) in
    IsSound-put _ _ _ _ _ _ c.self.invariant ((c.get_mut.follows.holds c.ended-ended.result).3 some).0 (record {
      inside = kept.inside;
      used = λ is. let no : false ≡ true = sym c.if-is_first.false ∙ c.is_first.ensures.1 is in cc;
      named = rw c.ended-ended.ensures (NamesBelow-ended _ _ _ _ kept);
    })

pub returns-clause-set : goal.returns-clause-set
returns-clause-set c =
    let some : IsSome (get_by (nat_cmp c.number.result) c.self.inside.entries) = rw (← c.in-Some.ensures.value) refl in
    let same : (c.get_mut.follows.lender c.in-Some.kept.now).entries ≡ c.self.inside.entries.entries = put_back _ _ _ _ (c.get_mut.follows.holds c.in-Some.kept.now).0 (sym c.in-Some.ensures.value) in
    elim c.match-given_to.branch [
      | in-Some-given_to+then-ok w ↦
          rw (w.self-is, ← c.self.view_is, ← c.number.ensures, w.if-ok.true)
          (leaves-granted _ _ _ _ _ _ _ (sym c.in-Some.ensures.value) _ w.in-Some-given_to.ensures.some w.granted.result _ _ ((c.get_mut.follows.holds w.granted.result).3 some).0 w.granted.ensures
          (rw c.number.ensures (w.take_words.ensures.this ∙ sym (w.words_back.ensures _)))
          (rw c.number.ensures w.take_words.ensures.others) w.take_words.ensures.size)
      | in-Some-given_to+else-ok+then-is_first w ↦
          let key : w.number-then-is_first.result ≡ c.number.result = w.number-then-is_first.ensures ∙ sym c.number.ensures in
          rw (w.self-is, ← c.self.view_is, ← c.number.ensures, w.if-ok.false)
          (leaves-refused _ _ _ _ _ _ _ (sym c.in-Some.ensures.value) _ w.in-Some-given_to.ensures.some None _
          (λ q. rw (← same, ← key) (w.remove.ensures.updates.0 q))
          (sym (w.is_first.ensures.0 w.if-is_first.true) ∙ ap shown_entry w.ended-ended.ensures))
      | in-Some-given_to+else-ok+else-is_first w ↦
          rw (w.self-is, ← c.self.view_is, ← c.number.ensures, w.if-ok.false)
          (leaves-refused _ _ _ _ _ _ _ (sym c.in-Some.ensures.value) _ w.in-Some-given_to.ensures.some (Some w.ended-ended.result) _ ((c.get_mut.follows.holds w.ended-ended.result).3 some).0
          (ap shown_entry w.ended-ended.ensures))
      | in_default-given_to w ↦
          rw (w.self-is, ← c.self.view_is, ← c.number.ensures, same)
          (leaves-other _ _ _ _ _ _ _ (sym c.in-Some.ensures.value) c.args.ok w.in_default-given_to.ensures.none)
    ]
