use Rattle.std.proofs.Common.{◌≤◌, ◌∙◌, refl, subst, sym}
use Rattle.outcomes.specs.declared.breadth_first.Outcomes.{Outcomes}
use Rattle.outcomes.proofs.Added.{met_there, goes_last, beyond_limit, added_extends, added_search, added_met}
use Rattle.outcomes.proofs.breadth_first.Outcomes.note.Goals as goal

pub returns-then-contains-clause-met : goal.returns-then-contains-clause-met
returns-then-contains-clause-met c _ = met_there c.args.self.now c.args.next (sym c.contains.ensures ∙ c.if-contains.true)

pub returns-then-len-limit-clause-more : goal.returns-then-len-limit-clause-more
returns-then-len-limit-clause-more c _ = beyond_limit c.args.self.now c.args.next c.args.origin c.requires.search c.requires.within c.requires.earlier c.requires.moves c.args.limit (subst (λ n. c.args.limit ≤ n) c.len.ensures.len c.if-len-limit.true) (sym c.contains.ensures ∙ c.if-contains.false)

pub returns-clause-search : goal.returns-clause-search
returns-clause-search c =
    added_search c.args.self.now c.args.next c.args.origin c.requires.search c.requires.within c.requires.earlier c.requires.moves
    (record c.args.self.now { states = c.insert.new.self; origins = c.push.new.list }) refl refl refl refl (goes_last c.args.self.now.states.keys c.insert.new.self.keys c.args.next c.in_ok-insert.ensures.keys (sym c.contains.ensures ∙ c.if-contains.false)) c.in_ok-push.ensures

pub returns-clause-extends : goal.returns-clause-extends
returns-clause-extends c =
    added_extends c.args.self.now c.args.next c.args.origin c.requires.search c.requires.within c.requires.earlier c.requires.moves
    (record c.args.self.now { states = c.insert.new.self; origins = c.push.new.list }) refl refl refl refl (goes_last c.args.self.now.states.keys c.insert.new.self.keys c.args.next c.in_ok-insert.ensures.keys (sym c.contains.ensures ∙ c.if-contains.false)) c.in_ok-push.ensures

pub returns-clause-met : goal.returns-clause-met
returns-clause-met c _ =
    added_met c.args.self.now c.args.next c.args.origin c.requires.search c.requires.within c.requires.earlier c.requires.moves
    (record c.args.self.now { states = c.insert.new.self; origins = c.push.new.list }) refl refl refl refl (goes_last c.args.self.now.states.keys c.insert.new.self.keys c.args.next c.in_ok-insert.ensures.keys (sym c.contains.ensures ∙ c.if-contains.false)) c.in_ok-push.ensures
