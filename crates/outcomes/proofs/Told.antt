-- The ends that are told are those that are reached.
use Rattle.std.proofs.Common.{◌≡◌, ◌≢◌, ◌<◌, ℕ, true, List, ap, subst, sym, ◌∙◌}
use Rattle.std.specs.Ordering.{nat_cmp}
use Rattle.std.specs.Cmp.Lexicographic.{slice_cmp}
use Rattle.std.specs.List.{Contains}
use Rattle.std.proofs.lemmas.Cmp.{nat_list_cmp_total}
use Rattle.words.specs.declared.cause.Status.TheVariants.{Running}
use Rattle.words.specs.declared.entry.Entry.{Entry}
use Rattle.words.specs.declared.entry.Step.{Step}
use Rattle.table.specs.Program.{AreBytes}
use Rattle.flat.specs.State.{Setting, Flat}
use Rattle.flat.specs.Reservations.{reservations_of}
use Rattle.protocol.specs.Caches.{Geometry}
use Rattle.protocol.specs.Machine.{Machine, Runs}
use Rattle.protocol.specs.Start.{start}
use Rattle.isolation.specs.Belongs.{Belongs}
use Rattle.isolation.specs.Moves.{Place, first_place}
use Rattle.isolation.specs.Walks.{IsEnded, WalksInOrder}
use Rattle.isolation.proofs.Reached.{end_reached}
use Rattle.render.specs.Reports.{report_of}
use Rattle.outcomes.specs.declared.breadth_first.Outcomes.{Outcomes}
use Rattle.outcomes.specs.Searches.{place_at, Finds}
use Rattle.outcomes.specs.declared.gathering.End.{End}
use Rattle.outcomes.specs.Ends.{AreEndsOf, reports_of}
use Rattle.outcomes.proofs.Members.{mapped_from}
use Rattle.outcomes.proofs.Ascending.{one_list}
use Rattle.outcomes.proofs.SameEnds.{same_report}

pub listed : (first : Place) (limit : ℕ) (o : Outcomes) (words : List ℕ) (ends : List End) → Finds first limit o → o.is_all ≡ true → AreEndsOf o words ends
    → (ess : List (List Entry)) (q : Place) → WalksInOrder first ess q → IsEnded q.flat → Contains (reports_of ends) (report_of q.flat words)
listed first limit o words ends finds complete are ess q walk ended =
    let m = finds.complete complete ess q walk in
    are.all m.place (report_of q.flat words) (record {
      end = record { state = m.state; stands = m.stands; ended = subst (λ (p : Place). IsEnded p.flat) (sym m.is) ended };
      told = ap (λ (p : Place). report_of p.flat words) m.is;
    })

pub reached : (first : Place) (limit : ℕ) (o : Outcomes) (words : List ℕ) (ends : List End) → Finds first limit o → AreEndsOf o words ends
    → (r : List ℕ) → Contains (reports_of ends) r → (ess : List (List Entry)) × (q : Place) × WalksInOrder first ess q × IsEnded q.flat × (report_of q.flat words ≡ r)
reached first limit o words ends finds are r there =
    let e = mapped_from (λ (e : End). e.report.items) ends r there in
    let w = are.reached e.0 e.1 in
    let s = finds.sound e.0.place w.end.state w.end.stands in
    (s.0, place_at o w.end.state, s.1, w.end.ended, w.told ∙ e.2)

-- what the one list has, the other has too
in_other : (first : Place) (limit other : ℕ) (o p : Outcomes) (words : List ℕ) (ends others : List End) → Finds first limit o → Finds first other p
    → p.is_all ≡ true → AreEndsOf o words ends → AreEndsOf p words others → (r : List ℕ) → Contains (reports_of ends) r → Contains (reports_of others) r
in_other first limit other o p words ends others finds gives complete are were r there =
    let e = reached first limit o words ends finds are r there in
    subst (Contains (reports_of others)) e.4 (listed first other p words others gives complete were e.0 e.1 e.2 e.3)

pub lists_one : (first : Place) (limit other : ℕ) (o p : Outcomes) (words : List ℕ) (ends others : List End) → Finds first limit o → Finds first other p
    → o.is_all ≡ true → p.is_all ≡ true → AreEndsOf o words ends → AreEndsOf p words others → reports_of ends ≡ reports_of others
lists_one first limit other o p words ends others finds gives complete whole are were =
    one_list (slice_cmp nat_cmp) nat_list_cmp_total (reports_of ends) (reports_of others) are.ascending were.ascending
    (in_other first limit other o p words ends others finds gives whole are were)
    (in_other first other limit p o words others ends gives finds complete were are)

pub told : (g : Geometry) (s : Setting) (entry : ℕ) (steps : List Step) (es : List Entry) (w : Machine)
    → AreBytes s.segments → Runs g (start s entry) steps es w → ((i : ℕ) → i < s.count → (w.harts i).status ≢ Running)
    → (limit : ℕ) (o : Outcomes) (words : List ℕ) (ends : List End) → Finds (first_place s entry) limit o → o.is_all ≡ true → AreEndsOf o words ends
    → (f : Flat) → Belongs g f w → Contains (reports_of ends) (report_of f words)
told g s entry steps es w bytes runs stopped limit o words ends finds complete are f belongs =
    let e = end_reached g s entry steps es w bytes runs stopped in
    subst (Contains (reports_of ends)) (same_report g e.0 f w words e.4 belongs)
    (listed (first_place s entry) limit o words ends finds complete are e.1 (record { flat = e.0; reserved = reservations_of es }) e.2 e.3)
