use Rattle.std.proofs.Common.{rules, ◌≡◌, ◌<◌, ◌≤◌, ◌++◌, ◌∙◌, [], ℕ, List, IfSome, false, length, take, drop, arith, refl, sym, ap, subst, subst₂}
use Rattle.std.proofs.Math.Seq.{take-append_seam}
use Rattle.std.specs.List.{slice_index_or}
use Rattle.words.specs.Harts.{names}
use Rattle.directory.specs.declared.rules.Request.{Request}
use Rattle.protocol.specs.Directory.{forwards}
use Rattle.protocol.specs.Messages.{Block, Get, Granted}
use Rattle.machine.specs.Serving.{Answered, IsServed, arrivals_behind, forwards_to}
use Rattle.machine.specs.States.{Seat, State, IsSound, geometry}
use Rattle.machine.specs.declared.serving.Service.{Service}
use Rattle.machine.proofs.Requests.{Begins, IsServing, granted, all_wait, as_ended, is_answered, is_forwarded, is_asked, number_by, so_many, whole, numbered, end_inside}
use Rattle.machine.proofs.Served.{block_inside, sender_inside}
use Rattle.machine.proofs.machine.Machine.serve.Given.{Over}
use Rattle.machine.proofs.machine.Machine.serve.Goals as goal
use Rattle.machine.proofs.machine.Machine.serve.Goals.{After-pass}

pub get-requires-clause-block : goal.get-requires-clause-block
get-requires-clause-block g c =
    let q = c.in-Some-request_numbered.request in
    block_inside g.row.SETS g.row.WAYS c.in-Some.number _ (Get q.requester q.block q.kind q.stamp) c.self.invariant c.in-Some-request_numbered.ensures.some

pub get-requires-clause-hart : goal.get-requires-clause-hart
get-requires-clause-hart g c =
    let q = c.in-Some-request_numbered.request in
    sender_inside g.row.SETS g.row.WAYS c.in-Some.number _ (Get q.requester q.block q.kind q.stamp) c.self.invariant c.in-Some-request_numbered.ensures.some

pub memory-requires : goal.memory-requires
memory-requires g c =
    let q = c.in-Some-request_numbered.request in
    subst (λ (words : List Block). q.block < length words) (sym c.get.ensures.memory)
    (block_inside g.row.SETS g.row.WAYS c.in-Some.number _ (Get q.requester q.block q.kind q.stamp) c.self.invariant c.in-Some-request_numbered.ensures.some)

pub ask-requires : goal.ask-requires
ask-requires g c =
    let q = c.in-Some-request_numbered.request in
    let seats = ap length c.deref_mut.ensures.value ∙ c.self.invariant.count in
    let count = c.harts-harts.ensures.value ∙ c.get.ensures.harts in
    let from = sender_inside g.row.SETS g.row.WAYS c.in-Some.number _ (Get q.requester q.block q.kind q.stamp) c.self.invariant c.in-Some-request_numbered.ensures.some in
    let others = subst (λ o. IfSome o (λ given. names given.expect q.requester ≡ false)) c.in-Some-answer.is c.in-Ok.ensures.others in
    (search rules, (subst (λ n. q.requester < n) (sym seats) from, (omega (arith, seats, count), (c.harts-harts.ensures.bound, others))))

pub end-ended-requires-clause-block : goal.end-ended-requires-clause-block
end-ended-requires-clause-block g c =
    let q = c.in-Some-request_numbered.request in
    let v : State = record { program = c.self.inside.program; seats = c.self.inside.seats.items; directory = c.self.inside.directory; flights = c.self.inside.net.flights; sent = c.self.inside.net.next; stamps = c.self.inside.stamps } in
    let given = c.in-Some-answer.given in
    let d = c.get.new.self in
    let seats = c.ask.new.seats in
    let settled = c.ask.result.0 in
    let serving : IsServing g.row.SETS g.row.WAYS q c.in-Some.number v given d = record {
      sound = c.self.invariant;
      only = c.in-Some.ensures;
      range = omega (arith, c.sent.ensures, c.if-sent-gt-LAST_SERVED.false);
      here = c.in-Some-request_numbered.ensures.some;
      answers = is_answered g.row.SETS g.row.WAYS q v.directory d given c.in-Ok.answer c.in-Some-answer.is c.in-Ok.ensures.ok;
      used = c.get.ensures.kept;
    } in
    let answered = c.ask.ensures.answered in
    let xs = answered.0 in
    let few = subst (λ n. n ≤ 8) answered.2.number_is c.ask.ensures.most in
    let forwarded = is_forwarded g.row.SETS g.row.WAYS q v.directory.harts c.harts-harts.result given.expect xs (c.harts-harts.ensures.value ∙ c.get.ensures.harts) answered.1 in
    let asks = is_asked g.row.SETS g.row.WAYS q v.directory given c.memory.result xs c.deref_mut.result.now v.seats seats settled (c.memory.ensures ∙ ap (λ (words : List Block). slice_index_or words q.block []) c.get.ensures.memory) c.deref_mut.ensures.value answered.3 in
    end_inside g.row.SETS g.row.WAYS q c.in-Some.number v given d serving seats settled xs few forwarded asks

-- the directory has given to the request
abbrev first : (g : Over) (c : After-pass g) → State
first g c = record { program = c.self.inside.program; seats = c.self.inside.seats.items; directory = c.self.inside.directory; flights = c.self.inside.net.flights; sent = c.self.inside.net.next; stamps = c.self.inside.stamps }

abbrev asked : (g : Over) (c : After-pass g) → Request
asked g c = c.in-Some-request_numbered.request

serving : (g : Over) (c : After-pass g) → IsServing g.row.SETS g.row.WAYS (asked g c) c.in-Some.number (first g c) c.in-Some-answer.given c.get.new.self
serving g c = record {
  sound = c.self.invariant;
  only = c.in-Some.ensures;
  range = omega (arith, c.sent.ensures, c.if-sent-gt-LAST_SERVED.false);
  here = c.in-Some-request_numbered.ensures.some;
  answers = is_answered g.row.SETS g.row.WAYS (asked g c) c.self.inside.directory c.get.new.self c.in-Some-answer.given c.in-Ok.answer c.in-Some-answer.is c.in-Ok.ensures.ok;
  used = c.get.ensures.kept;
}

few : (g : Over) (c : After-pass g) → length c.ask.ensures.answered.0 ≤ 8
few g c = subst (λ n. n ≤ 8) c.ask.ensures.answered.2.number_is c.ask.ensures.most

forwarded : (g : Over) (c : After-pass g) → forwards c.self.inside.directory.harts (names c.in-Some-answer.given.expect) (asked g c).block (asked g c).kind (asked g c).requester (asked g c).stamp ≡ forwards_to (asked g c) c.ask.ensures.answered.0
forwarded g c = is_forwarded g.row.SETS g.row.WAYS (asked g c) c.self.inside.directory.harts c.harts-harts.result c.in-Some-answer.given.expect c.ask.ensures.answered.0 (c.harts-harts.ensures.value ∙ c.get.ensures.harts) c.ask.ensures.answered.1

abbrev granted_to : (g : Over) (c : After-pass g) → Granted
granted_to g c = granted g.row.SETS g.row.WAYS (asked g c) c.in-Some.number (first g c) c.in-Some-answer.given c.get.new.self (serving g c)

answers : (g : Over) (c : After-pass g) → Answered g.row.SETS (asked g c) (granted_to g c) c.ask.ensures.answered.0 c.self.inside.seats.items c.ask.new.seats c.ask.result.0
answers g c = is_asked g.row.SETS g.row.WAYS (asked g c) c.self.inside.directory c.in-Some-answer.given c.memory.result c.ask.ensures.answered.0 c.deref_mut.result.now c.self.inside.seats.items c.ask.new.seats c.ask.result.0
    (c.memory.ensures ∙ ap (λ (words : List Block). slice_index_or words (asked g c).block []) c.get.ensures.memory) c.deref_mut.ensures.value c.ask.ensures.answered.3

-- all of the seats are those that came back
pub all_of : (n : ℕ) (xs rest : List Seat) → length xs ≡ n → take n (xs ++ rest) ≡ xs
all_of n xs rest long = subst (λ k. take k (xs ++ rest) ≡ xs) long (take-append_seam xs rest)

all : (g : Over) (c : After-pass g) → take (length c.self.inside.seats.items) (c.ask.new.seats ++ drop (length c.ask.new.seats) c.self.inside.seats.items) ≡ c.ask.new.seats
all g c = all_of (length c.self.inside.seats.items) c.ask.new.seats (drop (length c.ask.new.seats) c.self.inside.seats.items) (c.ask.auto.seats ∙ c.deref_mut.ensures.len)

abbrev last : (g : Over) (c : After-pass g) → State
last g c = record (first g c) { seats = c.ask.new.seats; directory = c.end-ended.new.directory; flights = c.pass.new.self.flights; sent = c.pass.new.self.next }

begins : (g : Over) (c : After-pass g) → Begins g.row.SETS g.row.WAYS (asked g c) c.in-Some.number (first g c) c.in-Some-answer.given c.get.new.self (serving g c) c.ask.ensures.answered.0
    (arrivals_behind (asked g c) (granted_to g c) c.ask.ensures.answered.0 c.ask.result.0) (last g c)
begins g c =
    let q = asked g c in
    let v = first g c in
    let given = c.in-Some-answer.given in
    let d = c.get.new.self in
    let xs = c.ask.ensures.answered.0 in
    let seats = c.ask.new.seats in
    let settled = c.ask.result.0 in
    let ended = c.end-ended.result in
    let done = whole g.row.SETS g.row.WAYS q c.in-Some.number v given d (serving g c) seats settled xs (last g c).directory ended (few g c) (forwarded g c) (answers g c) c.end-ended.ensures.ends in
    let sent = numbered g.row.SETS g.row.WAYS q c.in-Some.number v given d (serving g c) seats settled (length xs) (last g c).directory ended c.end-ended.ensures.ends (few g c) in
    let number : number_by g.row.SETS g.row.WAYS (so_many g.row.SETS g.row.WAYS q c.in-Some.number v given d (serving g c) (length xs)) settled ≡ (last g c).sent =
    sent ∙ omega (arith, c.pass.ensures.number, c.ask.ensures.answered.2.number_is, c.from.ensures) in
    subst₂ (λ (n : ℕ) flights. Begins g.row.SETS g.row.WAYS q c.in-Some.number v given d (serving g c) xs (arrivals_behind q (granted_to g c) xs settled) (record (last g c) { sent = n; flights = flights }))
    number (sym c.pass.ensures.empty) done

abbrev told : (g : Over) (c : After-pass g) → Service
told g c = record {
  requester = (asked g c).requester;
  block = (asked g c).block;
  asked = c.ask.result.1.asked;
  answers = c.ask.result.1.number;
  refusals = c.ask.result.1.refusals;
  ended = c.end-ended.result;
  used = c.used-used.result;
}

served : (g : Over) (c : After-pass g) → Begins g.row.SETS g.row.WAYS (asked g c) c.in-Some.number (first g c) c.in-Some-answer.given c.get.new.self (serving g c) c.ask.ensures.answered.0
    (arrivals_behind (asked g c) (granted_to g c) c.ask.ensures.answered.0 c.ask.result.0) (last g c)
    → IsServed (geometry g.row.SETS g.row.WAYS) (first g c) (told g c) c.ask.ensures.answered.0 (last g c)
served g c (mid, arrives, same, goes) = record {
  request = asked g c;
  granted = granted_to g c;
  settled = c.ask.result.0;
  number = c.in-Some.number;
  only = c.in-Some.ensures;
  few = omega (arith, c.sent.ensures, c.if-sent-gt-LAST_SERVED.false);
  harts = few g c;
  mid = mid;
  first = arrives;
  rest = goes.0;
  waits = all_wait g.row.SETS g.row.WAYS (asked g c) (granted_to g c) c.ask.ensures.answered.0 c.self.inside.seats.items c.ask.new.seats c.ask.result.0 (answers g c);
  requester = refl;
  block = refl;
  told = c.ask.ensures.answered.2;
  ended = as_ended g.row.SETS g.row.WAYS (asked g c) c.in-Some.number (first g c) c.in-Some-answer.given c.get.new.self (serving g c) c.ask.result.0 (last g c).directory c.end-ended.result c.end-ended.ensures.ends;
  used = c.used-used.ensures.count ∙ ap (λ d. length d.kept) (sym same);
}

pub invariant_of-self-2 : goal.invariant_of-self-2
invariant_of-self-2 g c = subst (λ xs. IsSound g.row.SETS g.row.WAYS (record (last g c) { seats = xs })) (sym (all g c)) (sound (begins g c))
  where
    sound : Begins g.row.SETS g.row.WAYS (asked g c) c.in-Some.number (first g c) c.in-Some-answer.given c.get.new.self (serving g c) c.ask.ensures.answered.0
        (arrivals_behind (asked g c) (granted_to g c) c.ask.ensures.answered.0 c.ask.result.0) (last g c) → IsSound g.row.SETS g.row.WAYS (last g c)
    sound (mid, arrives, same, goes) = goes.1

pub returns-clause-served : goal.returns-clause-served
returns-clause-served g c = (
  c.ask.ensures.answered.0,
  subst₂ (λ (m : State) xs. IsServed (geometry g.row.SETS g.row.WAYS) m (told g c) c.ask.ensures.answered.0 (record (last g c) { seats = xs })) c.self.view_is (sym (all g c)) (served g c (begins g c)),
  c.ask.ensures.answered.4,
)
