-- The lines of the refusals of a request that is served at once.
use Rattle.std.proofs.Common.{◌≡◌, ◌≤◌, ◌+◌, ◌*◌, ◌++◌, ◌∙◌, ℕ, List, [], ◌∷◌, length, arith, refl, sym, ap, append_assoc, append-nil}
use Rattle.std.specs.List.{flat_map}
use Rattle.std.proofs.lemmas.List.Concat.{flat_map-append}
use Rattle.disassembler.specs.Tables.{Table}
use Rattle.directory.specs.declared.rules.Request.{Request}
use Rattle.hart.specs.declared.reply.ForwardAnswer.{ForwardAnswer}
use Rattle.hart.specs.declared.reply.Settled.{Settled}
use Rattle.hart.specs.Rows.{refusal_of}
use Rattle.protocol.specs.Caches.{Geometry}
use Rattle.protocol.specs.Messages.{Granted, Message}
use Rattle.machine.specs.Serving.{Arrival, ArriveAll, HearsReplies, IsServed, answer_arrivals, arrivals_behind, end_arrivals, end_of, forward_arrivals, get_arrival}
use Rattle.machine.specs.States.{State}
use Rattle.machine.specs.declared.serving.Service.{Service}
use Rattle.watch.specs.declared.recording.Lines.{Lines}
use Rattle.watch.specs.Rows.{AddsLine, AddsTurns}
use Rattle.watch.specs.Traces.{line_if, trace_of}
use Rattle.watch.proofs.Arrivals.{moments_of}
use Rattle.watch.proofs.Services.{at, every, gone, served_many, served_took}

module _ (names : Table) where
  -- what is written of the answers of harts to hart r's request for block b
  abbrev lines_in : ℕ → ℕ → List (ℕ × ForwardAnswer) → List ℕ
  lines_in r b xs = flat_map (λ x. line_if names (refusal_of x.0 r b x.1)) xs

  replies_names : (r b : ℕ) (xs : List (ℕ × ForwardAnswer)) (x y : Lines) → HearsReplies AddsLine r b x xs y → y.entries ≡ x.entries
  replies_names r b [] x y same = ap (λ (l : Lines). l.entries) (sym same)
  replies_names r b (reply ∷ xs) x y (z, first, rest) = replies_names r b xs z y rest ∙ first.names

  -- where there was room for the lines of all, all were added
  heard_replies : (r b : ℕ) (xs : List (ℕ × ForwardAnswer)) (x y : Lines) → x.entries ≡ names → HearsReplies AddsLine r b x xs y → length x.text + 240 * length xs ≤ 1920 → y.text ≡ x.text ++ lines_in r b xs
  heard_replies r b [] x y is same room = ap (λ (l : Lines). l.text) (sym same) ∙ sym (append-nil x.text)
  heard_replies r b (reply ∷ xs) x y is (z, first, rest) room =
      let line : List ℕ = line_if names (refusal_of reply.0 r b reply.1) in
      let fits : length x.text + 240 ≤ 1920 = omega (arith, room) in
      let one : z.text ≡ x.text ++ line = first.line fits ∙ ap (λ (t : Table). x.text ++ line_if t (refusal_of reply.0 r b reply.1)) is in
      let kept : z.entries ≡ names = first.names ∙ is in
      let left : length z.text + 240 * length xs ≤ 1920 = omega (arith, room, first.longer) in
      heard_replies r b xs z y kept rest left ∙ ap (λ (l : List ℕ). l ++ lines_in r b xs) one ∙ append_assoc x.text line (lines_in r b xs)

  -- the lines of what arrives
  abbrev lines_of : List Arrival → List ℕ
  lines_of ds = flat_map (λ (a : Arrival). line_if names a.entry) ds

  traced : (g : Geometry) (v : State) (ds : List Arrival) (w : State) (all : ArriveAll g v ds w) → trace_of names (moments_of g v ds w all) ≡ lines_of ds
  traced g v [] w same = refl
  traced g v (a ∷ ds) w (u, first, rest) = ap (λ (l : List ℕ). line_if names a.entry ++ l) (traced g u ds w rest)

  module _ (q : Request) where
    forwards_written : (xs : List (ℕ × ForwardAnswer)) → lines_of (forward_arrivals q xs) ≡ lines_in q.requester q.block xs
    forwards_written [] = refl
    forwards_written (x ∷ xs) = ap (λ (l : List ℕ). line_if names (refusal_of x.0 q.requester q.block x.1) ++ l) (forwards_written xs)

    answers_written : (xs : List (ℕ × ForwardAnswer)) (t : Settled) → lines_of (answer_arrivals q xs t) ≡ []
    answers_written [] t = refl
    answers_written (x ∷ []) t = refl
    answers_written (x ∷ y ∷ ys) t = answers_written (y ∷ ys) t

    ends_written : (ms : List Message) → lines_of (end_arrivals ms) ≡ []
    ends_written [] = refl
    ends_written (m ∷ ms) = ends_written ms

    all_written : (granted : Granted) (xs : List (ℕ × ForwardAnswer)) (t : Settled) → lines_of (get_arrival q granted xs ∷ arrivals_behind q granted xs t) ≡ lines_in q.requester q.block xs
    all_written granted xs t =
        let as_lines : Arrival → List ℕ = λ a. line_if names a.entry in
        let fs : List Arrival = forward_arrivals q xs in
        let bs : List Arrival = answer_arrivals q xs t in
        flat_map-append as_lines (fs ++ bs) (end_arrivals (end_of q t)) ∙ ap (λ (l : List ℕ). lines_of (fs ++ bs) ++ l) (ends_written (end_of q t)) ∙ append-nil (lines_of (fs ++ bs))
        ∙ flat_map-append as_lines fs bs ∙ ap (λ (l : List ℕ). lines_of fs ++ l) (answers_written xs t) ∙ append-nil (lines_of fs) ∙ forwards_written xs

  module _ (g : Geometry) (v w : State) (s : Service) (xs : List (ℕ × ForwardAnswer)) (is : IsServed g v s xs w) where
    -- what is written of a request that is served is the trace of its turns
    served_text : (x y : Lines) → x.entries ≡ names → x.text ≡ [] → HearsReplies AddsLine s.requester s.block x xs y → y.text ≡ trace_of names (at g v w s xs is)
    served_text x y of_names empty heard =
        let none : length x.text ≡ 0 = ap (λ (l : List ℕ). length l) empty in
        let room : length x.text + 240 * length xs ≤ 1920 = omega (arith, none, is.harts) in
        heard_replies s.requester s.block xs x y of_names heard room ∙ ap (λ (l : List ℕ). l ++ lines_in s.requester s.block xs) empty
        ∙ (λ k. lines_in (is.requester k) (is.block k) xs) ∙ sym (traced g v (every g v w s xs is) w (gone g v w s xs is) ∙ all_written is.request is.granted xs is.settled)

    -- the turns of a request that is served, and their lines, where nothing was written before
    pub served_added : (x y : Lines) (after : ℕ) → x.entries ≡ names → x.text ≡ [] → HearsReplies AddsLine s.requester s.block x xs y → AddsTurns g v after (2 + 2 * s.answers + s.ended) w after x y
    served_added x y after of_names empty heard = record {
      moments = at g v w s xs is;
      took = served_took g v w s xs is after;
      turns = served_many g v w s xs is;
      names = replies_names s.requester s.block xs x y heard;
      text =
          served_text x y of_names empty heard ∙ ap (λ (t : Table). trace_of t (at g v w s xs is)) (sym of_names)
          ∙ ap (λ (l : List ℕ). l ++ trace_of x.entries (at g v w s xs is)) (sym empty);
    }
