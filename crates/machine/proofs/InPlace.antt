-- The value in place is looked for in order.
use Rattle.std.proofs.Common.{◌≡◌, ℕ, List, Option, Some, None, length, unwrap_or, sym, subst, ◌∙◌}
use Rattle.std.specs.Option.{option_or, option_and_then}
use Rattle.network.specs.declared.net.Flight.{Flight}
use Rattle.protocol.specs.Messages.{Block}
use Rattle.protocol.specs.Lines.{owned_content}
use Rattle.protocol.specs.Hart.{put_content}
use Rattle.protocol.specs.Network.{LiesBelow}
use Rattle.protocol.specs.Values.{first_below, ack_content, kept_content, done_content, owner_of, in_place}
use Rattle.directory.specs.Blocks.{Blocks}
use Rattle.machine.specs.Mail.{in_flight}
use Rattle.machine.specs.States.{Seat, State, shown, hart_at, words_of}

-- what is said of a machine with these parts is said of each that has them
pub of_parts : (sets b : ℕ) (seats : List Seat) (directory : Blocks) (flights : List Flight) (x : Block)
    → ((m : State) (keys : ℕ) → LiesBelow keys (in_flight flights) → x ≡ in_place keys (shown sets (record m { seats = seats; directory = directory; flights = flights })) b)
    → (m : State) (keys : ℕ) → m.seats ≡ seats → m.directory ≡ directory → m.flights ≡ flights → LiesBelow keys (in_flight m.flights) → x ≡ in_place keys (shown sets m) b
of_parts sets b seats directory flights x says m keys s d f below =
    says m keys (subst (λ z. LiesBelow keys (in_flight z)) f below)
    ∙ (λ k. in_place keys (shown sets (record m { seats = sym s k; directory = sym d k; flights = sym f k })) b)

module _ (sets b : ℕ) (m : State) (keys : ℕ) (o : Option ℕ) (is : o ≡ owner_of keys (shown sets m) b) where
  abbrev pub line : Option Block
  line = option_and_then (λ i. owned_content ((hart_at sets m.seats i).lines b)) o

  abbrev pub acked : Option Block
  acked = first_below keys (λ key. option_and_then (ack_content b) (in_flight m.flights key))

  abbrev pub kept : Option Block
  kept = first_below (length m.seats) (λ i. kept_content b (hart_at sets m.seats i).request)

  abbrev pub done : Option Block
  done = first_below keys (λ key. option_and_then (done_content b) (in_flight m.flights key))

  abbrev pub put : Option Block
  put = option_and_then (λ i. put_content b (hart_at sets m.seats i).put) o

  abbrev pub memory : Block
  memory = words_of m.directory.memory b

  whole : unwrap_or (option_or line (option_or acked (option_or kept (option_or done put)))) memory ≡ in_place keys (shown sets m) b
  whole = λ k.
      unwrap_or (option_or (option_and_then (λ i. owned_content ((hart_at sets m.seats i).lines b)) (is k))
      (option_or acked (option_or kept (option_or done (option_and_then (λ i. put_content b (hart_at sets m.seats i).put) (is k)))))) memory

  pub at_line : (x : Block) → Some x ≡ line → x ≡ in_place keys (shown sets m) b
  at_line x e = (λ k. unwrap_or (option_or (e k) (option_or acked (option_or kept (option_or done put)))) memory) ∙ whole

  pub at_ack : (x : Block) → None ≡ line → Some x ≡ acked → x ≡ in_place keys (shown sets m) b
  at_ack x a e = (λ k. unwrap_or (option_or (a k) (option_or (e k) (option_or kept (option_or done put)))) memory) ∙ whole

  pub at_request : (x : Block) → None ≡ line → None ≡ acked → Some x ≡ kept → x ≡ in_place keys (shown sets m) b
  at_request x a c e = (λ k. unwrap_or (option_or (a k) (option_or (c k) (option_or (e k) (option_or done put)))) memory) ∙ whole

  pub at_done : (x : Block) → None ≡ line → None ≡ acked → None ≡ kept → Some x ≡ done → x ≡ in_place keys (shown sets m) b
  at_done x a c d e = (λ k. unwrap_or (option_or (a k) (option_or (c k) (option_or (d k) (option_or (e k) put)))) memory) ∙ whole

  pub at_put : (x : Block) → None ≡ line → None ≡ acked → None ≡ kept → None ≡ done → Some x ≡ put → x ≡ in_place keys (shown sets m) b
  at_put x a c d f e = (λ k. unwrap_or (option_or (a k) (option_or (c k) (option_or (d k) (option_or (f k) (e k))))) memory) ∙ whole

  pub at_memory : (x : Block) → None ≡ line → None ≡ acked → None ≡ kept → None ≡ done → None ≡ put → x ≡ memory → x ≡ in_place keys (shown sets m) b
  at_memory x a c d f g e = e ∙ (λ k. unwrap_or (option_or (a k) (option_or (c k) (option_or (d k) (option_or (f k) (g k))))) memory) ∙ whole
