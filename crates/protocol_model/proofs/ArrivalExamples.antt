-- What came, what of it is heard, and when a command was said.
use Rattle.std.proofs.Common.{◌≡◌, ℕ, ◌≤◌, inl, inr, None, Some, Option, List, [], ◌∷◌, ◌++◌, refl, ap, sym, ◌∙◌, arith}
use Rattle.slot_log.specs.declared.command.Command.{Command}
use Rattle.protocol_model.specs.Sets.{In}
use Rattle.protocol_model.specs.Messages.{Message, Ask}
use Rattle.protocol_model.specs.Arrivals.{Event, Arrival, Started, Connected, Dropped, Closed, Came, heard_in, AreInOrder, started_below}
use Rattle.protocol_model.specs.Dealers.{Dealer}
use Rattle.protocol_model.specs.Laws.{IsMoment, WasSaid, WasOrdered, HasOrigin, IsStarted}
use Rattle.protocol_model.specs.Nodes.{Node}
use Rattle.protocol_model.proofs.ActExample.{talk}

-- when nothing had been sent
abbrev pub at : ℕ → Event → Arrival
at sent event = record { event = event; sent = sent }

-- `a`, then `b`: the bytes of the seat at the node, oldest first
abbrev pub two_pieces : List Arrival
two_pieces = at 5 (Came 0 1 (98 ∷ [])) ∷ at 3 (Came 0 1 (97 ∷ [])) ∷ at 3 (Connected 0 1) ∷ at 0 (Started 0) ∷ []

both_pieces : heard_in two_pieces 0 1 ≡ Some (97 ∷ 98 ∷ [])
both_pieces = refl

not_of_another_seat : heard_in two_pieces 0 2 ≡ None
not_of_another_seat = refl

not_at_another_node : heard_in two_pieces 1 1 ≡ None
not_at_another_node = refl

-- connecting again forgets what came before
again : heard_in (at 7 (Came 0 1 (99 ∷ [])) ∷ at 6 (Connected 0 1) ∷ two_pieces) 0 1 ≡ Some (99 ∷ [])
again = refl

-- a seat that was dropped, that the node closed, or whose node started again isn't heard until it connects
dropped : heard_in (at 7 (Came 0 1 (99 ∷ [])) ∷ at 6 (Dropped 0 1) ∷ two_pieces) 0 1 ≡ None
dropped = refl

closed : heard_in (at 7 (Came 0 1 (99 ∷ [])) ∷ at 6 (Closed 0 1) ∷ two_pieces) 0 1 ≡ None
closed = refl

restarted : heard_in (at 7 (Came 0 1 (99 ∷ [])) ∷ at 6 (Started 0) ∷ two_pieces) 0 1 ≡ None
restarted = refl

-- a start of another node changes nothing
not_restarted : heard_in (at 6 (Started 1) ∷ two_pieces) 0 1 ≡ Some (97 ∷ 98 ∷ [])
not_restarted = refl

in_order : AreInOrder two_pieces 5
in_order = (omega arith, (omega arith, (omega arith, (omega arith, tt))))

-- no arrival tells of more than had been sent, nor of less than one before it
not_more_than_sent : AreInOrder two_pieces 4 → ⊥
not_more_than_sent order = omega (arith, order.0)

not_going_back : AreInOrder (at 2 (Dropped 0 1) ∷ two_pieces) 5 → ⊥
not_going_back order = omega (arith, order.1.0)

opened : started_below 2 9 ≡ at 9 (Started 1) ∷ at 9 (Started 0) ∷ []
opened = refl

-- The first Ask was sent, then the seat connected, then the second Ask was sent: a moment between the two Asks is one
-- at which the seat had connected, or one at which it hadn't; before the first Ask it hadn't.
abbrev asks : List Message
asks = Ask 0 1 ∷ Ask 0 0 ∷ []

abbrev connection : Arrival
connection = at 1 (Connected 0 1)

had_connected : IsMoment asks (connection ∷ []) (Ask 0 0 ∷ []) (connection ∷ [])
had_connected = record {
  sent_later = Ask 0 1 ∷ [];
  all_sent = refl;
  came_later = [];
  all_came = refl;
  no_sooner = λ arrival here. elim here [ inl e ↦ omega (arith, ap (λ (a : Arrival). a.sent) e) | inr none ↦ absurd none ];
  no_later = λ arrival here. absurd here;
}

not_too_soon : IsMoment asks (connection ∷ []) [] (connection ∷ []) → ⊥
not_too_soon moment = omega (arith, moment.no_sooner connection (inl refl))

not_too_late : IsMoment asks (connection ∷ []) asks [] → ⊥
not_too_late moment = came moment.came_later moment.all_came moment.no_later
  where
    came : (later : List Arrival) → connection ∷ [] ≡ later ++ [] → ((arrival : Arrival) → In arrival later → 2 ≤ arrival.sent) → ⊥
    came [] e none = cc
    came (arrival ∷ later) e none =
        let first : connection ≡ arrival = cc in omega (arith, ap (λ (a : Arrival). a.sent) first, none arrival (inl refl))

-- where nothing came nothing was said, and a command that nobody owns has no origin
pub nothing_said : (dealer : Dealer) (n : ℕ) (ever : List Message) (command : Command) → WasSaid dealer n ever [] command → ⊥
nothing_said dealer n ever command said = none (none_before said.moment.came_later said.earlier said.moment.all_came)
  where
    none_before : (later earlier : List Arrival) → [] ≡ later ++ earlier → earlier ≡ []
    none_before [] earlier e = sym e
    none_before (arrival ∷ later) earlier e = absurd cc

    not_connected : (bytes : List ℕ) → (let nobody : Option (List ℕ) = None in nobody) ≡ Some bytes → ⊥
    not_connected bytes e = cc

    none : said.earlier ≡ [] → ⊥
    none e = not_connected said.bytes (sym (ap (λ came. heard_in came said.node said.seat) e) ∙ said.connected)

-- nor ordered
pub nothing_ordered : (dealer : Dealer) (n : ℕ) (ever : List Message) (command : Command) → WasOrdered dealer n ever [] command → ⊥
nothing_ordered dealer n ever command order = none order.moment.came_later order.earlier order.moment.all_came order.newest
  where
    none : (later earlier : List Arrival) {one : Arrival} {older : List Arrival} → [] ≡ later ++ earlier → earlier ≡ one ∷ older → ⊥
    none [] earlier e newest = let clash = e ∙ newest in cc
    none (arrival ∷ later) earlier e newest = cc

invented : (ever : List Message) (command : Command) → HasOrigin talk 1 ever [] command → ⊥
invented ever command (inl owned) = cc (owned.2)
invented ever command (inr (inl said)) = nothing_said talk 1 ever command said
invented ever command (inr (inr order)) = nothing_ordered talk 1 ever command order

-- a node that was started again was started once more than before
not_the_same_start : (node new : Node) → IsStarted node node.store new → new.starts ≡ node.starts → ⊥
not_the_same_start node new started same = omega (arith, same, started.starts)
