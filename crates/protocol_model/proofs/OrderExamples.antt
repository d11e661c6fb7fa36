-- A run in which it is ordered that the player to act is played for, and what is no such order.
use Rattle.std.proofs.Common.{◌≡◌, ℕ, ◌≤◌, inl, inr, Bool, true, false, true≢false, None, List, [], ◌∷◌, ◌++◌, length, refl, ap, sym, ◌∙◌, arith}
use Rattle.slot_log.specs.declared.command.Command.{Command}
use Rattle.protocol_model.specs.Sets.{In}
use Rattle.protocol_model.specs.Messages.{Message, Said}
use Rattle.protocol_model.specs.Stores.{empty_store}
use Rattle.protocol_model.specs.Dealers.{Dealer}
use Rattle.protocol_model.specs.Nodes.{Node}
use Rattle.protocol_model.specs.Arrivals.{Event, Arrival, Started, Connected, Dropped, Closed, Came, Ordered, heard_in}
use Rattle.protocol_model.specs.Moves
use Rattle.protocol_model.specs.Moves.{Output, taking, with_sent, Move}
use Rattle.protocol_model.specs.Worlds
use Rattle.protocol_model.specs.Worlds.{World, Reached, new_world}
use Rattle.protocol_model.specs.Laws.{HasOrigin, WasOrdered}
use Rattle.protocol_model.proofs.Runs.{after_move, is_after_move}
use Rattle.protocol_model.proofs.Examples.{fresh}
use Rattle.protocol_model.proofs.ActExample.{talk}
use Rattle.protocol_model.proofs.ArrivalExamples.{at, two_pieces}

abbrev is_none_yet : List Command → Bool
is_none_yet [] = true
is_none_yet (command ∷ before) = false

-- by an order this dealer means any command, while none is chosen
abbrev orderly : Dealer
orderly = record {
  fits = λ before command. true;
  own = λ node command. false;
  line = λ before seat. None;
  log = λ before. [];
  says = λ before seat line command. false;
  orders = λ before command. is_none_yet before;
}

step : (world : World) (out : Output) (node : Node) → Reached orderly 1 world → Move orderly 1 0 world.ever (world.nodes 0) out node
    → Reached orderly 1 (after_move world 0 out node)
step world out node run move = Worlds.more world 0 out node (after_move world 0 out node) run (omega arith) move (is_after_move world 0 out node)

-- the only node starts, and gets an order
abbrev started : World
started = after_move new_world 0 (taking [] (Started 0)) (fresh empty_store 1)

abbrev outcome : Command → Output
outcome command = record { sent = Said 0 command ∷ []; shown = []; came = at 0 (Ordered 0 0) ∷ [] }

abbrev ordered : Command → World
ordered command = after_move started 0 (outcome command) (with_sent (started.nodes 0) (Said 0 command ∷ []))

pub away_is_ordered : (command : Command) → Reached orderly 1 (ordered command) × HasOrigin orderly 1 (ordered command).ever (ordered command).came command
away_is_ordered command =
    let run : Reached orderly 1 started = step new_world (taking [] (Started 0)) (fresh empty_store 1) Worlds.start (Moves.starts empty_store refl (inl refl) refl refl) in
    let note : Move orderly 1 0 started.ever (started.nodes 0) (outcome command) (with_sent (started.nodes 0) (Said 0 command ∷ []))
    = Moves.ordered [] command refl tt (λ other none. none) refl refl refl in (
      step started _ _ run note,
      inr (inr (let order : WasOrdered orderly 1 (ordered command).ever (ordered command).came command = record {
        sent = [];
        earlier = (ordered command).came;
        moment = record {
          sent_later = (ordered command).ever;
          all_sent = refl;
          came_later = [];
          all_came = refl;
          no_sooner = λ arrival here. at_once arrival here;
          no_later = λ arrival here. absurd here;
        };
        node = 0;
        is_node = omega arith;
        before = [];
        older = started.came;
        newest = refl;
        chosen = tt;
        orders = refl;
      } in order)),
    )
  where
    -- all that came came before anything was sent
    at_once : (arrival : Arrival) → In arrival (ordered command).came → arrival.sent ≤ 0
    at_once arrival (inl e) = omega (arith, ap (λ (a : Arrival). a.sent) e)
    at_once arrival (inr (inl e)) = omega (arith, ap (λ (a : Arrival). a.sent) e)
    at_once arrival (inr (inr none)) = absurd none

-- no bytes of a seat change by it
heard_on : heard_in (at 7 (Ordered 0 2) ∷ two_pieces) 0 1 ≡ heard_in two_pieces 0 1
heard_on = refl

-- ---- what is no order of the command

-- one by which the dealer means nothing
meaningless : (ever : List Message) (came : List Arrival) (command : Command) → WasOrdered talk 1 ever came command → ⊥
meaningless ever came command order = absurd (true≢false (sym order.orders))

-- of one arrival, and any before it, the newest is the first or there is none
newest_of : (one two : Arrival) (later earlier older : List Arrival) → one ∷ [] ≡ later ++ earlier → earlier ≡ two ∷ older → one ≡ two
newest_of one two [] earlier older e newest = let whole : one ∷ [] ≡ two ∷ older = e ∙ newest in cc
newest_of one two (arrival ∷ []) earlier older e newest = let none : [] ≡ two ∷ older = (let rest : [] ≡ earlier = cc in rest ∙ newest) in absurd cc
newest_of one two (arrival ∷ next ∷ later) earlier older e newest = absurd cc

-- before how many commands an event orders something; 9 where it orders nothing
abbrev front_of : Event → ℕ
front_of (Started node) = 9
front_of (Connected node seat) = 9
front_of (Dropped node seat) = 9
front_of (Closed node seat) = 9
front_of (Came node seat bytes) = 9
front_of (Ordered node front) = front

-- after no commands alone this dealer means something
none_before : (before : List Command) → is_none_yet before ≡ true → length before ≡ 0
none_before [] e = refl
none_before (command ∷ before) e = absurd (true≢false (sym e))

of_one_arrival : (event : Event) (ever : List Message) (command : Command) → WasOrdered orderly 1 ever (at 0 event ∷ []) command → front_of event ≡ 0
of_one_arrival event ever command order =
    let is = newest_of (at 0 event) (at (length order.sent) (Ordered order.node (length order.before))) order.moment.came_later order.earlier order.older order.moment.all_came order.newest in
    ap (λ (a : Arrival). front_of a.event) is ∙ none_before order.before order.orders

-- a start
start_is_no_order : (ever : List Message) (command : Command) → WasOrdered orderly 1 ever (at 0 (Started 0) ∷ []) command → ⊥
start_is_no_order ever command order = omega (arith, of_one_arrival (Started 0) ever command order)

-- one that came when a command was known, of a command that is meant before any is
other_order : (ever : List Message) (command : Command) → WasOrdered orderly 1 ever (at 0 (Ordered 0 1) ∷ []) command → ⊥
other_order ever command order = omega (arith, of_one_arrival (Ordered 0 1) ever command order)
