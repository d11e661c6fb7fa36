-- How a run of a node's process ends, and what is no turn of it, on values.
use Rattle.std.proofs.Common.{◌≡◌, ◌+◌, ◌≤◌, List, [], ◌∷◌, ◌++◌, Some, Ok, Err, length, append-nil, refl, ap, sym, subst, ◌∙◌, arith}
use Rattle.std.specs.Prelude.{Result}
use Rattle.node_wires.specs.Passages.{Passage, Came}
use Rattle.node_wires.specs.declared.line.Line.TheVariants.{Seat}
use Rattle.node_service.specs.Arriving.{Incoming, OfSeat, seats_of}
use Rattle.node_service.specs.Turns.{IsTurn, begins_at, pieces_of, things_at}
use Rattle.node_service.proofs.Showing.{seats_of_more}
use Rattle.node_service.specs.declared.outcome.Outcome.TheVariants as outcome
use Rattle.node_service.specs.declared.server_notice.ServerNotice.TheVariants as told
use Rattle.node_runs.specs.Running.{EndsBy, by_turn, end_of}
use Rattle.node_runs.specs.declared.node_end.NodeEnd.{NodeEnd}
use Rattle.node_runs.specs.declared.node_end.NodeEnd.TheVariants as end

-- the match is over: all was told
over : EndsBy outcome.Over 9 (told.Gone 1 ∷ []) (told.Gone 1 ∷ []) (Ok tt)
over = by_turn (told.Gone 1 ∷ []) (Ok tt) refl

-- of a node that lost its store it is no good end
lost_store : EndsBy outcome.StoreReplaced 0 [] [] (Err end.StoreReplaced)
lost_store = by_turn [] (Err end.StoreReplaced) refl

-- nor is it of one whose store is an older copy
older_store : EndsBy outcome.StoreOlder 0 [] [] (Err end.StoreOlder)
older_store = by_turn [] (Err end.StoreOlder) refl

-- a turn after which a further one comes is no end
going_on : (answer : Result (Unit {0}) NodeEnd) → end_of outcome.GoesOn ≡ Some answer → ⊥
going_on answer is = cc

-- ---- one turn

-- a bot sent a byte at seat 0
abbrev piece : Incoming
piece = OfSeat (Came (Seat 0) (7 ∷ []))

-- what a turn takes of seats it takes in its middle
of_seats : (things : List Incoming) (turn : IsTurn things) → seats_of things ≡ seats_of turn.first.last
of_seats things turn =
    ap seats_of turn.all ∙ (seats_of_more turn.early turn.late ∙ (ap (λ (m : List Passage). seats_of turn.early ++ m) turn.then_on.frames.seats ∙ (append-nil (seats_of turn.early)
    ∙ (ap seats_of turn.first.all ∙ (seats_of_more turn.first.first turn.first.last ∙ ap (λ (m : List Passage). m ++ seats_of turn.first.last) turn.first.peers.peers.seats)))))

-- two turns in each of which it was read are no one turn
two_turns : IsTurn (piece ∷ piece ∷ []) → ⊥
two_turns turn =
    let one : things_at 0 turn.first.last ≤ 1 = turn.first.seats.one 0 (omega arith) in
    let two : 2 ≤ 1 = subst (λ (m : List Passage). begins_at 0 m + length (pieces_of 0 m) ≤ 1) (sym (of_seats (piece ∷ piece ∷ []) turn)) one in
    omega (arith, two)
