use Rattle.std.proofs.Common.{List, refl}
use Rattle.node_service.specs.Arriving.{Incoming, peers_of}
use Rattle.node_service.specs.Crossing.{EndsAtLife}
use Rattle.node_service.specs.Desks.{IsKept}
use Rattle.node_service.specs.Turns.{IsTurnOf}
use Rattle.node_service.proofs.Going.{with_so, does_such}
use Rattle.node_service.proofs.Keeping.{goes_kept, as_it_was}
use Rattle.node_service.proofs.Turns.{no_turn_of, turn_of_to_life}
use Rattle.node_service.proofs.server.NodeServer.turn.Goals as goal

pub returns-then-ne-clause-goes : goal.returns-then-ne-clause-goes
returns-then-ne-clause-goes g c =
    let desk = c.args.self.now.desk in
    let kept : IsKept g.W.Wire desk desk = as_it_was g.W.Wire refl in
    (goes_kept g.W.Wire kept).0

pub returns-then-ne-clause-lives : goal.returns-then-ne-clause-lives
returns-then-ne-clause-lives g c =
    let desk = c.args.self.now.desk in
    let kept : IsKept g.W.Wire desk desk = as_it_was g.W.Wire refl in
    let bots = desk.seats.seats.items in
    with_so (IsTurnOf bots) (λ (m : List Incoming). EndsAtLife (peers_of m)) (turn_of_to_life bots) (does_such (IsTurnOf bots) (no_turn_of bots) (goes_kept g.W.Wire kept))

pub returns-then-ne-clause-takes : goal.returns-then-ne-clause-takes
returns-then-ne-clause-takes g c =
    let desk = c.args.self.now.desk in
    let kept : IsKept g.W.Wire desk desk = as_it_was g.W.Wire refl in
    let bots = desk.seats.seats.items in
    does_such (IsTurnOf bots) (no_turn_of bots) (goes_kept g.W.Wire kept)

pub returns-clause-lives : goal.returns-clause-lives
returns-clause-lives g c =
    let bots = c.args.self.now.desk.seats.seats.items in
    with_so (IsTurnOf bots) (λ (m : List Incoming). EndsAtLife (peers_of m)) (turn_of_to_life bots) c.take_turn-is_over.ensures.takes

pub returns-clause-goes : goal.returns-clause-goes
returns-clause-goes g c = c.take_turn-is_over.ensures.takes.0
