use Rattle.play_script.specs.Orders.{Names}
use Rattle.play_script.proofs.Numbers.{number_free}
use Rattle.play_script.proofs.Pairs.{says_cut}
use Rattle.play_script.proofs.reading.seat_of.Goals as goal

pub returns-in_err-front : goal.returns-in_err-front
returns-in_err-front c = rw c.from_residual.ensures (λ pair says. c.in_err-front.ensures.only says.0 says.1 (number_free says.0 pair.0 says.3.0) says.2)

pub returns-in_err-node : goal.returns-in_err-node
returns-in_err-node c =
    rw c.from_residual-in_err-node.ensures (λ pair says. c.in_err-node.ensures pair.0 (says_cut c.args.bounds.nodes (Names c.args.bounds.seats) pair.0 pair.1 c.in_ok-front.ensures.only says).0)

pub returns-in_err-seat : goal.returns-in_err-seat
returns-in_err-seat c =
    rw c.from_residual-in_err-seat.ensures (λ pair says. c.in_err-seat.ensures pair.1 (says_cut c.args.bounds.nodes (Names c.args.bounds.seats) pair.0 pair.1 c.in_ok-front.ensures.only says).1)
