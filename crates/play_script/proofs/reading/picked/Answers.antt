use Rattle.play_script.specs.Orders.{IsNumber}
use Rattle.play_script.proofs.Numbers.{number_free}
use Rattle.play_script.proofs.Pairs.{says_cut}
use Rattle.play_script.proofs.reading.picked.Goals as goal

pub returns-in_err-front : goal.returns-in_err-front
returns-in_err-front c = rw c.from_residual.ensures (λ pair says. c.in_err-front.ensures.only says.0 says.1 (number_free says.0 pair.0 says.3.0) says.2)

pub returns-in_err-node : goal.returns-in_err-node
returns-in_err-node c =
    rw c.from_residual-in_err-node.ensures (λ pair says. c.in_err-node.ensures pair.0 (says_cut c.args.bounds.nodes IsNumber pair.0 pair.1 c.in_ok-front.ensures.only says).0)

pub returns-in_err-pick : goal.returns-in_err-pick
returns-in_err-pick c =
    rw c.from_residual-in_err-pick.ensures (λ pair says. c.in_err-pick.ensures pair.1 (says_cut c.args.bounds.nodes IsNumber pair.0 pair.1 c.in_ok-front.ensures.only says).1)
