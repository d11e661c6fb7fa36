use Rattle.std.proofs.Common.{ℕ, List, ◌∷◌, ◌++◌, sym, subst}
use Rattle.play_script.specs.Orders.{Names}
use Rattle.play_script.proofs.Numbers.{number_free}
use Rattle.play_script.proofs.reading.addressed.Goals as goal

pub returns-in_err-front : goal.returns-in_err-front
returns-in_err-front c = rw c.from_residual.ensures (λ all says. c.in_err-front.ensures.only says.0 (says.1 ++ 32 ∷ all.2) (number_free says.0 all.0 says.3.0) says.2)

pub returns-in_err-middle : goal.returns-in_err-middle
returns-in_err-middle c =
    rw c.from_residual-in_err-middle.ensures (
    λ all says.
    let cut = c.in_ok-front.ensures.only says.0 (says.1 ++ 32 ∷ all.2) (number_free says.0 all.0 says.3.0) says.2 in
    c.in_err-middle.ensures.only says.1 all.2 (number_free says.1 all.1 says.4.0) cut.1
    )

pub returns-in_err-node : goal.returns-in_err-node
returns-in_err-node c =
    rw c.from_residual-in_err-node.ensures (
    λ all says.
    let cut = c.in_ok-front.ensures.only says.0 (says.1 ++ 32 ∷ all.2) (number_free says.0 all.0 says.3.0) says.2 in
    c.in_err-node.ensures all.0 (subst (λ (t : List ℕ). Names c.args.bounds.nodes t all.0) (sym cut.0) says.3)
    )

pub returns-in_err-seat : goal.returns-in_err-seat
returns-in_err-seat c =
    rw c.from_residual-in_err-seat.ensures (
    λ all says.
    let cut = c.in_ok-front.ensures.only says.0 (says.1 ++ 32 ∷ all.2) (number_free says.0 all.0 says.3.0) says.2 in
    let next = c.in_ok-middle.ensures.only says.1 all.2 (number_free says.1 all.1 says.4.0) cut.1 in
    c.in_err-seat.ensures all.1 (subst (λ (t : List ℕ). Names c.args.bounds.seats t all.1) (sym next.0) says.4)
    )
