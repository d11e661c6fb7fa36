use Rattle.std.proofs.Common.{arith, rules}
use Rattle.matchstate.proofs.line.numbers_of.Goals as goal

pub returns-in_err-position-clause-only : goal.returns-in_err-position-clause-only
returns-in_err-position-clause-only c =
    λ position hand numbers.
    let below = numbers.position_below in
    let value = c.players-players.ensures.value in
    let most = c.players-players.ensures.most in
    let got = c.read_number.ensures.only position (omega arith) numbers.position_text in
    let was = c.in_err-position.was in
    cc

pub returns-then-hand-lt-HANDS-clause-found : goal.returns-then-hand-lt-HANDS-clause-found
returns-then-hand-lt-HANDS-clause-found c = search rules
