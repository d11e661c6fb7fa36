use Rattle.std.proofs.Common.{◌≡◌, true, get_or}
use Rattle.node_seats.specs.Guesting.{no_digest}
use Rattle.node_seats.proofs.guest.hear.Goals as goal

pub returns-clause-found : goal.returns-clause-found
returns-clause-found g c = λ shows.
    let e : c.is_whole.result ≡ true = c.is_whole.ensures.shown (get_or c.args.tokens.now c.read_line-goes_on.new.guest.seat no_digest).bytes shows.shown in
    absurd (cc (e, c.if-is_whole.false))
