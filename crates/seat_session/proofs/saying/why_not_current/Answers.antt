use Rattle.std.proofs.Common.{subst}
use Rattle.matchstate.specs.Answer.{IsAnswer}
use Rattle.seat_session.proofs.saying.why_not_current.Goals as goal

pub returns-in-None : goal.returns-in-None
returns-in-None c =
    let some = c.in-None.ensures in
    let is = subst (λ game. IsAnswer game c.args.text.now some.0 some.1) c.game.ensures some.2 in
    (some.0, some.1, is, λ seen. c.requires some.0 some.1 seen is)
