use Rattle.node_seats.proofs.Telling.{said_leaving}
use Rattle.node_seats.proofs.seats.Seats.hang_up.Goals as goal

pub returns-clause-said : goal.returns-clause-said
returns-clause-said g c =
    said_leaving c.let_go.result (g.W.Wire.passed c.args.wire.now) (g.W.Wire.passed c.let_go.new.wire) c.args.self.now.seats.items c.let_go.new.self.seats.items c.let_go.ensures.nothing c.let_go.ensures.rests
    c.let_go.ensures.waits c.let_go.ensures.sits
