use Rattle.node_wires.specs.Passages.{logged_in}
use Rattle.node_service.proofs.Crossing.{lines_logged}
use Rattle.node_service.proofs.Showing.{gains_it, when_logged, seats_when_logged}
use Rattle.node_service.proofs.desk.log.Goals as goal

pub returns-in-Ok-clause-log : goal.returns-in-Ok-clause-log
returns-in-Ok-clause-log g c =
    gains_it c.args.log_failed.now c.args.text.now (logged_in (g.W.Wire.passed c.args.wire.now)) _ c.if-log_failed.false
    (when_logged (g.W.Wire.passed c.args.wire.now) _ c.args.text.now c.in-Ok.ensures.logged)

pub returns-in-Ok-clause-seats : goal.returns-in-Ok-clause-seats
returns-in-Ok-clause-seats g c = seats_when_logged (g.W.Wire.passed c.args.wire.now) _ c.args.text.now c.in-Ok.ensures.logged

pub returns-in-Ok-clause-lines : goal.returns-in-Ok-clause-lines
returns-in-Ok-clause-lines g c = lines_logged (g.W.Wire.passed c.args.wire.now) _ c.args.text.now c.in-Ok.ensures.logged
