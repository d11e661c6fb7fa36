use Rattle.std.proofs.Common.{◌∙◌}
use Rattle.node_service.specs.Serving.{served_of}
use Rattle.node_runs.proofs.OneLog.{well_begun, as_started, writes_its_log, writes_accepted}
use Rattle.node_runs.proofs.Runs.{ran}
use Rattle.node_runs.proofs.running.node_run.Goals as goal

pub returns-clause-ran : goal.returns-clause-ran
returns-clause-ran g c =
    ran g.L.LifeKeeper.kept c.args.port c.new-teller.result.port c.take_turns-answer.new.teller.port c.args.server.now c.start-first.new.self c.take_turns-answer.new.server c.start-first.result c.take_turns-answer.result _
    (g.N.Write.contents c.tell_begin.new.notes) (g.N.Write.contents c.take_turns-answer.new.notes) _ c.args.lives.now c.take_turns-answer.new.lives c.take_turns-answer.new.teller.waiting
    (record { goes = c.start-first.ensures.goes; left = record { log = c.start-first.ensures.log; up = c.start-first.ensures.runs } })
    (λ going. record { known = c.start-first.ensures.known going; fault = c.start-first.ensures.fault going; further = c.start-first.ensures.further }) c.start-first.ensures.ended (rw c.station.ensures at c.tell_begin.ensures) c.new-teller.ensures.port c.take_turns-answer.ensures.port
    c.take_turns-answer.ensures.went c.take_turns-answer.ensures.whole (rw c.station-2.ensures at c.tell_rest.ensures)

pub returns-clause-whole : goal.returns-clause-whole
returns-clause-whole g c = c.take_turns-answer.ensures.whole _ c.start-first.ensures.goes.0

pub returns-clause-one_log : goal.returns-clause-one_log
returns-clause-one_log g c = λ fresh honest before left.
    let went = c.take_turns-answer.ensures.went in
    writes_its_log g.D.Disk (served_of c.args.server.now) (served_of c.start-first.new.self) (served_of c.take_turns-answer.new.server) c.start-first.result (c.take_turns-answer.ensures.whole _ c.start-first.ensures.goes.0)
    c.take_turns-answer.ensures.whole c.limits.ensures (c.start-first.ensures.begun fresh) (λ ill. went.served ∙ as_started c.start-first.new.self c.start-first.result went.outcome went.count went.moments went.waiting went.last went.turns ill) fresh honest
    before left

pub returns-clause-accepted : goal.returns-clause-accepted
returns-clause-accepted g c = λ fresh honest before left.
    let went = c.take_turns-answer.ensures.went in
    writes_accepted g.D.Disk (served_of c.args.server.now) (served_of c.start-first.new.self) (served_of c.take_turns-answer.new.server) c.start-first.result c.take_turns-answer.result
    (c.take_turns-answer.ensures.whole _ c.start-first.ensures.goes.0) c.take_turns-answer.ensures.whole c.read_deals.ensures (c.start-first.ensures.begun fresh)
    (well_begun c.start-first.new.self c.start-first.result went.outcome went.count went.moments went.waiting went.told went.last c.take_turns-answer.result went.turns went.ends) c.take_turns-answer.ensures.log c.take_turns-answer.ensures.over fresh honest before left
