use Rattle.std.proofs.Common.{false}
use Rattle.dealer_node.specs.Seeing.{table_in}
use Rattle.stations.specs.Looking.{look_of}
use Rattle.node_service.proofs.Apartness.{put_off_on}
use Rattle.node_service.proofs.Bots.{keep_here}
use Rattle.node_service.proofs.Seated.{sat_on}
use Rattle.node_service.proofs.seat_lines.tell_lines.Goals as goal

pub returns-clause-bots : goal.returns-clause-bots
returns-clause-bots g c = keep_here c.begin.ensures.bots (keep_here c.tell.ensures.bots c.end.ensures.bots)

pub returns-clause-said : goal.returns-clause-said
returns-clause-said g c = λ passed are. c.end.ensures.said passed (c.tell.ensures.said passed (c.begin.ensures.said passed are))

pub returns-clause-served : goal.returns-clause-served
returns-clause-served g c = λ done within ready.
    let table = table_in (look_of c.args.member.now.station).node in
    let here = c.begin.ensures.within c.if-not-begin.false in (
      c.end.ensures.begun table (c.tell.ensures.begun table (c.begin.ensures.begun c.if-not-begin.false)),
      c.end.ensures.told table (c.tell.ensures.told c.if-not-tell.false here),
      c.end.ensures.over done here,
    )

pub returns-then-not-tell-clause-said : goal.returns-then-not-tell-clause-said
returns-then-not-tell-clause-said g c = λ passed are. c.tell.ensures.said passed (c.begin.ensures.said passed are)

pub returns-then-not-tell-clause-bots : goal.returns-then-not-tell-clause-bots
returns-then-not-tell-clause-bots g c = keep_here c.begin.ensures.bots c.tell.ensures.bots

pub returns-clause-waits : goal.returns-clause-waits
returns-clause-waits g c = put_off_on false _ _ _ c.begin.ensures.waits (put_off_on false _ _ _ c.tell.ensures.waits c.end.ensures.waits)

pub returns-then-not-tell-clause-waits : goal.returns-then-not-tell-clause-waits
returns-then-not-tell-clause-waits g c = put_off_on false _ _ _ c.begin.ensures.waits c.tell.ensures.waits

pub returns-clause-sat : goal.returns-clause-sat
returns-clause-sat g c = sat_on _ _ _ c.begin.ensures.sat (sat_on _ _ _ c.tell.ensures.sat c.end.ensures.sat)

pub returns-then-not-tell-clause-sat : goal.returns-then-not-tell-clause-sat
returns-then-not-tell-clause-sat g c = sat_on _ _ _ c.begin.ensures.sat c.tell.ensures.sat
