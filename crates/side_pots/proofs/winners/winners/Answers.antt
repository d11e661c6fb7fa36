use Rattle.std.proofs.Common.{lit<, ◌∙◌, ◌<◌, arith}
use Rattle.side_pots.specs.Pots.{is_eligible, is_winner}
use Rattle.side_pots.proofs.OddChips.{push_range, room_in_range}
use Rattle.side_pots.proofs.winners.winners.Goals as goal

pub push-requires : goal.push-requires
push-requires c =
    (lit< tt, room_in_range (is_winner c.args.values.now (is_eligible c.args.spent.now c.args.folded.now c.args.level)) c.loop-position.winners.items c.loop-position.position 10 c.loop-position.invariant (let below : c.loop-position.position < 10 = omega (arith, c.requires.players, c.loop-position-test.true) in below))

pub loop-position-preserved : goal.loop-position-preserved
loop-position-preserved c =
    c.push.ensures.items ∙ push_range (is_winner c.args.values.now (is_eligible c.args.spent.now c.args.folded.now c.args.level)) c.loop-position.winners.items c.loop-position.position c.is_winner.result c.loop-position.invariant c.is_winner.ensures
