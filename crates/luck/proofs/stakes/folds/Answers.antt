use Rattle.std.proofs.Common.{◌≡◌, ◌<◌, ◌∙◌, length, arith}
use Rattle.betting.specs.Betting.{history}
use Rattle.betting.specs.Turns.{folded}
use Rattle.match_log.specs.Payoffs.{folds_of}
use Rattle.match_log.proofs.ByPosition.{whole_range}
use Rattle.luck.proofs.stakes.folds.Goals as goal
use Rattle.side_pots.proofs.OddChips.{push_range, room_in_range}

pub push-requires : goal.push-requires
push-requires c =
    let room : length c.loop-position.folds.items < c.players-position-end.result =
    room_in_range (folded (history c.args.play.now)) c.loop-position.folds.items c.loop-position.position c.players-position-end.result c.loop-position.invariant (omega arith) in
    omega (arith, room, c.players-position-end.ensures.most)

pub loop-position-preserved : goal.loop-position-preserved
loop-position-preserved c =
    c.push.ensures.items ∙ push_range (folded (history c.args.play.now)) c.loop-position.folds.items c.loop-position.position _ c.loop-position.invariant c.folded.ensures

pub returns : goal.returns
unfolding folds_of
returns c =
    let all : c.loop-position.position ≡ c.args.play.now.game.players = omega (arith, c.players-position-end.ensures.value) in
    whole_range (folded (history c.args.play.now)) c.loop-position.folds.items c.loop-position.position c.args.play.now.game.players c.loop-position.invariant all
