use Rattle.hand_rank.proofs.Ranked.{room_for_copies, coming_yes, coming_no, coming_all}
use Rattle.hand_rank.proofs.five.push_ranks_coming.Goals as goal
use Rattle.hand_rank.proofs.five.push_ranks_coming.Goals.{then-counts-rank, else-counts-rank}

pub push_copies-requires : goal.push_copies-requires
push_copies-requires c = room_for_copies c.args.ranks.now.items c.loop-rank.ranks.items c.args.counts.now c.args.size c.loop-rank.rank-index c.loop-rank.invariant c.loop-rank-test.true c.if-counts-rank.true c.requires

pub loop-rank-preserved : goal.loop-rank-preserved
loop-rank-preserved c =
    elim c.if-counts-rank.branch [
      | then-counts-rank w ↦
          let step = coming_yes c.args.ranks.now.items c.loop-rank.ranks.items c.args.counts.now c.args.size c.loop-rank.rank-index c.loop-rank.invariant c.loop-rank-test.true w.if-counts-rank.true in cc
      | else-counts-rank w ↦
          let step = coming_no c.args.ranks.now.items c.loop-rank.ranks.items c.args.counts.now c.args.size c.loop-rank.rank-index c.loop-rank.invariant c.loop-rank-test.true w.if-counts-rank.false in cc
    ]

pub returns : goal.returns
returns c = coming_all c.args.ranks.now.items c.loop-rank.ranks.items c.args.counts.now c.args.size c.loop-rank.rank-index c.loop-rank.invariant c.loop-rank-test.false
